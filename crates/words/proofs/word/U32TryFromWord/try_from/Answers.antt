use Rattle.std.proofs.Common.{◌≡◌, ◌+◌, ◌*◌, ◌<◌, Ok, sym, ap, ◌∙◌, arith, lt-ltb}
use Rattle.std.specs.Option.{ok_or}
use Rattle.std.proofs.lemmas.Bool.{cond-true}
use Rattle.words.specs.Words.{number_limit, code, read_word}
use Rattle.words.proofs.Coding.{reads_back}
use Rattle.words.proofs.word.U32TryFromWord.try_from.Goals as goal

pub returns-then-word-lt-NUMBER_LIMIT : goal.returns-then-word-lt-NUMBER_LIMIT
returns-then-word-lt-NUMBER_LIMIT c =
    let w = c.args.word in
    let e : c.from-code.result ≡ code w.kind = c.from-code.ensures in
    let listed : 0 < code w.kind = omega arith in
    let small : w.number < number_limit = c.if-word-lt-NUMBER_LIMIT.true in
    let made = ap (λ k. k * number_limit + w.number) e in
    record {
      value = ap Ok made ∙ sym (ap (λ o. ok_or o (record { word = w })) (cond-true _ _ _ (lt-ltb 0 (code w.kind) listed) ∙ cond-true _ _ _ (lt-ltb w.number number_limit small)));
      reads = λ x h. ap read_word (let s : x ≡ c.from-code.result * number_limit + w.number = cc in s ∙ made) ∙ reads_back w small;
    }
