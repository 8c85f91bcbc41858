use Rattle.std.proofs.Common.{◌≡◌, ◌+◌, List, ◌∷◌, map, length, drop, Err, sym, ap, ◌∙◌, arith}
use Rattle.words.specs.declared.word.Word.{Word}
use Rattle.words.specs.Words.{read_word}
use Rattle.faults.specs.declared.tree.ReaderFault.TheVariants.{WordDue}
use Rattle.faults.specs.declared.tree.TreeFault.TheVariants.{Reader}
use Rattle.bounded.specs.Stack.{held}
use Rattle.checker.specs.Check.{Verdict, check}
use Rattle.checker.specs.Held.{dues, frames_of}
use Rattle.encoding.proofs.Loops.{words_more, words_all}
use Rattle.checker.proofs.Exits.{err_is, word_due, all_read}
use Rattle.checker.proofs.script.run.Goals as goal

pub returns-in_err-step : goal.returns-in_err-step
returns-in_err-step c =
    let at = c.loop-at.at in
    let xs = c.args.words.now in
    let checked : List Word → Verdict = λ ws. check c.args.count (dues (held c.loop-at.labels.around) (held c.loop-at.labels.iterations) (frames_of c.loop-at.due.frames)) ws at in
    err_is c.from_residual.result c.in_err-step.field-0.0 c.from_residual.ensures.1
    ∙ sym (c.in_err-step.ensures (drop (at + 1) (map read_word xs)))
    ∙ ap (λ w. checked (w ∷ drop (at + 1) (map read_word xs))) c.from.ensures.value
    ∙ sym (words_more checked xs at c.loop-at-test.true) ∙ c.loop-at.invariant.same

pub loop-at-preserved : goal.loop-at-preserved
loop-at-preserved c =
    let at = c.loop-at.at in
    let xs = c.args.words.now in
    let checked : List Word → Verdict = λ ws. check c.args.count (dues (held c.loop-at.labels.around) (held c.loop-at.labels.iterations) (frames_of c.loop-at.due.frames)) ws at in
    let left = c.in_ok-step.ensures (drop (at + 1) (map read_word xs)) in
    record {
      sound = left.sound;
      same = left.same ∙ ap (λ w. checked (w ∷ drop (at + 1) (map read_word xs))) c.from.ensures.value
          ∙ sym (words_more checked xs at c.loop-at-test.true) ∙ c.loop-at.invariant.same;
    }

pub returns-in-Some : goal.returns-in-Some
returns-in-Some c =
    let at = c.loop-at.at in
    let xs = c.args.words.now in
    let os = held c.loop-at.labels.around in
    let ls = held c.loop-at.labels.iterations in
    let checked : List Word → Verdict = λ ws. check c.args.count (dues os ls (frames_of c.loop-at.due.frames)) ws at in
    let whole : length xs ≡ at = omega arith in
    ap (λ f. Err f) (c.into.ensures ∙ ap (λ n. Reader (WordDue n)) whole)
    ∙ sym (word_due c.args.count os ls c.loop-at.due.frames c.pop.new.self c.in-Some.field-0 at c.in-Some.ensures.cases)
    ∙ sym (words_all checked xs at c.loop-at-test.false) ∙ c.loop-at.invariant.same

pub returns-in-None : goal.returns-in-None
returns-in-None c =
    let at = c.loop-at.at in
    let os = held c.loop-at.labels.around in
    let ls = held c.loop-at.labels.iterations in
    let checked : List Word → Verdict = λ ws. check c.args.count (dues os ls (frames_of c.loop-at.due.frames)) ws at in
    sym (all_read c.args.count os ls c.loop-at.due.frames at c.in-None.ensures.cases.0)
    ∙ sym (words_all checked c.args.words.now at c.loop-at-test.false) ∙ c.loop-at.invariant.same
