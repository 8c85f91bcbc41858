-- Kinds and their numbers, both ways.
use Rattle.std.proofs.Common.{◌≡◌, ℕ, zero, suc, ◌+◌, ◌*◌, ◌/◌, ◌%◌, ◌<◌, ◌≤◌, true, List, [], ◌∷◌, get_or, Some, refl, ap, ◌∙◌, ap₂, arith, ltb-true, lt-ltb}
use Rattle.words.specs.declared.word.Kind.{Kind}
use Rattle.words.specs.declared.word.Kind.TheVariants.{Unlisted, Empty, Block, Expr, Var, Let, If, For, While, Do, Switch, Label, Break, BreakTo, Continue, ContinueTo, Return, Throw, Try, Body, Catch, CatchName, Case, Default, Expression, Sequence, Name, NameInit}
use Rattle.std.proofs.lemmas.Bool.{cond-true}
use Rattle.std.specs.Slice.{IsItemAt}
use Rattle.std.specs.Option.{option_copied, unwrap_or}
use Rattle.std.specs.Borrow.{Bor}
use Rattle.std.specs.Prelude.{Option}
use Rattle.words.specs.declared.word.Word.{Word}
use Rattle.words.specs.Words.{number_limit, kinds, kind_of, code, is_listed, word, read_word, write_word}

pub kind_of_code : (k : Kind) → kind_of (code k) ≡ k
kind_of_code Unlisted = refl
kind_of_code Empty = refl
kind_of_code Block = refl
kind_of_code Expr = refl
kind_of_code Var = refl
kind_of_code Let = refl
kind_of_code If = refl
kind_of_code For = refl
kind_of_code While = refl
kind_of_code Do = refl
kind_of_code Switch = refl
kind_of_code Label = refl
kind_of_code Break = refl
kind_of_code BreakTo = refl
kind_of_code Continue = refl
kind_of_code ContinueTo = refl
kind_of_code Return = refl
kind_of_code Throw = refl
kind_of_code Try = refl
kind_of_code Body = refl
kind_of_code Catch = refl
kind_of_code CatchName = refl
kind_of_code Case = refl
kind_of_code Default = refl
kind_of_code Expression = refl
kind_of_code Sequence = refl
kind_of_code Name = refl
kind_of_code NameInit = refl

-- the kinds of a list have the numbers from n on
abbrev Numbered : ℕ → List Kind → Type 0
Numbered n [] = Unit {0}
Numbered n (k ∷ ks) = (code k ≡ n) × Numbered (suc n) ks

numbered_code : (ks : List Kind) (n k : ℕ) → Numbered n ks → 0 < code (get_or ks k Unlisted) → code (get_or ks k Unlisted) ≡ n + k
numbered_code [] n k p h = absurd (omega arith)
numbered_code (x ∷ ks) n zero p h = omega (arith, p.0)
numbered_code (x ∷ ks) n (suc k) p h = let e = numbered_code ks (suc n) k p.1 h in omega arith

kinds_numbered : Numbered 0 kinds
kinds_numbered = (refl, (refl, (refl, (refl, (refl, (refl, (refl, (refl, (refl, (refl, (refl, (refl, (refl, (refl, (refl, (refl, (refl, (refl, (refl, (refl, (refl, (refl, (refl, (refl, (refl, (refl, (refl, (refl, tt))))))))))))))))))))))))))))

pub code_kind_of : (k : ℕ) → 0 < code (kind_of k) → code (kind_of k) ≡ k
code_kind_of k h = omega (arith, numbered_code kinds 0 k kinds_numbered h)

pub code_bound : (k : Kind) → code k ≤ 27
code_bound Unlisted = omega arith
code_bound Empty = omega arith
code_bound Block = omega arith
code_bound Expr = omega arith
code_bound Var = omega arith
code_bound Let = omega arith
code_bound If = omega arith
code_bound For = omega arith
code_bound While = omega arith
code_bound Do = omega arith
code_bound Switch = omega arith
code_bound Label = omega arith
code_bound Break = omega arith
code_bound BreakTo = omega arith
code_bound Continue = omega arith
code_bound ContinueTo = omega arith
code_bound Return = omega arith
code_bound Throw = omega arith
code_bound Try = omega arith
code_bound Body = omega arith
code_bound Catch = omega arith
code_bound CatchName = omega arith
code_bound Case = omega arith
code_bound Default = omega arith
code_bound Expression = omega arith
code_bound Sequence = omega arith
code_bound Name = omega arith
code_bound NameInit = omega arith

-- a word of a listed kind, taken apart and put together
pub written_back : (w : ℕ) → is_listed (read_word w).kind ≡ true → write_word (read_word w) ≡ Some w
written_back w h =
    let k = code (kind_of (w / number_limit)) in
    let p : 0 < k = ltb-true 0 k h in
    let e = code_kind_of (w / number_limit) p in
    let small : w % number_limit < number_limit = omega arith in
    let same : k * number_limit + w % number_limit ≡ w = omega arith in
    cond-true _ _ _ h ∙ cond-true _ _ _ (lt-ltb (w % number_limit) number_limit small) ∙ ap Some same

-- a kind and a number put together and taken apart
pub reads_back : (w : Word) → w.number < number_limit → read_word (code w.kind * number_limit + w.number) ≡ w
reads_back w h =
    let k = code w.kind in
    let d : (k * number_limit + w.number) / number_limit ≡ k = omega arith in
    let r : (k * number_limit + w.number) % number_limit ≡ w.number = omega arith in
    ap₂ (λ a b. word (kind_of a) b) d r ∙ ap (λ a. word a w.number) (kind_of_code w.kind)

-- what the list of kinds has at a number, or the unlisted kind past its end
pub kind_found : (n : ℕ) (o : Option (Bor Kind)) → IsItemAt kinds n o → unwrap_or (option_copied o) Unlisted ≡ kind_of n
kind_found n o h = h.4 (omega arith) Unlisted
