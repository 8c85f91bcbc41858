-- What the code's step knows, put together.
use Rattle.std.proofs.Common.{◌≡◌, ℕ, ◌+◌, List, [], ◌∷◌, ◌++◌, reverse, length, take, IsErrAnd, Ok, Err, Result, Some, None, Option, sym, ap, ◌∙◌, subst, ap₂, subst₂, arith, MatchResult, MatchOption}
use Rattle.std.proofs.lemmas.List.{reverse-append}
use Rattle.bounded.specs.declared.stack.Stack.{Stack}
use Rattle.bounded.specs.Stack.{held}
use Rattle.words.specs.declared.word.Word.{Word}
use Rattle.checker.specs.declared.frame.Frame.{Frame}
use Rattle.faults.specs.declared.tree.ReaderFault.{ReaderFault}
use Rattle.faults.specs.declared.tree.TreeFault.{TreeFault}
use Rattle.faults.specs.declared.tree.TreeFault.TheVariants.{Reader}
use Rattle.faults.specs.declared.tree.ReaderFault.TheVariants.{WordDue, WordsLeft}
use Rattle.std.specs.Option.{ok_or}
use Rattle.checker.specs.Check.{judge, check}
use Rattle.checker.specs.Held.{due_in, dues, risen, opened, looped, Sound, Left, frames_of}
use Rattle.checker.proofs.Steps.{left_next, left_refused}

pub by_err : {T E : Type 0} (r : Result T E) (P : T → Type 0) (Q : E → Type 0) (g : E) → IsErrAnd r (λ y. y ≡ g) → Q g → MatchResult r P Q
by_err (Ok x) P Q g h q = absurd h
by_err (Err y) P Q g h q = subst Q (sym h) q

-- what the top of a stack is, and that it is the first frame
pub top_is : (s t : Stack Frame) (o : Option Frame) (g : ReaderFault) (f : Frame) → MatchOption o ((held s ≡ []) × (held t ≡ [])) (λ top. held s ≡ held t ++ top ∷ []) →
    ok_or o g ≡ Ok f → frames_of s ≡ f ∷ frames_of t
top_is s t None g f h e = let z : ◌≡◌ {A = ℕ} 0 1 = cc in absurd (omega arith)
top_is s t (Some x) g f h e =
    let same : x ≡ f = cc in ap reverse h ∙ reverse-append (held t) (x ∷ []) ∙ ap (λ y. y ∷ frames_of t) same

-- a word where nothing is due
pub none_due : (count : ℕ) (os ls : List ℕ) (s t : Stack Frame) (o : Option Frame) (w : Word) (ws : List Word) (at : ℕ) (f : ReaderFault) →
    MatchOption o ((held s ≡ []) × (held t ≡ [])) (λ top. held s ≡ held t ++ top ∷ []) → ok_or o (WordsLeft at) ≡ Err f →
    check count (dues os ls (frames_of s)) (w ∷ ws) at ≡ Err (Reader f)
unfolding check
none_due count os ls s t None w ws at f h e =
    let same : WordsLeft at ≡ f = cc in
    ap (λ x. check count (dues os ls (reverse x)) (w ∷ ws) at) h.0 ∙ ap (λ g. Err (Reader g)) same
none_due count os ls s t (Some x) w ws at f h e = let z : ◌≡◌ {A = ℕ} 0 1 = cc in absurd (omega arith)

-- a word that breaks a rule
pub refused_step : (count : ℕ) (f : Frame) (es fs : List Frame) (os ls ps ms : List ℕ) (w : Word) (ws : List Word) (at : ℕ) (r : TreeFault) → es ≡ f ∷ fs →
    ps ≡ take f.spot.labels os → ms ≡ take f.spot.iterations ls → judge count (due_in ps ms f) w at ≡ Err r → check count (dues os ls es) (w ∷ ws) at ≡ Err r
refused_step count f es fs os ls ps ms w ws at r t e g j =
    ap (λ x. check count (dues os ls x) (w ∷ ws) at) t
    ∙ left_refused count f fs os ls w ws at r (ap₂ (λ p q. judge count (due_in p q f) w at) (sym e) (sym g) ∙ j)

-- a word that breaks none
pub left_step : (count : ℕ) (f : Frame) (es fs gs : List Frame) (os ls ps ms qs ns : List ℕ) (w : Word) (ws : List Word) (at : ℕ) → es ≡ f ∷ fs → Sound (length os) (length ls) es →
    ps ≡ take f.spot.labels os → ms ≡ take f.spot.iterations ls → judge count (due_in ps ms f) w at ≡ Ok tt → gs ≡ risen f w fs → qs ≡ opened w ps → ns ≡ looped f w ps ms →
    Left count gs qs ns ws (at + 1) (check count (dues os ls es) (w ∷ ws) at)
left_step count f es fs gs os ls ps ms qs ns w ws at t s e g j h q n =
    let l = left_next count f fs os ls w ws at (subst (Sound (length os) (length ls)) t s) (ap₂ (λ p r. judge count (due_in p r f) w at) (sym e) (sym g) ∙ j) in
    let o : opened w (take f.spot.labels os) ≡ qs = ap (opened w) (sym e) ∙ sym q in
    let p : looped f w (take f.spot.labels os) (take f.spot.iterations ls) ≡ ns = ap₂ (looped f w) (sym e) (sym g) ∙ sym n in
    record {
      sound = subst₂ (λ a b. Sound (length a) (length b) gs) o p
          (subst (Sound (length (opened w (take f.spot.labels os))) (length (looped f w (take f.spot.labels os) (take f.spot.iterations ls)))) (sym h) l.sound);
      same = (λ k. check count (dues (sym o k) (sym p k) (h k)) ws (at + 1)) ∙ l.same ∙ ap (λ x. check count (dues os ls x) (w ∷ ws) at) (sym t);
    }

pub err_is : {T E : Type 0} (r : Result T E) (g : E) → IsErrAnd r (λ y. y ≡ g) → r ≡ Err g
err_is (Ok x) g h = absurd h
err_is (Err y) g h = ap (λ z. Err z) h

-- the words end where something is due, and where nothing is
pub word_due : (count : ℕ) (os ls : List ℕ) (s t : Stack Frame) (f : Frame) (at : ℕ) → held s ≡ held t ++ f ∷ [] → check count (dues os ls (frames_of s)) [] at ≡ Err (Reader (WordDue at))
unfolding check
word_due count os ls s t f at h = ap (λ x. check count (dues os ls x) [] at) (ap reverse h ∙ reverse-append (held t) (f ∷ []))

pub all_read : (count : ℕ) (os ls : List ℕ) (s : Stack Frame) (at : ℕ) → held s ≡ [] → check count (dues os ls (frames_of s)) [] at ≡ Ok tt
unfolding check
all_read count os ls s at h = ap (λ x. check count (dues os ls (reverse x)) [] at) h
