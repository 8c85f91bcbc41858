-- Places are counted as the words have them, and past the last one nothing is folded.
use Rattle.std.proofs.Common.{◌≡◌, ℕ, suc, ◌+◌, ◌-◌, ◌<◌, ◌≤◌, Bool, true, false, cond, eqb, ltb, List, ◌++◌, length, Some, None, refl, ap, ◌∙◌, arith, eqb→eq, ltb→lt}
use Rattle.host.specs.Model.{Model}
use Rattle.words.specs.Tree.{Statement, Empty, Break, Continue, Block, Expr, Throw, Var, If, IfElse, For, While, Do, Switch, Label, BreakTo, ContinueTo, Return, TryCatch, TryFinally, TryBoth}
use Rattle.words.specs.Tree.{Statements, none, some, Let, Cases, no_case, case}
use Rattle.scan.specs.Places.{places, places_list, places_cases}
use Rattle.meaning.specs.Fold.Folded.{unchanged}
use Rattle.meaning.specs.Fold.Block.{Parent, block_parent}
use Rattle.meaning.specs.Pass.{size, size_list, size_cases, within, fold}
use Rattle.meaning.specs.Step.{here_or, step_inside, step_list}
use Rattle.meaning.specs.StepLaws.{PlacesCounted, PastPlaces, AlternateThere}
use Rattle.meaning.proofs.Measure.{length_append}

joined : (a b : ℕ) (xs ys : List ℕ) → a ≡ length xs → b ≡ length ys → a + b ≡ length (xs ++ ys)
joined a b xs ys p q = let r : length (xs ++ ys) ≡ length xs + length ys = length_append xs ys in omega arith

mutual
  unfolding size

  counted : (i : ℕ) (s : Statement) → size s ≡ length (places i s)
  counted i Empty = refl
  counted i Break = refl
  counted i Continue = refl
  counted i (Block ss) = ap suc (counted_list _ ss)
  counted i (Expr e) = refl
  counted i (Throw e) = refl
  counted i (Var d ds) = refl
  counted i (If e s) = ap suc (counted _ s)
  counted i (IfElse e s t) = ap suc (joined (size s) (size t) (places _ s) (places _ t) (counted _ s) (counted _ t))
  counted i (For j t u s) = ap suc (counted _ s)
  counted i (While e s) = ap suc (counted _ s)
  counted i (Do s e) = ap suc (counted _ s)
  counted i (Switch e cs) = ap suc (counted_cases _ cs)
  counted i (Label l s) = ap suc (counted _ s)
  counted i (BreakTo l) = refl
  counted i (ContinueTo l) = refl
  counted i (Return e) = refl
  counted i (TryCatch b x c) = ap suc (joined (size_list b) (size_list c) (places_list _ b) (places_list _ c) (counted_list _ b) (counted_list _ c))
  counted i (TryFinally b f) = ap suc (joined (size_list b) (size_list f) (places_list _ b) (places_list _ f) (counted_list _ b) (counted_list _ f))
  counted i (TryBoth b x c f) = ap suc (joined (size_list b) (size_list c + size_list f) (places_list _ b) (places_list _ c ++ places_list _ f) (counted_list _ b) (joined (size_list c) (size_list f) (places_list _ c) (places_list _ f) (counted_list _ c) (counted_list _ f)))

  counted_list : (i : ℕ) (ss : Statements) → size_list ss ≡ length (places_list i ss)
  counted_list i none = refl
  counted_list i (some s ss) = joined (size s) (size_list ss) (places i s) (places_list _ ss) (counted i s) (counted_list _ ss)
  counted_list i (Let d ds ss) = ap suc (counted_list _ ss)

  counted_cases : (i : ℕ) (cs : Cases) → size_cases cs ≡ length (places_cases i cs)
  counted_cases i no_case = refl
  counted_cases i (case t ss cs) = joined (size_list ss) (size_cases cs) (places_list _ ss) (places_cases _ cs) (counted_list _ ss) (counted_cases _ cs)

pub places_counted : PlacesCounted
places_counted ss = counted_list 1 ss

not_below : (n k : ℕ) → k ≤ n → ltb n k ≡ false
not_below n k p = go (ltb n k) refl
  where
    go : (b : Bool) → ltb n k ≡ b → b ≡ false
    go true q = absurd (let r : n < k = ltb→lt n k (rw q tt) in omega arith)
    go false q = refl

not_first : (n : ℕ) → 1 ≤ n → eqb n 0 ≡ false
not_first n p = go (eqb n 0) refl
  where
    go : (b : Bool) → eqb n 0 ≡ b → b ≡ false
    go true q = absurd (let r : n ≡ 0 = eqb→eq n 0 (rw q tt) in omega arith)
    go false q = refl

size_one : (s : Statement) → 1 ≤ size s
unfolding size
size_one Empty = omega arith
size_one Break = omega arith
size_one Continue = omega arith
size_one (Block ss) = omega arith
size_one (Expr e) = omega arith
size_one (Throw e) = omega arith
size_one (Var d ds) = omega arith
size_one (If e s) = omega arith
size_one (IfElse e s t) = omega arith
size_one (For j t u s) = omega arith
size_one (While e s) = omega arith
size_one (Do s e) = omega arith
size_one (Switch e cs) = omega arith
size_one (Label l s) = omega arith
size_one (BreakTo l) = omega arith
size_one (ContinueTo l) = omega arith
size_one (Return e) = omega arith
size_one (TryCatch b x c) = omega arith
size_one (TryFinally b f) = omega arith
size_one (TryBoth b x c f) = omega arith

module _ (m : Model) (dropped : List ℕ) where
  past_list : (p : Parent) (ss : Statements) (n : ℕ) → size_list ss ≤ n → step_list m dropped n p ss ≡ unchanged ss
  unfolding step_inside size
  past_list p none n q = refl
  past_list p (some s ss) n q =
      (λ i. cond (not_below n (size s) (omega arith) i) (within (λ x. some x ss) (here_or n (fold m dropped p s) (step_inside m dropped (n - 1) s))) (within (some s) (step_list m dropped (n - size s) p ss)))
      ∙ ap (within (some s)) (past_list p ss (n - size s) (omega arith))
  past_list p (Let d ds ss) n q =
      (λ i. cond (not_first n (omega arith) i) (unchanged (Let d ds ss)) (within (Let d ds) (step_list m dropped (n - 1) p ss)))
      ∙ ap (within (Let d ds)) (past_list p ss (n - 1) (omega arith))

pub past_places : PastPlaces
past_places m dropped n ss q = past_list m dropped block_parent ss n q

pub alternate_there : AlternateThere
alternate_there m None x xs q = cc
alternate_there m (Some s) x xs q = refl
