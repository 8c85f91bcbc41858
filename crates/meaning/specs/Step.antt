-- Folding one statement of a script: the one at a place, counted from 0 in written order, a statement before those
-- inside it and a Let of a list among them. Past the last place nothing is folded.
use Rattle.std.specs.Prelude.{ℕ, ◌-◌, cond, List, ◌==◌, nat_lt}
use Rattle.words.specs.Tree.{Statement, Empty, Break, Continue, Block, Expr, Throw, Var, If, IfElse, For, While, Do, Switch, Label, BreakTo, ContinueTo, Return, TryCatch, TryFinally, TryBoth}
use Rattle.words.specs.Tree.{Statements, none, some, Let, Cases, no_case, case}
use Rattle.host.specs.Model.{Model}
use Rattle.meaning.specs.Fold.Folded.{Folded, unchanged}
use Rattle.meaning.specs.Fold.Block.{loop_parent, block_parent, consequent_parent, label_parent, other_parent, Parent}
use Rattle.meaning.specs.Pass.{size, size_list, within, fold}

-- at place 0 of a part, or further inside it
abbrev pub here_or : {A : Type 0} → ℕ → A → A → A
here_or n here inside = cond (n == 0) here inside

module _ (m : Model) (dropped : List ℕ) where
  unfoldable mutual
    -- inside a statement, at a place counted from the first one inside it
    pub step_inside : ℕ → Statement → Folded Statement
    step_inside n Empty = unchanged Empty
    step_inside n Break = unchanged Break
    step_inside n Continue = unchanged Continue
    step_inside n (Block ss) = within Block (step_list n block_parent ss)
    step_inside n (Expr e) = unchanged (Expr e)
    step_inside n (Throw e) = unchanged (Throw e)
    step_inside n (Var d ds) = unchanged (Var d ds)
    step_inside n (If e s) = within (If e) (here_or n (fold m dropped consequent_parent s) (step_inside (n - 1) s))
    step_inside n (IfElse e s t) = cond (nat_lt n (size s))
        (within (λ x. IfElse e x t) (here_or n (fold m dropped consequent_parent s) (step_inside (n - 1) s)))
        (within (IfElse e s) (here_or (n - size s) (fold m dropped other_parent t) (step_inside (n - size s - 1) t)))
    step_inside n (For i t u s) = within (For i t u) (here_or n (fold m dropped loop_parent s) (step_inside (n - 1) s))
    step_inside n (While e s) = within (While e) (here_or n (fold m dropped loop_parent s) (step_inside (n - 1) s))
    step_inside n (Do s e) = within (λ x. Do x e) (here_or n (fold m dropped loop_parent s) (step_inside (n - 1) s))
    step_inside n (Switch e cs) = within (Switch e) (step_cases n cs)
    step_inside n (Label l s) = within (Label l) (here_or n (fold m dropped label_parent s) (step_inside (n - 1) s))
    step_inside n (BreakTo l) = unchanged (BreakTo l)
    step_inside n (ContinueTo l) = unchanged (ContinueTo l)
    step_inside n (Return e) = unchanged (Return e)
    step_inside n (TryCatch b x c) = cond (nat_lt n (size_list b))
        (within (λ y. TryCatch y x c) (step_list n block_parent b)) (within (TryCatch b x) (step_list (n - size_list b) block_parent c))
    step_inside n (TryFinally b f) = cond (nat_lt n (size_list b))
        (within (λ y. TryFinally y f) (step_list n block_parent b)) (within (TryFinally b) (step_list (n - size_list b) block_parent f))
    step_inside n (TryBoth b x c f) = cond (nat_lt n (size_list b))
        (within (λ y. TryBoth y x c f) (step_list n block_parent b))
        (cond (nat_lt (n - size_list b) (size_list c))
        (within (λ y. TryBoth b x y f) (step_list (n - size_list b) block_parent c))
        (within (TryBoth b x c) (step_list (n - size_list b - size_list c) block_parent f)))

    pub step_list : ℕ → Parent → Statements → Folded Statements
    step_list n p none = unchanged none
    step_list n p (some s ss) = cond (nat_lt n (size s))
        (within (λ x. some x ss) (here_or n (fold m dropped p s) (step_inside (n - 1) s)))
        (within (some s) (step_list (n - size s) p ss))
    step_list n p (Let d ds ss) = here_or n (unchanged (Let d ds ss)) (within (Let d ds) (step_list (n - 1) p ss))

    pub step_cases : ℕ → Cases → Folded Cases
    step_cases n no_case = unchanged no_case
    step_cases n (case t ss cs) = cond (nat_lt n (size_list ss))
        (within (λ y. case t y cs) (step_list n other_parent ss)) (within (case t ss) (step_cases (n - size_list ss) cs))

  -- a script's statements stand in a Body
  abbrev pub step_body : ℕ → Statements → Folded Statements
  step_body n ss = step_list n block_parent ss
