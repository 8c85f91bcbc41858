-- Folding a script. `fold` is the fold for a statement under its parent. `pass` folds every statement after those
-- inside it, `step` the one at a place, counted as scan/specs/Places counts; `Settles` is passing until a pass
-- changes nothing. All take the labels to drop.
use Rattle.std.specs.Prelude.{◌≡◌, ℕ, suc, ◌+◌, List}
use Rattle.words.specs.Tree.{Statement, Empty, Break, Continue, Block, Expr, Throw, Var, If, IfElse, For, While, Do, Switch, Label, BreakTo, ContinueTo, Return, TryCatch, TryFinally, TryBoth}
use Rattle.words.specs.Tree.{Statements, none, some, Let, Cases, no_case, case}
use Rattle.host.specs.Model.{Model}
use Rattle.meaning.specs.Fold.Folded.{Folded, folded, unchanged, plus_changes}
use Rattle.meaning.specs.Fold.Block.{Parent, loop_parent, block_parent, consequent_parent, label_parent, other_parent, try_optimize_block}
use Rattle.meaning.specs.Fold.If.{try_fold_if, try_fold_if_else}
use Rattle.meaning.specs.Fold.For.{try_fold_for}
use Rattle.meaning.specs.Fold.Labeled.{try_fold_labeled}
use Rattle.meaning.specs.Fold.Switch.{fold_switch}
use Rattle.meaning.specs.Fold.Try.{try_fold_catch, try_fold_finally, try_fold_both}

-- how many places a part has
unfoldable mutual
  pub size : Statement → ℕ
  size Empty = 1
  size Break = 1
  size Continue = 1
  size (Block ss) = suc (size_list ss)
  size (Expr e) = 1
  size (Throw e) = 1
  size (Var d ds) = 1
  size (If e s) = suc (size s)
  size (IfElse e s t) = suc (size s + size t)
  size (For i t u s) = suc (size s)
  size (While e s) = suc (size s)
  size (Do s e) = suc (size s)
  size (Switch e cs) = suc (size_cases cs)
  size (Label l s) = suc (size s)
  size (BreakTo l) = 1
  size (ContinueTo l) = 1
  size (Return e) = 1
  size (TryCatch b x c) = suc (size_list b + size_list c)
  size (TryFinally b f) = suc (size_list b + size_list f)
  size (TryBoth b x c f) = suc (size_list b + (size_list c + size_list f))

  pub size_list : Statements → ℕ
  size_list none = 0
  size_list (some s ss) = size s + size_list ss
  size_list (Let d ds ss) = suc (size_list ss)

  pub size_cases : Cases → ℕ
  size_cases no_case = 0
  size_cases (case t ss cs) = size_list ss + size_cases cs

-- one part folded, in its place among the others
abbrev pub within : {A B : Type 0} → (A → B) → Folded A → Folded B
within put f = folded (put f.result) f.changes

module _ (m : Model) (dropped : List ℕ) where
  unfoldable pub fold : Parent → Statement → Folded Statement
  fold p Empty = unchanged Empty
  fold p Break = unchanged Break
  fold p Continue = unchanged Continue
  fold p (Block ss) = try_optimize_block p ss
  fold p (Expr e) = unchanged (Expr e)
  fold p (Throw e) = unchanged (Throw e)
  fold p (Var d ds) = unchanged (Var d ds)
  fold p (If e s) = try_fold_if m e s
  fold p (IfElse e s t) = try_fold_if_else m e s t
  fold p (For i t u s) = try_fold_for m i t u s
  fold p (While e s) = unchanged (While e s)
  fold p (Do s e) = unchanged (Do s e)
  fold p (Switch e cs) = fold_switch m e cs
  fold p (Label l s) = try_fold_labeled dropped l s
  fold p (BreakTo l) = unchanged (BreakTo l)
  fold p (ContinueTo l) = unchanged (ContinueTo l)
  fold p (Return e) = unchanged (Return e)
  fold p (TryCatch b x c) = try_fold_catch b x c
  fold p (TryFinally b f) = try_fold_finally b f
  fold p (TryBoth b x c f) = try_fold_both b x c f

  -- the fold of what the statements inside have become, with their changes
  abbrev pub fold_after : Parent → ℕ → Statement → Folded Statement
  fold_after p n s = plus_changes n (fold p s)

  unfoldable mutual
    pub pass : Parent → Statement → Folded Statement
    pass p Empty = unchanged Empty
    pass p Break = unchanged Break
    pass p Continue = unchanged Continue
    pass p (Block ss) = fold_after p (pass_list block_parent ss).changes (Block (pass_list block_parent ss).result)
    pass p (Expr e) = unchanged (Expr e)
    pass p (Throw e) = unchanged (Throw e)
    pass p (Var d ds) = unchanged (Var d ds)
    pass p (If e s) = fold_after p (pass consequent_parent s).changes (If e (pass consequent_parent s).result)
    pass p (IfElse e s t) = fold_after p ((pass consequent_parent s).changes + (pass other_parent t).changes) (IfElse e (pass consequent_parent s).result (pass other_parent t).result)
    pass p (For i t u s) = fold_after p (pass loop_parent s).changes (For i t u (pass loop_parent s).result)
    pass p (While e s) = fold_after p (pass loop_parent s).changes (While e (pass loop_parent s).result)
    pass p (Do s e) = fold_after p (pass loop_parent s).changes (Do (pass loop_parent s).result e)
    pass p (Switch e cs) = fold_after p (pass_cases cs).changes (Switch e (pass_cases cs).result)
    pass p (Label l s) = fold_after p (pass label_parent s).changes (Label l (pass label_parent s).result)
    pass p (BreakTo l) = unchanged (BreakTo l)
    pass p (ContinueTo l) = unchanged (ContinueTo l)
    pass p (Return e) = unchanged (Return e)
    pass p (TryCatch b x c) = fold_after p ((pass_list block_parent b).changes + (pass_list block_parent c).changes) (TryCatch (pass_list block_parent b).result x (pass_list block_parent c).result)
    pass p (TryFinally b f) = fold_after p ((pass_list block_parent b).changes + (pass_list block_parent f).changes) (TryFinally (pass_list block_parent b).result (pass_list block_parent f).result)
    pass p (TryBoth b x c f) =
        fold_after p ((pass_list block_parent b).changes + ((pass_list block_parent c).changes + (pass_list block_parent f).changes))
        (TryBoth (pass_list block_parent b).result x (pass_list block_parent c).result (pass_list block_parent f).result)

    pub pass_list : Parent → Statements → Folded Statements
    pass_list p none = unchanged none
    pass_list p (some s ss) = folded (some (pass p s).result (pass_list p ss).result) ((pass p s).changes + (pass_list p ss).changes)
    pass_list p (Let d ds ss) = folded (Let d ds (pass_list p ss).result) (pass_list p ss).changes

    pub pass_cases : Cases → Folded Cases
    pass_cases no_case = unchanged no_case
    pass_cases (case t ss cs) = folded (case t (pass_list other_parent ss).result (pass_cases cs).result) ((pass_list other_parent ss).changes + (pass_cases cs).changes)

  -- a script's statements stand in a Body
  abbrev pub pass_body : Statements → Folded Statements
  pass_body ss = pass_list block_parent ss

  -- passing until a pass changes nothing, with all the changes made
  pub data Settles : Statements → Statements → ℕ → Type 0 where
    rests : (ss : Statements) → (pass_body ss).changes ≡ 0 → Settles ss ss 0
    again : (ss ts : Statements) (n k : ℕ) → (pass_body ss).changes ≡ suc k → Settles (pass_body ss).result ts n → Settles ss ts (suc k + n)
