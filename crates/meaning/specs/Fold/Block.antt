-- try_optimize_block: a Block of no statement becomes Empty where its parent is a loop or a block, and a Block of
-- one statement becomes that statement unless it is a Let, an If with an alternate that is a consequent, or a
-- labelled loop. Bodies and catches count as blocks.
--   before: `while (f) { g }`   after: `while (f) g`
--   before: `{ {} }`   after: `{ ; }`
use Rattle.std.specs.Prelude.{Bool, true, false, cond}
use Rattle.words.specs.Tree.{Statement, Empty, Break, Continue, Block, Expr, Throw, Var, If, IfElse, For, While, Do, Switch, Label, BreakTo, ContinueTo, Return, TryCatch, TryFinally, TryBoth}
use Rattle.words.specs.Tree.{Statements, none, some, Let}
use Rattle.meaning.specs.Fold.Folded.{Folded, unchanged, changed}

-- what a statement is directly part of
pub data Parent : Type 0 where
  loop_parent block_parent consequent_parent label_parent other_parent : Parent

unfoldable pub is_if_else : Statement → Bool
is_if_else Empty = false
is_if_else Break = false
is_if_else Continue = false
is_if_else (Block ss) = false
is_if_else (Expr e) = false
is_if_else (Throw e) = false
is_if_else (Var d ds) = false
is_if_else (If e s) = false
is_if_else (IfElse e s t) = true
is_if_else (For i t u s) = false
is_if_else (While e s) = false
is_if_else (Do s e) = false
is_if_else (Switch e cs) = false
is_if_else (Label l s) = false
is_if_else (BreakTo l) = false
is_if_else (ContinueTo l) = false
is_if_else (Return e) = false
is_if_else (TryCatch b x c) = false
is_if_else (TryFinally b f) = false
is_if_else (TryBoth b x c f) = false

unfoldable pub is_loop : Statement → Bool
is_loop Empty = false
is_loop Break = false
is_loop Continue = false
is_loop (Block ss) = false
is_loop (Expr e) = false
is_loop (Throw e) = false
is_loop (Var d ds) = false
is_loop (If e s) = false
is_loop (IfElse e s t) = false
is_loop (For i t u s) = true
is_loop (While e s) = true
is_loop (Do s e) = true
is_loop (Switch e cs) = false
is_loop (Label l s) = false
is_loop (BreakTo l) = false
is_loop (ContinueTo l) = false
is_loop (Return e) = false
is_loop (TryCatch b x c) = false
is_loop (TryFinally b f) = false
is_loop (TryBoth b x c f) = false

-- whether an empty Block becomes Empty under this parent
abbrev pub empties : Parent → Bool
empties loop_parent = true
empties block_parent = true
empties consequent_parent = false
empties label_parent = false
empties other_parent = false

-- whether a statement that is alone in its Block stays in it
abbrev pub stays_inside : Parent → Statement → Bool
stays_inside loop_parent s = false
stays_inside block_parent s = false
stays_inside consequent_parent s = is_if_else s
stays_inside label_parent s = is_loop s
stays_inside other_parent s = false

abbrev pub try_optimize_block : Parent → Statements → Folded Statement
try_optimize_block p none = cond (empties p) (changed Empty) (unchanged (Block none))
try_optimize_block p (some s none) = cond (stays_inside p s) (unchanged (Block (some s none))) (changed s)
try_optimize_block p (some s (some t ss)) = unchanged (Block (some s (some t ss)))
try_optimize_block p (some s (Let d ds ss)) = unchanged (Block (some s (Let d ds ss)))
try_optimize_block p (Let d ds ss) = unchanged (Block (Let d ds ss))
