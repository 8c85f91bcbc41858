-- try_fold_labeled: a Label whose statement is empty, or begins by breaking to it, is replaced by a stub. A Label
-- that is to be dropped is replaced by Empty, with all that it holds: that does not keep the meaning.
--   before: `L: { break L; var z = f }`   after: `var z`
--   before: `L: ;`   after: `;`
use Rattle.std.specs.Prelude.{ℕ, Bool, false, cond, ◌||◌, List, ◌==◌}
use Rattle.words.specs.Tree.{Statement, Empty, Break, Continue, Block, Expr, Throw, Var, If, IfElse, For, While, Do, Switch, Label, BreakTo, ContinueTo, Return, TryCatch, TryFinally, TryBoth}
use Rattle.words.specs.Tree.{Statements, none, some, Let}
use Rattle.slices.specs.Among.{among}
use Rattle.meaning.specs.Fold.Folded.{Folded, unchanged, changed}
use Rattle.meaning.specs.Fold.KeepVar.{keep_var, stub_or_empty}
use Rattle.meaning.specs.Fold.If.{is_empty}

unfoldable pub is_break_to : ℕ → Statement → Bool
is_break_to l Empty = false
is_break_to l Break = false
is_break_to l Continue = false
is_break_to l (Block ss) = false
is_break_to l (Expr e) = false
is_break_to l (Throw e) = false
is_break_to l (Var d ds) = false
is_break_to l (If e s) = false
is_break_to l (IfElse e s t) = false
is_break_to l (For i t u s) = false
is_break_to l (While e s) = false
is_break_to l (Do s e) = false
is_break_to l (Switch e cs) = false
is_break_to l (Label n s) = false
is_break_to l (BreakTo t) = t == l
is_break_to l (ContinueTo t) = false
is_break_to l (Return e) = false
is_break_to l (TryCatch b x c) = false
is_break_to l (TryFinally b f) = false
is_break_to l (TryBoth b x c f) = false

-- the first of a list
abbrev pub begins_with_break_to : ℕ → Statements → Bool
begins_with_break_to l none = false
begins_with_break_to l (some s ss) = is_break_to l s
begins_with_break_to l (Let d ds ss) = false

unfoldable pub breaks_at_once : ℕ → Statement → Bool
breaks_at_once l Empty = false
breaks_at_once l Break = false
breaks_at_once l Continue = false
breaks_at_once l (Block ss) = begins_with_break_to l ss
breaks_at_once l (Expr e) = false
breaks_at_once l (Throw e) = false
breaks_at_once l (Var d ds) = false
breaks_at_once l (If e s) = false
breaks_at_once l (IfElse e s t) = false
breaks_at_once l (For i t u s) = false
breaks_at_once l (While e s) = false
breaks_at_once l (Do s e) = false
breaks_at_once l (Switch e cs) = false
breaks_at_once l (Label n s) = false
breaks_at_once l (BreakTo t) = t == l
breaks_at_once l (ContinueTo t) = false
breaks_at_once l (Return e) = false
breaks_at_once l (TryCatch b x c) = false
breaks_at_once l (TryFinally b f) = false
breaks_at_once l (TryBoth b x c f) = false

-- whether the Label and its statement do nothing but declare
abbrev pub is_idle : ℕ → Statement → Bool
is_idle l s = breaks_at_once l s || is_empty s

abbrev pub try_fold_labeled : List ℕ → ℕ → Statement → Folded Statement
try_fold_labeled dropped l s =
    cond (among l dropped) (changed Empty) (cond (is_idle l s) (changed (stub_or_empty (keep_var s))) (unchanged (Label l s)))
