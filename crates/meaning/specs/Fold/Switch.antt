-- try_fold_switch: cases that are empty and whose tests are literals go where nothing can tell: at the end, or before
-- a last Default. A Switch without cases becomes its discriminant, and a Break at the very end goes.
--   before: `switch (f) { case 0: g; break; case 1: default: h }`   after: `switch (f) { case 0: g; break; default: h }`
--   before: `switch (f) { case 1: break }`   after: `f`
use Rattle.std.specs.Prelude.{Bool, true, false, cond, ◌&&◌, Some, None, Option, nat_lt}
use Rattle.words.specs.Tree.{Expression}
use Rattle.words.specs.Tree.{Statement, Empty, Break, Continue, Block, Expr, Throw, Var, If, IfElse, For, While, Do, Switch, Label, BreakTo, ContinueTo, Return, TryCatch, TryFinally, TryBoth}
use Rattle.words.specs.Tree.{Statements, none, some, Let, Cases, no_case, case}
use Rattle.words.specs.Encode.{count_cases}
use Rattle.host.specs.Model.{Model}
use Rattle.host.specs.Sequence.{parts_of, literal_of}
use Rattle.meaning.specs.Fold.Folded.{Folded, folded, changed, if_so, plus_changes}
use Rattle.meaning.specs.Fold.Select.{drop_unreachable_switch_cases}

-- Empty, or a Break where that is allowed
unfoldable pub is_blank : Bool → Statement → Bool
is_blank allow_break Empty = true
is_blank allow_break Break = allow_break
is_blank allow_break Continue = false
is_blank allow_break (Block ss) = false
is_blank allow_break (Expr e) = false
is_blank allow_break (Throw e) = false
is_blank allow_break (Var d ds) = false
is_blank allow_break (If e s) = false
is_blank allow_break (IfElse e s t) = false
is_blank allow_break (For i t u s) = false
is_blank allow_break (While e s) = false
is_blank allow_break (Do s e) = false
is_blank allow_break (Switch e cs) = false
is_blank allow_break (Label l s) = false
is_blank allow_break (BreakTo l) = false
is_blank allow_break (ContinueTo l) = false
is_blank allow_break (Return e) = false
is_blank allow_break (TryCatch b x c) = false
is_blank allow_break (TryFinally b f) = false
is_blank allow_break (TryBoth b x c f) = false

-- no statement, or a blank one alone
unfoldable pub all_blank : Bool → Statements → Bool
all_blank allow_break none = true
all_blank allow_break (some s none) = is_blank allow_break s
all_blank allow_break (some s (some t ss)) = false
all_blank allow_break (some s (Let d ds ss)) = false
all_blank allow_break (Let d ds ss) = false

unfoldable pub is_break : Statement → Bool
is_break Empty = false
is_break Break = true
is_break Continue = false
is_break (Block ss) = false
is_break (Expr e) = false
is_break (Throw e) = false
is_break (Var d ds) = false
is_break (If e s) = false
is_break (IfElse e s t) = false
is_break (For i t u s) = false
is_break (While e s) = false
is_break (Do s e) = false
is_break (Switch e cs) = false
is_break (Label l s) = false
is_break (BreakTo l) = false
is_break (ContinueTo l) = false
is_break (Return e) = false
is_break (TryCatch b x c) = false
is_break (TryFinally b f) = false
is_break (TryBoth b x c f) = false

-- whether the last statement is a Break, and the list without it
unfoldable pub ends_in_break : Statements → Bool
ends_in_break none = false
ends_in_break (some s none) = is_break s
ends_in_break (some s (some t ss)) = ends_in_break (some t ss)
ends_in_break (some s (Let d ds ss)) = ends_in_break (Let d ds ss)
ends_in_break (Let d ds ss) = ends_in_break ss

unfoldable pub without_last_break : Statements → Statements
without_last_break none = none
without_last_break (some s none) = cond (is_break s) none (some s none)
without_last_break (some s (some t ss)) = some s (without_last_break (some t ss))
without_last_break (some s (Let d ds ss)) = some s (without_last_break (Let d ds ss))
without_last_break (Let d ds ss) = Let d ds (without_last_break ss)

-- the same for the last of the cases
unfoldable pub cases_end_in_break : Cases → Bool
cases_end_in_break no_case = false
cases_end_in_break (case t ss no_case) = ends_in_break ss
cases_end_in_break (case t ss (case u ts cs)) = cases_end_in_break (case u ts cs)

unfoldable pub cases_without_last_break : Cases → Cases
cases_without_last_break no_case = no_case
cases_without_last_break (case t ss no_case) = case t (without_last_break ss) no_case
cases_without_last_break (case t ss (case u ts cs)) = case t ss (cases_without_last_break (case u ts cs))

unfoldable pub has_default : Cases → Bool
has_default no_case = false
has_default (case None ss cs) = true
has_default (case (Some t) ss cs) = has_default cs

-- the cases from the Default on
unfoldable pub cases_from_default : Cases → Cases
cases_from_default no_case = no_case
cases_from_default (case None ss cs) = case None ss cs
cases_from_default (case (Some t) ss cs) = cases_from_default cs

-- a case in front of what is left of those after it, which goes too if it can and none is left
unfoldable pub cut_last : Bool → Option Expression → Statements → Cases → Cases
cut_last true t ss no_case = no_case
cut_last true t ss (case u ts cs) = case t ss (case u ts cs)
cut_last false t ss cs = case t ss cs

-- a case in front of what is left of those after it, which goes if it can and only the last is left
unfoldable pub cut_before_last : Bool → Option Expression → Statements → Cases → Cases
cut_before_last b t ss no_case = case t ss no_case
cut_before_last b t ss (case u ts no_case) = cond b (case u ts no_case) (case t ss (case u ts no_case))
cut_before_last b t ss (case u ts (case v us cs)) = case t ss (case u ts (case v us cs))

module _ (m : Model) where
  abbrev pub is_literal : Option Expression → Bool
  is_literal None = true
  is_literal (Some t) = literal_of m (parts_of t)

  unfoldable pub is_removable : Bool → Option Expression → Statements → Bool
  is_removable allow_break t ss = all_blank allow_break ss && is_literal t

  -- without the removable cases at the end
  unfoldable pub without_end : Cases → Cases
  without_end no_case = no_case
  without_end (case t ss cs) = cut_last (is_removable true t ss) t ss (without_end cs)

  -- without the removable cases right before the last one
  unfoldable pub without_before_last : Cases → Cases
  without_before_last no_case = no_case
  without_before_last (case t ss cs) = cut_before_last (is_removable false t ss) t ss (without_before_last cs)

  -- a Default may not outlive empty cases after it
  abbrev pub unless_default_left : Cases → Cases → Cases
  unless_default_left cs left = cond (has_default left) cs left

  -- by the cases from the Default on: there is none, it is the last, or others follow
  abbrev pub without_empty_by : Cases → Cases → Cases
  without_empty_by cs no_case = unless_default_left cs (without_end cs)
  without_empty_by cs (case t ss no_case) = cond (is_removable true t ss) (unless_default_left cs (without_end cs)) (without_before_last cs)
  without_empty_by cs (case t ss (case u ts r)) = cond (is_removable true t ss) (unless_default_left cs (without_end cs)) cs

  abbrev pub without_empty : Cases → Cases
  without_empty cs = without_empty_by cs (cases_from_default cs)

  abbrev pub finish_switch : Expression → Cases → Folded Statement
  finish_switch e no_case = changed (Expr e)
  finish_switch e (case t ss cs) = folded (Switch e (cases_without_last_break (case t ss cs))) (if_so (cases_end_in_break (case t ss cs)))

  abbrev pub try_fold_switch : Expression → Cases → Folded Statement
  try_fold_switch e cs = plus_changes (if_so (nat_lt (count_cases (without_empty cs)) (count_cases cs))) (finish_switch e (without_empty cs))

  -- selection, and then this fold
  abbrev pub fold_switch : Expression → Cases → Folded Statement
  fold_switch e cs = plus_changes (drop_unreachable_switch_cases m e cs).changes (try_fold_switch e (drop_unreachable_switch_cases m e cs).result)
