-- IsTerminated: whether a statement never completes normally, as far as its shape tells.
--   before: `{ return; var x }`   answer: yes, since Vars without initializers at the end are passed over
--   before: `try { return } finally { f }`   answer: yes, since no catch can take the run elsewhere
use Rattle.std.specs.Prelude.{Bool, true, false, cond, ◌&&◌, ◌||◌, List, [], ◌∷◌}
use Rattle.words.specs.Tree.{Declarator, Name, NameInit}
use Rattle.words.specs.Tree.{Statement, Empty, Break, Continue, Block, Expr, Throw, Var, If, IfElse, For, While, Do, Switch, Label, BreakTo, ContinueTo, Return, TryCatch, TryFinally, TryBoth}
use Rattle.words.specs.Tree.{Statements, none, some, Let}

-- no initializer among them
abbrev pub all_bare : List Declarator → Bool
all_bare [] = true
all_bare (Name x ∷ ds) = all_bare ds
all_bare (NameInit x e ∷ ds) = false

-- a Var without initializers, as a stub is
unfoldable pub is_bare_var : Statement → Bool
is_bare_var Empty = false
is_bare_var Break = false
is_bare_var Continue = false
is_bare_var (Block ss) = false
is_bare_var (Expr e) = false
is_bare_var (Throw e) = false
is_bare_var (Var d ds) = all_bare (d ∷ ds)
is_bare_var (If e s) = false
is_bare_var (IfElse e s t) = false
is_bare_var (For i t u s) = false
is_bare_var (While e s) = false
is_bare_var (Do s e) = false
is_bare_var (Switch e cs) = false
is_bare_var (Label l s) = false
is_bare_var (BreakTo l) = false
is_bare_var (ContinueTo l) = false
is_bare_var (Return e) = false
is_bare_var (TryCatch b x c) = false
is_bare_var (TryFinally b f) = false
is_bare_var (TryBoth b x c f) = false

unfoldable pub all_bare_vars : Statements → Bool
all_bare_vars none = true
all_bare_vars (some s ss) = is_bare_var s && all_bare_vars ss
all_bare_vars (Let d ds ss) = false

unfoldable mutual
  pub is_terminated : Statement → Bool
  is_terminated Empty = false
  is_terminated Break = true
  is_terminated Continue = true
  is_terminated (Block ss) = is_terminated_list ss
  is_terminated (Expr e) = false
  is_terminated (Throw e) = true
  is_terminated (Var d ds) = false
  is_terminated (If e s) = false
  is_terminated (IfElse e s t) = is_terminated t && is_terminated s
  is_terminated (For i t u s) = false
  is_terminated (While e s) = false
  is_terminated (Do s e) = false
  is_terminated (Switch e cs) = false
  is_terminated (Label l s) = false
  is_terminated (BreakTo l) = true
  is_terminated (ContinueTo l) = true
  is_terminated (Return e) = true
  is_terminated (TryCatch b x c) = is_terminated_list b && is_terminated_list c
  is_terminated (TryFinally b f) = is_terminated_list f || is_terminated_list b
  is_terminated (TryBoth b x c f) = is_terminated_list f || (is_terminated_list b && is_terminated_list c)

  -- the last statement that is no Var without initializers tells
  pub is_terminated_list : Statements → Bool
  is_terminated_list none = false
  is_terminated_list (some s ss) = cond (all_bare_vars ss) (is_terminated s) (is_terminated_list ss)
  is_terminated_list (Let d ds ss) = is_terminated_list ss
