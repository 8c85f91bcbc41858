-- KeepVar: the names that the Vars of a statement declare, For's included, in written order and with repeats; and
-- the stub that stands for code that is dropped, a Var of those names.
--   before: `if (0) { var x = f, y; for (var i;;); }`   stub: `var x, y, i`
use Rattle.std.specs.Prelude.{ℕ, List, [], ◌∷◌, ◌++◌, map}
use Rattle.words.specs.Tree.{Name, Start, no_start, start_expression, start_var, start_let}
use Rattle.words.specs.Tree.{Statement, Empty, Break, Continue, Block, Expr, Throw, Var, If, IfElse, For, While, Do, Switch, Label, BreakTo, ContinueTo, Return, TryCatch, TryFinally, TryBoth}
use Rattle.words.specs.Tree.{Statements, none, some, Let, Cases, no_case, case}
use Rattle.meaning.specs.Run.{bound_names}

abbrev pub keep_start : Start → List ℕ
keep_start no_start = []
keep_start (start_expression e) = []
keep_start (start_var d ds) = bound_names (d ∷ ds)
keep_start (start_let d ds) = []

unfoldable mutual
  pub keep_var : Statement → List ℕ
  keep_var Empty = []
  keep_var Break = []
  keep_var Continue = []
  keep_var (Block ss) = keep_list ss
  keep_var (Expr e) = []
  keep_var (Throw e) = []
  keep_var (Var d ds) = bound_names (d ∷ ds)
  keep_var (If e s) = keep_var s
  keep_var (IfElse e s t) = keep_var s ++ keep_var t
  keep_var (For i t u s) = keep_start i ++ keep_var s
  keep_var (While e s) = keep_var s
  keep_var (Do s e) = keep_var s
  keep_var (Switch e cs) = keep_cases cs
  keep_var (Label l s) = keep_var s
  keep_var (BreakTo l) = []
  keep_var (ContinueTo l) = []
  keep_var (Return e) = []
  keep_var (TryCatch b x c) = keep_list b ++ keep_list c
  keep_var (TryFinally b f) = keep_list b ++ keep_list f
  keep_var (TryBoth b x c f) = keep_list b ++ (keep_list c ++ keep_list f)

  pub keep_list : Statements → List ℕ
  keep_list none = []
  keep_list (some s ss) = keep_var s ++ keep_list ss
  keep_list (Let d ds ss) = keep_list ss

  pub keep_cases : Cases → List ℕ
  keep_cases no_case = []
  keep_cases (case t ss cs) = keep_list ss ++ keep_cases cs

-- a Var of these names, without initializers
abbrev pub stub_var : ℕ → List ℕ → Statement
stub_var x xs = Var (Name x) (map Name xs)

-- the stub, or an Empty where there is no name
abbrev pub stub_or_empty : List ℕ → Statement
stub_or_empty [] = Empty
stub_or_empty (x ∷ xs) = stub_var x xs

-- the stub as a list of statements, none where there is no name
abbrev pub stub_list : List ℕ → Statements
stub_list [] = none
stub_list (x ∷ xs) = some (stub_var x xs) none
