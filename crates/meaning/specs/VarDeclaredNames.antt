-- VarDeclaredNames of ECMA-262 (Static Semantics: VarDeclaredNames), production by production: the names that a
-- statement's var declarations bind where functions are not in question. A CaseBlock has clauses before its
-- default, the default, and clauses after it; a LexicalDeclaration in a list has none.
use Rattle.std.specs.Prelude.{ℕ, List, [], ◌∷◌, ◌++◌, Some, None}
use Rattle.words.specs.Tree.{Start, no_start, start_expression, start_var, start_let}
use Rattle.words.specs.Tree.{Statement, Empty, Break, Continue, Block, Expr, Throw, Var, If, IfElse, For, While, Do, Switch, Label, BreakTo, ContinueTo, Return, TryCatch, TryFinally, TryBoth}
use Rattle.words.specs.Tree.{Statements, none, some, Let, Cases, no_case, case}
use Rattle.meaning.specs.Run.{bound_names}

-- `for ( var VariableDeclarationList ; .. )` adds its BoundNames, the other forms of a For add none
abbrev pub for_names : Start → List ℕ
for_names no_start = []
for_names (start_expression e) = []
for_names (start_var d ds) = bound_names (d ∷ ds)
for_names (start_let d ds) = []

unfoldable mutual
  pub var_declared_names : Statement → List ℕ
  -- EmptyStatement, ExpressionStatement, ContinueStatement, BreakStatement, ReturnStatement, ThrowStatement
  var_declared_names Empty = []
  var_declared_names Break = []
  var_declared_names Continue = []
  var_declared_names (Expr e) = []
  var_declared_names (Throw e) = []
  var_declared_names (BreakTo l) = []
  var_declared_names (ContinueTo l) = []
  var_declared_names (Return e) = []
  -- Block : { StatementList }
  var_declared_names (Block ss) = names_of_list ss
  -- VariableStatement : var VariableDeclarationList ;
  var_declared_names (Var d ds) = bound_names (d ∷ ds)
  -- IfStatement
  var_declared_names (If e s) = var_declared_names s
  var_declared_names (IfElse e s t) = var_declared_names s ++ var_declared_names t
  -- ForStatement, WhileStatement, DoWhileStatement
  var_declared_names (For i t u s) = for_names i ++ var_declared_names s
  var_declared_names (While e s) = var_declared_names s
  var_declared_names (Do s e) = var_declared_names s
  -- CaseBlock : { CaseClauses DefaultClause CaseClauses }, each of the three perhaps absent
  var_declared_names (Switch e cs) = names_before_default cs ++ (names_of_default cs ++ names_after_default cs)
  -- LabelledStatement : LabelIdentifier : LabelledItem
  var_declared_names (Label l s) = var_declared_names s
  -- TryStatement : try Block Catch, try Block Finally, try Block Catch Finally; Catch : catch ( CatchParameter ) Block
  var_declared_names (TryCatch b x c) = names_of_list b ++ names_of_list c
  var_declared_names (TryFinally b f) = names_of_list b ++ names_of_list f
  var_declared_names (TryBoth b x c f) = names_of_list b ++ (names_of_list c ++ names_of_list f)

  -- StatementList : StatementList StatementListItem
  pub names_of_list : Statements → List ℕ
  names_of_list none = []
  names_of_list (some s ss) = var_declared_names s ++ names_of_list ss
  names_of_list (Let d ds ss) = names_of_list ss

  -- CaseClauses : CaseClauses CaseClause
  pub names_of_clauses : Cases → List ℕ
  names_of_clauses no_case = []
  names_of_clauses (case t ss cs) = names_of_list ss ++ names_of_clauses cs

  -- the first CaseClauses of a CaseBlock, its DefaultClause, and its second CaseClauses
  pub names_before_default : Cases → List ℕ
  names_before_default no_case = []
  names_before_default (case None ss cs) = []
  names_before_default (case (Some e) ss cs) = names_of_list ss ++ names_before_default cs

  pub names_of_default : Cases → List ℕ
  names_of_default no_case = []
  names_of_default (case None ss cs) = names_of_list ss
  names_of_default (case (Some e) ss cs) = names_of_default cs

  pub names_after_default : Cases → List ℕ
  names_after_default no_case = []
  names_after_default (case None ss cs) = names_of_clauses cs
  names_after_default (case (Some e) ss cs) = names_after_default cs
