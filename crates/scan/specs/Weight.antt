-- What a script weighs, by its tree and by its words (docs/FORMAT.md, "Weight"). A word weighs 1; statements other
-- than Empty one more, a Switch one more again, a case two more, and an If one more where its test is not just
-- expression 0 or 1.
use Rattle.std.specs.Prelude.{ℕ, ◌+◌, Bool, false, cond, List, [], ◌∷◌, length, Some, None, Option, nat_le}
use Rattle.words.specs.declared.word.Kind.{Kind}
use Rattle.words.specs.declared.word.Kind.TheVariants as kind
use Rattle.words.specs.declared.word.Word.{Word}
use Rattle.words.specs.Words.{from_to}
use Rattle.words.specs.Tree.{Expression, expression, Declarator, Name, NameInit, Start, no_start, start_expression, start_var, start_let}
use Rattle.words.specs.Tree.{Statement, Empty, Break, Continue, Block, Expr, Throw, Var, If, IfElse, For, While, Do, Switch, Label, BreakTo, ContinueTo, Return, TryCatch, TryFinally, TryBoth}
use Rattle.words.specs.Tree.{Statements, none, some, Let, Cases, no_case, case}

-- what a word weighs by itself, as an Empty or a Body, a statement, a Switch, a case
abbrev pub plain : ℕ
plain = 1

abbrev pub statement : ℕ
statement = 2

abbrev pub switch : ℕ
switch = 3

abbrev pub one_case : ℕ
one_case = 3

-- the expressions 0 and 1, which are the literals 0 and 1
abbrev pub last_constant : ℕ
last_constant = 1

-- By the tree.

abbrev pub weight_expression : Expression → ℕ
weight_expression (expression x []) = plain
weight_expression (expression x (y ∷ ys)) = plain + length (x ∷ y ∷ ys)

-- what an If's test adds to the If
abbrev pub test_weight : Expression → ℕ
test_weight (expression x []) = cond (nat_le x last_constant) 0 1
test_weight (expression x (y ∷ ys)) = 1

abbrev pub weight_optional : Option Expression → ℕ
weight_optional None = 0
weight_optional (Some e) = weight_expression e

abbrev pub weight_declarator : Declarator → ℕ
weight_declarator (Name x) = plain
weight_declarator (NameInit x e) = plain + weight_expression e

abbrev pub weight_declarators : List Declarator → ℕ
weight_declarators [] = 0
weight_declarators (d ∷ ds) = weight_declarator d + weight_declarators ds

-- a For's declaration weighs as a statement does
abbrev pub weight_start : Start → ℕ
weight_start no_start = 0
weight_start (start_expression e) = weight_expression e
weight_start (start_var d ds) = statement + weight_declarators (d ∷ ds)
weight_start (start_let d ds) = statement + weight_declarators (d ∷ ds)

-- a catch and the name that it binds
abbrev pub weight_catch : Option ℕ → ℕ
weight_catch None = plain
weight_catch (Some x) = plain + plain

abbrev mutual
  pub weight : Statement → ℕ
  weight Empty = plain
  weight Break = statement
  weight Continue = statement
  weight (Block ss) = statement + weight_list ss
  weight (Expr e) = statement + weight_expression e
  weight (Throw e) = statement + weight_expression e
  weight (Var d ds) = statement + weight_declarators (d ∷ ds)
  weight (If e s) = statement + test_weight e + (weight_expression e + weight s)
  weight (IfElse e s t) = statement + test_weight e + (weight_expression e + (weight s + weight t))
  weight (For i t u s) = statement + (weight_start i + (weight_optional t + (weight_optional u + weight s)))
  weight (While e s) = statement + (weight_expression e + weight s)
  weight (Do s e) = statement + (weight s + weight_expression e)
  weight (Switch e cs) = switch + (weight_expression e + weight_cases cs)
  weight (Label l s) = statement + weight s
  weight (BreakTo l) = statement
  weight (ContinueTo l) = statement
  weight (Return e) = statement + weight_optional e
  weight (TryCatch b x c) = statement + (plain + weight_list b + (weight_catch x + weight_list c))
  weight (TryFinally b f) = statement + (plain + weight_list b + (plain + weight_list f))
  weight (TryBoth b x c f) = statement + (plain + weight_list b + (weight_catch x + weight_list c + (plain + weight_list f)))

  pub weight_list : Statements → ℕ
  weight_list none = 0
  weight_list (some s ss) = weight s + weight_list ss
  weight_list (Let d ds ss) = statement + weight_declarators (d ∷ ds) + weight_list ss

  pub weight_cases : Cases → ℕ
  weight_cases no_case = 0
  weight_cases (case t ss cs) = one_case + weight_optional t + weight_list ss + weight_cases cs

-- a Body, so a script
abbrev pub weight_body : Statements → ℕ
weight_body ss = plain + weight_list ss

-- By the words.

-- what a word of a kind weighs, a test aside
abbrev pub weight_kind : Kind → ℕ
weight_kind k =
    cond (from_to kind.Switch kind.Switch k) switch
    (cond (from_to kind.Block kind.Try k) statement
    (cond (from_to kind.Case kind.Default k) one_case plain))

-- whether a word is the expression 0 or 1
abbrev pub is_constant_lem : Word → Bool
is_constant_lem w = cond (from_to kind.Expression kind.Expression w.kind) (nat_le w.number last_constant) false

-- what the words after an If add to it
abbrev pub test_words : List Word → ℕ
test_words [] = 1
test_words (w ∷ ws) = cond (is_constant_lem w) 0 1

-- what the first word weighs, seen with those after it
abbrev pub weight_first : Word → List Word → ℕ
weight_first w ws = weight_kind w.kind + cond (from_to kind.If kind.If w.kind) (test_words ws) 0

abbrev pub weight_words : List Word → ℕ
weight_words [] = 0
weight_words (w ∷ ws) = weight_first w ws + weight_words ws
