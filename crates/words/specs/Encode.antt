-- The words of a tree, by the table of docs/FORMAT.md: each word is followed by its parts, in written order.
-- A script is one Body, so its words are `encode_body` of its statements.
use Rattle.std.specs.Prelude.{ℕ, suc, ◌+◌, List, [], ◌∷◌, ◌++◌, map, length, Some, None, Option}
use Rattle.words.specs.declared.word.Kind.TheVariants as kind
use Rattle.words.specs.declared.word.Word.{Word}
use Rattle.words.specs.Words.{word, for_expression, for_declaration, for_test, for_update, if_alternate, return_value, try_catch, try_finalizer}
use Rattle.words.specs.Tree.{Expression, expression, Declarator, Name, NameInit, Start, no_start, start_expression, start_var, start_let}
use Rattle.words.specs.Tree.{Statement, Empty, Break, Continue, Block, Expr, Throw, Var, If, IfElse, For, While, Do, Switch, Label, BreakTo, ContinueTo, Return, TryCatch, TryFinally, TryBoth}
use Rattle.words.specs.Tree.{Statements, none, some, Let, Cases, no_case, case}

abbrev pub encode_expression : Expression → List Word
encode_expression (expression x []) = word kind.Expression x ∷ []
encode_expression (expression x (y ∷ ys)) = word kind.Sequence (length (x ∷ y ∷ ys)) ∷ map (word kind.Expression) (x ∷ y ∷ ys)

abbrev pub encode_optional : Option Expression → List Word
encode_optional None = []
encode_optional (Some e) = encode_expression e

abbrev pub encode_declarator : Declarator → List Word
encode_declarator (Name x) = word kind.Name x ∷ []
encode_declarator (NameInit x e) = word kind.NameInit x ∷ encode_expression e

abbrev pub encode_declarators : List Declarator → List Word
encode_declarators [] = []
encode_declarators (d ∷ ds) = encode_declarator d ++ encode_declarators ds

abbrev pub encode_var : Declarator → List Declarator → List Word
encode_var d ds = word kind.Var (length (d ∷ ds)) ∷ encode_declarators (d ∷ ds)

abbrev pub encode_let : Declarator → List Declarator → List Word
encode_let d ds = word kind.Let (length (d ∷ ds)) ∷ encode_declarators (d ∷ ds)

abbrev pub encode_start : Start → List Word
encode_start no_start = []
encode_start (start_expression e) = encode_expression e
encode_start (start_var d ds) = encode_var d ds
encode_start (start_let d ds) = encode_let d ds

-- a number where there is an expression, else 0
abbrev pub flag : ℕ → Option Expression → ℕ
flag n None = 0
flag n (Some e) = n

-- which parts a For has, by its number
abbrev pub start_flag : Start → ℕ
start_flag no_start = 0
start_flag (start_expression e) = for_expression
start_flag (start_var d ds) = for_declaration
start_flag (start_let d ds) = for_declaration

abbrev pub for_number : Start → Option Expression → Option Expression → ℕ
for_number i t u = start_flag i + (flag for_test t + flag for_update u)

-- how many statements a list has
abbrev pub count : Statements → ℕ
count none = 0
count (some s ss) = suc (count ss)
count (Let d ds ss) = suc (count ss)

abbrev pub count_cases : Cases → ℕ
count_cases no_case = 0
count_cases (case t ss cs) = suc (count_cases cs)

-- a catch of n statements, up to the first of them
abbrev pub catch_head : Option ℕ → ℕ → List Word
catch_head None n = word kind.Catch n ∷ []
catch_head (Some x) n = word kind.CatchName n ∷ word kind.Name x ∷ []

-- a case of n statements, up to the first of them
abbrev pub case_head : Option Expression → ℕ → List Word
case_head None n = word kind.Default n ∷ []
case_head (Some e) n = word kind.Case n ∷ encode_expression e

abbrev mutual
  pub encode : Statement → List Word
  encode Empty = word kind.Empty 0 ∷ []
  encode Break = word kind.Break 0 ∷ []
  encode Continue = word kind.Continue 0 ∷ []
  encode (Block ss) = word kind.Block (count ss) ∷ encode_list ss
  encode (Expr e) = word kind.Expr 0 ∷ encode_expression e
  encode (Throw e) = word kind.Throw 0 ∷ encode_expression e
  encode (Var d ds) = encode_var d ds
  encode (If e s) = word kind.If 0 ∷ encode_expression e ++ encode s
  encode (IfElse e s t) = word kind.If if_alternate ∷ encode_expression e ++ (encode s ++ encode t)
  encode (For i t u s) = word kind.For (for_number i t u) ∷ encode_start i ++ (encode_optional t ++ (encode_optional u ++ encode s))
  encode (While e s) = word kind.While 0 ∷ encode_expression e ++ encode s
  encode (Do s e) = word kind.Do 0 ∷ encode s ++ encode_expression e
  encode (Switch e cs) = word kind.Switch (count_cases cs) ∷ encode_expression e ++ encode_cases cs
  encode (Label l s) = word kind.Label l ∷ encode s
  encode (BreakTo l) = word kind.BreakTo l ∷ []
  encode (ContinueTo l) = word kind.ContinueTo l ∷ []
  encode (Return e) = word kind.Return (flag return_value e) ∷ encode_optional e
  encode (TryCatch b x c) = word kind.Try try_catch ∷ (word kind.Body (count b) ∷ encode_list b) ++ (catch_head x (count c) ++ encode_list c)
  encode (TryFinally b f) = word kind.Try try_finalizer ∷ (word kind.Body (count b) ∷ encode_list b) ++ (word kind.Body (count f) ∷ encode_list f)
  encode (TryBoth b x c f) = word kind.Try (try_catch + try_finalizer) ∷ (word kind.Body (count b) ∷ encode_list b) ++ ((catch_head x (count c) ++ encode_list c) ++ (word kind.Body (count f) ∷ encode_list f))

  pub encode_list : Statements → List Word
  encode_list none = []
  encode_list (some s ss) = encode s ++ encode_list ss
  encode_list (Let d ds ss) = encode_let d ds ++ encode_list ss

  pub encode_cases : Cases → List Word
  encode_cases no_case = []
  encode_cases (case t ss cs) = (case_head t (count ss) ++ encode_list ss) ++ encode_cases cs

-- one Body, catch or case, with its statements
abbrev pub encode_body : Statements → List Word
encode_body ss = word kind.Body (count ss) ∷ encode_list ss

abbrev pub encode_catch : Option ℕ → Statements → List Word
encode_catch x c = catch_head x (count c) ++ encode_list c

abbrev pub encode_case : Option Expression → Statements → List Word
encode_case t ss = case_head t (count ss) ++ encode_list ss
