-- The statement tree of a script, after the statements of ECMA-262 (Statements and Declarations):
-- what the words of a script stand for. Expressions, names and labels are numbers.
-- Rules that its shape carries: a Var or Let declares at least one name, a Sequence has at least two
-- expressions, a Try has a catch or a finalizer, and a Let stands in a list of statements or begins a For.
use Rattle.std.specs.Prelude.{ℕ, List, Option}

-- expressions evaluated in order, by number: one alone, or the two or more of a Sequence
pub data Expression : Type 0 where
  expression : ℕ → List ℕ → Expression

-- a declared name, with its initializer if it has one
pub data Declarator : Type 0 where
  Name : ℕ → Declarator
  NameInit : ℕ → Expression → Declarator

-- how a For begins
pub data Start : Type 0 where
  no_start : Start
  start_expression : Expression → Start
  start_var start_let : Declarator → List Declarator → Start

mutual
  pub data Statement : Type 0 where
    Empty Break Continue : Statement
    Block : Statements → Statement
    Expr Throw : Expression → Statement
    Var : Declarator → List Declarator → Statement
    If : Expression → Statement → Statement
    IfElse : Expression → Statement → Statement → Statement
    -- start, test, update, body
    For : Start → Option Expression → Option Expression → Statement → Statement
    While : Expression → Statement → Statement
    Do : Statement → Expression → Statement
    Switch : Expression → Cases → Statement
    Label : ℕ → Statement → Statement
    BreakTo ContinueTo : ℕ → Statement
    Return : Option Expression → Statement
    -- body, the name that the catch binds if it binds one, catch, finalizer
    TryCatch : Statements → Option ℕ → Statements → Statement
    TryFinally : Statements → Statements → Statement
    TryBoth : Statements → Option ℕ → Statements → Statements → Statement

  -- a list of statements; a Let is a statement of its list and stands nowhere else
  pub data Statements : Type 0 where
    none : Statements
    some : Statement → Statements → Statements
    Let : Declarator → List Declarator → Statements → Statements

  -- the cases of a Switch; a case without a test is its Default
  pub data Cases : Type 0 where
    no_case : Cases
    case : Option Expression → Statements → Cases → Cases
