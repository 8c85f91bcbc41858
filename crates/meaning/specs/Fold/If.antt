-- try_fold_if: an If whose test has a known truth. Alternates that are Ifs are folded first, from the innermost
-- outwards, and an empty alternate goes. A test without effects is written as the literal 1 or 0. Vars of the dead
-- branch that are not granted stay as a stub; else the branch goes, and where the test has no effects the whole If.
--   before: `if (0) var x = f; else g`   after: `if (0) var x; else g`, or `g` where x is granted
--   before: `if ((f, 1)) g; else h`   after: `if ((f, 1)) g`
use Rattle.std.specs.Prelude.{ℕ, ◌+◌, Bool, true, false, cond, not, List, [], ◌∷◌, Some, None, Option, ◌==◌}
use Rattle.words.specs.Tree.{Expression, expression}
use Rattle.words.specs.Tree.{Statement, Empty, Break, Continue, Block, Expr, Throw, Var, If, IfElse, For, While, Do, Switch, Label, BreakTo, ContinueTo, Return, TryCatch, TryFinally, TryBoth}
use Rattle.words.specs.Tree.{none, some, Let}
use Rattle.host.specs.Model.{Model}
use Rattle.host.specs.Sequence.{parts_of, truth_of, effects_of}
use Rattle.meaning.specs.Fold.Folded.{Folded, folded, unchanged, changed, if_so, plus_changes}
use Rattle.meaning.specs.Fold.KeepVar.{keep_var, stub_var}
use Rattle.meaning.specs.Fold.IsTerminated.{is_bare_var}

abbrev pub if_statement : Expression → Statement → Option Statement → Statement
if_statement e s None = If e s
if_statement e s (Some t) = IfElse e s t

-- the literal that a test of this truth is written as
abbrev pub literal_number : Bool → ℕ
literal_number true = 1
literal_number false = 0

abbrev pub literal_test : Bool → Expression
literal_test b = expression (literal_number b) []

abbrev pub is_literal_test : Bool → Expression → Bool
is_literal_test b (expression x []) = x == literal_number b
is_literal_test b (expression x (y ∷ ys)) = false

abbrev pub is_empty : Statement → Bool
is_empty Empty = true
is_empty Break = false
is_empty Continue = false
is_empty (Block ss) = false
is_empty (Expr e) = false
is_empty (Throw e) = false
is_empty (Var d ds) = false
is_empty (If e s) = false
is_empty (IfElse e s t) = false
is_empty (For i t u s) = false
is_empty (While e s) = false
is_empty (Do s e) = false
is_empty (Switch e cs) = false
is_empty (Label l s) = false
is_empty (BreakTo l) = false
is_empty (ContinueTo l) = false
is_empty (Return e) = false
is_empty (TryCatch b x c) = false
is_empty (TryFinally b f) = false
is_empty (TryBoth b x c f) = false

abbrev pub or_empty : Option Statement → Statement
or_empty None = Empty
or_empty (Some s) = s

abbrev pub keep_optional : Option Statement → List ℕ
keep_optional None = []
keep_optional (Some s) = keep_var s

abbrev pub is_present : Option Statement → Bool
is_present None = false
is_present (Some s) = true

-- a dead branch as a stub of these names; a Var without initializers is left as it is
abbrev pub stub_branch : Statement → ℕ → List ℕ → Folded Statement
stub_branch s x xs = cond (is_bare_var s) (unchanged s) (changed (stub_var x xs))

-- the same for an alternate; that there is a name shows that there is an alternate
abbrev pub stub_alternate : Option Statement → ℕ → List ℕ → Folded (Option Statement)
stub_alternate None x xs = unchanged None
stub_alternate (Some s) x xs = folded (Some (stub_branch s x xs).result) (stub_branch s x xs).changes

module _ (m : Model) where
  -- the names that have to stay
  abbrev pub not_granted : List ℕ → List ℕ
  not_granted [] = []
  not_granted (x ∷ xs) = cond (m.granted? x) (not_granted xs) (x ∷ not_granted xs)

  -- a test of this truth, written as a literal where it has no effects
  abbrev pub write_test : Bool → Expression → Folded Expression
  write_test b e = cond (effects_of m (parts_of e)) (unchanged e) (folded (literal_test b) (if_so (not (is_literal_test b e))))

  -- no name of a dead alternate, or a dead consequent, has to stay
  abbrev pub drop_alternate : Expression → Statement → Option Statement → Folded Statement
  drop_alternate e s alternate = cond (effects_of m (parts_of e)) (folded (If e s) (if_so (is_present alternate))) (changed s)

  abbrev pub drop_consequent : Expression → Statement → Option Statement → Folded Statement
  drop_consequent e s alternate =
      cond (effects_of m (parts_of e)) (folded (if_statement e Empty alternate) (if_so (not (is_empty s)))) (changed (or_empty alternate))

  -- the test is true: these names of the alternate have to stay
  abbrev pub fold_true : List ℕ → Expression → Statement → Option Statement → Folded Statement
  fold_true [] e s alternate = plus_changes (write_test true e).changes (drop_alternate e s alternate)
  fold_true (x ∷ xs) e s alternate =
      folded (if_statement (write_test true e).result s (stub_alternate alternate x xs).result) ((write_test true e).changes + (stub_alternate alternate x xs).changes)

  -- the test is false: these names of the consequent have to stay
  abbrev pub fold_false : List ℕ → Expression → Statement → Option Statement → Folded Statement
  fold_false [] e s alternate = plus_changes (write_test false e).changes (drop_consequent e s alternate)
  fold_false (x ∷ xs) e s alternate =
      folded (if_statement (write_test false e).result (stub_branch s x xs).result alternate) ((write_test false e).changes + (stub_branch s x xs).changes)

  abbrev pub fold_test : Option Bool → Expression → Statement → Option Statement → Folded Statement
  fold_test None e s alternate = unchanged (if_statement e s alternate)
  fold_test (Some true) e s alternate = fold_true (not_granted (keep_optional alternate)) e s alternate
  fold_test (Some false) e s alternate = fold_false (not_granted (keep_var s)) e s alternate

  abbrev pub fold_parts : Expression → Statement → Option Statement → Folded Statement
  fold_parts e s alternate = fold_test (truth_of m (parts_of e)) e s alternate

  abbrev pub as_alternate : Folded Statement → Folded (Option Statement)
  as_alternate f = folded (Some f.result) f.changes

  -- an alternate: an If is folded, an empty one goes
  unfoldable pub fold_alternate : Statement → Folded (Option Statement)
  fold_alternate Empty = changed None
  fold_alternate Break = unchanged (Some Break)
  fold_alternate Continue = unchanged (Some Continue)
  fold_alternate (Block none) = changed None
  fold_alternate (Block (some s ss)) = unchanged (Some (Block (some s ss)))
  fold_alternate (Block (Let d ds ss)) = unchanged (Some (Block (Let d ds ss)))
  fold_alternate (Expr e) = unchanged (Some (Expr e))
  fold_alternate (Throw e) = unchanged (Some (Throw e))
  fold_alternate (Var d ds) = unchanged (Some (Var d ds))
  fold_alternate (If e s) = as_alternate (fold_parts e s None)
  fold_alternate (IfElse e s t) = as_alternate (plus_changes (fold_alternate t).changes (fold_parts e s (fold_alternate t).result))
  fold_alternate (For i t u s) = unchanged (Some (For i t u s))
  fold_alternate (While e s) = unchanged (Some (While e s))
  fold_alternate (Do s e) = unchanged (Some (Do s e))
  fold_alternate (Switch e cs) = unchanged (Some (Switch e cs))
  fold_alternate (Label l s) = unchanged (Some (Label l s))
  fold_alternate (BreakTo l) = unchanged (Some (BreakTo l))
  fold_alternate (ContinueTo l) = unchanged (Some (ContinueTo l))
  fold_alternate (Return e) = unchanged (Some (Return e))
  fold_alternate (TryCatch b x c) = unchanged (Some (TryCatch b x c))
  fold_alternate (TryFinally b f) = unchanged (Some (TryFinally b f))
  fold_alternate (TryBoth b x c f) = unchanged (Some (TryBoth b x c f))

  abbrev pub try_fold_if : Expression → Statement → Folded Statement
  try_fold_if e s = fold_parts e s None

  abbrev pub try_fold_if_else : Expression → Statement → Statement → Folded Statement
  try_fold_if_else e s t = plus_changes (fold_alternate t).changes (fold_parts e s (fold_alternate t).result)
