-- The rules that a script keeps, on trees: each statement in its surroundings, by constructor. Where a Let may
-- stand and which parts a statement has is part of the tree itself. Jumps and labels keep the early errors of
-- ECMA-262: Break stands in a loop or Switch, Continue in a loop, BreakTo in a statement with its label
-- (ContainsUndefinedBreakTarget), ContinueTo in a loop with its label set on it (ContainsUndefinedContinueTarget),
-- and no label stands inside a statement with the same one (ContainsDuplicateLabels).
use Rattle.std.specs.Prelude.{◌≡◌, ℕ, ◌+◌, ◌<◌, ◌≤◌, true, false, List, [], ◌∷◌, ◌++◌, Some, None, Option}
use Rattle.words.specs.declared.word.Word.{Word}
use Rattle.words.specs.Tree.{Expression, expression, Declarator, Name, NameInit, Start, no_start, start_expression, start_var, start_let}
use Rattle.words.specs.Tree.{Statement, Empty, Break, Continue, Block, Expr, Throw, Var, If, IfElse, For, While, Do, Switch, Label, BreakTo, ContinueTo, Return, TryCatch, TryFinally, TryBoth}
use Rattle.words.specs.Tree.{Statements, none, some, Let, Cases, no_case, case}
use Rattle.words.specs.Encode.{encode_body}
use Rattle.checker.specs.Check.{Around, depth_limit, nowhere}
use Rattle.slices.specs.Among.{among}

-- what is around the parts of a statement: one statement more, and labels that are set on no statement inside but a Label's own body
abbrev pub inside : Around → Around
inside a = record { depth = a.depth + 1; in_loop = a.in_loop; in_breakable = a.in_breakable; labels = a.labels; label_set = []; iteration_set = a.iteration_set }

abbrev pub loop_body : Around → Around
loop_body a = record { depth = a.depth + 1; in_loop = true; in_breakable = true; labels = a.labels; label_set = []; iteration_set = a.iteration_set ++ a.label_set }

abbrev pub switch_case : Around → Around
switch_case a = record { depth = a.depth + 1; in_loop = a.in_loop; in_breakable = true; labels = a.labels; label_set = []; iteration_set = a.iteration_set }

abbrev pub labelled : ℕ → Around → Around
labelled l a = record { depth = a.depth + 1; in_loop = a.in_loop; in_breakable = a.in_breakable; labels = a.labels ++ l ∷ []; label_set = a.label_set ++ l ∷ []; iteration_set = a.iteration_set }

-- the statements of a list are around none of each other, and no label is set on them
abbrev pub listed : Around → Around
listed a = record { depth = a.depth; in_loop = a.in_loop; in_breakable = a.in_breakable; labels = a.labels; label_set = []; iteration_set = a.iteration_set }

-- every expression is below the host's count
abbrev pub AllBelow : ℕ → List ℕ → Type 0
AllBelow count [] = Unit {0}
AllBelow count (e ∷ es) = (e < count) × AllBelow count es

abbrev pub Known : ℕ → Expression → Type 0
Known count (expression e es) = AllBelow count (e ∷ es)

abbrev pub KnownOptional : ℕ → Option Expression → Type 0
KnownOptional count None = Unit {0}
KnownOptional count (Some e) = Known count e

abbrev pub KnownDeclarator : ℕ → Declarator → Type 0
KnownDeclarator count (Name x) = Unit {0}
KnownDeclarator count (NameInit x e) = Known count e

abbrev pub KnownDeclarators : ℕ → List Declarator → Type 0
KnownDeclarators count [] = Unit {0}
KnownDeclarators count (d ∷ ds) = KnownDeclarator count d × KnownDeclarators count ds

abbrev pub KnownStart : ℕ → Start → Type 0
KnownStart count no_start = Unit {0}
KnownStart count (start_expression e) = Known count e
KnownStart count (start_var d ds) = KnownDeclarators count (d ∷ ds)
KnownStart count (start_let d ds) = KnownDeclarators count (d ∷ ds)

-- at most one Default
abbrev pub NoDefault : Cases → Type 0
NoDefault no_case = Unit {0}
NoDefault (case None ss cs) = ⊥
NoDefault (case (Some e) ss cs) = NoDefault cs

abbrev pub OneDefault : Cases → Type 0
OneDefault no_case = Unit {0}
OneDefault (case None ss cs) = NoDefault cs
OneDefault (case (Some e) ss cs) = OneDefault cs

-- a statement or case has at most so many statements around it
abbrev pub NotDeep : Around → Type 0
NotDeep a = a.depth ≤ depth_limit

abbrev mutual
  pub Keeps : ℕ → Around → Statement → Type 0
  Keeps count a Empty = NotDeep a
  Keeps count a Break = NotDeep a × (a.in_breakable ≡ true)
  Keeps count a Continue = NotDeep a × (a.in_loop ≡ true)
  Keeps count a (Block ss) = NotDeep a × KeepsList count (inside a) ss
  Keeps count a (Expr e) = NotDeep a × Known count e
  Keeps count a (Throw e) = NotDeep a × Known count e
  Keeps count a (Var d ds) = NotDeep a × KnownDeclarators count (d ∷ ds)
  Keeps count a (If e s) = NotDeep a × Known count e × Keeps count (inside a) s
  Keeps count a (IfElse e s t) = NotDeep a × Known count e × Keeps count (inside a) s × Keeps count (inside a) t
  Keeps count a (For i t u s) = NotDeep a × KnownStart count i × KnownOptional count t × KnownOptional count u × Keeps count (loop_body a) s
  Keeps count a (While e s) = NotDeep a × Known count e × Keeps count (loop_body a) s
  Keeps count a (Do s e) = NotDeep a × Keeps count (loop_body a) s × Known count e
  Keeps count a (Switch e cs) = NotDeep a × Known count e × KeepsCases count (switch_case a) cs × OneDefault cs
  Keeps count a (Label l s) = NotDeep a × (among l a.labels ≡ false) × Keeps count (labelled l a) s
  Keeps count a (BreakTo l) = NotDeep a × (among l a.labels ≡ true)
  Keeps count a (ContinueTo l) = NotDeep a × (among l a.iteration_set ≡ true)
  Keeps count a (Return e) = NotDeep a × KnownOptional count e
  Keeps count a (TryCatch b x c) = NotDeep a × KeepsList count (inside a) b × KeepsList count (inside a) c
  Keeps count a (TryFinally b f) = NotDeep a × KeepsList count (inside a) b × KeepsList count (inside a) f
  Keeps count a (TryBoth b x c f) = NotDeep a × KeepsList count (inside a) b × KeepsList count (inside a) c × KeepsList count (inside a) f

  pub KeepsList : ℕ → Around → Statements → Type 0
  KeepsList count a none = Unit {0}
  KeepsList count a (some s ss) = Keeps count a s × KeepsList count a ss
  KeepsList count a (Let d ds ss) = NotDeep a × KnownDeclarators count (d ∷ ds) × KeepsList count a ss

  pub KeepsCases : ℕ → Around → Cases → Type 0
  KeepsCases count a no_case = Unit {0}
  KeepsCases count a (case t ss cs) = NotDeep a × KnownOptional count t × KeepsList count (listed a) ss × KeepsCases count a cs

-- a script with these words keeps the rules, for a host of so many expressions
abbrev pub Script : ℕ → List Word → Type 0
Script count ws = (ss : Statements) × KeepsList count nowhere ss × (ws ≡ encode_body ss)
