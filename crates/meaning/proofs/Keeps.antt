-- Stubs and joined lists keep the rules.
use Rattle.std.proofs.Common.{ℕ, ◌≤◌, List, [], ◌∷◌, ◌++◌, map}
use Rattle.words.specs.Tree.{Declarator, Name}
use Rattle.words.specs.Tree.{Statements, none, some, Let}
use Rattle.checker.specs.Check.{Around, depth_limit}
use Rattle.checker.specs.Rules.{Keeps, KeepsList, KnownDeclarators, AllBelow}
use Rattle.meaning.specs.Fold.KeepVar.{stub_var, stub_or_empty, stub_list}
use Rattle.meaning.specs.Fold.Select.{join}

pub known_names : (count : ℕ) (ns : List ℕ) → KnownDeclarators count (map Name ns)
known_names count [] = tt
known_names count (n ∷ ns) = (tt, known_names count ns)

pub keeps_stub_var : (count : ℕ) (a : Around) (x : ℕ) (xs : List ℕ) → a.depth ≤ depth_limit → Keeps count a (stub_var x xs)
keeps_stub_var count a x xs q = (q, (tt, known_names count xs))

pub keeps_stub_or_empty : (count : ℕ) (a : Around) (ns : List ℕ) → a.depth ≤ depth_limit → Keeps count a (stub_or_empty ns)
keeps_stub_or_empty count a [] q = q
keeps_stub_or_empty count a (n ∷ ns) q = keeps_stub_var count a n ns q

pub keeps_stub_list : (count : ℕ) (a : Around) (ns : List ℕ) → a.depth ≤ depth_limit → KeepsList count a (stub_list ns)
keeps_stub_list count a [] q = tt
keeps_stub_list count a (n ∷ ns) q = (keeps_stub_var count a n ns q, tt)

pub keeps_join : (count : ℕ) (a : Around) (ss ts : Statements) → KeepsList count a ss → KeepsList count a ts → KeepsList count a (join ss ts)
keeps_join count a none ts p q = q
keeps_join count a (some s ss) ts p q = (p.0, keeps_join count a ss ts p.1 q)
keeps_join count a (Let d ds ss) ts p q = (p.0, p.1, keeps_join count a ss ts p.2 q)

pub known_append : (count : ℕ) (ds es : List Declarator) → KnownDeclarators count ds → KnownDeclarators count es → KnownDeclarators count (ds ++ es)
known_append count [] es p q = q
known_append count (d ∷ ds) es p q = (p.0, known_append count ds es p.1 q)

pub below_append : (count : ℕ) (xs ys : List ℕ) → AllBelow count xs → AllBelow count ys → AllBelow count (xs ++ ys)
below_append count [] ys p q = q
below_append count (x ∷ xs) ys p q = (p.0, below_append count xs ys p.1 q)
