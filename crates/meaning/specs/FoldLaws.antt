-- What folding keeps. Whatever labels are to be dropped: the rules of a script. With no labels to drop: for every
-- lawful host its run, from every world and with any number of rounds left; for every host its hoisted names, but for granted ones.
use Rattle.std.specs.Prelude.{◌≡◌, ℕ, ◌≤◌, true, false, List, []}
use Rattle.words.specs.Tree.{Statement, Statements}
use Rattle.host.specs.Model.{Model, Lawful}
use Rattle.checker.specs.Check.{Around, nowhere}
use Rattle.slices.specs.Among.{among}
use Rattle.checker.specs.Rules.{Keeps, KeepsList}
use Rattle.meaning.specs.Run.{run, run_body}
use Rattle.meaning.specs.Fold.Block.{Parent}
use Rattle.meaning.specs.Fold.KeepVar.{keep_var, keep_list}
use Rattle.meaning.specs.Pass.{fold, pass_body, Settles}
use Rattle.meaning.specs.Step.{step_body}

-- Surroundings as they come about in a script: all labels in question are around, and those set on the statement
-- itself are set on no loop around it.
pub record Sound (a : Around) : Type 0 where
  pub apart : (l : ℕ) → among l a.iteration_set ≡ true → among l a.label_set ≡ false
  pub targets : (l : ℕ) → among l a.iteration_set ≡ true → among l a.labels ≡ true
  pub own : (l : ℕ) → among l a.label_set ≡ true → among l a.labels ≡ true

-- a statement that keeps the rules becomes one that does; the literals 0 and 1 have to be there
abbrev pub FoldKeepsRules : Type 0
FoldKeepsRules = (m : Model) → 2 ≤ m.count → (dropped : List ℕ) (p : Parent) (s : Statement) (a : Around) → Keeps m.count a s → Keeps m.count a (fold m dropped p s).result

-- and so does a script
abbrev pub KeepsRules : Model → Statements → Statements → Type 0
KeepsRules m before after = KeepsList m.count nowhere before → KeepsList m.count nowhere after

abbrev pub StepKeepsRules : Type 0
StepKeepsRules = (m : Model) → 2 ≤ m.count → (dropped : List ℕ) (place : ℕ) (ss : Statements) → KeepsRules m ss (step_body m dropped place ss).result

abbrev pub PassKeepsRules : Type 0
PassKeepsRules = (m : Model) → 2 ≤ m.count → (dropped : List ℕ) (ss : Statements) → KeepsRules m ss (pass_body m dropped ss).result

abbrev pub SettleKeepsRules : Type 0
SettleKeepsRules = (m : Model) → 2 ≤ m.count → (dropped : List ℕ) (ss ts : Statements) (n : ℕ) → Settles m dropped ss ts n → KeepsRules m ss ts

-- a statement that keeps the rules is folded to one that does, and that runs as it did
abbrev pub FoldKeepsRun : Type 0
FoldKeepsRun = (m : Model) → Lawful m → (p : Parent) (s : Statement) (a : Around) → Sound a → Keeps m.count a s →
    Keeps m.count a (fold m [] p s).result × (run m (fold m [] p s).result a.label_set ≡ run m s a.label_set)

-- the script after is accepted where the script before is, and runs as it does
abbrev pub KeepsRun : Model → Statements → Statements → Type 0
KeepsRun m before after = KeepsList m.count nowhere before → KeepsList m.count nowhere after × (run_body m after ≡ run_body m before)

abbrev pub StepKeepsRun : Type 0
StepKeepsRun = (m : Model) → Lawful m → (place : ℕ) (ss : Statements) → KeepsRun m ss (step_body m [] place ss).result

abbrev pub PassKeepsRun : Type 0
PassKeepsRun = (m : Model) → Lawful m → (ss : Statements) → KeepsRun m ss (pass_body m [] ss).result

abbrev pub SettleKeepsRun : Type 0
SettleKeepsRun = (m : Model) → Lawful m → (ss ts : Statements) (n : ℕ) → Settles m [] ss ts n → KeepsRun m ss ts

-- names after are among those before, and names gone are granted
pub record NamesLeft (m : Model) (before after : List ℕ) : Type 0 where
  pub old : (x : ℕ) → among x after ≡ true → among x before ≡ true
  pub granted : (x : ℕ) → among x before ≡ true → among x after ≡ false → m.granted? x ≡ true

abbrev pub FoldKeepsNames : Type 0
FoldKeepsNames = (m : Model) (p : Parent) (s : Statement) → NamesLeft m (keep_var s) (keep_var (fold m [] p s).result)

abbrev pub StepKeepsNames : Type 0
StepKeepsNames = (m : Model) (place : ℕ) (ss : Statements) → NamesLeft m (keep_list ss) (keep_list (step_body m [] place ss).result)

abbrev pub PassKeepsNames : Type 0
PassKeepsNames = (m : Model) (ss : Statements) → NamesLeft m (keep_list ss) (keep_list (pass_body m [] ss).result)

abbrev pub SettleKeepsNames : Type 0
SettleKeepsNames = (m : Model) (ss ts : Statements) (n : ℕ) → Settles m [] ss ts n → NamesLeft m (keep_list ss) (keep_list ts)
