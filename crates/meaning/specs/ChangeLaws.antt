-- What changes cost, for every lawful host and whatever labels are to be dropped: each takes at least one off the
-- weight, none is counted where nothing changes and nothing changes where none is counted, and words never grow. So
-- settling comes to an end, at one script, and there every further call makes no change.
use Rattle.std.specs.Prelude.{◌≡◌, ℕ, ◌+◌, ◌≤◌, List, length}
use Rattle.words.specs.Tree.{Statement, Statements}
use Rattle.words.specs.Encode.{encode, encode_body}
use Rattle.scan.specs.Weight.{weight, weight_body}
use Rattle.host.specs.Model.{Model, Lawful}
use Rattle.meaning.specs.Fold.Block.{Parent}
use Rattle.meaning.specs.Pass.{fold, pass_body, Settles}
use Rattle.meaning.specs.Step.{step_body}

-- a statement becomes another by so many changes
pub record Pays (before after : Statement) (n : ℕ) : Type 0 where
  pub weight_falls : weight after + n ≤ weight before
  pub words_never_grow : length (encode after) ≤ length (encode before)
  pub none_same : n ≡ 0 → after ≡ before
  pub same_none : after ≡ before → n ≡ 0

-- the same for a script
pub record PaysScript (before after : Statements) (n : ℕ) : Type 0 where
  pub weight_falls : weight_body after + n ≤ weight_body before
  pub words_never_grow : length (encode_body after) ≤ length (encode_body before)
  pub none_same : n ≡ 0 → after ≡ before
  pub same_none : after ≡ before → n ≡ 0

abbrev pub FoldPays : Type 0
FoldPays = (m : Model) → Lawful m → (dropped : List ℕ) (p : Parent) (s : Statement) → Pays s (fold m dropped p s).result (fold m dropped p s).changes

abbrev pub StepPays : Type 0
StepPays = (m : Model) → Lawful m → (dropped : List ℕ) (place : ℕ) (ss : Statements) → PaysScript ss (step_body m dropped place ss).result (step_body m dropped place ss).changes

abbrev pub PassPays : Type 0
PassPays = (m : Model) → Lawful m → (dropped : List ℕ) (ss : Statements) → PaysScript ss (pass_body m dropped ss).result (pass_body m dropped ss).changes

abbrev pub SettlePays : Type 0
SettlePays = (m : Model) → Lawful m → (dropped : List ℕ) (ss ts : Statements) (n : ℕ) → Settles m dropped ss ts n → PaysScript ss ts n

-- every script settles, at one script and with one number of changes
abbrev pub SettleEnds : Type 0
SettleEnds = (m : Model) → Lawful m → (dropped : List ℕ) (ss : Statements) → (ts : Statements) × (n : ℕ) × Settles m dropped ss ts n

abbrev pub SettleUnique : Type 0
SettleUnique = (m : Model) (dropped : List ℕ) (ss ts us : Statements) (n k : ℕ) → Settles m dropped ss ts n → Settles m dropped ss us k → (ts ≡ us) × (n ≡ k)

-- where a script has settled no call makes a change
pub record Quiet (m : Model) (dropped : List ℕ) (ts : Statements) : Type 0 where
  pub pass_none : (pass_body m dropped ts).changes ≡ 0
  pub step_none : (place : ℕ) → (step_body m dropped place ts).changes ≡ 0
  pub settle_none : (us : Statements) (n : ℕ) → Settles m dropped ts us n → (us ≡ ts) × (n ≡ 0)

abbrev pub SettledQuiet : Type 0
SettledQuiet = (m : Model) → Lawful m → (dropped : List ℕ) (ss ts : Statements) (n : ℕ) → Settles m dropped ss ts n → Quiet m dropped ts
