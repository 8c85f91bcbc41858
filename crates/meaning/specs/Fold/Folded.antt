-- What a fold answers: what it has made, and how many changes that took. A change is counted where it is made,
-- also where a later one of the same fold overtakes it.
use Rattle.std.specs.Prelude.{ℕ, ◌+◌, Bool, cond}

pub record Folded (A : Type 0) : Type 0 where
  pub result : A
  pub changes : ℕ

abbrev pub folded : {A : Type 0} → A → ℕ → Folded A
folded x n = record { result = x; changes = n }

abbrev pub unchanged : {A : Type 0} → A → Folded A
unchanged x = folded x 0

abbrev pub changed : {A : Type 0} → A → Folded A
changed x = folded x 1

-- one change where the test holds
abbrev pub if_so : Bool → ℕ
if_so b = cond b 1 0

-- with the changes made before
abbrev pub plus_changes : {A : Type 0} → ℕ → Folded A → Folded A
plus_changes n f = folded f.result (n + f.changes)
