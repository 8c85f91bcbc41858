-- Places as folds and words count them, and the arm of try_fold_if that a script never reaches.
use Rattle.std.specs.Prelude.{◌≡◌, ℕ, ◌≤◌, true, List, ◌∷◌, length, Option}
use Rattle.words.specs.Tree.{Statement, Statements}
use Rattle.scan.specs.Places.{places_body}
use Rattle.host.specs.Model.{Model}
use Rattle.meaning.specs.Fold.Folded.{unchanged}
use Rattle.meaning.specs.Fold.If.{keep_optional, is_present, not_granted}
use Rattle.meaning.specs.Pass.{size_list}
use Rattle.meaning.specs.Step.{step_body}

-- a script has as many places as its words have
abbrev pub PlacesCounted : Type 0
PlacesCounted = (ss : Statements) → size_list ss ≡ length (places_body ss)

-- there is nothing to fold past the last place
abbrev pub PastPlaces : Type 0
PastPlaces = (m : Model) (dropped : List ℕ) (place : ℕ) (ss : Statements) → size_list ss ≤ place → step_body m dropped place ss ≡ unchanged ss

-- names of an alternate that have to stay show that there is an alternate to hold their stub
abbrev pub AlternateThere : Type 0
AlternateThere = (m : Model) (alternate : Option Statement) (x : ℕ) (xs : List ℕ) → not_granted m (keep_optional alternate) ≡ x ∷ xs → is_present alternate ≡ true
