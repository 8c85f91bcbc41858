-- What both hosts share: what commands and bindings do to a world, and how one action goes on after another.
use Rattle.std.specs.Prelude.{ℕ, List, [], ◌∷◌, ◌++◌}
use Rattle.host.specs.Model.{World, Outcome, gives, throws, no_return}

-- the world with one more thing sent
abbrev pub send : ℕ → World → World
send n w = record { answers = w.answers; sent = w.sent ++ (n ∷ []); scopes = w.scopes }

-- the command of expression e takes the next answer left: these are left after it
abbrev pub take_answer : ℕ → List ℕ → World → World
take_answer e later w = record { answers = later; sent = w.sent ++ (e ∷ []); scopes = w.scopes }

-- what a first action gives goes into a second one; where one of them gives nothing, neither do both
abbrev pub and_then : {A B : Type 0} → Outcome A → (A → World → Outcome B) → Outcome B
and_then (gives a w) next = next a w
and_then (throws v w) next = throws v w
and_then no_return next = no_return

-- what an action gives, changed by a function
abbrev pub map_outcome : {A B : Type 0} → (A → B) → Outcome A → Outcome B
map_outcome f (gives a w) = gives (f a) w
map_outcome f (throws v w) = throws v w
map_outcome f no_return = no_return
