-- Whether a number is an element of a list.
use Rattle.std.specs.Prelude.{ℕ, Bool, List, ◌==◌}
use Rattle.std.specs.List.{list_any}

abbrev pub among : ℕ → List ℕ → Bool
among n xs = list_any (λ x. x == n) xs
