-- One step of the search for a bad row, for both hosts.
use Rattle.std.proofs.Common.{◌≡◌, ℕ, ◌+◌, ◌<◌, Bool, true, false, cond, List, length, get_or, drop, Some, sym, ap, ◌∙◌}
use Rattle.std.proofs.lemmas.List.{at_drop_more}
use Rattle.refusals.specs.declared.host.HostFault.TheVariants.{Row}
use Rattle.hosts.specs.RowWord.{no_row, first_bad}

module _ (allowed : ℕ → ℕ → Bool) (rows : List ℕ) (i : ℕ) (here : i < length rows) where
  step : (b : Bool) → b ≡ allowed i (get_or rows i no_row) → first_bad allowed i (drop i rows) ≡ cond b (first_bad allowed (i + 1) (drop (i + 1) rows)) (Some (Row i))
  step b e = at_drop_more (first_bad allowed i) rows i no_row here ∙ ap (λ (t : Bool). cond t (first_bad allowed (i + 1) (drop (i + 1) rows)) (Some (Row i))) (sym e)

  pub bad_here : false ≡ allowed i (get_or rows i no_row) → first_bad allowed i (drop i rows) ≡ Some (Row i)
  bad_here e = step false e

  pub allowed_here : true ≡ allowed i (get_or rows i no_row) → first_bad allowed i (drop i rows) ≡ first_bad allowed (i + 1) (drop (i + 1) rows)
  allowed_here e = step true e
