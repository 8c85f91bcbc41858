-- A fold pays for its changes: what it makes measures less by them, and with no change it is what it was.
use Rattle.std.proofs.Common.{◌≡◌, ℕ, ◌+◌, ◌≤◌, Bool, true, false, cond, List, [], ◌∷◌, map, length, refl, arith}
use Rattle.words.specs.Tree.{Name}
use Rattle.words.specs.Tree.{Statement}
use Rattle.scan.specs.Weight.{weight_declarators}
use Rattle.meaning.proofs.Measure.{Scale, measure, measure_list, stub_cost, names_weight}
use Rattle.meaning.specs.Fold.Folded.{Folded, unchanged, changed}
use Rattle.meaning.specs.Fold.KeepVar.{stub_var, stub_or_empty, stub_list}

pub impossible : {A : Type 0} → ◌≡◌ {A = ℕ} 1 0 → A
impossible q = absurd (omega arith)

pub zero_left : (n k : ℕ) → n + k ≡ 0 → n ≡ 0
zero_left n k q = omega arith

pub zero_right : (n k : ℕ) → n + k ≡ 0 → k ≡ 0
zero_right n k q = omega arith

module _ (z : Scale) where
  abbrev pub Bound : Statement → Folded Statement → Type 0
  Bound s f = (measure z f.result + z.scaled f.changes ≤ measure z s) × (f.changes ≡ 0 → f.result ≡ s)

  pub bound_same : (s : Statement) → Bound s (unchanged s)
  bound_same s = (let e : z.scaled 0 ≡ 0 = z.at_zero in omega arith, λ q. refl)

  pub bound_changed : (s t : Statement) → measure z t + z.unit ≤ measure z s → Bound s (changed t)
  bound_changed s t p = (let e : z.scaled 1 ≡ z.unit = z.at_one in omega arith, λ q. impossible q)

  pub bound_either : (b : Bool) (s : Statement) (f g : Folded Statement) → (b ≡ true → Bound s f) → (b ≡ false → Bound s g) → Bound s (cond b f g)
  bound_either true s f g p q = p refl
  bound_either false s f g p q = q refl

  -- what stubs measure
  pub stub_var_measure : (x : ℕ) (xs : List ℕ) → measure z (stub_var x xs) ≡ stub_cost z (length (x ∷ xs))
  stub_var_measure x xs = let p : weight_declarators (map Name xs) ≡ length xs = names_weight xs in omega arith

  pub stub_list_measure : (xs : List ℕ) → measure_list z (stub_list xs) ≡ stub_cost z (length xs)
  stub_list_measure [] = refl
  stub_list_measure (x ∷ xs) = let p : measure z (stub_var x xs) ≡ stub_cost z (length (x ∷ xs)) = stub_var_measure x xs in omega arith

  pub stub_or_empty_measure : (xs : List ℕ) → measure z (stub_or_empty xs) ≤ 1 + stub_cost z (length xs)
  stub_or_empty_measure [] = omega arith
  stub_or_empty_measure (x ∷ xs) = let p : measure z (stub_var x xs) ≡ stub_cost z (length (x ∷ xs)) = stub_var_measure x xs in omega arith
