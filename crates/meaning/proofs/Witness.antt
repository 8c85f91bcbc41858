-- The witness is lawful.
use Rattle.std.proofs.Common.{◌≡◌, ℕ, zero, suc, ◌≤◌, Bool, true, false, List, [], ◌∷◌, length, Some, None, Option, sym, refl, ap, ◌∙◌, arith}
use Rattle.host.specs.Model.{Lawful, Unknown, Value, World, Outcome, gives, throws, no_return}
use Rattle.meaning.specs.Witness.{Row, literal, giving, asking, throwing, absent, rows, row_at, is_true, row_value, truth_of_value, row_literal, row_effects, row_evaluate, witness}

past_rows : (rs : List Row) (e : ℕ) → length rs ≤ e → row_at e rs ≡ absent
past_rows [] e p = refl
past_rows (r ∷ rs) zero p = absurd (omega arith)
past_rows (r ∷ rs) (suc e) p = past_rows rs e (omega arith)

-- what an outcome gives
abbrev given : Value → Outcome Value → Value
given d (gives v u) = v
given d (throws v u) = d
given d no_return = d

value_law : (e : ℕ) (r : Row) (k : Value) → row_value r ≡ Some k → (w : World) (v : Value) (u : World) → row_evaluate e r w ≡ gives v u → v ≡ k
value_law e (literal n) k q w v u p = sym (ap (given []) p) ∙ (let x : n ∷ [] ≡ k = cc in x)
value_law e (giving n) k q w v u p = sym (ap (given []) p) ∙ (let x : n ∷ [] ≡ k = cc in x)
value_law e asking k q w v u p = cc
value_law e (throwing n) k q w v u p = cc
value_law e absent k q w v u p = cc

truth_law : (e : ℕ) (r : Row) (x : Option Value) → row_value r ≡ x → (b : Bool) → truth_of_value x ≡ Some b → (w : World) (v : Value) (u : World) → row_evaluate e r w ≡ gives v u → is_true v ≡ b
truth_law e r None s b q w v u p = cc
truth_law e r (Some k) s b q w v u p = ap is_true (value_law e r k s w v u p) ∙ (let x : is_true k ≡ b = cc in x)

effects_law : (e : ℕ) (r : Row) → row_effects r ≡ false → (w : World) → (v : Value) × (row_evaluate e r w ≡ gives v w)
effects_law e (literal n) q w = (n ∷ [], refl)
effects_law e (giving n) q w = absurd (let y : ◌≡◌ {A = ℕ} 0 1 = cc in omega arith)
effects_law e asking q w = absurd (let y : ◌≡◌ {A = ℕ} 0 1 = cc in omega arith)
effects_law e (throwing n) q w = absurd (let y : ◌≡◌ {A = ℕ} 0 1 = cc in omega arith)
effects_law e absent q w = absurd (let y : ◌≡◌ {A = ℕ} 0 1 = cc in omega arith)

literal_law : (r : Row) → row_literal r ≡ true → row_effects r ≡ false
literal_law (literal n) q = refl
literal_law (giving n) q = cc
literal_law asking q = cc
literal_law (throwing n) q = cc
literal_law absent q = cc

past_law : (e : ℕ) → row_at e rows ≡ absent → Unknown witness e
past_law e q = record { no_truth = ap (λ r. truth_of_value (row_value r)) q; no_value = ap row_value q; some_effects = ap row_effects q; no_literal = ap row_literal q }

pub witness_lawful : Lawful witness
witness_lawful = record {
  at_least_two = omega arith;
  truth = λ e b q w v u p. truth_law e (row_at e rows) (row_value (row_at e rows)) refl b q w v u p;
  value = λ e k q w v u p. value_law e (row_at e rows) k q w v u p;
  effects = λ e q w. effects_law e (row_at e rows) q w;
  literal = λ e q. literal_law (row_at e rows) q;
  past = λ e p. past_law e (past_rows rows e p);
  zero = record { is_literal = refl; has_truth = refl; has_value = (0 ∷ [], refl, refl) };
  one = record { is_literal = refl; has_truth = refl; has_value = (1 ∷ [], refl, refl) };
  leave_enter = λ names w. refl;
}
