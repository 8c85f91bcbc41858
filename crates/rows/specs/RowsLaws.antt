-- The row host keeps the laws of a host: proofs alone, with no definition that a contract cites.
use Rattle.std.specs.Prelude.{◌≡◌, ℕ, ◌≤◌, Bool, true, false, List, length, is_some, Some, None, Option, slice_index_or, refl}
use Rattle.std.proofs.Common.{sym, ap, ◌∙◌, arith}
use borrow.Author.Tests.{eqb-true, clash}
use Rattle.std.specs.Option.{option_map}
use Rattle.std.proofs.lemmas.List.{get_or_past}
use Rattle.host.specs.Model.{Lawful, Literal as LiteralOf, Unknown, Value, World, gives}
use Rattle.rows.specs.declared.row.Row.{Row}
use Rattle.rows.specs.declared.row.Row.TheVariants.{Literal, NamedConstant, Command, NextAnswer, SentCount}
use Rattle.hosts.specs.RowWord.{literal_0, literal_1, no_row, first_bad}
use Rattle.hosts.specs.RowLaws.{accepted_rows, each_allowed}
use Rattle.rows.specs.Rows.{row_of, row_at, row_allowed, rows_refused, number_value, number_truth, rows_truthy, known_number_lem, row_effects, row_literal, evaluate_row, rows_model}

none_is_some : {A B : Type 0} → (x : A) → ◌≡◌ {A = Option A} None (Some x) → B
none_is_some x p = absurd cc

given_is : (n k : ℕ) (w : World) (v : Value) (u : World) → ◌≡◌ {A = Option ℕ} (Some n) (Some k) → gives (number_value n) w ≡ gives v u → v ≡ number_value k
given_is n k w v u p q = let a : number_value n ≡ v = cc in let b : n ≡ k = cc in sym a ∙ ap number_value b

known_given : (e : ℕ) (r : Option Row) (k : ℕ) → known_number_lem r ≡ Some k → (w : World) (v : Value) (u : World) → evaluate_row e r w ≡ gives v u → v ≡ number_value k
known_given e None k p w v u q = none_is_some k p
known_given e (Some (Literal n)) k p w v u q = given_is n k w v u p q
known_given e (Some (NamedConstant n)) k p w v u q = given_is n k w v u p q
known_given e (Some (Command n)) k p w v u q = given_is n k _ v u p q
known_given e (Some NextAnswer) k p w v u q = none_is_some k p
known_given e (Some SentCount) k p w v u q = none_is_some k p

truth_given : (e : ℕ) (r : Option Row) (t : Option ℕ) → known_number_lem r ≡ t → (b : Bool) → option_map number_truth t ≡ Some b → (w : World) (v : Value) (u : World) → evaluate_row e r w ≡ gives v u → rows_truthy v ≡ b
truth_given e r None k b p w v u q = none_is_some b p
truth_given e r (Some n) k b p w v u q = ap rows_truthy (known_given e r n k w v u q) ∙ cc

value_given : (e : ℕ) (r : Option Row) (t : Option ℕ) → known_number_lem r ≡ t → (k : Value) → option_map number_value t ≡ Some k → (w : World) (v : Value) (u : World) → evaluate_row e r w ≡ gives v u → v ≡ k
value_given e r None h k p w v u q = none_is_some k p
value_given e r (Some n) h k p w v u q = known_given e r n h w v u q ∙ cc

no_effects : (e : ℕ) (r : Option Row) → row_effects r ≡ false → (w : World) → (v : Value) × (evaluate_row e r w ≡ gives v w)
no_effects e None p w = absurd (clash (sym p))
no_effects e (Some (Literal n)) p w = (number_value n, refl)
no_effects e (Some (NamedConstant n)) p w = (number_value n, refl)
no_effects e (Some (Command n)) p w = absurd (clash (sym p))
no_effects e (Some NextAnswer) p w = absurd (clash (sym p))
no_effects e (Some SentCount) p w = (number_value (length w.sent), refl)

literal_no_effects : (r : Option Row) → row_literal r ≡ true → row_effects r ≡ false
literal_no_effects None p = absurd (clash p)
literal_no_effects (Some (Literal n)) p = refl
literal_no_effects (Some (NamedConstant n)) p = absurd (clash p)
literal_no_effects (Some (Command n)) p = absurd (clash p)
literal_no_effects (Some NextAnswer) p = absurd (clash p)
literal_no_effects (Some SentCount) p = absurd (clash p)

-- an expression whose row is the literal n is one
literal_of : (rows names : List ℕ) (e n : ℕ) → row_at rows e ≡ Some (Literal n) → LiteralOf (rows_model rows names) e (number_truth n)
literal_of rows names e n p = record {
  is_literal = ap row_literal p;
  has_truth = ap (λ (r : Option Row). option_map number_truth (known_number_lem r)) p;
  has_value = (number_value n, ap (λ (r : Option Row). option_map number_value (known_number_lem r)) p, refl);
}

unknown_past : (rows names : List ℕ) (e : ℕ) → length rows ≤ e → Unknown (rows_model rows names) e
unknown_past rows names e h =
    let p = ap row_of (get_or_past rows e no_row h) in
    record {
      no_truth = ap (λ (r : Option Row). option_map number_truth (known_number_lem r)) p;
      no_value = ap (λ (r : Option Row). option_map number_value (known_number_lem r)) p;
      some_effects = ap row_effects p;
      no_literal = ap row_literal p;
    }

pub rows_lawful : (rows names : List ℕ) → is_some (rows_refused rows) ≡ false → Lawful (rows_model rows names)
rows_lawful rows names accepted =
    let fine = accepted_rows rows (first_bad row_allowed 0 rows) accepted in
    let enough = fine.0 in
    let allowed = each_allowed row_allowed 0 rows fine.1 in
    let row_0 = eqb-true (slice_index_or rows 0 no_row) literal_0 (allowed 0 (omega arith)) in
    let row_1 = eqb-true (slice_index_or rows 1 no_row) literal_1 (allowed 1 (omega arith)) in
    record {
      at_least_two = enough;
      truth = λ e b p w v u q. truth_given e (row_at rows e) _ refl b p w v u q;
      value = λ e k p w v u q. value_given e (row_at rows e) _ refl k p w v u q;
      effects = λ e p w. no_effects e (row_at rows e) p w;
      literal = λ e p. literal_no_effects (row_at rows e) p;
      past = λ e h. unknown_past rows names e h;
      zero = literal_of rows names 0 0 (ap row_of row_0);
      one = literal_of rows names 1 1 (ap row_of row_1);
      leave_enter = λ scope w. refl;
    }
