-- A sheet keeps the laws of a host: proofs alone, with no definition that a contract cites.
use Rattle.std.specs.Prelude.{◌≡◌, ℕ, zero, suc, ◌+◌, ◌<◌, ◌≤◌, Bool, true, false, cond, ◌||◌, List, [], ◌∷◌, ◌++◌, length, pos, negsuc, is_some, Some, None, Option, ◌==◌, ◌≢◌, slice_index_or, refl}
use Rattle.std.proofs.Common.{sym, ap, ◌∙◌, arith}
use borrow.Author.Tests.{eqb-true, eq-eqb, ne_eqb, clash}
use Rattle.std.specs.List.{slice_get}
use Rattle.std.specs.Option.{option_map}
use Rattle.host.specs.Model.{Lawful, Literal as LiteralOf, Unknown, Value, World, Outcome, gives, throws, no_return}
use Rattle.sheet.specs.declared.sheet_row.SheetRow.{SheetRow}
use Rattle.sheet.specs.declared.sheet_row.SheetRow.TheVariants.{Literal, Named, IsFalse, AreEqual, Command}
use Rattle.values.specs.declared.sheet_value.SheetValue.{SheetValue}
use Rattle.values.specs.declared.sheet_value.SheetValue.TheVariants.{Yes, No, Number, MinusZero, NotANumber, Text}
use Rattle.hosts.specs.RowWord.{no_row, first_bad}
use Rattle.hosts.specs.RowLaws.{accepted_rows, each_allowed}
use Rattle.hosts.specs.Common.{and_then, map_outcome}
use Rattle.values.specs.Strict.{LanguageValue, boolean, number, text, integer, minus_zero, not_a_number, to_boolean}
use Rattle.values.specs.SheetValues.{language, listed, read_value, truth_of, equality_of, sheet_truthy, MeaningsOfValues}
use Rattle.sheet.specs.SheetRows.{sheet_row_of, sheet_row_at, is_whole, literal_of_whole, sheet_row_allowed, sheet_refused}
use Rattle.sheet.specs.SheetModel.{Expression, unknown_expression, entry_expression, false_expression, falsehood, equal_expression, equality, known_equality, command_expression, expression_of, with_expression, with_rows, sheet_expression, sheet_model, without_last}

read_inverts : (v : LanguageValue) → read_value (listed v) ≡ Some v
read_inverts (boolean true) = refl
read_inverts (boolean false) = refl
read_inverts (number (integer (pos n))) = refl
read_inverts (number (integer (negsuc n))) = refl
read_inverts (number minus_zero) = refl
read_inverts (number not_a_number) = refl
read_inverts (text units) = refl

truth_of_meaning : (v : LanguageValue) → sheet_truthy (listed v) ≡ to_boolean v
truth_of_meaning v = ap truth_of (read_inverts v)

pub meanings_of_values : MeaningsOfValues
meanings_of_values = record {
  inverse = read_inverts;
  truth = truth_of_meaning;
  equality = λ x y. ap (λ (a : Option LanguageValue). equality_of a (read_value (listed y))) (read_inverts x) ∙ ap (equality_of (Some x)) (read_inverts y);
}

-- an expression keeps the laws on value, effects and literal
record Sound (x : Expression) : Type 0 where
  value : (k : LanguageValue) → x.known ≡ Some k → (w : World) (v : LanguageValue) (u : World) → x.evaluation w ≡ gives v u → v ≡ k
  quiet : x.effects ≡ false → (w : World) → (v : LanguageValue) × (x.evaluation w ≡ gives v w)
  literal : x.literal ≡ true → x.effects ≡ false

none_is_some : {A B : Type 0} → (x : A) → ◌≡◌ {A = Option A} None (Some x) → B
none_is_some x p = absurd cc

none_gives : {B : Type 0} → (v : LanguageValue) (w : World) → ◌≡◌ {A = Outcome LanguageValue} no_return (gives v w) → B
none_gives v w p = absurd cc

throw_gives : {B : Type 0} → (t : Value) (s : World) (v : LanguageValue) (w : World) → ◌≡◌ {A = Outcome LanguageValue} (throws t s) (gives v w) → B
throw_gives t s v w p = absurd cc

unknown_sound : Sound unknown_expression
unknown_sound = record {
  value = λ k p w v u q. none_is_some k p;
  quiet = λ p w. absurd (clash (sym p));
  literal = λ p. absurd (clash p);
}

entry_sound : (b : Bool) (v : Option SheetValue) → Sound (entry_expression b v)
entry_sound b None = unknown_sound
entry_sound b (Some v) = record {
  value = λ k p w x u q. let a : language v ≡ x = cc in let c : language v ≡ k = cc in sym a ∙ c;
  quiet = λ p w. (language v, refl);
  literal = λ p. refl;
}

command_sound : (e : ℕ) → Sound (command_expression e)
command_sound e = record {
  value = λ k p w v u q. none_is_some k p;
  quiet = λ p w. absurd (clash (sym p));
  literal = λ p. absurd (clash p);
}

-- what a changed outcome gives comes from what the outcome gave
mapped_gives : (f : LanguageValue → LanguageValue) (o : Outcome LanguageValue) (v : LanguageValue) (u : World) → map_outcome f o ≡ gives v u → (x : LanguageValue) × (o ≡ gives x u) × (v ≡ f x)
mapped_gives f (gives x w) v u p = let a : f x ≡ v = cc in let b : w ≡ u = cc in (x, ap (gives x) b, sym a)
mapped_gives f (throws t w) v u p = throw_gives t w v u p
mapped_gives f no_return v u p = none_gives v u p

mapped_some : {A B : Type 0} → (f : A → B) (o : Option A) (k : B) → option_map f o ≡ Some k → (x : A) × (o ≡ Some x) × (f x ≡ k)
mapped_some f None k p = none_is_some k p
mapped_some f (Some x) k p = let a : f x ≡ k = cc in (x, refl, a)

false_sound : (x : Expression) → Sound x → Sound (false_expression x)
false_sound x s = record {
  value = λ k p w v u q.
      let known = mapped_some falsehood x.known k p in
      let given = mapped_gives falsehood (x.evaluation w) v u q in
      given.2 ∙ ap falsehood (s.value known.0 known.1 w given.0 u given.1) ∙ known.2;
  quiet = λ p w. let given = s.quiet p w in (falsehood given.0, ap (map_outcome falsehood) given.1);
  literal = λ p. absurd (clash p);
}

-- what two actions give comes from what each gave
both_give : (o : Outcome LanguageValue) (y : Expression) (v : LanguageValue) (u : World) → and_then o (λ a t. map_outcome (equality a) (y.evaluation t)) ≡ gives v u → (a : LanguageValue) × (t : World) × (b : LanguageValue) × (o ≡ gives a t) × (y.evaluation t ≡ gives b u) × (v ≡ equality a b)
both_give (gives a t) y v u p = let second = mapped_gives (equality a) (y.evaluation t) v u p in (a, t, second.0, refl, second.1, second.2)
both_give (throws x w) y v u p = throw_gives x w v u p
both_give no_return y v u p = none_gives v u p

both_known : (a b : Option LanguageValue) (k : LanguageValue) → known_equality a b ≡ Some k → (x : LanguageValue) × (y : LanguageValue) × (a ≡ Some x) × (b ≡ Some y) × (equality x y ≡ k)
both_known None b k p = none_is_some k p
both_known (Some x) None k p = none_is_some k p
both_known (Some x) (Some y) k p = let e : equality x y ≡ k = cc in (x, y, refl, refl, e)

neither_acts : (a b : Bool) → (a || b) ≡ false → (a ≡ false) × (b ≡ false)
neither_acts true b p = absurd (clash (sym p))
neither_acts false b p = (refl, p)

equal_sound : (x y : Expression) → Sound x → Sound y → Sound (equal_expression x y)
equal_sound x y s t = record {
  value = λ k p w v u q.
      let known = both_known x.known y.known k p in
      let given = both_give (x.evaluation w) y v u q in
      let first = s.value known.0 known.2 w given.0 given.1 given.3 in
      let second = t.value known.1 known.3 given.1 given.2 u given.4 in
      given.5 ∙ ap (λ (a : LanguageValue). equality a given.2) first ∙ ap (equality known.0) second ∙ known.4;
  quiet = λ p w.
      let quiets = neither_acts x.effects y.effects p in
      let first = s.quiet quiets.0 w in
      let second = t.quiet quiets.1 w in (
        equality first.0 second.0,
        ap (λ (o : Outcome LanguageValue). and_then o (λ a u. map_outcome (equality a) (y.evaluation u))) first.1 ∙ ap (map_outcome (equality first.0)) second.1,
      );
  literal = λ p. absurd (clash p);
}

expression_sound : (entries : List SheetValue) (table : ℕ → Expression) → ((n : ℕ) → Sound (table n)) → (e : ℕ) (row : Option SheetRow) → Sound (expression_of entries table e row)
expression_sound entries table s e None = unknown_sound
expression_sound entries table s e (Some (Literal n)) = entry_sound true (slice_get entries n)
expression_sound entries table s e (Some (Named n)) = entry_sound false (slice_get entries n)
expression_sound entries table s e (Some (IsFalse n)) = false_sound (table n) (s n)
expression_sound entries table s e (Some (AreEqual r t)) = equal_sound (table r) (table t) (s r) (s t)
expression_sound entries table s e (Some Command) = command_sound e

one_of_two : (b : Bool) (x y : Expression) → Sound x → Sound y → Sound (cond b x y)
one_of_two true x y s t = s
one_of_two false x y s t = t

rows_sound : (entries : List SheetValue) (i : ℕ) (table : ℕ → Expression) → ((n : ℕ) → Sound (table n)) → (rows : List ℕ) (e : ℕ) → Sound (with_rows entries i table rows e)
rows_sound entries i table s [] e = s e
rows_sound entries i table s (word ∷ later) e =
    let x = expression_of entries table i (sheet_row_of word) in
    rows_sound entries (i + 1) (with_expression table i x) (λ n. one_of_two (n == i) x (table n) (expression_sound entries table s i (sheet_row_of word)) (s n)) later e

sheet_sound : (rows : List ℕ) (entries : List SheetValue) (e : ℕ) → Sound (sheet_expression rows entries e)
sheet_sound rows entries e = rows_sound entries 0 (λ n. unknown_expression) (λ n. unknown_sound) rows e

-- rows leave the table as it was below their first index and past their last
table_other : (table : ℕ → Expression) (i : ℕ) (x : Expression) (e : ℕ) → (e ≢ i) → with_expression table i x e ≡ table e
table_other table i x e ne = ap (λ (b : Bool). cond b x (table e)) (ne_eqb e i ne)

table_here : (table : ℕ → Expression) (i : ℕ) (x : Expression) → with_expression table i x i ≡ x
table_here table i x = ap (λ (b : Bool). cond b x (table i)) (eq-eqb i i refl)

rows_below : (entries : List SheetValue) (i : ℕ) (table : ℕ → Expression) (rows : List ℕ) (e : ℕ) → e < i → with_rows entries i table rows e ≡ table e
rows_below entries i table [] e h = refl
rows_below entries i table (word ∷ later) e h =
    rows_below entries (i + 1) _ later e (omega arith) ∙ table_other table i _ e (λ q. omega arith)

rows_past : (entries : List SheetValue) (i : ℕ) (table : ℕ → Expression) (rows : List ℕ) (e : ℕ) → i + length rows ≤ e → with_rows entries i table rows e ≡ table e
rows_past entries i table [] e h = refl
rows_past entries i table (word ∷ later) e h =
    rows_past entries (i + 1) _ later e (omega arith) ∙ table_other table i _ e (λ q. omega arith)

-- the table that the row at index e was made from: it agrees with the last one below e
pub record Before (entries : List SheetValue) (i : ℕ) (table : ℕ → Expression) (rows : List ℕ) (e j : ℕ) : Type 0 where
  pub before : ℕ → Expression
  pub agrees : (n : ℕ) → n < e → before n ≡ with_rows entries i table rows n
  pub made : with_rows entries i table rows e ≡ expression_of entries before e (sheet_row_of (slice_index_or rows j no_row))

pub rows_here : (entries : List SheetValue) (i : ℕ) (table : ℕ → Expression) (rows : List ℕ) (j : ℕ) → j < length rows → Before entries i table rows (i + j) j
rows_here entries i table [] j h = absurd (omega arith)
rows_here entries i table (word ∷ later) zero h =
    let x = expression_of entries table i (sheet_row_of word) in
    let here : i + zero ≡ i = omega arith in
    let row = sheet_row_of word in
    record {
      before = table;
      agrees = λ n k. sym (rows_below entries (i + 1) (with_expression table i x) later n (omega arith) ∙ table_other table i x n (λ q. omega arith));
      made =
          rows_below entries (i + 1) (with_expression table i x) later (i + zero) (omega arith)
          ∙ ap (with_expression table i x) here ∙ table_here table i x
          ∙ ap (λ (e : ℕ). expression_of entries table e row) (sym here);
    }
rows_here entries i table (word ∷ later) (suc j) h =
    let x = expression_of entries table i (sheet_row_of word) in
    let place : i + 1 + j ≡ i + suc j = omega arith in
    let rest = rows_here entries (i + 1) (with_expression table i x) later j (omega arith) in
    record {
      before = rest.before;
      agrees = λ n k. rest.agrees n (omega arith);
      made =
          ap (with_rows entries (i + 1) (with_expression table i x) later) (sym place) ∙ rest.made
          ∙ ap (λ (e : ℕ). expression_of entries rest.before e (sheet_row_of (slice_index_or later j no_row))) place;
    }

-- nothing is known past the rows
pub past_rows : (rows : List ℕ) (entries : List SheetValue) (e : ℕ) → length rows ≤ e → sheet_expression rows entries e ≡ unknown_expression
past_rows rows entries e h = rows_past entries 0 (λ n. unknown_expression) rows e (omega arith)

-- a row of which the literal test passed
whole_entry : (k : ℕ) (v : Option SheetValue) → is_whole (pos k) v ≡ true → v ≡ Some (Number (pos k))
whole_entry k None p = absurd (clash p)
whole_entry k (Some Yes) p = absurd (clash p)
whole_entry k (Some No) p = absurd (clash p)
whole_entry k (Some (Number (pos n))) p = ap (λ (m : ℕ). Some (Number (pos m))) (eqb-true n k p)
whole_entry k (Some (Number (negsuc n))) p = absurd (clash p)
whole_entry k (Some MinusZero) p = absurd (clash p)
whole_entry k (Some NotANumber) p = absurd (clash p)
whole_entry k (Some (Text t)) p = absurd (clash p)

whole_expression : (entries : List SheetValue) (table : ℕ → Expression) (e k : ℕ) (row : Option SheetRow) → literal_of_whole entries (pos k) row ≡ true → expression_of entries table e row ≡ entry_expression true (Some (Number (pos k)))
whole_expression entries table e k None p = absurd (clash p)
whole_expression entries table e k (Some (Literal n)) p = ap (entry_expression true) (whole_entry k (slice_get entries n) p)
whole_expression entries table e k (Some (Named n)) p = absurd (clash p)
whole_expression entries table e k (Some (IsFalse n)) p = absurd (clash p)
whole_expression entries table e k (Some (AreEqual r s)) p = absurd (clash p)
whole_expression entries table e k (Some Command) p = absurd (clash p)

literal_of : (rows : List ℕ) (entries : List SheetValue) (names : List ℕ) (e k : ℕ) → sheet_expression rows entries e ≡ entry_expression true (Some (Number (pos k))) → LiteralOf (sheet_model rows entries names) e (to_boolean (number (integer (pos k))))
literal_of rows entries names e k p = record {
  is_literal = ap (λ (x : Expression). x.literal) p;
  has_truth = ap (λ (x : Expression). option_map to_boolean x.known) p;
  has_value = (listed (number (integer (pos k))), ap (λ (x : Expression). option_map listed x.known) p, truth_of_meaning (number (integer (pos k))));
}

unknown_past : (rows : List ℕ) (entries : List SheetValue) (names : List ℕ) (e : ℕ) → length rows ≤ e → Unknown (sheet_model rows entries names) e
unknown_past rows entries names e h =
    let p = past_rows rows entries e h in
    record {
      no_truth = ap (λ (x : Expression). option_map to_boolean x.known) p;
      no_value = ap (λ (x : Expression). option_map listed x.known) p;
      some_effects = ap (λ (x : Expression). x.effects) p;
      no_literal = ap (λ (x : Expression). x.literal) p;
    }

-- what an evaluation gives as a list comes from a language value
listed_gives : (o : Outcome LanguageValue) (v : Value) (u : World) → map_outcome listed o ≡ gives v u → (x : LanguageValue) × (o ≡ gives x u) × (v ≡ listed x)
listed_gives (gives x w) v u p = let a : listed x ≡ v = cc in let b : w ≡ u = cc in (x, ap (gives x) b, sym a)
listed_gives (throws t w) v u p = absurd cc
listed_gives no_return v u p = absurd cc

truth_given : (x : Expression) → Sound x → (b : Bool) → option_map to_boolean x.known ≡ Some b → (w : World) (v : Value) (u : World) → map_outcome listed (x.evaluation w) ≡ gives v u → sheet_truthy v ≡ b
truth_given x s b p w v u q =
    let known = mapped_some to_boolean x.known b p in
    let given = listed_gives (x.evaluation w) v u q in
    let same = s.value known.0 known.1 w given.0 u given.1 in
    ap sheet_truthy given.2 ∙ truth_of_meaning given.0 ∙ ap to_boolean same ∙ known.2

value_given : (x : Expression) → Sound x → (k : Value) → option_map listed x.known ≡ Some k → (w : World) (v : Value) (u : World) → map_outcome listed (x.evaluation w) ≡ gives v u → v ≡ k
value_given x s k p w v u q =
    let known = mapped_some listed x.known k p in
    let given = listed_gives (x.evaluation w) v u q in
    given.2 ∙ ap listed (s.value known.0 known.1 w given.0 u given.1) ∙ known.2

no_effects : (x : Expression) → Sound x → x.effects ≡ false → (w : World) → (v : Value) × (map_outcome listed (x.evaluation w) ≡ gives v w)
no_effects x s p w = let given = s.quiet p w in (listed given.0, ap (map_outcome listed) given.1)

last_off : (scopes : List (List ℕ)) (names : List ℕ) → without_last (scopes ++ (names ∷ [])) ≡ scopes
last_off [] names = refl
last_off (scope ∷ []) names = refl
last_off (scope ∷ next ∷ scopes) names = ap (λ (rest : List (List ℕ)). scope ∷ rest) (last_off (next ∷ scopes) names)

leave_after_enter : (names : List ℕ) (w : World) → (sheet_model [] [] []).leave ((sheet_model [] [] []).enter names w) ≡ w
leave_after_enter names w = ap (λ (s : List (List ℕ)). record { answers = w.answers; sent = w.sent; scopes = s }) (last_off w.scopes names)

-- rows 0 and 1 of an accepted sheet
first_literal : (rows : List ℕ) (entries : List SheetValue) (e k : ℕ) → e < length rows → literal_of_whole entries (pos k) (sheet_row_at rows e) ≡ true → sheet_expression rows entries e ≡ entry_expression true (Some (Number (pos k)))
first_literal rows entries e k h p =
    let here = rows_here entries 0 (λ n. unknown_expression) rows e h in
    let place : 0 + e ≡ e = omega arith in
    ap (sheet_expression rows entries) (sym place) ∙ here.made ∙ whole_expression entries here.before (0 + e) k (sheet_row_at rows e) p

pub sheet_lawful : (rows : List ℕ) (entries : List SheetValue) (names : List ℕ) → is_some (sheet_refused rows entries) ≡ false → Lawful (sheet_model rows entries names)
sheet_lawful rows entries names accepted =
    let fine = accepted_rows rows (first_bad (sheet_row_allowed rows entries) 0 rows) accepted in
    let allowed = each_allowed (sheet_row_allowed rows entries) 0 rows fine.1 in
    let enough = fine.0 in
    let sound = sheet_sound rows entries in
    record {
      at_least_two = enough;
      truth = λ e b p w v u q. truth_given (sheet_expression rows entries e) (sound e) b p w v u q;
      value = λ e k p w v u q. value_given (sheet_expression rows entries e) (sound e) k p w v u q;
      effects = λ e p w. no_effects (sheet_expression rows entries e) (sound e) p w;
      literal = λ e p. (sound e).literal p;
      past = λ e h. unknown_past rows entries names e h;
      zero = literal_of rows entries names 0 0 (first_literal rows entries 0 0 (omega arith) (allowed 0 (omega arith)));
      one = literal_of rows entries names 1 1 (first_literal rows entries 1 1 (omega arith) (allowed 1 (omega arith)));
      leave_enter = leave_after_enter;
    }
