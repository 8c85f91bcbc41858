-- Accepted sheets: each expression is made from its row, and what the questions look up is what the
-- model has.
use Rattle.std.proofs.Common.{◌≡◌, ℕ, ◌+◌, ◌<◌, ◌≤◌, Bool, true, false, cond, not, ◌||◌, eqb, ltb, List, length, get_or, ℤ, pos, is_some, Some, None, Option, sym, refl, ap, ◌∙◌, arith, ltb-false, ltb-true}
use mathlib.Core.Bool.{beq}
use borrow.Author.Tests.{clash}
use Rattle.std.specs.List.{slice_get}
use Rattle.std.specs.Option.{option_map}
use Rattle.std.proofs.lemmas.List.{get_or_past}
use Rattle.std.proofs.lemmas.Option.{slice_get-get_or}
use Rattle.std.proofs.lemmas.Bool.{and_parts}
use Rattle.sheet.specs.declared.sheet_row.SheetRow.{SheetRow}
use Rattle.sheet.specs.declared.sheet_row.SheetRow.TheVariants.{Literal, Named, IsFalse, AreEqual, Command}
use Rattle.values.specs.declared.sheet_value.SheetValue.{SheetValue}
use Rattle.values.specs.declared.sheet_value.SheetValue.TheVariants.{Yes}
use Rattle.hosts.specs.RowWord.{no_row, first_bad}
use Rattle.hosts.specs.RowLaws.{accepted_rows, each_allowed}
use Rattle.values.specs.Strict.{LanguageValue, boolean, to_boolean, is_strictly_equal}
use Rattle.values.specs.SheetValues.{language, boolean_value, listed, sheet_meaning}
use Rattle.sheet.specs.SheetRows.{sheet_row_of, sheet_row_at, is_comparable, operand_allowed, kind_allowed, is_whole, literal_of_whole, sheet_row_allowed, sheet_refused}
use Rattle.sheet.specs.SheetModel.{Expression, unknown_expression, entry_expression, false_expression, falsehood, equal_expression, known_equality, expression_of, sheet_expression, EachFromItsRow}
use Rattle.sheet.specs.SheetAnswers.{false_operand_lem, entry_of, compared, end_value_lem, is_command_lem, end_effects_lem, is_literal_row_lem, negate_when, known_truth, Follows}
use Rattle.sheet.specs.SheetLaws.{rows_here, past_rows}

-- what an accepted row says of what it looks at
abbrev Fine : List ℕ → List SheetValue → ℕ → Option SheetRow → Type 0
Fine rows entries e None = Unit {0}
Fine rows entries e (Some (Literal n)) = is_some (slice_get entries n) ≡ true
Fine rows entries e (Some (Named n)) = is_some (slice_get entries n) ≡ true
Fine rows entries e (Some (IsFalse n)) = n < e
Fine rows entries e (Some (AreEqual r s)) = (r < e) × (is_comparable (sheet_row_at rows r) ≡ true) × (s < e) × (is_comparable (sheet_row_at rows s) ≡ true)
Fine rows entries e (Some Command) = Unit {0}

entry_there : (entries : List SheetValue) (n : ℕ) → ltb n (length entries) ≡ true → is_some (slice_get entries n) ≡ true
entry_there entries n h = ap is_some (slice_get-get_or entries n Yes (ltb-true n (length entries) h))

kind_fine : (rows : List ℕ) (entries : List SheetValue) (e : ℕ) (row : Option SheetRow) → kind_allowed rows entries e row ≡ true → Fine rows entries e row
kind_fine rows entries e None h = tt
kind_fine rows entries e (Some (Literal n)) h = entry_there entries n h
kind_fine rows entries e (Some (Named n)) h = entry_there entries n h
kind_fine rows entries e (Some (IsFalse n)) h = ltb-true n e h
kind_fine rows entries e (Some (AreEqual r s)) h =
    let each = and_parts (operand_allowed rows e r) (operand_allowed rows e s) h in
    let first = and_parts (ltb r e) _ each.0 in
    let second = and_parts (ltb s e) _ each.1 in
    (ltb-true r e first.0, first.1, ltb-true s e second.0, second.1)
kind_fine rows entries e (Some Command) h = tt

whole_there : (k : ℤ) (v : Option SheetValue) → is_whole k v ≡ true → is_some v ≡ true
whole_there k None h = absurd (clash h)
whole_there k (Some v) h = refl

literal_fine : (rows : List ℕ) (entries : List SheetValue) (e : ℕ) (k : ℤ) (row : Option SheetRow) → literal_of_whole entries k row ≡ true → Fine rows entries e row
literal_fine rows entries e k None h = tt
literal_fine rows entries e k (Some (Literal n)) h = whole_there k (slice_get entries n) h
literal_fine rows entries e k (Some (Named n)) h = absurd (clash h)
literal_fine rows entries e k (Some (IsFalse n)) h = absurd (clash h)
literal_fine rows entries e k (Some (AreEqual r s)) h = absurd (clash h)
literal_fine rows entries e k (Some Command) h = tt

by_index : (rows : List ℕ) (entries : List SheetValue) (e : ℕ) (row : Option SheetRow) (a b : Bool) → cond a (literal_of_whole entries (pos 0) row) (cond b (literal_of_whole entries (pos 1) row) (kind_allowed rows entries e row)) ≡ true → Fine rows entries e row
by_index rows entries e row true b h = literal_fine rows entries e (pos 0) row h
by_index rows entries e row false true h = literal_fine rows entries e (pos 1) row h
by_index rows entries e row false false h = kind_fine rows entries e row h

-- operands below e alone matter
same_table : (rows : List ℕ) (entries : List SheetValue) (f g : ℕ → Expression) (e : ℕ) (row : Option SheetRow) → Fine rows entries e row → ((n : ℕ) → n < e → f n ≡ g n) → expression_of entries f e row ≡ expression_of entries g e row
same_table rows entries f g e None fine same = refl
same_table rows entries f g e (Some (Literal n)) fine same = refl
same_table rows entries f g e (Some (Named n)) fine same = refl
same_table rows entries f g e (Some (IsFalse n)) fine same = ap false_expression (same n fine)
same_table rows entries f g e (Some (AreEqual r s)) fine same =
    ap (λ (x : Expression). equal_expression x (f s)) (same r fine.0) ∙ ap (equal_expression (g r)) (same s fine.2)
same_table rows entries f g e (Some Command) fine same = refl

entry_known : (b : Bool) (v : Option SheetValue) → option_map language v ≡ (entry_expression b v).known
entry_known b None = refl
entry_known b (Some v) = refl

entry_effects : (b : Bool) (v : Option SheetValue) → is_some v ≡ true → false ≡ (entry_expression b v).effects
entry_effects b None h = absurd (clash h)
entry_effects b (Some v) h = refl

entry_literal : (b : Bool) (v : Option SheetValue) → is_some v ≡ true → b ≡ (entry_expression b v).literal
entry_literal b None h = absurd (clash h)
entry_literal b (Some v) h = refl

boolean_language : (b : Bool) → language (boolean_value b) ≡ boolean b
boolean_language true = refl
boolean_language false = refl

compared_known : (a b : Option SheetValue) → option_map language (compared a b) ≡ known_equality (option_map language a) (option_map language b)
compared_known None b = refl
compared_known (Some a) None = refl
compared_known (Some a) (Some b) = ap (λ (v : LanguageValue). Some v) (boolean_language (is_strictly_equal (language a) (language b)))

module _ (rows : List ℕ) (entries : List SheetValue) (accepted : is_some (sheet_refused rows entries) ≡ false) where
  abbrev FineAt : ℕ → Type 0
  FineAt e = Fine rows entries e (sheet_row_at rows e)

  abbrev at : ℕ → Expression
  at = sheet_expression rows entries

  fine_within : (e : ℕ) → e < length rows → FineAt e
  fine_within e h =
      let bad = first_bad (sheet_row_allowed rows entries) 0 rows in
      let passed = each_allowed (sheet_row_allowed rows entries) 0 rows (accepted_rows rows bad accepted).1 e h in
      let place : 0 + e ≡ e = omega arith in
      by_index rows entries e (sheet_row_at rows e) (eqb e 0) (eqb e 1) (ap (λ (i : ℕ). sheet_row_allowed rows entries i (get_or rows e no_row)) (sym place) ∙ passed)

  fine_past : (e : ℕ) (row : Option SheetRow) → row ≡ None → Fine rows entries e row
  fine_past e None h = tt
  fine_past e (Some row) h = absurd cc

  no_row_past : (e : ℕ) → length rows ≤ e → sheet_row_at rows e ≡ None
  no_row_past e h = ap sheet_row_of (get_or_past rows e no_row h)

  pub row_fine : (e : ℕ) → Fine rows entries e (sheet_row_at rows e)
  row_fine e = by_test (ltb e (length rows)) refl
    where
      by_test : (b : Bool) → ltb e (length rows) ≡ b → FineAt e
      by_test true h = fine_within e (ltb-true e (length rows) h)
      by_test false h = fine_past e (sheet_row_at rows e) (no_row_past e (ltb-false e (length rows) h))

  from_row_within : (e : ℕ) → e < length rows → at e ≡ expression_of entries at e (sheet_row_at rows e)
  from_row_within e h =
      let here = rows_here entries 0 (λ n. unknown_expression) rows e h in
      let place : 0 + e ≡ e = omega arith in
      ap at (sym place) ∙ here.made ∙ ap (λ (i : ℕ). expression_of entries here.before i (sheet_row_at rows e)) place
      ∙ same_table rows entries here.before at e (sheet_row_at rows e) (row_fine e) (λ n k. here.agrees n (omega arith))

  pub from_row : EachFromItsRow rows entries
  from_row e = by_test (ltb e (length rows)) refl
    where
      by_test : (b : Bool) → ltb e (length rows) ≡ b → at e ≡ expression_of entries at e (sheet_row_at rows e)
      by_test true h = from_row_within e (ltb-true e (length rows) h)
      by_test false h =
          let past = ltb-false e (length rows) h in
          past_rows rows entries e past ∙ ap (expression_of entries at e) (sym (no_row_past e past))

  -- the known value and the effects of what may be compared
  operand_known : (r : ℕ) (row : Option SheetRow) → is_comparable row ≡ true → option_map language (entry_of entries row) ≡ (expression_of entries at r row).known
  operand_known r None h = refl
  operand_known r (Some (Literal n)) h = entry_known true (slice_get entries n)
  operand_known r (Some (Named n)) h = entry_known false (slice_get entries n)
  operand_known r (Some (IsFalse n)) h = absurd (clash h)
  operand_known r (Some (AreEqual p q)) h = absurd (clash h)
  operand_known r (Some Command) h = refl

  operand_effects : (r : ℕ) (row : Option SheetRow) → Fine rows entries r row → is_comparable row ≡ true → is_command_lem row ≡ (expression_of entries at r row).effects
  operand_effects r None fine h = absurd (clash h)
  operand_effects r (Some (Literal n)) fine h = entry_effects true (slice_get entries n) fine
  operand_effects r (Some (Named n)) fine h = entry_effects false (slice_get entries n) fine
  operand_effects r (Some (IsFalse n)) fine h = absurd (clash h)
  operand_effects r (Some (AreEqual p q)) fine h = absurd (clash h)
  operand_effects r (Some Command) fine h = refl

  known_at : (r : ℕ) → is_comparable (sheet_row_at rows r) ≡ true → option_map language (entry_of entries (sheet_row_at rows r)) ≡ (at r).known
  known_at r h = operand_known r (sheet_row_at rows r) h ∙ ap (λ (x : Expression). x.known) (sym (from_row r))

  effects_at : (r : ℕ) → is_comparable (sheet_row_at rows r) ≡ true → is_command_lem (sheet_row_at rows r) ≡ (at r).effects
  effects_at r h = operand_effects r (sheet_row_at rows r) (row_fine r) h ∙ ap (λ (x : Expression). x.effects) (sym (from_row r))

  value_of_row : (e : ℕ) (row : Option SheetRow) → Fine rows entries e row → None ≡ false_operand_lem row → option_map language (end_value_lem rows entries row) ≡ (expression_of entries at e row).known
  value_of_row e None fine h = refl
  value_of_row e (Some (Literal n)) fine h = entry_known true (slice_get entries n)
  value_of_row e (Some (Named n)) fine h = entry_known false (slice_get entries n)
  value_of_row e (Some (IsFalse n)) fine h = absurd cc
  value_of_row e (Some (AreEqual r s)) fine h =
      let a = entry_of entries (sheet_row_at rows r) in
      let b = entry_of entries (sheet_row_at rows s) in
      compared_known a b ∙ ap (λ (v : Option LanguageValue). known_equality v (option_map language b)) (known_at r fine.1) ∙ ap (known_equality (at r).known) (known_at s fine.3)
  value_of_row e (Some Command) fine h = refl

  effects_of_row : (e : ℕ) (row : Option SheetRow) → Fine rows entries e row → None ≡ false_operand_lem row → end_effects_lem rows row ≡ (expression_of entries at e row).effects
  effects_of_row e None fine h = refl
  effects_of_row e (Some (Literal n)) fine h = entry_effects true (slice_get entries n) fine
  effects_of_row e (Some (Named n)) fine h = entry_effects false (slice_get entries n) fine
  effects_of_row e (Some (IsFalse n)) fine h = absurd cc
  effects_of_row e (Some (AreEqual r s)) fine h =
      ap (λ (b : Bool). b || is_command_lem (sheet_row_at rows s)) (effects_at r fine.1) ∙ ap (λ (b : Bool). (at r).effects || b) (effects_at s fine.3)
  effects_of_row e (Some Command) fine h = refl

  literal_of_row : (e : ℕ) (row : Option SheetRow) → Fine rows entries e row → is_literal_row_lem row ≡ (expression_of entries at e row).literal
  literal_of_row e None fine = refl
  literal_of_row e (Some (Literal n)) fine = entry_literal true (slice_get entries n) fine
  literal_of_row e (Some (Named n)) fine = entry_literal false (slice_get entries n) fine
  literal_of_row e (Some (IsFalse n)) fine = refl
  literal_of_row e (Some (AreEqual r s)) fine = refl
  literal_of_row e (Some Command) fine = refl

  -- what the questions look up
  pub end_known : (e : ℕ) → None ≡ false_operand_lem (sheet_row_at rows e) → option_map language (end_value_lem rows entries (sheet_row_at rows e)) ≡ (at e).known
  end_known e h = value_of_row e (sheet_row_at rows e) (row_fine e) h ∙ ap (λ (x : Expression). x.known) (sym (from_row e))

  pub end_acts : (e : ℕ) → None ≡ false_operand_lem (sheet_row_at rows e) → end_effects_lem rows (sheet_row_at rows e) ≡ (at e).effects
  end_acts e h = effects_of_row e (sheet_row_at rows e) (row_fine e) h ∙ ap (λ (x : Expression). x.effects) (sym (from_row e))

  pub literal_at : (e : ℕ) → is_literal_row_lem (sheet_row_at rows e) ≡ (at e).literal
  literal_at e = literal_of_row e (sheet_row_at rows e) (row_fine e) ∙ ap (λ (x : Expression). x.literal) (sym (from_row e))

  -- one step along a chain
  false_row : (row : Option SheetRow) (n : ℕ) → Some n ≡ false_operand_lem row → row ≡ Some (IsFalse n)
  false_row None n h = absurd cc
  false_row (Some (Literal m)) n h = absurd cc
  false_row (Some (Named m)) n h = absurd cc
  false_row (Some (IsFalse m)) n h = let e : m ≡ n = cc in ap (λ (k : ℕ). Some (IsFalse k)) e
  false_row (Some (AreEqual r s)) n h = absurd cc
  false_row (Some Command) n h = absurd cc

  fine_operand : (e n : ℕ) (row : Option SheetRow) → row ≡ Some (IsFalse n) → Fine rows entries e row → n < e
  fine_operand e n row p fine = rw p at fine

  pub operand_earlier : (e n : ℕ) → Some n ≡ false_operand_lem (sheet_row_at rows e) → n < e
  operand_earlier e n h = fine_operand e n (sheet_row_at rows e) (false_row (sheet_row_at rows e) n h) (row_fine e)

  pub made_false : (e n : ℕ) → Some n ≡ false_operand_lem (sheet_row_at rows e) → at e ≡ false_expression (at n)
  made_false e n h = from_row e ∙ ap (expression_of entries at e) (false_row (sheet_row_at rows e) n h)

-- truths through 'is false'
negate_twice : (b : Bool) (v : Option LanguageValue) → option_map (negate_when b) (option_map to_boolean (option_map falsehood v)) ≡ option_map (negate_when (not b)) (option_map to_boolean v)
negate_twice b None = refl
negate_twice true (Some v) = ap (λ (t : Bool). Some t) (not_not (to_boolean v))
  where
    not_not : (t : Bool) → not (not t) ≡ t
    not_not true = refl
    not_not false = refl
negate_twice false (Some v) = refl

pub follow_on : (x y z : Expression) (b : Bool) → y ≡ false_expression z → Follows x y b → Follows x z (not b)
follow_on x y z b p f = record {
  truth = f.truth ∙ ap (λ (o : Expression). option_map (negate_when b) (known_truth o)) p ∙ negate_twice b z.known;
  effects = f.effects ∙ ap (λ (o : Expression). o.effects) p;
}

not_negated : (o : Option Bool) → o ≡ option_map (negate_when false) o
not_negated None = refl
not_negated (Some t) = refl

pub follow_self : (x : Expression) → Follows x x false
follow_self x = record { truth = not_negated (known_truth x); effects = refl }

-- the truth and the value that the questions answer
pub differs : (t n : Bool) → not (beq t n) ≡ negate_when n t
differs true true = refl
differs true false = refl
differs false true = refl
differs false false = refl

pub meaning_known : (v : Option SheetValue) → option_map sheet_meaning v ≡ option_map listed (option_map language v)
meaning_known None = refl
meaning_known (Some v) = refl

none_known : (k : Option LanguageValue) → None ≡ option_map to_boolean k → None ≡ option_map listed k
none_known None h = refl
none_known (Some v) h = absurd cc

false_value : (t : Bool) (k : Option LanguageValue) → Some t ≡ option_map to_boolean (option_map falsehood k) → Some (listed (language (boolean_value t))) ≡ option_map listed (option_map falsehood k)
false_value t None h = absurd cc
false_value t (Some v) h =
    let same : t ≡ not (to_boolean v) = cc in
    ap (λ (u : LanguageValue). Some (listed u)) (boolean_language t ∙ ap boolean same)

module _ (rows : List ℕ) (entries : List SheetValue) (accepted : is_some (sheet_refused rows entries) ≡ false) where
  pub known_through : (e end : ℕ) (negated : Bool) → Follows (sheet_expression rows entries e) (sheet_expression rows entries end) negated → None ≡ false_operand_lem (sheet_row_at rows end) → (v : Option SheetValue) → v ≡ end_value_lem rows entries (sheet_row_at rows end) → option_map (negate_when negated) (option_map to_boolean (option_map language v)) ≡ known_truth (sheet_expression rows entries e)
  known_through e end negated follows ends v p =
      ap (λ (u : Option SheetValue). option_map (negate_when negated) (option_map to_boolean (option_map language u))) p
      ∙ ap (λ (k : Option LanguageValue). option_map (negate_when negated) (option_map to_boolean k)) (end_known rows entries accepted end ends)
      ∙ sym follows.truth

  pub value_of_false : (e n : ℕ) (t : Bool) → Some n ≡ false_operand_lem (sheet_row_at rows e) → Some t ≡ known_truth (sheet_expression rows entries e) → Some (listed (language (boolean_value t))) ≡ option_map listed (sheet_expression rows entries e).known
  value_of_false e n t p q =
      let made = made_false rows entries accepted e n p in
      false_value t (sheet_expression rows entries n).known (q ∙ ap known_truth made)
      ∙ sym (ap (λ (x : Expression). option_map listed x.known) made)

  values_of_false : (e n : ℕ) (t : Option Bool) → Some n ≡ false_operand_lem (sheet_row_at rows e) → t ≡ known_truth (sheet_expression rows entries e) → option_map sheet_meaning (option_map boolean_value t) ≡ option_map listed (sheet_expression rows entries e).known
  values_of_false e n None p q = none_known (sheet_expression rows entries e).known q
  values_of_false e n (Some t) p q = value_of_false e n t p q

-- the effects and the literals of an accepted sheet
pub effects_of_sheet : (rows : List ℕ) (entries : List SheetValue) (e end : ℕ) (negated : Bool) → Follows (sheet_expression rows entries e) (sheet_expression rows entries end) negated → is_some (sheet_refused rows entries) ≡ false → None ≡ false_operand_lem (sheet_row_at rows end) → (sheet_expression rows entries e).effects ≡ end_effects_lem rows (sheet_row_at rows end)
effects_of_sheet rows entries e end negated follows accepted ends = follows.effects ∙ sym (end_acts rows entries accepted end ends)

pub literal_of_sheet : (rows : List ℕ) (entries : List SheetValue) (e : ℕ) → is_some (sheet_refused rows entries) ≡ false → (sheet_expression rows entries e).literal ≡ is_literal_row_lem (sheet_row_at rows e)
literal_of_sheet rows entries e accepted = sym (literal_at rows entries accepted e)

-- the truth of an expression, from the value at the end of its chain
pub truth_of_sheet : (rows : List ℕ) (entries : List SheetValue) (e end : ℕ) (negated : Bool) → Follows (sheet_expression rows entries e) (sheet_expression rows entries end) negated → is_some (sheet_refused rows entries) ≡ false → None ≡ false_operand_lem (sheet_row_at rows end) → option_map to_boolean (sheet_expression rows entries e).known ≡ option_map (negate_when negated) (option_map to_boolean (option_map language (end_value_lem rows entries (sheet_row_at rows end))))
truth_of_sheet rows entries e end negated follows accepted ends = sym (known_through rows entries accepted e end negated follows ends _ refl)

-- the value of an expression: of an 'is false' row, its truth
pub value_of_false_row : (rows : List ℕ) (entries : List SheetValue) (e n : ℕ) (t : Option Bool) → Some n ≡ false_operand_lem (sheet_row_at rows e) → t ≡ option_map to_boolean (sheet_expression rows entries e).known → is_some (sheet_refused rows entries) ≡ false → option_map listed (sheet_expression rows entries e).known ≡ option_map sheet_meaning (option_map boolean_value t)
value_of_false_row rows entries e n t p q accepted = sym (values_of_false rows entries accepted e n t p q)

pub value_of_end : (rows : List ℕ) (entries : List SheetValue) (e : ℕ) → None ≡ false_operand_lem (sheet_row_at rows e) → is_some (sheet_refused rows entries) ≡ false → option_map listed (sheet_expression rows entries e).known ≡ option_map sheet_meaning (end_value_lem rows entries (sheet_row_at rows e))
value_of_end rows entries e ends accepted = sym (meaning_known _ ∙ ap (option_map listed) (end_known rows entries accepted e ends))

-- a step along a chain: the operand is an earlier row
pub earlier_operand : (rows : List ℕ) (entries : List SheetValue) (end operand : ℕ) → Some operand ≡ false_operand_lem (sheet_row_at rows end) → is_some (sheet_refused rows entries) ≡ false → operand < end
earlier_operand rows entries end operand p accepted = operand_earlier rows entries accepted end operand p

pub follow_operand : (rows : List ℕ) (entries : List SheetValue) (e end operand : ℕ) (negated : Bool) → Follows (sheet_expression rows entries e) (sheet_expression rows entries end) negated → Some operand ≡ false_operand_lem (sheet_row_at rows end) → is_some (sheet_refused rows entries) ≡ false → Follows (sheet_expression rows entries e) (sheet_expression rows entries operand) (not negated)
follow_operand rows entries e end operand negated follows p accepted = follow_on _ _ _ negated (made_false rows entries accepted end operand p) follows
