-- What a sheet means: each row becomes an expression, made from the entries and from the expressions
-- of the rows before it. Values are ECMA-262's language values, truth is its ToBoolean and equality
-- its IsStrictlyEqual.
use Rattle.std.specs.Prelude.{◌≡◌, ℕ, ◌+◌, Bool, true, false, cond, not, ◌||◌, List, [], ◌∷◌, ◌++◌, length, pos, Some, None, Option, ◌==◌, nat_le}
use Rattle.std.specs.List.{slice_get}
use Rattle.std.specs.Option.{option_map}
use Rattle.host.specs.Model.{Model, World, Outcome, gives, no_return}
use Rattle.sheet.specs.declared.sheet_row.SheetRow.{SheetRow}
use Rattle.sheet.specs.declared.sheet_row.SheetRow.TheVariants.{Literal, Named, IsFalse, AreEqual, Command}
use Rattle.values.specs.declared.sheet_value.SheetValue.{SheetValue}
use Rattle.slices.specs.Among.{among}
use Rattle.hosts.specs.Common.{send, take_answer, and_then, map_outcome}
use Rattle.values.specs.Strict.{LanguageValue, boolean, number, integer, not_a_number, is_strictly_equal, to_boolean}
use Rattle.values.specs.SheetValues.{language, listed, sheet_truthy, sheet_equal}
use Rattle.sheet.specs.SheetRows.{sheet_row_of, sheet_row_at}

-- An expression: the value that it gives wherever it gives one, where that is known; whether it may
-- have effects; whether it is a literal; and its evaluation.
pub record Expression : Type 0 where
  pub known : Option LanguageValue
  pub effects : Bool
  pub literal : Bool
  pub evaluation : World → Outcome LanguageValue

-- an expression of which nothing is known, as one past the rows
abbrev pub unknown_expression : Expression
unknown_expression = record { known = None; effects = true; literal = false; evaluation = λ w. no_return }

-- an entry, by literal or by name
abbrev pub entry_expression : Bool → Option SheetValue → Expression
entry_expression is_literal None = unknown_expression
entry_expression is_literal (Some v) = record { known = Some (language v); effects = false; literal = is_literal; evaluation = λ w. gives (language v) w }

-- whether a value is false, as a value
abbrev pub falsehood : LanguageValue → LanguageValue
falsehood v = boolean (not (to_boolean v))

-- whether an expression is false
abbrev pub false_expression : Expression → Expression
false_expression x = record {
  known = option_map falsehood x.known;
  effects = x.effects;
  literal = false;
  evaluation = λ w. map_outcome falsehood (x.evaluation w);
}

-- whether two values are strictly equal, as a value
abbrev pub equality : LanguageValue → LanguageValue → LanguageValue
equality a b = boolean (is_strictly_equal a b)

abbrev pub known_equality : Option LanguageValue → Option LanguageValue → Option LanguageValue
known_equality None b = None
known_equality (Some a) None = None
known_equality (Some a) (Some b) = Some (equality a b)

-- whether two expressions are strictly equal; the first is evaluated first, and both are one action
abbrev pub equal_expression : Expression → Expression → Expression
equal_expression x y = record {
  known = known_equality x.known y.known;
  effects = x.effects || y.effects;
  literal = false;
  evaluation = λ w. and_then (x.evaluation w) (λ a u. map_outcome (equality a) (y.evaluation u));
}

-- the largest answer that is a whole number of 32 bits with sign
abbrev pub largest_answer_lem : ℕ
largest_answer_lem = 2147483647

abbrev pub answer_value : ℕ → LanguageValue
answer_value a = cond (nat_le a largest_answer_lem) (number (integer (pos a))) (number not_a_number)

-- the command of expression e gives the next answer left, and does not return where none is left
abbrev pub answer_outcome : ℕ → List ℕ → World → Outcome LanguageValue
answer_outcome e [] w = no_return
answer_outcome e (a ∷ later) w = gives (answer_value a) (take_answer e later w)

abbrev pub command_expression : ℕ → Expression
command_expression e = record { known = None; effects = true; literal = false; evaluation = λ w. answer_outcome e w.answers w }

-- the expression of the row at index e, from the entries and the expressions of earlier rows
abbrev pub expression_of : List SheetValue → (ℕ → Expression) → ℕ → Option SheetRow → Expression
expression_of entries earlier e None = unknown_expression
expression_of entries earlier e (Some (Literal n)) = entry_expression true (slice_get entries n)
expression_of entries earlier e (Some (Named n)) = entry_expression false (slice_get entries n)
expression_of entries earlier e (Some (IsFalse n)) = false_expression (earlier n)
expression_of entries earlier e (Some (AreEqual r s)) = equal_expression (earlier r) (earlier s)
expression_of entries earlier e (Some Command) = command_expression e

-- a table of expressions with one more, at index i
abbrev pub with_expression : (ℕ → Expression) → ℕ → Expression → ℕ → Expression
with_expression table i x e = cond (e == i) x (table e)

-- a table of expressions with those of the rows that begin at index i
abbrev pub with_rows : List SheetValue → ℕ → (ℕ → Expression) → List ℕ → ℕ → Expression
with_rows entries i table [] = table
with_rows entries i table (word ∷ later) =
    with_rows entries (i + 1) (with_expression table i (expression_of entries table i (sheet_row_of word))) later

-- the expression of each row of a sheet
abbrev pub sheet_expression : List ℕ → List SheetValue → ℕ → Expression
sheet_expression rows entries = with_rows entries 0 (λ e. unknown_expression) rows

-- On the rows of a sheet the table is what its rows say: each expression is made from its row and the
-- expressions of its operands.
abbrev pub EachFromItsRow : List ℕ → List SheetValue → Type 0
EachFromItsRow rows entries =
    (e : ℕ) → sheet_expression rows entries e ≡ expression_of entries (sheet_expression rows entries) e (sheet_row_at rows e)

-- the scope entered last, off
abbrev pub without_last : List (List ℕ) → List (List ℕ)
without_last [] = []
without_last (scope ∷ []) = []
without_last (scope ∷ next ∷ scopes) = scope ∷ without_last (next ∷ scopes)

abbrev pub enter_scope : List ℕ → World → World
enter_scope names w = record { answers = w.answers; sent = w.sent; scopes = w.scopes ++ (names ∷ []) }

abbrev pub leave_scope : World → World
leave_scope w = record { answers = w.answers; sent = w.sent; scopes = without_last w.scopes }

-- the model of the sheet with these rows, entries and granted names
abbrev pub sheet_model : List ℕ → List SheetValue → List ℕ → Model
sheet_model rows entries names = record {
  count = length rows;
  truth? = λ e. option_map to_boolean (sheet_expression rows entries e).known;
  value? = λ e. option_map listed (sheet_expression rows entries e).known;
  effects? = λ e. (sheet_expression rows entries e).effects;
  literal? = λ e. (sheet_expression rows entries e).literal;
  granted? = λ name. among name names;
  truthy = sheet_truthy;
  strictly_equal = sheet_equal;
  evaluate = λ e w. map_outcome listed ((sheet_expression rows entries e).evaluation w);
  bind = λ declaration name value w. gives tt (send name w);
  enter = enter_scope;
  leave = leave_scope;
  renew = λ w. w;
}
