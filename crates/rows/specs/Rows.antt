-- The row host: what each word is, which rows are refused and in which order, and what the rows mean.
-- A value is one number, a command appends its expression number to what was sent, and scopes do
-- nothing. 0 is false; equal numbers are strictly equal.
use Rattle.std.specs.Prelude.{ℕ, Bool, true, false, cond, not, List, [], ◌∷◌, length, is_some, Some, None, Option, ◌==◌, slice_index_or}
use Rattle.std.specs.Option.{option_map}
use Rattle.host.specs.Model.{Model, Value, World, Outcome, gives, no_return}
use Rattle.values.specs.Bytes.{equal_lists}
use Rattle.refusals.specs.declared.host.HostFault.{HostFault}
use Rattle.rows.specs.declared.row.Row.{Row}
use Rattle.rows.specs.declared.row.Row.TheVariants.{Literal, NamedConstant, Command, NextAnswer, SentCount}
use Rattle.hosts.specs.RowWord.{kind_of, number_of, literal_0, literal_1, no_row, first_bad, count_fault_lem, or_else}
use Rattle.slices.specs.Among.{among}
use Rattle.hosts.specs.Common.{send, take_answer}

-- kinds 1 to 5; any number may stand with kinds 4 and 5
abbrev pub row_of_kind : ℕ → ℕ → Option Row
row_of_kind kind n =
    cond (kind == 1) (Some (Literal n))
    (cond (kind == 2) (Some (NamedConstant n))
    (cond (kind == 3) (Some (Command n))
    (cond (kind == 4) (Some NextAnswer)
    (cond (kind == 5) (Some SentCount) None))))

-- the row that a word is, if it is one
abbrev pub row_of : ℕ → Option Row
row_of word = row_of_kind (kind_of word) (number_of word)

-- the row of an expression; past the rows there is none
abbrev pub row_at : List ℕ → ℕ → Option Row
row_at rows e = row_of (slice_index_or rows e no_row)

-- rows 0 and 1 are the literals 0 and 1, and each other row has a listed kind
abbrev pub row_allowed : ℕ → ℕ → Bool
row_allowed i word = cond (i == 0) (word == literal_0) (cond (i == 1) (word == literal_1) (is_some (row_of word)))

-- why rows make no host, if they make none
abbrev pub rows_refused : List ℕ → Option HostFault
rows_refused rows = or_else (count_fault_lem rows) (first_bad row_allowed 0 rows)

-- the meaning of a number as a value
abbrev pub number_value : ℕ → Value
number_value n = n ∷ []

abbrev pub number_truth : ℕ → Bool
number_truth n = not (n == 0)

-- truth of a value: a single number other than 0
abbrev pub rows_truthy : Value → Bool
rows_truthy [] = false
rows_truthy (n ∷ []) = number_truth n
rows_truthy (n ∷ m ∷ ns) = false

-- the number that an expression with this row gives wherever it gives one, where that is known
abbrev pub known_number_lem : Option Row → Option ℕ
known_number_lem None = None
known_number_lem (Some (Literal n)) = Some n
known_number_lem (Some (NamedConstant n)) = Some n
known_number_lem (Some (Command n)) = Some n
known_number_lem (Some NextAnswer) = None
known_number_lem (Some SentCount) = None

-- commands have effects, and so has what is no expression
abbrev pub row_effects : Option Row → Bool
row_effects None = true
row_effects (Some (Literal n)) = false
row_effects (Some (NamedConstant n)) = false
row_effects (Some (Command n)) = true
row_effects (Some NextAnswer) = true
row_effects (Some SentCount) = false

abbrev pub row_literal : Option Row → Bool
row_literal None = false
row_literal (Some (Literal n)) = true
row_literal (Some (NamedConstant n)) = false
row_literal (Some (Command n)) = false
row_literal (Some NextAnswer) = false
row_literal (Some SentCount) = false

-- the command of expression e gives the next answer left, and does not return where none is left
abbrev pub next_answer : ℕ → List ℕ → World → Outcome Value
next_answer e [] w = no_return
next_answer e (a ∷ later) w = gives (number_value a) (take_answer e later w)

-- evaluation of expression e, which has this row
abbrev pub evaluate_row : ℕ → Option Row → World → Outcome Value
evaluate_row e None w = no_return
evaluate_row e (Some (Literal n)) w = gives (number_value n) w
evaluate_row e (Some (NamedConstant n)) w = gives (number_value n) w
evaluate_row e (Some (Command n)) w = gives (number_value n) (send e w)
evaluate_row e (Some NextAnswer) w = next_answer e w.answers w
evaluate_row e (Some SentCount) w = gives (number_value (length w.sent)) w

-- the model of the host with these rows and granted names
abbrev pub rows_model : List ℕ → List ℕ → Model
rows_model rows names = record {
  count = length rows;
  truth? = λ e. option_map number_truth (known_number_lem (row_at rows e));
  value? = λ e. option_map number_value (known_number_lem (row_at rows e));
  effects? = λ e. row_effects (row_at rows e);
  literal? = λ e. row_literal (row_at rows e);
  granted? = λ name. among name names;
  truthy = rows_truthy;
  strictly_equal = equal_lists;
  evaluate = λ e w. evaluate_row e (row_at rows e) w;
  bind = λ declaration name value w. gives tt (send name w);
  enter = λ scope w. w;
  leave = λ w. w;
  renew = λ w. w;
}
