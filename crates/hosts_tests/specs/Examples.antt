-- Evaluations of a small sheet, computed by the checker: rows 0 and 1 are the literals 0 and 1, row 2
-- is a command, and row 3 compares row 2 with itself. Each command takes an answer and sends its row's
-- number.
use Rattle.std.specs.Prelude.{◌≡◌, ℕ, true, false, List, [], ◌∷◌, pos}
use Rattle.host.specs.Model.{Value, World, Outcome, gives, no_return}
use Rattle.values.specs.declared.sheet_value.SheetValue.{SheetValue}
use Rattle.values.specs.declared.sheet_value.SheetValue.TheVariants.{Number}
use Rattle.hosts.specs.RowWord.{literal_0, literal_1}
use Rattle.values.specs.Strict.{boolean, number, integer, not_a_number}
use Rattle.values.specs.SheetValues.{listed}
use Rattle.sheet.specs.SheetModel.{largest_answer_lem, sheet_model}

-- kind 5
abbrev pub command_word : ℕ
command_word = 671088640

-- kind 4, rows 2 and 2
abbrev pub equal_word : ℕ
equal_word = 536887298

abbrev pub zero_and_one : List SheetValue
zero_and_one = Number (pos 0) ∷ Number (pos 1) ∷ []

abbrev pub evaluate : ℕ → World → Outcome Value
evaluate = (sheet_model (literal_0 ∷ literal_1 ∷ command_word ∷ equal_word ∷ []) zero_and_one []).evaluate

abbrev pub world : List ℕ → List ℕ → World
world left done = record { answers = left; sent = done; scopes = [] }

pub record Examples : Type 0 where
  -- the largest answer is a whole number, and one more is not-a-number
  pub largest : evaluate 2 (world (largest_answer_lem ∷ 5 ∷ []) []) ≡ gives (listed (number (integer (pos largest_answer_lem)))) (world (5 ∷ []) (2 ∷ []))
  pub above : evaluate 2 (world (2147483648 ∷ []) []) ≡ gives (listed (number not_a_number)) (world [] (2 ∷ []))
  -- not-a-number is not equal to itself, and whole numbers are
  pub unequal : evaluate 3 (world (2147483648 ∷ 2147483648 ∷ []) []) ≡ gives (listed (boolean false)) (world [] (2 ∷ 2 ∷ []))
  pub equal : evaluate 3 (world (7 ∷ 7 ∷ []) []) ≡ gives (listed (boolean true)) (world [] (2 ∷ 2 ∷ []))
  -- where the second operand finds no answer, the row does not return
  pub one_answer : evaluate 3 (world (7 ∷ []) []) ≡ no_return
