-- The rows of a sheet: what each word is, and which rows are refused, in which order. A row may look
-- at entries of the sheet and at rows before it.
use Rattle.std.specs.Prelude.{ℕ, ◌/◌, ◌%◌, Bool, true, false, cond, ◌&&◌, List, [], ◌∷◌, length, ℤ, pos, Some, None, Option, ◌==◌, nat_lt, slice_index_or}
use Rattle.std.specs.List.{slice_get}
use Rattle.refusals.specs.declared.host.HostFault.{HostFault}
use Rattle.sheet.specs.declared.sheet_row.SheetRow.{SheetRow}
use Rattle.sheet.specs.declared.sheet_row.SheetRow.TheVariants.{Literal, Named, IsFalse, AreEqual, Command}
use Rattle.values.specs.declared.sheet_value.SheetValue.{SheetValue}
use Rattle.values.specs.declared.sheet_value.SheetValue.TheVariants.{Yes, No, Number, MinusZero, NotANumber, Text}
use Rattle.hosts.specs.RowWord.{kind_of, number_of, no_row, first_bad, count_fault_lem, or_else}
use Rattle.values.specs.Strict.{same_integer}

-- the number of a row of kind 4 is 8,192 times the first operand, and the second
abbrev pub operand_limit : ℕ
operand_limit = 8192

-- kinds 1 to 5; any number may stand with kind 5
abbrev pub sheet_row_of_kind : ℕ → ℕ → Option SheetRow
sheet_row_of_kind kind n =
    cond (kind == 1) (Some (Literal n))
    (cond (kind == 2) (Some (Named n))
    (cond (kind == 3) (Some (IsFalse n))
    (cond (kind == 4) (Some (AreEqual (n / operand_limit) (n % operand_limit)))
    (cond (kind == 5) (Some Command) None))))

-- the row that a word is, if it is one
abbrev pub sheet_row_of : ℕ → Option SheetRow
sheet_row_of word = sheet_row_of_kind (kind_of word) (number_of word)

-- the row of an expression; past the rows there is none
abbrev pub sheet_row_at : List ℕ → ℕ → Option SheetRow
sheet_row_at rows e = sheet_row_of (slice_index_or rows e no_row)

-- what rows of kind 4 may compare: rows of kind 1, 2 or 5
abbrev pub is_comparable : Option SheetRow → Bool
is_comparable None = false
is_comparable (Some (Literal n)) = true
is_comparable (Some (Named n)) = true
is_comparable (Some (IsFalse n)) = false
is_comparable (Some (AreEqual r s)) = false
is_comparable (Some Command) = true

-- an operand of the row of kind 4 at index i
abbrev pub operand_allowed : List ℕ → ℕ → ℕ → Bool
operand_allowed rows i r = nat_lt r i && is_comparable (sheet_row_at rows r)

-- a row at index i, other than 0 and 1: it has a listed kind, its entry is there, and its operands are earlier
abbrev pub kind_allowed : List ℕ → List SheetValue → ℕ → Option SheetRow → Bool
kind_allowed rows entries i None = false
kind_allowed rows entries i (Some (Literal n)) = nat_lt n (length entries)
kind_allowed rows entries i (Some (Named n)) = nat_lt n (length entries)
kind_allowed rows entries i (Some (IsFalse n)) = nat_lt n i
kind_allowed rows entries i (Some (AreEqual r s)) = operand_allowed rows i r && operand_allowed rows i s
kind_allowed rows entries i (Some Command) = true

-- whether a value is this whole number; minus zero is no whole number here
abbrev pub is_whole : ℤ → Option SheetValue → Bool
is_whole k None = false
is_whole k (Some Yes) = false
is_whole k (Some No) = false
is_whole k (Some (Number n)) = same_integer n k
is_whole k (Some MinusZero) = false
is_whole k (Some NotANumber) = false
is_whole k (Some (Text t)) = false

-- whether entries are the whole numbers 0 and 1 alone
abbrev pub are_zero_and_one : List SheetValue → Bool
are_zero_and_one [] = false
are_zero_and_one (a ∷ []) = false
are_zero_and_one (a ∷ b ∷ []) = is_whole (pos 0) (Some a) && is_whole (pos 1) (Some b)
are_zero_and_one (a ∷ b ∷ c ∷ later) = false

-- whether a row is a literal whose entry is this whole number
abbrev pub literal_of_whole : List SheetValue → ℤ → Option SheetRow → Bool
literal_of_whole entries k None = false
literal_of_whole entries k (Some (Literal n)) = is_whole k (slice_get entries n)
literal_of_whole entries k (Some (Named n)) = false
literal_of_whole entries k (Some (IsFalse n)) = false
literal_of_whole entries k (Some (AreEqual r s)) = false
literal_of_whole entries k (Some Command) = false

-- rows 0 and 1 are the literals 0 and 1, and each other row is as above
abbrev pub sheet_row_allowed : List ℕ → List SheetValue → ℕ → ℕ → Bool
sheet_row_allowed rows entries i word =
    cond (i == 0) (literal_of_whole entries (pos 0) (sheet_row_of word))
    (cond (i == 1) (literal_of_whole entries (pos 1) (sheet_row_of word))
    (kind_allowed rows entries i (sheet_row_of word)))

-- why rows and entries make no sheet, if they make none
abbrev pub sheet_refused : List ℕ → List SheetValue → Option HostFault
sheet_refused rows entries = or_else (count_fault_lem rows) (first_bad (sheet_row_allowed rows entries) 0 rows)
