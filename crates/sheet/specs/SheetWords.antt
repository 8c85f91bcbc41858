-- Rows of a sheet written as words.
use Rattle.std.specs.Prelude.{ℕ, ◌+◌, ◌*◌, cond, ◌&&◌, Err, Result, nat_lt}
use Rattle.hosts.specs.declared.row_word.NoWord.{NoWord}
use Rattle.hosts.specs.RowWord.{joined}
use Rattle.sheet.specs.declared.sheet_row.SheetRow.{SheetRow}
use Rattle.sheet.specs.declared.sheet_row.SheetRow.TheVariants.{Literal, Named, IsFalse, AreEqual, Command}
use Rattle.sheet.specs.SheetRows.{operand_limit}

-- the first operand of a row of kind 4 has room below this
abbrev pub first_operand_limit : ℕ
first_operand_limit = 16384

-- the number of a row, and 0 where it has none
abbrev pub sheet_number_in : SheetRow → ℕ
sheet_number_in (Literal n) = n
sheet_number_in (Named n) = n
sheet_number_in (IsFalse n) = n
sheet_number_in (AreEqual r s) = r * operand_limit + s
sheet_number_in Command = 0

-- the word of a row; a command is written with 0
abbrev pub sheet_word_of : SheetRow → Result ℕ NoWord
sheet_word_of (Literal n) = joined 1 n
sheet_word_of (Named n) = joined 2 n
sheet_word_of (IsFalse n) = joined 3 n
sheet_word_of (AreEqual r s) = cond (nat_lt r first_operand_limit && nat_lt s operand_limit) (joined 4 (sheet_number_in (AreEqual r s))) (Err record {})
sheet_word_of Command = joined 5 0
