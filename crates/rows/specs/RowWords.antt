-- Rows written as words.
use Rattle.std.specs.Prelude.{ℕ, Result}
use Rattle.hosts.specs.declared.row_word.NoWord.{NoWord}
use Rattle.hosts.specs.RowWord.{joined}
use Rattle.rows.specs.declared.row.Row.{Row}
use Rattle.rows.specs.declared.row.Row.TheVariants.{Literal, NamedConstant, Command, NextAnswer, SentCount}

-- the word of a row; one that has no number is written with 0
abbrev pub word_of : Row → Result ℕ NoWord
word_of (Literal n) = joined 1 n
word_of (NamedConstant n) = joined 2 n
word_of (Command n) = joined 3 n
word_of NextAnswer = joined 4 0
word_of SentCount = joined 5 0

-- the number of a row, and 0 where it has none
abbrev pub number_in : Row → ℕ
number_in (Literal n) = n
number_in (NamedConstant n) = n
number_in (Command n) = n
number_in NextAnswer = 0
number_in SentCount = 0
