-- What a test of rows and a reading of words come to, for both hosts.
use Rattle.std.specs.Prelude.{◌≡◌, ℕ, ◌^◌, ◌<◌, Bool, List, length, Some, None, Ok, Err, Option, Result, slice_index_or, IfOk}
use Rattle.std.specs.Option.{ok_or}
use Rattle.hosts.specs.declared.row_word.NoRow.{NoRow}
use Rattle.hosts.specs.declared.row_word.NoWord.{NoWord}
use Rattle.hosts.specs.RowWord.{no_row, number_of}

-- calls of a test at the index of a row and at a word tell what this function computes
abbrev pub Tells : List ℕ → (ℕ → ℕ → Bool → Type 0) → (ℕ → ℕ → Bool) → Type 0
Tells rows post allowed = (i word : ℕ) (b : Bool) → i < length rows → word < 2 ^ 32 → post i word b → b ≡ allowed i word

-- the row of an expression: what reading its word gives, and none past the rows
abbrev pub ReadsRow : {R : Type 0} → (ℕ → Result R NoRow → Type 0) → List ℕ → ℕ → Option R → Type 0
ReadsRow gives rows e (Some row) = (e < length rows) × gives (slice_index_or rows e no_row) (Ok row)
ReadsRow gives rows e None = e < length rows → (error : NoRow) × gives (slice_index_or rows e no_row) (Err error)

-- reading a word: the result is the row that it is, which is written as that word, unless the word has a number that the row has not
pub record ReadsWord {R : Type 0} (row_of : ℕ → Option R) (word_of : R → Result ℕ NoWord) (number_in : R → ℕ) (word : ℕ) (r : Result R NoRow) : Type 0 where
  pub row : r ≡ ok_or (row_of word) (record { 0 = word })
  pub written : IfOk r (λ row. number_in row ≡ number_of word → word_of row ≡ Ok word)

-- writing a row: the result is its word, where it has one, which is read as that row
pub record WritesRow {R : Type 0} (row_of : ℕ → Option R) (word_of : R → Result ℕ NoWord) (row : R) (r : Result ℕ NoWord) : Type 0 where
  pub word : r ≡ word_of row
  pub read : IfOk r (λ word. row_of word ≡ Some row)
