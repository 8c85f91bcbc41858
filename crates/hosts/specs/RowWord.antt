-- The words of rows and the faults by which rows make no host, for both hosts. A word has a kind in the top
-- 5 of its 32 bits and a number in the low 27.
use Rattle.std.specs.Prelude.{ℕ, ◌+◌, ◌*◌, ◌/◌, ◌%◌, Bool, cond, ◌&&◌, List, [], ◌∷◌, length, Some, None, Ok, Err, Option, Result, nat_lt}
use Rattle.refusals.specs.declared.host.HostFault.{HostFault}
use Rattle.hosts.specs.declared.row_word.NoWord.{NoWord}
use Rattle.refusals.specs.declared.host.HostFault.TheVariants.{RowCount, Row}

-- what making a host answers: the fault, where there is one
abbrev pub answer_of : Option HostFault → Result (Unit {0}) HostFault
answer_of None = Ok tt
answer_of (Some fault) = Err fault

-- the least number that 27 bits do not hold
abbrev pub number_limit : ℕ
number_limit = 134217728

abbrev pub kind_of : ℕ → ℕ
kind_of word = word / number_limit

abbrev pub number_of : ℕ → ℕ
number_of word = word % number_limit

-- a kind has 5 bits
abbrev pub kind_count : ℕ
kind_count = 32

-- the word of a kind and a number, where both have room
abbrev pub joined : ℕ → ℕ → Result ℕ NoWord
joined kind n = cond (nat_lt kind kind_count && nat_lt n number_limit) (Ok (kind * number_limit + n)) (Err record {})

-- the words of kind 1 with the numbers 0 and 1
abbrev pub literal_0 : ℕ
literal_0 = 134217728

abbrev pub literal_1 : ℕ
literal_1 = 134217729

abbrev pub least_rows : ℕ
least_rows = 2

abbrev pub most_rows : ℕ
most_rows = 4096

-- the first row that is not allowed, of rows that begin at index i; `allowed` is asked of an index
-- and the word there
abbrev pub first_bad : (ℕ → ℕ → Bool) → ℕ → List ℕ → Option HostFault
first_bad allowed i [] = None
first_bad allowed i (word ∷ later) = cond (allowed i word) (first_bad allowed (i + 1) later) (Some (Row i))

-- a word that is no row of either host, read past the rows
abbrev pub no_row : ℕ
no_row = 0

-- the number of rows, where it is not 2 to 4,096
abbrev pub count_fault_lem : List ℕ → Option HostFault
count_fault_lem rows =
    cond (nat_lt (length rows) least_rows) (Some (RowCount (length rows)))
    (cond (nat_lt most_rows (length rows)) (Some (RowCount (length rows))) None)

-- the number of rows is refused first; otherwise the rows decide
abbrev pub or_else : Option HostFault → Option HostFault → Option HostFault
or_else None next = next
or_else (Some fault) next = Some fault
