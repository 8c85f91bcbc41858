-- Equality of lists of numbers, and numbers as texts of bytes: the first byte is the lowest. A text has 1 to 16 bytes, and is kept as
-- a length and two halves of 8 bytes each.
use Rattle.std.specs.Prelude.{ℕ, zero, suc, ◌+◌, ◌*◌, ◌/◌, ◌%◌, Bool, true, false, ◌&&◌, List, [], ◌∷◌, ◌==◌, nat_le}

-- whether two lists have the same length and the same number at each place
abbrev pub equal_lists : List ℕ → List ℕ → Bool
equal_lists [] [] = true
equal_lists [] (n ∷ ns) = false
equal_lists (m ∷ ms) [] = false
equal_lists (m ∷ ms) (n ∷ ns) = m == n && equal_lists ms ns

-- how many bytes there are
abbrev pub byte_count : ℕ
byte_count = 256

-- how many bytes a half has, and how many numbers that makes
abbrev pub half_length : ℕ
half_length = 8

abbrev pub half_count : ℕ
half_count = 18446744073709551616

abbrev pub longest_text : ℕ
longest_text = 16

-- the lowest bytes of a number, as many as asked for
abbrev pub bytes_of : ℕ → ℕ → List ℕ
bytes_of zero n = []
bytes_of (suc k) n = n % byte_count ∷ bytes_of k (n / byte_count)

-- the number of two halves
abbrev pub join_halves : ℕ → ℕ → ℕ
join_halves low high = low + half_count * high

-- whether a text may have this many bytes
abbrev pub text_length : ℕ → Bool
text_length len = nat_le 1 len && nat_le len longest_text
