-- Bytes of numbers and texts: one step, two halves, and that equal bytes are equal numbers.
use Rattle.std.proofs.Common.{◌≡◌, ℕ, zero, suc, ◌+◌, ◌*◌, ◌/◌, ◌%◌, ◌^◌, ◌<◌, ◌≤◌, Bool, true, false, ◌&&◌, eqb, List, [], ◌∷◌, ◌++◌, length, sym, refl, ap, ◌∙◌, suc-add, one-mul, pow-suc, div-add-mod', zero-add, mul_right_comm, length-append, arith, lit<, eq-eqb, eqb-true, le-leb}
use native.Mathlib.Nat.{add-mul-mod_self_right, add-mul-div_right, pow-zero, pow-le-pow_right}
use lib.Arith.{digits_div, digits_mod, digits_lt}
use borrow.Author.Tests.{clash}
use Rattle.std.proofs.lemmas.Nat.{div_below, pow-add}
use Rattle.std.proofs.lemmas.Bool.{and_parts}
use Rattle.values.specs.Bytes.{equal_lists}
use Rattle.values.specs.Strict.{text, to_boolean}
use Rattle.values.specs.declared.text.Text.{Text}
use Rattle.values.specs.Bytes.{bytes_of, byte_count, half_count, half_length, longest_text, join_halves, text_length}
use Rattle.values.specs.SheetValues.{text_bytes}

pub bytes_step : (k n b : ℕ) → b < byte_count → bytes_of (suc k) (n * byte_count + b) ≡ b ∷ bytes_of k n
bytes_step k n b h =
    let p : (n * byte_count + b) % byte_count ≡ b = digits_mod n h in
    let q : (n * byte_count + b) / byte_count ≡ n = digits_div n h in
    rw (p, q)

pub length_bytes : (k n : ℕ) → length (bytes_of k n) ≡ k
length_bytes zero n = refl
length_bytes (suc k) n = ap suc (length_bytes k (n / byte_count))

-- a number of two parts, the lower of suc j bytes: its lowest byte, and the rest
power_step : (j a b : ℕ) → a + byte_count ^ suc j * b ≡ a + byte_count ^ j * b * byte_count
power_step j a b = ap (λ (n : ℕ). a + n) (ap (λ (n : ℕ). n * b) (pow-suc byte_count j) ∙ mul_right_comm (byte_count ^ j) byte_count b)

part_mod : (j a b : ℕ) → (a + byte_count ^ suc j * b) % byte_count ≡ a % byte_count
part_mod j a b = ap (λ (n : ℕ). n % byte_count) (power_step j a b) ∙ add-mul-mod_self_right a (byte_count ^ j * b) byte_count

part_div : (j a b : ℕ) → (a + byte_count ^ suc j * b) / byte_count ≡ a / byte_count + byte_count ^ j * b
part_div j a b = ap (λ (n : ℕ). n / byte_count) (power_step j a b) ∙ add-mul-div_right a (byte_count ^ j * b) (lit< tt)

-- one byte fewer
below_step : (j a : ℕ) → a < byte_count ^ suc j → a / byte_count < byte_count ^ j
below_step j a h = div_below a byte_count (byte_count ^ j) (lit< tt) (rw (pow-suc byte_count j) at h)

below_zero : (a : ℕ) → a < byte_count ^ zero → a ≡ 0
below_zero a h = let k = rw (pow-zero byte_count) at h in omega arith

pub bytes_halves : (j k a b : ℕ) → a < byte_count ^ j → bytes_of (j + k) (a + byte_count ^ j * b) ≡ bytes_of j a ++ bytes_of k b
bytes_halves zero k a b h =
    let z = below_zero a h in
    let n : a + byte_count ^ zero * b ≡ b = rw (pow-zero byte_count) (rw (one-mul b) (omega arith)) in
    rw (n, zero-add k)
bytes_halves (suc j) k a b h =
    let r = bytes_halves j k (a / byte_count) b (below_step j a h) in
    rw (suc-add j k) (rw (part_mod j a b, part_div j a b) (ap (λ (l : List ℕ). a % byte_count ∷ l) r))

pub same_number : (k m n : ℕ) → m < byte_count ^ k → n < byte_count ^ k → bytes_of k m ≡ bytes_of k n → m ≡ n
same_number zero m n p q e = below_zero m p ∙ sym (below_zero n q)
same_number (suc k) m n p q e =
    let lowest : m % byte_count ≡ n % byte_count = cc in
    let others : bytes_of k (m / byte_count) ≡ bytes_of k (n / byte_count) = cc in
    let rest = same_number k (m / byte_count) (n / byte_count) (below_step k m p) (below_step k n q) others in
    sym (div-add-mod' m byte_count) ∙ rw (rest, lowest) (div-add-mod' n byte_count)

pub equal_self : (xs : List ℕ) → equal_lists xs xs ≡ true
equal_self [] = refl
equal_self (x ∷ xs) = rw (eq-eqb x x refl) (equal_self xs)

pub equal_is : (xs ys : List ℕ) → equal_lists xs ys ≡ true → xs ≡ ys
equal_is [] [] h = refl
equal_is [] (y ∷ ys) h = absurd (clash h)
equal_is (x ∷ xs) [] h = absurd (clash h)
equal_is (x ∷ xs) (y ∷ ys) h =
    let p = and_parts (eqb x y) (equal_lists xs ys) h in
    let a = eqb-true x y p.0 in
    let b = equal_is xs ys p.1 in
    cc

pub differ : (xs ys : List ℕ) → (xs ≡ ys → ⊥) → equal_lists xs ys ≡ false
differ xs ys ne = by_test (equal_lists xs ys) refl
  where
    by_test : (b : Bool) → equal_lists xs ys ≡ b → equal_lists xs ys ≡ false
    by_test true h = absurd (ne (equal_is xs ys h))
    by_test false h = h

same_halves : (a b c d : ℕ) → a < half_count → c < half_count → join_halves a b ≡ join_halves c d → (a ≡ c) × (b ≡ d)
same_halves a b c d p q e = (omega arith, omega arith)

same_texts : (s t : Text) → s.len ≡ t.len → text_bytes s ≡ text_bytes t → (s.low ≡ t.low) × (s.high ≡ t.high)
same_texts s t l e =
    let m = join_halves s.low s.high in
    let n = join_halves t.low t.high in
    let bound : n < byte_count ^ s.len = rw l t.within in
    let bytes : bytes_of s.len m ≡ bytes_of s.len n = e ∙ ap (λ (k : ℕ). bytes_of k n) (sym l) in
    same_halves s.low s.high t.low t.high s.half t.half (same_number s.len m n s.within bound bytes)

same_lengths : (s t : Text) → text_bytes s ≡ text_bytes t → s.len ≡ t.len
same_lengths s t e = sym (length_bytes s.len _) ∙ ap length e ∙ length_bytes t.len _

-- the derived equality of texts, field by field
abbrev same_fields : Text → Text → Bool
same_fields s t = eqb s.low t.low && (eqb s.high t.high && eqb s.len t.len)

-- texts have the same bytes where they have the same fields
pub equal_texts : (s t : Text) → equal_lists (text_bytes s) (text_bytes t) ≡ same_fields s t
equal_texts s t = by_test (same_fields s t) refl
  where
    by_test : (b : Bool) → same_fields s t ≡ b → equal_lists (text_bytes s) (text_bytes t) ≡ b
    by_test true h =
        let first = and_parts (eqb s.low t.low) _ h in
        let rest = and_parts (eqb s.high t.high) (eqb s.len t.len) first.1 in
        let low = eqb-true s.low t.low first.0 in
        let high = eqb-true s.high t.high rest.0 in
        let len = eqb-true s.len t.len rest.1 in
        let same : text_bytes s ≡ text_bytes t = rw (len, low, high) in
        ap (equal_lists (text_bytes s)) (sym same) ∙ equal_self (text_bytes s)
    by_test false h = differ (text_bytes s) (text_bytes t) (λ e.
        let len = same_lengths s t e in
        let halves = same_texts s t len e in
        let all : same_fields s t ≡ true = rw (eq-eqb s.low t.low halves.0, eq-eqb s.high t.high halves.1, eq-eqb s.len t.len len) in
        clash (sym h ∙ all))

pub length_text : (t : Text) → length (text_bytes t) ≡ t.len
length_text t = length_bytes t.len _

-- one turn of reading a number, from the last byte to the first
pub number_fits : (n b k : ℕ) → k ≤ 7 → n < byte_count ^ k → b < byte_count → n * byte_count + b < half_count
number_fits n b k h p q =
    let top : byte_count ^ k ≤ byte_count ^ 7 = pow-le-pow_right (lit< tt) h in
    omega arith

pub number_within : (n b k : ℕ) → n < byte_count ^ k → b < byte_count → n * byte_count + b < byte_count ^ suc k
number_within n b k p q = rw (pow-suc byte_count k) (digits_lt p q)

pub allowed_length : (len : ℕ) → 1 ≤ len → len ≤ longest_text → text_length len ≡ true
allowed_length len h k = rw (le-leb 1 len h) (le-leb len longest_text k)

-- a text of more than 8 bytes, from its two halves
module _ (xs first rest : List ℕ) (low high : ℕ) (parts : xs ≡ first ++ rest) (whole : length first ≡ half_length) where
  total : length rest + half_length ≡ length xs
  total = omega (arith, ap length parts, length-append first rest)

  pub halves_bytes : low < half_count → bytes_of (length first) low ≡ first → bytes_of (length rest) high ≡ rest → bytes_of (length xs) (join_halves low high) ≡ xs
  halves_bytes h p q =
      let k = length rest in
      let all : half_length + k ≡ length xs = omega (arith, total) in
      let low_bytes : bytes_of half_length low ≡ first = ap (λ (n : ℕ). bytes_of n low) (sym whole) ∙ p in
      ap (λ (n : ℕ). bytes_of n (join_halves low high)) (sym all) ∙ bytes_halves half_length k low high h
      ∙ ap (λ (l : List ℕ). l ++ bytes_of k high) low_bytes ∙ ap (λ (l : List ℕ). first ++ l) q ∙ sym parts

  pub halves_within : low < half_count → high < byte_count ^ length rest → join_halves low high < byte_count ^ length xs
  halves_within h p =
      let power : byte_count ^ length xs ≡ byte_count ^ length rest * half_count = ap (λ (n : ℕ). byte_count ^ n) (sym total) ∙ pow-add byte_count (length rest) half_length in
      let bound : high * half_count + low < byte_count ^ length rest * half_count = digits_lt p h in
      omega arith

some_byte_true : (k n : ℕ) → 1 ≤ k → to_boolean (text (bytes_of k n)) ≡ true
some_byte_true zero n h = absurd (omega arith)
some_byte_true (suc k) n h = refl

-- a text has a first byte, and so is true
pub text_true : (t : Text) → to_boolean (text (text_bytes t)) ≡ true
text_true t = some_byte_true t.len _ t.least
