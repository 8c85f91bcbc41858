-- The bytes of a text as one number writes them, and whether they are UTF-8.
use Rattle.std.proofs.Common.{◌≡◌, ℕ, zero, suc, ◌+◌, ◌-◌, ◌*◌, ◌/◌, ◌%◌, ◌^◌, ◌<◌, ◌≤◌, Bool, true, false, List, ◌∷◌, ◌++◌, take, codes, sym, refl, ap, ◌∙◌, suc-add, pow-suc, arith, lit<}
use native.Mathlib.Nat.{pow-le-pow_right}
use Rattle.std.proofs.Math.Nat.{div-div-eq-div-mul, div-one, mod-eq_of_lt}
use Rattle.std.specs.Int.{w128, to_le_bytes, bytes_low_first}
use Rattle.std.specs.Str.{IsUtf8, is_utf8}
use Rattle.std.proofs.lemmas.Str.{is_utf8-from_IsUtf8, IsUtf8-from_is_utf8}
use Rattle.values.specs.declared.text.Text.{Text}
use Rattle.values.specs.Bytes.{bytes_of, byte_count, longest_text, join_halves}
use Rattle.values.specs.SheetValues.{text_bytes}
use Rattle.values.specs.Shown.{text_shown}

next_byte : (i n : ℕ) → n / byte_count ^ i / byte_count ≡ n / byte_count ^ suc i
next_byte i n = div-div-eq-div-mul n (byte_count ^ i) byte_count ∙ ap (λ (m : ℕ). n / m) (sym (pow-suc byte_count i))

low_first : (k i n : ℕ) → bytes_low_first i k n ≡ bytes_of k (n / byte_count ^ i)
low_first zero i n = refl
low_first (suc k) zero n =
    let all : n / byte_count ^ 0 ≡ n = div-one n in
    rw (all) (ap (λ (l : List ℕ). n % byte_count ∷ l) (low_first k 1 n))
low_first (suc k) (suc i) n =
    ap (λ (l : List ℕ). n / byte_count ^ suc i % byte_count ∷ l) (low_first k (suc (suc i)) n ∙ ap (bytes_of k) (sym (next_byte (suc i) n)))

take_bytes : (k j n : ℕ) → take k (bytes_of (k + j) n) ≡ bytes_of k n
take_bytes zero j n = refl
take_bytes (suc k) j n = rw (suc-add k j) (ap (λ (l : List ℕ). n % byte_count ∷ l) (take_bytes k j (n / byte_count)))

high_fits : (t : Text) → t.high * 2 ^ 64 < 2 ^ 128
high_fits t =
    let top : byte_count ^ t.len ≤ byte_count ^ longest_text = pow-le-pow_right (lit< tt) t.most in
    omega (arith, t.within)

pub text_written : (t : Text) → take t.len (to_le_bytes w128 (t.low + t.high * 2 ^ 64 % 2 ^ 128)) ≡ text_bytes t
text_written t =
    let n = join_halves t.low t.high in
    let number : t.low + t.high * 2 ^ 64 % 2 ^ 128 ≡ n = rw (mod-eq_of_lt (high_fits t)) (omega arith) in
    let all : t.len + (longest_text - t.len) ≡ longest_text = omega (arith, t.most) in
    ap (λ (m : ℕ). take t.len (to_le_bytes w128 m)) number
    ∙ ap (take t.len) (low_first longest_text 0 n ∙ ap (bytes_of longest_text) (div-one n))
    ∙ ap (λ (k : ℕ). take t.len (bytes_of k n)) (sym all) ∙ take_bytes t.len (longest_text - t.len) n

pub shown_text : (t : Text) (bytes : List ℕ) → bytes ≡ text_bytes t → IsUtf8 bytes → text_shown t ≡ codes "\"" ++ (bytes ++ codes "\"")
shown_text t bytes p u = rw (sym p, is_utf8-from_IsUtf8 bytes u)

pub shown_mark : (t : Text) (bytes : List ℕ) → bytes ≡ text_bytes t → (IsUtf8 bytes → ⊥) → text_shown t ≡ codes "\"?\""
shown_mark t bytes p bad = by_test (is_utf8 bytes) refl
  where
    by_test : (b : Bool) → is_utf8 bytes ≡ b → text_shown t ≡ codes "\"?\""
    by_test true h = absurd (bad (IsUtf8-from_is_utf8 bytes h))
    by_test false h = rw (sym p, h)
