use Rattle.std.proofs.Common.{◌≡◌, ℕ, suc, ◌<◌, ◌≤◌, List, [], ◌∷◌, ◌++◌, length, get_or, Fits, w8, sym, ap, ◌∙◌, append_assoc, length-append, arith}
use Rattle.std.proofs.Math.Seq.{get_or-append_seam}
use Rattle.std.specs.List.{push}
use Rattle.values.specs.Bytes.{bytes_of, byte_count, half_length}
use Rattle.values.proofs.TextLemmas.{bytes_step, length_bytes, number_fits, number_within}
use Rattle.values.proofs.text.bytes.number_of.Goals as goal

-- the next byte b stands before the k bytes that are read, of which there are at most 7
turn : (xs rest left : List ℕ) (b k n : ℕ) → rest ≡ push left b → rest ++ bytes_of k n ≡ xs → length xs ≤ half_length → ((i : ℕ) → Fits w8 (get_or xs i 0)) → (left ++ (b ∷ bytes_of k n) ≡ xs) × (b < byte_count) × (k ≤ 7)
turn xs rest left b k n p q short fits =
    let all : left ++ (b ∷ bytes_of k n) ≡ xs = sym (append_assoc left (b ∷ []) (bytes_of k n)) ∙ ap (λ (l : List ℕ). l ++ bytes_of k n) (sym p) ∙ q in
    let here : get_or xs (length left) 0 ≡ b = ap (λ (l : List ℕ). get_or l (length left) 0) (sym all) ∙ get_or-append_seam left b (bytes_of k n) 0 in
    (all, omega (arith, fits (length left)), omega (arith, ap length all, length-append left (b ∷ bytes_of k n), length_bytes k n))

pub overflow_mul-number : goal.overflow_mul-number
overflow_mul-number c =
    let k = length c.loop-byte.yielded in
    let t = turn c.args.bytes.now _ _ c.in-Some.byte.now k c.loop-byte.number c.in-Some.ensures.steps c.loop-byte.invariant.0 c.requires c.type_inv.bytes in
    let fits = number_fits c.loop-byte.number 0 k t.2 c.loop-byte.invariant.1 (omega arith) in
    omega arith

pub overflow_add-number : goal.overflow_add-number
overflow_add-number c =
    let k = length c.loop-byte.yielded in
    let t = turn c.args.bytes.now _ _ c.in-Some.byte.now k c.loop-byte.number c.in-Some.ensures.steps c.loop-byte.invariant.0 c.requires c.type_inv.bytes in
    let fits = number_fits c.loop-byte.number c.in-Some.byte.now k t.2 c.loop-byte.invariant.1 t.1 in
    omega arith

pub loop-byte-preserved : goal.loop-byte-preserved
loop-byte-preserved c =
    let k = length c.loop-byte.yielded in
    let b = c.in-Some.byte.now in
    let n = c.loop-byte.number in
    let t = turn c.args.bytes.now _ _ b k n c.in-Some.ensures.steps c.loop-byte.invariant.0 c.requires c.type_inv.bytes in
    let longer : length (c.loop-byte.yielded ++ (c.in-Some.byte ∷ [])) ≡ suc k = search (arith, length-append) in
    rw (c.from.ensures, longer) (ap (λ (l : List ℕ). c.next.new.self.iter.rest.now ++ l) (bytes_step k n b t.1) ∙ t.0, number_within n b k c.loop-byte.invariant.1 t.1)
