-- What accepted rows are, for both hosts: proofs alone, with no definition that a contract cites.
use Rattle.std.specs.Prelude.{◌≡◌, ℕ, zero, suc, ◌+◌, ◌<◌, ◌≤◌, Bool, true, false, cond, List, [], ◌∷◌, length, is_some, Some, None, Option, slice_index_or, refl}
use Rattle.std.proofs.Common.{sym, ap, ◌∙◌, add-zero, arith}
use borrow.Author.Tests.{ltb-false, clash}
use Rattle.refusals.specs.declared.host.HostFault.{HostFault}
use Rattle.hosts.specs.RowWord.{least_rows, no_row, first_bad, count_fault_lem, or_else}

-- a refusal that did not come: its test failed
not_refused : (b : Bool) (fault : HostFault) (rest : Option HostFault) → is_some (cond b (Some fault) rest) ≡ false → (b ≡ false) × (is_some rest ≡ false)
not_refused true fault rest h = absurd (clash (sym h))
not_refused false fault rest h = (refl, h)

row_passed : (b : Bool) (rest : Option HostFault) (fault : HostFault) → is_some (cond b rest (Some fault)) ≡ false → (b ≡ true) × (is_some rest ≡ false)
row_passed true rest fault h = (refl, h)
row_passed false rest fault h = absurd (clash (sym h))

neither : (a b : Option HostFault) → is_some (or_else a b) ≡ false → (is_some a ≡ false) × (is_some b ≡ false)
neither None b h = (refl, h)
neither (Some fault) b h = absurd (clash (sym h))

-- accepted rows are at least two, and none of them is bad
pub accepted_rows : (rows : List ℕ) (bad : Option HostFault) → is_some (or_else (count_fault_lem rows) bad) ≡ false → (least_rows ≤ length rows) × (is_some bad ≡ false)
accepted_rows rows bad h =
    let both = neither (count_fault_lem rows) bad h in
    let few = not_refused _ _ (cond _ (Some _) None) both.0 in
    (ltb-false (length rows) least_rows few.0, both.1)

-- where no row is bad, each is allowed
pub each_allowed : (allowed : ℕ → ℕ → Bool) (i : ℕ) (rows : List ℕ) → is_some (first_bad allowed i rows) ≡ false → (j : ℕ) → j < length rows → allowed (i + j) (slice_index_or rows j no_row) ≡ true
each_allowed allowed i [] h j k = absurd (omega arith)
each_allowed allowed i (word ∷ later) h zero k = ap (λ (n : ℕ). allowed n word) (add-zero i) ∙ (row_passed (allowed i word) _ _ h).0
each_allowed allowed i (word ∷ later) h (suc j) k =
    let rest = each_allowed allowed (i + 1) later (row_passed (allowed i word) _ _ h).1 j (omega arith) in
    let place : i + suc j ≡ i + 1 + j = omega arith in
    ap (λ (n : ℕ). allowed n (slice_index_or later j no_row)) place ∙ rest
