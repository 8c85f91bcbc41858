-- Where a scan past a part ends.
use Rattle.std.proofs.Common.{◌≡◌, ℕ, zero, suc, ◌+◌, ◌-◌, ◌<◌, ◌≤◌, min, max, List, [], ◌∷◌, map, length, take, drop, Option, sym, refl, ap, ◌∙◌, ap₂, ⊎_elim, arith, length-append, length-drop}
use Rattle.std.proofs.lemmas.List.{length-map, length-take-le, take_all, drop-map, drop_all, drop-drop}
use Rattle.std.proofs.lemmas.Bool.{cases_lt}
use Rattle.words.specs.declared.word.Word.{Word}
use Rattle.words.specs.declared.word.Kind.TheVariants as kind
use Rattle.words.specs.Words.{word, read_word}
use Rattle.grammar.specs.Format.{part_count, skip}
use Rattle.scan.specs.Scan.{end_from, OneCase, encode_one_case, EndsAt, Ends, OneTree, Unique}
use Rattle.words.specs.Tree.{Expression, Statements}
use Rattle.words.specs.Encode.{encode_expression, encode_declarator, encode, encode_body}
use Rattle.scan.proofs.Skips.{Skips, skips_statement, skips_body, skips_case, skips_list, skips_declarator, skips_expression}
use Rattle.encoding.proofs.Unique.{One, unique_statement, unique_body, unique_case, unique_declarator, unique_expression}

pub skip_more : (k : ℕ) (w : Word) (ws : List Word) → 0 < k → skip k (w ∷ ws) ≡ skip (k - 1 + part_count w) ws
skip_more zero w ws h = absurd (omega arith)
skip_more (suc k) w ws h = ap (λ n. skip (n + part_count w) ws) (let e : k ≡ suc k - 1 = omega arith in e)

pub skip_none : (k : ℕ) → skip k [] ≡ []
skip_none zero = refl
skip_none (suc k) = refl

-- there are no more parts than words
skip_all : (k : ℕ) (ws : List Word) → length ws ≤ k → skip k ws ≡ []
skip_all k [] h = skip_none k
skip_all zero (w ∷ ws) h = absurd (omega arith)
skip_all (suc k) (w ∷ ws) h = skip_all (k + part_count w) ws (omega arith)

-- so a count of parts that stops at a number as large as the words are many does as well
pub skip_capped : (cap k j : ℕ) (ws : List Word) → length ws ≤ cap → j ≡ min cap k → skip j ws ≡ skip k ws
skip_capped cap k j ws h e = ⊎_elim
    (λ l. skip_all j ws (omega arith) ∙ sym (skip_all k ws (omega arith)))
    (λ l. ap (λ n. skip n ws) (let s : j ≡ k = omega arith in s))
    (cases_lt cap k)

-- a part has a word
skips_some : (ws : List Word) → Skips 1 ws → 0 < length ws
skips_some [] p = let e : ◌≡◌ {A = ℕ} 0 1 = ap length (p.past 0 (word kind.Empty 0 ∷ [])) in absurd (omega arith)
skips_some (w ∷ ws) p = omega arith

-- a scan past one part ends where the part ends
ends_at : {Tree : Type 0} (words_of : Tree → List Word) → ((t : Tree) → Skips 1 (words_of t)) → (xs : List ℕ) (at r : ℕ) → at ≤ r → r ≤ max at (length xs) →
    drop r (map read_word xs) ≡ skip 1 (drop at (map read_word xs)) → EndsAt words_of (map read_word xs) at r
ends_at words_of p xs at r from within e t rest d =
    let tail : drop r (map read_word xs) ≡ rest = e ∙ ap (skip 1) d ∙ (p t).past 0 rest in
    let a = simp (length-drop, length-map) at (ap length tail) in
    let b = simp (length-drop, length-map, length-append) at (ap length d) in
    let n = skips_some (words_of t) (p t) in
    omega arith

pub end_is : (xs : List ℕ) (at r : ℕ) → at ≤ r → r ≤ max at (length xs) →
    drop r (map read_word xs) ≡ skip 1 (drop at (map read_word xs)) → r ≡ end_from (map read_word xs) at
end_is xs at r from within e =
    let a = simp (length-drop, length-map) at (ap length e) in
    simp (length-drop, length-map) (omega arith)

pub ends : (xs : List ℕ) (at r : ℕ) → at ≤ r → r ≤ max at (length xs) →
    drop r (map read_word xs) ≡ skip 1 (drop at (map read_word xs)) → Ends (map read_word xs) at r
ends xs at r from within e = record {
  statement = ends_at encode skips_statement xs at r from within e;
  body = ends_at encode_body skips_body xs at r from within e;
  one_case = ends_at encode_one_case (λ c. skips_case c.0 c.1 (skips_list c.1)) xs at r from within e;
  declarator = ends_at encode_declarator skips_declarator xs at r from within e;
  expression = ends_at encode_expression skips_expression xs at r from within e;
}

-- the words from a place on, none past their end
pub words_from : (xs : List ℕ) (at k : ℕ) → k ≡ min at (length xs) → map read_word (take (length xs - k) (drop k xs)) ≡ drop at (map read_word xs)
words_from xs at k e =
    let whole : take (length xs - k) (drop k xs) ≡ drop k xs = take_all (length xs - k) (drop k xs) (simp length-drop (omega arith)) in
    let ws = map read_word xs in
    ap (map read_word) whole ∙ sym (drop-map read_word k xs) ∙ ⊎_elim
    (λ (l : length xs < at). drop_all k ws (simp length-map (omega arith)) ∙ sym (drop_all at ws (simp length-map (omega arith))))
    (λ (l : at ≤ length xs). ap (λ n. drop n ws) (let s : k ≡ at = omega arith in s))
    (cases_lt (length xs) at)

pub count_from : (xs : List ℕ) (k : ℕ) → length (take (length xs - k) (drop k xs)) ≡ length xs - k
count_from xs k = length-take-le (length xs - k) (drop k xs) (simp length-drop (omega arith))

-- what is left past one part, where no part is due any more, and where no word is left
pub none_due : (ws rest : List Word) (at r k : ℕ) → rest ≡ drop at ws → skip k (drop r rest) ≡ skip 1 rest → k ≡ 0 → drop (at + r) ws ≡ skip 1 (drop at ws)
none_due ws rest at r k e h z =
    sym (drop-drop r at ws) ∙ ap (drop r) (sym e) ∙ ap (λ n. skip n (drop r rest)) (sym z) ∙ h ∙ ap (skip 1) e

pub none_left : (ws rest : List Word) (at r k n : ℕ) → rest ≡ drop at ws → skip k (drop r rest) ≡ skip 1 rest → length rest ≡ n → n ≤ r → drop (at + n) ws ≡ skip 1 (drop at ws)
none_left ws rest at r k n e h l z =
    sym (drop-drop n at ws) ∙ ap (drop n) (sym e) ∙ drop_all n rest (omega arith) ∙ sym (skip_none k)
    ∙ ap (skip k) (sym (drop_all r rest (omega arith))) ∙ h ∙ ap (skip 1) e

one_tree : {Tree : Type 0} (words_of : Tree → List Word) → ((t : Tree) → One words_of t) → (ws : List Word) → OneTree words_of ws
one_tree words_of f ws s t p q a b = f s t p q (sym a ∙ b)

same_case : (c : OneCase) → One encode_one_case c
same_case c d p q h =
    let r = unique_case c.0 c.1 d.0 d.1 p q h in
    let pair : Option Expression → Statements → OneCase = λ t ss. (t, ss) in
    (ap₂ pair r.0 r.1, r.2)

pub unique : (ws : List Word) → Unique ws
unique ws = record {
  statement = one_tree encode unique_statement ws;
  body = one_tree encode_body unique_body ws;
  one_case = one_tree encode_one_case same_case ws;
  declarator = one_tree encode_declarator unique_declarator ws;
  expression = one_tree encode_expression unique_expression ws;
}
