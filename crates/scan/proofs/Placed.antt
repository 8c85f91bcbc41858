-- The places of a tree are those that a scan over its words finds.
use Rattle.std.proofs.Common.{◌≡◌, ℕ, zero, suc, ◌+◌, ◌-◌, ◌<◌, ◌≤◌, Bool, true, false, cond, eqb, List, [], ◌∷◌, ◌++◌, map, length, get_or, Some, None, Option, sym, refl, ap, ◌∙◌, ap₂, append_assoc, append-nil, arith, length-append, filter}
use Rattle.words.specs.declared.word.Kind.TheVariants as kind
use Rattle.words.specs.declared.word.Word.{Word}
use Rattle.words.specs.Words.{word, read_word}
use Rattle.words.specs.Tree.{Expression, expression, Declarator, Name, NameInit, Start, no_start, start_expression, start_var, start_let}
use Rattle.words.specs.Tree.{Statement, Empty, Break, Continue, Block, Expr, Throw, Var, If, IfElse, For, While, Do, Switch, Label, BreakTo, ContinueTo, Return, TryCatch, TryFinally, TryBoth}
use Rattle.words.specs.Tree.{Statements, none, some, Let, Cases, no_case, case}
use Rattle.words.specs.Encode.{encode_expression, encode_optional, encode_declarator, encode_declarators, encode_start, for_number, count, catch_head, case_head, encode, encode_list, encode_cases, encode_body}
use Rattle.scan.specs.Places.{places, places_list, places_cases, places_body, declares, begins_statement_lem, begins_from, begins_at, places_from, places_words, at_place}
use Rattle.std.specs.Option.{option_map}
use Rattle.std.specs.List.{range_with_len, slice_get}
use Rattle.std.proofs.lemmas.List.{length-map}
use Rattle.encoding.proofs.ForNumber.{by_declaration, for_has}

-- a scan over the words finds these places, given where the words begin, and then goes on after them
record Placed (ws : List Word) (ps : ℕ → List ℕ) : Type 0 where
  placed : (i : ℕ) (rest : List Word) → places_from i false (ws ++ rest) ≡ ps i ++ places_from (i + length ws) false rest

from_at : {i j : ℕ} (rest : List Word) → i ≡ j → places_from i false rest ≡ places_from j false rest
from_at rest e = ap (λ k. places_from k false rest) e

placed_none : Placed [] (λ i. [])
placed_none = record { placed = λ i rest. from_at rest (omega arith) }

placed_join : {xs ys : List Word} {ps qs : ℕ → List ℕ} → Placed xs ps → Placed ys qs → Placed (xs ++ ys) (λ i. ps i ++ qs (i + length xs))
placed_join {xs} {ys} {ps} {qs} p q = record {
  placed = λ i rest.
      ap (places_from i false) (append_assoc xs ys rest) ∙ p.placed i (ys ++ rest)
      ∙ ap (λ z. ps i ++ z) (q.placed (i + length xs) rest)
      ∙ ap (λ z. ps i ++ (qs (i + length xs) ++ z)) (from_at rest (let e : i + length xs + length ys ≡ i + length (xs ++ ys) = simp length-append (omega arith) in e))
      ∙ sym (append_assoc (ps i) (qs (i + length xs)) (places_from (i + length (xs ++ ys)) false rest));
}

-- the second part has no places
placed_before : {xs ys : List Word} {ps : ℕ → List ℕ} → Placed xs ps → Placed ys (λ i. []) → Placed (xs ++ ys) ps
placed_before {xs} {ys} {ps} p q = record {
  placed = λ i rest.
      (placed_join p q).placed i rest ∙ ap (λ z. z ++ places_from (i + length (xs ++ ys)) false rest) (append-nil (ps i));
}

-- a word that is no For, a statement or not
placed_word : (w : Word) {ws : List Word} {ps : ℕ → List ℕ} → begins_statement_lem false w ≡ false → declares w ≡ false → Placed ws ps → Placed (w ∷ ws) (λ i. ps (suc i))
placed_word w {ws} {ps} b d p = record {
  placed = λ i rest.
      ap₂ (λ x y. cond x (i ∷ []) [] ++ places_from (suc i) y (ws ++ rest)) b d ∙ p.placed (suc i) rest
      ∙ ap (λ z. ps (suc i) ++ z) (from_at rest (omega arith));
}

placed_statement : (w : Word) {ws : List Word} {ps : ℕ → List ℕ} → begins_statement_lem false w ≡ true → declares w ≡ false → Placed ws ps → Placed (w ∷ ws) (λ i. i ∷ ps (suc i))
placed_statement w {ws} {ps} b d p = record {
  placed = λ i rest.
      ap₂ (λ x y. cond x (i ∷ []) [] ++ places_from (suc i) y (ws ++ rest)) b d ∙ ap (λ z. i ∷ z) (p.placed (suc i) rest)
      ∙ ap (λ z. i ∷ ps (suc i) ++ z) (from_at rest (omega arith));
}

placed_numbers : (xs : List ℕ) → Placed (map (word kind.Expression) xs) (λ i. [])
placed_numbers [] = placed_none
placed_numbers (x ∷ xs) = placed_word _ refl refl (placed_numbers xs)

placed_expression : (e : Expression) → Placed (encode_expression e) (λ i. [])
placed_expression (expression x []) = placed_word _ refl refl placed_none
placed_expression (expression x (y ∷ ys)) = placed_word _ refl refl (placed_numbers (x ∷ y ∷ ys))

placed_optional : (e : Option Expression) → Placed (encode_optional e) (λ i. [])
placed_optional None = placed_none
placed_optional (Some e) = placed_expression e

placed_declarator : (d : Declarator) → Placed (encode_declarator d) (λ i. [])
placed_declarator (Name x) = placed_word _ refl refl placed_none
placed_declarator (NameInit x e) = placed_word _ refl refl (placed_expression e)

placed_declarators : (ds : List Declarator) → Placed (encode_declarators ds) (λ i. [])
placed_declarators [] = placed_none
placed_declarators (d ∷ ds) = placed_join (placed_declarator d) (placed_declarators ds)

-- Where a For begins with a declaration, the word after it is passed over.

abbrev is_declaration : Start → Bool
is_declaration i = eqb (by_declaration i) 1

start_placed : (s : Start) (i : ℕ) (rest : List Word) → places_from i (is_declaration s) (encode_start s ++ rest) ≡ places_from (i + length (encode_start s)) false rest
start_placed no_start i rest = from_at rest (omega arith)
start_placed (start_expression e) i rest = (placed_expression e).placed i rest
start_placed (start_var d ds) i rest = (placed_declarators (d ∷ ds)).placed (suc i) rest ∙ from_at rest (omega arith)
start_placed (start_let d ds) i rest = (placed_declarators (d ∷ ds)).placed (suc i) rest ∙ from_at rest (omega arith)

placed_for : (s : Start) (t u : Option Expression) {ws : List Word} {ps : ℕ → List ℕ} → Placed ws ps →
    Placed (word kind.For (for_number s t u) ∷ encode_start s ++ ws) (λ i. i ∷ ps (suc i + length (encode_start s)))
placed_for s t u {ws} {ps} p = record {
  placed = λ i rest.
      let at = suc i + length (encode_start s) in
      ap (λ b. i ∷ places_from (suc i) b ((encode_start s ++ ws) ++ rest)) (ap (λ n. eqb n 1) (for_has s t u).has_declaration)
      ∙ ap (λ z. i ∷ places_from (suc i) (is_declaration s) z) (append_assoc (encode_start s) ws rest)
      ∙ ap (λ z. i ∷ z) (start_placed s (suc i) (ws ++ rest) ∙ p.placed at rest)
      ∙ ap (λ z. i ∷ ps at ++ z) (from_at rest (let e : at + length ws ≡ i + suc (length (encode_start s ++ ws)) = simp length-append (omega arith) in e));
}

placed_catch : (x : Option ℕ) (n : ℕ) → Placed (catch_head x n) (λ i. [])
placed_catch None n = placed_word _ refl refl placed_none
placed_catch (Some x) n = placed_word _ refl refl (placed_word _ refl refl placed_none)

placed_case : (t : Option Expression) (n : ℕ) → Placed (case_head t n) (λ i. [])
placed_case None n = placed_word _ refl refl placed_none
placed_case (Some e) n = placed_word _ refl refl (placed_expression e)

mutual
  placed_one : (s : Statement) → Placed (encode s) (λ i. places i s)
  placed_one Empty = placed_statement _ refl refl placed_none
  placed_one Break = placed_statement _ refl refl placed_none
  placed_one Continue = placed_statement _ refl refl placed_none
  placed_one (Block ss) = placed_statement _ refl refl (placed_list ss)
  placed_one (Expr e) = placed_statement _ refl refl (placed_expression e)
  placed_one (Throw e) = placed_statement _ refl refl (placed_expression e)
  placed_one (Var d ds) = placed_statement _ refl refl (placed_declarators (d ∷ ds))
  placed_one (If e s) = placed_statement _ refl refl (placed_join (placed_expression e) (placed_one s))
  placed_one (IfElse e s t) = placed_statement _ refl refl (placed_join (placed_expression e) (placed_join (placed_one s) (placed_one t)))
  placed_one (For i t u s) = placed_for i t u (placed_join (placed_optional t) (placed_join (placed_optional u) (placed_one s)))
  placed_one (While e s) = placed_statement _ refl refl (placed_join (placed_expression e) (placed_one s))
  placed_one (Do s e) = placed_statement _ refl refl (placed_before (placed_one s) (placed_expression e))
  placed_one (Switch e cs) = placed_statement _ refl refl (placed_join (placed_expression e) (placed_cases cs))
  placed_one (Label l s) = placed_statement _ refl refl (placed_one s)
  placed_one (BreakTo l) = placed_statement _ refl refl placed_none
  placed_one (ContinueTo l) = placed_statement _ refl refl placed_none
  placed_one (Return e) = placed_statement _ refl refl (placed_optional e)
  placed_one (TryCatch b x c) =
      placed_statement _ refl refl (placed_join (placed_word _ refl refl (placed_list b)) (placed_join (placed_catch x (count c)) (placed_list c)))
  placed_one (TryFinally b f) =
      placed_statement _ refl refl (placed_join (placed_word _ refl refl (placed_list b)) (placed_word _ refl refl (placed_list f)))
  placed_one (TryBoth b x c f) =
      placed_statement _ refl refl (placed_join (placed_word _ refl refl (placed_list b))
      (placed_join (placed_join (placed_catch x (count c)) (placed_list c)) (placed_word _ refl refl (placed_list f))))

  placed_list : (ss : Statements) → Placed (encode_list ss) (λ i. places_list i ss)
  placed_list none = placed_none
  placed_list (some s ss) = placed_join (placed_one s) (placed_list ss)
  placed_list (Let d ds ss) = placed_join (placed_statement _ refl refl (placed_declarators (d ∷ ds))) (placed_list ss)

  placed_cases : (cs : Cases) → Placed (encode_cases cs) (λ i. places_cases i cs)
  placed_cases no_case = placed_none
  placed_cases (case t ss cs) = placed_join (placed_join (placed_case t (count ss)) (placed_list ss)) (placed_cases cs)

-- a script
pub places_of_body : (ss : Statements) → places_words (encode_body ss) ≡ places_body ss
places_of_body ss =
    ap (places_from 1 false) (sym (append-nil (encode_list ss))) ∙ (placed_list ss).placed 1 [] ∙ append-nil (places_list 1 ss)

-- Word by word: a statement begins past the end nowhere, and else as the word before says.
pub begins_none : (d : Bool) (xs : List ℕ) (n : ℕ) → length xs ≤ n → begins_from d (map read_word xs) n ≡ false
begins_none d [] n h = refl
begins_none d (x ∷ xs) zero h = absurd (omega arith)
begins_none d (x ∷ xs) (suc n) h = begins_none (declares (read_word x)) xs n (omega arith)

begins_suc : (d : Bool) (xs : List ℕ) (n : ℕ) → suc n < length xs →
    begins_from d (map read_word xs) (suc n) ≡ begins_statement_lem (declares (read_word (get_or xs n 0))) (read_word (get_or xs (suc n) 0))
begins_suc d [] n h = absurd (omega arith)
begins_suc d (x ∷ []) n h = absurd (omega arith)
begins_suc d (x ∷ y ∷ ys) zero h = refl
begins_suc d (x ∷ y ∷ ys) (suc n) h = begins_suc (declares (read_word x)) (y ∷ ys) n (omega arith)

pub begins_next : (d : Bool) (xs : List ℕ) (n : ℕ) → (n ≡ 0 → ⊥) → n < length xs →
    begins_from d (map read_word xs) n ≡ begins_statement_lem (declares (read_word (get_or xs (n - 1) 0))) (read_word (get_or xs n 0))
begins_next d xs zero z h = absurd (z refl)
begins_next d xs (suc n) z h =
    begins_suc d xs n h ∙ ap (λ k. begins_statement_lem (declares (read_word (get_or xs k 0))) (read_word (get_or xs (suc n) 0))) (let e : n ≡ suc n - 1 = omega arith in e)

one_place : (b : Bool) (i : ℕ) (ps : List ℕ) → cond b (i ∷ ps) ps ≡ cond b (i ∷ []) [] ++ ps
one_place true i ps = refl
one_place false i ps = refl

-- the words where statements begin are the places
places_filter : (ws : List Word) (d : Bool) (i : ℕ) (q : ℕ → Bool) → ((n : ℕ) → q (i + n) ≡ begins_from d ws n) → filter q (range_with_len i (length ws)) ≡ places_from i d ws
places_filter [] d i q h = refl
places_filter (w ∷ ws) d i q h =
    let here : q i ≡ begins_statement_lem d w = ap q (let e : i ≡ i + 0 = omega arith in e) ∙ h 0 in
    let later : (n : ℕ) → q (i + 1 + n) ≡ begins_from (declares w) ws n = λ n. ap q (let e : i + 1 + n ≡ i + suc n = omega arith in e) ∙ h (suc n) in
    let rest = places_filter ws (declares w) (i + 1) q later ∙ ap (λ k. places_from k (declares w) ws) (let e : i + 1 ≡ suc i = omega arith in e) in
    ap₂ (λ b ps. cond b (i ∷ ps) ps) here rest ∙ one_place (begins_statement_lem d w) i (places_from (suc i) (declares w) ws)

pub places_of_words : (xs : List ℕ) → filter (begins_at (map read_word xs)) (range_with_len 0 (length xs)) ≡ places_words (map read_word xs)
places_of_words xs =
    let ws = map read_word xs in
    ap (λ n. filter (begins_at ws) (range_with_len 0 n)) (sym (length-map xs read_word))
    ∙ places_filter ws false 0 (begins_at ws) (λ n. ap (begins_at ws) (let e : 0 + n ≡ n = omega arith in e))

pub place_get : (ps : List ℕ) (n : ℕ) → slice_get ps n ≡ at_place n ps
place_get [] n = refl
place_get (p ∷ ps) zero = refl
place_get (p ∷ ps) (suc n) = place_get ps n

pub found : (o : Option ℕ) → o ≡ option_map (λ n. n) o
found None = refl
found (Some n) = refl
