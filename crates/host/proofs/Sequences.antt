-- The parts of an expression's words, and the laws of a host's answers for expressions of any length.
use Rattle.std.proofs.Common.{◌≡◌, ℕ, ◌-◌, ◌<◌, Bool, true, false, cond, ◌||◌, eqb, List, [], ◌∷◌, map, length, get_or, Some, None, Option, sym, refl, ap, ◌∙◌, arith}
use borrow.Author.Tests.{clash}
use Rattle.std.specs.List.{list_any}
use Rattle.words.specs.declared.word.Kind.TheVariants as kind
use Rattle.words.specs.declared.word.Word.{Word}
use Rattle.words.specs.Words.{word, code, read_word}
use Rattle.words.specs.Tree.{Expression, expression}
use Rattle.words.specs.Encode.{encode_expression}
use Rattle.host.specs.Model.{Model, Lawful, Value, World, Outcome, gives, throws, no_return}
use Rattle.host.specs.Sequence.{numbers, part_numbers, parts_of, last_number, ask, effects_of, literal_of, and_then, evaluate_of, SequenceLaws}

last_of : (x : ℕ) (xs : List ℕ) → last_number (numbers (x ∷ xs)) ≡ Some (read_word (get_or (x ∷ xs) (length xs) 0)).number
last_of x [] = refl
last_of x (y ∷ ys) = last_of y ys

pub last_at : (words : List ℕ) → 0 < length words → last_number (numbers words) ≡ Some (read_word (get_or words (length words - 1) 0)).number
last_at [] h = absurd (omega arith)
last_at (x ∷ xs) h =
    let e : length xs ≡ length (x ∷ xs) - 1 = omega arith in
    last_of x xs ∙ ap (λ n. Some (read_word (get_or (x ∷ xs) n 0)).number) e

-- any part has effects
pub any_effects_of : (m : Model) (ws : List ℕ) → list_any (λ w. m.effects? (read_word w).number) ws ≡ effects_of m (numbers ws)
any_effects_of m [] = refl
any_effects_of m (w ∷ ws) = ap (λ b. m.effects? (read_word w).number || b) (any_effects_of m ws)

-- a value that parts in a row give comes from those after the first
onward : (o : Outcome Value) (next : World → Outcome Value) (v : Value) (u : World) → and_then o next ≡ gives v u → (w : World) × (next w ≡ gives v u)
onward (gives x w) next v u p = (w, p)
onward (throws x w) next v u p = let z : ◌≡◌ {A = ℕ} 0 1 = cc in absurd (omega arith)
onward no_return next v u p = let z : ◌≡◌ {A = ℕ} 0 1 = cc in absurd (omega arith)

neither : (a b : Bool) → a || b ≡ false → (a ≡ false) × (b ≡ false)
neither true b p = absurd (clash (sym p))
neither false b p = (refl, p)

module _ (m : Model) (l : Lawful m) where
  -- what a law says of the last part's values it says of the sequence's
  lifts : (P : Value → Type 0) (e : ℕ) (es : List ℕ) (k : ℕ) → last_number (e ∷ es) ≡ Some k →
      ((w : World) (v : Value) (u : World) → m.evaluate k w ≡ gives v u → P v) →
      (w : World) (v : Value) (u : World) → evaluate_of m (e ∷ es) w ≡ gives v u → P v
  lifts P e [] k p law w v u q = let s : e ≡ k = cc in law w v u (ap (λ x. m.evaluate x w) (sym s) ∙ q)
  lifts P e (d ∷ es) k p law w v u q =
      let o = onward (m.evaluate e w) (evaluate_of m (d ∷ es)) v u q in lifts P d es k p law o.0 v u o.1

  effects_hold : (es : List ℕ) → effects_of m es ≡ false → (w : World) → (v : Value) × (evaluate_of m es w ≡ gives v w)
  effects_hold [] p w = ([], refl)
  effects_hold (e ∷ []) p w = l.effects e (neither (m.effects? e) false p).0 w
  effects_hold (e ∷ d ∷ es) p w =
      let n = neither (m.effects? e) (effects_of m (d ∷ es)) p in
      let first = l.effects e n.0 w in
      let rest = effects_hold (d ∷ es) n.1 w in
      (rest.0, ap (λ o. and_then o (evaluate_of m (d ∷ es))) first.1 ∙ rest.1)

  literal_holds : (es : List ℕ) → literal_of m es ≡ true → effects_of m es ≡ false
  literal_holds [] p = absurd (clash p)
  literal_holds (e ∷ []) p = ap (λ b. b || false) (l.literal e p)
  literal_holds (e ∷ d ∷ es) p = absurd (clash p)

  truth_holds : (es : List ℕ) (k : Option ℕ) → last_number es ≡ k → (b : Bool) → ask None m.truth? k ≡ Some b →
      (w : World) (v : Value) (u : World) → evaluate_of m es w ≡ gives v u → m.truthy v ≡ b
  truth_holds es None k b p w v u q = let z : ◌≡◌ {A = ℕ} 0 1 = cc in absurd (omega arith)
  truth_holds [] (Some e) k b p w v u q = let z : ◌≡◌ {A = ℕ} 0 1 = cc in absurd (omega arith)
  truth_holds (x ∷ xs) (Some e) k b p w v u q = lifts (λ y. m.truthy y ≡ b) x xs e k (l.truth e b p) w v u q

  value_holds : (es : List ℕ) (k : Option ℕ) → last_number es ≡ k → (n : Value) → ask None m.value? k ≡ Some n →
      (w : World) (v : Value) (u : World) → evaluate_of m es w ≡ gives v u → v ≡ n
  value_holds es None k n p w v u q = let z : ◌≡◌ {A = ℕ} 0 1 = cc in absurd (omega arith)
  value_holds [] (Some e) k n p w v u q = let z : ◌≡◌ {A = ℕ} 0 1 = cc in absurd (omega arith)
  value_holds (x ∷ xs) (Some e) k n p w v u q = lifts (λ y. y ≡ n) x xs e k (l.value e n p) w v u q

  numbers_of : (ws : List ℕ) (es : List ℕ) → map read_word ws ≡ map (word kind.Expression) es → numbers ws ≡ es
  numbers_of [] [] p = refl
  numbers_of [] (e ∷ es) p = let z : ◌≡◌ {A = ℕ} 0 1 = cc in absurd (omega arith)
  numbers_of (w ∷ ws) [] p = let z : ◌≡◌ {A = ℕ} 0 1 = cc in absurd (omega arith)
  numbers_of (w ∷ ws) (e ∷ es) p =
      let here : read_word w ≡ word kind.Expression e = cc in
      let rest : map read_word ws ≡ map (word kind.Expression) es = cc in
      let n : (read_word w).number ≡ e = ap (λ x. x.number) here in
      let r = numbers_of ws es rest in cc

  parts_hold : (words : List ℕ) (x : Expression) → map read_word words ≡ encode_expression x → part_numbers words ≡ parts_of x
  parts_hold [] (expression e []) p = let z : ◌≡◌ {A = ℕ} 0 1 = cc in absurd (omega arith)
  parts_hold [] (expression e (d ∷ es)) p = let z : ◌≡◌ {A = ℕ} 0 1 = cc in absurd (omega arith)
  parts_hold (w ∷ ws) (expression e []) p =
      let here : read_word w ≡ word kind.Expression e = cc in
      ap (λ (x : Word). cond (eqb (code x.kind) (code kind.Sequence)) (numbers ws) (numbers (w ∷ ws))) here ∙ numbers_of (w ∷ ws) (e ∷ []) p
  parts_hold (w ∷ ws) (expression e (d ∷ es)) p =
      let here : read_word w ≡ word kind.Sequence (length (e ∷ d ∷ es)) = cc in
      let rest : map read_word ws ≡ map (word kind.Expression) (e ∷ d ∷ es) = cc in
      ap (λ (x : Word). cond (eqb (code x.kind) (code kind.Sequence)) (numbers ws) (numbers (w ∷ ws))) here ∙ numbers_of ws (e ∷ d ∷ es) rest

  pub sequence_laws : (words : List ℕ) → SequenceLaws m words
  sequence_laws words = record {
    parts = parts_hold words;
    truth = truth_holds (part_numbers words) _ refl;
    value = value_holds (part_numbers words) _ refl;
    effects = effects_hold (part_numbers words);
    literal = literal_holds (part_numbers words);
  }
