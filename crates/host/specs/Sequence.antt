-- An expression as a script holds it: one word of kind Expression, or the word of a Sequence and its parts, which
-- ECMA-262's comma operator evaluates in order for the value of the last. The questions about such an
-- expression, by the list of its parts' numbers, and the laws of a host's answers for it.
-- No part at all stands for an expression that is absent: it has no effects, and nothing else is known of it.
use Rattle.std.specs.Prelude.{◌≡◌, ℕ, Bool, true, false, cond, ◌||◌, List, [], ◌∷◌, map, Some, None, Option, ◌==◌}
use Rattle.words.specs.declared.word.Kind.TheVariants as kind
use Rattle.words.specs.Words.{code, read_word}
use Rattle.words.specs.Tree.{Expression, expression}
use Rattle.words.specs.Encode.{encode_expression}
use Rattle.host.specs.Model.{Model, Value, World, Outcome, gives, throws, no_return}

-- the numbers of words
abbrev pub numbers : List ℕ → List ℕ
numbers words = map (λ w. (read_word w).number) words

-- the numbers of the parts of an expression with these words
abbrev pub part_numbers : List ℕ → List ℕ
part_numbers [] = []
part_numbers (w ∷ ws) = cond (code (read_word w).kind == code kind.Sequence) (numbers ws) (numbers (w ∷ ws))

abbrev pub parts_of : Expression → List ℕ
parts_of (expression e es) = e ∷ es

abbrev pub last_number : List ℕ → Option ℕ
last_number [] = None
last_number (e ∷ []) = Some e
last_number (e ∷ d ∷ es) = last_number (d ∷ es)

-- the only number, if there is one and no more
abbrev pub sole_number : List ℕ → Option ℕ
sole_number [] = None
sole_number (e ∷ []) = Some e
sole_number (e ∷ d ∷ es) = None

-- what a question answers of a number that may be missing
abbrev pub ask : {A : Type 0} → A → (ℕ → A) → Option ℕ → A
ask unknown question None = unknown
ask unknown question (Some e) = question e

-- the last part's truth and value
abbrev pub truth_of : Model → List ℕ → Option Bool
truth_of m es = ask None m.truth? (last_number es)

abbrev pub value_of : Model → List ℕ → Option Value
value_of m es = ask None m.value? (last_number es)

-- the effects of any part
abbrev pub effects_of : Model → List ℕ → Bool
effects_of m [] = false
effects_of m (e ∷ es) = m.effects? e || effects_of m es

-- a Sequence is no literal
abbrev pub literal_of : Model → List ℕ → Bool
literal_of m es = ask false m.literal? (sole_number es)

-- goes on from the world that an action leaves, unless it gave no value
abbrev pub and_then : Outcome Value → (World → Outcome Value) → Outcome Value
and_then (gives v u) next = next u
and_then (throws v u) next = throws v u
and_then no_return next = no_return

-- part by part, each an action of its own, up to the first that gives no value
abbrev pub evaluate_of : Model → List ℕ → World → Outcome Value
evaluate_of m [] w = gives [] w
evaluate_of m (e ∷ []) w = m.evaluate e w
evaluate_of m (e ∷ d ∷ es) w = and_then (m.evaluate e w) (evaluate_of m (d ∷ es))

-- The laws of a host's answers, for the expression with these words.
pub record SequenceLaws (m : Model) (words : List ℕ) : Type 0 where
  -- the parts are those of the expression that the words encode
  pub parts : (x : Expression) → map read_word words ≡ encode_expression x → part_numbers words ≡ parts_of x
  -- a known truth is that of every value that evaluation gives
  pub truth : (b : Bool) → truth_of m (part_numbers words) ≡ Some b → (w : World) (v : Value) (u : World) → evaluate_of m (part_numbers words) w ≡ gives v u → m.truthy v ≡ b
  -- a known value is the one that evaluation gives, wherever it gives one
  pub value : (k : Value) → value_of m (part_numbers words) ≡ Some k → (w : World) (v : Value) (u : World) → evaluate_of m (part_numbers words) w ≡ gives v u → v ≡ k
  -- without effects, evaluation gives a value at every world and leaves the world as it was
  pub effects : effects_of m (part_numbers words) ≡ false → (w : World) → (v : Value) × (evaluate_of m (part_numbers words) w ≡ gives v w)
  -- a literal has no effects
  pub literal : literal_of m (part_numbers words) ≡ true → effects_of m (part_numbers words) ≡ false
