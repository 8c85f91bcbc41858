-- What the laws of a host say of evaluation, a sequence included.
use Rattle.std.proofs.Common.{◌≡◌, ℕ, Bool, true, false, cond, ◌||◌, List, [], ◌∷◌, ◌++◌, Some, None, Option, sym, refl, ap, ◌∙◌}
use mathlib.Core.Path.{fun_ext}
use Rattle.host.specs.Model.{Model, Lawful, Value, World, Outcome, gives, throws, no_return}
use Rattle.host.specs.Sequence.{parts_of, last_number, ask, truth_of, value_of, effects_of}
use Rattle.meaning.specs.Completion.{Evaluation}
use Rattle.meaning.specs.Run.{act, eval_parts, eval, branch}
use Rattle.words.specs.Tree.{Expression, expression}

pub or_false_left : (a b : Bool) → (a || b) ≡ false → a ≡ false
or_false_left true b q = q
or_false_left false b q = refl

pub or_false_right : (a b : Bool) → (a || b) ≡ false → b ≡ false
or_false_right true b q = cc
or_false_right false b q = q

pub append_nil : (xs : List ℕ) → xs ++ [] ≡ xs
append_nil [] = refl
append_nil (x ∷ xs) = ap (λ ys. x ∷ ys) (append_nil xs)

module _ (m : Model) where
  -- the value evaluated is one that the last part gives
  pub eval_by : (P : Value → Type 0) (x : ℕ) (xs : List ℕ) →
      ((z : ℕ) → last_number (x ∷ xs) ≡ Some z → (w : World) (v : Value) (u : World) → m.evaluate z w ≡ gives v u → P v) →
      (c d : Value → Evaluation) → ((v : Value) → P v → c v ≡ d v) → eval_parts m x xs c ≡ eval_parts m x xs d
  unfolding eval_parts act
  eval_by P x [] r c d p = fun_ext λ k. fun_ext λ w. go k w (m.evaluate x w) refl
    where
      go : (k : ℕ) (w : World) (o : Outcome Value) → m.evaluate x w ≡ o → act o c k w ≡ act o d k w
      go k w (gives v u) q = ap (λ f. f k u) (p v (r x refl w v u q))
      go k w (throws v u) q = refl
      go k w no_return q = refl
  eval_by P x (y ∷ ys) r c d p = λ i k w. act (m.evaluate x w) (λ _. eval_by P y ys r c d p i) k w

  -- parts evaluated in a row, for nothing
  abbrev pub all_then : List ℕ → Evaluation → Evaluation
  all_then [] f = f
  all_then (x ∷ xs) f = eval_parts m x xs (λ _. f)

  pub eval_all : (e : Expression) (f : Evaluation) → eval m e (λ _. f) ≡ all_then (parts_of e) f
  unfolding eval
  eval_all (expression x xs) f = refl

  all_append : (x : ℕ) (xs : List ℕ) (y : ℕ) (ys : List ℕ) (c : Value → Evaluation) → eval_parts m x (xs ++ y ∷ ys) c ≡ eval_parts m x xs (λ _. eval_parts m y ys c)
  unfolding eval_parts act
  all_append x [] y ys c = refl
  all_append x (z ∷ zs) y ys c = λ i k w. act (m.evaluate x w) (λ _. all_append z zs y ys c i) k w

  pub then_append : (xs ys : List ℕ) (f : Evaluation) → all_then (xs ++ ys) f ≡ all_then xs (all_then ys f)
  then_append [] ys f = refl
  then_append (x ∷ xs) [] f = ap (λ z. all_then (x ∷ z) f) (append_nil xs)
  then_append (x ∷ xs) (y ∷ ys) f = all_append x xs y ys (λ _. f)

  pub last_append : (xs ys : List ℕ) (z : ℕ) → last_number ys ≡ Some z → last_number (xs ++ ys) ≡ Some z
  last_append [] ys z q = q
  last_append (x ∷ []) [] z q = cc
  last_append (x ∷ []) (y ∷ ys) z q = q
  last_append (x ∷ a ∷ xs) ys z q = last_append (a ∷ xs) ys z q

  known_last : {A : Type 0} (question : ℕ → Option A) (o : Option ℕ) (a : A) → ask None question o ≡ Some a → (z : ℕ) → o ≡ Some z → question z ≡ Some a
  known_last question o a q z p = sym (ap (ask None question) p) ∙ q

  -- a value known of the last parts is known of the whole
  pub value_append : (xs ys : List ℕ) (v : Value) → value_of m ys ≡ Some v → value_of m (xs ++ ys) ≡ Some v
  value_append xs ys v q = go (last_number ys) refl q
    where
      go : (o : Option ℕ) → last_number ys ≡ o → ask None m.value? o ≡ Some v → ask None m.value? (last_number (xs ++ ys)) ≡ Some v
      go None p r = cc
      go (Some z) p r = ap (ask None m.value?) (last_append xs ys z p) ∙ r

module _ (m : Model) (law : Lawful m) where
  pub eval_truth : (e : Expression) (b : Bool) → truth_of m (parts_of e) ≡ Some b → (f g : Evaluation) → branch m e f g ≡ all_then m (parts_of e) (cond b f g)
  unfolding branch eval
  eval_truth (expression x xs) b q f g =
      eval_by m (λ v. m.truthy v ≡ b) x xs (λ z p w v u r. law.truth z b (known_last m m.truth? (last_number (x ∷ xs)) b q z p) w v u r) _ _ (λ v p. ap (λ y. cond y f g) p)

  pub parts_value : (x : ℕ) (xs : List ℕ) (u : Value) → value_of m (x ∷ xs) ≡ Some u → (c : Value → Evaluation) → eval_parts m x xs c ≡ eval_parts m x xs (λ _. c u)
  parts_value x xs u q c =
      eval_by m (λ v. v ≡ u) x xs (λ z p w v t r. law.value z u (known_last m m.value? (last_number (x ∷ xs)) u q z p) w v t r) _ _ (λ v p. ap c p)

  pub eval_value : (e : Expression) (u : Value) → value_of m (parts_of e) ≡ Some u → (c : Value → Evaluation) → eval m e c ≡ all_then m (parts_of e) (c u)
  unfolding eval
  eval_value (expression x xs) u q c = parts_value x xs u q c

  pub all_idle : (xs : List ℕ) → effects_of m xs ≡ false → (f : Evaluation) → all_then m xs f ≡ f
  unfolding eval_parts act
  all_idle [] q f = refl
  all_idle (x ∷ []) q f = fun_ext λ k. fun_ext λ w. ap (λ o. act o (λ _. f) k w) (law.effects x (or_false_left _ _ q) w).1
  all_idle (x ∷ y ∷ ys) q f = fun_ext λ k. fun_ext λ w.
      ap (λ o. act o (λ _. eval_parts m y ys (λ _. f)) k w) (law.effects x (or_false_left _ _ q) w).1
      ∙ ap (λ g. g k w) (all_idle (y ∷ ys) (or_false_right (m.effects? x) (effects_of m (y ∷ ys)) q) f)

  pub eval_idle : (e : Expression) → effects_of m (parts_of e) ≡ false → (f : Evaluation) → eval m e (λ _. f) ≡ f
  eval_idle e q f = eval_all m e f ∙ all_idle (parts_of e) q f
