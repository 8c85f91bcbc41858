-- What a host means: worlds, what its actions do to them, and the laws that its answers keep.
-- Evaluation, bindings, scopes, strict equality and truth are those that ECMA-262 speaks of
-- (ToBoolean, IsStrictlyEqual, declarative environments); a host fixes them for its own expressions.
use Rattle.std.specs.Prelude.{◌≡◌, ℕ, ◌≤◌, Bool, true, false, List, Some, None, Option}

-- A value is a list of whole numbers; each host says what its own values stand for.
abbrev pub Value : Type 0
Value = List ℕ

-- What actions read and change: the answers not yet taken, the things sent so far in order, and the
-- names of each scope, in the order that the host chooses.
pub record World : Type 0 where
  pub answers : List ℕ
  pub sent : List ℕ
  pub scopes : List (List ℕ)

-- How an action ends: it gives a result and a world, throws a value and leaves a world, or never returns.
pub data Outcome (A : Type 0) : Type 0 where
  gives : A → World → Outcome A
  throws : Value → World → Outcome A
  no_return : Outcome A

-- What kind of declaration binds a name.
pub data Declaration : Type 0 where
  by_var : Declaration
  by_let : Declaration

pub record Model : Type 0 where
  -- the answers to the questions; None is 'unknown'
  pub count : ℕ
  pub truth? : ℕ → Option Bool
  pub value? : ℕ → Option Value
  pub effects? : ℕ → Bool
  pub literal? : ℕ → Bool
  pub granted? : ℕ → Bool
  -- truth of a value, and strict equality of two
  pub truthy : Value → Bool
  pub strictly_equal : Value → Value → Bool
  -- the actions: evaluate an expression, bind a name to a value or to none, enter a scope of these
  -- names, leave the scope entered last, and renew that scope between the rounds of a loop
  pub evaluate : ℕ → World → Outcome Value
  pub bind : Declaration → ℕ → Option Value → World → Outcome (Unit {0})
  pub enter : List ℕ → World → World
  pub leave : World → World
  pub renew : World → World

-- What the questions answer where nothing is known of an expression.
pub record Unknown (m : Model) (e : ℕ) : Type 0 where
  pub no_truth : m.truth? e ≡ None
  pub no_value : m.value? e ≡ None
  pub some_effects : m.effects? e ≡ true
  pub no_literal : m.literal? e ≡ false

-- An expression is a literal of a known value with this truth.
pub record Literal (m : Model) (e : ℕ) (b : Bool) : Type 0 where
  pub is_literal : m.literal? e ≡ true
  pub has_truth : m.truth? e ≡ Some b
  pub has_value : (v : Value) × (m.value? e ≡ Some v) × (m.truthy v ≡ b)

-- The laws, one field each.
pub record Lawful (m : Model) : Type 0 where
  -- there are expressions 0 and 1
  pub at_least_two : 2 ≤ m.count
  -- a known truth is that of every value that evaluation gives, at any world
  pub truth : (e : ℕ) (b : Bool) → m.truth? e ≡ Some b → (w : World) (v : Value) (u : World) → m.evaluate e w ≡ gives v u → m.truthy v ≡ b
  -- a known value is what evaluation gives, wherever it gives one
  pub value : (e : ℕ) (k : Value) → m.value? e ≡ Some k → (w : World) (v : Value) (u : World) → m.evaluate e w ≡ gives v u → v ≡ k
  -- without effects, evaluation gives a value at every world, and leaves the world as it was
  pub effects : (e : ℕ) → m.effects? e ≡ false → (w : World) → (v : Value) × (m.evaluate e w ≡ gives v w)
  -- a literal has no effects
  pub literal : (e : ℕ) → m.literal? e ≡ true → m.effects? e ≡ false
  -- nothing is known of an expression past the count
  pub past : (e : ℕ) → m.count ≤ e → Unknown m e
  -- expression 0 is a false literal
  pub zero : Literal m 0 false
  -- expression 1 is a true literal
  pub one : Literal m 1 true
  -- leaving a scope right after entering it gives the world before
  pub leave_enter : (names : List ℕ) (w : World) → m.leave (m.enter names w) ≡ w
