-- A small lawful host, so that the laws of a host are consistent and runs can be computed: ten expressions, listed
-- as rows. Commands send their number, a bound name sends itself, renewing a scope sends a mark, and name 100 alone is granted.
use Rattle.std.specs.Prelude.{ℕ, zero, suc, Bool, true, false, cond, List, [], ◌∷◌, ◌++◌, length, Some, None, Option, ◌==◌}
use Rattle.host.specs.Model.{Model, Value, World, Outcome, gives, throws, no_return}

-- what an expression is: a literal, a command with a known value, one that takes the next answer, or one that throws
pub data Row : Type 0 where
  literal : ℕ → Row
  giving : ℕ → Row
  asking : Row
  throwing : ℕ → Row
  absent : Row

-- 0 to 3 are literals, f, g and h take answers, then come commands that give 2 and 3, and one that throws
abbrev pub rows : List Row
rows = literal 0 ∷ literal 1 ∷ literal 2 ∷ literal 3 ∷ asking ∷ asking ∷ asking ∷ giving 2 ∷ giving 3 ∷ throwing 9 ∷ []

abbrev pub row_at : ℕ → List Row → Row
row_at e [] = absent
row_at zero (r ∷ rs) = r
row_at (suc e) (r ∷ rs) = row_at e rs

-- the mark of a renewal
abbrev pub renewal : ℕ
renewal = 77

abbrev pub granted_name : ℕ
granted_name = 100

abbrev pub is_true : Value → Bool
is_true [] = false
is_true (zero ∷ v) = false
is_true (suc n ∷ v) = true

abbrev pub equal : Value → Value → Bool
equal [] [] = true
equal [] (y ∷ ys) = false
equal (x ∷ xs) [] = false
equal (x ∷ xs) (y ∷ ys) = cond (x == y) (equal xs ys) false

abbrev pub row_value : Row → Option Value
row_value (literal n) = Some (n ∷ [])
row_value (giving n) = Some (n ∷ [])
row_value asking = None
row_value (throwing n) = None
row_value absent = None

abbrev pub truth_of_value : Option Value → Option Bool
truth_of_value None = None
truth_of_value (Some v) = Some (is_true v)

abbrev pub row_literal : Row → Bool
row_literal (literal n) = true
row_literal (giving n) = false
row_literal asking = false
row_literal (throwing n) = false
row_literal absent = false

abbrev pub row_effects : Row → Bool
row_effects (literal n) = false
row_effects (giving n) = true
row_effects asking = true
row_effects (throwing n) = true
row_effects absent = true

abbrev pub send : ℕ → World → World
send n w = record { answers = w.answers; sent = w.sent ++ n ∷ []; scopes = w.scopes }

-- the next answer is taken, or nothing returns
abbrev pub next_answer : ℕ → List ℕ → World → Outcome Value
next_answer e [] w = no_return
next_answer e (a ∷ rest) w = gives (a ∷ []) (record { answers = rest; sent = w.sent ++ e ∷ []; scopes = w.scopes })

abbrev pub row_evaluate : ℕ → Row → World → Outcome Value
row_evaluate e (literal n) w = gives (n ∷ []) w
row_evaluate e (giving n) w = gives (n ∷ []) (send e w)
row_evaluate e asking w = next_answer e w.answers w
row_evaluate e (throwing n) w = throws (n ∷ []) (send e w)
row_evaluate e absent w = no_return

abbrev pub last_off : List (List ℕ) → List (List ℕ)
last_off [] = []
last_off (s ∷ ss) = ss

abbrev pub witness : Model
witness = record {
  count = length rows;
  truth? = λ e. truth_of_value (row_value (row_at e rows));
  value? = λ e. row_value (row_at e rows);
  effects? = λ e. row_effects (row_at e rows);
  literal? = λ e. row_literal (row_at e rows);
  granted? = λ x. (x == granted_name);
  truthy = is_true;
  strictly_equal = equal;
  evaluate = λ e w. row_evaluate e (row_at e rows) w;
  bind = λ by x v w. gives tt (send x w);
  enter = λ names w. record { answers = w.answers; sent = w.sent; scopes = names ∷ w.scopes };
  leave = λ w. record { answers = w.answers; sent = w.sent; scopes = last_off w.scopes };
  renew = λ w. send renewal w;
}
