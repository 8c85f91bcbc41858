-- How a run ends, and how runs are put together by looking at endings, after ECMA-262's completion records
-- (UpdateEmpty and completion values aside): LoopContinues, LabelledEvaluation, and the evaluation of lists, of
-- breakable statements and of Try. Two endings are not in ECMA-262: an action that never returns, and rounds used up.
use Rattle.std.specs.Prelude.{ℕ, zero, suc, Bool, true, false, cond, List, Some, None, Option, ◌==◌}
use Rattle.host.specs.Model.{Value, World}
use Rattle.slices.specs.Among.{among}

-- gone: an action never returned; spent: a loop body was about to run with no round left
pub data Ending : Type 0 where
  normal break continue gone spent : Ending
  break_to continue_to : ℕ → Ending
  return : Option Value → Ending
  throw : Value → Ending

-- what a run comes to
pub record Completion : Type 0 where
  pub ending : Ending
  pub world : World
  pub rounds : ℕ

-- from the rounds left and a world to a completion
abbrev pub Evaluation : Type 0
Evaluation = ℕ → World → Completion

-- Questions about an ending.

abbrev pub is_normal : Ending → Bool
is_normal normal = true
is_normal break = false
is_normal continue = false
is_normal gone = false
is_normal spent = false
is_normal (break_to l) = false
is_normal (continue_to l) = false
is_normal (return v) = false
is_normal (throw v) = false

-- nothing more runs: neither the leaving of a scope nor a finalizer
abbrev pub is_stopped : Ending → Bool
is_stopped normal = false
is_stopped break = false
is_stopped continue = false
is_stopped gone = true
is_stopped spent = true
is_stopped (break_to l) = false
is_stopped (continue_to l) = false
is_stopped (return v) = false
is_stopped (throw v) = false

abbrev pub thrown : Ending → Option Value
thrown normal = None
thrown break = None
thrown continue = None
thrown gone = None
thrown spent = None
thrown (break_to l) = None
thrown (continue_to l) = None
thrown (return v) = None
thrown (throw v) = Some v

-- LoopContinues: whether a loop with these labels set on it goes on after its body
abbrev pub loop_continues : List ℕ → Ending → Bool
loop_continues ls normal = true
loop_continues ls break = false
loop_continues ls continue = true
loop_continues ls gone = false
loop_continues ls spent = false
loop_continues ls (break_to l) = false
loop_continues ls (continue_to l) = among l ls
loop_continues ls (return v) = false
loop_continues ls (throw v) = false

-- what a loop or a Switch makes of an ending that leaves it: it absorbs break
abbrev pub without_break : Ending → Ending
without_break normal = normal
without_break break = normal
without_break continue = continue
without_break gone = gone
without_break spent = spent
without_break (break_to l) = break_to l
without_break (continue_to l) = continue_to l
without_break (return v) = return v
without_break (throw v) = throw v

-- what a Label makes of an ending: it absorbs break to itself
abbrev pub without_break_to : ℕ → Ending → Ending
without_break_to l normal = normal
without_break_to l break = break
without_break_to l continue = continue
without_break_to l gone = gone
without_break_to l spent = spent
without_break_to l (break_to t) = cond (l == t) normal (break_to t)
without_break_to l (continue_to t) = continue_to t
without_break_to l (return v) = return v
without_break_to l (throw v) = throw v

-- Evaluations.

infixl 40 ◌thereafter◌
infixl 40 ◌then◌
unfoldable pub end : Ending → Evaluation
end e rounds w = record { ending = e; world = w; rounds = rounds }

-- whatever the ending of the first, go on by it
unfoldable pub ◌thereafter◌ : Evaluation → (Ending → Evaluation) → Evaluation
(f thereafter next) rounds w = next (f rounds w).ending (f rounds w).rounds (f rounds w).world

-- on normal the next one, else stop here
unfoldable pub if_normal : Evaluation → Ending → Evaluation
if_normal next e = cond (is_normal e) next (end e)

unfoldable pub ◌then◌ : Evaluation → Evaluation → Evaluation
f then g = f thereafter if_normal g

unfoldable pub breakable : Evaluation → Evaluation
breakable f = f thereafter (λ e. end (without_break e))

unfoldable pub with_label : ℕ → Evaluation → Evaluation
with_label l f = f thereafter (λ e. end (without_break_to l e))

-- a thrown value goes to the handler
abbrev pub handle : Option Value → (Value → Evaluation) → Evaluation → Evaluation
handle None handler otherwise = otherwise
handle (Some v) handler otherwise = handler v

unfoldable pub catch_by : Evaluation → (Value → Evaluation) → Evaluation
catch_by f handler = f thereafter (λ e. handle (thrown e) handler (end e))

-- what comes on every ending but those that pass straight out
unfoldable pub unless_stopped : (Ending → Evaluation) → Ending → Evaluation
unless_stopped next e = cond (is_stopped e) (end e) (next e)

-- a finalizer's ending stands unless it is normal
unfoldable pub finally : Evaluation → Evaluation → Evaluation
finally f finalizer = f thereafter unless_stopped (λ e. finalizer thereafter if_normal (end e))

-- Loops.

-- a body about to run takes one round
unfoldable pub one_round : Evaluation → Evaluation
one_round f zero w = end spent zero w
one_round f (suc rounds) w = f rounds w

-- after a body: on with the loop, or out of it
unfoldable pub if_continues : List ℕ → Evaluation → Ending → Evaluation
if_continues ls next e = cond (loop_continues ls e) next (end (without_break e))

-- at most n rounds of a body; `again next` is what stands between two rounds, with the next one after it
unfoldable pub turns : List ℕ → Evaluation → (Evaluation → Evaluation) → ℕ → Evaluation
turns ls body again zero = end spent
turns ls body again (suc n) = one_round (body thereafter if_continues ls (again (turns ls body again n)))

-- no more rounds than are left can be taken
unfoldable pub loop : List ℕ → Evaluation → (Evaluation → Evaluation) → Evaluation
loop ls body again rounds w = turns ls body again rounds rounds w
