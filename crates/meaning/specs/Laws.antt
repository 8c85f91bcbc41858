-- What holds of every run, for every host whatever it answers: rounds are only taken, loops are what their
-- rounds make of them, a terminated statement never ends normally, and the jumps of an accepted script stay in it.
use Rattle.std.specs.Prelude.{◌≡◌, ℕ, ◌≤◌, true, false, List, [], Option}
use Rattle.words.specs.Tree.{Expression, Statement, Statements, While, Do}
use Rattle.host.specs.Model.{Model, World}
use Rattle.checker.specs.Check.{nowhere}
use Rattle.checker.specs.Rules.{KeepsList}
use Rattle.meaning.specs.Completion.{Ending, normal, break, continue, gone, spent, break_to, continue_to, return, throw, Evaluation, is_normal, end, ◌thereafter◌, one_round, if_continues}
use Rattle.meaning.specs.Run.{branch, branch_optional, eval_optional, renewed, for_body, run, run_body}
use Rattle.meaning.specs.Fold.IsTerminated.{is_terminated}

-- a run never gains rounds
abbrev pub RoundsNeverGrow : Type 0
RoundsNeverGrow = (m : Model) (s : Statement) (ls : List ℕ) (rounds : ℕ) (w : World) → (run m s ls rounds w).rounds ≤ rounds

-- a While is its test, and where that is true its body with one round less and the While again
abbrev pub WhileUnrolls : Type 0
WhileUnrolls = (m : Model) (e : Expression) (s : Statement) (ls : List ℕ) →
    run m (While e s) ls ≡ branch m e (one_round (run m s [] thereafter if_continues ls (run m (While e s) ls))) (end normal)

-- a Do is its body with one round less, then its test, and where that is true the Do again
abbrev pub DoUnrolls : Type 0
DoUnrolls = (m : Model) (s : Statement) (e : Expression) (ls : List ℕ) →
    run m (Do s e) ls ≡ one_round (run m s [] thereafter if_continues ls (branch m e (run m (Do s e) ls) (end normal)))

-- a For from its first test on is the test, the body with one round less, renewal, update, and the same again
abbrev pub UnrollsWith : Model → (Evaluation → Evaluation) → Type 0
UnrollsWith m renewal = (t u : Option Expression) (s : Statement) (ls : List ℕ) →
    for_body m renewal ls t u (run m s [])
    ≡ branch_optional m t (one_round (run m s [] thereafter if_continues ls (renewal (eval_optional m u (for_body m renewal ls t u (run m s [])))))) (end normal)

-- with a start that is no Let there is nothing to renew; with a Let its scope is renewed
abbrev pub ForUnrolls : Type 0
ForUnrolls = (m : Model) → UnrollsWith m (λ next. next) × UnrollsWith m (renewed m)

-- a statement that is terminated never ends normally
abbrev pub TerminatedNeverNormal : Type 0
TerminatedNeverNormal = (m : Model) (s : Statement) (ls : List ℕ) → is_terminated s ≡ true →
    (rounds : ℕ) (w : World) → is_normal (run m s ls rounds w).ending ≡ false

-- the endings that a whole script can have
abbrev pub EndsScript : Ending → Type 0
EndsScript normal = Unit {0}
EndsScript break = ⊥
EndsScript continue = ⊥
EndsScript gone = Unit {0}
EndsScript spent = Unit {0}
EndsScript (break_to l) = ⊥
EndsScript (continue_to l) = ⊥
EndsScript (return v) = Unit {0}
EndsScript (throw v) = Unit {0}

abbrev pub AcceptedEnds : Type 0
AcceptedEnds = (m : Model) (count : ℕ) (ss : Statements) → KeepsList count nowhere ss →
    (rounds : ℕ) (w : World) → EndsScript (run_body m ss rounds w).ending
