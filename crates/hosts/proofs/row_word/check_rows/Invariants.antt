use Rattle.std.proofs.Common.{◌≡◌, ℕ, Bool, drop}
use Rattle.hosts.specs.RowWord.{first_bad}
use Rattle.hosts.specs.Rows.{Tells}
use Rattle.hosts.proofs.row_word.check_rows.Given as goal

abbrev pub invariant-loop-i : goal.invariant-loop-i
invariant-loop-i g l = (allowed : ℕ → ℕ → Bool) → Tells l.rows (goal.F-post g l.may_stand) allowed → first_bad allowed 0 l.rows ≡ first_bad allowed l.i (drop l.i l.rows)
