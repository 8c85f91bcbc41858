use Rattle.std.proofs.Common.{◌≤◌, length, ◌+◌, ◌*◌}
use Rattle.woolscree.proofs.pretty.Printer.+statement.Given as goal

-- Each statement takes a word first; what it is made of is counted above it.
abbrev pub decreases-statement : goal.decreases-statement
decreases-statement l = 3 * length l.self.now.words.now

abbrev pub decreases-body : goal.decreases-body
decreases-body l = 3 * length l.self.now.words.now

abbrev pub decreases-if_parts : goal.decreases-if_parts
decreases-if_parts l = 3 * length l.self.now.words.now + 1

abbrev pub decreases-try_parts : goal.decreases-try_parts
decreases-try_parts l = 3 * length l.self.now.words.now + 1

abbrev pub decreases-switch : goal.decreases-switch
decreases-switch l = 3 * length l.self.now.words.now + 1

abbrev pub decreases-list : goal.decreases-list
decreases-list l = 3 * length l.self.now.words.now + 1

abbrev pub decreases-braces : goal.decreases-braces
decreases-braces l = 3 * length l.self.now.words.now + 2

abbrev pub invariant-list-loop : goal.invariant-list-loop
invariant-list-loop l = length l.self.words.now ≤ length l.fn.self.words.now

abbrev pub invariant-switch-loop : goal.invariant-switch-loop
invariant-switch-loop l = length l.self.words.now ≤ length l.fn.self.words.now
