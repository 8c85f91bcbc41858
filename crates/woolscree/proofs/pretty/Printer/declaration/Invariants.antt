use Rattle.std.proofs.Common.{◌≤◌, length}
use Rattle.woolscree.proofs.pretty.Printer.declaration.Given as goal

abbrev pub invariant-loop-declarator : goal.invariant-loop-declarator
invariant-loop-declarator l = length l.self.words.now ≤ length l.fn.self.words.now
