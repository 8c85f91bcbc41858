use Rattle.std.proofs.Common.{◌≤◌, length}
use Rattle.woolscree.proofs.pretty.Printer.for_head.Given as goal

abbrev pub invariant-loop-part : goal.invariant-loop-part
invariant-loop-part l = length l.self.words.now ≤ length l.fn.self.words.now
