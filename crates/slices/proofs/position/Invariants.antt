use Rattle.std.proofs.Common.{◌≡◌, drop}
use Rattle.slices.specs.Among.{among}
use Rattle.slices.proofs.position.Given as goal

abbrev pub invariant-loop-i : goal.invariant-loop-i
invariant-loop-i l = among l.number (drop l.i l.list) ≡ among l.number l.list
