use Rattle.std.proofs.Common.{◌≡◌, ◌++◌, take}
use Rattle.bounded.specs.Stack.{held, room}
use Rattle.checker.proofs.script.put_all.Given as goal

abbrev pub invariant-loop-value : goal.invariant-loop-value
invariant-loop-value l =
    (held l.stack ≡ held l.initial.stack ++ take l.value-index l.values) × (room l.stack ≡ room l.initial.stack)
