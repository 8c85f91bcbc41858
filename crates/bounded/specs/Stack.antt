-- What a bounded stack over a lent slice holds, and how much it can hold. The definitions stand apart from the
-- struct's own file, which they name.
use Rattle.std.specs.Prelude.{ℕ, List, length, take}
use Rattle.bounded.specs.declared.stack.Stack.{Stack}

-- the elements, the top one last
abbrev pub held : {T : Type 0} → Stack T → List T
held s = take s.len s.items.now

abbrev pub room : {T : Type 0} → Stack T → ℕ
room s = length s.items.now

-- all elements of the slice, those past the top among them
abbrev pub slots : {T : Type 0} → Stack T → List T
slots s = s.items.now
