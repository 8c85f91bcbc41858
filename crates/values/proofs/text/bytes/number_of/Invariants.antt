use Rattle.std.proofs.Common.{◌≡◌, ◌^◌, ◌<◌, ◌++◌, length}
use Rattle.values.specs.Bytes.{bytes_of, byte_count}
use Rattle.values.proofs.text.bytes.number_of.Given as goal

-- the number has the bytes after those that are left
abbrev pub invariant-loop-byte : goal.invariant-loop-byte
invariant-loop-byte l =
    (l.byte-iterator.iter.rest.now ++ bytes_of (length l.yielded) l.number ≡ l.bytes)
    × (l.number < byte_count ^ length l.yielded)
