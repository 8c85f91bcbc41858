use Rattle.std.proofs.Common.{◌≡◌, map, drop}
use Rattle.words.specs.Words.{read_word}
use Rattle.grammar.specs.Format.{skip}
use Rattle.scan.proofs.end_of.Given as goal

abbrev pub invariant-loop-read : goal.invariant-loop-read
invariant-loop-read l = skip l.due (drop l.read (map read_word l.rest)) ≡ skip 1 (map read_word l.rest)
