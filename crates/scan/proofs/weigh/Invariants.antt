use Rattle.std.proofs.Common.{◌≡◌, ◌+◌, ◌*◌, ◌≤◌, map, length}
use Rattle.words.specs.Words.{read_word}
use Rattle.scan.specs.Weight.{weight_words}
use Rattle.scan.proofs.weigh.Given as goal

abbrev pub invariant-loop-rest : goal.invariant-loop-rest
invariant-loop-rest l =
    (l.weight + 4 * length l.rest ≤ 4 * length l.words)
    × (l.weight + weight_words (map read_word l.rest) ≡ weight_words (map read_word l.words))

abbrev pub decreases-loop-rest : goal.decreases-loop-rest
decreases-loop-rest l = length l.rest
