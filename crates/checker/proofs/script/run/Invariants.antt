use Rattle.std.proofs.Common.{map, drop}
use Rattle.words.specs.Words.{read_word}
use Rattle.bounded.specs.Stack.{held}
use Rattle.checker.specs.Check.{check_script}
use Rattle.checker.specs.Held.{Left, frames_of}
use Rattle.checker.proofs.script.run.Given as goal

-- the frames and the labels stand for what is due, and the check of the words left gives the script's verdict
abbrev pub invariant-loop-at : goal.invariant-loop-at
invariant-loop-at l =
    Left l.count (frames_of l.due.frames) (held l.labels.around) (held l.labels.iterations) (drop l.at (map read_word l.words)) l.at (check_script l.count (map read_word l.words))
