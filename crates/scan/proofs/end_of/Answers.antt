use Rattle.std.proofs.Common.{◌≡◌, ◌+◌, ◌-◌, ◌^◌, ◌≤◌, max, map, length, get_or, take, drop, sym, refl, ap, ◌∙◌, arith, length-drop}
use Rattle.std.proofs.lemmas.List.{length-map}
use Rattle.words.specs.Words.{read_word}
use Rattle.grammar.specs.Format.{part_count, skip}
use Rattle.encoding.proofs.Loops.{words_more}
use Rattle.scan.proofs.Walks.{skip_more, skip_capped, words_from, count_from, none_due, none_left, end_is, ends, unique}
use Rattle.scan.proofs.end_of.Goals as goal

pub loop-read-preserved : goal.loop-read-preserved
loop-read-preserved c =
    let xs = take (length c.args.words.now - c.min.result) (drop c.min.result c.args.words.now) in
    let i = c.loop-read.read in
    let w = read_word (get_or xs i 0) in
    let left = drop (i + 1) (map read_word xs) in
    let small : length left ≤ 2 ^ 64 - 1 = simp (length-drop, length-map) (omega arith) in
    let counted : c.part_count.result ≡ part_count w = c.part_count.ensures ∙ ap part_count c.from.ensures.value in
    skip_capped (2 ^ 64 - 1) (c.loop-read.due - 1 + part_count w) c.saturating_add-due.result left small (omega (arith, c.saturating_add-due.ensures))
    ∙ sym (skip_more c.loop-read.due w left (omega (arith, c.if-due-eq0.false)))
    ∙ sym (words_more (skip c.loop-read.due) xs i c.loop-read-test.true)
    ∙ c.loop-read.invariant

pub returns-then-due-eq0 : goal.returns-then-due-eq0
returns-then-due-eq0 c =
    let xs = c.args.words.now in
    let at = c.args.at in
    let end = at + c.loop-read.read in
    let start = words_from xs at c.min.result c.min.ensures in
    let rest = none_due (map read_word xs) _ at c.loop-read.read c.loop-read.due start c.loop-read.invariant c.if-due-eq0.true in
    let within : (at ≤ end) × (end ≤ max at (length xs)) = (omega arith, omega (arith, count_from xs c.min.result, c.min.ensures)) in
    record {
      value = end_is xs at end within.0 within.1 rest;
      within = within;
      rest = rest;
      ends = ends xs at end within.0 within.1 rest;
      unique = unique _;
    }

pub returns : goal.returns
returns c =
    let xs = c.args.words.now in
    let at = c.args.at in
    let left = take (length xs - c.min.result) (drop c.min.result xs) in
    let end = at + length left in
    let start = words_from xs at c.min.result c.min.ensures in
    let rest = none_left (map read_word xs) (map read_word left) at c.loop-read.read c.loop-read.due (length left) start c.loop-read.invariant (simp length-map refl) c.loop-read-test.false in
    let within : (at ≤ end) × (end ≤ max at (length xs)) = (omega arith, omega (arith, count_from xs c.min.result, c.min.ensures)) in
    record {
      value = end_is xs at end within.0 within.1 rest;
      within = within;
      rest = rest;
      ends = ends xs at end within.0 within.1 rest;
      unique = unique _;
    }
