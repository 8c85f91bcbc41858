use Rattle.std.proofs.Common.{◌+◌, Bool, ◌||◌, drop, sym, ap, ◌∙◌}
use Rattle.std.proofs.lemmas.List.{at_drop_more, at_drop_all}
use Rattle.slices.specs.Among.{among}
use Rattle.slices.proofs.position.Goals as goal

pub returns-then-is_name : goal.returns-then-is_name
returns-then-is_name c =
    let s = at_drop_more (among c.args.number) c.args.list.now c.loop-i.i 0 c.loop-i-test.true in
    sym (sym c.loop-i.invariant ∙ s ∙ ap (λ (b : Bool). b || among c.args.number (drop (c.loop-i.i + 1) c.args.list.now)) (sym c.is_name.ensures ∙ c.if-is_name.true))

pub loop-i-preserved : goal.loop-i-preserved
loop-i-preserved c =
    let s = at_drop_more (among c.args.number) c.args.list.now c.loop-i.i 0 c.loop-i-test.true in
    sym (s ∙ ap (λ (b : Bool). b || among c.args.number (drop (c.loop-i.i + 1) c.args.list.now)) (sym c.is_name.ensures ∙ c.if-is_name.false)) ∙ c.loop-i.invariant

pub returns : goal.returns
returns c = sym (at_drop_all (among c.args.number) c.args.list.now c.loop-i.i c.loop-i-test.false) ∙ c.loop-i.invariant
