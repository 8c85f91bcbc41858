use Rattle.std.proofs.Common.{sym, ap, ◌∙◌, arith}
use Rattle.std.proofs.lemmas.List.{at_drop_all}
use Rattle.hosts.specs.RowWord.{answer_of, first_bad}
use Rattle.hosts.proofs.RowLemmas.{bad_here, allowed_here}
use Rattle.hosts.proofs.row_word.check_rows.Goals as goal

pub returns-then-not-may_stand : goal.returns-then-not-may_stand
returns-then-not-may_stand g c allowed tells =
    let i = c.loop-i.i in
    let told = tells i _ _ c.loop-i-test.true (omega (arith, c.type_inv.rows i)) c.if-not-may_stand.ensures in
    ap answer_of (sym (c.loop-i.invariant allowed tells ∙ bad_here allowed c.args.rows.now i c.loop-i-test.true told))

pub loop-i-preserved : goal.loop-i-preserved
loop-i-preserved g c allowed tells =
    let i = c.loop-i.i in
    let told = tells i _ _ c.loop-i-test.true (omega (arith, c.type_inv.rows i)) c.if-not-may_stand.ensures in
    c.loop-i.invariant allowed tells ∙ allowed_here allowed c.args.rows.now i c.loop-i-test.true told

pub returns : goal.returns
returns g c allowed tells =
    ap answer_of (sym (c.loop-i.invariant allowed tells ∙ at_drop_all (first_bad allowed c.loop-i.i) c.args.rows.now c.loop-i.i c.loop-i-test.false))
