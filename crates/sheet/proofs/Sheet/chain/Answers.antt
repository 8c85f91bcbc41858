use Rattle.sheet.proofs.SheetLemmas.{follow_operand}
use Rattle.sheet.proofs.Sheet.chain.Goals as goal

pub loop-operand-preserved : goal.loop-operand-preserved
loop-operand-preserved c =
    let h = c.args.self.now in
    let l = c.loop-operand in
    follow_operand h.rows.now h.entries.now c.args.e l.end c.in-Some.operand l.negated l.invariant (rw (c.lists.ensures.rows) at c.in-Some.ensures) h.accepted
