use Rattle.sheet.specs.SheetModel.{sheet_expression}
use Rattle.sheet.specs.SheetAnswers.{Follows}
use Rattle.sheet.proofs.Sheet.chain.Given as goal

abbrev pub invariant-loop-operand : goal.invariant-loop-operand
invariant-loop-operand l =
    Follows (sheet_expression l.self.rows.now l.self.entries.now l.e) (sheet_expression l.self.rows.now l.self.entries.now l.end) l.negated

abbrev pub decreases-loop-operand : goal.decreases-loop-operand
decreases-loop-operand l = l.end
