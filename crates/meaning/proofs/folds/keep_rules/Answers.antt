use Rattle.meaning.proofs.KeepsRules.{fold_keeps_rules, step_keeps_rules, pass_keeps_rules, settle_keeps_rules}
use Rattle.meaning.proofs.folds.keep_rules.Goals as goal

pub returns : goal.returns
returns c = record { fold = fold_keeps_rules; step = step_keeps_rules; pass = pass_keeps_rules; settle = settle_keeps_rules }
