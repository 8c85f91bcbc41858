use Rattle.meaning.proofs.KeepsNames.{fold_keeps_names, step_keeps_names, pass_keeps_names, settle_keeps_names}
use Rattle.meaning.proofs.folds.keep_names.Goals as goal

pub returns : goal.returns
returns c = record { fold = fold_keeps_names; step = step_keeps_names; pass = pass_keeps_names; settle = settle_keeps_names }
