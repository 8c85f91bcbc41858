use Rattle.meaning.proofs.KeepsRun.{fold_keeps_run, step_keeps_run, pass_keeps_run, settle_keeps_run}
use Rattle.meaning.proofs.folds.keep_run.Goals as goal

pub returns : goal.returns
returns c = record { fold = fold_keeps_run; step = step_keeps_run; pass = pass_keeps_run; settle = settle_keeps_run }
