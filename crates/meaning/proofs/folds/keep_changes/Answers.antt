use Rattle.meaning.proofs.Paid.{fold_pays, step_pays, pass_pays, settle_pays, settle_ends, settle_unique, settled_quiet}
use Rattle.meaning.proofs.folds.keep_changes.Goals as goal

pub returns : goal.returns
returns c = record { fold = fold_pays; step = step_pays; pass = pass_pays; settle = settle_pays; ends = settle_ends; unique = settle_unique; quiet = settled_quiet }
