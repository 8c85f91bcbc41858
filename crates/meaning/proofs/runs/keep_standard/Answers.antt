use Rattle.meaning.proofs.Standard.{hoisted_names, switch_evaluation, case_blocks}
use Rattle.meaning.proofs.runs.keep_standard.Goals as goal

pub returns : goal.returns
returns c = record { names = hoisted_names; switch = switch_evaluation; blocks = case_blocks }
