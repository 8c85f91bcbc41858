use Rattle.meaning.proofs.Rounds.{rounds_never_grow}
use Rattle.meaning.proofs.Unroll.{while_unrolls, do_unrolls, for_unrolls_plain, for_unrolls_renewed}
use Rattle.meaning.proofs.Terminated.{terminated_never_normal}
use Rattle.meaning.proofs.Script.{accepted_ends}
use Rattle.meaning.proofs.runs.keep_run_laws.Goals as goal

pub returns : goal.returns
returns c = record {
  rounds = rounds_never_grow;
  while_again = while_unrolls;
  do_again = do_unrolls;
  for_again = λ m. (for_unrolls_plain m, for_unrolls_renewed m);
  terminated = terminated_never_normal;
  accepted = accepted_ends;
}
