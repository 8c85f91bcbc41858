use Rattle.std.proofs.Common.{refl}
use Rattle.hosts_tests.proofs.largest_answer.Goals as goal

pub returns-clause-examples : goal.returns-clause-examples
returns-clause-examples c = record { largest = refl; above = refl; unequal = refl; equal = refl; one_answer = refl }
