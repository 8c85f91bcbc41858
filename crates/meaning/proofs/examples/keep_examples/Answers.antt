use Rattle.meaning.proofs.Witness.{witness_lawful}
use Rattle.meaning.proofs.Computed.{example_runs, example_folds}
use Rattle.meaning.proofs.examples.keep_examples.Goals as goal

pub returns : goal.returns
returns c = record { lawful = witness_lawful; runs = example_runs; folds = example_folds }
