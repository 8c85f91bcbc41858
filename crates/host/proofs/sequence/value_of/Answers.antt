use Rattle.host.proofs.Sequences.{sequence_laws}
use Rattle.host.proofs.sequence.value_of.Goals as goal

pub returns-clause-laws : goal.returns-clause-laws
returns-clause-laws g c = sequence_laws (g.H.Host.model c.args.h.now) (g.H.Host.lawful c.args.h.now) c.args.words.now

pub returns-in_err-last_part-clause-laws : goal.returns-in_err-last_part-clause-laws
returns-in_err-last_part-clause-laws g c = sequence_laws (g.H.Host.model c.args.h.now) (g.H.Host.lawful c.args.h.now) c.args.words.now
