use Rattle.host.proofs.Sequences.{sequence_laws}
use Rattle.host.proofs.sequence.effects_of.Goals as goal

pub returns-clause-laws : goal.returns-clause-laws
returns-clause-laws g c = sequence_laws (g.H.Host.model c.args.h.now) (g.H.Host.lawful c.args.h.now) c.args.words.now
