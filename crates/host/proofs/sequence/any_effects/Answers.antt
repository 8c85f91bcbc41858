use Rattle.std.proofs.Common.{◌∙◌, rules}
use Rattle.std.proofs.lemmas.Iterator.{YieldsList-from_slice}
use Rattle.std.proofs.lemmas.Iterator.Search.{any_from_yields_List}
use Rattle.words.specs.Words.{read_word}
use Rattle.host.proofs.Sequences.{any_effects_of}
use Rattle.host.proofs.sequence.any_effects.Goals as goal

pub returns : goal.returns
returns g c =
    let m = g.H.Host.model c.args.h.now in
    any_from_yields_List (λ w. m.effects? (read_word w).number) _ _ _ c.any.ensures.ran (YieldsList-from_slice c.args.parts.now cc) (λ x b q k. search rules)
    ∙ any_effects_of m c.args.parts.now
