use Rattle.std.proofs.Common.{Some, sym, ap, ◌∙◌, arith}
use Rattle.host.specs.Sequence.{last_number}
use Rattle.host.proofs.Sequences.{last_at}
use Rattle.host.proofs.sequence.last_part.Goals as goal

pub returns-in-len1-up : goal.returns-in-len1-up
returns-in-len1-up c =
    ap (λ w. Some w.number) c.from.ensures.value
    ∙ sym (last_at c.parts.result.now (omega (arith, c.in-len1-up.len_at_least))) ∙ ap last_number c.parts.ensures
