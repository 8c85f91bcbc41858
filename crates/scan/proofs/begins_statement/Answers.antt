use Rattle.std.proofs.Common.{false, sym, ap, ◌∙◌, ap₂}
use Rattle.scan.specs.Places.{declares, begins_statement_lem}
use Rattle.scan.proofs.Placed.{begins_none, begins_next}
use Rattle.scan.proofs.begins_statement.Goals as goal

pub returns-then-at-words : goal.returns-then-at-words
returns-then-at-words c = sym (begins_none false c.args.words.now c.args.at c.if-at-words.true)

pub returns : goal.returns
returns c =
    c.is_statement-2.ensures ∙ ap₂ begins_statement_lem (c.declares.ensures ∙ ap declares c.from.ensures.value) c.from-word.ensures.value
    ∙ sym (begins_next false c.args.words.now c.args.at c.if-at-eq0.false c.if-at-words.false)
