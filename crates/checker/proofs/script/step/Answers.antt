use Rattle.std.proofs.Common.{◌≡◌, Err, Some, sym, refl, ap, ◌∙◌, ap₂}
use Rattle.std.specs.Option.{ok_or}
use Rattle.faults.specs.declared.tree.ReaderFault.TheVariants.{WordsLeft}
use Rattle.bounded.specs.Stack.{held}
use Rattle.grammar.specs.Format.{parts}
use Rattle.checker.specs.Held.{within_spot, grown, rest_frame, onto, frames_of}
use Rattle.checker.proofs.Exits.{by_err, top_is, none_due, refused_step, left_step}
use Rattle.checker.proofs.script.step.Goals as goal

pub returns-in_default : goal.returns-in_default
returns-in_default c = λ ws.
    none_due c.args.count _ _ c.args.due.now.frames c.pop.new.self c.pop.result c.args.word ws c.args.at (WordsLeft c.args.at) c.pop.ensures.cases
    (ap (λ o. ok_or o (WordsLeft c.args.at)) c.in_default.is) ∙ ap (λ f. Err f) (sym c.into.ensures)

pub returns-in_err-judge : goal.returns-in_err-judge
returns-in_err-judge c = λ ws.
    let top = top_is c.args.due.now.frames c.pop.new.self (Some c.in-Some.frame) (WordsLeft c.args.at) c.in-Some.frame c.in-Some.ensures.cases refl in
    by_err c.from_residual.result _ _ c.in_err-judge.field-0.0 c.from_residual.ensures.1
    (refused_step c.args.count c.in-Some.frame _ _ (held c.args.labels.now.around) (held c.args.labels.now.iterations) (held c.truncate.new.self) (held c.truncate-2.new.self)
    c.args.word ws c.args.at c.in_err-judge.field-0.0 top c.truncate.ensures.held c.truncate-2.ensures.held (sym c.judge.ensures ∙ c.in_err-judge.was))

pub returns : goal.returns
returns c = λ ws.
    let f = c.in-Some.frame in
    let w = c.args.word in
    let fs = frames_of c.pop.new.self in
    let top = top_is c.args.due.now.frames c.pop.new.self (Some f) (WordsLeft c.args.at) f c.in-Some.ensures.cases refl in
    let grew : frames_of c.grow.new.self.frames ≡ grown (parts w) (within_spot w f.spot) (onto (rest_frame f w) fs) =
    c.grow.ensures ∙ ap₂ (grown (parts w)) c.within.ensures (c.need.ensures.frames ∙ ap (λ g. onto g fs) c.rest.ensures) in
    left_step c.args.count f _ fs _ (held c.args.labels.now.around) (held c.args.labels.now.iterations) (held c.truncate.new.self) (held c.truncate-2.new.self) _ _ w ws c.args.at top c.requires
    c.truncate.ensures.held c.truncate-2.ensures.held
    (sym c.judge.ensures ∙ c.in_ok-judge.was)
    grew c.enter.ensures.around c.enter.ensures.iterations
