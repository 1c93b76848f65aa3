use Rattle.std.proofs.Common.{◌∙◌}
use Rattle.flag_relation.specs.Facts.{values}
use Rattle.abs_step.specs.Results.{addressed}
use Rattle.abs_step.proofs.SpanWalks.{input_allowed}
use Rattle.abs_step.proofs.addresses.are_allowed.Goals as goal

pub returns-in-Input : goal.returns-in-Input
returns-in-Input g c =
    let d = g.D.NumDomain.domain in
    let p = addressed d c.args.place.now (values c.args.fact.now) in
    c.are_in_spans.ensures
    ∙ input_allowed d c.args.plan.now c.args.what.now c.input_spans.result.now p c.args.from c.args.to c.in-Input.is c.input_spans.ensures
