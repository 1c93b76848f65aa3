use Rattle.std.proofs.Common.{◌<◌, ◌^◌, arith, ◌∙◌}
use Rattle.flag_relation.specs.Facts.{values}
use Rattle.abs_step.specs.Walks.{allows}
use Rattle.abs_step.proofs.SpanWalks.{at_allowed}
use Rattle.abs_step.proofs.addresses.each_address.Goals as goal

pub returns-in-At : goal.returns-in-At
returns-in-At g c =
    let d = g.D.NumDomain.domain in
    let is = c.get.ensures.number in
    let small = c.get.ensures.in_range in
    let below : c.in-At.a < 2 ^ 20 = omega arith in
    c.are_allowed.ensures
    ∙ at_allowed d c.args.place.now (values c.args.fact.now) (allows d c.args.plan.now c.args.what.now) c.in-At.a c.get.result c.get-in-At.result c.in-At.is below is c.get-in-At.ensures.number
