use Rattle.std.proofs.Common.{◌-◌, sym, ◌∙◌, ap}
use Rattle.flag_relation.specs.Facts.{values}
use Rattle.abs_step.specs.Results.{addressed}
use Rattle.abs_step.specs.Walks.{is_found}
use Rattle.abs_step.proofs.PointLaws.{any_is_first}
use Rattle.abs_step.proofs.addresses.may_meet.Goals as goal

pub returns : goal.returns
returns g c =
    c.is_found.ensures ∙ ap is_found c.first_address.ensures ∙ sym (any_is_first (addressed g.D.NumDomain.domain c.args.place.now (values c.args.fact.now)) c.args.from (c.args.to - c.args.from))
