use Rattle.std.proofs.Common.{◌+◌, ◌-◌, ℕ, ◌∙◌, ap}
use Rattle.flag_relation.specs.Facts.{values}
use Rattle.abs_step.specs.Results.{addressed}
use Rattle.abs_step.specs.Walks.{is_found, first_from}
use Rattle.abs_step.proofs.SearchLaws.{one_found}
use Rattle.abs_step.proofs.addresses.may_be.Goals as goal

pub returns : goal.returns
returns g c =
    let p = addressed g.D.NumDomain.domain c.args.place.now (values c.args.fact.now) in
    c.is_found.ensures ∙ ap is_found c.first_address.ensures
    ∙ ap (λ (n : ℕ). is_found (first_from p n (n + 1 - n))) c.get-from.ensures.number
    ∙ one_found p c.args.at
