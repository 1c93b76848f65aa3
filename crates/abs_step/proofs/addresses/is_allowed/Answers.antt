use Rattle.std.proofs.Common.{◌^◌, ap, sym, ◌∙◌, ℕ}
use Rattle.flag_relation.specs.Facts.{values}
use Rattle.abs_step.specs.Results.{addressed}
use Rattle.abs_step.specs.Walks.{all_pass, allows}
use Rattle.abs_step.proofs.SpanWalks.{pass_first, pass_none}
use Rattle.abs_step.proofs.addresses.is_allowed.Goals as goal

pub returns-in-None : goal.returns-in-None
returns-in-None g c =
    let d = g.D.NumDomain.domain in
    let p = addressed d c.args.place.now (values c.args.fact.now) in
    sym (pass_none p (allows d c.args.plan.now c.args.what.now) (2 ^ 20) (sym c.in-None.ensures))

pub returns-in-Some : goal.returns-in-Some
returns-in-Some g c =
    let d = g.D.NumDomain.domain in
    let p = addressed d c.args.place.now (values c.args.fact.now) in
    let ok = allows d c.args.plan.now c.args.what.now in
    c.are_allowed.ensures
    ∙ ap (λ (n : ℕ). all_pass p ok n (2 ^ 20)) c.get.ensures.number
    ∙ sym (pass_first p ok (2 ^ 20) c.in-Some.first (sym c.in-Some.ensures))
