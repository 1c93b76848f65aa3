use Rattle.std.proofs.Common.{length, sym, subst, Option, IfSome}
use Rattle.flag_relation.specs.declared.link.Link.{Link}
use Rattle.flag_relation.specs.Limits.{IsLinkOf}
use Rattle.flag_relation.specs.declared.var.Var.{Var}
use Rattle.abs_step.specs.Limits.{IsVarOf}
use Rattle.abs_step.proofs.LinkLimits.{small_limits, moved_limits}
use Rattle.abs_step.proofs.origins.link_to.Goals as goal

pub returns-in-Cell-clause-limits : goal.returns-in-Cell-clause-limits
returns-in-Cell-clause-limits g c =
    let count = length c.args.fact.now.cells in
    let there = subst (λ (v : Var). IsVarOf count v) c.in-Cell.is c.requires.there in
    subst (λ (o : Option Link). IfSome o (IsLinkOf count)) (sym c.link_if_small.ensures) (small_limits c.in-Cell.i count _ there)

pub returns-in-Reg-clause-limits : goal.returns-in-Reg-clause-limits
returns-in-Reg-clause-limits g c =
    let count = length c.args.fact.now.cells in
    subst (λ (o : Option Link). IfSome o (IsLinkOf count)) (sym c.moved_link.ensures) (moved_limits count _ c.link.result c.link.ensures.limits)
