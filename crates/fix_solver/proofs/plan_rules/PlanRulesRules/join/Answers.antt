use Rattle.std.proofs.Common.{◌∙◌}
use Rattle.fix_solver.specs.evidence.PlanLaws.{joined_is}
use Rattle.fix_solver.proofs.plan_rules.PlanRulesRules.join.Goals as goal

pub returns-clause-joined : goal.returns-clause-joined
returns-clause-joined g c = c.join_with.ensures.value ∙ joined_is g.D.NumDomain.domain g.met.D.NumDomain.laws c.args.fact.now c.args.other.now
