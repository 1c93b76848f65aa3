use Rattle.fix_solver.specs.evidence.PlanLaws.{unknown_is_candidate}
use Rattle.fix_solver.proofs.laws.some_candidate.Goals as goal

pub returns : goal.returns
returns g c = unknown_is_candidate g.D.NumDomain.domain g.met.D.NumDomain.laws
