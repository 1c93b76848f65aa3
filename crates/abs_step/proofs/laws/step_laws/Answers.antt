use Rattle.abs_step.proofs.AllStepLaws.{step_laws}
use Rattle.abs_step.proofs.laws.step_laws.Goals as goal

pub returns : goal.returns
returns g c = step_laws g.D.NumDomain.domain g.met.D.NumDomain.laws
