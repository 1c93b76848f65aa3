use Rattle.rank_form.proofs.StateLaws.{bound_laws}
use Rattle.rank_form.proofs.laws.bound_laws.Goals as goal

pub returns : goal.returns
returns g c = bound_laws g.D.NumDomain.domain g.met.D.NumDomain.laws
