use Rattle.rank_form.proofs.OutcomeSides.{side_laws}
use Rattle.rank_form.proofs.laws.side_laws.Goals as goal

pub returns : goal.returns
returns g c = side_laws g.D.NumDomain.domain g.met.D.NumDomain.laws
