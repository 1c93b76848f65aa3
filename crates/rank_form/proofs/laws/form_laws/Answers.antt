use Rattle.rank_form.proofs.RankLaws.{form_laws}
use Rattle.rank_form.proofs.laws.form_laws.Goals as goal

pub returns : goal.returns
returns g c = form_laws g.D.NumDomain.domain g.met.D.NumDomain.laws
