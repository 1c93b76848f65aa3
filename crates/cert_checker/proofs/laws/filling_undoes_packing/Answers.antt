use Rattle.flag_relation.proofs.AllLaws.{fact_laws}
use Rattle.cert_checker.proofs.Packed.{undone}
use Rattle.cert_checker.proofs.laws.filling_undoes_packing.Goals as goal

pub returns : goal.returns
returns g c = λ plan cert full.
    let d = g.D.NumDomain.domain in
    undone d plan cert (fact_laws d g.met.D.NumDomain.laws) full
