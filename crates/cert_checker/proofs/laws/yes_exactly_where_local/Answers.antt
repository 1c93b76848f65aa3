use Rattle.cert_checker.specs.Filling.{filled}
use Rattle.cert_checker.proofs.Exact.{exact}
use Rattle.cert_checker.proofs.laws.yes_exactly_where_local.Goals as goal

pub returns : goal.returns
returns g c = λ plan price cert.
    let d = g.D.NumDomain.domain in
    exact d plan price (filled d plan cert)
