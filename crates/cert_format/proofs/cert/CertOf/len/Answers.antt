use Rattle.cert_format.specs.declared.spelled.TheConstants.{SPELLED}
use Rattle.cert_format.specs.Spelling.{front}
use Rattle.cert_format.proofs.KeepingSteps.{kept_cert}
use Rattle.cert_format.proofs.cert.CertOf.len.Goals as goal

pub returns-clause-limits : goal.returns-clause-limits
returns-clause-limits g c =
    let i = c.self.inside in
    kept_cert (front SPELLED g.D.Spelled.bytes) i.cells.items i.starts.items i.nodes.items i.kept.items i.places.keys c.args.self.now c.self.invariant c.self.view_is
