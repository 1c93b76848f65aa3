use Rattle.cert_format.proofs.CertLaws.{spelling_laws}
use Rattle.cert_format.proofs.laws.spellings_are_unique.Goals as goal

pub returns : goal.returns
returns c = spelling_laws
