-- Certificates that are judged: within their limits, without a bare node.
use Rattle.std.specs.Prelude.{IsSome}
use Rattle.std.specs.List.{AllByRecursion}
use Rattle.cert_format.specs.Certificates.{NodeOf, CertificateOf}
use Rattle.cert_format.specs.Limits.{IsWithinLimits}

abbrev pub IsFull : {T : Type 0} → NodeOf T → Type 0
IsFull n = IsSome n.fact

pub record IsJudged {T : Type 0} (c : CertificateOf T) : Type 0 where
  pub limits : IsWithinLimits c
  pub full : AllByRecursion IsFull c.nodes
