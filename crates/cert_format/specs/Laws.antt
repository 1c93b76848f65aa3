-- What holds of spellings.
use Rattle.std.specs.Prelude.{◌≡◌, ℕ, ◌<◌, List, None}
use Rattle.std.proofs.Common.{get_or}
use Rattle.val_dom.specs.declared.val.Val.{Val}
use Rattle.cert_format.specs.declared.version.Version.{Version}
use Rattle.cert_format.specs.Certificates.{CertificateOf}
use Rattle.cert_format.specs.Spelling.{IsCert}
use Rattle.cert_format.specs.ReadCerts.{first_fault}

-- the numbers are bytes
abbrev pub AreBytes : List ℕ → Type 0
AreBytes bytes = (i : ℕ) → get_or bytes i 0 < 256

-- bytes spell one certificate at the most, in one version
abbrev pub OneCertificate : Type 0
OneCertificate = (bytes : List ℕ) (v w : Version) (c d : CertificateOf Val)
    → IsCert v bytes c → IsCert w bytes d → (v ≡ w) × (c ≡ d)

-- bytes that spell one have no first fault
abbrev pub SpelledHasNoFault : Type 0
SpelledHasNoFault = (bytes : List ℕ) (v : Version) (c : CertificateOf Val)
    → IsCert v bytes c → first_fault bytes ≡ None

-- bytes without a first fault spell one
abbrev pub FaultlessIsSpelled : Type 0
FaultlessIsSpelled = (bytes : List ℕ) → AreBytes bytes → first_fault bytes ≡ None
    → (v : Version) × (c : CertificateOf Val) × IsCert v bytes c

pub record SpellingLaws : Type 0 where
  pub one_certificate : OneCertificate
  pub spelled : SpelledHasNoFault
  pub faultless : FaultlessIsSpelled
