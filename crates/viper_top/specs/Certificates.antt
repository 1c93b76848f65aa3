-- Certificates over the values that the certifier uses, and what is said of them: bare nodes are filled, and
-- each instruction counts once.
use Rattle.std.specs.Prelude.{ℕ, List, Result}
use Rattle.val_dom.specs.declared.val.Val.{Val}
use Rattle.val_dom.specs.Vals.{vals}
use Rattle.memory_plan.specs.Plans.{PlanLines}
use Rattle.cert_format.specs.declared.version.Version.{Version}
use Rattle.cert_format.specs.Certificates.{CertificateOf}
use Rattle.cert_format.specs.Spelling.{IsCert}
use Rattle.cert_checker.specs.declared.verdict.Bound.{Bound}
use Rattle.cert_checker.specs.declared.verdict.Refusal.{Refusal}
use Rattle.cert_checker.specs.Claims.{Holds as HoldsAt}
use Rattle.cert_checker.specs.Exactness.{FailsFirst as FailsFirstOf}
use Rattle.cert_checker.specs.Filling.{filled}
use Rattle.cert_checker.specs.Local.{Local as LocalOf}
use Rattle.cert_checker.specs.Verdicts.{bounds_of as bounds_over, verdict_of as verdict_over}

abbrev pub Certificate : Type 0
Certificate = CertificateOf Val

-- the bytes are those of the certificate, in one of the versions
abbrev pub IsCertificate : List ℕ → Certificate → Type 0
IsCertificate bytes c = (v : Version) × IsCert v bytes c

-- an instruction counts once, whichever it is
abbrev pub once : ℕ → ℕ
once at = 1

-- the certificate with its bare nodes filled
abbrev pub full : PlanLines → Certificate → Certificate
full plan c = filled vals plan c

-- all local conditions hold
abbrev pub Local : PlanLines → Certificate → Type 0
Local plan c = LocalOf vals plan once c

-- the refusal is what fails first
abbrev pub FailsFirst : PlanLines → Certificate → Refusal → Type 0
FailsFirst plan c = FailsFirstOf vals plan once (full plan c)

-- each marker with its bound, in the plan's order
abbrev pub bounds_of : PlanLines → Certificate → List (ℕ × Bound)
bounds_of plan c = bounds_over vals plan (full plan c)

-- every fair run is safe, and each marker is as its bound claims
abbrev pub Holds : PlanLines → List (ℕ × Bound) → Type 0
Holds plan = HoldsAt plan once

-- the bounds, or what fails first
abbrev pub verdict_of : PlanLines → Certificate → Result (List (ℕ × Bound)) Refusal
verdict_of plan c = verdict_over vals plan once (full plan c)
