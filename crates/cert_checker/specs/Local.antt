-- The local conditions of a certificate: it is judged as it is filled.
use Rattle.std.specs.Prelude.{ℕ, ◌≤◌}
use Rattle.num_domain.specs.Domain.{Domain}
use Rattle.memory_plan.specs.Plans.{PlanLines}
use Rattle.memory_plan.specs.WellFormed.{IsWellFormed}
use Rattle.abs_step.specs.StepLaws.{Ascend}
use Rattle.cert_format.specs.Certificates.{CertificateOf}
use Rattle.cert_checker.specs.Conditions.{LocalOfFull}
use Rattle.cert_checker.specs.Filling.{filled}
use Rattle.cert_checker.specs.Claims.{Suffices}
use Rattle.cert_checker.specs.Exactness.{IsExact}

module _ {T : Type 0} (d : Domain T) (plan : PlanLines) (price : ℕ → ℕ) (c : CertificateOf T) where
  -- all local conditions hold
  abbrev pub Local : Type 0
  Local = LocalOfFull d plan price (filled d plan c)

  -- over a plan that was read, cells in ascending order and prices of at least 1 they suffice
  abbrev pub LocalSuffices : Type 0
  LocalSuffices = IsWellFormed plan → Ascend c.cells → ((at : ℕ) → 1 ≤ price at) → Local
      → Suffices d plan price (filled d plan c)

  -- the verdict on the filled certificate is a yes exactly where they hold
  abbrev pub YesExactlyWhereLocal : Type 0
  YesExactlyWhereLocal = IsExact d plan price (filled d plan c)
