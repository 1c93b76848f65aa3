-- A yes exactly where all local conditions hold, and a no with what fails first.
use Rattle.std.specs.Prelude.{◌≡◌, ℕ, ◌<◌, List, Option, Some, None, Ok, Err, ◌⊎◌, slice_get}
use Rattle.num_domain.specs.Domain.{Domain}
use Rattle.memory_plan.specs.Plans.{PlanLines}
use Rattle.cert_format.specs.Certificates.{CertificateOf}
use Rattle.cert_checker.specs.Conditions.{LocalOfFull}
use Rattle.cert_checker.specs.Verdicts.{cell_refusal, start_refusal, node_refusal, bounds_of}
use Rattle.cert_checker.specs.Verdicts.{verdict_of}
use Rattle.cert_checker.specs.declared.verdict.Bound.{Bound}
use Rattle.cert_checker.specs.declared.verdict.Refusal.{Refusal}

-- the refusal is that of an element, and none before it is refused
pub record IsFirst {A : Type 0} (refusal : ℕ → A → Option Refusal) (xs : List A) (r : Refusal)
    : Type 0 where
  pub number : ℕ
  pub element : A
  pub there : slice_get xs number ≡ Some element
  pub refused : refusal number element ≡ Some r
  pub before : (j : ℕ) (x : A) → j < number → slice_get xs j ≡ Some x → refusal j x ≡ None

-- no element is refused
abbrev pub NoneRefused : {A : Type 0} → (ℕ → A → Option Refusal) → List A → Type 0
NoneRefused {A} refusal xs = (j : ℕ) (x : A) → slice_get xs j ≡ Some x → refusal j x ≡ None

module _ {T : Type 0} (d : Domain T) (plan : PlanLines) (price : ℕ → ℕ) (c : CertificateOf T) where
  -- the refusal of a cell; else that of a start, where no cell is refused; else that of a node
  abbrev pub FailsFirst : Refusal → Type 0
  FailsFirst r = IsFirst (cell_refusal plan) c.cells r
      ⊎ (NoneRefused (cell_refusal plan) c.cells
      × (IsFirst (start_refusal d plan c) plan.starts r
      ⊎ (NoneRefused (start_refusal d plan c) plan.starts
      × IsFirst (node_refusal d plan price c) c.nodes r)))

  pub record IsExact : Type 0 where
    pub yes : LocalOfFull d plan price c → verdict_of d plan price c ≡ Ok (bounds_of d plan c)
    pub only_where : (bounds : List (ℕ × Bound)) → verdict_of d plan price c ≡ Ok bounds
        → LocalOfFull d plan price c
    pub first : (r : Refusal) → verdict_of d plan price c ≡ Err r → FailsFirst r
    pub not_where : (r : Refusal) → verdict_of d plan price c ≡ Err r
        → LocalOfFull d plan price c → ⊥
