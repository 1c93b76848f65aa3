-- The fault is the first condition that fails.
use Rattle.std.specs.Prelude.{◌≡◌, ℕ, Bool, true, false, List, Option, Some, None}
use Rattle.std.proofs.Common.{refl}
use Rattle.std.proofs.lemmas.Option.{same_Some}
use Rattle.num_domain.specs.Domain.{Domain}
use Rattle.memory_plan.specs.Plans.{PlanLines}
use Rattle.flag_relation.specs.Facts.{FactOf}
use Rattle.abs_step.specs.declared.outcome.Cond.{Cond}
use Rattle.abs_step.specs.declared.outcome.Cond.TheVariants.{C1, C2, C3, C4, C5, C6, C7}
use Rattle.abs_step.specs.Conditions.{unless, keeps, fault}

pub unless_none : (b : Bool) (c : Cond) (o : Option Cond) → unless b c o ≡ None → (b ≡ true) × (o ≡ None)
unless_none true c o h = (refl, h)
unless_none false c o h = absurd (cc)

unless_some : (P : Cond → Bool) (b : Bool) (c c' : Cond) (o : Option Cond) → P c ≡ b → (o ≡ Some c' → P c' ≡ false) → unless b c o ≡ Some c' → P c' ≡ false
unless_some P true c c' o e f h = f h
unless_some P false c c' o e f h = by_same c' (same_Some c c' h) e
  where
    by_same : (c' : Cond) → c ≡ c' → P c ≡ false → P c' ≡ false
    by_same c' i e = rw i at e

module _ {T : Type 0} (d : Domain T) where
  -- the fault fails
  pub fault_fails : (plan : PlanLines) (cells : List ℕ) (at : ℕ) (f : FactOf T) (c : Cond) → fault d plan cells at f ≡ Some c → keeps d plan cells at c f ≡ false
  unfolding fault
  fault_fails plan cells at f c h =
      let P = λ (c : Cond). keeps d plan cells at c f in
      unless_some P (P C1) C1 c _ refl
      (unless_some P (P C2) C2 c _ refl
      (unless_some P (P C3) C3 c _ refl
      (unless_some P (P C4) C4 c _ refl
      (unless_some P (P C5) C5 c _ refl
      (unless_some P (P C6) C6 c _ refl
      (unless_some P (P C7) C7 c None refl (λ e. absurd (cc)))))))) h

  pub record AllKeep (plan : PlanLines) (cells : List ℕ) (at : ℕ) (f : FactOf T) : Type 0 where
    pub c1 : keeps d plan cells at C1 f ≡ true
    pub c2 : keeps d plan cells at C2 f ≡ true
    pub c3 : keeps d plan cells at C3 f ≡ true
    pub c4 : keeps d plan cells at C4 f ≡ true
    pub c5 : keeps d plan cells at C5 f ≡ true
    pub c6 : keeps d plan cells at C6 f ≡ true
    pub c7 : keeps d plan cells at C7 f ≡ true

  -- without a fault all seven hold
  pub no_fault_keeps : (plan : PlanLines) (cells : List ℕ) (at : ℕ) (f : FactOf T) → fault d plan cells at f ≡ None → AllKeep plan cells at f
  unfolding fault
  no_fault_keeps plan cells at f h =
      let P = λ (c : Cond). keeps d plan cells at c f in
      let a = unless_none (P C1) C1 _ h in
      let b = unless_none (P C2) C2 _ a.1 in
      let c = unless_none (P C3) C3 _ b.1 in
      let e = unless_none (P C4) C4 _ c.1 in
      let g = unless_none (P C5) C5 _ e.1 in
      let i = unless_none (P C6) C6 _ g.1 in
      let j = unless_none (P C7) C7 None i.1 in
      record { c1 = a.0; c2 = b.0; c3 = c.0; c4 = e.0; c5 = g.0; c6 = i.0; c7 = j.0 }
