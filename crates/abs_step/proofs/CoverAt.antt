-- Cover for the outcomes at an address: without a fault some outcome is that of the step.
use Rattle.std.specs.Prelude.{◌≡◌, ℕ, ◌^◌, ◌<◌, ℤ, Bool, true, cond, List, Option, Some, None, IsSomeAnd}
use Rattle.std.proofs.Common.{refl, sym, subst}
use Rattle.num_domain.specs.Domain.{Domain}
use Rattle.num_domain.specs.Laws.{DomainLaws}
use Rattle.viper_word.specs.Options.{bind}
use Rattle.memory_plan.specs.Plans.{PlanLines}
use Rattle.flag_relation.specs.Facts.{FactOf, Meets}
use Rattle.abs_step.specs.OutcomeLists.{live}
use Rattle.abs_step.specs.Outcomes.{taken_side}
use Rattle.abs_step.specs.Conditions.{side_keeps, if_there, instruction_keeps, instruction_at, keeps, fault, outcomes_at, outcomes}
use Rattle.abs_step.proofs.Performing.{Numbers, env, perform, IsPlanOf, IsKeptBy, SomeCovers}
use Rattle.viper_decode.specs.declared.instructions.Instruction.{Instruction}
use Rattle.abs_step.specs.declared.outcome.Cond.{Cond}
use Rattle.abs_step.specs.declared.outcome.Cond.TheVariants.{H1, H2, C1, C2, C3, C4, C5, C6, C7, C8, C9, C10, C11}
use Rattle.abs_step.proofs.StepCover.{live_met}
use Rattle.abs_step.proofs.StoreCover.{Distinct}
use Rattle.abs_step.proofs.Cover.{IsInstruction, IsFairStep, instruction_covers}
use Rattle.abs_step.proofs.FaultLaws.{no_fault_keeps}

module _ {T : Type 0} (d : Domain T) (laws : DomainLaws d) (plan : PlanLines) (cells : List ℕ) where
  all_there : (o : Option (FactOf T)) (p : FactOf T → Bool) → ((f : FactOf T) → p f ≡ true) → if_there d o p ≡ true
  all_there None p h = refl
  all_there (Some f) p h = h f

  pub at_instruction : (o : Option Instruction) (instruction : Instruction) (p : Instruction → Bool) → o ≡ Some instruction → if_there d o p ≡ true → p instruction ≡ true
  at_instruction o instruction p e h = subst (λ (q : Option Instruction). if_there d q p ≡ true) e h

  -- where no condition of the fact fails, the machine doesn't stop, and some outcome is that of its step
  pub cover : (instruction : Instruction) (f : FactOf T) (s : Numbers) (answer : ℤ) → s.p < 2 ^ 20 → IsPlanOf plan → IsKeptBy plan s.mem → Distinct cells → instruction_at plan s.p ≡ Some instruction → IsInstruction d laws instruction → IsFairStep d laws plan answer s instruction → Meets d f (env cells s) s.b → fault d plan cells s.p f ≡ None → IsSomeAnd (perform plan.profile instruction answer s) (λ s'. SomeCovers d cells s s' (outcomes d plan cells s.p f))
  unfolding outcomes keeps instruction_keeps side_keeps
  cover instruction f s answer at fits kept apart e i fair m h =
      let k = no_fault_keeps d plan cells s.p f h in
      let l = live_met d laws f (env cells s) s.b m in
      subst (λ (o : Option Instruction). IsSomeAnd (perform plan.profile instruction answer s) (λ s'. SomeCovers d cells s s' (outcomes_at d plan cells s.p o (live d f)))) (sym e)
      (subst (λ (b : Bool). IsSomeAnd (perform plan.profile instruction answer s) (λ s'. SomeCovers d cells s s' (outcomes_at d plan cells s.p (Some instruction) (cond b (Some f) None)))) (sym l)
      (instruction_covers d laws plan cells s answer at fits kept apart instruction f i fair m
      (λ c. by_cond c (at_instruction (instruction_at plan s.p) instruction (λ w. instruction_keeps d plan cells s.p w C3 f) e k.c3) (at_instruction (instruction_at plan s.p) instruction (λ w. instruction_keeps d plan cells s.p w C4 f) e k.c4) (at_instruction (instruction_at plan s.p) instruction (λ w. instruction_keeps d plan cells s.p w C5 f) e k.c5) (at_instruction (instruction_at plan s.p) instruction (λ w. instruction_keeps d plan cells s.p w C6 f) e k.c6) (at_instruction (instruction_at plan s.p) instruction (λ w. instruction_keeps d plan cells s.p w C7 f) e k.c7))))
    where
      by_cond : (c : Cond) → instruction_keeps d plan cells s.p instruction C3 f ≡ true → instruction_keeps d plan cells s.p instruction C4 f ≡ true → instruction_keeps d plan cells s.p instruction C5 f ≡ true → instruction_keeps d plan cells s.p instruction C6 f ≡ true → instruction_keeps d plan cells s.p instruction C7 f ≡ true → instruction_keeps d plan cells s.p instruction c f ≡ true
      by_cond C3 a b c u v = a
      by_cond C4 a b c u v = b
      by_cond C5 a b c u v = c
      by_cond C6 a b c u v = u
      by_cond C7 a b c u v = v
      by_cond H1 a b c u v = all_there (bind (live d f) (λ g. taken_side d instruction g)) _ (λ g. refl)
      by_cond H2 a b c u v = all_there (bind (live d f) (λ g. taken_side d instruction g)) _ (λ g. refl)
      by_cond C1 a b c u v = all_there (bind (live d f) (λ g. taken_side d instruction g)) _ (λ g. refl)
      by_cond C2 a b c u v = all_there (bind (live d f) (λ g. taken_side d instruction g)) _ (λ g. refl)
      by_cond C8 a b c u v = all_there (bind (live d f) (λ g. taken_side d instruction g)) _ (λ g. refl)
      by_cond C9 a b c u v = all_there (bind (live d f) (λ g. taken_side d instruction g)) _ (λ g. refl)
      by_cond C10 a b c u v = all_there (bind (live d f) (λ g. taken_side d instruction g)) _ (λ g. refl)
      by_cond C11 a b c u v = all_there (bind (live d f) (λ g. taken_side d instruction g)) _ (λ g. refl)
