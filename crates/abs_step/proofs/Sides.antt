-- The outcomes of both sides of an instruction, from what is made of each.
use Rattle.std.specs.Prelude.{◌≡◌, ℕ, ◌+◌, ◌≤◌, Bool, true, false, not, cond, List, [], ◌++◌, length, Option, Some, None}
use Rattle.std.proofs.Common.{sym, ◌∙◌, ap, append-nil}
use Rattle.num_domain.specs.Domain.{Domain}
use Rattle.memory_plan.specs.Plans.{PlanLines}
use Rattle.flag_relation.specs.Facts.{FactOf}
use Rattle.flag_relation.specs.Emptiness.{is_empty}
use Rattle.viper_decode.specs.declared.instructions.Instruction.{Instruction}
use Rattle.abs_step.specs.OutcomeLists.{OutcomeOf, all_same, each, live, outcome}
use Rattle.abs_step.specs.Outcomes.{taken_side, skipped_side, performed, instruction_outcomes}
use Rattle.abs_step.specs.Conditions.{side_keeps, c5, outcomes_at}
use Rattle.abs_step.specs.Faults.{side_fault}
use Rattle.abs_step.specs.declared.outcome.Cond.TheVariants.{C3, C4, C5}
use Rattle.abs_step.proofs.OutcomeRoom.{one_outcome, one_of_each}
use Rattle.abs_step.proofs.FaultLaws.{unless_none}

module _ {T : Type 0} (d : Domain T) (plan : PlanLines) (cells : List ℕ) (at : ℕ) where
  -- without a fault the targets of a jump are lawful
  pub no_fault_c5 : (i : Instruction) (f : FactOf T) → side_fault d plan cells at i f ≡ None → c5 d plan cells at i f ≡ true
  unfolding side_fault side_keeps
  no_fault_c5 i f h =
      let a = unless_none (side_keeps d plan cells at i C3 f) C3 _ h in
      let b = unless_none (side_keeps d plan cells at i C4 f) C4 _ a.1 in
      (unless_none (side_keeps d plan cells at i C5 f) C5 _ b.1).0

  -- the outcome of the skipped side
  abbrev pub skipped : Option (FactOf T) → List (OutcomeOf T)
  skipped o = each o (λ g. outcome d (at + 1) g g (all_same cells))

  pub one_skipped : (o : Option (FactOf T)) → length (skipped o) ≤ 1
  one_skipped o = one_of_each o (λ g. outcome d (at + 1) g g (all_same cells)) (λ g. one_outcome d (at + 1) g g (all_same cells))

  abbrev made : Instruction → FactOf T → Option (FactOf T) → List (OutcomeOf T)
  made i f taken = skipped (skipped_side d i f) ++ each taken (λ g. performed d plan cells at i g)

  lived : (i : Instruction) (f : FactOf T) → is_empty d f ≡ false → outcomes_at d plan cells at (Some i) (live d f) ≡ made i f (taken_side d i f)
  unfolding instruction_outcomes
  lived i f e = ap (λ (b : Bool). outcomes_at d plan cells at (Some i) (cond (not b) (Some f) None)) e

  pub skipped_alone : (i : Instruction) (f : FactOf T) → is_empty d f ≡ false → None ≡ taken_side d i f
      → skipped (skipped_side d i f) ≡ outcomes_at d plan cells at (Some i) (live d f)
  skipped_alone i f e none =
      sym (lived i f e ∙ ap (made i f) (sym none) ∙ append-nil (skipped (skipped_side d i f)))

  pub both_sides : (i : Instruction) (f g : FactOf T) → is_empty d f ≡ false → Some g ≡ taken_side d i f
      → skipped (skipped_side d i f) ++ performed d plan cells at i g ≡ outcomes_at d plan cells at (Some i) (live d f)
  both_sides i f g e some = sym (lived i f e ∙ ap (made i f) (sym some))

  pub none_of_empty : (i : Instruction) (f : FactOf T) → is_empty d f ≡ true → [] ≡ outcomes_at d plan cells at (Some i) (live d f)
  none_of_empty i f e = sym (ap (λ (b : Bool). outcomes_at d plan cells at (Some i) (cond (not b) (Some f) None)) e)
