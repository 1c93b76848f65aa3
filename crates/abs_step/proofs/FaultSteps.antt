-- The failing condition, from the word at the address on.
use Rattle.std.specs.Prelude.{◌≡◌, ℕ, Bool, true, false, not, cond, List, Option, Some, None}
use Rattle.std.proofs.Common.{refl, sym, ◌∙◌, ap}
use Rattle.num_domain.specs.Domain.{Domain}
use Rattle.viper_word.specs.Options.{bind}
use Rattle.viper_word.specs.Fields.{Fields, is_illegal}
use Rattle.memory_plan.specs.Plans.{PlanLines}
use Rattle.flag_relation.specs.Facts.{FactOf}
use Rattle.viper_decode.specs.Instructions.{instruction_of}
use Rattle.viper_decode.specs.declared.instructions.Instruction.{Instruction}
use Rattle.abs_step.specs.OutcomeLists.{OutcomeOf, live}
use Rattle.abs_step.specs.Conditions.{side_keeps, instruction_keeps, keeps, fault, unless, is_some, if_there, if_legal, word_fields, outcomes_at, outcomes}
use Rattle.abs_step.specs.Faults.{side_fault, fault_of, live_side}
use Rattle.abs_step.specs.declared.outcome.Cond.{Cond}
use Rattle.abs_step.specs.declared.outcome.Cond.TheVariants.{C1, C2, C3, C4, C5, C6, C7}

unless_not : (b : Bool) (c : Cond) (o : Option Cond) → b ≡ false → unless b c o ≡ Some c
unless_not b c o h = ap (λ (t : Bool). cond t o (Some c)) h

unless_so : (b : Bool) (c : Cond) (o : Option Cond) → b ≡ true → unless b c o ≡ o
unless_so b c o h = ap (λ (t : Bool). cond t o (Some c)) h

-- the first that fails of C3 to C7
abbrev rest_of : (Cond → Bool) → Option Cond
rest_of h = unless (h C3) C3 (unless (h C4) C4 (unless (h C5) C5 (unless (h C6) C6 (unless (h C7) C7 None))))

module _ {T : Type 0} (d : Domain T) (plan : PlanLines) (cells : List ℕ) (at : ℕ) (f : FactOf T) where
  -- what is asked of an instruction, if there is one
  abbrev asked : Option Instruction → Cond → Bool
  asked o c = if_there d o (λ i. instruction_keeps d plan cells at i c f)

  abbrev read : Option Fields → Option Instruction
  read o = bind (bind o if_legal) (λ i. Some (instruction_of i))

  abbrev by_fields : Option Fields → Option Cond
  by_fields o =
      unless (is_some o) C1
      (unless (if_there d o (λ i. not (is_illegal i))) C2 (rest_of (asked (read o))))

  fault_is : fault d plan cells at f ≡ by_fields (word_fields plan at)
  unfolding fault keeps
  fault_is = refl

  pub no_word : None ≡ word_fields plan at → fault d plan cells at f ≡ Some C1
  no_word e = fault_is ∙ ap by_fields (sym e)

  pub illegal_word : (i : Fields) → Some i ≡ word_fields plan at → is_illegal i ≡ true → fault d plan cells at f ≡ Some C2
  illegal_word i e h =
      fault_is ∙ ap by_fields (sym e) ∙ unless_not (not (is_illegal i)) C2 (rest_of (asked (read (Some i)))) (ap not h)

  at_side : (i : Instruction) (o : Option (FactOf T)) → rest_of (λ c. if_there d o (λ g. side_keeps d plan cells at i c g)) ≡ fault_of d plan cells at i o
  unfolding side_fault
  at_side i None = refl
  at_side i (Some g) = refl

  at_instruction : (i : Instruction) → rest_of (asked (Some i)) ≡ fault_of d plan cells at i (live_side d i f)
  unfolding instruction_keeps
  at_instruction i = at_side i (live_side d i f)

  pub legal_word : (i : Fields) → Some i ≡ word_fields plan at → is_illegal i ≡ false → fault d plan cells at f ≡ fault_of d plan cells at (instruction_of i) (live_side d (instruction_of i) f)
  legal_word i e h =
      fault_is ∙ ap by_fields (sym e)
      ∙ unless_so (not (is_illegal i)) C2 (rest_of (asked (read (Some i)))) (ap not h)
      ∙ ap (λ (b : Bool). rest_of (asked (bind (cond b None (Some i)) (λ j. Some (instruction_of j))))) h
      ∙ at_instruction (instruction_of i)

  abbrev at_fields : Option Fields → List (OutcomeOf T)
  at_fields o = outcomes_at d plan cells at (read o) (live d f)

  outcomes_is : outcomes d plan cells at f ≡ at_fields (word_fields plan at)
  unfolding outcomes
  outcomes_is = refl

  pub legal_outcomes : (i : Fields) → Some i ≡ word_fields plan at → is_illegal i ≡ false → outcomes d plan cells at f ≡ outcomes_at d plan cells at (Some (instruction_of i)) (live d f)
  legal_outcomes i e h =
      outcomes_is ∙ ap at_fields (sym e)
      ∙ ap (λ (b : Bool). outcomes_at d plan cells at (bind (cond b None (Some i)) (λ j. Some (instruction_of j))) (live d f)) h
