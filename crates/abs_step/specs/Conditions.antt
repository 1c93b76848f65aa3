-- The local conditions of one instruction, and the whole of its outcomes.
use Rattle.abs_step.specs.declared.outcome.TheConstants.{MOST_TARGETS}
use Rattle.std.specs.Prelude.{ℕ, pos, ◌-◌, ◌^◌, ◌+ℤ◌, int_le, int_lt, Bool, true, false, not, ◌&&◌, ◌||◌, cond, nat_eq, nat_lt, nat_le, List, [], length, Option, Some, None}
use Rattle.std.specs.Ordering.{int_eq}
use Rattle.viper_word.specs.Words.{least_signed, greatest_signed}
use Rattle.viper_word.specs.Fields.{Fields, fields_of, is_illegal}
use Rattle.num_domain.specs.Domain.{Domain}
use Rattle.viper_word.specs.Options.{bind}
use Rattle.num_domain.specs.Ends.{Ends, ends, is_point}
use Rattle.viper_word.specs.Ranges.{NumberRange}
use Rattle.memory_plan.specs.Ranges.{Span}
use Rattle.memory_plan.specs.Plans.{PlanLines, in_code, code_word}
use Rattle.flag_relation.specs.Values.{Values, reg}
use Rattle.flag_relation.specs.Facts.{FactOf, values}
use Rattle.abs_step.specs.Addresses.{any_from, passing, passes_at, in_spans}
use Rattle.viper_decode.specs.Instructions.{instruction_of}
use Rattle.abs_step.specs.Results.{in_memory, ends_within, addressed, source_value, operand_value, result_value}
use Rattle.abs_step.specs.OutcomeLists.{OutcomeOf, live}
use Rattle.abs_step.specs.Outcomes.{taken_side, instruction_outcomes}
use Rattle.viper_word.specs.declared.profile.Profile.{Profile}
use Rattle.viper_word.specs.declared.profile.Profile.TheVariants as profile
use Rattle.abs_step.specs.declared.outcome.Cond.{Cond}
use Rattle.abs_step.specs.declared.outcome.Cond.TheVariants.{C1, C2, C3, C4, C5, C6, C7}
use Rattle.viper_decode.specs.declared.instructions.Place.{Place}
use Rattle.viper_decode.specs.declared.instructions.Place.TheVariants.{At, Index}
use Rattle.viper_decode.specs.declared.instructions.Operand.{Operand}
use Rattle.viper_decode.specs.declared.instructions.Operand.TheVariants.{Literal, Memory, Peripheral}
use Rattle.viper_decode.specs.declared.instructions.Function.{Function}
use Rattle.viper_decode.specs.declared.instructions.Function.TheVariants.{Neg, Call, Inp, Read, Addb, Adds, Subb, Subs, Xor, And, Nor, Andn}
use Rattle.viper_decode.specs.declared.instructions.Shift.{Shift}
use Rattle.viper_decode.specs.declared.instructions.Shift.TheVariants as shift
use Rattle.viper_decode.specs.declared.instructions.Work.{Work}
use Rattle.viper_decode.specs.declared.instructions.Work.TheVariants.{Apply, Move}
use Rattle.viper_decode.specs.declared.instructions.Instruction.{Instruction}
use Rattle.viper_decode.specs.declared.instructions.Instruction.TheVariants.{Compare, Assign, Jump, Output, Store}

-- is the sum of any two numbers between the ends a word's?
abbrev pub sums_within : Option Ends → Option Ends → Bool
sums_within None q = true
sums_within (Some e) q =
    ends_within q e.lo least_signed greatest_signed
    && ends_within q e.hi least_signed greatest_signed

abbrev pub less_within : Option Ends → Option Ends → Bool
less_within None q = true
less_within (Some e) None = true
less_within (Some e) (Some q) =
    (int_le (least_signed +ℤ q.hi) e.lo && int_le e.hi (greatest_signed +ℤ q.lo))

abbrev pub twice_within : Option Ends → Bool
twice_within None = true
twice_within (Some e) = int_le least_signed (e.lo +ℤ e.lo) && int_le (e.hi +ℤ e.hi) greatest_signed

abbrev pub above_least : Option Ends → Bool
above_least None = true
above_least (Some e) = int_lt least_signed e.lo

module _ {T : Type 0} (d : Domain T) where
  -- each address of the place is lawful and passes
  unfoldable pub each_address : Place → Values T → (ℕ → Bool) → Bool
  each_address (At a) v ok = nat_lt a (2 ^ 20) && ok a
  each_address (Index a r) v ok =
      ends_within (ends d (reg v r)) (pos a) (pos 0) (pos (2 ^ 20 - 1))
      && not (any_from (λ n. addressed d (Index a r) v n && not (ok n)) 0 (2 ^ 20))

  -- the value lies in the range
  abbrev pub in_range : T → NumberRange → Bool
  in_range v r =
      ends_within (ends d v) (pos 0) r.lo r.hi
      && (int_eq r.lo r.hi || d.all_on v r.modulus r.residue)

  -- each address of the place is lawful and in one of the spans, whose range the value lies in
  abbrev pub each_allows : List Span → Place → Values T → T → Bool
  each_allows spans p v w = each_address p v (λ n. passes_at spans (λ r. in_range w r) n)

  -- ---- C3: each address of the operand is in code or data, for INP in an input span

  unfoldable pub operand_lawful : PlanLines → Values T → Operand → Bool
  operand_lawful plan v (Literal n) = true
  operand_lawful plan v (Memory p) = each_address p v (λ n. in_memory plan n)
  operand_lawful plan v (Peripheral p) = each_address p v (λ n. in_spans plan.inputs n)

  abbrev pub work_lawful : PlanLines → Values T → Work → Bool
  work_lawful plan v (Apply f s o) = operand_lawful plan v o
  work_lawful plan v (Move k s) = true

  unfoldable pub c3 : PlanLines → Instruction → Values T → Bool
  c3 plan (Compare joined k s o) v = operand_lawful plan v o
  c3 plan (Assign r w) v = work_lawful plan v w
  c3 plan (Jump side w) v = work_lawful plan v w
  c3 plan (Output s p) v = true
  c3 plan (Store s p) v = true

  -- ---- C4: no result passes W

  abbrev pub ends_of : Option T → Option Ends
  ends_of o = bind o (λ m. ends d m)

  unfoldable pub function_exact : Profile → Function → Option Ends → Option Ends → Bool
  function_exact pr Adds r m = sums_within r m
  function_exact pr Subs r m = less_within r m
  function_exact profile.One Neg r m = true
  function_exact profile.Two Neg r m = above_least m
  function_exact pr Call r m = true
  function_exact pr Inp r m = true
  function_exact pr Read r m = true
  function_exact pr Addb r m = true
  function_exact pr Subb r m = true
  function_exact pr Xor r m = true
  function_exact pr And r m = true
  function_exact pr Nor r m = true
  function_exact pr Andn r m = true

  unfoldable pub move_exact : Shift → Option Ends → Bool
  move_exact shift.Right r = true
  move_exact shift.RightThroughB r = true
  move_exact shift.Left r = twice_within r
  move_exact shift.LeftThroughB r = true

  unfoldable pub work_exact : PlanLines → List ℕ → ℕ → Values T → Work → Bool
  work_exact plan cells at v (Apply f s o) =
      function_exact plan.profile f (ends d (source_value d at v s))
      (ends_of (operand_value d plan cells v o))
  work_exact plan cells at v (Move k s) = move_exact k (ends d (source_value d at v s))

  unfoldable pub c4 : PlanLines → List ℕ → ℕ → Instruction → Values T → Bool
  c4 plan cells at (Compare joined k s o) v = true
  c4 plan cells at (Assign r w) v = work_exact plan cells at v w
  c4 plan cells at (Jump side w) v = work_exact plan cells at v w
  c4 plan cells at (Output s p) v = true
  c4 plan cells at (Store s p) v = true

  -- ---- C5: a jump has at most 64 targets, each in code

  unfoldable pub targets_lawful : PlanLines → Option T → Bool
  targets_lawful plan None = true
  targets_lawful plan (Some v) =
      ends_within (ends d v) (pos 0) (pos 0) (pos (2 ^ 20 - 1))
      && (nat_le (length (passing (λ n. is_point d v (pos n)) 0 (2 ^ 20))) MOST_TARGETS
      && not (any_from (λ n. is_point d v (pos n) && not (in_code plan n)) 0 (2 ^ 20)))

  unfoldable pub c5 : PlanLines → List ℕ → ℕ → Instruction → FactOf T → Bool
  c5 plan cells at (Compare joined k s o) f = true
  c5 plan cells at (Assign r w) f = true
  c5 plan cells at (Jump side w) f =
      targets_lawful plan (result_value d plan cells at (values f) f.flag w)
  c5 plan cells at (Output s p) f = true
  c5 plan cells at (Store s p) f = true

  -- ---- C6 and C7: a store is in data, an output in an output span, with R in the range there

  unfoldable pub c6 : PlanLines → ℕ → Instruction → Values T → Bool
  c6 plan at (Compare joined k s o) v = true
  c6 plan at (Assign r w) v = true
  c6 plan at (Jump side w) v = true
  c6 plan at (Output s p) v = true
  c6 plan at (Store s p) v = each_allows plan.«data» p v (source_value d at v s)

  unfoldable pub c7 : PlanLines → ℕ → Instruction → Values T → Bool
  c7 plan at (Compare joined k s o) v = true
  c7 plan at (Assign r w) v = true
  c7 plan at (Jump side w) v = true
  c7 plan at (Output s p) v = each_allows plan.outputs p v (source_value d at v s)
  c7 plan at (Store s p) v = true

  -- does the condition hold of the taken side?
  unfoldable pub side_keeps : PlanLines → List ℕ → ℕ → Instruction → Cond → FactOf T → Bool
  side_keeps plan cells at instruction C3 f = c3 plan instruction (values f)
  side_keeps plan cells at instruction C4 f = c4 plan cells at instruction (values f)
  side_keeps plan cells at instruction C5 f = c5 plan cells at instruction f
  side_keeps plan cells at instruction C6 f = c6 plan at instruction (values f)
  side_keeps plan cells at instruction C7 f = c7 plan at instruction (values f)
  side_keeps plan cells at instruction c f = true

  abbrev pub if_there : {A : Type 0} → Option A → (A → Bool) → Bool
  if_there None p = true
  if_there (Some a) p = p a

  unfoldable pub instruction_keeps : PlanLines → List ℕ → ℕ → Instruction → Cond → FactOf T → Bool
  instruction_keeps plan cells at instruction c f =
      if_there (bind (live d f) (λ g. taken_side d instruction g))
      (λ g. side_keeps plan cells at instruction c g)

-- the numbers of the word at an address: in code, and not the last address of all
abbrev pub word_fields : PlanLines → ℕ → Option Fields
word_fields plan at =
    cond (nat_eq at (2 ^ 20 - 1)) None (bind (code_word plan at) (λ w. Some (fields_of w)))

abbrev pub if_legal : Fields → Option Fields
if_legal i = cond (is_illegal i) None (Some i)

-- what the word there does, if it is legal
abbrev pub instruction_at : PlanLines → ℕ → Option Instruction
instruction_at plan at = bind (bind (word_fields plan at) if_legal) (λ i. Some (instruction_of i))

abbrev pub is_some : {A : Type 0} → Option A → Bool
is_some None = false
is_some (Some a) = true

abbrev pub unless : Bool → Cond → Option Cond → Option Cond
unless b c o = cond b o (Some c)

module _ {T : Type 0} (d : Domain T) where
  -- does the condition hold of the fact at the address? Those that aren't of one instruction do.
  unfoldable pub keeps : PlanLines → List ℕ → ℕ → Cond → FactOf T → Bool
  keeps plan cells at C1 f = is_some (word_fields plan at)
  keeps plan cells at C2 f = if_there d (word_fields plan at) (λ i. not (is_illegal i))
  keeps plan cells at c f =
      if_there d (instruction_at plan at)
      (λ instruction. instruction_keeps d plan cells at instruction c f)

  -- the first of C1 to C7 that fails
  unfoldable pub fault : PlanLines → List ℕ → ℕ → FactOf T → Option Cond
  fault plan cells at f =
      let holds : Cond → Bool = λ c. keeps plan cells at c f in
      unless (holds C1) C1
      (unless (holds C2) C2
      (unless (holds C3) C3
      (unless (holds C4) C4
      (unless (holds C5) C5
      (unless (holds C6) C6
      (unless (holds C7) C7 None))))))

  abbrev pub outcomes_at : PlanLines → List ℕ → ℕ → Option Instruction → Option (FactOf T)
      → List (OutcomeOf T)
  outcomes_at plan cells at None f = []
  outcomes_at plan cells at (Some instruction) None = []
  outcomes_at plan cells at (Some instruction) (Some f) =
      instruction_outcomes d plan cells at instruction f

  -- the outcomes of a fact at an address: none where the fact is empty or no legal word is there
  unfoldable pub outcomes : PlanLines → List ℕ → ℕ → FactOf T → List (OutcomeOf T)
  outcomes plan cells at f = outcomes_at plan cells at (instruction_at plan at) (live d f)
