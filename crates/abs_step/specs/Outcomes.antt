-- The outcomes of one instruction.
use Rattle.std.specs.Prelude.{ℕ, pos, ◌+◌, ◌^◌, Bool, true, false, ◌&&◌, cond, List, [], ◌++◌, Option, Some, None}
use Rattle.std.specs.List.{flat_map}
use Rattle.num_domain.specs.Domain.{Domain}
use Rattle.viper_word.specs.Options.{bind}
use Rattle.num_domain.specs.Ends.{is_point}
use Rattle.memory_plan.specs.Plans.{PlanLines, in_code}
use Rattle.viper_word.specs.declared.reg.Reg.{Reg}
use Rattle.viper_word.specs.declared.reg.Reg.TheVariants.{Y}
use Rattle.flag_relation.specs.declared.flag.Flag.TheVariants.{Any}
use Rattle.flag_relation.specs.Values.{Values, with_reg}
use Rattle.flag_relation.specs.Facts.{FactOf, values, with_flag}
use Rattle.flag_relation.specs.Refining.{assume}
use Rattle.abs_step.specs.Addresses.{any_from, passing}
use Rattle.abs_step.specs.Writes.{put_reg}
use Rattle.abs_step.specs.Results.{is_call, addressed, operand_value, result_value}
use Rattle.viper_word.specs.declared.profile.Profile.{Profile}
use Rattle.abs_step.specs.declared.outcome.Post.{Post}
use Rattle.abs_step.specs.declared.outcome.Post.TheVariants.{Within}
use Rattle.viper_decode.specs.declared.instructions.Work.{Work}
use Rattle.viper_decode.specs.declared.instructions.Side.TheVariants.{IfB, IfNotB}
use Rattle.viper_decode.specs.declared.instructions.Instruction.{Instruction}
use Rattle.viper_decode.specs.declared.instructions.Instruction.TheVariants.{Compare, Assign, Jump, Output, Store}
use Rattle.abs_step.specs.Origins.{atom_of, compared_flag, sets_bit, origin, link_of}
use Rattle.abs_step.specs.OutcomeLists.{OutcomeOf, all_same, each, live, outcome}
use Rattle.abs_step.specs.Stores.{spot, stored}

module _ {T : Type 0} (d : Domain T) where
  -- ---- results

  abbrev pub flag_set : Bool → FactOf T → FactOf T
  flag_set b f = cond b (with_flag f Any) f

  -- the register is written
  unfoldable pub assigned : Profile → List ℕ → FactOf T → Reg → Work → T → FactOf T
  assigned pr cells f r w v =
      flag_set (sets_bit pr w) (put_reg f r v (link_of f.links (origin cells w)))

  -- CALL links Y to the address after P
  abbrev pub linked : Bool → ℕ → FactOf T → FactOf T
  linked call at f = cond call (put_reg f Y (d.constant (pos (at + 1))) None) f

  abbrev pub linked_posts : Bool → List ℕ → Values Post
  linked_posts call cells = cond call (with_reg (all_same cells) Y Within) (all_same cells)

  unfoldable pub is_target : PlanLines → T → ℕ → Bool
  is_target plan v n = is_point d v (pos n) && in_code plan n

  unfoldable pub jumps : PlanLines → List ℕ → ℕ → Bool → FactOf T → T → List (OutcomeOf T)
  jumps plan cells at call f v =
      flat_map (λ n. outcome d n f (linked call at f) (linked_posts call cells))
      (passing (is_target plan v) 0 (2 ^ 20))

  -- ---- sides

  unfoldable pub taken_side : Instruction → FactOf T → Option (FactOf T)
  taken_side (Jump IfB w) f = bind (assume d f true) (live d)
  taken_side (Jump IfNotB w) f = bind (assume d f false) (live d)
  taken_side s f = Some f

  unfoldable pub skipped_side : Instruction → FactOf T → Option (FactOf T)
  skipped_side (Jump IfB w) f = bind (assume d f false) (live d)
  skipped_side (Jump IfNotB w) f = bind (assume d f true) (live d)
  skipped_side s f = None

  -- what the instruction makes of its taken side
  unfoldable pub performed : PlanLines → List ℕ → ℕ → Instruction → FactOf T → List (OutcomeOf T)
  performed plan cells at (Compare joined k s o) f =
      each (operand_value d plan cells (values f) o)
      (λ _. outcome d (at + 1) f
      (with_flag f (compared_flag joined (atom_of plan cells k s o) f.flag)) (all_same cells))
  performed plan cells at (Assign r w) f =
      each (result_value d plan cells at (values f) f.flag w)
      (λ v. outcome d (at + 1) f (assigned plan.profile cells f r w v)
      (with_reg (all_same cells) r (origin cells w)))
  performed plan cells at (Jump side w) f =
      each (result_value d plan cells at (values f) f.flag w)
      (λ v. jumps plan cells at (is_call w) f v)
  performed plan cells at (Output s p) f =
      cond (any_from (addressed d p (values f)) 0 (2 ^ 20))
      (outcome d (at + 1) f f (all_same cells)) []
  performed plan cells at (Store s p) f = stored d cells at f s p (spot d p (values f))

  -- the skipped side first, then the taken one
  unfoldable pub instruction_outcomes : PlanLines → List ℕ → ℕ → Instruction → FactOf T
      → List (OutcomeOf T)
  instruction_outcomes plan cells at instruction f =
      each (skipped_side instruction f) (λ g. outcome d (at + 1) g g (all_same cells))
      ++ each (taken_side instruction f) (λ g. performed plan cells at instruction g)
