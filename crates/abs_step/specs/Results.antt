-- The value of an operand and of a result.
use Rattle.std.specs.Prelude.{ℕ, ℤ, pos, ◌+◌, ◌-◌, ◌-ℤ◌, ◌+ℤ◌, int_le, Bool, true, false, ◌&&◌, not, cond, nat_eq, List, [], ◌∷◌, Option, Some, None}
use Rattle.std.proofs.Common.{zero, suc}
use Rattle.viper_word.specs.Words.{signed_value}
use Rattle.num_domain.specs.Domain.{Domain}
use Rattle.viper_word.specs.Options.{bind}
use Rattle.num_domain.specs.Ends.{Ends, is_point}
use Rattle.memory_plan.specs.Ranges.{Span}
use Rattle.memory_plan.specs.Plans.{PlanLines, in_code, word_at}
use Rattle.flag_relation.specs.declared.flag.Flag.{Flag}
use Rattle.flag_relation.specs.declared.flag.Flag.TheVariants.{Any, One, Or}
use Rattle.flag_relation.specs.Values.{Values, reg}
use Rattle.abs_step.specs.Addresses.{any_from, in_spans, is_tracked}
use Rattle.viper_decode.specs.declared.instructions.Source.{Source}
use Rattle.viper_decode.specs.declared.instructions.Source.TheVariants.{Of, AfterP}
use Rattle.viper_decode.specs.declared.instructions.Place.{Place}
use Rattle.viper_decode.specs.declared.instructions.Place.TheVariants.{At, Index}
use Rattle.viper_decode.specs.declared.instructions.Operand.{Operand}
use Rattle.viper_decode.specs.declared.instructions.Operand.TheVariants.{Literal, Memory, Peripheral}
use Rattle.viper_decode.specs.declared.instructions.Function.{Function}
use Rattle.viper_decode.specs.declared.instructions.Function.TheVariants.{Neg, Call, Inp, Read, Addb, Adds, Subb, Subs, Xor, And, Nor, Andn}
use Rattle.viper_decode.specs.declared.instructions.Shift.{Shift}
use Rattle.viper_decode.specs.declared.instructions.Shift.TheVariants as shift
use Rattle.viper_decode.specs.declared.instructions.Work.{Work}
use Rattle.viper_decode.specs.declared.instructions.Work.TheVariants.{Apply, Move}

-- does the work leave a link in Y?
abbrev pub is_call : Work → Bool
is_call (Apply Call s o) = true
is_call (Apply Neg s o) = false
is_call (Apply Inp s o) = false
is_call (Apply Read s o) = false
is_call (Apply Addb s o) = false
is_call (Apply Adds s o) = false
is_call (Apply Subb s o) = false
is_call (Apply Subs s o) = false
is_call (Apply Xor s o) = false
is_call (Apply And s o) = false
is_call (Apply Nor s o) = false
is_call (Apply Andn s o) = false
is_call (Move k s) = false

-- a literal, or an address, as a number
abbrev pub number : ℕ → ℤ
number n = pos n

-- what is known of B: One is true, and no atom is false
abbrev pub known_bit : Flag → Option Bool
known_bit Any = None
known_bit One = Some true
known_bit (Or []) = Some false
known_bit (Or (a ∷ atoms)) = None

-- is the address in code or data?
abbrev pub in_memory : PlanLines → ℕ → Bool
in_memory plan n = cond (in_code plan n) true (in_spans plan.«data» n)

-- do the ends, moved by the base, lie from lo to hi?
abbrev pub ends_within : Option Ends → ℤ → ℤ → ℤ → Bool
ends_within None base lo hi = true
ends_within (Some e) base lo hi = int_le lo (base +ℤ e.lo) && int_le (base +ℤ e.hi) hi

abbrev pub given : {T : Type 0} → Bool → T → Option T
given b v = cond b (Some v) None

module _ {T : Type 0} (d : Domain T) where
  -- ---- joins of what several sources give, where some may give nothing

  abbrev pub or_value : Option T → Option T → Option T
  or_value None o = o
  or_value (Some v) None = Some v
  or_value (Some v) (Some w) = Some (d.join v w)

  unfoldable pub join_all : Option T → List (Option T) → Option T
  join_all acc [] = acc
  join_all acc (o ∷ os) = join_all (or_value acc o) os

  -- ---- addresses

  -- may the place be that address?
  unfoldable pub addressed : Place → Values T → ℕ → Bool
  addressed (At a) v n = nat_eq a n
  addressed (Index a r) v n = is_point d (reg v r) (pos n -ℤ pos a)

  -- the tracked cells
  unfoldable pub cell_sources : (ℕ → Bool) → List ℕ → List T → List (Option T)
  cell_sources p [] vs = []
  cell_sources p (c ∷ cs) [] = []
  cell_sources p (c ∷ cs) (v ∷ vs) = given (p c) v ∷ cell_sources p cs vs

  abbrev pub span_meets : (ℕ → Bool) → Span → Bool
  span_meets p s = any_from p s.0 ((s.1 + 1) - s.0)

  -- the ranges of spans
  unfoldable pub span_sources : (ℕ → Bool) → List Span → List (Option T)
  span_sources p [] = []
  span_sources p (s ∷ ss) =
      given (span_meets p s) (d.span s.2.lo s.2.hi s.2.modulus) ∷ span_sources p ss

  -- the image's word at an address that passes
  abbrev pub word_source : Bool → Option ℕ → Option T
  word_source false w = None
  word_source true None = None
  word_source true (Some w) = Some (d.constant (signed_value w))

  -- the words of n addresses from `at` on
  unfoldable pub words_from : PlanLines → (ℕ → Bool) → ℕ → ℕ → List (Option T)
  words_from plan p at zero = []
  words_from plan p at (suc n) =
      word_source (p at) (word_at plan.image at) ∷ words_from plan p (suc at) n

  -- the join with the words of code spans
  unfoldable pub read_code : PlanLines → (ℕ → Bool) → Option T → List (ℕ × ℕ) → Option T
  read_code plan p acc [] = acc
  read_code plan p acc (s ∷ ss) =
      read_code plan p (join_all acc (words_from plan p s.0 ((s.1 + 1) - s.0))) ss

  -- the join over the addresses in code or data that pass
  unfoldable pub read_memory : PlanLines → List ℕ → (ℕ → Bool) → List T → Option T
  read_memory plan cells p vs =
      read_code plan p
      (join_all (join_all None (cell_sources p cells vs))
      (span_sources (λ n. p n && not (is_tracked cells n)) plan.«data»))
      plan.code

  -- the join of the ranges of the input spans that are met
  unfoldable pub read_input : PlanLines → (ℕ → Bool) → Option T
  read_input plan p = join_all None (span_sources p plan.inputs)

  -- ---- operands and results

  unfoldable pub source_value : ℕ → Values T → Source → T
  source_value at v (Of r) = reg v r
  source_value at v AfterP = d.constant (pos (at + 1))

  unfoldable pub operand_value : PlanLines → List ℕ → Values T → Operand → Option T
  operand_value plan cells v (Literal n) = Some (d.constant (pos n))
  operand_value plan cells v (Memory p) = read_memory plan cells (addressed p v) v.cells
  operand_value plan cells v (Peripheral p) = read_input plan (addressed p v)

  unfoldable pub apply : Function → T → T → Option T
  apply Neg r m = d.neg m
  apply Call r m = Some m
  apply Inp r m = Some m
  apply Read r m = Some m
  apply Addb r m = d.add_wrap r m
  apply Adds r m = d.add r m
  apply Subb r m = d.sub_wrap r m
  apply Subs r m = d.sub r m
  apply Xor r m = d.xor r m
  apply And r m = d.bit_and r m
  apply Nor r m = d.nor r m
  apply Andn r m = d.and_not r m

  unfoldable pub move : Shift → T → Option Bool → Option T
  move shift.Right r b = d.sar r
  move shift.RightThroughB r b = d.right_through r b
  move shift.Left r b = d.shl r
  move shift.LeftThroughB r b = d.left_through r b

  unfoldable pub result_value : PlanLines → List ℕ → ℕ → Values T → Flag → Work → Option T
  result_value plan cells at v flag (Apply f s o) =
      bind (operand_value plan cells v o) (λ m. apply f (source_value at v s) m)
  result_value plan cells at v flag (Move k s) = move k (source_value at v s) (known_bit flag)
