-- One instruction on signed numbers, and what a plan says of memory: the machine as the abstract step
-- sees it. That the machine's own step is this one is shown in MachineSteps.
use Rattle.std.specs.Prelude.{◌≡◌, ℕ, ◌+◌, ◌-◌, ◌%◌, ◌^◌, ℤ, pos, neg_ℤ, nat_abs, ◌+ℤ◌, ◌-ℤ◌, int_le, Bool, true, not, ◌&&◌, ◌||◌, cond, nat_eq, nat_le, nat_lt, List, [], ◌∷◌, map, slice_index, unwrap_or, Option, Some, None, IsSome, ◌⊎◌}
use Rattle.std.specs.Ordering.{int_eq}
use Rattle.std.specs.Int.{w32, cast_unsigned}
use Rattle.viper_word.specs.Words.{IsWord, IsSigned, is_signed, signed_value, least_signed}
use Rattle.viper_word.specs.Machine.{State}
use Rattle.viper_word.specs.Signed.{wrapped, signed_xor, signed_and, signed_nor, signed_and_not, halved, shifted_right, shifted_left, signed_compares}
use Rattle.viper_word.specs.Options.{bind}
use Rattle.viper_word.specs.Ranges.{IsRange, InRange, NumberRange}
use Rattle.memory_plan.specs.Ranges.{Span}
use Rattle.memory_plan.specs.Plans.{PlanLines, in_code, word_at, range_at}
use Rattle.viper_word.specs.declared.reg.Reg.TheVariants.{Y}
use Rattle.flag_relation.specs.Values.{Values, Regs, at_reg, set_reg}
use Rattle.flag_relation.specs.Facts.{Meets}
use Rattle.num_domain.specs.Domain.{Domain}
use Rattle.abs_step.specs.Results.{is_call}
use Rattle.abs_step.specs.OutcomeLists.{OutcomeOf}
use Rattle.abs_step.specs.Posts.{PostsHold}
use Rattle.viper_word.specs.declared.profile.Profile.{Profile}
use Rattle.viper_word.specs.declared.profile.Profile.TheVariants as profile
use Rattle.viper_decode.specs.declared.instructions.Source.{Source}
use Rattle.viper_decode.specs.declared.instructions.Source.TheVariants.{Of, AfterP}
use Rattle.viper_decode.specs.declared.instructions.Place.{Place}
use Rattle.viper_decode.specs.declared.instructions.Place.TheVariants.{At, Index}
use Rattle.viper_decode.specs.declared.instructions.Operand.{Operand}
use Rattle.viper_decode.specs.declared.instructions.Operand.TheVariants.{Literal, Memory, Peripheral}
use Rattle.viper_decode.specs.declared.instructions.Function.{Function}
use Rattle.viper_decode.specs.declared.instructions.Function.TheVariants.{Neg, Call, Inp, Read, Addb, Adds, Subb, Subs, Xor, And, Nor, Andn}
use Rattle.viper_decode.specs.declared.instructions.Shift.{Shift}
use Rattle.viper_decode.specs.declared.instructions.Shift.TheVariants as shift
use Rattle.viper_decode.specs.declared.instructions.Work.{Work}
use Rattle.viper_decode.specs.declared.instructions.Work.TheVariants.{Apply, Move}
use Rattle.viper_decode.specs.declared.instructions.Side.{Side}
use Rattle.viper_decode.specs.declared.instructions.Side.TheVariants.{Always, IfB, IfNotB}
use Rattle.viper_decode.specs.declared.instructions.Instruction.{Instruction}
use Rattle.viper_decode.specs.declared.instructions.Instruction.TheVariants.{Compare, Assign, Jump, Output, Store}

-- a state that isn't stopped, in signed numbers
pub record Numbers : Type 0 where
  pub regs : Regs ℤ
  pub mem : ℕ → ℤ
  pub b : Bool
  pub p : ℕ

-- the numbers of a machine's state
abbrev pub numbers_of : State → Numbers
numbers_of s = record {
  regs = record { a = signed_value s.a; x = signed_value s.x; y = signed_value s.y };
  mem = λ n. signed_value (slice_index s.memory n);
  b = s.b;
  p = s.p;
}

-- the registers and the cells
abbrev pub env : List ℕ → Numbers → Values ℤ
env cells s = record { regs = s.regs; cells = map s.mem cells }

-- ---- one instruction

-- the address that a number is, if it is lawful
abbrev pub lawful : ℤ → Option ℕ
lawful z = cond (int_le (pos 0) z && int_le z (pos (2 ^ 20 - 1))) (Some (nat_abs z)) None

abbrev pub place_number : Place → Regs ℤ → ℤ
place_number (At a) r = pos a
place_number (Index a x) r = pos a +ℤ at_reg r x

abbrev pub source_number : Numbers → Source → ℤ
source_number s (Of r) = at_reg s.regs r
source_number s AfterP = pos (s.p + 1)

unfoldable pub operand_number : Numbers → ℤ → Operand → Option ℤ
operand_number s answer (Literal n) = Some (pos n)
operand_number s answer (Memory p) = bind (lawful (place_number p s.regs)) (λ n. Some (s.mem n))
operand_number s answer (Peripheral p) = bind (lawful (place_number p s.regs)) (λ n. Some answer)

abbrev pub exactly : ℤ → Option ℤ
exactly z = cond (is_signed z) (Some z) None

unfoldable pub function_number : Profile → Function → ℤ → ℤ → Option ℤ
function_number profile.One Neg r m = Some (wrapped (neg_ℤ m))
function_number profile.Two Neg r m = cond (int_eq m least_signed) None (Some (wrapped (neg_ℤ m)))
function_number pr Call r m = Some m
function_number pr Inp r m = Some m
function_number pr Read r m = Some m
function_number pr Addb r m = Some (wrapped (r +ℤ m))
function_number pr Adds r m = exactly (r +ℤ m)
function_number pr Subb r m = Some (wrapped (r -ℤ m))
function_number pr Subs r m = exactly (r -ℤ m)
function_number pr Xor r m = Some (signed_xor r m)
function_number pr And r m = Some (signed_and r m)
function_number pr Nor r m = Some (signed_nor r m)
function_number pr Andn r m = Some (signed_and_not r m)

unfoldable pub moved : Shift → ℤ → Bool → Option ℤ
moved shift.Right r b = Some (halved r)
moved shift.RightThroughB r b = Some (shifted_right b r)
moved shift.Left r b = exactly (r +ℤ r)
moved shift.LeftThroughB r b = Some (shifted_left b r)

unfoldable pub result_number : Profile → Numbers → ℤ → Work → Option ℤ
result_number pr s answer (Apply f l o) = bind (operand_number s answer o) (λ m. function_number pr f (source_number s l) m)
result_number pr s answer (Move k l) = moved k (source_number s l) s.b

abbrev pub is_taken : Side → Bool → Bool
is_taken Always b = true
is_taken IfB b = b
is_taken IfNotB b = not b

abbrev pub at_next : Numbers → Numbers
at_next s = record { regs = s.regs; mem = s.mem; b = s.b; p = s.p + 1 }

-- memory after a store
abbrev pub put_at : (ℕ → ℤ) → ℕ → ℤ → ℕ → ℤ
put_at mem a z n = cond (nat_eq a n) z (mem n)

abbrev pub unsigned : ℤ → ℕ
unsigned z = cast_unsigned w32 z

abbrev pub lowest : ℤ → Bool
lowest r = nat_eq (unsigned r % 2) 1

-- B after a function: a carry, a borrow, or what it was
unfoldable pub function_bit : Function → ℤ → ℤ → Bool → Bool
function_bit Addb r m b = nat_le (2 ^ 32) (unsigned r + unsigned m)
function_bit Subb r m b = nat_lt (unsigned r) (unsigned m)
function_bit Neg r m b = b
function_bit Call r m b = b
function_bit Inp r m b = b
function_bit Read r m b = b
function_bit Adds r m b = b
function_bit Subs r m b = b
function_bit Xor r m b = b
function_bit And r m b = b
function_bit Nor r m b = b
function_bit Andn r m b = b

-- B after a shift: the bit that falls out, or what it was
unfoldable pub shift_bit : Profile → Shift → ℤ → Bool → Bool
shift_bit profile.One shift.Right r b = b
shift_bit profile.Two shift.Right r b = lowest r
shift_bit pr shift.RightThroughB r b = lowest r
shift_bit pr shift.Left r b = b
shift_bit pr shift.LeftThroughB r b = nat_le (2 ^ 31) (unsigned r)

unfoldable pub bit_after : Profile → Numbers → ℤ → Work → Bool
bit_after pr s answer (Apply f l o) = function_bit f (source_number s l) (unwrap_or (operand_number s answer o) (pos 0)) s.b
bit_after pr s answer (Move k l) = shift_bit pr k (source_number s l) s.b

unfoldable pub perform : Profile → Instruction → ℤ → Numbers → Option Numbers
perform pr (Compare joined k l o) answer s =
    bind (operand_number s answer o)
    (λ m. let holds = signed_compares k (source_number s l) m in Some (record { regs = s.regs; mem = s.mem; b = cond joined (s.b || holds) holds; p = s.p + 1 }))
perform pr (Assign r w) answer s =
    bind (result_number pr s answer w) (λ z. Some (record { regs = set_reg s.regs r z; mem = s.mem; b = bit_after pr s answer w; p = s.p + 1 }))
perform pr (Jump side w) answer s =
    cond (is_taken side s.b)
    (bind (result_number pr s answer w) (λ z. bind (lawful z) (λ n. Some (record { regs = cond (is_call w) (set_reg s.regs Y (pos (s.p + 1))) s.regs; mem = s.mem; b = s.b; p = n }))))
    (Some (at_next s))
perform pr (Output l q) answer s = bind (lawful (place_number q s.regs)) (λ n. Some (at_next s))
perform pr (Store l q) answer s =
    bind (lawful (place_number q s.regs)) (λ n. Some (record { regs = s.regs; mem = put_at s.mem n (source_number s l); b = s.b; p = s.p + 1 }))

-- ---- what a plan says

abbrev pub AllItems : {S : Type 0} → (S → Type 0) → List S → Type 0
AllItems P [] = Unit {0}
AllItems P (s ∷ ss) = P s × AllItems P ss

abbrev pub IsRangeOf : Span → Type 0
IsRangeOf s = IsRange s.2.lo s.2.hi s.2.modulus

abbrev pub InRangeOf : NumberRange → ℤ → Type 0
InRangeOf r z = InRange r.lo r.hi r.modulus z

-- each code address has a word, and ranges are in normal form
pub record IsPlanOf (plan : PlanLines) : Type 0 where
  pub words : (n : ℕ) → in_code plan n ≡ true → IsSome (word_at plan.image n)
  pub «data» : AllItems IsRangeOf plan.«data»
  pub inputs : AllItems IsRangeOf plan.inputs

-- words are words, code words are the image's, and data words are in their ranges
pub record IsKeptBy (plan : PlanLines) (mem : ℕ → ℤ) : Type 0 where
  pub signed : (n : ℕ) → IsSigned (mem n)
  pub code : (n w : ℕ) → in_code plan n ≡ true → word_at plan.image n ≡ Some w → (mem n ≡ signed_value w) × IsWord w
  pub ranges : (n : ℕ) (r : NumberRange) → range_at plan.«data» n ≡ Some r → InRangeOf r (mem n)

-- an answer in the range of its address
abbrev pub IsFair : PlanLines → ℤ → Numbers → Operand → Type 0
IsFair plan answer s (Literal n) = Unit {0}
IsFair plan answer s (Memory p) = Unit {0}
IsFair plan answer s (Peripheral p) = (n : ℕ) (r : NumberRange) → lawful (place_number p s.regs) ≡ Some n → range_at plan.inputs n ≡ Some r → InRangeOf r answer

-- ---- cover, on numbers

module _ {T : Type 0} (d : Domain T) where
  -- the outcome leads to the new address, the state before meets `pre`, the state after `after`, and the posts are true
  pub record Covered (cells : List ℕ) (s s' : Numbers) (o : OutcomeOf T) : Type 0 where
    pub target : o.target ≡ s'.p
    pub pre : Meets d o.pre (env cells s) s.b
    pub after : Meets d o.after (env cells s') s'.b
    pub posts : PostsHold o.posts (env cells s) (env cells s')

  abbrev pub SomeCovers : List ℕ → Numbers → Numbers → List (OutcomeOf T) → Type 0
  SomeCovers cells s s' [] = ⊥
  SomeCovers cells s s' (o ∷ os) = Covered cells s s' o ⊎ SomeCovers cells s s' os
