-- What a legal word does, by its six numbers. Every word has an answer here; that of an illegal one
-- means nothing.
use Rattle.std.specs.Prelude.{◌≡◌, ℕ, Bool, true, ◌==◌, ◌%◌, nat_le, if◌then◌else◌}
use Rattle.viper_word.specs.declared.kind.Kind.{Kind}
use Rattle.viper_word.specs.Fields.{Fields, is_jump, is_to_register, is_output, is_store, is_input}
use Rattle.viper_word.specs.Machine.{kind_of}
use Rattle.viper_word.specs.declared.reg.Reg.{Reg}
use Rattle.viper_word.specs.declared.reg.Reg.TheVariants.{A, X, Y}
use Rattle.viper_decode.specs.declared.codes.register.TheConstants as register
use Rattle.viper_decode.specs.declared.codes.mode.TheConstants as mode
use Rattle.viper_decode.specs.declared.codes.destination.TheConstants as destination
use Rattle.viper_decode.specs.declared.codes.function.TheConstants as function
use Rattle.viper_decode.specs.declared.codes.shift_kind.TheConstants as shift_kind
use Rattle.viper_decode.specs.declared.reading.TheConstants.{KINDS}
use Rattle.viper_decode.specs.declared.instructions.Source.{Source}
use Rattle.viper_decode.specs.declared.instructions.Source.TheVariants.{Of, AfterP}
use Rattle.viper_decode.specs.declared.instructions.Place.{Place}
use Rattle.viper_decode.specs.declared.instructions.Place.TheVariants.{At, Index}
use Rattle.viper_decode.specs.declared.instructions.Operand.{Operand}
use Rattle.viper_decode.specs.declared.instructions.Operand.TheVariants.{Literal, Memory, Peripheral}
use Rattle.viper_decode.specs.declared.instructions.Function.{Function}
use Rattle.viper_decode.specs.declared.instructions.Function.TheVariants.{Neg, Call, Inp, Read, Addb, Adds, Subb, Subs, Xor, And, Nor, Andn}
use Rattle.viper_decode.specs.declared.instructions.Shift.{Shift}
use Rattle.viper_decode.specs.declared.instructions.Shift.TheVariants.{Right, RightThroughB, Left, LeftThroughB}
use Rattle.viper_decode.specs.declared.instructions.Work.{Work}
use Rattle.viper_decode.specs.declared.instructions.Work.TheVariants.{Apply, Move}
use Rattle.viper_decode.specs.declared.instructions.Side.TheVariants.{Always, IfB, IfNotB}
use Rattle.viper_decode.specs.declared.instructions.Instruction.{Instruction}
use Rattle.viper_decode.specs.declared.instructions.Instruction.TheVariants.{Compare, Assign, Jump, Output, Store}

-- R
unfoldable pub source_of : ℕ → Source
source_of r =
    if r == register.A then Of A else if r == register.X then Of X
    else if r == register.Y then Of Y else AfterP

-- M, where it isn't literal
unfoldable pub place_of : Fields → Place
place_of i =
    if i.m == mode.AT_FIELD_PLUS_X then Index i.field X
    else if i.m == mode.AT_FIELD_PLUS_Y then Index i.field Y else At i.field

unfoldable pub operand_of : Fields → Operand
operand_of i =
    if i.m == mode.LITERAL then Literal i.field
    else if is_input i then Peripheral (place_of i) else Memory (place_of i)

-- F below SHIFT
unfoldable pub function_of : ℕ → Function
function_of f =
    if f == function.NEG then Neg else if f == function.CALL then Call
    else if f == function.INP then Inp else if f == function.READ then Read
    else if f == function.ADDB then Addb else if f == function.ADDS then Adds
    else if f == function.SUBB then Subb else if f == function.SUBS then Subs
    else if f == function.XOR then Xor else if f == function.AND then And
    else if f == function.NOR then Nor else Andn

-- M in a SHIFT
unfoldable pub shift_of : ℕ → Shift
shift_of m =
    if m == shift_kind.RIGHT then Right else if m == shift_kind.RIGHT_THROUGH_B then RightThroughB
    else if m == shift_kind.LEFT then Left else LeftThroughB

unfoldable pub work_of : Fields → Work
work_of i =
    if i.f == function.SHIFT then Move (shift_of i.m) (source_of i.r)
    else Apply (function_of i.f) (source_of i.r) (operand_of i)

-- D, where it is a register or P
unfoldable pub result_to : Fields → Instruction
result_to i =
    if i.d == destination.A then Assign A (work_of i)
    else if i.d == destination.X then Assign X (work_of i)
    else if i.d == destination.Y then Assign Y (work_of i)
    else if i.d == destination.P then Jump Always (work_of i)
    else if i.d == destination.P_IF_B then Jump IfB (work_of i) else Jump IfNotB (work_of i)

unfoldable pub instruction_of : Fields → Instruction
instruction_of i =
    if i.c then Compare (nat_le KINDS i.f) (kind_of (i.f % KINDS)) (source_of i.r) (operand_of i)
    else if i.d == destination.PERIPHERAL then Output (source_of i.r) (place_of i)
    else if i.d == destination.MEMORY then Store (source_of i.r) (place_of i)
    else result_to i

-- ---- the other way round: the numbers that an instruction has

-- F of a function
abbrev pub code_of : Function → ℕ
code_of Neg = function.NEG
code_of Call = function.CALL
code_of Inp = function.INP
code_of Read = function.READ
code_of Addb = function.ADDB
code_of Adds = function.ADDS
code_of Subb = function.SUBB
code_of Subs = function.SUBS
code_of Xor = function.XOR
code_of And = function.AND
code_of Nor = function.NOR
code_of Andn = function.ANDN

-- M of a shift
abbrev pub shift_code : Shift → ℕ
shift_code Right = shift_kind.RIGHT
shift_code RightThroughB = shift_kind.RIGHT_THROUGH_B
shift_code Left = shift_kind.LEFT
shift_code LeftThroughB = shift_kind.LEFT_THROUGH_B

-- D of a register
abbrev pub register_code : Reg → ℕ
register_code A = destination.A
register_code X = destination.X
register_code Y = destination.Y

-- the work is that of the function in F, or of SHIFT and the kind in M
abbrev pub HasWork : Fields → Work → Type 0
HasWork i (Apply f s o) = i.f ≡ code_of f
HasWork i (Move k s) = (i.f ≡ function.SHIFT) × (i.m ≡ shift_code k)

-- a comparison, its kind, and whether it joins the old B
pub record HasComparison (i : Fields) (also : Bool) (kind : Kind) : Type 0 where
  pub comparison : i.c ≡ true
  pub joins : nat_le KINDS i.f ≡ also
  pub kind_is : kind_of (i.f % KINDS) ≡ kind

-- a function whose result goes to the register
pub record HasResult (i : Fields) (to : Reg) (work : Work) : Type 0 where
  pub function : is_to_register i ≡ true
  pub to_is : i.d ≡ register_code to
  pub work_has : HasWork i work

-- a function whose result goes to P
pub record HasTarget (i : Fields) (work : Work) : Type 0 where
  pub function : is_jump i ≡ true
  pub work_has : HasWork i work

-- the numbers of the instruction's kind
abbrev pub HasNumbers : Fields → Instruction → Type 0
HasNumbers i (Compare also kind s o) = HasComparison i also kind
HasNumbers i (Assign to work) = HasResult i to work
HasNumbers i (Jump side work) = HasTarget i work
HasNumbers i (Output s p) = is_output i ≡ true
HasNumbers i (Store s p) = is_store i ≡ true
