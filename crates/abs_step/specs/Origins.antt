-- What an instruction says of B, of a link, and of where a value comes from.
use Rattle.flag_relation.specs.declared.atoms.TheConstants.{MOST_ATOMS}
use Rattle.flag_relation.specs.declared.link.TheConstants.{MOST_OFFSET}
use Rattle.std.specs.Prelude.{ℕ, ℤ, pos, neg_ℤ, ◌+ℤ◌, int_le, Bool, true, false, ◌&&◌, cond, nat_lt, List, [], ◌∷◌, ◌++◌, length, Option, Some, None}
use Rattle.viper_word.specs.declared.kind.Kind.{Kind}
use Rattle.memory_plan.specs.Plans.{PlanLines, code_word}
use Rattle.viper_word.specs.declared.reg.Reg.{Reg}
use Rattle.flag_relation.specs.declared.var.Var.TheVariants as var
use Rattle.flag_relation.specs.declared.link.Link.{Link}
use Rattle.flag_relation.specs.declared.atom.Atom.{Atom}
use Rattle.flag_relation.specs.declared.atom.Right.{Right}
use Rattle.flag_relation.specs.declared.atom.Right.TheVariants as right
use Rattle.flag_relation.specs.declared.flag.Flag.{Flag}
use Rattle.flag_relation.specs.declared.flag.Flag.TheVariants.{Any, One, Or}
use Rattle.flag_relation.specs.Values.{Regs, at_reg}
use Rattle.abs_step.specs.Addresses.{find_cell}
use Rattle.viper_word.specs.declared.profile.Profile.{Profile}
use Rattle.viper_word.specs.declared.profile.Profile.TheVariants as profile
use Rattle.abs_step.specs.declared.outcome.Post.{Post}
use Rattle.abs_step.specs.declared.outcome.Post.TheVariants.{Same, Plus, Within}
use Rattle.viper_decode.specs.declared.instructions.Source.{Source}
use Rattle.viper_decode.specs.declared.instructions.Source.TheVariants.{Of, AfterP}
use Rattle.viper_decode.specs.declared.instructions.Place.TheVariants.{At, Index}
use Rattle.viper_decode.specs.declared.instructions.Operand.{Operand}
use Rattle.viper_decode.specs.declared.instructions.Operand.TheVariants.{Literal, Memory, Peripheral}
use Rattle.viper_decode.specs.declared.instructions.Function.TheVariants.{Neg, Call, Inp, Read, Addb, Adds, Subb, Subs, Xor, And, Nor, Andn}
use Rattle.viper_decode.specs.declared.instructions.Shift.TheVariants as shift
use Rattle.viper_decode.specs.declared.instructions.Work.{Work}
use Rattle.viper_decode.specs.declared.instructions.Work.TheVariants.{Apply, Move}

abbrev pub cell_right : Option ℕ → Option Right
cell_right None = None
cell_right (Some i) = Some (right.Cell i)

abbrev pub word_right : Option ℕ → Option Right
word_right None = None
word_right (Some w) = Some (right.Const (record { 0 = w }))

abbrev pub first_of : {A : Type 0} → Option A → Option A → Option A
first_of None o = o
first_of (Some a) o = Some a

-- the right side of an atom: a literal, or with M 1 a tracked cell or a word of code
abbrev pub right_of : PlanLines → List ℕ → Operand → Option Right
right_of plan cells (Literal n) = Some (right.Const (record { 0 = n }))
right_of plan cells (Memory (At a)) =
    first_of (cell_right (find_cell cells a)) (word_right (code_word plan a))
right_of plan cells (Memory (Index a r)) = None
right_of plan cells (Peripheral p) = None

abbrev pub atom_with : Kind → Reg → Option Right → Option Atom
atom_with k l None = None
atom_with k l (Some w) = Some (record { kind = k; left = l; right = w })

-- the atom of a comparison, where it can be written
abbrev pub atom_of : PlanLines → List ℕ → Kind → Source → Operand → Option Atom
atom_of plan cells k (Of l) o = atom_with k l (right_of plan cells o)
atom_of plan cells k AfterP o = None

-- the flag after a comparison; `joined` where the old B is joined by OR
unfoldable pub compared_flag : Bool → Option Atom → Flag → Flag
compared_flag false None old = Any
compared_flag false (Some a) old = Or (a ∷ [])
compared_flag true a One = One
compared_flag true None (Or atoms) = Any
compared_flag true (Some a) (Or atoms) =
    cond (nat_lt (length atoms) MOST_ATOMS) (Or (atoms ++ (a ∷ []))) Any
compared_flag true a Any = Any

-- does the work change B?
unfoldable pub sets_bit : Profile → Work → Bool
sets_bit pr (Apply Addb s o) = true
sets_bit pr (Apply Subb s o) = true
sets_bit pr (Apply Neg s o) = false
sets_bit pr (Apply Call s o) = false
sets_bit pr (Apply Inp s o) = false
sets_bit pr (Apply Read s o) = false
sets_bit pr (Apply Adds s o) = false
sets_bit pr (Apply Subs s o) = false
sets_bit pr (Apply Xor s o) = false
sets_bit pr (Apply And s o) = false
sets_bit pr (Apply Nor s o) = false
sets_bit pr (Apply Andn s o) = false
sets_bit pr (Move shift.RightThroughB s) = true
sets_bit pr (Move shift.LeftThroughB s) = true
sets_bit pr (Move shift.Left s) = false
sets_bit profile.One (Move shift.Right s) = false
sets_bit profile.Two (Move shift.Right s) = true

-- the link, where its offset is at most 2^32 less 1 in size
unfoldable pub link_if_small : ℕ → ℤ → Option Link
link_if_small c z =
    cond (int_le (neg_ℤ MOST_OFFSET) z && int_le z MOST_OFFSET)
    (Some (record { cell = c; offset = z })) None

abbrev pub moved_link : ℤ → Option Link → Option Link
moved_link n None = None
moved_link n (Some l) = link_if_small l.cell (l.offset +ℤ n)

abbrev pub cell_link : Option ℕ → Option Link
cell_link None = None
cell_link (Some i) = Some (record { cell = i; offset = pos 0 })

abbrev pub cell_post : Option ℕ → Post
cell_post None = Within
cell_post (Some i) = Plus (var.Cell i) (pos 0)

-- where a result comes from: a cell, or a register plus a number
unfoldable pub origin : List ℕ → Work → Post
origin cells (Apply Read s (Memory (At a))) = cell_post (find_cell cells a)
origin cells (Apply Adds (Of l) (Literal n)) = Plus (var.Reg l) (pos n)
origin cells (Apply Subs (Of l) (Literal n)) = Plus (var.Reg l) (neg_ℤ (pos n))
origin cells w = Within

-- the link of a result
unfoldable pub link_of : Regs (Option Link) → Post → Option Link
link_of links Same = None
link_of links (Plus (var.Cell i) n) = link_if_small i n
link_of links (Plus (var.Reg l) n) = moved_link n (at_reg links l)
link_of links Within = None
