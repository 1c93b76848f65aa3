-- What a fact is, and which states meet it.
use Rattle.std.specs.Prelude.{◌≡◌, ℕ, ◌%◌, ◌^◌, ℤ, pos, ◌+ℤ◌, Bool, true, List, replicate}
use Rattle.std.specs.Prelude.{Option, Some, None, IsSomeAnd}
use Rattle.std.specs.List.{list_any}
use Rattle.std.proofs.Common.{get_or}
use Rattle.viper_word.specs.Words.{signed_value}
use Rattle.viper_word.specs.Signed.{signed_compares}
use Rattle.viper_word.specs.declared.word.Word.{Word}
use Rattle.num_domain.specs.Domain.{Domain, Has}
use Rattle.viper_word.specs.declared.reg.Reg.{Reg}
use Rattle.viper_word.specs.declared.reg.Reg.TheVariants.{A, X, Y}
use Rattle.flag_relation.specs.declared.link.Link.{Link}
use Rattle.flag_relation.specs.declared.atom.Atom.{Atom}
use Rattle.flag_relation.specs.declared.atom.Right.{Right}
use Rattle.flag_relation.specs.declared.atom.Right.TheVariants.{Cell, Const}
use Rattle.flag_relation.specs.declared.flag.Flag.{Flag}
use Rattle.flag_relation.specs.declared.flag.Flag.TheVariants.{Any, One, Or}
use Rattle.flag_relation.specs.Values.{Values, Regs, Related, set_reg, reg, cell}

-- a fact, with a value of type T for each register and each cell
pub record FactOf (T : Type 0) : Type 0 where
  pub a : T
  pub x : T
  pub y : T
  pub cells : List T
  pub links : Regs (Option Link)
  pub flag : Flag

-- the links of A, X and Y, as code keeps them
abbrev pub links_of : List (Option Link) → Regs (Option Link)
links_of l = record { a = get_or l 0 None; x = get_or l 1 None; y = get_or l 2 None }

abbrev pub values : {T : Type 0} → FactOf T → Values T
values f = record { regs = record { a = f.a; x = f.x; y = f.y }; cells = f.cells }

-- the fact with other values, with another link, with another flag
abbrev pub with_values : {T : Type 0} → FactOf T → Values T → FactOf T
with_values f v = record f { a = v.regs.a; x = v.regs.x; y = v.regs.y; cells = v.cells }

abbrev pub with_link : {T : Type 0} → FactOf T → Reg → Option Link → FactOf T
with_link f r l = record f { links = set_reg f.links r l }

abbrev pub with_flag : {T : Type 0} → FactOf T → Flag → FactOf T
with_flag f g = record f { flag = g }

-- ---- what a fact says of the whole numbers e in registers and cells, and of the bit b

-- the signed value of a constant; the remainder is the word itself
abbrev pub constant_number : Word → ℤ
constant_number w = signed_value (w.0 % 2 ^ 32)

-- the number on the right of an atom
abbrev pub right_number : Values ℤ → Right → ℤ
right_number e (Cell i) = cell (pos 0) e i
right_number e (Const w) = constant_number w

-- is the comparison true of the numbers?
unfoldable pub atom_holds : Values ℤ → Atom → Bool
atom_holds e a = signed_compares a.kind (reg e a.left) (right_number e a.right)

-- the register is the cell plus the offset
abbrev pub LinkHolds : Values ℤ → Reg → Option Link → Type 0
LinkHolds e r None = Unit {0}
LinkHolds e r (Some l) = reg e r ≡ (cell (pos 0) e l.cell +ℤ l.offset)

pub record LinksHold (links : Regs (Option Link)) (e : Values ℤ) : Type 0 where
  pub a : LinkHolds e A links.a
  pub x : LinkHolds e X links.x
  pub y : LinkHolds e Y links.y

-- what the flag says of B
abbrev pub FlagSays : Flag → Values ℤ → Bool → Type 0
FlagSays Any e b = Unit {0}
FlagSays One e b = b ≡ true
FlagSays (Or atoms) e b = b ≡ list_any (λ a. atom_holds e a) atoms

module _ {T : Type 0} (d : Domain T) where
  -- the fact that says nothing
  abbrev pub unknown : ℕ → FactOf T
  unknown n = record {
    a = d.top;
    x = d.top;
    y = d.top;
    cells = replicate n d.top;
    links = record { a = None; x = None; y = None };
    flag = Any;
  }

  -- the numbers are members of the values
  abbrev pub MeetsValues : Values T → Values ℤ → Type 0
  MeetsValues v e = Related (Has d) v e

  -- the numbers and the bit meet the fact
  pub record Meets (f : FactOf T) (e : Values ℤ) (b : Bool) : Type 0 where
    pub values : MeetsValues (values f) e
    pub links : LinksHold f.links e
    pub flag : FlagSays f.flag e b

  -- nothing meets the fact
  abbrev pub IsUnmet : FactOf T → Type 0
  IsUnmet f = (e : Values ℤ) (b : Bool) → Meets f e b → ⊥

  -- whatever meets the second fact meets the first
  abbrev pub Covers : FactOf T → FactOf T → Type 0
  Covers f g = (e : Values ℤ) (b : Bool) → Meets g e b → Meets f e b

  -- whatever meets the fact with that bit meets what is left of it
  abbrev pub KeepsMet : FactOf T → Bool → Option (FactOf T) → Type 0
  KeepsMet f b o = (e : Values ℤ) → Meets f e b → IsSomeAnd o (λ g. Meets g e b)
