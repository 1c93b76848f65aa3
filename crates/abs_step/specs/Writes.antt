-- A fact after a write to a register or to cells.
use Rattle.std.specs.Prelude.{ℕ, Bool, false, cond, nat_eq, List, [], ◌∷◌, Option, Some, None}
use Rattle.std.specs.List.{list_any}
use Rattle.std.proofs.Common.{zero, suc}
use Rattle.viper_word.specs.declared.reg.Reg.{Reg}
use Rattle.flag_relation.specs.declared.link.Link.{Link}
use Rattle.flag_relation.specs.declared.atom.Atom.{Atom}
use Rattle.flag_relation.specs.declared.atom.Right.{Right}
use Rattle.flag_relation.specs.declared.atom.Right.TheVariants.{Cell, Const}
use Rattle.flag_relation.specs.declared.flag.Flag.{Flag}
use Rattle.flag_relation.specs.declared.flag.Flag.TheVariants.{Any, One, Or}
use Rattle.flag_relation.specs.Values.{Values, Regs, set_reg, with_reg}
use Rattle.flag_relation.specs.Equality.{reg_number}
use Rattle.flag_relation.specs.Facts.{FactOf, values}

abbrev pub fact_of : {T : Type 0} → Values T → Regs (Option Link) → Flag → FactOf T
fact_of v links flag = record {
  a = v.regs.a;
  x = v.regs.x;
  y = v.regs.y;
  cells = v.cells;
  links = links;
  flag = flag;
}

abbrev pub is_on_reg : Reg → Atom → Bool
is_on_reg r a = nat_eq (reg_number r) (reg_number a.left)

-- is it one of these cells?
abbrev pub is_among : (ℕ → Bool) → Right → Bool
is_among hit (Cell j) = hit j
is_among hit (Const w) = false

-- a flag with an atom that the test finds becomes Any
abbrev pub drop_flag : (Atom → Bool) → Flag → Flag
drop_flag p Any = Any
drop_flag p One = One
drop_flag p (Or atoms) = cond (list_any p atoms) Any (Or atoms)

-- a link to one of these cells is dropped
abbrev pub drop_link : (ℕ → Bool) → Option Link → Option Link
drop_link hit None = None
drop_link hit (Some l) = cond (hit l.cell) None (Some l)

abbrev pub drop_links : (ℕ → Bool) → Regs (Option Link) → Regs (Option Link)
drop_links hit l = record { a = drop_link hit l.a; x = drop_link hit l.x; y = drop_link hit l.y }

-- does the cell of that number pass?
abbrev pub hits : (ℕ → Bool) → List ℕ → ℕ → Bool
hits p [] i = false
hits p (c ∷ cs) zero = p c
hits p (c ∷ cs) (suc i) = hits p cs i

module _ {T : Type 0} where
  unfoldable pub put_reg : FactOf T → Reg → T → Option Link → FactOf T
  put_reg f r v l =
      fact_of (with_reg (values f) r v) (set_reg f.links r l) (drop_flag (is_on_reg r) f.flag)

  -- other cells, of which these were written
  unfoldable pub put_cells : FactOf T → List T → (ℕ → Bool) → FactOf T
  put_cells f vs hit = record f {
    cells = vs;
    links = drop_links hit f.links;
    flag = drop_flag (λ a. is_among hit a.right) f.flag;
  }
