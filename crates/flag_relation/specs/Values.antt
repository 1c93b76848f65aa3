-- One thing for each register and each tracked cell, and relations between two of them.
use Rattle.std.specs.Prelude.{ℕ, List, [], ◌∷◌}
use Rattle.std.proofs.Common.{set, get_or}
use Rattle.viper_word.specs.declared.reg.Reg.{Reg}
use Rattle.viper_word.specs.declared.reg.Reg.TheVariants.{A, X, Y}

-- one thing for each register
pub record Regs (T : Type 0) : Type 0 where
  pub a : T
  pub x : T
  pub y : T

abbrev pub at_reg : {T : Type 0} → Regs T → Reg → T
at_reg r A = r.a
at_reg r X = r.x
at_reg r Y = r.y

abbrev pub set_reg : {T : Type 0} → Regs T → Reg → T → Regs T
set_reg r A t = record r { a = t }
set_reg r X t = record r { x = t }
set_reg r Y t = record r { y = t }

-- registers and cells: the values of a fact, or the whole numbers of a state
pub record Values (T : Type 0) : Type 0 where
  pub regs : Regs T
  pub cells : List T

abbrev pub reg : {T : Type 0} → Values T → Reg → T
reg v r = at_reg v.regs r

-- the cell of that number, or z where there is none
abbrev pub cell : {T : Type 0} → T → Values T → ℕ → T
cell z v i = get_or v.cells i z

abbrev pub with_reg : {T : Type 0} → Values T → Reg → T → Values T
with_reg v r t = record { regs = set_reg v.regs r t; cells = v.cells }

abbrev pub with_cell : {T : Type 0} → Values T → ℕ → T → Values T
with_cell v i t = record { regs = v.regs; cells = set v.cells i t }

-- lists of one length whose items are related
abbrev pub Pairwise : {T U : Type 0} → (T → U → Type 0) → List T → List U → Type 0
Pairwise R [] [] = Unit {0}
Pairwise R [] (u ∷ us) = ⊥
Pairwise R (t ∷ ts) [] = ⊥
Pairwise R (t ∷ ts) (u ∷ us) = R t u × Pairwise R ts us

module _ {T U : Type 0} (R : T → U → Type 0) where
  pub record RelatedRegs (v : Regs T) (w : Regs U) : Type 0 where
    pub a : R v.a w.a
    pub x : R v.x w.x
    pub y : R v.y w.y

  -- register by register and cell by cell
  pub record Related (v : Values T) (w : Values U) : Type 0 where
    pub regs : RelatedRegs v.regs w.regs
    pub cells : Pairwise R v.cells w.cells
