-- What the type of facts keeps: cells that are there, and offsets within their limit.
use Rattle.std.specs.Prelude.{ℕ, ◌<◌, ◌≤◌, neg_ℤ, ◌≤ℤ◌, List, [], ◌∷◌, Option, IfSome}
use Rattle.flag_relation.specs.declared.fact.TheConstants.{MOST_CELLS}
use Rattle.flag_relation.specs.declared.link.TheConstants.{MOST_OFFSET}
use Rattle.flag_relation.specs.declared.link.Link.{Link}
use Rattle.flag_relation.specs.declared.atom.Atom.{Atom}
use Rattle.flag_relation.specs.declared.atom.Right.{Right}
use Rattle.flag_relation.specs.declared.atom.Right.TheVariants.{Cell, Const}
use Rattle.flag_relation.specs.declared.flag.Flag.{Flag}
use Rattle.flag_relation.specs.declared.flag.Flag.TheVariants.{Any, One, Or}
use Rattle.flag_relation.specs.Values.{Regs}

-- the link names one of the cells, and its offset is at most MOST_OFFSET in size
pub record IsLinkOf (count : ℕ) (l : Link) : Type 0 where
  pub cell : l.cell < count
  pub low : neg_ℤ MOST_OFFSET ≤ℤ l.offset
  pub high : l.offset ≤ℤ MOST_OFFSET

pub record AreLinksOf (count : ℕ) (links : Regs (Option Link)) : Type 0 where
  pub a : IfSome links.a (IsLinkOf count)
  pub x : IfSome links.x (IsLinkOf count)
  pub y : IfSome links.y (IsLinkOf count)

-- a cell on the right is one of the cells
abbrev pub IsRightOf : ℕ → Right → Type 0
IsRightOf count (Cell i) = i < count
IsRightOf count (Const w) = Unit {0}

abbrev pub AreAtomsOf : ℕ → List Atom → Type 0
AreAtomsOf count [] = Unit {0}
AreAtomsOf count (a ∷ atoms) = IsRightOf count a.right × AreAtomsOf count atoms

abbrev pub IsFlagOf : ℕ → Flag → Type 0
IsFlagOf count Any = Unit {0}
IsFlagOf count One = Unit {0}
IsFlagOf count (Or atoms) = AreAtomsOf count atoms

-- a fact over so many cells
pub record IsFactOf (count : ℕ) (links : Regs (Option Link)) (flag : Flag) : Type 0 where
  pub few : count ≤ MOST_CELLS
  pub linked : AreLinksOf count links
  pub flagged : IsFlagOf count flag
