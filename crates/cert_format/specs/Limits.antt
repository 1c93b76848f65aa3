-- The limits of certificates.
use Rattle.std.specs.Prelude.{◌≡◌, ℕ, ◌+◌, ◌<◌, ◌≤◌, ◌^◌, neg_ℤ, ◌≤ℤ◌, ℤ, pos, List, [], ◌∷◌, length, IfSome}
use Rattle.std.specs.List.{AllByRecursion}
use Rattle.flag_relation.specs.declared.atom.Atom.{Atom}
use Rattle.flag_relation.specs.declared.atom.Right.{Right}
use Rattle.flag_relation.specs.declared.atom.Right.TheVariants.{Cell, Const}
use Rattle.flag_relation.specs.declared.atoms.TheConstants.{MOST_ATOMS}
use Rattle.flag_relation.specs.declared.fact.TheConstants.{MOST_CELLS}
use Rattle.flag_relation.specs.declared.flag.Flag.{Flag}
use Rattle.flag_relation.specs.declared.flag.Flag.TheVariants.{Any, One, Or}
use Rattle.flag_relation.specs.declared.form.TheConstants.{MOST_TERMS}
use Rattle.flag_relation.specs.declared.var.Var.{Var}
use Rattle.flag_relation.specs.Facts.{FactOf}
use Rattle.flag_relation.specs.Forms.{FormOf, var_number}
use Rattle.flag_relation.specs.Limits.{IsFactOf}
use Rattle.cert_format.specs.declared.limits.TheConstants.{MOST_NODES, MOST_STARTS, MOST_SUCCESSORS, MOST_RANK, MOST_FACTOR}
use Rattle.cert_format.specs.Certificates.{NodeOf, CertificateOf}

-- a number of one of so many nodes
abbrev pub IsBelow : ℕ → ℕ → Type 0
IsBelow count i = i < count

-- at most so great in size
pub record IsWithin (most n : ℤ) : Type 0 where
  pub low : neg_ℤ most ≤ℤ n
  pub high : n ≤ℤ most

-- addresses that ascend from the number on
abbrev pub AreCells : ℕ → List ℕ → Type 0
AreCells from [] = Unit {0}
AreCells from (c ∷ cells) = (from ≤ c) × (c < 2 ^ 20) × AreCells (c + 1) cells

-- ---- facts

abbrev pub IsRightWord : Right → Type 0
IsRightWord (Cell i) = Unit {0}
IsRightWord (Const w) = w.0 < 2 ^ 32

abbrev pub HasWord : Atom → Type 0
HasWord a = IsRightWord a.right

-- at most four comparisons, with words
abbrev pub IsFlag : Flag → Type 0
IsFlag Any = Unit {0}
IsFlag One = Unit {0}
IsFlag (Or atoms) = (length atoms ≤ MOST_ATOMS) × AllByRecursion HasWord atoms

-- a fact over so many cells, as the type of facts keeps it
pub record IsFact {T : Type 0} (count : ℕ) (f : FactOf T) : Type 0 where
  pub cells : length f.cells ≡ count
  pub limits : IsFactOf count f.links f.flag
  pub flag : IsFlag f.flag

-- ---- ranks

-- the variables ascend from the number on, those of so many cells; a coefficient isn't 0, and at
-- most 2^40 in size
abbrev pub AreTerms : ℕ → ℕ → List (Var × ℤ) → Type 0
AreTerms count from [] = Unit {0}
AreTerms count from (t ∷ terms) = (from ≤ var_number t.0) × (var_number t.0 < 3 + count)
    × (t.1 ≡ pos 0 → ⊥) × IsWithin MOST_FACTOR t.1 × AreTerms count (var_number t.0 + 1) terms

-- at most eight terms, and a constant of at most 2^62 in size
pub record IsRank (count : ℕ) (f : FormOf) : Type 0 where
  pub constant : IsWithin MOST_RANK f.constant
  pub few : length f.terms ≤ MOST_TERMS
  pub terms : AreTerms count 0 f.terms

-- ---- certificates

-- a node of a certificate of so many cells and so many nodes
pub record IsNode {T : Type 0} (cells count : ℕ) (n : NodeOf T) : Type 0 where
  pub addr : n.addr < 2 ^ 20
  pub fact : IfSome n.fact (IsFact cells)
  pub few : length n.succ ≤ MOST_SUCCESSORS
  pub succ : AllByRecursion (IsBelow count) n.succ
  pub rank : IsRank cells n.rank

pub record IsWithinLimits {T : Type 0} (c : CertificateOf T) : Type 0 where
  pub few_cells : length c.cells ≤ MOST_CELLS
  pub cells : AreCells 0 c.cells
  pub few_starts : length c.starts ≤ MOST_STARTS
  pub starts : AllByRecursion (IsBelow (length c.nodes)) c.starts
  pub few_nodes : length c.nodes ≤ MOST_NODES
  pub nodes : AllByRecursion (IsNode (length c.cells) (length c.nodes)) c.nodes

-- what the type of certificates keeps of them
pub record IsKeptNode {T : Type 0} (cells : ℕ) (n : NodeOf T) : Type 0 where
  pub addr : n.addr < 2 ^ 20
  pub fact : IfSome n.fact (IsFact cells)

pub record IsKeptCert {T : Type 0} (c : CertificateOf T) : Type 0 where
  pub few_nodes : length c.nodes ≤ MOST_NODES
  pub nodes : AllByRecursion (IsKeptNode (length c.cells)) c.nodes

-- a term whose variable fits into a byte, and whose coefficient is at most 2^40 in size
pub record IsShortTerm (t : Var × ℤ) : Type 0 where
  pub number : var_number t.0 < 256
  pub size : IsWithin MOST_FACTOR t.1

-- a node whose lists and numbers fit into their fields
pub record IsShortNode {T : Type 0} (n : NodeOf T) : Type 0 where
  pub few : length n.succ ≤ MOST_SUCCESSORS
  pub constant : IsWithin MOST_RANK n.rank.constant
  pub terms : AllByRecursion IsShortTerm n.rank.terms
