-- The order of facts, as a relation and as a test.
use Rattle.std.specs.Prelude.{◌≡◌, Bool, true, false, ◌&&◌, List, [], ◌∷◌, Option, Some, None}
use Rattle.num_domain.specs.Domain.{Domain, Below}
use Rattle.flag_relation.specs.declared.link.Link.{Link}
use Rattle.flag_relation.specs.declared.flag.Flag.{Flag}
use Rattle.flag_relation.specs.declared.flag.Flag.TheVariants.{Any, One, Or}
use Rattle.flag_relation.specs.Values.{Values, Regs, RelatedRegs, Related}
use Rattle.flag_relation.specs.Facts.{FactOf, values}
use Rattle.flag_relation.specs.Equality.{link_eq, atoms_eq}

-- ---- the relation: the second is the larger

-- the larger has no link, or the same
abbrev pub LinkBelow : Option Link → Option Link → Type 0
LinkBelow l None = Unit {0}
LinkBelow l (Some k) = l ≡ Some k

abbrev pub LinksBelow : Regs (Option Link) → Regs (Option Link) → Type 0
LinksBelow l l' = RelatedRegs LinkBelow l l'

-- the larger says nothing of B, or the same
abbrev pub FlagBelow : Flag → Flag → Type 0
FlagBelow f Any = Unit {0}
FlagBelow f One = f ≡ One
FlagBelow f (Or atoms) = f ≡ Or atoms

-- ---- the test: does the first include the second?

abbrev pub link_includes : Option Link → Option Link → Bool
link_includes None l = true
link_includes (Some k) None = false
link_includes (Some k) (Some l) = link_eq k l

abbrev pub links_include : Regs (Option Link) → Regs (Option Link) → Bool
links_include k l = link_includes k.a l.a && link_includes k.x l.x && link_includes k.y l.y

abbrev pub flag_includes : Flag → Flag → Bool
flag_includes Any f = true
flag_includes One Any = false
flag_includes One One = true
flag_includes One (Or l) = false
flag_includes (Or k) Any = false
flag_includes (Or k) One = false
flag_includes (Or k) (Or l) = atoms_eq k l

module _ {T : Type 0} (d : Domain T) where
  -- each value of the second includes that of the first
  abbrev pub BelowValues : Values T → Values T → Type 0
  BelowValues v w = Related (Below d) v w

  -- the second fact includes the first
  pub record BelowFact (f g : FactOf T) : Type 0 where
    pub values : BelowValues (values f) (values g)
    pub links : LinksBelow f.links g.links
    pub flag : FlagBelow f.flag g.flag

  unfoldable pub cells_include : List T → List T → Bool
  cells_include [] [] = true
  cells_include [] (w ∷ ws) = false
  cells_include (v ∷ vs) [] = false
  cells_include (v ∷ vs) (w ∷ ws) = d.includes v w && cells_include vs ws

  abbrev pub regs_include : Regs T → Regs T → Bool
  regs_include v w = d.includes v.a w.a && d.includes v.x w.x && d.includes v.y w.y

  unfoldable pub includes : FactOf T → FactOf T → Bool
  includes f g = regs_include (values f).regs (values g).regs && cells_include f.cells g.cells
      && links_include f.links g.links && flag_includes f.flag g.flag
