-- The height of a fact: a natural number that falls where the fact grows strictly.
use Rattle.std.specs.Prelude.{ℕ, ◌+◌, List, [], ◌∷◌, Option, Some, None}
use Rattle.num_domain.specs.Domain.{Domain}
use Rattle.flag_relation.specs.declared.link.Link.{Link}
use Rattle.flag_relation.specs.declared.flag.Flag.{Flag}
use Rattle.flag_relation.specs.declared.flag.Flag.TheVariants.{Any, One, Or}
use Rattle.flag_relation.specs.Values.{Regs}
use Rattle.flag_relation.specs.Facts.{FactOf}

abbrev pub link_height : Option Link → ℕ
link_height None = 0
link_height (Some l) = 1

abbrev pub links_height : Regs (Option Link) → ℕ
links_height l = link_height l.a + link_height l.x + link_height l.y

abbrev pub flag_height : Flag → ℕ
flag_height Any = 0
flag_height One = 1
flag_height (Or l) = 1

module _ {T : Type 0} (d : Domain T) where
  unfoldable pub cells_height : List T → ℕ
  cells_height [] = 0
  cells_height (v ∷ vs) = d.height v + cells_height vs

  -- the heights of all values, and one for each link and for what is said of B
  unfoldable pub height : FactOf T → ℕ
  height f = d.height f.a + d.height f.x + d.height f.y + cells_height f.cells
      + links_height f.links + flag_height f.flag
