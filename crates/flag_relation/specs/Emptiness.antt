-- Facts that no state meets, as the ends of their values tell.
use Rattle.std.specs.Prelude.{Bool, true, false, not, ◌&&◌, List, [], ◌∷◌, Option, Some, None}
use Rattle.num_domain.specs.Domain.{Domain}
use Rattle.num_domain.specs.Ends.{Ends, ends}
use Rattle.flag_relation.specs.Values.{Regs}
use Rattle.flag_relation.specs.Facts.{FactOf, values}

abbrev pub are_there : Option Ends → Bool
are_there None = false
are_there (Some r) = true

module _ {T : Type 0} (d : Domain T) where
  -- has the value a low end and a high one, in this order?
  abbrev pub has_ends : T → Bool
  has_ends v = are_there (ends d v)

  abbrev pub regs_have_ends : Regs T → Bool
  regs_have_ends v = has_ends v.a && has_ends v.x && has_ends v.y

  unfoldable pub cells_have_ends : List T → Bool
  cells_have_ends [] = true
  cells_have_ends (v ∷ vs) = has_ends v && cells_have_ends vs

  abbrev pub all_have_ends : FactOf T → Bool
  all_have_ends f = regs_have_ends (values f).regs && cells_have_ends f.cells

  -- some value has no ends
  unfoldable pub is_empty : FactOf T → Bool
  is_empty f = not (all_have_ends f)
