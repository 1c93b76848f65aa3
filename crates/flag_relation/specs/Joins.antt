-- Joins of values, links, flags and facts.
use Rattle.std.specs.Prelude.{if◌then◌else◌, List, [], ◌∷◌, Option, Some, None}
use Rattle.num_domain.specs.Domain.{Domain}
use Rattle.flag_relation.specs.declared.link.Link.{Link}
use Rattle.flag_relation.specs.declared.flag.Flag.{Flag}
use Rattle.flag_relation.specs.declared.flag.Flag.TheVariants.{Any}
use Rattle.flag_relation.specs.Values.{Values, Regs}
use Rattle.flag_relation.specs.Facts.{FactOf, values, with_values}
use Rattle.flag_relation.specs.Order.{link_includes, flag_includes}

-- an equal link stays
abbrev pub join_link : Option Link → Option Link → Option Link
join_link l m = (if link_includes l m then l else None)

abbrev pub join_links : Regs (Option Link) → Regs (Option Link) → Regs (Option Link)
join_links l m = record { a = join_link l.a m.a; x = join_link l.x m.x; y = join_link l.y m.y }

-- an equal flag stays, else nothing is known of B
abbrev pub join_flags : Flag → Flag → Flag
join_flags f g = (if flag_includes f g then f else Any)

module _ {T : Type 0} (d : Domain T) where
  unfoldable pub join_cells : List T → List T → List T
  join_cells [] ws = []
  join_cells (v ∷ vs) [] = v ∷ vs
  join_cells (v ∷ vs) (w ∷ ws) = d.join v w ∷ join_cells vs ws

  abbrev pub join_regs : Regs T → Regs T → Regs T
  join_regs v w = record { a = d.join v.a w.a; x = d.join v.x w.x; y = d.join v.y w.y }

  unfoldable pub join_values : Values T → Values T → Values T
  join_values v w = record { regs = join_regs v.regs w.regs; cells = join_cells v.cells w.cells }

  -- the first fact with its values joined with the other's
  abbrev pub with_joined : FactOf T → FactOf T → FactOf T
  with_joined f g = with_values f (join_values (values f) (values g))

  -- the least fact that includes both
  unfoldable pub join : FactOf T → FactOf T → FactOf T
  join f g = record (with_joined f g) {
    links = join_links f.links g.links;
    flag = join_flags f.flag g.flag;
  }

  -- the join of those that are there
  abbrev pub or_join : Option (Values T) → Option (Values T) → Option (Values T)
  or_join None o = o
  or_join (Some v) None = Some v
  or_join (Some v) (Some w) = Some (join_values v w)
