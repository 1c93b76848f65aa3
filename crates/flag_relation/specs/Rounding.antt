-- Rounding of a fact to thresholds, the bounds that values may grow to.
use Rattle.std.specs.Prelude.{ℤ, List, map, Option, Some, None}
use Rattle.num_domain.specs.Domain.{Domain}
use Rattle.flag_relation.specs.Values.{Values}
use Rattle.flag_relation.specs.Facts.{FactOf, values, with_values}
use Rattle.flag_relation.specs.Joins.{join_values}
use Rattle.flag_relation.specs.Refining.{settle}

module _ {T : Type 0} (d : Domain T) where
  unfoldable pub round_values : List ℤ → Values T → Values T
  round_values t v = record {
    regs = record { a = d.round v.regs.a t; x = d.round v.regs.x t; y = d.round v.regs.y t };
    cells = map (λ c. d.round c t) v.cells;
  }

  -- the fact with each value rounded
  abbrev pub with_rounded : List ℤ → FactOf T → FactOf T
  with_rounded t f = with_values f (round_values t (values f))

  -- what was settled, joined with the values before; these alone where nothing is left
  abbrev pub or_before : Values T → Option (Values T) → Values T
  or_before v None = v
  or_before v (Some w) = join_values d w v

  -- each value is rounded, and the links are settled
  unfoldable pub round : List ℤ → FactOf T → FactOf T
  round t f =
      with_values f (or_before (values f) (settle d f.links (round_values t (values f))))
