-- What is known at a start line of a plan.
use Rattle.std.specs.Prelude.{ℕ, Bool, true, false, List, [], map, Option, Some, None}
use Rattle.viper_word.specs.Words.{signed_value}
use Rattle.viper_word.specs.Ranges.{NumberRange}
use Rattle.memory_plan.specs.Plans.{PlanLines, word_at, range_at}
use Rattle.memory_plan.specs.declared.start.Start.{Start}
use Rattle.num_domain.specs.Domain.{Domain}
use Rattle.flag_relation.specs.declared.flag.Flag.{Flag}
use Rattle.flag_relation.specs.declared.flag.Flag.TheVariants.{Any, One, Or}
use Rattle.flag_relation.specs.Facts.{FactOf}

abbrev pub start_flag : Option Bool → Flag
start_flag None = Any
start_flag (Some true) = One
start_flag (Some false) = Or []

module _ {T : Type 0} (d : Domain T) where
  abbrev pub range_value : NumberRange → T
  range_value r = d.span r.lo r.hi r.modulus

  -- the image's word, or else the range of the word's span
  abbrev pub cell_value : Option ℕ → Option NumberRange → T
  cell_value (Some w) r = d.constant (signed_value w)
  cell_value None (Some r) = range_value r
  cell_value None None = d.top

  abbrev pub cell_at : PlanLines → ℕ → T
  cell_at plan c = cell_value (word_at plan.image c) (range_at plan.«data» c)

  -- the ranges of the line; no link is known
  unfoldable pub start_fact : PlanLines → List ℕ → Start → FactOf T
  start_fact plan cells line = record {
    a = range_value line.a;
    x = range_value line.x;
    y = range_value line.y;
    cells = map (cell_at plan) cells;
    links = record { a = None; x = None; y = None };
    flag = start_flag line.b;
  }
