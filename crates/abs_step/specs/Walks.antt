-- What code asks of spans of addresses on the way, of which no public clause speaks: the first
-- address that passes, whether all pass that a place may be, and ends as two numbers.
use Rattle.std.specs.Prelude.{ℕ, ◌-◌, ℤ, pos, ◌-ℤ◌, Bool, true, false, not, ◌&&◌, cond, List, Option, Some, None}
use Rattle.std.proofs.Common.{zero, suc}
use Rattle.viper_word.specs.Ranges.{NumberRange}
use Rattle.num_domain.specs.Domain.{Domain}
use Rattle.num_domain.specs.Ends.{Ends, is_point}
use Rattle.memory_plan.specs.Ranges.{Span}
use Rattle.memory_plan.specs.Plans.{PlanLines, has_code}
use Rattle.flag_relation.specs.Values.{Values}
use Rattle.viper_decode.specs.declared.instructions.Place.{Place}
use Rattle.abs_step.specs.Addresses.{any_from, passes_at, in_spans, is_tracked}
use Rattle.abs_step.specs.Results.{in_memory, addressed}
use Rattle.abs_step.specs.Conditions.{in_range}
use Rattle.abs_step.specs.declared.addresses.Use.{Use}
use Rattle.abs_step.specs.declared.addresses.Use.TheVariants.{Read, Input, Store, Output}

-- the first of n addresses from `at` on that passes
unfoldable pub first_from : (ℕ → Bool) → ℕ → ℕ → Option ℕ
first_from p at zero = None
first_from p at (suc n) = cond (p at) (Some at) (first_from p (suc at) n)

abbrev pub is_found : Option ℕ → Bool
is_found None = false
is_found (Some n) = true

-- both ends
abbrev pub both : Option Ends → Option (ℤ × ℤ)
both None = None
both (Some e) = Some (e.lo, e.hi)

-- is the address, less the base, a point?
abbrev pub is_moved_point : {T : Type 0} → Domain T → T → ℕ → ℕ → Bool
is_moved_point d v base n = is_point d v (pos n -ℤ pos base)

-- is the address a point?
abbrev pub is_point_at : {T : Type 0} → Domain T → T → ℕ → Bool
is_point_at d v n = is_point d v (pos n)

-- Of the addresses from the first on below the second, does each one pass that the place may be?
abbrev pub all_pass : (ℕ → Bool) → (ℕ → Bool) → ℕ → ℕ → Bool
all_pass may_be passes from to = not (any_from (λ n. may_be n && not (passes n)) from (to - from))

-- is the address in one of the code spans, or of the data spans?
abbrev pub is_in_either : List (ℕ × ℕ) → List Span → ℕ → Bool
is_in_either code spans n = cond (has_code code n) true (in_spans spans n)

module _ {T : Type 0} (d : Domain T) where
  -- may that be done at the address?
  abbrev pub allows : PlanLines → Use T → ℕ → Bool
  allows plan Read n = in_memory plan n
  allows plan Input n = in_spans plan.inputs n
  allows plan (Store w) n = passes_at plan.«data» (λ r. in_range d w r) n
  allows plan (Output w) n = passes_at plan.outputs (λ r. in_range d w r) n

  -- does that fit a span with the range?
  abbrev pub fits : Use T → NumberRange → Bool
  fits Read r = true
  fits Input r = true
  fits (Store w) r = in_range d w r
  fits (Output w) r = in_range d w r

  -- has the value all numbers?
  abbrev pub is_greatest : Option T → Bool
  is_greatest None = false
  is_greatest (Some v) = d.includes v d.top

  -- may the place be the address, which isn't a tracked cell's?
  abbrev pub is_untracked : List ℕ → Place → Values T → ℕ → Bool
  is_untracked cells p v n = addressed d p v n && not (is_tracked cells n)
