-- The ends of the intervals that are made are ends.
use Rattle.std.specs.Prelude.{◌≡◌, ℤ, int_le, true}
use Rattle.std.specs.Int.{int_min, int_max}
use Rattle.std.proofs.Common.{arith}
use Rattle.std.proofs.lemmas.Int.{ints, clamps}
use Rattle.viper_word.specs.Words.{least_signed, greatest_signed}
use Rattle.viper_word.proofs.Integers.{le_true}
use Rattle.num_domain.specs.Rounding.{below, above}
use Rattle.num_domain.specs.evidence.RoundingLaws.{below_low, below_le_self, above_high, above_ge_self}
use Rattle.interval_dom.specs.Bounds.{AreEnds}
use Rattle.interval_dom.specs.declared.interval.Interval.{Interval}

pub cut_ends : (lo hi : ℤ) → int_le (int_max lo least_signed) (int_min hi greatest_signed) ≡ true → AreEnds (int_max lo least_signed) (int_min hi greatest_signed)
cut_ends lo hi h =
    let o = le_true (int_max lo least_signed) (int_min hi greatest_signed) h in
    record { low = omega (arith, ints, clamps); ordered = o; high = omega (arith, ints, clamps) }

pub top_ends : AreEnds least_signed greatest_signed
top_ends = record { low = omega (arith, ints); ordered = omega (arith, ints); high = omega (arith, ints) }

pub join_ends : (a b : Interval) → AreEnds (int_min a.lo b.lo) (int_max a.hi b.hi)
join_ends a b =
    let e = a.ends in
    let f = b.ends in
    record { low = omega (arith, ints, clamps); ordered = omega (arith, ints, clamps); high = omega (arith, ints, clamps) }

pub round_ends : (ts : _) (a : Interval) → AreEnds (below ts a.lo) (above ts a.hi)
round_ends ts a =
    let e = a.ends in
    let l = below_le_self ts a.lo e.low in
    let g = above_ge_self ts a.hi e.high in
    record { low = below_low ts a.lo; ordered = omega (arith, ints); high = above_high ts a.hi }
