use Rattle.std.proofs.Common.{arith, ◌≡◌, ap, to_z, of_z, w64}
use Rattle.std.proofs.lemmas.Int.{ints, clamps}
use Rattle.std.specs.Prelude.{nat_abs, ◌<◌, ◌^◌}
use Rattle.std.specs.Int.{int_max}
use Rattle.interval_dom.proofs.IntervalCode.{power_code}
use Rattle.interval_dom.proofs.interval.Interval.power_above.Goals as goal

highest : (c : goal.After-max-highest) → nat_abs (to_z w64 (of_z w64 c.max-highest.result)) ≡ nat_abs (int_max c.args.self.now.hi c.args.other.now.hi)
highest c =
    let a = c.args.self.now.ends in
    let b = c.args.other.now.ends in
    let e : to_z w64 (of_z w64 c.max-highest.result) ≡ int_max c.args.self.now.hi c.args.other.now.hi = omega (arith, ints, clamps) in
    ap nat_abs e

below : (c : goal.After-max-highest) → nat_abs (int_max c.args.self.now.hi c.args.other.now.hi) < 2 ^ 31
below c =
    let a = c.args.self.now.ends in
    let b = c.args.other.now.ends in
    let p = c.requires.first in
    omega (arith, ints, clamps)

pub returns-clause-value : goal.returns-clause-value
returns-clause-value c = (power_code _ _ (highest c) (below c)).0

pub returns-clause-small : goal.returns-clause-small
returns-clause-small c = (power_code _ _ (highest c) (below c)).1
