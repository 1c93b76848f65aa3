use Rattle.std.proofs.Common.{arith, ◌≡◌, ◌∙◌, to_z, of_z, w64}
use Rattle.std.proofs.lemmas.Int.{ints}
use Rattle.interval_dom.proofs.IntervalCode.{after_is, before_is, without_is}
use Rattle.interval_dom.proofs.interval.Interval.without.Goals as goal

pub returns : goal.returns
returns c =
    let e = c.args.self.now.ends in
    let n : to_z w64 (of_z w64 c.args.n) ≡ c.args.n = omega (arith, ints) in
    let lo : to_z w64 (of_z w64 c.args.self.now.lo) ≡ c.args.self.now.lo = omega (arith, ints) in
    let hi : to_z w64 (of_z w64 c.args.self.now.hi) ≡ c.args.self.now.hi = omega (arith, ints) in
    let a : to_z w64 (of_z w64 c.after.result) ≡ c.after.result = omega (arith, ints) in
    let b : to_z w64 (of_z w64 c.before-2.result) ≡ c.before-2.result = omega (arith, ints) in
    c.cut.ensures ∙ without_is c.args.self.now c.args.n _ _
    (a ∙ after_is c.after.result (to_z w64 (of_z w64 c.args.self.now.lo)) (to_z w64 (of_z w64 c.args.n)) c.args.self.now.lo c.args.n c.after.ensures lo n)
    (b ∙ before_is c.before-2.result (to_z w64 (of_z w64 c.args.self.now.hi)) (to_z w64 (of_z w64 c.args.n)) c.args.self.now.hi c.args.n c.before-2.ensures hi n)
