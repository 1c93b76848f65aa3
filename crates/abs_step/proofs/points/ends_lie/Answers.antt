use Rattle.std.proofs.Common.{◌≡◌, true, ◌+ℤ◌, arith, sym, ◌∙◌, to_z, of_z, w64}
use Rattle.std.specs.Prelude.{int_le}
use Rattle.std.proofs.lemmas.Int.{ints}
use Rattle.std.proofs.Math.Path.{ap₂}
use Rattle.num_domain.specs.Ends.{ends}
use Rattle.abs_step.proofs.PointLaws.{lies_from}
use Rattle.abs_step.proofs.points.ends_lie.Goals as goal

pub returns-then-lo-sum : goal.returns-then-lo-sum
returns-then-lo-sum g c =
    let l = c.in-Some.least in
    let h = c.in-Some.greatest in
    let lw = c.in-Some.ensures.low in
    let hw = c.in-Some.ensures.high in
    let l0 = lw.low in
    let l1 = lw.high in
    let h0 = hw.low in
    let h1 = hw.high in
    let base = c.args.base in
    let b0 = c.requires.low in
    let b1 = c.requires.high in
    let lo : to_z w64 (of_z w64 c.args.lo) ≡ c.args.lo = omega (arith, ints, c.ranges.lo) in
    let hi : to_z w64 (of_z w64 c.args.hi) ≡ c.args.hi = omega (arith, ints, c.ranges.hi) in
    let low : to_z w64 (of_z w64 c.sum.result) ≡ (base +ℤ l) = omega (arith, ints) in
    let high : to_z w64 (of_z w64 c.sum-then-lo-sum.result) ≡ (base +ℤ h) = omega (arith, ints) in
    let test : int_le c.args.lo (base +ℤ l) ≡ true = sym (ap₂ int_le lo low) ∙ c.if-lo-sum.true in
    ap₂ int_le high hi ∙ lies_from (ends g.D.NumDomain.domain c.args.v.now) base c.args.lo c.args.hi l h c.in-Some.ensures.ends test
