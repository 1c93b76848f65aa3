use Rattle.std.proofs.Common.{◌≡◌, true, ◌+ℤ◌, arith, sym, ◌∙◌, to_z, of_z, w64}
use Rattle.std.specs.Prelude.{int_le}
use Rattle.std.proofs.lemmas.Int.{ints}
use Rattle.std.proofs.Math.Path.{ap₂}
use Rattle.viper_word.specs.Words.{least_signed, greatest_signed}
use Rattle.num_domain.specs.Ends.{ends}
use Rattle.abs_step.proofs.EndTests.{less_from}
use Rattle.abs_step.proofs.conditions.differences_lie.Goals as goal

pub returns-then-sum-lo : goal.returns-then-sum-lo
returns-then-sum-lo g c =
    let l = c.in-Some.lo in
    let h = c.in-Some.hi in
    let l' = c.in-Some-ends_of.least in
    let h' = c.in-Some-ends_of.greatest in
    let a = c.in-Some.ensures.low in
    let b = c.in-Some.ensures.high in
    let a' = c.in-Some-ends_of.ensures.low in
    let b' = c.in-Some-ends_of.ensures.high in
    let a0 = a.low in
    let a1 = a.high in
    let b0 = b.low in
    let b1 = b.high in
    let a2 = a'.low in
    let a3 = a'.high in
    let b2 = b'.low in
    let b3 = b'.high in
    let lo : to_z w64 (of_z w64 l) ≡ l = omega (arith, ints) in
    let hi : to_z w64 (of_z w64 h) ≡ h = omega (arith, ints) in
    let low : to_z w64 (of_z w64 c.sum.result) ≡ (least_signed +ℤ h') = omega (arith, ints) in
    let high : to_z w64 (of_z w64 c.sum-then-sum-lo.result) ≡ (greatest_signed +ℤ l') = omega (arith, ints) in
    let test : int_le (least_signed +ℤ h') l ≡ true = sym (ap₂ int_le low lo) ∙ c.if-sum-lo.true in
    ap₂ int_le hi high ∙ less_from (ends g.D.NumDomain.domain c.args.r.now) (ends g.D.NumDomain.domain c.args.m.now) l h l' h' c.in-Some.ensures.ends c.in-Some-ends_of.ensures.ends test
