use Rattle.std.proofs.Common.{◌≡◌, ℤ, arith, subst, to_z, of_z, w64}
use Rattle.std.proofs.lemmas.Int.{ints}
use Rattle.viper_word.specs.Ranges.{NumberRange, IsRange}
use Rattle.viper_word.proofs.RangeLemmas.{normal_range, range_small}
use Rattle.viper_view.proofs.operands.range_value.Goals as goal

pub span-requires : goal.span-requires
span-requires c =
    let x = c.range.inside in
    let r : NumberRange = record { lo = x.lo; hi = x.hi; modulus = x.modulus; residue = x.residue } in
    let is = normal_range r c.range.invariant in
    let low = is.low in
    let high = is.high in
    let positive = is.not_negative in
    let small = range_small x.lo x.hi x.modulus is in
    let lo : x.lo ≡ to_z w64 (of_z w64 x.lo) = omega (arith, ints) in
    let hi : x.hi ≡ to_z w64 (of_z w64 x.hi) = omega (arith, ints) in
    let modulus : x.modulus ≡ to_z w64 (of_z w64 x.modulus) = omega (arith, ints) in
    subst (λ (z : ℤ). IsRange z (to_z w64 (of_z w64 x.hi)) (to_z w64 (of_z w64 x.modulus))) lo
    (subst (λ (z : ℤ). IsRange x.lo z (to_z w64 (of_z w64 x.modulus))) hi (subst (λ (z : ℤ). IsRange x.lo x.hi z) modulus is))
