use Rattle.std.proofs.Common.{◌≡◌, ◌∙◌, arith, to_z, of_z, w64}
use Rattle.std.proofs.Math.Path.{ap₂}
use Rattle.std.proofs.lemmas.Int.{ints}
use Rattle.val_dom.specs.Normal.{IsNormal}
use Rattle.val_dom.specs.Made.{base}
use Rattle.val_dom.specs.evidence.NormalForms.{narrow_normal}
use Rattle.val_dom.proofs.ValCode.{wrap_is, some_of}
use Rattle.val_dom.proofs.val.ValNumDomain.narrow.Goals as goal

pub invariant_of-result : goal.invariant_of-result
invariant_of-result c = record { normal = some_of IsNormal c.in_ok-pair.pair _ (narrow_normal c.args.self.now (to_z w64 (of_z w64 c.args.lo)) (to_z w64 (of_z w64 c.args.hi))) c.in_ok-pair.ensures }

pub returns : goal.returns
returns c =
    let lo : to_z w64 (of_z w64 c.args.lo) ≡ c.args.lo = omega (arith, ints) in
    let hi : to_z w64 (of_z w64 c.args.hi) ≡ c.args.hi = omega (arith, ints) in
    wrap_is _ _ (narrow_normal c.args.self.now c.args.lo c.args.hi) (c.in_ok-pair.ensures ∙ ap₂ (base.narrow c.args.self.now.pair) lo hi)
