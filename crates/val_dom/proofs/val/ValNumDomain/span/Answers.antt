use Rattle.std.proofs.Common.{◌≡◌, ◌∙◌, ℤ, ap, sym, subst, arith, to_z, of_z, w64}
use Rattle.std.proofs.Math.Path.{ap₂}
use Rattle.std.proofs.lemmas.Int.{ints}
use Rattle.val_dom.specs.Normal.{IsNormal}
use Rattle.val_dom.specs.Made.{base}
use Rattle.val_dom.specs.evidence.NormalForms.{span_normal}
use Rattle.val_dom.specs.evidence.ValLaws.{val_from}
use Rattle.val_dom.proofs.val.ValNumDomain.span.Goals as goal

same : (lo hi m lo' hi' m' : ℤ) → lo ≡ lo' → hi ≡ hi' → m ≡ m' → base.span lo hi m ≡ base.span lo' hi' m'
same lo hi m lo' hi' m' p q r = ap₂ (λ (x y : ℤ). base.span x y m) p q ∙ ap (λ (z : ℤ). base.span lo' hi' z) r

pub invariant_of-result : goal.invariant_of-result
invariant_of-result c =
    let lo : to_z w64 (of_z w64 c.args.lo) ≡ c.args.lo = omega (arith, ints) in
    let hi : to_z w64 (of_z w64 c.args.hi) ≡ c.args.hi = omega (arith, ints) in
    let m : to_z w64 (of_z w64 c.args.modulus) ≡ c.args.modulus = omega (arith, ints) in
    record { normal = subst IsNormal (sym (c.span.ensures ∙ same _ _ _ c.args.lo c.args.hi c.args.modulus lo hi m)) (span_normal c.args.lo c.args.hi c.args.modulus) }

pub returns : goal.returns
returns c =
    let lo : to_z w64 (of_z w64 c.args.lo) ≡ c.args.lo = omega (arith, ints) in
    let hi : to_z w64 (of_z w64 c.args.hi) ≡ c.args.hi = omega (arith, ints) in
    let m : to_z w64 (of_z w64 c.args.modulus) ≡ c.args.modulus = omega (arith, ints) in
    val_from _ (base.span c.args.lo c.args.hi c.args.modulus) (c.span.ensures ∙ same _ _ _ c.args.lo c.args.hi c.args.modulus lo hi m) (span_normal c.args.lo c.args.hi c.args.modulus)
