use Rattle.std.proofs.Common.{◌≡◌, true, false, sym, ◌∙◌}
use Rattle.std.specs.Prelude.{int_le}
use Rattle.std.proofs.Math.Path.{ap₂}
use Rattle.abs_step.proofs.PointLaws.{ends_none, ends_low, ends_found, ends_apart, some_ends}
use Rattle.abs_step.proofs.points.ends_of.Goals as goal
use Rattle.viper_word.proofs.SignedCode.{outer}

pub returns-in_default-clause-ends : goal.returns-in_default-clause-ends
returns-in_default-clause-ends g c =
    sym (ends_none g.D.NumDomain.domain c.args.v.now (sym c.in_default.ensures.value))

pub returns-in_default-greatest_to-clause-ends : goal.returns-in_default-greatest_to-clause-ends
returns-in_default-greatest_to-clause-ends g c =
    sym (ends_low g.D.NumDomain.domain c.args.v.now c.in-Some.lo (sym c.in-Some.ensures.value) (sym c.in_default-greatest_to.ensures.value))

pub returns-then-lo-hi-clause-ends : goal.returns-then-lo-hi-clause-ends
returns-then-lo-hi-clause-ends g c =
    let lo = c.in-Some.lo in
    let hi = c.in-Some-greatest_to.hi in
    let l = outer lo c.in-Some.ensures.signed in
    let h = outer hi c.in-Some-greatest_to.ensures.signed in
    let order : int_le lo hi ≡ true = sym (ap₂ int_le l h) ∙ c.if-lo-hi.true in
    ap₂ some_ends l h ∙ sym (ends_found g.D.NumDomain.domain c.args.v.now lo hi (sym c.in-Some.ensures.value) (sym c.in-Some-greatest_to.ensures.value) order)

pub returns-else-lo-hi-clause-ends : goal.returns-else-lo-hi-clause-ends
returns-else-lo-hi-clause-ends g c =
    let lo = c.in-Some.lo in
    let hi = c.in-Some-greatest_to.hi in
    let l = outer lo c.in-Some.ensures.signed in
    let h = outer hi c.in-Some-greatest_to.ensures.signed in
    let order : int_le lo hi ≡ false = sym (ap₂ int_le l h) ∙ c.if-lo-hi.false in
    sym (ends_apart g.D.NumDomain.domain c.args.v.now lo hi (sym c.in-Some.ensures.value) (sym c.in-Some-greatest_to.ensures.value) order)
