use Rattle.std.proofs.Common.{refl, ◌≡◌, ◌≤◌, ◌<◌, ◌-◌, ℤ, pos, ◌-ℤ◌, ◌≤ℤ◌, ◌<ℤ◌, arith, sym, ap, ◌∙◌, Some, None, to_z, of_z, w64}
use Rattle.std.proofs.lemmas.Int.{ints}
use Rattle.viper_word.specs.Words.{least_signed}
use Rattle.abs_step.specs.Walks.{is_moved_point}
use Rattle.abs_step.proofs.PointLaws.{walk_no_high, walk_none, walk_beyond, walk_past, walk_here, walk_on, first_over}
use Rattle.viper_word.proofs.Integers.{le_true, le_false, less_false}
use Rattle.abs_step.proofs.points.first_point.Goals as goal

pub returns-in_default-clause-first : goal.returns-in_default-clause-first
returns-in_default-clause-first g c =
    sym (walk_no_high g.D.NumDomain.domain g.met.D.NumDomain.laws c.args.v.now c.args.base c.args.from (c.args.to - c.args.from) (sym c.in_default.ensures.value))

pub returns-in_default-least_from-clause-first : goal.returns-in_default-least_from-clause-first
returns-in_default-least_from-clause-first g c =
    let d = g.D.NumDomain.domain in
    let laws = g.met.D.NumDomain.laws in
    let v = c.args.v.now in
    let i : ℤ = pos c.loop-at.at -ℤ pos c.args.base in
    let e : d.least_from v i ≡ None = ap (λ (z : ℤ). d.least_from v z) (omega (arith, ints)) ∙ sym c.in_default-least_from.ensures.value in
    sym (sym c.loop-at.invariant.same ∙ walk_none d laws v c.args.base c.loop-at.at (c.args.to - c.loop-at.at) i refl e)

pub returns-then-next-hi-clause-first : goal.returns-then-next-hi-clause-first
returns-then-next-hi-clause-first g c =
    let d = g.D.NumDomain.domain in
    let laws = g.met.D.NumDomain.laws in
    let v = c.args.v.now in
    let i : ℤ = pos c.loop-at.at -ℤ pos c.args.base in
    let m = c.in-Some-least_from.next in
    let e : d.least_from v i ≡ Some m = ap (λ (z : ℤ). d.least_from v z) (omega (arith, ints)) ∙ sym c.in-Some-least_from.ensures.value in
    let w = c.in-Some-least_from.ensures.signed in
    let low = w.low in
    let high = w.high in
    let past : c.in-Some.hi <ℤ m = grind (arith, ints) in
    sym (sym c.loop-at.invariant.same ∙ walk_beyond d laws v c.args.base c.loop-at.at (c.args.to - c.loop-at.at) i m c.in-Some.hi refl e (sym c.in-Some.ensures.value) past)

pub returns-then-next-less-clause-first : goal.returns-then-next-less-clause-first
returns-then-next-less-clause-first g c =
    let d = g.D.NumDomain.domain in
    let laws = g.met.D.NumDomain.laws in
    let v = c.args.v.now in
    let i : ℤ = pos c.loop-at.at -ℤ pos c.args.base in
    let m = c.in-Some-least_from.next in
    let e : d.least_from v i ≡ Some m = ap (λ (z : ℤ). d.least_from v z) (omega (arith, ints)) ∙ sym c.in-Some-least_from.ensures.value in
    let w = c.in-Some-least_from.ensures.signed in
    let low = w.low in
    let high = w.high in
    let test = le_true (to_z w64 (of_z w64 c.less-in-loop-at.result)) (to_z w64 (of_z w64 m)) c.if-next-less.true in
    let past : (pos c.args.to -ℤ pos c.args.base) ≤ℤ m = omega (arith, ints) in
    sym (sym c.loop-at.invariant.same ∙ walk_past d laws v c.args.base c.loop-at.at c.args.to i m refl e past)

pub returns-then-place-at-clause-first : goal.returns-then-place-at-clause-first
returns-then-place-at-clause-first g c =
    let d = g.D.NumDomain.domain in
    let laws = g.met.D.NumDomain.laws in
    let v = c.args.v.now in
    let i : ℤ = pos c.loop-at.at -ℤ pos c.args.base in
    let m = c.in-Some-least_from.next in
    let e : d.least_from v i ≡ Some m = ap (λ (z : ℤ). d.least_from v z) (omega (arith, ints)) ∙ sym c.in-Some-least_from.ensures.value in
    let w = c.in-Some-least_from.ensures.signed in
    let low = w.low in
    let high = w.high in
    let test = less_false (to_z w64 (of_z w64 c.in-Some.hi)) (to_z w64 (of_z w64 m)) c.if-next-hi.false in
    let top = c.in-Some.ensures.signed in
    let most = top.low in
    let least = top.high in
    let within : m ≤ℤ c.in-Some.hi = omega (arith, ints) in
    let place = c.plus-place.ensures in
    let same : m ≡ i = omega (arith, ints, c.if-place-at.true) in
    let near : i ≤ℤ c.in-Some.hi = omega (arith, ints) in
    let signed : least_signed ≤ℤ i = omega (arith, ints) in
    let here : c.loop-at.at < c.args.to = omega arith in
    sym (sym c.loop-at.invariant.same ∙ walk_here d laws v c.args.base c.loop-at.at c.args.to i c.in-Some.hi refl (e ∙ ap Some same) (sym c.in-Some.ensures.value) near signed here)

pub loop-at-smaller : goal.loop-at-smaller
loop-at-smaller g c =
    let above = c.in-Some-least_from.ensures.above in
    let place = c.plus-place.ensures in
    let w = c.in-Some-least_from.ensures.signed in
    let low = w.low in
    let high = w.high in
    let up : c.loop-at.at ≤ c.plus-place.result = omega (arith, ints) in
    omega (arith, c.if-place-at.false, c.loop-at-test.true)

pub loop-at-preserved : goal.loop-at-preserved
loop-at-preserved g c =
    let d = g.D.NumDomain.domain in
    let laws = g.met.D.NumDomain.laws in
    let v = c.args.v.now in
    let i : ℤ = pos c.loop-at.at -ℤ pos c.args.base in
    let m = c.in-Some-least_from.next in
    let e : d.least_from v i ≡ Some m = ap (λ (z : ℤ). d.least_from v z) (omega (arith, ints)) ∙ sym c.in-Some-least_from.ensures.value in
    let w = c.in-Some-least_from.ensures.signed in
    let low = w.low in
    let high = w.high in
    let n = c.plus-place.result in
    let place = c.plus-place.ensures in
    let is : m ≡ (pos n -ℤ pos c.args.base) = omega (arith, ints) in
    let above = c.in-Some-least_from.ensures.above in
    let up : c.loop-at.at ≤ n = omega (arith, ints) in
    let test = le_false (to_z w64 (of_z w64 c.less-in-loop-at.result)) (to_z w64 (of_z w64 m)) c.if-next-less.false in
    let below : n ≤ c.args.to = omega (arith, ints) in
    let from = c.loop-at.invariant.up in
    record {
      same = sym (walk_on d laws v c.args.base c.loop-at.at n c.args.to i m refl e is up below) ∙ c.loop-at.invariant.same;
      up = omega arith;
    }

pub returns-clause-first : goal.returns-clause-first
returns-clause-first g c =
    sym (sym c.loop-at.invariant.same ∙ first_over (is_moved_point g.D.NumDomain.domain c.args.v.now c.args.base) c.loop-at.at c.args.to (omega arith))
