use Rattle.std.proofs.Common.{rules, arith, ap, ◌∙◌, ◌≡◌, ◌+ℤ◌, ◌*ℤ◌}
use Rattle.std.proofs.Math.Path.{ap₂}
use Rattle.std.proofs.lemmas.Int.{ints, to_z-of_z}
use mir.Val.{SFits}
use mir.Syntax.{w64, w128}
use Rattle.rank_form.specs.Bounds.{place}
use Rattle.rank_form.specs.Rates.{regs_of, gain}
use Rattle.rank_form.proofs.step.add_moved.Goals as goal

pub returns-in-Plus-clause-gain : goal.returns-in-Plus-clause-gain
returns-in-Plus-clause-gain g c =
    let links = regs_of c.args.links.now in
    let a : SFits w128 c.product-linked.result = search rules in
    let b : SFits w128 c.product-stepped.result = search rules in
    let f : SFits w128 c.args.coefficient = search rules in
    let q : SFits w64 c.place-spot-in-Plus.result.more = search rules in
    let r : SFits w64 c.in-Plus.number = search rules in
    let e : gain g.D.NumDomain.domain links c.args.fact.now c.args.post c.args.var c.args.coefficient ≡ (c.args.coefficient *ℤ (place links c.in-Plus.other).more) +ℤ (c.args.coefficient *ℤ c.in-Plus.number) =
    ap (λ p. gain g.D.NumDomain.domain links c.args.fact.now p c.args.var c.args.coefficient) c.in-Plus.is in
    let n : c.place-spot-in-Plus.result.more ≡ (place links c.in-Plus.other).more = search (rules, c.place-spot-in-Plus.ensures) in
    let v : c.product-linked.result ≡ c.args.coefficient *ℤ (place links c.in-Plus.other).more = c.product-linked.ensures.value ∙ ap₂ ◌*ℤ◌ (to_z-of_z w128 c.args.coefficient f) (to_z-of_z w64 c.place-spot-in-Plus.result.more q ∙ n) in
    let w : c.product-stepped.result ≡ c.args.coefficient *ℤ c.in-Plus.number = c.product-stepped.ensures.value ∙ ap₂ ◌*ℤ◌ (to_z-of_z w128 c.args.coefficient f) (to_z-of_z w64 c.in-Plus.number r) in
    omega (arith, ints, e, v, w, c.product-linked.ensures.size, c.product-stepped.ensures.size)

pub returns-in-Plus-clause-grown : goal.returns-in-Plus-clause-grown
returns-in-Plus-clause-grown g c = let f : SFits w128 c.args.coefficient = search rules in λ i. omega (arith, ints, to_z-of_z w128 c.args.coefficient f, c.put-in-Plus.ensures.grown i, c.requires.small)

pub overflow_add-result : goal.overflow_add-result
overflow_add-result g c =
    let a : SFits w128 c.product-linked.result = search rules in
    let b : SFits w128 c.product-stepped.result = search rules in
    omega (arith, ints, a, b, c.product-linked.ensures.size, c.product-stepped.ensures.size)
