use Rattle.std.proofs.Common.{rules, ◌≡◌, ◌≤◌, ◌^◌, unsigned_abs, ap, sym, subst, ◌∙◌}
use Rattle.std.proofs.lemmas.Int.{to_z-of_z}
use mir.Val.{SFits, to_z, of_z}
use mir.Syntax.{w64, w128}
use Rattle.rank_form.specs.Bounds.{lower}
use Rattle.rank_form.specs.Levels.{direction}
use Rattle.rank_form.proofs.LowEnds.{low_small}
use Rattle.rank_form.proofs.levels.lowest.Goals as goal

pub overflow_cast-result : goal.overflow_cast-result
overflow_cast-result g c =
    let d = g.D.NumDomain.domain in
    let is : c.lower.result ≡ lower d (direction c.args.var c.args.down) c.args.fact.now = c.lower.ensures ∙ ap (λ f. lower d f c.args.fact.now) c.direction.ensures in
    let limits = c.count-count.ensures.limits in
    let small : unsigned_abs c.lower.result ≤ 2 ^ 39 = subst (λ z. unsigned_abs z ≤ 2 ^ 39) (sym is) (low_small d g.met.D.NumDomain.laws c.args.var c.args.down c.args.fact.now limits.few limits.linked) in
    let f : SFits w128 c.lower.result = search rules in
    let k : SFits w64 c.lower.result = search rules in
    subst (λ z. SFits w64 z) (sym (to_z-of_z w128 c.lower.result f)) k

pub returns : goal.returns
returns g c =
    let d = g.D.NumDomain.domain in
    let is : c.lower.result ≡ lower d (direction c.args.var c.args.down) c.args.fact.now = c.lower.ensures ∙ ap (λ f. lower d f c.args.fact.now) c.direction.ensures in
    let limits = c.count-count.ensures.limits in
    let small : unsigned_abs c.lower.result ≤ 2 ^ 39 = subst (λ z. unsigned_abs z ≤ 2 ^ 39) (sym is) (low_small d g.met.D.NumDomain.laws c.args.var c.args.down c.args.fact.now limits.few limits.linked) in
    let f : SFits w128 c.lower.result = search rules in
    let k : SFits w64 c.lower.result = search rules in
    ap (λ z. to_z w64 (of_z w64 z)) (to_z-of_z w128 c.lower.result f) ∙ to_z-of_z w64 c.lower.result k ∙ is
