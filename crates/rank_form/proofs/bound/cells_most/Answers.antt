use Rattle.std.proofs.Common.{rules, arith, sym, ◌≡◌, ℕ, ◌*◌, ◌^◌, ◌≤◌, unsigned_abs}
use Rattle.std.proofs.lemmas.Int.{ints}
use mir.Val.{SFits, to_z}
use mir.Syntax.{w128}
use Rattle.flag_relation.specs.declared.var.Var.TheVariants.{Cell}
use Rattle.rank_form.specs.Weights.{sum_below}
use Rattle.rank_form.specs.Rates.{net_most}
use Rattle.rank_form.proofs.Summing.{sum_next, sum_none}
use Rattle.rank_form.proofs.bound.cells_most.Goals as goal

pub loop-at-init : goal.loop-at-init
loop-at-init g c = record { in_range = omega arith; sum = sym (sum_none _); size = omega (arith, ints) }

pub loop-at-preserved : goal.loop-at-preserved
loop-at-preserved g c =
    let share = λ (i : ℕ). net_most g.D.NumDomain.domain c.args.fact.now c.args.plus.now c.args.minus.now (Cell i) in
    let f : SFits w128 c.cell_most-total.result = search rules in
    let v : c.cell_most-total.result ≡ share c.loop-at.at = c.cell_most-total.ensures.value in
    let s : to_z w128 c.loop-at.total-bits ≡ sum_below c.loop-at.at share = c.loop-at.invariant.sum in
    let z : unsigned_abs (to_z w128 c.loop-at.total-bits) ≤ c.loop-at.at * 2 ^ 110 = c.loop-at.invariant.size in
    let k : unsigned_abs c.cell_most-total.result ≤ 2 ^ 110 = c.cell_most-total.ensures.size in
    let few : c.loop-at.at ≤ 32 = omega (arith, c.count-count.ensures.limits.few) in
    record {
      in_range = omega arith;
      sum = omega (arith, ints, v, s, z, k, few, c.loop-at.auto.total-fits, sum_next c.loop-at.at share);
      size = omega (arith, ints, z, k, few, c.loop-at.auto.total-fits);
    }
