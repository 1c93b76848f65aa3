use Rattle.std.proofs.Common.{rules, suc, ◌≡◌, ◌-◌, ◌≤◌, arith, ap, ◌∙◌}
use Rattle.std.specs.Prelude.{pos, negsuc, int_le}
use Rattle.std.proofs.lemmas.Int.{to_z-of_z}
use mir.Val.{SFits, to_z, of_z}
use mir.Syntax.{w128}
use Rattle.rank_nest.specs.Candidates.{change, grows_by, falls_by}
use Rattle.rank_nest.proofs.BitLaws.{bits_small, bits_more, bits_none}
use Rattle.rank_nest.proofs.masks.moves_over.Goals as goal

pub loop-candidate-init : goal.loop-candidate-init
loop-candidate-init g c = record {
  within = omega arith;
  grow = bits_none (grows_by g.D.NumDomain.domain c.args.out.now) c.args.count;
  fall = bits_none (falls_by g.D.NumDomain.domain c.args.out.now) c.args.count;
}

pub with_bit-grow-requires : goal.with_bit-grow-requires
with_bit-grow-requires g c =
    let p = grows_by g.D.NumDomain.domain c.args.out.now in
    let k = c.loop-candidate.candidate in
    let few : c.args.count - c.loop-candidate.candidate ≤ 127 = omega arith in
    omega (arith, c.loop-candidate.invariant.grow, bits_small p k (c.args.count - k) few)

pub with_bit-fall-requires : goal.with_bit-fall-requires
with_bit-fall-requires g c =
    let p = falls_by g.D.NumDomain.domain c.args.out.now in
    let k = c.loop-candidate.candidate in
    let few : c.args.count - c.loop-candidate.candidate ≤ 127 = omega arith in
    omega (arith, c.loop-candidate.invariant.fall, bits_small p k (c.args.count - k) few)

pub loop-candidate-preserved : goal.loop-candidate-preserved
loop-candidate-preserved g c =
    let d = g.D.NumDomain.domain in
    let o = c.args.out.now in
    let j = c.loop-candidate.candidate - 1 in
    let k = c.loop-candidate.candidate in
    let inv = c.loop-candidate.invariant in
    let within : c.loop-candidate.candidate ≤ c.args.count = inv.within in
    let next : k ≡ suc j = omega arith in
    let fits : SFits w128 c.change-change.result = search rules in
    let is : to_z w128 (of_z w128 c.change-change.result) ≡ change d o j = to_z-of_z w128 c.change-change.result fits ∙ c.change-change.ensures in
    record {
      within = omega arith;
      grow = bits_more (grows_by d o) j k c.args.count _ c.loop-candidate.grow c.with_bit-grow.result next within (ap (λ z. int_le (pos 1) z) is) inv.grow c.with_bit-grow.ensures;
      fall = bits_more (falls_by d o) j k c.args.count _ c.loop-candidate.fall c.with_bit-fall.result next within (ap (λ z. int_le z (negsuc 0)) is) inv.fall c.with_bit-fall.ensures;
    }
