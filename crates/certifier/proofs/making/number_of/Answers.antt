use Rattle.std.proofs.Common.{ℕ, ◌+◌, ◌-◌, ◌/◌, ◌<◌, length, sym, ap, ◌∙◌, arith}
use Rattle.std.specs.Ordering.{is_lt}
use Rattle.certifier.proofs.KeyPlaces.{below, above}
use Rattle.certifier.proofs.making.number_of.Goals as goal

pub loop-to-preserved-then-is_lt : goal.loop-to-preserved-then-is_lt
loop-to-preserved-then-is_lt g c =
    let inv = c.loop-to.invariant in
    let end = inv.end in
    let test = c.loop-to-test.true in
    let middle : ℕ = c.loop-to.from + (c.loop-to.to - c.loop-to.from) / 2 in
    let low : middle < length c.args.solved.now.nodes = omega (arith, end, test) in
    record {
      low = inv.low;
      high = below c.args.solved.now.nodes c.args.key.now c.key.result.now middle c.requires.ascending c.requires.there low c.key.ensures (sym (c.is_lt.ensures ∙ ap is_lt c.compare.ensures.value) ∙ c.if-is_lt.true);
      end = omega (arith, low);
    }

pub loop-to-preserved : goal.loop-to-preserved
loop-to-preserved g c =
    let inv = c.loop-to.invariant in
    let end = inv.end in
    let test = c.loop-to-test.true in
    let middle : ℕ = c.loop-to.from + (c.loop-to.to - c.loop-to.from) / 2 in
    let low : middle < length c.args.solved.now.nodes = omega (arith, end, test) in
    record {
      low = above c.args.solved.now.nodes c.args.key.now c.key.result.now middle c.requires.ascending c.requires.there low c.key.ensures (sym (c.is_lt.ensures ∙ ap is_lt c.compare.ensures.value) ∙ c.if-is_lt.false);
      high = inv.high;
      end = end;
    }
