use Rattle.std.proofs.Common.{◌≡◌, ℕ, ◌<◌, ◌≤◌, List, length, subst}
use Rattle.cert_format.specs.declared.limits.TheConstants.{MOST_NODES}
use Rattle.cert_format.specs.Bare.{times}
use Rattle.cert_format.specs.Marks.{weight, AreRaised}
use Rattle.cert_checker.proofs.MarkLaws.{node_counts, marks_tell}
use Rattle.cert_checker.proofs.marks.marks.Goals as goal

pub loop-i-preserved : goal.loop-i-preserved
loop-i-preserved g c =
    let old = c.loop-i.marks.items in
    let new = c.raise_all-in-loop-i.new.marks.items in
    let k = c.loop-i.i in
    let lt = subst (λ (n : ℕ). k < n) c.len-i-end.ensures.count c.loop-i-test.true in
    let raised = subst (λ (ns : List ℕ). AreRaised old new (λ i. weight k i (times i ns))) c.succ.ensures c.raise_all-in-loop-i.ensures in
    record {
      len = subst (λ (n : ℕ). length new ≡ n) c.loop-i.invariant.len raised.len;
      way = node_counts c.args.cert.now old new k c.loop-i.invariant.len lt raised c.loop-i.invariant.way;
    }

pub returns : goal.returns
returns g c =
    let count = c.len-i-end.ensures.count in
    marks_tell c.args.cert.now c.loop-i.marks.items c.loop-i.i (subst (λ (n : ℕ). n ≤ c.loop-i.i) count c.loop-i-test.false) (subst (λ (n : ℕ). n ≤ MOST_NODES) count c.len-i-end.ensures.few) c.loop-i.invariant.len c.loop-i.invariant.way
