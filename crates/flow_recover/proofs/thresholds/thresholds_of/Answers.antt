use Rattle.flow_recover.proofs.ThresholdLemmas.{sorted_ok}
use Rattle.flow_recover.proofs.thresholds.thresholds_of.Goals as goal

pub returns : goal.returns
returns c = sorted_ok c.in_ok-numbers.numbers.items c.args.plan.now c.new.result c.in_ok-numbers.ensures (rw c.deref.ensures.value at c.new.ensures.same) c.new.ensures.sorted
