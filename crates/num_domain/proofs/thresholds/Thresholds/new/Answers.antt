use Rattle.std.proofs.Common.{subst, List, ℤ}
use Rattle.std.specs.List.Sorted.{IsPermutation}
use Rattle.num_domain.proofs.ThresholdLemmas.{sorted_thresholds}
use Rattle.num_domain.proofs.thresholds.Thresholds.new.Goals as goal

pub invariant_of-result : goal.invariant_of-result
invariant_of-result c =
    sorted_thresholds c.args.numbers.now c.sort_unstable.new.self.items
    (subst (λ (xs : List ℤ). IsPermutation xs c.sort_unstable.new.self.items) c.in-Ok.ensures c.sort_unstable.ensures.permutation) c.sort_unstable.ensures.sorted
