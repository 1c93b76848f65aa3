-- What a sort of the plan's numbers gives are its thresholds.
use Rattle.std.proofs.Common.{◌≡◌, ℤ, List, Result, Ok, Err, IfOk, ap, ◌∙◌}
use Rattle.std.specs.List.Sorted.{IsPermutation, IsSorted}
use Rattle.std.specs.Ordering.{int_cmp}
use Rattle.num_domain.specs.Rounding.{with_ends}
use Rattle.memory_plan.specs.Plans.{PlanLines}
use Rattle.flow_recover.specs.Thresholds.{numbers_of, in_order, thresholds_of}
use Rattle.flow_recover.proofs.OrderLemmas.{sorted_is}

pub sorted_ok : {E : Type 0} (ns : List ℤ) (plan : PlanLines) (r : Result (List ℤ) E) → ns ≡ numbers_of plan
    → IfOk r (λ t. IsPermutation (with_ends ns) t) → IfOk r (IsSorted int_cmp) → IfOk r (λ t. t ≡ thresholds_of plan)
sorted_ok ns plan (Ok t) e p s = sorted_is (with_ends ns) t p s ∙ ap (λ l. in_order (with_ends l)) e
sorted_ok ns plan (Err x) e p s = tt
