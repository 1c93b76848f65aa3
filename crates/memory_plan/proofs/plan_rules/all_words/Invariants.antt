use Rattle.std.proofs.Common.{◌≡◌, ◌+◌, ◌-◌}
use Rattle.memory_plan.specs.PlanRules.{all_words}
use Rattle.memory_plan.proofs.plan_rules.all_words.Given as goal

abbrev pub invariant-loop-next : goal.invariant-loop-next
invariant-loop-next l = record {
  end : l.end ≡ l.fn.hi + 1;
  so_far : all_words l.image l.fn.lo (l.fn.hi + 1 - l.fn.lo) ≡ all_words l.image l.next (l.fn.hi + 1 - l.next);
}

abbrev pub decreases-loop-next : goal.decreases-loop-next
decreases-loop-next l = l.end - l.next
