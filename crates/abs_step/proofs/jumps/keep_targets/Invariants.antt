use Rattle.std.proofs.Common.{◌≡◌, ◌≤◌, ◌+◌, ◌-◌, ◌^◌, ◌++◌, length}
use Rattle.std.specs.List.{flat_map}
use Rattle.abs_step.specs.Addresses.{passing}
use Rattle.abs_step.specs.OutcomeLists.{outcome}
use Rattle.abs_step.specs.Outcomes.{is_target}
use Rattle.abs_step.specs.Walks.{is_point_at}
use Rattle.abs_step.proofs.jumps.keep_targets.Given as goal

abbrev pub invariant-loop-at : goal.invariant-loop-at
invariant-loop-at g l = record {
  same : l.places.outcomes ++ flat_map (λ n. outcome g.D.NumDomain.domain n l.pre l.after l.posts) (passing (is_target g.D.NumDomain.domain l.plan l.v) l.at (2 ^ 20 - l.at)) ≡ l.fn.places.outcomes ++ flat_map (λ n. outcome g.D.NumDomain.domain n l.pre l.after l.posts) (passing (is_target g.D.NumDomain.domain l.plan l.v) 0 (2 ^ 20));
  free : length l.places.outcomes + length (passing (is_point_at g.D.NumDomain.domain l.v) l.at (2 ^ 20 - l.at)) ≤ l.places.room;
  others : l.places ≡ record l.fn.places { outcomes = l.places.outcomes };
}

abbrev pub decreases-loop-at : goal.decreases-loop-at
decreases-loop-at g l = 2 ^ 20 - l.at
