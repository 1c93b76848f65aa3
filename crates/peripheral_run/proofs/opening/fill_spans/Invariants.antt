use Rattle.std.proofs.Common.{◌≡◌, ◌≤◌, drop, length}
use Rattle.peripheral_run.specs.Opening.{Fills, least_in}
use Rattle.peripheral_run.proofs.opening.fill_spans.Given as goal

abbrev pub invariant-loop-left : goal.invariant-loop-left
invariant-loop-left l = record {
  profile : l.machine.profile ≡ l.initial.machine.profile;
  fills : Fills l.initial.machine.state l.machine.state (least_in (drop l.left l.spans) l.initial.machine.state);
  within : l.left ≤ length l.spans;
}

abbrev pub decreases-loop-left : goal.decreases-loop-left
decreases-loop-left l = l.left
