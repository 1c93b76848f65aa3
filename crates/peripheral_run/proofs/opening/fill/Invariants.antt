use Rattle.std.proofs.Common.{◌≡◌, ◌≤◌, ◌+◌, ◌-◌}
use Rattle.std.specs.Prelude.{◌⊎◌}
use Rattle.peripheral_run.specs.Opening.{Fills}
use Rattle.peripheral_run.proofs.Filling.{below_to}
use Rattle.peripheral_run.proofs.opening.fill.Given as goal

abbrev pub invariant-loop-next : goal.invariant-loop-next
invariant-loop-next l = record {
  profile : l.machine.profile ≡ l.initial.machine.profile;
  fills : Fills l.initial.machine.state l.machine.state (below_to l.fn.lo l.next l.word.0 l.initial.machine.state);
  low : l.fn.lo ≤ l.next;
  place : (l.next ≤ l.hi + 1) ⊎ (l.next ≡ l.fn.lo);
}

abbrev pub decreases-loop-next : goal.decreases-loop-next
decreases-loop-next l = l.hi + 1 - l.next
