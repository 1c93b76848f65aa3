use Rattle.std.proofs.Common.{◌≡◌, ◌≤◌, drop, length}
use Rattle.memory_plan.specs.Images.{entries}
use Rattle.peripheral_run.specs.Opening.{Fills, words_over}
use Rattle.peripheral_run.proofs.opening.load_words.Given as goal

abbrev pub invariant-loop-left : goal.invariant-loop-left
invariant-loop-left l = record {
  profile : l.machine.profile ≡ l.initial.machine.profile;
  fills : Fills l.initial.machine.state l.machine.state (words_over (entries (drop l.left l.words)) l.initial.machine.state);
  within : l.left ≤ length l.words;
}

abbrev pub decreases-loop-left : goal.decreases-loop-left
decreases-loop-left l = l.left
