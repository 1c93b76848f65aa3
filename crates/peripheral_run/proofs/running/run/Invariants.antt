use Rattle.std.proofs.Common.{◌≡◌}
use Rattle.memory_plan.specs.Images.{numbers}
use Rattle.peripheral_run.proofs.RunLemmas.{IsRunTo}
use Rattle.peripheral_run.proofs.running.run.Given as goal

abbrev pub invariant-loop-k : goal.invariant-loop-k
invariant-loop-k l = record {
  so_far : IsRunTo l.plan l.steps l.script.answers l.initial.machine.state l.k (numbers l.answers) l.machine.state l.log.items;
  profile : l.machine.profile ≡ l.initial.machine.profile;
  room : l.log.room ≡ l.initial.log.room;
}
