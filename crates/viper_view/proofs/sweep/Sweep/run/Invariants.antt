use Rattle.std.proofs.Common.{◌≡◌, length}
use Rattle.viper_view.proofs.sweep.Sweep.run.Given as goal

abbrev pub invariant-loop : goal.invariant-loop
invariant-loop l = l.scratch.cells ≡ length l.cells
