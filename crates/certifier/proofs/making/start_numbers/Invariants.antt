use Rattle.std.proofs.Common.{◌≡◌, take}
use Rattle.certifier.specs.Made.{start_numbers}
use Rattle.certifier.proofs.making.start_numbers.Given as goal

abbrev pub invariant-loop-start : goal.invariant-loop-start
invariant-loop-start g l = l.numbers.items ≡ start_numbers l.solved.nodes (take l.start-index l.starts)
