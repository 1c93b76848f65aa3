use Rattle.std.proofs.Common.{◌≡◌, length}
use Rattle.abs_step.specs.Places.{AllHaveCells}
use Rattle.abs_step.proofs.places.Places.new.Given as goal

abbrev pub invariant-loop : goal.invariant-loop
invariant-loop g l = record {
  count : length l.items.items ≡ l.counter;
  counts : AllHaveCells l.cells l.items.items;
}
