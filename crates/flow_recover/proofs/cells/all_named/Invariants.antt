use Rattle.std.proofs.Common.{◌≡◌, drop, []}
use Rattle.memory_plan.specs.Images.{entries}
use Rattle.flow_recover.proofs.CellLemmas.{found_from}
use Rattle.flow_recover.proofs.cells.all_named.Given as goal

abbrev pub invariant-loop-entry : goal.invariant-loop-entry
invariant-loop-entry l = record {
  words : entries l.entry-items ≡ l.plan.image;
  found : found_from l.plan l.found.keys (entries (drop l.entry-index l.entry-items)) ≡ found_from l.plan [] l.plan.image;
}
