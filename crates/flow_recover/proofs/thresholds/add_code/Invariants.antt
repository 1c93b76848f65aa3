use Rattle.std.proofs.Common.{◌≡◌, ◌++◌, drop}
use Rattle.std.specs.List.{flat_map}
use Rattle.memory_plan.specs.Images.{entries}
use Rattle.flow_recover.specs.Thresholds.{near_field}
use Rattle.flow_recover.proofs.thresholds.add_code.Given as goal

abbrev pub invariant-loop-entry : goal.invariant-loop-entry
invariant-loop-entry l = record {
  words : entries l.entry-items ≡ l.plan.image;
  added : l.into.items ++ flat_map (near_field l.plan) (entries (drop l.entry-index l.entry-items)) ≡ l.fn.into.items ++ flat_map (near_field l.plan) l.plan.image;
}
