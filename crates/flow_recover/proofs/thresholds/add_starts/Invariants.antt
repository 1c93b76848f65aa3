use Rattle.std.proofs.Common.{◌≡◌, ◌++◌, drop}
use Rattle.std.specs.List.{flat_map}
use Rattle.flow_recover.specs.Thresholds.{ends_of_start}
use Rattle.flow_recover.proofs.thresholds.add_starts.Given as goal

abbrev pub invariant-loop-start : goal.invariant-loop-start
invariant-loop-start l = l.into.items ++ flat_map ends_of_start (drop l.start-index l.starts) ≡ l.fn.into.items ++ flat_map ends_of_start l.starts
