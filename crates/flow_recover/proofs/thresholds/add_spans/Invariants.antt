use Rattle.std.proofs.Common.{◌≡◌, ◌++◌, drop}
use Rattle.std.specs.List.{flat_map}
use Rattle.flow_recover.specs.Thresholds.{ends_at}
use Rattle.flow_recover.proofs.thresholds.add_spans.Given as goal

abbrev pub invariant-loop-span : goal.invariant-loop-span
invariant-loop-span l = l.into.items ++ flat_map ends_at (drop l.span-index l.spans) ≡ l.fn.into.items ++ flat_map ends_at l.spans
