use Rattle.std.proofs.Common.{◌≡◌, map, take}
use Rattle.std.specs.BTreeSet.{contains}
use Rattle.std.specs.List.{list_any}
use Rattle.rank_nest.specs.declared.telling.Ends.{Ends}
use Rattle.rank_nest.specs.Told.{ends_cmp, same_ends, ends_of}
use Rattle.rank_nest.proofs.telling.ends_of.Given as goal

abbrev pub invariant-loop-edge : goal.invariant-loop-edge
invariant-loop-edge l = (p : Ends) → contains ends_cmp l.found p ≡ list_any (same_ends p) (map ends_of (take l.edge-index l.edges))
