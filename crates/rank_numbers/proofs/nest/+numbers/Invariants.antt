use Rattle.std.proofs.Common.{◌+◌, ◌*◌, length}
use Rattle.strong_components.specs.Groups.{lists_of}
use Rattle.rank_numbers.specs.Rows.{OthersStay}
use Rattle.rank_numbers.specs.Steps.{HasPlaces, PartsDone}
use Rattle.rank_numbers.proofs.nest.+numbers.Given as goal

abbrev pub decreases-graph_numbers : goal.decreases-graph_numbers
decreases-graph_numbers g l = 2 * length l.edges.now + 1

abbrev pub decreases-part_numbers : goal.decreases-part_numbers
decreases-part_numbers g l = 2 * length l.edges.now

abbrev pub invariant-graph_numbers-loop-p : goal.invariant-graph_numbers-loop-p
invariant-graph_numbers-loop-p g l = record {
  done : PartsDone (g.R.Ranks.forms l.ranks) l.moves l.edges (lists_of l.found.parts.items) l.forms l.highs.items l.fn.levels.items l.levels.items l.p;
  others : OthersStay (g.R.Ranks.forms l.ranks) l.keys l.fn.forms l.forms;
  places : HasPlaces (length l.into) l.marks l.places l.forms;
  room : g.R.Ranks.has_room l.ranks l.scratch;
}
