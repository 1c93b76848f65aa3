use Rattle.std.proofs.Common.{◌≡◌, length, take}
use Rattle.rank_nest.specs.Building.{IsExtended}
use Rattle.rank_nest.specs.Graph.{steps_from}
use Rattle.rank_nest.specs.Ready.{no_graph}
use Rattle.rank_nest.proofs.graph.graph_of.Given as goal

abbrev pub invariant-loop-from : goal.invariant-loop-from
invariant-loop-from g l = record {
  built : IsExtended g.D.NumDomain.domain (no_graph (length l.solved.cells)) (steps_from g.D.NumDomain.domain l.plan l.solved.cells l.solved.nodes 0 (take l.from l.solved.nodes)) l.graph;
  room : l.scratch.cells ≡ length l.solved.cells;
}
