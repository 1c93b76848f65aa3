use Rattle.std.proofs.Common.{length, ◌-◌, ◌≡◌}
use Rattle.flag_relation.specs.Joins.{join_cells}
use Rattle.flag_relation.proofs.CellLoops.{join_from}
use Rattle.flag_relation.proofs.cells.join.Given as goal

abbrev pub invariant-loop-at : goal.invariant-loop-at
invariant-loop-at g l = (length l.cells ≡ length l.others) × (join_from g.D.NumDomain.domain l.at l.cells l.others ≡ join_cells g.D.NumDomain.domain l.initial.cells l.others)

abbrev pub decreases-loop-at : goal.decreases-loop-at
decreases-loop-at g l = length l.cells - l.at
