use Rattle.std.proofs.Common.{◌≡◌, ◌-◌, length, map}
use Rattle.abs_step.specs.Starts.{cell_at}
use Rattle.abs_step.proofs.CellWrites.{fill_from}
use Rattle.abs_step.proofs.starting.set_cells.Given as goal

abbrev pub invariant-loop-at : goal.invariant-loop-at
invariant-loop-at g l = record {
  as_many : length l.cells ≡ length l.into.cells;
  fills : fill_from (cell_at g.D.NumDomain.domain l.plan) l.at l.cells l.into.cells ≡ map (cell_at g.D.NumDomain.domain l.plan) l.cells;
  others : l.into ≡ record l.initial.into { cells = l.into.cells };
}

abbrev pub decreases-loop-at : goal.decreases-loop-at
decreases-loop-at g l = l.count - l.at
