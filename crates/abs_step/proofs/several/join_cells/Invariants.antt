use Rattle.std.proofs.Common.{◌≡◌, ◌-◌, cond, length}
use Rattle.flag_relation.specs.Facts.{values}
use Rattle.abs_step.specs.Results.{addressed}
use Rattle.abs_step.proofs.CellWrites.{zip_from}
use Rattle.abs_step.proofs.several.join_cells.Given as goal

abbrev pub invariant-loop-at : goal.invariant-loop-at
invariant-loop-at g l = record {
  as_many : length l.cells ≡ length l.after.cells;
  fills : zip_from (λ c v. cond (addressed g.D.NumDomain.domain l.place (values l.side) c) (g.D.NumDomain.domain.join v l.stored) v) l.at l.cells l.after.cells ≡ zip_from (λ c v. cond (addressed g.D.NumDomain.domain l.place (values l.side) c) (g.D.NumDomain.domain.join v l.stored) v) 0 l.cells l.fn.after.cells;
  others : l.after ≡ record l.fn.after { cells = l.after.cells };
}

abbrev pub decreases-loop-at : goal.decreases-loop-at
decreases-loop-at g l = l.count - l.at
