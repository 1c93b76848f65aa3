use Rattle.std.proofs.Common.{length, ◌≡◌, ◌≤◌, ◌^◌, ◌-◌, ◌*◌}
use Rattle.std.specs.Prelude.{unsigned_abs}
use Rattle.flag_relation.specs.declared.var.Var.TheVariants.{Cell}
use Rattle.rank_form.specs.Weights.{sum_below}
use Rattle.rank_form.specs.Rates.{net_most}
use Rattle.rank_form.proofs.bound.cells_most.Given as goal

abbrev pub invariant-loop-at : goal.invariant-loop-at
invariant-loop-at g l = record {
  in_range : l.at ≤ length l.fact.cells;
  sum : l.total ≡ sum_below l.at (λ i. net_most g.D.NumDomain.domain l.fact l.plus l.minus (Cell i));
  size : unsigned_abs l.total ≤ l.at * 2 ^ 110;
}

abbrev pub decreases-loop-at : goal.decreases-loop-at
decreases-loop-at g l = length l.fact.cells - l.at
