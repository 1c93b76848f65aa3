use Rattle.std.proofs.Common.{◌<◌, ◌≤◌, ◌-◌, length}
use Rattle.fix_solver.specs.Solved.{facts_of}
use Rattle.fix_solver.specs.Tables.{place}
use Rattle.certifier.proofs.making.number_of.Given as goal

abbrev pub invariant-loop-to : goal.invariant-loop-to
invariant-loop-to g l = record {
  low : l.from ≤ place (facts_of l.solved.nodes) l.key;
  high : place (facts_of l.solved.nodes) l.key < l.to;
  end : l.to ≤ length l.solved.nodes;
}

abbrev pub decreases-loop-to : goal.decreases-loop-to
decreases-loop-to g l = l.to - l.from
