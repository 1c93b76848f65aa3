use Rattle.std.proofs.Common.{◌≡◌, ◌≤◌, ◌-◌}
use Rattle.rank_nest.specs.Bits.{bits}
use Rattle.rank_nest.specs.Candidates.{grows_by, falls_by}
use Rattle.rank_nest.proofs.masks.moves_over.Given as goal

abbrev pub invariant-loop-candidate : goal.invariant-loop-candidate
invariant-loop-candidate g l = record {
  within : l.candidate ≤ l.count;
  grow : l.grow ≡ bits (grows_by g.D.NumDomain.domain l.out) l.candidate (l.count - l.candidate);
  fall : l.fall ≡ bits (falls_by g.D.NumDomain.domain l.out) l.candidate (l.count - l.candidate);
}

abbrev pub decreases-loop-candidate : goal.decreases-loop-candidate
decreases-loop-candidate g l = l.candidate
