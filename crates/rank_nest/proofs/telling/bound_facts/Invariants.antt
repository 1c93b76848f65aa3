use Rattle.std.proofs.Common.{ℕ, ◌<◌, ◌≤◌, ◌^◌}
use Rattle.std.specs.Prelude.{unsigned_abs}
use Rattle.rank_form.specs.Bounds.{lower}
use Rattle.rank_nest.specs.Candidates.{candidate_form}
use Rattle.rank_nest.specs.Graph.{node_at}
use Rattle.rank_nest.proofs.telling.bound_facts.Given as goal

abbrev pub invariant-loop-key : goal.invariant-loop-key
invariant-loop-key g l = (k c : ℕ) → k < l.key → unsigned_abs (lower g.D.NumDomain.domain (candidate_form c) (node_at g.D.NumDomain.domain l.solved.nodes k).fact) ≤ 2 ^ 39
