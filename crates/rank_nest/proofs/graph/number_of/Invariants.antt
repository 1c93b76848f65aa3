use Rattle.std.proofs.Common.{◌≡◌, ℕ, ◌<◌, false, get_or}
use Rattle.flow_recover.specs.Keys.{same_key}
use Rattle.rank_nest.specs.Graph.{node_at}
use Rattle.rank_nest.proofs.graph.number_of.Given as goal

abbrev pub invariant-loop-number : goal.invariant-loop-number
invariant-loop-number g l = (j : ℕ) → j < l.number-index
    → same_key (node_at g.D.NumDomain.domain l.solved.nodes (get_or l.number-items j 0)).key l.target ≡ false
