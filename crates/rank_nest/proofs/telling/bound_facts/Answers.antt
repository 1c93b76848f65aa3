use Rattle.std.proofs.Common.{◌≡◌, ℕ, ◌<◌, ◌≤◌, ◌^◌, ◌⊎◌, ⊎_elim, arith, sym, subst}
use Rattle.std.specs.Prelude.{unsigned_abs}
use Rattle.flag_relation.specs.Facts.{FactOf}
use Rattle.rank_form.specs.Bounds.{lower}
use Rattle.rank_form.proofs.LowEnds.{low_small}
use Rattle.rank_nest.specs.Candidates.{variable, is_down, candidate_form}
use Rattle.rank_nest.specs.Graph.{no_node, node_at}
use Rattle.rank_nest.proofs.telling.bound_facts.Goals as goal

pub loop-key-preserved : goal.loop-key-preserved
loop-key-preserved g c = λ k n lt.
    let d = g.D.NumDomain.domain in
    let ns = c.args.solved.now.nodes in
    let i = c.loop-key.key in
    let fact = c.fact.ensures (no_node d) in
    let limits = c.count-count.ensures.limits in
    let here : unsigned_abs (lower d (candidate_form n) (node_at d ns i).fact) ≤ 2 ^ 39 =
    subst (λ (x : FactOf g.row.D.Denot). unsigned_abs (lower d (candidate_form n) x) ≤ 2 ^ 39) fact
    (low_small d g.met.D.NumDomain.laws (variable n) (is_down n) c.fact.result.now limits.few limits.linked) in
    let cases : (k < i) ⊎ (k ≡ i) = grind arith in
    ⊎_elim (λ (h : k < i). c.loop-key.invariant k n h)
    (λ (h : k ≡ i). subst (λ (j : ℕ). unsigned_abs (lower d (candidate_form n) (node_at d ns j).fact) ≤ 2 ^ 39) (sym h) here) cases
