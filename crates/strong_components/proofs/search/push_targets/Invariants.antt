use Rattle.std.proofs.Common.{◌≡◌, ◌<◌, ◌≤◌, ◌-◌, ℕ, ◌++◌, length, take, drop, map, get_or}
use Rattle.strong_components.specs.declared.edge.Edge.{Edge}
use Rattle.strong_components.proofs.search.push_targets.Given as goal

abbrev pub invariant-loop-i : goal.invariant-loop-i
invariant-loop-i l = record {
  before : (k : ℕ) (d : Edge) → k < l.start → (get_or l.edges k d).from < l.key;
  behind : (k : ℕ) (d : Edge) → l.start ≤ k → k < length l.edges → l.key ≤ (get_or l.edges k d).from;
  from_start : l.start ≤ l.i;
  in_edges : l.i ≤ length l.edges;
  pushed : l.waiting.items ≡ l.initial.waiting.items ++ map (λ (e : Edge). e.to) (take (l.i - l.start) (drop l.start l.edges));
  of_key : (k : ℕ) (d : Edge) → l.start ≤ k → k < l.i → (get_or l.edges k d).from ≡ l.key;
}

abbrev pub decreases-loop-i : goal.decreases-loop-i
decreases-loop-i l = length l.edges - l.i
