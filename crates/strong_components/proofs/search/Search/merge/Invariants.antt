use Rattle.std.proofs.Common.{◌<◌, ◌≤◌, ℕ, length}
use Rattle.strong_components.specs.Search.{first_of}
use Rattle.strong_components.proofs.search.Search.merge.Given as goal

abbrev pub invariant-loop-n : goal.invariant-loop-n
invariant-loop-n l = record {
  in_stages : l.n ≤ length l.self.stages.items;
  behind : (k : ℕ) → l.n ≤ k → k < length l.self.stages.items → l.place < first_of l.self.stages.items k;
}

abbrev pub decreases-loop-n : goal.decreases-loop-n
decreases-loop-n l = l.n
