use Rattle.std.proofs.Common.{◌≡◌, ◌<◌, ◌≤◌, ◌-◌, ℕ, ◌++◌, length, take, drop, get_or}
use Rattle.strong_components.specs.declared.search.Mark.TheVariants.{Done}
use Rattle.strong_components.specs.Search.{mark_of}
use Rattle.strong_components.proofs.search.Search.close.Given as goal

abbrev pub invariant-loop-i : goal.invariant-loop-i
invariant-loop-i l = record {
  same_length : length l.marks ≡ length l.fn.marks;
  new : (j : ℕ) → l.first ≤ j → j < l.i → mark_of l.marks (get_or l.self.trail.items j 0) ≡ Done l.number;
  rest : (v : ℕ) → ((j : ℕ) → l.first ≤ j → j < l.i → get_or l.self.trail.items j 0 ≡ v → ⊥) → mark_of l.marks v ≡ mark_of l.fn.marks v;
  trail : l.self.trail.items ≡ l.initial.self.trail.items;
  closed : l.self.closed.items ≡ l.initial.self.closed.items ++ take (l.i - l.first) (drop l.first l.initial.self.trail.items);
  waiting : l.self.waiting.items ≡ l.initial.self.waiting.items;
  stages : l.self.stages.items ≡ l.initial.self.stages.items;
}
