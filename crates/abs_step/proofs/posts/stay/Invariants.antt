use Rattle.std.proofs.Common.{◌≡◌, ◌-◌, length, map}
use Rattle.abs_step.specs.declared.outcome.Post.TheVariants.{Same}
use Rattle.abs_step.proofs.CellWrites.{fill_from}
use Rattle.abs_step.proofs.posts.stay.Given as goal

abbrev pub invariant-loop-at : goal.invariant-loop-at
invariant-loop-at l = record {
  as_many : length l.cells ≡ length l.posts;
  fills : fill_from (λ _. Same) l.at l.cells l.posts ≡ map (λ _. Same) l.cells;
}

abbrev pub decreases-loop-at : goal.decreases-loop-at
decreases-loop-at l = length l.posts - l.at
