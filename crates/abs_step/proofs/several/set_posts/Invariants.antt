use Rattle.std.proofs.Common.{◌≡◌, ◌-◌, cond, length, map}
use Rattle.flag_relation.specs.Facts.{values}
use Rattle.abs_step.specs.Results.{addressed}
use Rattle.abs_step.specs.declared.outcome.Post.TheVariants.{Same, Within}
use Rattle.abs_step.proofs.CellWrites.{fill_from}
use Rattle.abs_step.proofs.several.set_posts.Given as goal

abbrev pub invariant-loop-at : goal.invariant-loop-at
invariant-loop-at g l = record {
  as_many : length l.cells ≡ length l.posts;
  fills : fill_from (λ c. cond (addressed g.D.NumDomain.domain l.place (values l.side) c) Within Same) l.at l.cells l.posts ≡ map (λ c. cond (addressed g.D.NumDomain.domain l.place (values l.side) c) Within Same) l.cells;
}

abbrev pub decreases-loop-at : goal.decreases-loop-at
decreases-loop-at g l = length l.posts - l.at
