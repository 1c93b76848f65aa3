use Rattle.std.proofs.Common.{ℕ, cond, arith, sym, ◌∙◌}
use Rattle.std.proofs.lemmas.List.{length-set}
use Rattle.flag_relation.specs.Facts.{values}
use Rattle.abs_step.specs.Results.{addressed}
use Rattle.abs_step.specs.declared.outcome.Post.{Post}
use Rattle.abs_step.specs.declared.outcome.Post.TheVariants.{Same, Within}
use Rattle.abs_step.proofs.CellWrites.{fill_start, fill_end, fill_step}
use Rattle.abs_step.proofs.several.set_posts.Goals as goal

pub loop-at-init : goal.loop-at-init
loop-at-init g c =
    let f : ℕ → Post = λ a. cond (addressed g.D.NumDomain.domain c.args.place.now (values c.args.side.now) a) Within Same in
    record {
      as_many = c.requires;
      fills = fill_start f c.args.cells.now c.args.posts.now c.requires;
    }

pub loop-at-preserved : goal.loop-at-preserved
loop-at-preserved g c =
    let f : ℕ → Post = λ a. cond (addressed g.D.NumDomain.domain c.args.place.now (values c.args.side.now) a) Within Same in
    let many = c.loop-at.invariant.as_many in
    let test = c.loop-at-test.true in
    record {
      as_many = many ∙ sym (length-set c.loop-at.posts c.loop-at.at c.post_of.result);
      fills = fill_step f c.loop-at.at c.args.cells.now c.loop-at.posts c.index-cells-at.result c.post_of.result (omega arith) many c.index-cells-at.is c.post_of.ensures ∙ c.loop-at.invariant.fills;
    }

pub returns-clause-posts : goal.returns-clause-posts
returns-clause-posts g c =
    let f : ℕ → Post = λ a. cond (addressed g.D.NumDomain.domain c.args.place.now (values c.args.side.now) a) Within Same in
    let many = c.loop-at.invariant.as_many in
    let test = c.loop-at-test.false in
    sym (fill_end f c.loop-at.at c.args.cells.now c.loop-at.posts (omega arith) many) ∙ c.loop-at.invariant.fills

pub returns-clause-count : goal.returns-clause-count
returns-clause-count g c = sym c.loop-at.invariant.as_many
