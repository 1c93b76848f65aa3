use Rattle.std.proofs.Common.{arith, sym, ◌∙◌}
use Rattle.std.proofs.lemmas.List.{length-set}
use Rattle.abs_step.specs.declared.outcome.Post.TheVariants.{Same}
use Rattle.abs_step.proofs.CellWrites.{fill_start, fill_end, fill_any}
use Rattle.abs_step.proofs.posts.stay.Goals as goal

pub loop-at-init : goal.loop-at-init
loop-at-init c = record {
  as_many = c.requires;
  fills = fill_start (λ _. Same) c.args.cells.now c.args.posts.now c.requires;
}

pub loop-at-preserved : goal.loop-at-preserved
loop-at-preserved c =
    let many = c.loop-at.invariant.as_many in
    let test = c.loop-at-test.true in
    record {
      as_many = many ∙ sym (length-set c.loop-at.posts c.loop-at.at Same);
      fills = fill_any Same c.loop-at.at c.args.cells.now c.loop-at.posts (omega arith) many ∙ c.loop-at.invariant.fills;
    }

pub returns-clause-posts : goal.returns-clause-posts
returns-clause-posts c =
    let many = c.loop-at.invariant.as_many in
    let test = c.loop-at-test.false in
    sym (fill_end (λ _. Same) c.loop-at.at c.args.cells.now c.loop-at.posts (omega arith) many) ∙ c.loop-at.invariant.fills

pub returns-clause-count : goal.returns-clause-count
returns-clause-count c = sym c.loop-at.invariant.as_many
