use Rattle.std.proofs.Common.{sym, ◌∙◌}
use Rattle.flag_relation.specs.Facts.{values}
use Rattle.abs_step.specs.Results.{addressed, span_sources}
use Rattle.abs_step.proofs.JoinLaws.{all_greatest}
use Rattle.abs_step.proofs.operands.+join_input.Goals as goal

pub returns-then-is_greatest : goal.returns-then-is_greatest
returns-then-is_greatest g t c =
    let d = g.D.NumDomain.domain in
    let p = addressed d c.args.place.now (values c.args.fact.now) in
    sym (all_greatest d g.met.D.NumDomain.laws c.args.so_far (span_sources d p c.args.spans.now) (sym c.is_greatest.ensures ∙ c.if-is_greatest.true))
