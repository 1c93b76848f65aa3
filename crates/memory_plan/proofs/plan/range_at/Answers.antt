use Rattle.std.proofs.Common.{◌∙◌, sym, ap, true, false, Some}
use Rattle.memory_plan.specs.Ranges.{Span}
use Rattle.memory_plan.specs.Plans.{has_address}
use Rattle.memory_plan.proofs.QueryLemmas.{range_found, no_range}
use Rattle.memory_plan.proofs.plan.range_at.Goals as goal

pub returns-then-has_address : goal.returns-then-has_address
returns-then-has_address c =
    ap (λ (s : Span). Some s.2) c.span-item.is
    ∙ sym (c.loop-span.invariant ∙ range_found c.args.spans.now c.args.at c.loop-span.span-index c.span-item.result true c.loop-span-test.true
    (sym c.if-has_address.true ∙ c.has_address.ensures ∙ ap (λ (s : Span). has_address s c.args.at) c.span-item.is))

pub loop-span-preserved : goal.loop-span-preserved
loop-span-preserved c =
    c.loop-span.invariant ∙ range_found c.args.spans.now c.args.at c.loop-span.span-index c.span-item.result false c.loop-span-test.true
    (sym c.if-has_address.false ∙ c.has_address.ensures ∙ ap (λ (s : Span). has_address s c.args.at) c.span-item.is)

pub returns : goal.returns
returns c = sym (c.loop-span.invariant ∙ no_range c.args.spans.now c.args.at c.loop-span.span-index c.loop-span-test.false)
