use Rattle.std.proofs.Common.{◌≡◌, ◌∙◌, ℕ, List, slice_get, ap, arith}
use Rattle.std.proofs.lemmas.Grind.{common_steps}
use Rattle.std.proofs.lemmas.Option.{gets}
use Rattle.memory_plan.specs.PlanRules.{meets_code}
use Rattle.memory_plan.specs.SortedSpans.{begins_by}
use Rattle.memory_plan.proofs.SortedLemmas.{met_by, meets_sorted}
use Rattle.memory_plan.proofs.code_spans.CodeSpans.meet.Goals as goal

pub returns : goal.returns
returns c =
    let sorted = c.self.inside.sorted.items in
    let got : c.copied.result ≡ slice_get sorted c.below-place.result = grind (arith, common_steps, gets) in
    c.begins_by.ensures ∙ ap (begins_by c.args.hi) got
    ∙ met_by sorted c.args.lo c.args.hi c.below-place.result c.self.invariant.0.low (rw c.as_slice.ensures.value at c.below-place.ensures.place)
    ∙ meets_sorted c.self.inside.listed.items sorted c.args.lo c.args.hi c.self.invariant.0
    ∙ ap (λ (spans : List (ℕ × ℕ)). meets_code spans c.args.lo c.args.hi) c.self.view_is
