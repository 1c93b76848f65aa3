use Rattle.std.proofs.Common.{◌≡◌, ◌∙◌, ◌+◌, ◌-◌, ◌∷◌, ◌++◌, [], false, ℕ, Ok, Err, refl, sym, arith, true}
use Rattle.std.specs.Prelude.{Result, is_err, is_ok}
use Rattle.std.proofs.lemmas.List.Sums.{sum_by_push}
use Rattle.memory_plan.specs.Plans.{words_of}
use Rattle.memory_plan.specs.PlanRules.{meets_code}
use Rattle.memory_plan.proofs.SortedLemmas.{sorted_more}
use Rattle.memory_plan.proofs.code_spans.CodeSpans.push.Goals as goal

went_well : {A B : Type 0} (r : Result A B) → is_err r ≡ false → is_ok r ≡ true
went_well (Ok a) e = refl
went_well (Err b) e = cc

pub invariant_of-self-2 : goal.invariant_of-self-2
invariant_of-self-2 c =
    let listed = c.self.inside.listed.items in
    let sorted = c.self.inside.sorted.items in
    let place = c.below-place.result in
    let apart : meets_code listed c.args.lo c.args.hi ≡ false = rw c.self.view_is c.requires.apart in
    let more = sorted_more listed sorted c.args.lo c.args.hi place c.self.invariant.0 (rw c.as_slice.ensures.value at c.below-place.ensures.at_most) (rw c.as_slice.ensures.value at c.below-place.ensures.place) c.requires.some apart in
    let sum = sum_by_push (λ (s : ℕ × ℕ). s.1 + 1 - s.0) listed (c.args.lo, c.args.hi) in
    let words : c.self.inside.words + c.size.result ≡ words_of (listed ++ (c.args.lo, c.args.hi) ∷ []) = omega (arith, c.self.invariant.1, c.size.ensures.size, sum) in
    let few = rw (sym c.self.view_is) at c.requires.few in (
      rw (c.in_ok-push.ensures.items, c.insert.ensures.items, went_well c.insert.result (sym c.is_err.ensures.value ∙ c.if-is_err.false)) more,
      rw c.in_ok-push.ensures.items words,
      omega (arith, words, sum, few),
    )
