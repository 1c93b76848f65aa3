use Rattle.std.proofs.Common.{◌∙◌, ◌+◌, ◌-◌, ◌<◌, Bool, sym, ap, arith}
use Rattle.std.specs.Prelude.{◌&&◌}
use Rattle.memory_plan.specs.PlanRules.{all_words}
use Rattle.memory_plan.proofs.PlanTextLemmas.{words_more, words_done}
use Rattle.memory_plan.proofs.plan_rules.all_words.Goals as goal

pub returns-then-not-has_word : goal.returns-then-not-has_word
returns-then-not-has_word c =
    let lt : c.loop-next.next < c.args.hi + 1 = omega (arith, c.loop-next-test.true, c.loop-next.invariant.end) in
    sym (c.loop-next.invariant.so_far ∙ words_more c.args.image.now c.loop-next.next (c.args.hi + 1) lt
    ∙ ap (λ (b : Bool). b && all_words c.args.image.now (c.loop-next.next + 1) (c.args.hi + 1 - (c.loop-next.next + 1))) (sym c.has_word.ensures ∙ c.if-not-has_word.true))

pub loop-next-preserved : goal.loop-next-preserved
loop-next-preserved c =
    let lt : c.loop-next.next < c.args.hi + 1 = omega (arith, c.loop-next-test.true, c.loop-next.invariant.end) in
    record {
      end = c.loop-next.invariant.end;
      so_far = c.loop-next.invariant.so_far ∙ words_more c.args.image.now c.loop-next.next (c.args.hi + 1) lt
          ∙ ap (λ (b : Bool). b && all_words c.args.image.now (c.loop-next.next + 1) (c.args.hi + 1 - (c.loop-next.next + 1))) (sym c.has_word.ensures ∙ c.if-not-has_word.false);
    }

pub returns : goal.returns
returns c =
    sym (c.loop-next.invariant.so_far ∙ words_done c.args.image.now c.loop-next.next (c.args.hi + 1) (omega (arith, c.loop-next-test.false, c.loop-next.invariant.end)))
