use Rattle.std.proofs.Common.{◌≡◌, ◌∙◌, sym, true, false}
use Rattle.viper_word.specs.Words.{signed_value}
use Rattle.memory_plan.proofs.RangeIn.{test_is_in, in_is_test}
use Rattle.peripheral_run.proofs.script_text.is_in.Goals as goal

pub returns-clause-yes : goal.returns-clause-yes
returns-clause-yes c = λ e. test_is_in c.args.range.now (signed_value c.args.word.0) c.has.ensures.normal (sym c.has.ensures.has ∙ e)

pub returns-clause-no : goal.returns-clause-no
returns-clause-no c = λ e h. absurd (true_false (sym (in_is_test c.args.range.now (signed_value c.args.word.0) c.has.ensures.normal h) ∙ sym c.has.ensures.has ∙ e))
  where
    true_false : true ≡ false → ⊥
    true_false k = cc
