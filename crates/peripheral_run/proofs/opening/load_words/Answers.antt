use Rattle.std.proofs.Common.{◌≡◌, ℕ, drop, ◌∙◌, ◌-◌, ◌+◌, length, refl, sym, subst, arith}
use Rattle.viper_word.specs.Machine.{State, IsState}
use Rattle.memory_plan.specs.Images.{entries}
use Rattle.peripheral_run.specs.Opening.{Fills, words_over}
use Rattle.peripheral_run.proofs.Filling.{word_loaded, no_word_loaded}
use Rattle.peripheral_run.proofs.opening.load_words.Goals as goal

pub loop-left-init : goal.loop-left-init
loop-left-init c = record {
  profile = refl;
  fills = no_word_loaded c.args.machine.now.state c.args.words.now (length c.args.words.now) (omega arith);
  within = omega arith;
}

pub loop-left-preserved : goal.loop-left-preserved
loop-left-preserved c =
    let s = c.args.machine.now.state in
    let words = c.args.words.now in
    let i = c.loop-left.left - 1 in
    let back : c.loop-left.left ≡ i + 1 = omega (arith, c.loop-left-test.true) in
    record {
      profile = c.load.ensures.profile ∙ c.loop-left.invariant.profile;
      fills = subst (λ (u : State). Fills s u (words_over (entries (drop i words)) s)) (sym c.load.ensures.state)
          (word_loaded s c.loop-left.machine.state words i c.index-words-left.result (omega (arith, c.loop-left.invariant.within, c.loop-left-test.true)) c.index-words-left.is (subst IsState c.load.ensures.state c.load.ensures.words)
          (subst (λ (n : ℕ). Fills s c.loop-left.machine.state (words_over (entries (drop n words)) s)) back c.loop-left.invariant.fills));
      within = omega (arith, c.loop-left.invariant.within);
    }
