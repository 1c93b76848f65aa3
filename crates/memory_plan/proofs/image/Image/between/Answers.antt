use Rattle.std.proofs.Common.{◌∙◌, ℕ, List, take, ap}
use Rattle.std.proofs.lemmas.List.{take_rest}
use Rattle.viper_word.specs.declared.word.Word.{Word}
use Rattle.memory_plan.specs.Images.{entries, Ascend, words_between}
use Rattle.memory_plan.proofs.ImageLemmas.{drop_ascends, between_by}
use Rattle.memory_plan.proofs.image.Image.between.Goals as goal

pub up_to-count-requires : goal.up_to-count-requires
up_to-count-requires c =
    let words = c.as_slice-words.result.now in
    let up : Ascend (entries words) = rw c.as_slice-words.ensures.value c.self.invariant.ascend in
    rw (take_rest words c.below-first.result) (drop_ascends c.below-first.result words up)

pub returns : goal.returns
returns c =
    let words = c.as_slice-words.result.now in
    let rest = take_rest words c.below-first.result in
    ap (λ (ws : List (ℕ × Word)). entries (take c.up_to-count.result ws)) rest
    ∙ between_by words c.args.lo c.args.hi c.below-first.result c.up_to-count.result c.below-first.ensures.place (rw rest at c.up_to-count.ensures.place)
    ∙ ap (λ (ws : List (ℕ × Word)). words_between (entries ws) c.args.lo c.args.hi) c.as_slice-words.ensures.value ∙ ap (λ (ws : List (ℕ × ℕ)). words_between ws c.args.lo c.args.hi) c.self.view_is
