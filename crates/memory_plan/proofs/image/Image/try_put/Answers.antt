use Rattle.std.proofs.Common.{◌≡◌, ◌∙◌, ◌<◌, ◌^◌, not, ℕ, false, List, is_some, insert, slice_get, ap, sym, refl, subst, arith}
use Rattle.std.proofs.lemmas.Grind.{common_steps}
use Rattle.std.proofs.lemmas.Option.{gets}
use Rattle.memory_plan.specs.Images.{entries, word_at, found_at, with_word, AreImageWords}
use Rattle.memory_plan.proofs.ImageLemmas.{found_by, inserted_by, image_with, is_there, some_there}
use Rattle.memory_plan.proofs.image.Image.try_put.Goals as goal
use Rattle.memory_plan.proofs.image.Image.try_put.Goals.{After-is_some, After-insert}

-- the test tells whether the address has a word
told : (c : After-is_some) → c.is_some.result ≡ is_some (word_at c.args.self.now c.args.at)
told c =
    let got : c.copied.result ≡ slice_get c.self.inside.words.items c.below-place.result = grind (arith, common_steps, gets) in
    let found = ap (found_at c.args.at) got
    ∙ found_by c.self.inside.words.items c.args.at c.below-place.result c.self.invariant.ascend (rw c.as_slice.ensures.value at c.below-place.ensures.place)
    ∙ ap (λ (ws : List (ℕ × ℕ)). word_at ws c.args.at) c.self.view_is in
    c.is_some.ensures ∙ is_there c.found_at-found.result _ (c.found_at-found.ensures ∙ found)

-- the words with one more, where the address had none
words_with : (c : After-insert) → c.is_some.result ≡ false → entries (insert c.self.inside.words.items c.below-place.result (c.args.at, c.args.word)) ≡ with_word c.args.self.now c.args.at c.args.word.0
words_with c absent =
    inserted_by c.self.inside.words.items c.args.at c.below-place.result c.args.word (rw c.as_slice.ensures.value at c.below-place.ensures.at_most) (rw c.as_slice.ensures.value at c.below-place.ensures.place)
    ∙ ap (λ (ws : List (ℕ × ℕ)). with_word ws c.args.at c.args.word.0) c.self.view_is

pub returns-then-is_some-clause-put : goal.returns-then-is_some-clause-put
returns-then-is_some-clause-put c = record { put_is = ap not (sym c.if-is_some.true ∙ told (goal.at.returns-then-is_some-clause-put c).After-is_some); words = refl }

pub invariant_of-self : goal.invariant_of-self
invariant_of-self c = rw c.in_err-insert.ensures.items c.self.invariant

pub invariant_of-self-2 : goal.invariant_of-self-2
invariant_of-self-2 c =
    let after = (goal.at.invariant_of-self-2 c).After-insert in
    let absent = some_there c.is_some.result (word_at c.args.self.now c.args.at) (told (goal.at.invariant_of-self-2 c).After-is_some) c.if-is_some.false in
    let low : c.args.at < 2 ^ 20 = omega (arith, c.get-number.ensures.number, c.get-number.ensures.in_range) in
    let small : c.args.word.0 < 2 ^ 32 = omega (arith, c.bits_of-bits.ensures, c.bits_of-bits.type_inv) in
    let image = image_with c.args.self.now c.args.at c.args.word.0 (rw c.self.view_is at c.self.invariant) low small absent in
    subst AreImageWords (sym (ap entries c.in_ok-insert.ensures.items ∙ words_with after c.if-is_some.false)) image

pub returns-clause-put : goal.returns-clause-put
returns-clause-put c =
    let after = (goal.at.returns-clause-put c).After-insert in
    record {
      put_is = ap not (sym c.if-is_some.false ∙ told (goal.at.returns-clause-put c).After-is_some);
      words = ap entries c.in_ok-insert.ensures.items ∙ words_with after c.if-is_some.false;
    }
