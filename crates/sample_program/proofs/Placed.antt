-- Words that stand one behind the other from an address on.
use Rattle.std.proofs.Common.{◌≡◌, ◌∙◌, ℕ, zero, suc, ◌+◌, ◌<◌, ◌≤◌, Bool, true, false, cond, eqb, ltb, List, [], ◌∷◌, ◌++◌, length, Some, None, is_some, refl, sym, ap, arith}
use Rattle.std.proofs.lemmas.Bool.Decides.{nat_tests}
use Rattle.memory_plan.specs.Images.{ImageWords, word_at, with_word, IsPut}
use Rattle.memory_plan.specs.PlanRules.{all_words}
use Rattle.sample_program.specs.Samples.{placed}

-- none is behind the last
none_behind : (at : ℕ) (ws : List ℕ) (k : ℕ) → at + length ws ≤ k → word_at (placed at ws) k ≡ None
none_behind at [] k h = refl
none_behind at (w ∷ ws) k h =
    let differs : eqb at k ≡ false = grind (arith, nat_tests) in
    rw differs (none_behind (at + 1) ws k (omega arith))

-- one more is put last
put_last : (at : ℕ) (ws : List ℕ) (k w : ℕ) → at + length ws ≡ k → with_word (placed at ws) k w ≡ placed at (ws ++ w ∷ [])
put_last at [] k w h = let same : at ≡ k = omega arith in ap (λ (i : ℕ). (i, w) ∷ []) (sym same)
put_last at (v ∷ ws) k w h =
    let less : ltb at k ≡ true = grind (arith, nat_tests) in
    rw less (ap (λ (es : ImageWords). (at, v) ∷ es) (put_last (at + 1) ws k w (omega arith)))

pub put_on : (ws : List ℕ) (k w : ℕ) (after : ImageWords) (put : Bool) → length ws ≡ k → IsPut (placed 0 ws) k w after put → after ≡ placed 0 (ws ++ w ∷ [])
put_on ws k w after put h is =
    let none : word_at (placed 0 ws) k ≡ None = none_behind 0 ws k (omega arith) in
    let true_put : put ≡ true = rw none at is.put_is in
    let words = rw true_put at is.words in
    words ∙ put_last 0 ws k w (omega arith)

-- each of them is there
there : (at : ℕ) (ws : List ℕ) (k : ℕ) → at ≤ k → k < at + length ws → is_some (word_at (placed at ws) k) ≡ true
there at [] k low high = absurd (omega arith)
there at (w ∷ ws) k low high = by (eqb at k) refl (there (at + 1) ws k)
  where
    by : (b : Bool) → eqb at k ≡ b → (at + 1 ≤ k → k < at + 1 + length ws → is_some (word_at (placed (at + 1) ws) k) ≡ true)
        → is_some (cond b (Some w) (word_at (placed (at + 1) ws) k)) ≡ true
    by true e rest = refl
    by false e rest = rest (grind (arith, nat_tests)) (omega arith)

pub all_there : (ws : List ℕ) (k count : ℕ) → k + count ≤ length ws → all_words (placed 0 ws) k count ≡ true
unfolding all_words
all_there ws k zero h = refl
all_there ws k (suc count) h = rw (there 0 ws k (omega arith) (omega arith)) (all_there ws (k + 1) count (omega arith))
