-- What a text says as an image are addresses and words.
use Rattle.std.proofs.Common.{◌≡◌, ℕ, ◌^◌, ◌<◌, List, [], ◌∷◌, map, Option, Some, None, refl, subst}
use Rattle.std.specs.Option.{option_and_then}
use Rattle.std.proofs.lemmas.Option.{same_Some}
use Rattle.text_lines.specs.Lines.{lines_of}
use Rattle.text_lines.specs.Parts.{tokens_of, two}
use Rattle.memory_plan.specs.Hex.{hex_number}
use Rattle.memory_plan.specs.Images.{word_of_line, Fit, AreImageWords, IsImage}
use Rattle.memory_plan.proofs.PlanFits.{hex_small}

word_fits : (line : List ℕ) (e : ℕ × ℕ) → word_of_line line ≡ Some e → (e.0 < 2 ^ 20) × (e.1 < 2 ^ 32)
unfolding word_of_line
word_fits line e h = by (two (tokens_of line)) h
  where
    pair : (a b : ℕ) → Some (a, b) ≡ Some e → a < 16 ^ 5 → b < 16 ^ 8 → (e.0 < 2 ^ 20) × (e.1 < 2 ^ 32)
    pair a b f low small = let same : (a, b) ≡ e = same_Some (a, b) e f in subst (λ (x : ℕ × ℕ). (x.0 < 2 ^ 20) × (x.1 < 2 ^ 32)) same (low, small)

    words : (a : ℕ) (text : List ℕ) (word : Option ℕ) → hex_number 8 text ≡ word → option_and_then (λ b. Some (a, b)) word ≡ Some e → a < 16 ^ 5 → (e.0 < 2 ^ 20) × (e.1 < 2 ^ 32)
    words a text None is f low = absurd cc
    words a text (Some b) is f low = pair a b f low (hex_small 8 text b is)

    ats : (t : List ℕ × List ℕ) (at : Option ℕ) → hex_number 5 t.0 ≡ at → option_and_then (λ a. option_and_then (λ b. Some (a, b)) (hex_number 8 t.1)) at ≡ Some e → (e.0 < 2 ^ 20) × (e.1 < 2 ^ 32)
    ats t None is f = absurd cc
    ats t (Some a) is f = words a t.1 (hex_number 8 t.1) refl f (hex_small 5 t.0 a is)

    by : (o : Option (List ℕ × List ℕ)) → option_and_then (λ t. option_and_then (λ a. option_and_then (λ b. Some (a, b)) (hex_number 8 t.1)) (hex_number 5 t.0)) o ≡ Some e → (e.0 < 2 ^ 20) × (e.1 < 2 ^ 32)
    by None f = absurd cc
    by (Some t) f = ats t (hex_number 5 t.0) refl f

words_fit : (lines : List (List ℕ)) (words : List (ℕ × ℕ)) → map word_of_line lines ≡ map Some words → Fit words
words_fit lines [] e = tt
words_fit [] (w ∷ ws) e = absurd cc
words_fit (l ∷ ls) (w ∷ ws) e =
    let first : word_of_line l ≡ Some w = cc in
    let others : map word_of_line ls ≡ map Some ws = cc in
    let fits = word_fits l w first in
    (fits.0, fits.1, words_fit ls ws others)

pub image_fits : (text : List ℕ) (words : List (ℕ × ℕ)) → IsImage text words → AreImageWords words
image_fits text words is = record { ascend = is.ascending; fit = words_fit (lines_of text) words is.lines }
