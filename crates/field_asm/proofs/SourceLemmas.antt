-- What a map of labels and an image give, as the definitions say it.
use Rattle.std.proofs.Common.{◌≡◌, ℕ, Bool, true, false, cond, List, [], ◌∷◌, ◌++◌, Option, Some, None, is_some, not, Result, Ok, Err, refl, ap}
use Rattle.std.specs.Result.{OnOk, is_err}
use Rattle.std.specs.Borrow.{Bor}
use Rattle.std.specs.Map.{lookup}
use Rattle.std.specs.Str.{bytes_eq}
use Rattle.memory_plan.specs.Images.{ImageWords, IsPut, word_at, with_word}
use Rattle.indexmap.specs.IndexMap.{insert_entry}
use Rattle.field_asm.specs.Sources.{Labels, label_at, put_word}
use Rattle.field_asm.specs.Views.{labels_view}

pub label_found : (es : List (Bor (List ℕ) × ℕ)) (text : List ℕ) → lookup (λ k. bytes_eq text k.now) es ≡ label_at (labels_view es) text
label_found [] text = refl
label_found (e ∷ es) text = ap (λ (o : Option ℕ). cond (bytes_eq text e.0.now) (Some e.1) o) (label_found es text)

pub word_put : (before : ImageWords) (at word : ℕ) (after : ImageWords) (put : Bool) → IsPut before at word after put → after ≡ put_word before at word
word_put before at word after put is = by put (is_some (word_at before at)) is.put_is is.words
  where
    by : (put there : Bool) → put ≡ not there → after ≡ cond put (with_word before at word) before → after ≡ cond there before (with_word before at word)
    by true true e f = cc
    by true false e f = f
    by false true e f = f
    by false false e f = cc

-- a key that isn't there goes last
pub label_added : (es : List (Bor (List ℕ) × ℕ)) (key : Bor (List ℕ)) (at : ℕ) → label_at (labels_view es) key.now ≡ None
    → labels_view (insert_entry (λ a b. bytes_eq a.now b.now) es key at) ≡ labels_view es ++ (key.now, at) ∷ []
label_added [] key at none = refl
label_added (e ∷ es) key at none = by (bytes_eq key.now e.0.now) (label_added es key at) none
  where
    by : (b : Bool) → (label_at (labels_view es) key.now ≡ None → labels_view (insert_entry (λ a b. bytes_eq a.now b.now) es key at) ≡ labels_view es ++ (key.now, at) ∷ [])
        → cond b (Some e.1) (label_at (labels_view es) key.now) ≡ None
        → labels_view (cond b ((e.0, at) ∷ es) (e ∷ insert_entry (λ a b. bytes_eq a.now b.now) es key at)) ≡ (e.0.now, e.1) ∷ (labels_view es ++ (key.now, at) ∷ [])
    by true rest f = absurd cc
    by false rest f = ap (λ (ls : Labels). (e.0.now, e.1) ∷ ls) (rest f)

pub where_ok : {A B : Type 0} {X : Type 0} (r : Result A B) → OnOk r X → is_err r ≡ false → X
where_ok (Ok a) h e = h
where_ok (Err b) h e = absurd cc
