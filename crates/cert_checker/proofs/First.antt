-- The first refusal of a list.
use Rattle.std.proofs.Common.{◌≡◌, ℕ, zero, suc, ◌+◌, ◌<◌, List, [], ◌∷◌, Option, Some, None, refl, sym, subst, ◌∙◌, slice_get, arith, zero-add}
use Rattle.std.specs.List.{AllByRecursion}
use Rattle.std.proofs.lemmas.Option.{none-some, same_Some}
use Rattle.cert_checker.specs.Verdicts.{or_else, first_of}
use Rattle.cert_checker.specs.Exactness.{IsFirst, NoneRefused}
use Rattle.cert_checker.specs.declared.verdict.Refusal.{Refusal}

pub or_none : (o p : Option Refusal) → or_else o p ≡ None → (o ≡ None) × (p ≡ None)
or_none None p h = (refl, h)
or_none (Some r) p h = absurd (none-some r (sym h))

module _ {A : Type 0} (refusal : ℕ → A → Option Refusal) where
  -- none is refused where each has what isn't refused
  pub all_pass : (P : A → Type 0) → ((k : ℕ) (x : A) → P x → refusal k x ≡ None) → (k : ℕ) (xs : List A) → AllByRecursion P xs → first_of refusal k xs ≡ None
  all_pass P h k [] all = refl
  all_pass P h k (x ∷ xs) all = rw (h k x all.0) (all_pass P h (k + 1) xs all.1)

  -- and each has it where none is refused
  pub each_passes : (P : A → Type 0) → ((k : ℕ) (x : A) → refusal k x ≡ None → P x) → (k : ℕ) (xs : List A) → first_of refusal k xs ≡ None → AllByRecursion P xs
  each_passes P h k [] none = tt
  each_passes P h k (x ∷ xs) none =
      let parts = or_none (refusal k x) (first_of refusal (k + 1) xs) none in
      (h k x parts.0, each_passes P h (k + 1) xs parts.1)

  none_from : (k : ℕ) (xs : List A) → first_of refusal k xs ≡ None → (j : ℕ) (x : A) → slice_get xs j ≡ Some x → refusal (k + j) x ≡ None
  none_from k [] none j x there = absurd (none-some x there)
  none_from k (y ∷ xs) none zero x there =
      let same : y ≡ x = same_Some y x there in
      let here : refusal k x ≡ None = rw (← same) (or_none (refusal k y) (first_of refusal (k + 1) xs) none).0 in
      subst (λ (n : ℕ). refusal n x ≡ None) (omega arith) here
  none_from k (y ∷ xs) none (suc j) x there =
      let rest = none_from (k + 1) xs (or_none (refusal k y) (first_of refusal (k + 1) xs) none).1 j x there in
      subst (λ (n : ℕ). refusal n x ≡ None) (omega arith) rest

  pub none_refused : (xs : List A) → first_of refusal 0 xs ≡ None → NoneRefused refusal xs
  none_refused xs none j x there = subst (λ (n : ℕ). refusal n x ≡ None) (zero-add j) (none_from 0 xs none j x there)

  record Found (k : ℕ) (xs : List A) (r : Refusal) : Type 0 where
    i : ℕ
    x : A
    there : slice_get xs i ≡ Some x
    refused : refusal (k + i) x ≡ Some r
    before : (j : ℕ) (y : A) → j < i → slice_get xs j ≡ Some y → refusal (k + j) y ≡ None

  earlier : (k : ℕ) (x : A) (xs : List A) (r : Refusal) → refusal k x ≡ None → (f : Found (k + 1) xs r) → (j : ℕ) (y : A) → j < suc f.i → slice_get (x ∷ xs) j ≡ Some y → refusal (k + j) y ≡ None
  earlier k x xs r e f zero y low at =
      let same : x ≡ y = same_Some x y at in
      let here : refusal k y ≡ None = rw (← same) e in
      subst (λ (n : ℕ). refusal n y ≡ None) (omega arith) here
  earlier k x xs r e f (suc j) y low at = subst (λ (n : ℕ). refusal n y ≡ None) (omega arith) (f.before j y (omega (arith, low)) at)

  found_by : (k : ℕ) (x : A) (xs : List A) (r : Refusal) (o : Option Refusal) → refusal k x ≡ o → (first_of refusal (k + 1) xs ≡ Some r → Found (k + 1) xs r)
      → or_else o (first_of refusal (k + 1) xs) ≡ Some r → Found k (x ∷ xs) r
  found_by k x xs r (Some q) e more h = record {
    i = 0;
    x = x;
    there = refl;
    refused = subst (λ (n : ℕ). refusal n x ≡ Some r) (omega arith) (e ∙ h);
    before = λ j y low at. absurd (omega (arith, low));
  }
  found_by k x xs r None e more h =
      let f = more h in
      record {
        i = suc f.i;
        x = f.x;
        there = f.there;
        refused = subst (λ (n : ℕ). refusal n f.x ≡ Some r) (omega arith) f.refused;
        before = earlier k x xs r e f;
      }

  found : (k : ℕ) (xs : List A) (r : Refusal) → first_of refusal k xs ≡ Some r → Found k xs r
  found k [] r h = absurd (none-some r h)
  found k (x ∷ xs) r h = found_by k x xs r (refusal k x) refl (found (k + 1) xs r) h

  pub first_found : (xs : List A) (r : Refusal) → first_of refusal 0 xs ≡ Some r → IsFirst refusal xs r
  first_found xs r h =
      let f = found 0 xs r h in
      record {
        number = f.i;
        element = f.x;
        there = f.there;
        refused = subst (λ (n : ℕ). refusal n f.x ≡ Some r) (zero-add f.i) f.refused;
        before = λ j y low at. subst (λ (n : ℕ). refusal n y ≡ None) (zero-add j) (f.before j y low at);
      }
