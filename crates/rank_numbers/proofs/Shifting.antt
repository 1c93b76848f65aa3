-- One more part has its offset.
use Rattle.std.proofs.Common.{◌≡◌, ℕ, ◌+◌, ◌<◌, ◌≤◌, inl, inr, List, length, true, false, ap, subst, ◌∙◌, arith}
use Rattle.std.specs.Prelude.{ℤ}
use Rattle.std.specs.List.{Contains}
use Rattle.std.proofs.lemmas.List.Elements.{All-contains}
use Rattle.std.proofs.lemmas.Bool.{cases_lt}
use Rattle.strong_components.specs.Components.{part_at}
use Rattle.rank_shape.specs.Places.{Apart}
use Rattle.rank_shape.proofs.Lists.{All-from_members}
use Rattle.rank_numbers.specs.Forms.{Forms}
use Rattle.rank_numbers.specs.Offsets.{number_at}
use Rattle.rank_numbers.specs.Rows.{form_of, OthersStay, Became, Passes}
use Rattle.rank_numbers.specs.Steps.{ShiftPasses}

module _ (Form : Type 0) (o : Forms Form) (parts : List (List ℕ)) (apart : Apart parts) (offset : List ℤ) (base before : List Form) (p : ℕ) (lp : p < length parts)
    (left : (q k : ℕ) → p ≤ q → q < length parts → Contains (part_at parts q) k → form_of o before k ≡ form_of o base k) where
  abbrev Is : ℕ → List Form → List Form → ℕ → Type 0
  Is q first then k = (form_of o then k ≡ o.shift (form_of o first k) (number_at offset q)) × (o.small (form_of o then k) ≡ true)

  pub shifted_more : (after : List Form) → Became o (λ f. o.shift f (number_at offset p)) (part_at parts p) before after → OthersStay o (part_at parts p) before after
      → ((q : ℕ) → q < p → Became o (λ f. o.shift f (number_at offset q)) (part_at parts q) base before)
      → (q : ℕ) → q < p + 1 → Became o (λ f. o.shift f (number_at offset q)) (part_at parts q) base after
  shifted_more after new stay old q lt = elim (cases_lt q p) [
    | inl below ↦ All-from_members (λ k. Is q base after k) (part_at parts q) (λ k c.
        let e : form_of o after k ≡ form_of o before k = stay k (λ cp. omega (arith, apart q p k (omega arith) lp c cp)) in
        let h = All-contains (λ k. Is q base before k) (part_at parts q) k (old q below) c in
        (e ∙ h.0, ap o.small e ∙ h.1))
    | inr ge ↦ let is : p ≡ q = omega arith in
        subst (λ r. Became o (λ f. o.shift f (number_at offset r)) (part_at parts r) base after) is
        (All-from_members (λ k. Is p base after k) (part_at parts p) (λ k c.
        let h = All-contains (λ k. Is p before after k) (part_at parts p) k new c in
        (h.0 ∙ ap (λ x. o.shift x (number_at offset p)) (left p k (omega arith) lp c), h.1)))
  ]

  pub left_more : (after : List Form) → OthersStay o (part_at parts p) before after
      → (q k : ℕ) → p + 1 ≤ q → q < length parts → Contains (part_at parts q) k → form_of o after k ≡ form_of o base k
  left_more after stay q k le lq c = stay k (λ cp. omega (arith, apart q p k lq lp c cp)) ∙ left q k (omega arith) lq c

  pub away_more : (after : List Form) → OthersStay o (part_at parts p) before after
      → ((k : ℕ) → ((q : ℕ) → q < length parts → Contains (part_at parts q) k → ⊥) → form_of o before k ≡ form_of o base k)
      → (k : ℕ) → ((q : ℕ) → q < length parts → Contains (part_at parts q) k → ⊥) → form_of o after k ≡ form_of o base k
  away_more after stay old k away = stay k (away p lp) ∙ old k away

  pub shift_passes : Passes o (λ f. o.shift f (number_at offset p)) (part_at parts p) before → ShiftPasses o parts offset base
  shift_passes h = (p, lp, (h.0, h.1, subst (λ x. o.small (o.shift x (number_at offset p)) ≡ false) (left p h.0 (omega arith) lp h.1) h.2))
