-- The end of the trail is marked as done, key by key.
use Rattle.std.proofs.Common.{◌≡◌, ℕ, ◌+◌, ◌-◌, ◌<◌, ◌≤◌, List, [], ◌∷◌, ◌++◌, length, get_or, set, take, drop, sym, ap, subst, ◌∙◌, inl, inr, arith}
use Rattle.std.proofs.lemmas.List.{get_or-set_same, get_or-set_other, take_more, length-drop, get_or-drop, append_assoc}
use Rattle.std.proofs.lemmas.Bool.{cases_eq, cases_lt}
use Rattle.strong_components.specs.declared.search.Mark.{Mark}
use Rattle.strong_components.specs.declared.search.Mark.TheVariants.{Unseen}
use Rattle.strong_components.specs.Search.{mark_of}

-- a mark that is written once more
pub marked_again : (marks : List Mark) (key : ℕ) (m : Mark) → key < length marks → (v : ℕ) → mark_of marks v ≡ m → mark_of (set marks key m) v ≡ m
marked_again marks key m lk v e = elim (cases_eq v key) [
  | inl at ↦ subst (λ x. mark_of (set marks key m) x ≡ m) (sym at) (get_or-set_same marks key m Unseen lk)
  | inr ne ↦ get_or-set_other marks key v m Unseen ne ∙ e
]

module _ (marks : List Mark) (trail : List ℕ) (first i key : ℕ) (m : Mark) (lk : key < length marks) (at : get_or trail i 0 ≡ key) where
  pub close_new : ((j : ℕ) → first ≤ j → j < i → mark_of marks (get_or trail j 0) ≡ m)
      → (j : ℕ) → first ≤ j → j < i + 1 → mark_of (set marks key m) (get_or trail j 0) ≡ m
  close_new old j ge lt = elim (cases_lt j i) [
    | inl below ↦ marked_again marks key m lk (get_or trail j 0) (old j ge below)
    | inr above ↦ let is : j ≡ i = omega arith in
        subst (λ x. mark_of (set marks key m) x ≡ m) (sym (ap (λ n. get_or trail n 0) is ∙ at)) (get_or-set_same marks key m Unseen lk)
  ]

  pub close_rest : (before : List Mark)
      → ((v : ℕ) → ((j : ℕ) → first ≤ j → j < i → get_or trail j 0 ≡ v → ⊥) → mark_of marks v ≡ mark_of before v) → first ≤ i
      → (v : ℕ) → ((j : ℕ) → first ≤ j → j < i + 1 → get_or trail j 0 ≡ v → ⊥) → mark_of (set marks key m) v ≡ mark_of before v
  close_rest before old le v away =
      get_or-set_other marks key v m Unseen (λ is. away i le (omega arith) (at ∙ sym is))
      ∙ old v (λ j ge lt. away j ge (omega arith))

-- one more key of the trail is listed
pub close_more : (closed trail : List ℕ) (first i : ℕ) → first ≤ i → i < length trail
    → (closed ++ take (i - first) (drop first trail)) ++ get_or trail i 0 ∷ [] ≡ closed ++ take (i + 1 - first) (drop first trail)
close_more closed trail first i le lt =
    let n : i + 1 - first ≡ (i - first) + 1 = omega arith in
    let at : first + (i - first) ≡ i = omega arith in
    append_assoc closed (take (i - first) (drop first trail)) (get_or trail i 0 ∷ [])
    ∙ ap (λ x. closed ++ x) (
    ap (λ x. take (i - first) (drop first trail) ++ x ∷ []) (sym (get_or-drop first trail (i - first) 0 ∙ ap (λ k. get_or trail k 0) at))
    ∙ sym (take_more (drop first trail) (i - first) 0 (omega (arith, length-drop first trail)))
    ∙ ap (λ k. take k (drop first trail)) (sym n))
