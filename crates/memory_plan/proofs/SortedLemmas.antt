-- Spans in the order of their addresses.
use Rattle.std.proofs.Common.{◌≡◌, ◌∙◌, ℕ, ◌<◌, ◌≤◌, Bool, true, false, leb, ltb, List, [], ◌∷◌, ◌++◌, length, get_or, slice_get, insert, refl, sym, ap, inl, inr, arith}
use Rattle.std.specs.Prelude.{◌&&◌}
use Rattle.std.specs.List.{All, list_any}
use Rattle.std.specs.List.Sorted.{IsNonDecreasingBy, IsPartitionedBy, IsPartitionPoint}
use Rattle.std.proofs.Math.Bool.{and_comm}
use Rattle.std.proofs.lemmas.Bool.{cases_lt, ltb-true, ltb-false}
use Rattle.std.proofs.lemmas.Bool.Decides.{nat_tests}
use Rattle.std.proofs.lemmas.Option.{slice_get-get_or, slice_get_past}
use Rattle.std.proofs.lemmas.List.Elements.{All-push}
use Rattle.std.proofs.lemmas.List.Folds.{list_any_at, list_any_none}
use Rattle.std.proofs.lemmas.List.Sorted.{IsPermutation-cons, IsPermutation-insert, IsPermutation-refl, IsPermutation-to_front, IsPermutation-trans, IsNonDecreasingBy-insert, list_any-IsPermutation}
use Rattle.memory_plan.specs.Plans.{has_code}
use Rattle.memory_plan.specs.PlanRules.{meets_code}
use Rattle.memory_plan.specs.SortedSpans.{AreSorted, begins_by}

pub none_passes : {A : Type 0} (p : A → Bool) (xs : List A) → list_any p xs ≡ false → All (λ x. p x ≡ false) xs
none_passes {A} p xs e = λ k d within. fails (p (get_or xs k d)) k d within refl
  where
    fails : (b : Bool) (k : ℕ) (d : A) → k < length xs → p (get_or xs k d) ≡ b → b ≡ false
    fails true k d within f = let found = list_any_at p xs k d within f in cc
    fails false k d within f = refl

-- the spans that end below an address stand in front
pub ends_partitioned : (spans : List (ℕ × ℕ)) (at : ℕ) → IsNonDecreasingBy (λ (s : ℕ × ℕ). s.1) spans → IsPartitionedBy (λ s. ltb s.1 at) spans
ends_partitioned spans at up i j d le h t =
    let upto : (get_or spans i d).1 ≤ (get_or spans j d).1 = up i j d le h in
    let below : (get_or spans j d).1 < at = ltb-true (get_or spans j d).1 at t in
    let lt : (get_or spans i d).1 < at = omega arith in
    grind (arith, nat_tests)

-- what ends below an address in front, and what doesn't behind it
abbrev pub EndsBelow : ℕ → List (ℕ × ℕ) → ℕ → Type 0
EndsBelow at spans k = IsPartitionPoint (λ (s : ℕ × ℕ). ltb s.1 at ≡ true) (λ (s : ℕ × ℕ). ltb s.1 at ≡ false) spans k

-- the first span that doesn't end below an address tells whether one meets what begins there
pub met_by : (spans : List (ℕ × ℕ)) (lo hi k : ℕ) → IsNonDecreasingBy (λ (s : ℕ × ℕ). s.0) spans → EndsBelow lo spans k → begins_by hi (slice_get spans k) ≡ meets_code spans lo hi
met_by spans lo hi k up place = elim (cases_lt k (length spans)) [
  | inl within ↦ by_test within (begins_by hi (slice_get spans k)) refl
  | inr past ↦ ap (begins_by hi) (slice_get_past spans k past) ∙ sym (list_any_none meets spans (λ i d h. in_front i d (omega arith)))
]
  where
    meets : ℕ × ℕ → Bool
    meets s = leb lo s.1 && leb s.0 hi

    in_front : (i : ℕ) (d : ℕ × ℕ) → i < k → meets (get_or spans i d) ≡ false
    in_front i d less = let ends = place.0 i d (omega arith) less in grind (arith, nat_tests)

    tells : (d : ℕ × ℕ) → k < length spans → begins_by hi (slice_get spans k) ≡ leb (get_or spans k d).0 hi
    tells d within = ap (begins_by hi) (slice_get-get_or spans k d within)

    behind : (i : ℕ) (d : ℕ × ℕ) → k ≤ i → i < length spans → begins_by hi (slice_get spans k) ≡ false → meets (get_or spans i d) ≡ false
    behind i d le within none =
        let above = sym (tells d (omega (arith, le, within))) ∙ none in
        let upto : (get_or spans k d).0 ≤ (get_or spans i d).0 = up k i d le within in
        grind (arith, nat_tests)

    by_test : k < length spans → (b : Bool) → begins_by hi (slice_get spans k) ≡ b → b ≡ meets_code spans lo hi
    by_test within true e =
        let begins = sym (tells (0, 0) within) ∙ e in
        let ends = place.1 k (0, 0) (omega arith) within in
        sym (list_any_at meets spans k (0, 0) within (grind (arith, nat_tests)))
    by_test within false e = sym (list_any_none meets spans (λ i d h. elim (cases_lt i k) [
      | inl less ↦ in_front i d less
      | inr le ↦ behind i d le h e
    ]))

-- a list of spans has an address that meets a span of that address alone
pub has_met : (spans : List (ℕ × ℕ)) (at : ℕ) → meets_code spans at at ≡ has_code spans at
has_met [] at = refl
has_met (s ∷ ss) at =
    let here : (leb at s.1 && leb s.0 at) ≡ (leb s.0 at && leb at s.1) = and_comm (leb at s.1) (leb s.0 at) in
    rw (here, has_met ss at) refl

-- sorted spans meet what the spans do
pub meets_sorted : (spans sorted : List (ℕ × ℕ)) (lo hi : ℕ) → AreSorted spans sorted → meets_code sorted lo hi ≡ meets_code spans lo hi
meets_sorted spans sorted lo hi h = sym (list_any-IsPermutation (λ (s : ℕ × ℕ). leb lo s.1 && leb s.0 hi) spans sorted h.same)

-- a span more that meets none
pub sorted_more : (spans sorted : List (ℕ × ℕ)) (lo hi k : ℕ) → AreSorted spans sorted → k ≤ length sorted → EndsBelow lo sorted k → lo ≤ hi → meets_code spans lo hi ≡ false
    → AreSorted (spans ++ (lo, hi) ∷ []) (insert sorted k (lo, hi))
sorted_more spans sorted lo hi k h le place some apart = record {
  same = IsPermutation-trans _ _ _ (IsPermutation-to_front spans (lo, hi)) (IsPermutation-trans _ _ _ (IsPermutation-cons (lo, hi) spans sorted h.same) (IsPermutation-insert sorted k (lo, hi)));
  some = All-push (λ (s : ℕ × ℕ). s.0 ≤ s.1) spans (lo, hi) h.some some;
  low = IsNonDecreasingBy-insert (λ (s : ℕ × ℕ). s.0) sorted k (lo, hi) h.low le
      (λ i d less. let ends = in_front i d less in omega (arith, ends, runs i d (omega arith)))
      (λ i d ge within. let begins = behind i d ge within in omega (arith, begins, some));
  high = IsNonDecreasingBy-insert (λ (s : ℕ × ℕ). s.1) sorted k (lo, hi) h.high le
      (λ i d less. let ends = in_front i d less in omega (arith, ends, some))
      (λ i d ge within. let begins = behind i d ge within in omega (arith, begins, runs i d within));
}
  where
    none_empty : list_any (λ (s : ℕ × ℕ). ltb s.1 s.0) sorted ≡ false
    none_empty = sym (list_any-IsPermutation (λ (s : ℕ × ℕ). ltb s.1 s.0) spans sorted h.same)
        ∙ list_any_none (λ (s : ℕ × ℕ). ltb s.1 s.0) spans (λ i d within. let runs = h.some i d within in grind (arith, nat_tests))

    runs : (i : ℕ) (d : ℕ × ℕ) → i < length sorted → (get_or sorted i d).0 ≤ (get_or sorted i d).1
    runs i d within = ltb-false (get_or sorted i d).1 (get_or sorted i d).0 (none_passes (λ (s : ℕ × ℕ). ltb s.1 s.0) sorted none_empty i d within)

    in_front : (i : ℕ) (d : ℕ × ℕ) → i < k → (get_or sorted i d).1 < lo
    in_front i d less = ltb-true (get_or sorted i d).1 lo (place.0 i d (omega arith) less)

    behind : (i : ℕ) (d : ℕ × ℕ) → k ≤ i → i < length sorted → hi < (get_or sorted i d).0
    behind i d ge within =
        let ends = place.1 i d ge within in
        let out = none_passes (λ (s : ℕ × ℕ). leb lo s.1 && leb s.0 hi) sorted (meets_sorted spans sorted lo hi h ∙ apart) i d within in
        grind (arith, nat_tests)

pub none_sorted : AreSorted [] []
none_sorted = record {
  same = IsPermutation-refl [];
  some = λ k d w. absurd (omega arith);
  low = λ i j d le w. absurd (omega arith);
  high = λ i j d le w. absurd (omega arith);
}
