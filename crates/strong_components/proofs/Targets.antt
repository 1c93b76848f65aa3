-- The edges of a key stand in one piece of the edges in order of their beginnings.
use Rattle.std.proofs.Common.{◌≡◌, ℕ, ◌+◌, ◌-◌, ◌<◌, ◌≤◌, List, [], ◌∷◌, ◌++◌, length, get_or, take, drop, map, ltb, sym, ap, subst, ◌∙◌, inl, inr, arith}
use Rattle.std.proofs.lemmas.List.{get_or-map, get_or-take, get_or-drop, length-map, length-take, length-drop, get_or_default, append_assoc, map_more}
use Rattle.std.proofs.lemmas.Bool.{cases_lt, ltb-true, lt-ltb}
use Rattle.std.specs.List.Sorted.{IsPartitionedBy}
use Rattle.strong_components.specs.declared.edge.Edge.{Edge}
use Rattle.strong_components.specs.Steps.{BySource, Targets}

-- one edge is not behind another that begins later
pub by_source_le : (edges : List Edge) → BySource edges → (i j : ℕ) (d : Edge) → i ≤ j → j < length edges → (get_or edges i d).from ≤ (get_or edges j d).from
by_source_le edges h i j d le lj = elim (cases_lt i j) as (λ _. (get_or edges i d).from ≤ (get_or edges j d).from) [
  | inl lt ↦ h i j d lt lj
  | inr ge ↦ let is : i ≡ j = omega arith in subst (λ n. (get_or edges i d).from ≤ (get_or edges n d).from) is (omega arith)
]

same_read : (edges : List Edge) (k : ℕ) (d : Edge) → k < length edges → get_or edges k (get_or edges k d) ≡ get_or edges k d
same_read edges k d lk = get_or_default edges k (get_or edges k d) d lk

module _ (edges : List Edge) (v start stop : ℕ) (by_source : BySource edges) (le : start ≤ stop) (in' : stop ≤ length edges)
    (before : (k : ℕ) (d : Edge) → k < start → (get_or edges k d).from < v)
    (behind : (k : ℕ) (d : Edge) → start ≤ k → k < length edges → v ≤ (get_or edges k d).from)
    (among : (k : ℕ) (d : Edge) → start ≤ k → k < stop → (get_or edges k d).from ≡ v)
    (ends : stop < length edges → (d : Edge) → (get_or edges stop d).from ≡ v → ⊥) where
  piece : List ℕ
  piece = map (λ (e : Edge). e.to) (take (stop - start) (drop start edges))

  piece_length : length piece ≡ stop - start
  unfolding piece
  piece_length = omega (arith, length-map (take (stop - start) (drop start edges)) (λ (e : Edge). e.to), length-take (stop - start) (drop start edges), length-drop start edges)

  piece_at : (e : ℕ) (d : Edge) → e < stop - start → get_or piece e 0 ≡ (get_or edges (start + e) d).to
  unfolding piece
  piece_at e d le' =
      get_or-map (λ (x : Edge). x.to) (take (stop - start) (drop start edges)) e d 0 (omega (arith, length-take (stop - start) (drop start edges), length-drop start edges))
      ∙ ap (λ (x : Edge). x.to) (get_or-take (stop - start) (drop start edges) e d le' ∙ get_or-drop start edges e d)

  pub targets_of : Targets edges v (map (λ (e : Edge). e.to) (take (stop - start) (drop start edges)))
  unfolding piece
  targets_of = record {
    each = λ w l.
        let k = l.0 in
        let from : (get_or edges k l.1).from ≡ v = ap (λ (e : Edge). e.from) l.3 ∙ l.4.0 in
        let low : start ≤ k = elim (cases_lt k start) as (λ _. start ≤ k) [ inl lt ↦ absurd (omega (arith, before k l.1 lt)) | inr ge ↦ ge ] in
        let high : k < stop = elim (cases_lt k stop) as (λ _. k < stop) [
          | inl lt ↦ lt
          | inr ge ↦ absurd (ends (omega (arith, l.2)) l.1 (omega (arith, by_source_le edges by_source stop k l.1 ge l.2, behind stop l.1 le (omega (arith, l.2)))))
        ] in
        let at : start + (k - start) ≡ k = omega arith in
        (k - start, omega (arith, piece_length), piece_at (k - start) l.1 (omega arith) ∙ ap (λ n. (get_or edges n l.1).to) at ∙ ap (λ (e : Edge). e.to) l.3 ∙ l.4.1);
    only = λ e le'.
        let d : Edge = record { from = 0; to = 0; name = 0 } in
        let short : e < stop - start = omega (arith, piece_length) in
        let lk : start + e < length edges = omega arith in
        (start + e, get_or edges (start + e) d, lk, same_read edges (start + e) d lk, (among (start + e) d (omega arith) (omega arith), sym (piece_at e d short)));
  }

-- edges that begin below `v` stand before the others
pub by_source_parts : (edges : List Edge) → BySource edges → (v : ℕ) → IsPartitionedBy (λ (e : Edge). ltb e.from v) edges
by_source_parts edges h v i j d le lj e = lt-ltb (get_or edges i d).from v (omega (arith, by_source_le edges h i j d le lj, ltb-true (get_or edges j d).from v e))

-- one more edge is pushed
pub push_more : (waiting : List ℕ) (edges : List Edge) (start i t : ℕ) (d : Edge) → start ≤ i → i < length edges → t ≡ (get_or edges i d).to
    → (waiting ++ map (λ (e : Edge). e.to) (take (i - start) (drop start edges))) ++ t ∷ []
    ≡ waiting ++ map (λ (e : Edge). e.to) (take (i + 1 - start) (drop start edges))
push_more waiting edges start i t d le lt is =
    let n : i + 1 - start ≡ (i - start) + 1 = omega arith in
    let at : start + (i - start) ≡ i = omega arith in
    let read : get_or (drop start edges) (i - start) d ≡ get_or edges i d = get_or-drop start edges (i - start) d ∙ ap (λ k. get_or edges k d) at in
    append_assoc waiting (map (λ (e : Edge). e.to) (take (i - start) (drop start edges))) (t ∷ [])
    ∙ ap (λ x. waiting ++ x) (
    ap (λ x. map (λ (e : Edge). e.to) (take (i - start) (drop start edges)) ++ x ∷ []) (is ∙ ap (λ (e : Edge). e.to) (sym read))
    ∙ sym (map_more (λ (e : Edge). e.to) (drop start edges) (i - start) d (omega (arith, length-drop start edges)))
    ∙ ap (λ k. map (λ (e : Edge). e.to) (take k (drop start edges))) (sym n))

-- what is read past no end doesn't hang on the default
pub from_at : (edges : List Edge) (i : ℕ) (d e : Edge) → i < length edges → (get_or edges i d).from ≡ (get_or edges i e).from
from_at edges i d e li = ap (λ (x : Edge). x.from) (get_or_default edges i d e li)
