-- What a graph's parts have, of what is asked of a graph.
use Rattle.std.proofs.Common.{◌≡◌, ℕ, ◌+◌, ◌<◌, ◌≤◌, inl, inr, Bool, true, false, not, ◌&&◌, cond, List, [], ◌∷◌, Option, Some, None, length, get_or, sym, subst, arith, zero, suc, MatchOption}
use Rattle.std.specs.List.{All, AllPairs, Contains, filter}
use Rattle.std.specs.declared.alloc.Global.{Global}
use Rattle.std.specs.declared.vec.Vec.{Vec}
use Rattle.std.proofs.lemmas.List.Elements.{All-contains, Contains-get_or, All-filter}
use Rattle.std.proofs.lemmas.List.Sums.{length-filter, count_by-le-length}
use Rattle.std.proofs.lemmas.Bool.{cases_Bool, cases_lt, not_from_true}
use Rattle.strong_components.specs.declared.edge.Edge.{Edge}
use Rattle.strong_components.specs.Paths.{here}
use Rattle.strong_components.specs.Components.{IsComponents, part_at}
use Rattle.strong_components.specs.Steps.{BySource, EndsBelow}
use Rattle.rank_shape.specs.declared.moves.Moves.{Moves}
use Rattle.rank_shape.specs.Moves.{surely_falls, Fits}
use Rattle.rank_shape.specs.Nests.{has, inside, remaining, IsFirst, HasNest, HasPart, ranked, IsFirstStuck, in_part, IsStuckIn, deeper}
use Rattle.rank_shape.specs.Places.{EndsIn, Apart, InSome, PartsBelow}
use Rattle.std.specs.Option.{is_some}
use Rattle.rank_shape.proofs.Lists.{any_member}

pub ends_below : (keys : List ℕ) (edges : List Edge) (n : ℕ) → EndsIn keys edges → All (λ k. k < n) keys → EndsBelow n edges
ends_below keys edges n ends below k d lk =
    let c = (ends (get_or edges k d) (Contains-get_or edges k d lk)).1 in
    All-contains (λ x. x < n) keys (get_or edges k d).to below c

module _ (keys : List ℕ) (edges : List Edge) (parts : List (List ℕ)) (comps : IsComponents edges keys parts) where
  pub part_below : (n : ℕ) → All (λ k. k < n) keys → PartsBelow n parts
  part_below n below p lp k d lk = All-contains (λ x. x < n) keys (get_or (part_at parts p) k d) below (comps.members p lp k d lk)

  pub parts_apart : Apart parts
  parts_apart p q u lp lq cp cq = (comps.together p q u u lp lq cp cq).1 (here, here)

  pub ends_in_some : EndsIn keys edges → All (λ e. InSome parts e.from × InSome parts e.to) edges
  ends_in_some ends k d lk =
      let c = ends (get_or edges k d) (Contains-get_or edges k d lk) in
      (some (get_or edges k d).from c.0, some (get_or edges k d).to c.1)
    where
      some : (u : ℕ) → Contains keys u → InSome parts u
      some u c = let q = comps.covered c.0 u c.1 in (q.0, q.1, subst (λ x. Contains (part_at parts q.0) x) c.2 q.2)

-- a filtered list keeps its order
AllPairs-head : {X : Type 0} (R : X → X → Type 0) (x : X) (xs : List X) → AllPairs R (x ∷ xs) → All (λ y. R x y) xs
AllPairs-head R x xs h k d lk = h 0 (suc k) d (omega arith) (omega arith)

AllPairs-tail : {X : Type 0} (R : X → X → Type 0) (x : X) (xs : List X) → AllPairs R (x ∷ xs) → AllPairs R xs
AllPairs-tail R x xs h i j d lt lj = h (suc i) (suc j) d (omega arith) (omega arith)

AllPairs-cons : {X : Type 0} (R : X → X → Type 0) (x : X) (xs : List X) → All (λ y. R x y) xs → AllPairs R xs → AllPairs R (x ∷ xs)
AllPairs-cons R x xs a h zero zero d lt lj = absurd (omega arith)
AllPairs-cons R x xs a h (suc i) zero d lt lj = absurd (omega arith)
AllPairs-cons R x xs a h zero (suc j) d lt lj = a j d (omega arith)
AllPairs-cons R x xs a h (suc i) (suc j) d lt lj = h i j d (omega arith) (omega arith)

pub AllPairs-filter : {X : Type 0} (R : X → X → Type 0) (p : X → Bool) (xs : List X) → AllPairs R xs → AllPairs R (filter p xs)
AllPairs-filter R p [] h = h
AllPairs-filter R p (x ∷ xs) h =
    let rest = AllPairs-filter R p xs (AllPairs-tail R x xs h) in
    elim (cases_Bool (p x)) [
      | inl t ↦ subst (λ b. AllPairs R (cond b (x ∷ filter p xs) (filter p xs))) (sym t) (AllPairs-cons R x (filter p xs) (All-filter p (λ y. R x y) xs (AllPairs-head R x xs h)) rest)
      | inr f ↦ subst (λ b. AllPairs R (cond b (x ∷ filter p xs) (filter p xs))) (sym f) rest
    ]

pub filter_le : {X : Type 0} (p : X → Bool) (xs : List X) → length (filter p xs) ≤ length xs
filter_le p xs = omega (arith, length-filter p xs, count_by-le-length p xs)

-- a filter that drops an element is shorter
filter_lt : {X : Type 0} (p : X → Bool) (xs : List X) (e : X) → Contains xs e → p e ≡ false → length (filter p xs) < length xs
filter_lt p [] e c f = absurd (omega (arith, c.1))
filter_lt p (x ∷ xs) e (zero, lt, is) f =
    let fx : p x ≡ false = subst (λ y. p y ≡ false) (sym is) f in
    subst (λ b. length (cond b (x ∷ filter p xs) (filter p xs)) < length (x ∷ xs)) (sym fx) (omega (arith, filter_le p xs))
filter_lt p (x ∷ xs) e (suc k, lt, is) f =
    let rest = filter_lt p xs e (k, omega arith, is) f in
    elim (cases_Bool (p x)) [
      | inl t ↦ subst (λ b. length (cond b (x ∷ filter p xs) (filter p xs)) < length (x ∷ xs)) (sym t) (omega arith)
      | inr g ↦ subst (λ b. length (cond b (x ∷ filter p xs) (filter p xs)) < length (x ∷ xs)) (sym g) (omega arith)
    ]

pub inside_le : (part : List ℕ) (edges : List Edge) → length (inside part edges) ≤ length edges
inside_le part edges = filter_le (λ (e : Edge). has part e.from && has part e.to) edges

pub inside_by_source : (part : List ℕ) (edges : List Edge) → BySource edges → BySource (inside part edges)
inside_by_source part edges h = AllPairs-filter (λ (a b : Edge). a.from ≤ b.from) (λ (e : Edge). has part e.from && has part e.to) edges h

pub remaining_lt : (m : Moves) (c : ℕ) (edges : List Edge) → Fits m edges c → length (remaining m c edges) < length edges
remaining_lt m c edges fits =
    let e = any_member (λ x. surely_falls m c x ≡ true) edges fits.one_falls in
    filter_lt (λ (x : Edge). not (surely_falls m c x)) edges e.0 e.1 (not_from_true (surely_falls m c e.0) e.2)

pub remaining_by_source : (m : Moves) (c : ℕ) (edges : List Edge) → BySource edges → BySource (remaining m c edges)
remaining_by_source m c edges h = AllPairs-filter (λ (a b : Edge). a.from ≤ b.from) (λ (e : Edge). not (surely_falls m c e)) edges h

-- a part's edges and keys, under other names
module _ (m : Moves) (keys : List ℕ) (edges : List Edge) (parts : List (List ℕ)) (comps : IsComponents edges keys parts)
    (p : ℕ) (lp : p < length parts) (have : (q : ℕ) → q < p → HasPart m (part_at parts q) (inside (part_at parts q) edges))
    (part : List ℕ) (list : List Edge) (is-part : part ≡ part_at parts p) (is-list : list ≡ inside (part_at parts p) edges) where
  pub found_some : (o : Option (Vec Edge Global)) → MatchOption o (HasPart m part list) (λ s. IsStuckIn m part list s.items) → is_some o ≡ true
      → MatchOption o (HasNest m keys edges) (λ s. IsFirstStuck m keys edges s.items)
  found_some None h some = absurd (cc)
  found_some (Some s) h some = in_part parts p comps lp have (subst (λ x. IsStuckIn m (part_at parts p) x s.items) is-list (subst (λ x. IsStuckIn m x list s.items) is-part h))

  pub found_none : (o : Option (Vec Edge Global)) → MatchOption o (HasPart m part list) (λ s. IsStuckIn m part list s.items) → is_some o ≡ false
      → (q : ℕ) → q < p + 1 → HasPart m (part_at parts q) (inside (part_at parts q) edges)
  found_none (Some s) h none q lt = absurd (cc)
  found_none None h none q lt = elim (cases_lt q p) [
    | inl below ↦ have q below
    | inr ge ↦ let is : p ≡ q = omega arith in
        subst (λ n. HasPart m (part_at parts n) (inside (part_at parts n) edges)) is
        (subst (λ x. HasPart m (part_at parts p) x) is-list (subst (λ x. HasPart m x list) is-part h))
  ]

pub found_deeper : (m : Moves) (part : List ℕ) (edges rest : List Edge) (c : ℕ) → IsFirst m edges c → rest ≡ remaining m c edges
    → (o : Option (Vec Edge Global)) → MatchOption o (HasNest m part rest) (λ s. IsFirstStuck m part rest s.items)
    → MatchOption o (HasPart m part edges) (λ s. IsStuckIn m part edges s.items)
found_deeper m part edges rest c first is None h = ranked c first (subst (λ x. HasNest m part x) is h)
found_deeper m part edges rest c first is (Some s) h = deeper c first (subst (λ x. IsFirstStuck m part x s.items) is h)
