-- Edges by where they end, and lists of keys.
use Rattle.std.specs.Prelude.{◌≡◌, ℕ, zero, suc, ◌+◌, ◌<◌, ◌≤◌, true, false, nat_eq, List, [], ◌∷◌, ◌++◌, length, get_or, set, take}
use Rattle.std.specs.List.{Contains, range_with_len}
use Rattle.std.specs.declared.alloc.Global.{Global}
use Rattle.std.specs.declared.vec.Vec.{Vec}
use Rattle.std.proofs.Common.{arith, sym, ap, subst, ◌∙◌, ⊎_elim, take_all}
use Rattle.std.proofs.lemmas.Bool.{eqb-true, eqb-false, cases_Bool}
use Rattle.std.proofs.lemmas.List.{length-map, take_more, get_or-set_same, get_or-set_other}
use Rattle.std.proofs.lemmas.List.Elements.{Contains-append_left, Contains-push, Contains-push_cases}
use Rattle.strong_components.specs.declared.edge.Edge.{Edge}
use Rattle.rank_shape.specs.Places.{edge_lists, edges_at}
use Rattle.rank_numbers.specs.Rows.{IntoKeys}

range_more : (a n j : ℕ) → a + n ≡ j → range_with_len a (suc n) ≡ range_with_len a n ++ j ∷ []
range_more a zero j e =
    let same : a ≡ j = omega arith in
    ap (λ (k : ℕ). k ∷ []) same
range_more a (suc n) j e = ap (λ l. a ∷ l) (range_more (a + 1) n j (omega arith))

pub range_next : (n : ℕ) → range_with_len 0 (n + 1) ≡ range_with_len 0 n ++ n ∷ []
range_next n =
    let next : n + 1 ≡ suc n = omega arith in
    ap (range_with_len 0) next ∙ range_more 0 n n (omega arith)

pub into_none : (lists : List (Vec Edge Global)) → ((p : ℕ) → length (edges_at (edge_lists lists) p) ≡ 0) → IntoKeys [] lists
into_none lists h k e =
    let none = h k in
    ((λ c. let b : c.0 < length (edges_at (edge_lists lists) k) = c.1 in absurd (omega arith)), (λ c. let b : c.0.0 < 0 = c.0.1 in absurd (omega arith)))

into_push : (xs : List Edge) (x : Edge) (old new : List (Vec Edge Global)) → edge_lists new ≡ set (edge_lists old) x.to (edges_at (edge_lists old) x.to ++ x ∷ []) → x.to < length old
    → IntoKeys xs old → IntoKeys (xs ++ x ∷ []) new
into_push xs x old new is lt h k e =
    let ls = edge_lists old in
    let long = length-map old (λ (v : Vec Edge Global). v.items) in
    let in' : x.to < length ls = omega arith in
    let more = edges_at ls x.to ++ x ∷ [] in
    ⊎_elim
    (λ (t : nat_eq k x.to ≡ true).
    let same : k ≡ x.to = eqb-true k x.to t in
    let here : edges_at (edge_lists new) k ≡ more = ap (λ l. get_or l k []) is ∙ ap (λ j. get_or (set ls x.to more) j []) same ∙ get_or-set_same ls x.to more [] in' in (
      (λ c. ⊎_elim
          (λ (a : Contains (edges_at ls x.to) e). let b = (h x.to e).0 a in (Contains-append_left xs (x ∷ []) e b.0, b.1 ∙ sym same))
          (λ (a : x ≡ e). (subst (Contains (xs ++ x ∷ [])) a (Contains-push xs x), ap (λ (y : Edge). y.to) (sym a) ∙ sym same))
          (Contains-push_cases (edges_at ls x.to) x e (subst (λ l. Contains l e) here c))),
      (λ c. subst (λ l. Contains l e) (sym here)
          (⊎_elim
          (λ (a : Contains xs e). Contains-append_left (edges_at ls x.to) (x ∷ []) e ((h x.to e).1 (a, c.1 ∙ same)))
          (λ (a : x ≡ e). subst (Contains more) a (Contains-push (edges_at ls x.to) x))
          (Contains-push_cases xs x e c.0))),
    ))
    (λ (f : nat_eq k x.to ≡ false).
    let apart : k ≡ x.to → ⊥ = eqb-false k x.to f in
    let here : edges_at (edge_lists new) k ≡ edges_at ls k = ap (λ l. get_or l k []) is ∙ get_or-set_other ls x.to k more [] apart in (
      (λ c. let b = (h k e).0 (subst (λ l. Contains l e) here c) in (Contains-append_left xs (x ∷ []) e b.0, b.1)),
      (λ c. subst (λ l. Contains l e) (sym here)
          (⊎_elim
          (λ (a : Contains xs e). (h k e).1 (a, c.1))
          (λ (a : x ≡ e). absurd (apart (sym c.1 ∙ ap (λ (y : Edge). y.to) (sym a))))
          (Contains-push_cases xs x e c.0))),
    ))
    (cases_Bool (nat_eq k x.to))

pub into_more : (edges : List Edge) (i : ℕ) (z : Edge) (old new : List (Vec Edge Global)) → i < length edges
    → edge_lists new ≡ set (edge_lists old) (get_or edges i z).to (edges_at (edge_lists old) (get_or edges i z).to ++ get_or edges i z ∷ [])
    → (get_or edges i z).to < length old → IntoKeys (take i edges) old → IntoKeys (take (i + 1) edges) new
into_more edges i z old new h is lt into =
    subst (λ l. IntoKeys l new) (sym (take_more edges i z h)) (into_push (take i edges) (get_or edges i z) old new is lt into)

pub into_all : (edges : List Edge) (i : ℕ) (into : List (Vec Edge Global)) → length edges ≤ i → IntoKeys (take i edges) into → IntoKeys edges into
into_all edges i into h k = subst (λ l. IntoKeys l into) (take_all i edges h) k
