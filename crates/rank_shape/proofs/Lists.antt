-- What stands in a list, in a filtered one, and in a part of the keys.
use Rattle.std.proofs.Common.{◌≡◌, ℕ, ◌<◌, ◌⊎◌, inl, inr, Bool, true, false, ◌&&◌, ◌||◌, cond, eqb, List, [], ◌∷◌, length, get_or, refl, sym, ap, subst, arith, zero, suc}
use Rattle.std.specs.List.{All, Any, Contains, filter}
use Rattle.std.proofs.lemmas.List.Elements.{Contains-get_or}
use Rattle.std.proofs.lemmas.Bool.{cases_Bool, eqb-true, eq-eqb, or_cases, or_left, or_right, and_parts, and_from}
use Rattle.strong_components.specs.declared.edge.Edge.{Edge}
use Rattle.rank_shape.specs.Nests.{has}

Contains-here : {X : Type 0} (x : X) (xs : List X) → Contains (x ∷ xs) x
Contains-here x xs = (0, omega arith, refl)

Contains-there : {X : Type 0} (x : X) (xs : List X) (u : X) → Contains xs u → Contains (x ∷ xs) u
Contains-there x xs u c = (suc c.0, omega (arith, c.1), c.2)

Contains-split : {X : Type 0} (x : X) (xs : List X) (u : X) → Contains (x ∷ xs) u → (x ≡ u) ⊎ Contains xs u
Contains-split x xs u (zero, lt, e) = inl e
Contains-split x xs u (suc k, lt, e) = inr (k, omega arith, e)

Contains-none : {X : Type 0} (u : X) → Contains [] u → ⊥
Contains-none u c = omega (arith, c.1)

pub in_filter : {X : Type 0} (p : X → Bool) (xs : List X) (e : X) → Contains xs e → p e ≡ true → Contains (filter p xs) e
in_filter p [] e c t = absurd (Contains-none e c)
in_filter p (x ∷ xs) e c t = elim (Contains-split x xs e c) [
  | inl is ↦ let tx : p x ≡ true = subst (λ y. p y ≡ true) (sym is) t in
      subst (λ b. Contains (cond b (x ∷ filter p xs) (filter p xs)) e) (sym tx) (subst (λ y. Contains (x ∷ filter p xs) y) is (Contains-here x (filter p xs)))
  | inr c' ↦ let i = in_filter p xs e c' t in elim (cases_Bool (p x)) [
    | inl pass ↦ subst (λ b. Contains (cond b (x ∷ filter p xs) (filter p xs)) e) (sym pass) (Contains-there x (filter p xs) e i)
    | inr fail ↦ subst (λ b. Contains (cond b (x ∷ filter p xs) (filter p xs)) e) (sym fail) i
  ]
]

pub of_filter : {X : Type 0} (p : X → Bool) (xs : List X) (e : X) → Contains (filter p xs) e → Contains xs e × (p e ≡ true)
of_filter p [] e c = absurd (Contains-none e c)
of_filter p (x ∷ xs) e c = elim (cases_Bool (p x)) [
  | inl pass ↦ elim (Contains-split x (filter p xs) e (subst (λ b. Contains (cond b (x ∷ filter p xs) (filter p xs)) e) pass c)) [
    | inl is ↦ (subst (λ y. Contains (x ∷ xs) y) is (Contains-here x xs), subst (λ y. p y ≡ true) is pass)
    | inr c' ↦ let i = of_filter p xs e c' in (Contains-there x xs e i.0, i.1)
  ]
  | inr fail ↦ let i = of_filter p xs e (subst (λ b. Contains (cond b (x ∷ filter p xs) (filter p xs)) e) fail c) in (Contains-there x xs e i.0, i.1)
]

pub has_true : (keys : List ℕ) (u : ℕ) → has keys u ≡ true → Contains keys u
has_true [] u e = absurd (cc)
has_true (k ∷ keys) u e = elim (or_cases (eqb k u) (has keys u) e) [
  | inl here ↦ subst (λ x. Contains (k ∷ keys) x) (eqb-true k u here) (Contains-here k keys)
  | inr there ↦ Contains-there k keys u (has_true keys u there)
]

pub true_has : (keys : List ℕ) (u : ℕ) → Contains keys u → has keys u ≡ true
true_has [] u c = absurd (Contains-none u c)
true_has (k ∷ keys) u c = elim (Contains-split k keys u c) [
  | inl is ↦ or_left (eqb k u) (has keys u) (eq-eqb k u is)
  | inr c' ↦ or_right (eqb k u) (has keys u) (true_has keys u c')
]

-- some element, as a member
pub any_member : {X : Type 0} (P : X → Type 0) (xs : List X) → Any P xs → (e : X) × Contains xs e × P e
any_member P xs a = (a.1, (a.0, a.2, a.3), a.4)

pub member_any : {X : Type 0} (P : X → Type 0) (xs : List X) (e : X) → Contains xs e → P e → Any P xs
member_any P xs e c h = (c.0, e, c.1, c.2, h)

pub first_member : {X : Type 0} (xs : List X) → 0 < length xs → (e : X) × Contains xs e
first_member [] some = absurd (omega arith)
first_member (x ∷ xs) some = (x, Contains-here x xs)

pub member_some : {X : Type 0} (xs : List X) (e : X) → Contains xs e → 0 < length xs
member_some xs e c = omega (arith, c.1)

pub All-from_members : {X : Type 0} (P : X → Type 0) (xs : List X) → ((e : X) → Contains xs e → P e) → All P xs
All-from_members P xs h k d lk = h (get_or xs k d) (Contains-get_or xs k d lk)

-- is the edge one of the list?
abbrev pub has_edge : List Edge → Edge → Bool
has_edge [] e = false
has_edge (x ∷ xs) e = (eqb x.from e.from && (eqb x.to e.to && eqb x.name e.name)) || has_edge xs e

same_edge : (x e : Edge) → x.from ≡ e.from → x.to ≡ e.to → x.name ≡ e.name → x ≡ e
same_edge x e a b c = λ i. record { from = a i; to = b i; name = c i }

pub edge_true : (xs : List Edge) (e : Edge) → has_edge xs e ≡ true → Contains xs e
edge_true [] e t = absurd (cc)
edge_true (x ∷ xs) e t = elim (or_cases (eqb x.from e.from && (eqb x.to e.to && eqb x.name e.name)) (has_edge xs e) t) [
  | inl here ↦
      let p = and_parts (eqb x.from e.from) (eqb x.to e.to && eqb x.name e.name) here in
      let q = and_parts (eqb x.to e.to) (eqb x.name e.name) p.1 in
      subst (λ y. Contains (x ∷ xs) y) (same_edge x e (eqb-true x.from e.from p.0) (eqb-true x.to e.to q.0) (eqb-true x.name e.name q.1)) (Contains-here x xs)
  | inr there ↦ Contains-there x xs e (edge_true xs e there)
]

pub true_edge : (xs : List Edge) (e : Edge) → Contains xs e → has_edge xs e ≡ true
true_edge [] e c = absurd (Contains-none e c)
true_edge (x ∷ xs) e c = elim (Contains-split x xs e c) [
  | inl is ↦ or_left (eqb x.from e.from && (eqb x.to e.to && eqb x.name e.name)) (has_edge xs e)
      (and_from (eqb x.from e.from) (eqb x.to e.to && eqb x.name e.name) (eq-eqb x.from e.from (ap (λ (y : Edge). y.from) is))
      (and_from (eqb x.to e.to) (eqb x.name e.name) (eq-eqb x.to e.to (ap (λ (y : Edge). y.to) is)) (eq-eqb x.name e.name (ap (λ (y : Edge). y.name) is))))
  | inr c' ↦ or_right (eqb x.from e.from && (eqb x.to e.to && eqb x.name e.name)) (has_edge xs e) (true_edge xs e c')
]
