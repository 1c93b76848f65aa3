-- The greatest value of a part, key by key.
use Rattle.std.proofs.Common.{◌≡◌, ℕ, ◌+◌, ◌<◌, ◌⊎◌, inl, inr, List, length, get_or, refl, sym, subst, ◌∙◌, arith}
use Rattle.std.specs.Prelude.{ℤ, ◌≤ℤ◌}
use Rattle.std.specs.List.{All, Any, Contains}
use Rattle.std.specs.declared.alloc.Global.{Global}
use Rattle.std.specs.declared.vec.Vec.{Vec}
use Rattle.std.proofs.lemmas.Int.{ints}
use Rattle.std.proofs.lemmas.List.Elements.{All-contains, Contains-get_or}
use Rattle.std.proofs.lemmas.Bool.{cases_lt}
use Rattle.std.proofs.lemmas.List.{get_or_default}
use Rattle.strong_components.specs.declared.edge.Edge.{Edge}
use Rattle.rank_shape.specs.Places.{edge_lists, edges_at}
use Rattle.rank_shape.proofs.Lists.{any_member}
use Rattle.rank_numbers.specs.Forms.{Forms}
use Rattle.rank_numbers.specs.Numbers.{IsGreatest}
use Rattle.rank_numbers.specs.Rows.{form_of, IntoKeys}

module _ (Form : Type 0) (o : Forms Form) (part : List ℕ) (into : List (Vec Edge Global)) (forms : List Form) where
  abbrev at_key : ℤ → ℕ → Type 0
  at_key most k = (o.upper (form_of o forms k) k ≤ℤ most) × ((e : Edge) → Contains (edges_at (edge_lists into) k) e → o.after (form_of o forms k) e ≤ℤ most)

  pub great_facts : (i : ℕ) (b r : ℤ) → b ≤ℤ r → o.upper (form_of o forms (get_or part i 0)) (get_or part i 0) ≤ℤ r
      → ((k : ℕ) → k < i → o.upper (form_of o forms (get_or part k 0)) (get_or part k 0) ≤ℤ b)
      → (k : ℕ) → k < i + 1 → o.upper (form_of o forms (get_or part k 0)) (get_or part k 0) ≤ℤ r
  great_facts i b r le here old k lt = elim (cases_lt k i) as (λ _. o.upper (form_of o forms (get_or part k 0)) (get_or part k 0) ≤ℤ r) [
    | inl below ↦ omega (arith, ints, old k below)
    | inr ge ↦ let is : i ≡ k = omega arith in subst (λ n. o.upper (form_of o forms (get_or part n 0)) (get_or part n 0) ≤ℤ r) is here
  ]

  pub great_edges : (i : ℕ) (b r : ℤ) → b ≤ℤ r → All (λ e. o.after (form_of o forms (get_or part i 0)) e ≤ℤ r) (edges_at (edge_lists into) (get_or part i 0))
      → ((k : ℕ) (e : Edge) → k < i → Contains (edges_at (edge_lists into) (get_or part k 0)) e → o.after (form_of o forms (get_or part k 0)) e ≤ℤ b)
      → (k : ℕ) (e : Edge) → k < i + 1 → Contains (edges_at (edge_lists into) (get_or part k 0)) e → o.after (form_of o forms (get_or part k 0)) e ≤ℤ r
  great_edges i b r le here old k e lt c = elim (cases_lt k i) as (λ _. o.after (form_of o forms (get_or part k 0)) e ≤ℤ r) [
    | inl below ↦ omega (arith, ints, old k e below c)
    | inr ge ↦ let is : k ≡ i = omega arith in
        subst (λ n. o.after (form_of o forms (get_or part n 0)) e ≤ℤ r) (sym is)
        (All-contains (λ x. o.after (form_of o forms (get_or part i 0)) x ≤ℤ r) (edges_at (edge_lists into) (get_or part i 0)) e here (subst (λ n. Contains (edges_at (edge_lists into) (get_or part n 0)) e) is c))
  ]

  abbrev Attained : ℤ → Type 0
  Attained most = ((k : ℕ) × Contains part k × (most ≡ o.upper (form_of o forms k) k))
      ⊎ ((k : ℕ) × (e : Edge) × Contains part k × Contains (edges_at (edge_lists into) k) e × (most ≡ o.after (form_of o forms k) e))

  pub great_attained : (i : ℕ) (b r : ℤ) → i < length part
      → (r ≡ b) ⊎ ((r ≡ o.upper (form_of o forms (get_or part i 0)) (get_or part i 0)) ⊎ Any (λ e. r ≡ o.after (form_of o forms (get_or part i 0)) e) (edges_at (edge_lists into) (get_or part i 0)))
      → Attained b → Attained r
  great_attained i b r li one old = elim one [
    | inl e ↦ elim old [ inl a ↦ inl (a.0, a.1, e ∙ a.2) | inr a ↦ inr (a.0, a.1, a.2, a.3, e ∙ a.4) ]
    | inr n ↦ elim n [
      | inl e ↦ inl (get_or part i 0, Contains-get_or part i 0 li, e)
      | inr y ↦ let m = any_member (λ e. r ≡ o.after (form_of o forms (get_or part i 0)) e) (edges_at (edge_lists into) (get_or part i 0)) y in
          inr (get_or part i 0, m.0, Contains-get_or part i 0 li, m.1, m.2)
    ]
  ]

  pub great_all : (most : ℤ) → IntoKeys o.edges into
      → ((k : ℕ) → k < length part → o.upper (form_of o forms (get_or part k 0)) (get_or part k 0) ≤ℤ most)
      → ((k : ℕ) (e : Edge) → k < length part → Contains (edges_at (edge_lists into) (get_or part k 0)) e → o.after (form_of o forms (get_or part k 0)) e ≤ℤ most)
      → Attained most → IsGreatest o part (form_of o forms) most
  great_all most keys facts edges attained = record {
    facts = λ k c. subst (λ x. o.upper (form_of o forms x) x ≤ℤ most) (same k c) (facts c.0 c.1);
    edges = λ e ca c. subst (λ x. o.after (form_of o forms x) e ≤ℤ most) (same e.to c)
        (edges c.0 e c.1 (subst (λ x. Contains (edges_at (edge_lists into) x) e) (sym (same e.to c)) ((keys e.to e).1 (ca, refl))));
    attained = elim attained [
      | inl a ↦ inl a
      | inr a ↦ let b = (keys a.0 a.1).0 a.3 in
          inr (a.1, b.0, subst (λ x. Contains part x) (sym b.1) a.2, subst (λ x. most ≡ o.after (form_of o forms x) a.1) (sym b.1) a.4)
    ];
  }
    where
      same : (k : ℕ) (c : Contains part k) → get_or part c.0 0 ≡ k
      same k c = sym (get_or_default part c.0 k 0 c.1) ∙ c.2
