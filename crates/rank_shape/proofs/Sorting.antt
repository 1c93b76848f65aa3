-- Keys are given the place of their part, and edges are put to the part that they stay in.
use Rattle.std.proofs.Common.{◌≡◌, ℕ, ◌+◌, ◌<◌, inl, inr, Bool, true, false, ◌&&◌, cond, List, [], ◌∷◌, ◌++◌, length, get_or, set, sym, ap, subst, ◌∙◌, arith}
use Rattle.std.specs.List.{All, Contains}
use Rattle.std.specs.declared.alloc.Global.{Global}
use Rattle.std.specs.declared.vec.Vec.{Vec}
use Rattle.std.proofs.lemmas.List.{get_or-set_same, get_or-set_other, length-set, get_or_append_left, get_or_push, get_or_past, length_push, map_push, map-set, get_or-map, append-nil, length-map, nil_from_length}
use Rattle.std.proofs.lemmas.List.Elements.{filter-append}
use Rattle.std.proofs.lemmas.Bool.{cases_eq, cases_lt, false_from_ne_true, and_from, and_left, and_right}
use Rattle.strong_components.specs.declared.edge.Edge.{Edge}
use Rattle.strong_components.specs.Components.{part_at}
use Rattle.strong_components.specs.Groups.{lists_of}
use Rattle.rank_shape.specs.Nests.{has, inside}
use Rattle.rank_shape.specs.Places.{Apart, PlacesOf, edge_lists, edges_at, AreInside}
use Rattle.rank_shape.proofs.Lists.{has_true, true_has}

module _ (places part : List ℕ) (i key p : ℕ) (lk : key < length places) (at : get_or part i 0 ≡ key) where
  pub place_here : ((k : ℕ) → k < i → get_or places (get_or part k 0) 0 ≡ p) → (k : ℕ) → k < i + 1 → get_or (set places key p) (get_or part k 0) 0 ≡ p
  place_here old k lt = elim (cases_eq (get_or part k 0) key) [
    | inl is ↦ subst (λ x. get_or (set places key p) x 0 ≡ p) (sym is) (get_or-set_same places key p 0 lk)
    | inr ne ↦ get_or-set_other places key (get_or part k 0) p 0 ne ∙ elim (cases_lt k i) [
      | inl below ↦ old k below
      | inr ge ↦ let is : k ≡ i = omega arith in absurd (ne (ap (λ n. get_or part n 0) is ∙ at))
    ]
  ]

  pub place_others : (before : List ℕ) → ((u : ℕ) → ((k : ℕ) → k < i → get_or part k 0 ≡ u → ⊥) → get_or places u 0 ≡ get_or before u 0)
      → (u : ℕ) → ((k : ℕ) → k < i + 1 → get_or part k 0 ≡ u → ⊥) → get_or (set places key p) u 0 ≡ get_or before u 0
  place_others before old u away =
      get_or-set_other places key u p 0 (λ is. away i (omega arith) (at ∙ sym is)) ∙ old u (λ k lt. away k (omega arith))

-- one more part
pub place_more : (parts : List (List ℕ)) (before after : List ℕ) (p : ℕ) → p < length parts → Apart parts
    → ((q u : ℕ) → q < p → Contains (part_at parts q) u → get_or before u 0 ≡ q)
    → All (λ k. get_or after k 0 ≡ p) (part_at parts p)
    → ((u : ℕ) → (Contains (part_at parts p) u → ⊥) → get_or after u 0 ≡ get_or before u 0)
    → (q u : ℕ) → q < p + 1 → Contains (part_at parts q) u → get_or after u 0 ≡ q
place_more parts before after p lp apart old new others q u lt c = elim (cases_lt q p) [
  | inl below ↦ others u (λ c'. omega (arith, apart q p u (omega arith) lp c c')) ∙ old q u below c
  | inr ge ↦ let is : p ≡ q = omega arith in
      let c' : Contains (part_at parts p) u = subst (λ x. Contains (part_at parts x) u) (sym is) c in
      subst (λ x. get_or after x 0 ≡ p) c'.2 (new c'.0 u c'.1) ∙ is
]

-- one more empty list
pub empty_more : (lists : List (Vec Edge Global)) (v : Vec Edge Global) → v.items ≡ [] → ((p : ℕ) → length (edges_at (edge_lists lists) p) ≡ 0)
    → (p : ℕ) → length (edges_at (edge_lists (lists ++ v ∷ [])) p) ≡ 0
empty_more lists v nil old p =
    let split : edge_lists (lists ++ v ∷ []) ≡ edge_lists lists ++ v.items ∷ [] = map_push (λ (w : Vec Edge Global). w.items) lists v in
    let rest : length (edges_at (edge_lists lists ++ v.items ∷ []) p) ≡ 0 = elim (cases_lt p (length (edge_lists lists))) [
      | inl lt ↦ ap length (get_or_append_left (edge_lists lists) (v.items ∷ []) [] p lt) ∙ old p
      | inr ge ↦ elim (cases_eq p (length (edge_lists lists))) [
        | inl is ↦ ap length (get_or_push (edge_lists lists) v.items [] p (sym is)) ∙ ap length nil
        | inr ne ↦ ap length (get_or_past (edge_lists lists ++ v.items ∷ []) p [] (omega (arith, length_push (edge_lists lists) v.items)))
      ]
    ] in
    ap (λ x. length (edges_at x p)) split ∙ rest

pub put_at : (lists : List (Vec Edge Global)) (p : ℕ) (old new : Vec Edge Global) (e : Edge) → p < length lists → old ≡ get_or lists p old → new.items ≡ old.items ++ e ∷ []
    → edge_lists (set lists p new) ≡ set (edge_lists lists) p (edges_at (edge_lists lists) p ++ e ∷ [])
put_at lists p old new e lp read is =
    let here : edges_at (edge_lists lists) p ≡ old.items = get_or-map (λ (v : Vec Edge Global). v.items) lists p old [] lp ∙ ap (λ (v : Vec Edge Global). v.items) (sym read) in
    map-set (λ (v : Vec Edge Global). v.items) lists p new ∙ ap (λ x. set (edge_lists lists) p x) (is ∙ ap (λ x. x ++ e ∷ []) (sym here))

module _ (parts : List (List ℕ)) (places : List ℕ) (placed : PlacesOf parts places) where
  has_here : (u a : ℕ) → a < length parts → Contains (part_at parts a) u → has (part_at parts (get_or places u 0)) u ≡ true
  has_here u a la c = subst (λ x. has (part_at parts x) u ≡ true) (sym (placed a u la c)) (true_has (part_at parts a) u c)

  has_not : (u q : ℕ) → q < length parts → (q ≡ get_or places u 0 → ⊥) → has (part_at parts q) u ≡ false
  has_not u q lq ne = false_from_ne_true (has (part_at parts q) u) (λ t. ne (sym (placed q u lq (has_true (part_at parts q) u t))))

  one_more : (q : ℕ) (xs : List Edge) (e : Edge) (b : Bool) → (has (part_at parts q) e.from && has (part_at parts q) e.to) ≡ b
      → inside (part_at parts q) (xs ++ e ∷ []) ≡ inside (part_at parts q) xs ++ cond b (e ∷ []) []
  one_more q xs e b is = filter-append (λ (x : Edge). has (part_at parts q) x.from && has (part_at parts q) x.to) xs (e ∷ [])
      ∙ ap (λ t. inside (part_at parts q) xs ++ cond t (e ∷ []) []) is

  pub inside_put : (xs : List Edge) (e : Edge) (lists : List (List Edge)) → AreInside parts xs lists
      → ((a : ℕ) × (a < length parts) × Contains (part_at parts a) e.from) → ((a : ℕ) × (a < length parts) × Contains (part_at parts a) e.to)
      → get_or places e.from 0 ≡ get_or places e.to 0
      → AreInside parts (xs ++ e ∷ []) (set lists (get_or places e.from 0) (edges_at lists (get_or places e.from 0) ++ e ∷ []))
  inside_put xs e lists h f t same =
      let p : ℕ = get_or places e.from 0 in
      let lp : p < length parts = omega (arith, placed f.0 e.from f.1 f.2, f.1) in
      let both : (has (part_at parts (get_or places e.from 0)) e.from && has (part_at parts (get_or places e.from 0)) e.to) ≡ true =
      and_from (has (part_at parts (get_or places e.from 0)) e.from) (has (part_at parts (get_or places e.from 0)) e.to)
      (has_here e.from f.0 f.1 f.2) (subst (λ x. has (part_at parts x) e.to ≡ true) (sym same) (has_here e.to t.0 t.1 t.2)) in
      record {
        len = length-set lists p (edges_at lists p ++ e ∷ []) ∙ h.len;
        each = λ q lq. elim (cases_eq q p) [
          | inl is ↦ subst (λ x. edges_at (set lists p (edges_at lists p ++ e ∷ [])) x ≡ inside (part_at parts x) (xs ++ e ∷ [])) (sym is)
              (get_or-set_same lists p (edges_at lists p ++ e ∷ []) [] (omega (arith, h.len)) ∙ ap (λ x. x ++ e ∷ []) (h.each p lp) ∙ sym (one_more p xs e true both))
          | inr ne ↦ get_or-set_other lists p q (edges_at lists p ++ e ∷ []) [] ne ∙ h.each q lq ∙ sym (append-nil (inside (part_at parts q) xs))
              ∙ sym (one_more q xs e false (and_left (has (part_at parts q) e.from) (has (part_at parts q) e.to) (has_not e.from q lq ne)))
        ];
      }

  pub inside_pass : (xs : List Edge) (e : Edge) (lists : List (List Edge)) → AreInside parts xs lists
      → (get_or places e.from 0 ≡ get_or places e.to 0 → ⊥)
      → AreInside parts (xs ++ e ∷ []) lists
  inside_pass xs e lists h differ = record {
    len = h.len;
    each = λ q lq. h.each q lq ∙ sym (append-nil (inside (part_at parts q) xs)) ∙ sym (one_more q xs e false (elim (cases_eq q (get_or places e.from 0)) [
      | inl is ↦ and_right (has (part_at parts q) e.from) (has (part_at parts q) e.to) (has_not e.to q lq (λ is'. differ (sym is ∙ is')))
      | inr ne ↦ and_left (has (part_at parts q) e.from) (has (part_at parts q) e.to) (has_not e.from q lq ne)
    ]));
  }

pub inside_none : (parts : List (List ℕ)) (lists : List (List Edge)) → length lists ≡ length parts → ((p : ℕ) → length (edges_at lists p) ≡ 0) → AreInside parts [] lists
inside_none parts lists len empty = record {
  len = len;
  each = λ p lp. nil_from_length (edges_at lists p) (empty p);
}

-- the keys of a part, as they are read
pub part_read : (parts : List (Vec ℕ Global)) (p : ℕ) (v : Vec ℕ Global) → p < length parts → v ≡ get_or parts p v → part_at (lists_of parts) p ≡ v.items
part_read parts p v lp read = get_or-map (λ (w : Vec ℕ Global). w.items) parts p v [] lp ∙ ap (λ (w : Vec ℕ Global). w.items) (sym read)

pub lists_length : (parts : List (Vec ℕ Global)) → length (lists_of parts) ≡ length parts
lists_length parts = length-map parts (λ (w : Vec ℕ Global). w.items)

pub edge_lists_length : (lists : List (Vec Edge Global)) → length (edge_lists lists) ≡ length lists
edge_lists_length lists = length-map lists (λ (w : Vec Edge Global). w.items)

pub list_read : (lists : List (Vec Edge Global)) (p : ℕ) (v : Vec Edge Global) → p < length lists → v ≡ get_or lists p v → edges_at (edge_lists lists) p ≡ v.items
list_read lists p v lp read = get_or-map (λ (w : Vec Edge Global). w.items) lists p v [] lp ∙ ap (λ (w : Vec Edge Global). w.items) (sym read)
