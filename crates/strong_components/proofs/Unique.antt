-- A graph has one list of components.
use Rattle.std.proofs.Common.{◌≡◌, ℕ, ◌<◌, ◌≤◌, ◌⊎◌, inl, inr, List, [], ◌∷◌, length, get_or, map, refl, sym, ap, subst, ◌∙◌, arith, zero, suc}
use Rattle.std.specs.List.{AllPairs, Contains}
use Rattle.std.proofs.lemmas.List.{get_or_default, get_or-map, length-map, ext_get_or}
use Rattle.std.proofs.lemmas.List.Elements.{Contains-get_or}
use Rattle.std.proofs.lemmas.Bool.{cases_lt}
use Rattle.strong_components.specs.declared.edge.Edge.{Edge}
use Rattle.strong_components.specs.Components.{part_at, IsComponents}

there : (x : ℕ) (xs : List ℕ) (u : ℕ) → Contains xs u → Contains (x ∷ xs) u
there x xs u c = (suc c.0, omega (arith, c.1), c.2)

split : (x : ℕ) (xs : List ℕ) (u : ℕ) → Contains (x ∷ xs) u → (x ≡ u) ⊎ Contains xs u
split x xs u (zero, lt, e) = inl e
split x xs u (suc k, lt, e) = inr (k, omega arith, e)

-- the first of ascending numbers is the least
least : (xs : List ℕ) → AllPairs (λ a b. a < b) xs → (u : ℕ) → Contains xs u → get_or xs 0 0 ≤ u
least xs h u c =
    let at : get_or xs c.0 0 ≡ u = sym (get_or_default xs c.0 u 0 c.1) ∙ c.2 in
    elim (cases_lt 0 c.0) as (λ _. get_or xs 0 0 ≤ u) [
      | inl lt ↦ omega (arith, h 0 c.0 0 lt c.1)
      | inr ge ↦ let is : c.0 ≡ 0 = omega arith in omega (arith, ap (λ n. get_or xs n 0) is)
    ]

tail : (x : ℕ) (xs : List ℕ) → AllPairs (λ a b. a < b) (x ∷ xs) → AllPairs (λ a b. a < b) xs
tail x xs h i j d lt lj = h (suc i) (suc j) d (omega arith) (omega arith)

above : (x : ℕ) (xs : List ℕ) → AllPairs (λ a b. a < b) (x ∷ xs) → (u : ℕ) → Contains xs u → x < u
above x xs h u c = let at : get_or xs c.0 0 ≡ u = sym (get_or_default xs c.0 u 0 c.1) ∙ c.2 in omega (arith, h 0 (suc c.0) 0 (omega arith) (omega (arith, c.1)))

-- ascending numbers are fixed by their members
same_ascending : (xs ys : List ℕ) → AllPairs (λ a b. a < b) xs → AllPairs (λ a b. a < b) ys
    → ((u : ℕ) → Contains xs u → Contains ys u) → ((u : ℕ) → Contains ys u → Contains xs u) → xs ≡ ys
same_ascending [] [] h g a b = refl
same_ascending [] (y ∷ ys) h g a b = absurd (omega (arith, (b y (0, omega arith, refl)).1))
same_ascending (x ∷ xs) [] h g a b = absurd (omega (arith, (a x (0, omega arith, refl)).1))
same_ascending (x ∷ xs) (y ∷ ys) h g a b =
    let yx : y ≤ x = least (y ∷ ys) g x (a x (0, omega arith, refl)) in
    let xy : x ≤ y = least (x ∷ xs) h y (b y (0, omega arith, refl)) in
    let e : x ≡ y = omega arith in
    let rest = same_ascending xs ys (tail x xs h) (tail y ys g)
    (λ u c. elim (split y ys u (a u (there x xs u c))) [ inl is ↦ absurd (omega (arith, above x xs h u c)) | inr c' ↦ c' ])
    (λ u c. elim (split x xs u (b u (there y ys u c))) [ inl is ↦ absurd (omega (arith, above y ys g u c)) | inr c' ↦ c' ]) in
    λ i. e i ∷ rest i

abbrev first_of_part : List ℕ → ℕ
first_of_part p = get_or p 0 0

module _ (edges : List Edge) (keys : List ℕ) where
  find : (ps : List (List ℕ)) → IsComponents edges keys ps → (u : ℕ) → Contains keys u → (p : ℕ) × (p < length ps) × Contains (part_at ps p) u
  find ps h u c = let q = h.covered c.0 u c.1 in (q.0, q.1, subst (λ x. Contains (part_at ps q.0) x) c.2 q.2)

  is_key : (ps : List (List ℕ)) → IsComponents edges keys ps → (p u : ℕ) → p < length ps → Contains (part_at ps p) u → Contains keys u
  is_key ps h p u lp c = subst (λ x. Contains keys x) c.2 (h.members p lp c.0 u c.1)

  first_in : (ps : List (List ℕ)) → IsComponents edges keys ps → (p : ℕ) → p < length ps → Contains (part_at ps p) (get_or (part_at ps p) 0 0)
  first_in ps h p lp = Contains-get_or (part_at ps p) 0 0 (h.some p lp)

  firsts_ascend : (ps : List (List ℕ)) → IsComponents edges keys ps → AllPairs (λ a b. a < b) (map first_of_part ps)
  firsts_ascend ps h i j d lt lj =
      let n = length-map ps first_of_part in
      omega (arith, get_or-map first_of_part ps i [] d (omega arith), get_or-map first_of_part ps j [] d (omega arith), h.firsts i j lt (omega arith))

  firsts_same : (ps qs : List (List ℕ)) → IsComponents edges keys ps → IsComponents edges keys qs → (u : ℕ) → Contains (map first_of_part ps) u → Contains (map first_of_part qs) u
  firsts_same ps qs h g u c =
      let lp : c.0 < length ps = omega (arith, c.1, length-map ps first_of_part) in
      let at : get_or (part_at ps c.0) 0 0 ≡ u = sym (get_or-map first_of_part ps c.0 [] u lp) ∙ c.2 in
      let cu : Contains (part_at ps c.0) u = subst (λ x. Contains (part_at ps c.0) x) at (first_in ps h c.0 lp) in
      let q = find qs g u (is_key ps h c.0 u lp cu) in
      let w : ℕ = get_or (part_at qs q.0) 0 0 in
      let cw = first_in qs g q.0 q.1 in
      let wu : get_or (part_at qs q.0) 0 0 ≤ u = least (part_at qs q.0) (g.ascend q.0 q.1) u q.2 in
      let r = find ps h w (is_key qs g q.0 w q.1 cw) in
      let same : r.0 ≡ c.0 = (h.together r.0 c.0 w u r.1 lp r.2 cu).1 ((g.together q.0 q.0 w u q.1 q.1 cw q.2).0 refl) in
      let uw : get_or (part_at ps c.0) 0 0 ≤ w = least (part_at ps c.0) (h.ascend c.0 lp) w (subst (λ x. Contains (part_at ps x) w) same r.2) in
      let e : w ≡ u = omega arith in
      let lq : q.0 < length (map first_of_part qs) = omega (arith, q.1, length-map qs first_of_part) in
      (q.0, lq, get_or-map first_of_part qs q.0 [] u q.1 ∙ e)

  part_in : (ps qs : List (List ℕ)) → IsComponents edges keys ps → IsComponents edges keys qs → (p : ℕ) → p < length ps → p < length qs
      → get_or (part_at ps p) 0 0 ≡ get_or (part_at qs p) 0 0 → (u : ℕ) → Contains (part_at ps p) u → Contains (part_at qs p) u
  part_in ps qs h g p lp lq e u c =
      let q = find qs g u (is_key ps h p u lp c) in
      let cf : Contains (part_at ps p) (get_or (part_at qs p) 0 0) = subst (λ x. Contains (part_at ps p) x) e (first_in ps h p lp) in
      let same : q.0 ≡ p = (g.together q.0 p u (get_or (part_at qs p) 0 0) q.1 lq q.2 (first_in qs g p lq)).1 ((h.together p p u (get_or (part_at qs p) 0 0) lp lp c cf).0 refl) in
      subst (λ x. Contains (part_at qs x) u) same q.2

  -- a graph has one list of components
  pub same_components : (ps qs : List (List ℕ)) → IsComponents edges keys ps → IsComponents edges keys qs → ps ≡ qs
  same_components ps qs h g =
      let firsts : map first_of_part ps ≡ map first_of_part qs = same_ascending (map first_of_part ps) (map first_of_part qs) (firsts_ascend ps h) (firsts_ascend qs g) (firsts_same ps qs h g) (firsts_same qs ps g h) in
      let n : length ps ≡ length qs = omega (arith, length-map ps first_of_part, length-map qs first_of_part, ap length firsts) in
      ext_get_or [] ps qs n (λ p lp.
      let lq : p < length qs = omega arith in
      let e : get_or (part_at ps p) 0 0 ≡ get_or (part_at qs p) 0 0 = sym (get_or-map first_of_part ps p [] 0 lp) ∙ ap (λ x. get_or x p 0) firsts ∙ get_or-map first_of_part qs p [] 0 lq in
      same_ascending (part_at ps p) (part_at qs p) (h.ascend p lp) (g.ascend p lq) (part_in ps qs h g p lp lq e) (part_in qs ps g h p lq lp (sym e)))
