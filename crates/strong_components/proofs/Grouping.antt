-- Keys in ascending order are put together by their numbers, one by one.
use Rattle.std.proofs.Common.{◌≡◌, ℕ, ◌+◌, ◌<◌, ◌⊎◌, inl, inr, List, [], ◌∷◌, ◌++◌, Option, Some, None, length, get_or, set, take, refl, sym, ap, subst, ◌∙◌, arith, MatchOption}
use Rattle.std.specs.List.{AllPairs, Contains}
use Rattle.std.proofs.lemmas.List.{length_push, get_or_push, get_or_append_left, get_or-set_same, get_or-set_other, length-set, get_or_default, get_or_past, get_or-map, map-set, get_or-take, length-take}
use Rattle.std.proofs.lemmas.List.Elements.{Contains-append_left, Contains-push, Contains-push_cases, Contains-get_or, All-push}
use Rattle.std.proofs.lemmas.List.Quantifiers.{all_pairs_push}
use Rattle.std.proofs.lemmas.Bool.{cases_eq, cases_lt}
use Rattle.strong_components.specs.declared.edge.Edge.{Edge}
use Rattle.strong_components.specs.declared.search.Mark.{Mark}
use Rattle.strong_components.specs.declared.search.Mark.TheVariants.{Done}
use Rattle.strong_components.specs.Search.{mark_of}
use Rattle.strong_components.specs.Numbers.{Numbered, number_of}
use Rattle.strong_components.specs.Components.{part_at, IsComponents, IsOrder}
use Rattle.std.specs.declared.alloc.Global.{Global}
use Rattle.std.specs.declared.vec.Vec.{Vec}
use Rattle.strong_components.specs.Groups.{lists_of, place_of, Added, Grouped, Ordered}

contains_at : (xs ys : List ℕ) (u : ℕ) → xs ≡ ys → Contains xs u → Contains ys u
contains_at xs ys u e c = subst (λ x. Contains x u) e c

contains_one : (key u : ℕ) → Contains (key ∷ []) u → key ≡ u
contains_one key u c = elim (Contains-push_cases [] key u c) [ inl none ↦ absurd (omega (arith, none.1)) | inr e ↦ e ]

option_cases : (o : Option ℕ) → (o ≡ None) ⊎ ((p : ℕ) × (o ≡ Some p))
option_cases None = inl refl
option_cases (Some p) = inr (p, refl)

pub none_grouped : (number : ℕ → ℕ) (places : List (Option ℕ)) → ((n : ℕ) → place_of places n ≡ None) → Grouped number [] places []
none_grouped number places none = record {
  of_part = λ p u lp c. absurd (omega arith);
  below = λ n p e. absurd (let f = none n in cc);
  apart = λ n m p e f. absurd (let g = none n in cc);
  some = λ p lp. absurd (omega arith);
  ascend = λ p lp. absurd (omega arith);
  firsts = λ p q lt lq. absurd (omega arith);
  members = λ p u lp c. absurd (omega arith);
  covered = λ u c. absurd (omega (arith, c.1));
}

module _ (number : ℕ → ℕ) (keys : List ℕ) (places : List (Option ℕ)) (parts : List (List ℕ)) (key : ℕ)
    (h : Grouped number keys places parts) (above : (u : ℕ) → Contains keys u → u < key) where
  -- to the part of its number
  module _ (p : ℕ) (at : place_of places (number key) ≡ Some p) where
    abbrev longer : List (List ℕ)
    longer = set parts p (part_at parts p ++ key ∷ [])

    in_parts : p < length parts
    in_parts = h.below (number key) p at

    same_count : length longer ≡ length parts
    same_count = length-set parts p (part_at parts p ++ key ∷ [])

    longer_here : part_at longer p ≡ part_at parts p ++ key ∷ []
    longer_here = get_or-set_same parts p (part_at parts p ++ key ∷ []) [] in_parts

    longer_other : (q : ℕ) → (q ≡ p → ⊥) → part_at longer q ≡ part_at parts q
    longer_other q ne = get_or-set_other parts p q (part_at parts p ++ key ∷ []) [] ne

    longer_has : (q u : ℕ) → Contains (part_at parts q) u → Contains (part_at longer q) u
    longer_has q u c = elim (cases_eq q p) [
      | inl e ↦ subst (λ x. Contains (part_at longer x) u) (sym e)
          (contains_at (part_at parts p ++ key ∷ []) (part_at longer p) u (sym longer_here)
          (Contains-append_left (part_at parts p) (key ∷ []) u (subst (λ x. Contains (part_at parts x) u) e c)))
      | inr ne ↦ contains_at (part_at parts q) (part_at longer q) u (sym (longer_other q ne)) c
    ]

    longer_cases : (q u : ℕ) → Contains (part_at longer q) u → Contains (part_at parts q) u ⊎ ((q ≡ p) × (key ≡ u))
    longer_cases q u c = elim (cases_eq q p) [
      | inl e ↦ elim (Contains-push_cases (part_at parts p) key u (contains_at (part_at longer p) (part_at parts p ++ key ∷ []) u longer_here (subst (λ x. Contains (part_at longer x) u) e c))) [
        | inl old ↦ inl (subst (λ x. Contains (part_at parts x) u) (sym e) old)
        | inr new ↦ inr (e, new)
      ]
      | inr ne ↦ inl (contains_at (part_at longer q) (part_at parts q) u (longer_other q ne) c)
    ]

    longer_first : (q : ℕ) → q < length parts → get_or (part_at longer q) 0 0 ≡ get_or (part_at parts q) 0 0
    longer_first q lq = elim (cases_eq q p) [
      | inl e ↦ subst (λ x. get_or (part_at longer x) 0 0 ≡ get_or (part_at parts x) 0 0) (sym e)
          (ap (λ x. get_or x 0 0) longer_here ∙ get_or_append_left (part_at parts p) (key ∷ []) 0 0 (h.some p in_parts))
      | inr ne ↦ ap (λ x. get_or x 0 0) (longer_other q ne)
    ]

    grouped_longer : Grouped number (keys ++ key ∷ []) places longer
    grouped_longer = record {
      of_part = λ q u lq c. elim (longer_cases q u c) [
        | inl old ↦ h.of_part q u (omega (arith, same_count)) old
        | inr (e, new) ↦ subst (λ x. place_of places (number x) ≡ Some q) new (at ∙ ap Some (sym e))
      ];
      below = λ n q e. omega (arith, same_count, h.below n q e);
      apart = h.apart;
      some = λ q lq. elim (cases_eq q p) as (λ _. 0 < length (part_at longer q)) [
        | inl e ↦ subst (λ x. 0 < length (part_at longer x)) (sym e) (omega (arith, ap length longer_here, length_push (part_at parts p) key))
        | inr ne ↦ omega (arith, ap length (longer_other q ne), h.some q (omega (arith, same_count)))
      ];
      ascend = λ q lq. elim (cases_eq q p) [
        | inl e ↦ subst (λ x. AllPairs (λ u v. u < v) (part_at longer x)) (sym e) (subst (λ x. AllPairs (λ u v. u < v) x) (sym longer_here)
            (all_pairs_push (λ u v. u < v) (part_at parts p) key (h.ascend p in_parts)
            (λ k d lk. above (get_or (part_at parts p) k d) (h.members p (get_or (part_at parts p) k d) in_parts (Contains-get_or (part_at parts p) k d lk)))))
        | inr ne ↦ subst (λ x. AllPairs (λ u v. u < v) x) (sym (longer_other q ne)) (h.ascend q (omega (arith, same_count)))
      ];
      firsts = λ q r lt lr. omega (arith, longer_first q (omega (arith, same_count)), longer_first r (omega (arith, same_count)), h.firsts q r lt (omega (arith, same_count)));
      members = λ q u lq c. elim (longer_cases q u c) [
        | inl old ↦ Contains-append_left keys (key ∷ []) u (h.members q u (omega (arith, same_count)) old)
        | inr (e, new) ↦ subst (λ x. Contains (keys ++ key ∷ []) x) new (Contains-push keys key)
      ];
      covered = λ u c. elim (Contains-push_cases keys key u c) [
        | inl old ↦ let q = h.covered u old in (q.0, omega (arith, same_count, q.1), longer_has q.0 u q.2)
        | inr new ↦ (
          p,
          omega (arith, same_count, in_parts),
          contains_at (part_at parts p ++ key ∷ []) (part_at longer p) u (sym longer_here) (subst (λ x. Contains (part_at parts p ++ key ∷ []) x) new (Contains-push (part_at parts p) key)),
        )
      ];
    }

  -- as a part of its own
  module _ (none : place_of places (number key) ≡ None) (within : number key < length places) where
    abbrev more : List (List ℕ)
    more = parts ++ (key ∷ []) ∷ []

    abbrev more_places : List (Option ℕ)
    more_places = set places (number key) (Some (length parts))

    more_count : length more ≡ length parts + 1
    more_count = length_push parts (key ∷ [])

    more_at : place_of more_places (number key) ≡ Some (length parts)
    more_at = get_or-set_same places (number key) (Some (length parts)) None within

    more_other : (n : ℕ) → (n ≡ number key → ⊥) → place_of more_places n ≡ place_of places n
    more_other n ne = get_or-set_other places (number key) n (Some (length parts)) None ne

    more_back : (n q : ℕ) → place_of more_places n ≡ Some q → (place_of places n ≡ Some q) ⊎ ((n ≡ number key) × (q ≡ length parts))
    more_back n q e = elim (cases_eq n (number key)) [
      | inl is ↦ let f : place_of more_places n ≡ Some (length parts) = subst (λ x. place_of more_places x ≡ Some (length parts)) (sym is) more_at in inr (is, cc)
      | inr ne ↦ inl (sym (more_other n ne) ∙ e)
    ]

    more_old : (q : ℕ) → q < length parts → part_at more q ≡ part_at parts q
    more_old q lq = get_or_append_left parts ((key ∷ []) ∷ []) [] q lq

    more_new : part_at more (length parts) ≡ key ∷ []
    more_new = get_or_push parts (key ∷ []) [] (length parts) refl

    more_cases : (q u : ℕ) → q < length more → Contains (part_at more q) u → ((q < length parts) × Contains (part_at parts q) u) ⊎ ((q ≡ length parts) × (key ≡ u))
    more_cases q u lq c = elim (cases_lt q (length parts)) [
      | inl lt ↦ inl (lt, contains_at (part_at more q) (part_at parts q) u (more_old q lt) c)
      | inr ge ↦ let is : q ≡ length parts = omega (arith, more_count) in
          inr (is, contains_one key u (contains_at (part_at more (length parts)) (key ∷ []) u more_new (subst (λ x. Contains (part_at more x) u) is c)))
    ]

    grouped_more : Grouped number (keys ++ key ∷ []) more_places more
    grouped_more = record {
      of_part = λ q u lq c. elim (more_cases q u lq c) [
        | inl (lt, old) ↦ let e = h.of_part q u lt old in more_other (number u) (λ is. let f : place_of places (number u) ≡ None = subst (λ x. place_of places x ≡ None) (sym is) none in cc) ∙ e
        | inr (is, new) ↦ subst (λ x. place_of more_places (number x) ≡ Some q) new (more_at ∙ ap Some (sym is))
      ];
      below = λ n q e. elim (more_back n q e) [
        | inl old ↦ omega (arith, more_count, h.below n q old)
        | inr (_, is) ↦ omega (arith, more_count)
      ];
      apart = λ n m q e f. elim (more_back n q e) [
        | inl a ↦ elim (more_back m q f) [
          | inl b ↦ h.apart n m q a b
          | inr (_, is) ↦ absurd (omega (arith, h.below n q a))
        ]
        | inr (is, at) ↦ elim (more_back m q f) [
          | inl b ↦ absurd (omega (arith, h.below m q b))
          | inr (is', _) ↦ omega arith
        ]
      ];
      some = λ q lq. elim (cases_lt q (length parts)) as (λ _. 0 < length (part_at more q)) [
        | inl lt ↦ omega (arith, ap length (more_old q lt), h.some q lt)
        | inr ge ↦ let is : length parts ≡ q = omega (arith, more_count) in subst (λ x. 0 < length (part_at more x)) is (omega (arith, ap length more_new))
      ];
      ascend = λ q lq. elim (cases_lt q (length parts)) [
        | inl lt ↦ subst (λ x. AllPairs (λ u v. u < v) x) (sym (more_old q lt)) (h.ascend q lt)
        | inr ge ↦ let is : length parts ≡ q = omega (arith, more_count) in
            subst (λ x. AllPairs (λ u v. u < v) (part_at more x)) is (subst (λ x. AllPairs (λ u v. u < v) x) (sym more_new) (λ i j d lt lj. absurd (omega arith)))
      ];
      firsts = λ q r lt lr.
          let lq : q < length parts = omega (arith, more_count) in
          elim (cases_lt r (length parts)) as (λ _. get_or (part_at more q) 0 0 < get_or (part_at more r) 0 0) [
            | inl sr ↦ omega (arith, ap (λ x. get_or x 0 0) (more_old q lq), ap (λ x. get_or x 0 0) (more_old r sr), h.firsts q r lt sr)
            | inr ge ↦ let is : length parts ≡ r = omega (arith, more_count) in
                let one : get_or (part_at more r) 0 0 ≡ key = subst (λ x. get_or (part_at more x) 0 0 ≡ key) is (ap (λ x. get_or x 0 0) more_new) in
                omega (arith, ap (λ x. get_or x 0 0) (more_old q lq), above (get_or (part_at parts q) 0 0) (h.members q (get_or (part_at parts q) 0 0) lq (Contains-get_or (part_at parts q) 0 0 (h.some q lq))))
          ];
      members = λ q u lq c. elim (more_cases q u lq c) [
        | inl (lt, old) ↦ Contains-append_left keys (key ∷ []) u (h.members q u lt old)
        | inr (_, new) ↦ subst (λ x. Contains (keys ++ key ∷ []) x) new (Contains-push keys key)
      ];
      covered = λ u c. elim (Contains-push_cases keys key u c) [
        | inl old ↦ let q = h.covered u old in (q.0, omega (arith, more_count, q.1), contains_at (part_at parts q.0) (part_at more q.0) u (sym (more_old q.0 q.1)) q.2)
        | inr new ↦ (
          length parts,
          omega (arith, more_count),
          contains_at (key ∷ []) (part_at more (length parts)) u (sym more_new) (subst (λ x. Contains (key ∷ []) x) new (Contains-push [] key)),
        )
      ];
    }

  pub grouped_added : (places' : List (Option ℕ)) (parts' : List (List ℕ)) → number key < length places → Added places parts (number key) key places' parts'
      → Grouped number (keys ++ key ∷ []) places' parts'
  grouped_added places' parts' within a = elim (option_cases (place_of places (number key))) [
    | inl none ↦
        let b = subst (λ o. MatchOption o ((places' ≡ set places (number key) (Some (length parts))) × (parts' ≡ parts ++ (key ∷ []) ∷ [])) (λ p. (places' ≡ places) × (parts' ≡ set parts p (part_at parts p ++ key ∷ [])))) none a in
        subst (λ x. Grouped number (keys ++ key ∷ []) places' x) (sym b.1) (subst (λ x. Grouped number (keys ++ key ∷ []) x (parts ++ (key ∷ []) ∷ [])) (sym b.0) (grouped_more none within))
    | inr (p, at) ↦
        let b = subst (λ o. MatchOption o ((places' ≡ set places (number key) (Some (length parts))) × (parts' ≡ parts ++ (key ∷ []) ∷ [])) (λ p. (places' ≡ places) × (parts' ≡ set parts p (part_at parts p ++ key ∷ [])))) at a in
        subst (λ x. Grouped number (keys ++ key ∷ []) places' x) (sym b.1) (subst (λ x. Grouped number (keys ++ key ∷ []) x (set parts p (part_at parts p ++ key ∷ []))) (sym b.0) (grouped_longer p at))
  ]

-- parts by the numbers of components are the components
pub components_grouped : (edges : List Edge) (keys : List ℕ) (marks : List Mark) (count : ℕ) (places : List (Option ℕ)) (parts : List (List ℕ))
    → Numbered edges keys marks count → Grouped (λ v. number_of (mark_of marks v)) keys places parts → IsComponents edges keys parts
components_grouped edges keys marks count places parts n g =
    let num : ℕ → ℕ = λ v. number_of (mark_of marks v) in
    let done : (u : ℕ) → Contains keys u → mark_of marks u ≡ Done (number_of (mark_of marks u)) =
    λ u c. subst (λ x. mark_of marks x ≡ Done (number_of (mark_of marks x))) c.2 (n.each c.0 u c.1) in
    record {
      some = g.some;
      ascend = g.ascend;
      firsts = g.firsts;
      members = λ p lp k d lk. g.members p (get_or (part_at parts p) k d) lp (Contains-get_or (part_at parts p) k d lk);
      covered = λ k d lk. g.covered (get_or keys k d) (Contains-get_or keys k d lk);
      together = λ p q u v lp lq cu cv.
          let a = g.of_part p u lp cu in
          let b = g.of_part q v lq cv in
          let s = n.same u v (num u) (num v) (done u (g.members p u lp cu)) (done v (g.members q v lq cv)) in (
            (λ e. s.0 (g.apart (num u) (num v) p a (b ∙ ap Some (sym e)))),
            (λ m. let e : num u ≡ num v = s.1 m in let f : place_of places (num u) ≡ Some q = subst (λ x. place_of places x ≡ Some q) (sym e) b in cc),
          );
    }

-- a key below the others stands above those before it
pub above_before : (keys : List ℕ) (i : ℕ) → AllPairs (λ a b. a < b) keys → i < length keys → (u : ℕ) → Contains (take i keys) u → u < get_or keys i 0
above_before keys i h li u c =
    let short : c.0 < i = omega (arith, length-take i keys, c.1) in
    let at : get_or keys c.0 u ≡ u = sym (get_or-take i keys c.0 u short) ∙ c.2 in
    let same : get_or keys i u ≡ get_or keys i 0 = get_or_default keys i u 0 li in
    omega (arith, h c.0 i u short li)

pub none_ordered : (places : List (Option ℕ)) → Ordered places 0 []
none_ordered places = record {
  from = λ k d lk. absurd (omega arith);
  each = λ n p lt e. absurd (omega arith);
  ascend = λ i j d lt lj. absurd (omega arith);
}

pub ordered_some : (places : List (Option ℕ)) (i p : ℕ) (order : List ℕ) → place_of places i ≡ Some p → Ordered places i order → Ordered places (i + 1) (order ++ p ∷ [])
ordered_some places i p order at h = record {
  from = All-push (λ q. (n : ℕ) × (n < i + 1) × (place_of places n ≡ Some q)) order p
      (λ k d lk. let f = h.from k d lk in (f.0, omega (arith, f.1), f.2)) (i, omega arith, at);
  each = λ n q lt e. elim (cases_lt n i) [
    | inl below ↦ Contains-append_left order (p ∷ []) q (h.each n q below e)
    | inr ge ↦ let is : i ≡ n = omega arith in let f : place_of places n ≡ Some p = subst (λ x. place_of places x ≡ Some p) is at in
        let same : p ≡ q = cc in subst (λ x. Contains (order ++ p ∷ []) x) same (Contains-push order p)
  ];
  ascend = all_pairs_push (λ q r. (n : ℕ) × (m : ℕ) × (n < m) × (place_of places n ≡ Some q) × (place_of places m ≡ Some r)) order p h.ascend
      (λ k d lk. let f = h.from k d lk in (f.0, i, f.1, f.2, at));
}

pub ordered_none : (places : List (Option ℕ)) (i : ℕ) (order : List ℕ) → place_of places i ≡ None → Ordered places i order → Ordered places (i + 1) order
ordered_none places i order at h = record {
  from = λ k d lk. let f = h.from k d lk in (f.0, omega (arith, f.1), f.2);
  each = λ n q lt e. elim (cases_lt n i) [
    | inl below ↦ h.each n q below e
    | inr ge ↦ let is : i ≡ n = omega arith in let f : place_of places n ≡ None = subst (λ x. place_of places x ≡ None) is at in absurd (cc)
  ];
  ascend = h.ascend;
}

pub order_grouped : (edges : List Edge) (keys : List ℕ) (marks : List Mark) (count : ℕ) (places : List (Option ℕ)) (parts : List (List ℕ)) (order : List ℕ)
    → Numbered edges keys marks count → Grouped (λ v. number_of (mark_of marks v)) keys places parts → Ordered places (length places) order
    → IsOrder edges parts order
order_grouped edges keys marks count places parts order n g o =
    let num : ℕ → ℕ = λ v. number_of (mark_of marks v) in
    let done : (u : ℕ) → Contains keys u → mark_of marks u ≡ Done (number_of (mark_of marks u)) =
    λ u c. subst (λ x. mark_of marks x ≡ Done (number_of (mark_of marks x))) c.2 (n.each c.0 u c.1) in
    let short : (i p : ℕ) → place_of places i ≡ Some p → i < length places =
    λ i p e. elim (cases_lt i (length places)) as (λ _. i < length places) [ inl lt ↦ lt | inr ge ↦ absurd (let f = get_or_past places i None ge in cc) ] in
    record {
      within = λ k d lk. let f = o.from k d lk in g.below f.0 (get_or order k d) f.2;
      each = λ p lp.
          let u : ℕ = get_or (part_at parts p) 0 0 in
          let c = g.of_part p u lp (Contains-get_or (part_at parts p) 0 0 (g.some p lp)) in
          o.each (num u) p (short (num u) p c) c;
      no_later = λ i j d lt lj u v cu cv path.
          let a = o.ascend i j d lt lj in
          let lp = g.below a.0 (get_or order i d) a.3 in
          let lq = g.below a.1 (get_or order j d) a.4 in
          let eu : num u ≡ a.0 = g.apart (num u) a.0 (get_or order i d) (g.of_part (get_or order i d) u lp cu) a.3 in
          let ev : num v ≡ a.1 = g.apart (num v) a.1 (get_or order j d) (g.of_part (get_or order j d) v lq cv) a.4 in
          omega (arith, n.falls u v (num u) (num v) (done u (g.members (get_or order i d) u lp cu)) (done v (g.members (get_or order j d) v lq cv)) path, a.2);
    }

-- a key is pushed to a part
pub added_to : (places : List (Option ℕ)) (parts : List (Vec ℕ Global)) (number key p : ℕ) (old new : Vec ℕ Global)
    → place_of places number ≡ Some p → p < length parts → old ≡ get_or parts p old → new.items ≡ old.items ++ key ∷ []
    → Added places (lists_of parts) number key places (lists_of (set parts p new))
added_to places parts number key p old new at lp read is =
    let here : part_at (lists_of parts) p ≡ old.items = get_or-map (λ (v : Vec ℕ Global). v.items) parts p old [] lp ∙ ap (λ (v : Vec ℕ Global). v.items) (sym read) in
    let same : lists_of (set parts p new) ≡ set (lists_of parts) p (part_at (lists_of parts) p ++ key ∷ []) =
    map-set (λ (v : Vec ℕ Global). v.items) parts p new ∙ ap (λ x. set (lists_of parts) p x) (is ∙ ap (λ x. x ++ key ∷ []) (sym here)) in
    subst (λ o. MatchOption o ((places ≡ set places number (Some (length (lists_of parts)))) × (lists_of (set parts p new) ≡ lists_of parts ++ (key ∷ []) ∷ []))
    (λ q. (places ≡ places) × (lists_of (set parts p new) ≡ set (lists_of parts) q (part_at (lists_of parts) q ++ key ∷ []))))
    (sym at) (refl, same)

pub added_len : (places : List (Option ℕ)) (parts : List (List ℕ)) (n key : ℕ) (places' : List (Option ℕ)) (parts' : List (List ℕ))
    → Added places parts n key places' parts' → length places' ≡ length places
added_len places parts n key places' parts' a = elim (option_cases (place_of places n)) [
  | inl none ↦
      let b = subst (λ o. MatchOption o ((places' ≡ set places n (Some (length parts))) × (parts' ≡ parts ++ (key ∷ []) ∷ [])) (λ p. (places' ≡ places) × (parts' ≡ set parts p (part_at parts p ++ key ∷ [])))) none a in
      ap length b.0 ∙ length-set places n (Some (length parts))
  | inr (p, at) ↦
      let b = subst (λ o. MatchOption o ((places' ≡ set places n (Some (length parts))) × (parts' ≡ parts ++ (key ∷ []) ∷ [])) (λ p. (places' ≡ places) × (parts' ≡ set parts p (part_at parts p ++ key ∷ [])))) at a in
      ap length b.0
]

pub none_since : (o : Option ℕ) → ((p : ℕ) → o ≡ Some p → ⊥) → o ≡ None
none_since o h = elim (option_cases o) [ inl none ↦ none | inr (p, e) ↦ absurd (h p e) ]
