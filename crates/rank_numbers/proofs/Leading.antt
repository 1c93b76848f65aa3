-- Which parts lead into which, edge by edge.
use Rattle.std.proofs.Common.{◌≡◌, ℕ, ◌<◌, ◌⊎◌, inl, inr, List, [], ◌∷◌, ◌++◌, length, get_or, set, refl, sym, ap, subst, ◌∙◌, arith}
use Rattle.std.specs.List.{Contains}
use Rattle.std.specs.declared.alloc.Global.{Global}
use Rattle.std.specs.declared.vec.Vec.{Vec}
use Rattle.std.proofs.lemmas.List.{get_or-set_same, get_or-set_other, length-set, get_or_append_left, get_or_push, get_or_past, length_push, map_push, map-set, get_or-map, length-map}
use Rattle.std.proofs.lemmas.List.Elements.{Contains-push, Contains-push_cases, Contains-append_left, Contains-get_or}
use Rattle.std.proofs.lemmas.Bool.{cases_eq, cases_lt}
use Rattle.strong_components.specs.declared.edge.Edge.{Edge}
use Rattle.strong_components.specs.Paths.{here}
use Rattle.strong_components.specs.Components.{part_at, IsComponents, IsOrder}
use Rattle.strong_components.proofs.Paths.{Path-one}
use Rattle.rank_shape.specs.Places.{InSome, PlacesOf}
use Rattle.rank_shape.proofs.Theory.{edge_leads}
use Rattle.rank_numbers.specs.Offsets.{leads_at, place_lists, LeadsBack}
use Rattle.rank_numbers.specs.Leads.{LeadsInto, AreLeads}

pub put_lead : (leads : List (Vec ℕ Global)) (p : ℕ) (old new : Vec ℕ Global) (q : ℕ) → p < length leads → old ≡ get_or leads p old → new.items ≡ old.items ++ q ∷ []
    → place_lists (set leads p new) ≡ set (place_lists leads) p (leads_at leads p ++ q ∷ [])
put_lead leads p old new q lp read is =
    let here' : leads_at leads p ≡ old.items = get_or-map (λ (v : Vec ℕ Global). v.items) leads p old [] lp ∙ ap (λ (v : Vec ℕ Global). v.items) (sym read) in
    map-set (λ (v : Vec ℕ Global). v.items) leads p new ∙ ap (λ x. set (place_lists leads) p x) (is ∙ ap (λ x. x ++ q ∷ []) (sym here'))

pub empty_lead : (lists : List (Vec ℕ Global)) (v : Vec ℕ Global) → v.items ≡ [] → ((p : ℕ) → length (leads_at lists p) ≡ 0) → (p : ℕ) → length (leads_at (lists ++ v ∷ []) p) ≡ 0
empty_lead lists v nil old p =
    let split : place_lists (lists ++ v ∷ []) ≡ place_lists lists ++ v.items ∷ [] = map_push (λ (w : Vec ℕ Global). w.items) lists v in
    let rest : length (get_or (place_lists lists ++ v.items ∷ []) p []) ≡ 0 = elim (cases_lt p (length (place_lists lists))) [
      | inl lt ↦ ap length (get_or_append_left (place_lists lists) (v.items ∷ []) [] p lt) ∙ old p
      | inr ge ↦ elim (cases_eq p (length (place_lists lists))) [
        | inl is ↦ ap length (get_or_push (place_lists lists) v.items [] p (sym is)) ∙ ap length nil
        | inr ne ↦ ap length (get_or_past (place_lists lists ++ v.items ∷ []) p [] (omega (arith, length_push (place_lists lists) v.items)))
      ]
    ] in
    ap (λ x. length (get_or x p [])) split ∙ rest

pub place_lists_length : (leads : List (Vec ℕ Global)) → length (place_lists leads) ≡ length leads
place_lists_length leads = length-map leads (λ (v : Vec ℕ Global). v.items)

pub none_lead : (parts : List (List ℕ)) (leads : List (Vec ℕ Global)) → length leads ≡ length parts → ((p : ℕ) → length (leads_at leads p) ≡ 0) → AreLeads parts [] leads
none_lead parts leads len empty = record {
  len = len;
  sound = λ p q c. absurd (omega (arith, c.1, empty p));
  complete = λ p q lp l. absurd (omega (arith, l.2.1.1));
}

module _ (parts : List (List ℕ)) (places : List ℕ) (placed : PlacesOf parts places) (xs : List Edge) (e : Edge) (leads : List (Vec ℕ Global)) (h : AreLeads parts xs leads)
    (f : InSome parts e.from) (t : InSome parts e.to) where
  from_place : get_or places e.from 0 ≡ f.0
  from_place = placed f.0 e.from f.1 f.2

  to_place : get_or places e.to 0 ≡ t.0
  to_place = placed t.0 e.to t.1 t.2

  more : (p q : ℕ) → LeadsInto parts xs p q → LeadsInto parts (xs ++ e ∷ []) p q
  more p q l = (l.0, l.1, (l.2.0, Contains-append_left xs (e ∷ []) l.2.0 l.2.1, l.2.2, l.2.3))

  back : (p q : ℕ) → p < length parts → LeadsInto parts (xs ++ e ∷ []) p q → LeadsInto parts xs p q ⊎ ((p ≡ f.0) × (q ≡ t.0))
  back p q lp l = elim (Contains-push_cases xs e l.2.0 l.2.1) [
    | inl old ↦ inl (l.0, l.1, (l.2.0, old, l.2.2, l.2.3))
    | inr new ↦ inr (
      sym (placed p e.from lp (subst (λ x. Contains (part_at parts p) x.from) (sym new) l.2.2)) ∙ from_place,
      sym (placed q e.to l.0 (subst (λ x. Contains (part_at parts q) x.to) (sym new) l.2.3)) ∙ to_place,
    )
  ]

  pub lead_put : (after : List (Vec ℕ Global)) → (get_or places e.from 0 ≡ get_or places e.to 0 → ⊥)
      → place_lists after ≡ set (place_lists leads) (get_or places e.from 0) (leads_at leads (get_or places e.from 0) ++ get_or places e.to 0 ∷ [])
      → AreLeads parts (xs ++ e ∷ []) after
  lead_put after differ is =
      let p0 : ℕ = get_or places e.from 0 in
      let q0 : ℕ = get_or places e.to 0 in
      let lp : p0 < length (place_lists leads) = omega (arith, from_place, f.1, h.len, place_lists_length leads) in
      let same : leads_at after p0 ≡ leads_at leads p0 ++ q0 ∷ [] = ap (λ x. get_or x p0 []) is ∙ get_or-set_same (place_lists leads) p0 (leads_at leads p0 ++ q0 ∷ []) [] lp in
      let other : (p : ℕ) → (p ≡ p0 → ⊥) → leads_at after p ≡ leads_at leads p = λ p ne. ap (λ x. get_or x p []) is ∙ get_or-set_other (place_lists leads) p0 p (leads_at leads p0 ++ q0 ∷ []) [] ne in
      record {
        len = omega (arith, place_lists_length after, place_lists_length leads, ap length is, length-set (place_lists leads) p0 (leads_at leads p0 ++ q0 ∷ []), h.len);
        sound = λ p q c. elim (cases_eq p p0) [
          | inl at ↦ elim (Contains-push_cases (leads_at leads p0) q0 q (subst (λ x. Contains x q) same (subst (λ x. Contains (leads_at after x) q) at c))) [
            | inl old ↦ more p q (h.sound p q (subst (λ x. Contains (leads_at leads x) q) (sym at) old))
            | inr new ↦
                let qt : t.0 ≡ q = sym to_place ∙ new in
                let pf : f.0 ≡ p = sym from_place ∙ sym at in (
                  omega (arith, qt, t.1),
                  (λ e'. differ (sym at ∙ sym e' ∙ sym new)),
                  (e, Contains-push xs e, subst (λ x. Contains (part_at parts x) e.from) pf f.2, subst (λ x. Contains (part_at parts x) e.to) qt t.2),
                )
          ]
          | inr ne ↦ more p q (h.sound p q (subst (λ x. Contains x q) (other p ne) c))
        ];
        complete = λ p q lp' l. elim (back p q lp' l) [
          | inl old ↦ let c = h.complete p q lp' old in elim (cases_eq p p0) [
            | inl at ↦ subst (λ x. Contains (leads_at after x) q) (sym at) (subst (λ x. Contains x q) (sym same) (Contains-append_left (leads_at leads p0) (q0 ∷ []) q (subst (λ x. Contains (leads_at leads x) q) at c)))
            | inr ne ↦ subst (λ x. Contains x q) (sym (other p ne)) c
          ]
          | inr (pf, qt) ↦
              let at : p ≡ p0 = pf ∙ sym from_place in
              let new : q0 ≡ q = to_place ∙ sym qt in
              subst (λ x. Contains (leads_at after x) q) (sym at) (subst (λ x. Contains x q) (sym same) (subst (λ x. Contains (leads_at leads p0 ++ q0 ∷ []) x) new (Contains-push (leads_at leads p0) q0)))
        ];
      }

  pub lead_pass : get_or places e.from 0 ≡ get_or places e.to 0 → AreLeads parts (xs ++ e ∷ []) leads
  lead_pass same = record {
    len = h.len;
    sound = λ p q c. more p q (h.sound p q c);
    complete = λ p q lp l. elim (back p q lp l) [
      | inl old ↦ h.complete p q lp old
      | inr (pf, qt) ↦ absurd (l.1 (qt ∙ sym to_place ∙ sym same ∙ from_place ∙ sym pf))
    ];
  }

-- the order of parts serves their leads
pub leads_back : (edges : List Edge) (keys : List ℕ) (parts : List (List ℕ)) (order : List ℕ) (leads : List (Vec ℕ Global))
    → IsComponents edges keys parts → IsOrder edges parts order → AreLeads parts edges leads → LeadsBack leads order
leads_back edges keys parts order leads comps o l = record {
  within = λ k d lk. omega (arith, o.within k d lk, l.len);
  each = λ p q lp c. o.each q (l.sound p q c).0;
  not_later = λ i j d lt lj.
      let p : ℕ = get_or order i d in
      let q : ℕ = get_or order j d in
      let lp : p < length parts = o.within i d (omega arith) in
      let u : ℕ = get_or (part_at parts p) 0 0 in
      let cu = Contains-get_or (part_at parts p) 0 0 (comps.some p lp) in (
        (λ same. o.no_later i j d lt lj u u cu (subst (λ x. Contains (part_at parts x) u) same cu) here),
        (λ c. let s = l.sound p q c in o.no_later i j d lt lj (s.2.0).from (s.2.0).to s.2.2 s.2.3 (Path-one (edge_leads edges s.2.0 s.2.1))),
      );
  not_own = λ p c. (l.sound p p c).1 refl;
}
