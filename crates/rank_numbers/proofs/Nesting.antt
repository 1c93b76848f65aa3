-- The numbers of a graph, part by part.
use Rattle.std.proofs.Common.{◌≡◌, ℕ, ◌+◌, ◌<◌, ◌⊎◌, inl, inr, true, false, List, [], ◌∷◌, ◌++◌, Some, None, length, refl, sym, ap, subst, ◌∙◌, arith}
use Rattle.std.specs.Prelude.{ℤ, pos, ◌≤ℤ◌, ◌<ℤ◌}
use Rattle.std.specs.List.{All, Any, Contains}
use Rattle.std.specs.declared.alloc.Global.{Global}
use Rattle.std.specs.declared.vec.Vec.{Vec}
use Rattle.std.proofs.lemmas.Int.{ints}
use Rattle.std.proofs.lemmas.List.{get_or_append_left, get_or_push, get_or_past, length_push, append-nil, append_assoc}
use Rattle.std.proofs.lemmas.List.Elements.{All-contains}
use Rattle.std.proofs.lemmas.Bool.{cases_lt}
use Rattle.strong_components.specs.declared.edge.Edge.{Edge}
use Rattle.strong_components.specs.Components.{IsComponents, IsOrder, part_at}
use Rattle.strong_components.proofs.Unique.{same_components}
use Rattle.rank_shape.specs.declared.moves.Moves.{Moves}
use Rattle.rank_shape.specs.Moves.{may_grow, surely_falls, Fits}
use Rattle.rank_shape.specs.Nests.{inside, remaining, IsFirst, NoneFits, HasNest, parts_have, HasPart, bare, ranked}
use Rattle.rank_shape.proofs.Lists.{any_member}
use Rattle.rank_shape.proofs.Shaping.{parts_apart, part_below, inside_by_source, remaining_by_source}
use Rattle.rank_shape.proofs.Theory.{of_inside, of_remaining, ends_inside, ends_remaining}
use Rattle.rank_numbers.specs.declared.level.Level.{Level}
use Rattle.rank_numbers.specs.Forms.{Forms}
use Rattle.rank_numbers.specs.Levels.{LevelOf, graph_level, all_levels, levels_of}
use Rattle.rank_numbers.specs.Numbers.{of_parts, PartNumbers, single, leveled, in_part, in_graph, IsGraph, AreSmall, SomeLarge, levels_at, limit}
use Rattle.rank_numbers.specs.Rows.{form_of, OthersStay}
use Rattle.rank_numbers.specs.Offsets.{leads_at, number_at, IsBest, IsMost}
use Rattle.rank_numbers.specs.Leads.{AreLeads}
use Rattle.rank_numbers.specs.Steps.{IsWithin, GraphDone, PartDone, PartsDone}

-- ---- the shape that is given

-- a component of a graph with a nest has its own
pub nest_part : (m : Moves) (keys : List ℕ) (edges : List Edge) (parts : List (List ℕ)) → HasNest m keys edges → IsComponents edges keys parts
    → (p : ℕ) → p < length parts → HasPart m (part_at parts p) (inside (part_at parts p) edges)
nest_part m keys edges parts (parts_have others comps have) mine p lp =
    let same : others ≡ parts = same_components edges keys others parts comps mine in
    subst (λ (x : List (List ℕ)). (q : ℕ) → q < length x → HasPart m (part_at x q) (inside (part_at x q) edges)) same have p lp

-- a candidate that fits isn't one that doesn't
not_both : (m : Moves) (edges : List Edge) (c : ℕ) → Fits m edges c → Any (λ e. may_grow m c e ≡ true) edges ⊎ All (λ e. surely_falls m c e ≡ false) edges → ⊥
not_both m edges c fits n = elim n [
  | inl a ↦
      let x = any_member (λ e. may_grow m c e ≡ true) edges a in
      let no : may_grow m c x.0 ≡ false = All-contains (λ e. may_grow m c e ≡ false) edges x.0 fits.none_grows x.1 in
      let yes : may_grow m c x.0 ≡ true = x.2 in
      absurd (cc)
  | inr a ↦
      let x = any_member (λ e. surely_falls m c e ≡ true) edges fits.one_falls in
      let no : surely_falls m c x.0 ≡ false = All-contains (λ e. surely_falls m c e ≡ false) edges x.0 a x.1 in
      let yes : surely_falls m c x.0 ≡ true = x.2 in
      absurd (cc)
]

-- there is one first candidate that fits
pub first_one : (m : Moves) (edges : List Edge) (b c : ℕ) → IsFirst m edges b → IsFirst m edges c → b ≡ c
first_one m edges b c h g = elim (cases_lt b c) [
  | inl lt ↦ absurd (not_both m edges b h.fits (g.before b lt))
  | inr ge ↦ elim (cases_lt c b) [
    | inl lt ↦ absurd (not_both m edges c g.fits (h.before c lt))
    | inr le ↦ omega arith
  ]
]

-- what remains in a part with a nest has its own
pub part_rest : (m : Moves) (part : List ℕ) (edges : List Edge) (c : ℕ) → HasPart m part edges → 0 < length edges → IsFirst m edges c → HasNest m part (remaining m c edges)
part_rest m part edges c (bare none) some first = absurd (omega arith)
part_rest m part edges c (ranked b is nest) some first = subst (λ x. HasNest m part (remaining m x edges)) (first_one m edges b c is first) nest

-- a candidate fits such a part
pub part_fits : (m : Moves) (part : List ℕ) (edges : List Edge) → HasPart m part edges → 0 < length edges → NoneFits m edges → ⊥
part_fits m part edges (bare none) some away = omega arith
part_fits m part edges (ranked b is nest) some away = not_both m edges b is.fits (away b is.fits.in_count)

-- ---- levels

levels_push : (xs : List (List LevelOf)) (x : List LevelOf) → all_levels (xs ++ x ∷ []) ≡ all_levels xs ++ x
unfolding all_levels
levels_push [] x = append-nil x
levels_push (y ∷ ys) x = ap (λ z. y ++ z) (levels_push ys x) ∙ sym (append_assoc y (all_levels ys) x)

levels_none : (xs : List LevelOf) → xs ≡ xs ++ all_levels []
unfolding all_levels
levels_none xs = sym (append-nil xs)

-- ---- graphs within a graph

-- a graph of some keys has a part
pub parts_some : (edges : List Edge) (keys : List ℕ) (parts : List (List ℕ)) → IsComponents edges keys parts → 0 < length keys → 0 < length parts
parts_some edges keys parts comps some = let p = comps.covered 0 0 some in omega (arith, p.1)

pub within_part : (Form : Type 0) (o : Forms Form) (n : ℕ) (keys : List ℕ) (edges : List Edge) (parts : List (List ℕ)) → IsComponents edges keys parts → IsWithin o n keys edges
    → (p : ℕ) → p < length parts → IsWithin o n (part_at parts p) (inside (part_at parts p) edges)
within_part Form o n keys edges parts comps w p lp = record {
  some = comps.some p lp;
  ascend = comps.ascend p lp;
  below = part_below keys edges parts comps n w.below p lp;
  by_source = inside_by_source (part_at parts p) edges w.by_source;
  ends = ends_inside (part_at parts p) edges;
  within = λ e ce. w.within e (of_inside (part_at parts p) edges e ce).0;
}

pub within_rest : (Form : Type 0) (o : Forms Form) (n : ℕ) (m : Moves) (c : ℕ) (part : List ℕ) (edges : List Edge) → IsWithin o n part edges → IsWithin o n part (remaining m c edges)
within_rest Form o n m c part edges w = record {
  some = w.some;
  ascend = w.ascend;
  below = w.below;
  by_source = remaining_by_source m c edges w.by_source;
  ends = ends_remaining m c part edges w.ends;
  within = λ e ce. w.within e (of_remaining m c edges e ce).0;
}

module _ (Form : Type 0) (o : Forms Form) (m : Moves) where
  -- at first no part has its numbers
  pub parts_none : (edges : List Edge) (parts : List (List ℕ)) (forms : List Form) (highs : List ℤ) (levels : List Level) → highs ≡ [] → PartsDone o m edges parts forms highs levels levels 0
  parts_none edges parts forms highs levels none = record {
    made = [];
    made_len = refl;
    greatest_len = ap length none;
    joined = levels_none (levels_of levels);
    each = λ p lt. absurd (omega arith);
  }

  -- a part without edges
  pub part_single : (part : List ℕ) (edges : List Edge) (before after : List Form) (levels : List Level) → length edges ≡ 0
      → All (λ k. form_of o after k ≡ o.one) part → OthersStay o part before after → PartDone o m part edges before after levels levels (Some (pos 1))
  part_single part edges before after levels none ones stay = record {
    new = [];
    made = sym (append-nil (levels_of levels));
    numbers = single none (λ k ck. All-contains (λ k. form_of o after k ≡ o.one) part k ones ck);
    others = stay;
  }

  -- numbers hang on the forms of the part alone
  part_same : (part : List ℕ) (edges : List Edge) (f g : ℕ → Form) (greatest : ℤ) (levels : List LevelOf) → ((k : ℕ) → Contains part k → g k ≡ f k)
      → PartNumbers Form o m part edges f greatest levels → PartNumbers Form o m part edges g greatest levels
  part_same part edges f g greatest _ same (single none is) = single none (λ k ck. same k ck ∙ is k ck)
  part_same part edges f g greatest _ same (leveled c weight low inner levels have is small great lim) =
      leveled c weight low inner levels have (record { first = is.first; lowest = is.lowest; forms = λ k ck. same k ck ∙ is.forms k ck }) (λ k ck. ap o.small (same k ck) ∙ small k ck) (record {
        facts = λ k ck. subst (λ x. o.upper x k ≤ℤ greatest) (sym (same k ck)) (great.facts k ck);
        edges = λ e ca ck. subst (λ x. o.after x e ≤ℤ greatest) (sym (same e.to ck)) (great.edges e ca ck);
        attained = elim great.attained [
          | inl a ↦ inl (a.0, a.1, a.2 ∙ ap (λ x. o.upper x a.0) (sym (same a.0 a.1)))
          | inr a ↦ inr (a.0, a.1, a.2, a.3 ∙ ap (λ x. o.after x a.0) (sym (same (a.0).to a.2)))
        ];
      }) lim

  part_limited : (part : List ℕ) (edges : List Edge) (f : ℕ → Form) (greatest : ℤ) (levels : List LevelOf) → PartNumbers Form o m part edges f greatest levels → greatest ≤ℤ limit
  part_limited part edges f greatest _ (single none is) = omega (arith, ints)
  part_limited part edges f greatest _ (leveled c weight low inner levels have is small great lim) = lim

  module _ (keys : List ℕ) (edges : List Edge) (parts : List (List ℕ)) (comps : IsComponents edges keys parts) where
    -- keys beyond the graph keep their forms
    pub stay_more : (first before after : List Form) (p : ℕ) → p < length parts → OthersStay o keys first before → OthersStay o (part_at parts p) before after → OthersStay o keys first after
    stay_more first before after p lp a b k away = b k (λ cp. away (subst (λ x. Contains keys x) cp.2 (comps.members p lp cp.0 k cp.1))) ∙ a k away

    -- no greatest value is large
    pub highs_limited : (forms : List Form) (highs : List ℤ) (levels levels' : List Level) (n : ℕ) → PartsDone o m edges parts forms highs levels levels' n → (q : ℕ) → number_at highs q ≤ℤ limit
    highs_limited forms highs levels levels' n d q = elim (cases_lt q n) as (λ _. number_at highs q ≤ℤ limit) [
      | inl lt ↦ part_limited (part_at parts q) (inside (part_at parts q) edges) (form_of o forms) (number_at highs q) (levels_at d.made q) (d.each q lt)
      | inr ge ↦ let none : number_at highs q ≡ pos 0 = get_or_past highs q (pos 0) (omega (arith, d.greatest_len)) in omega (arith, ints, none)
    ]

    -- one more part has its numbers
    pub parts_more : (before after : List Form) (levels levels' levels'' : List Level) (p : ℕ) (highs : List ℤ) (high : ℤ) → p < length parts
        → PartsDone o m edges parts before highs levels levels' p
        → PartDone o m (part_at parts p) (inside (part_at parts p) edges) before after levels' levels'' (Some high)
        → PartsDone o m edges parts after (highs ++ high ∷ []) levels levels'' (p + 1)
    parts_more before after levels levels' levels'' p highs high lp d n = record {
      made = d.made ++ n.new ∷ [];
      made_len = length_push d.made n.new ∙ ap (λ x. x + 1) d.made_len;
      greatest_len = length_push highs high ∙ ap (λ x. x + 1) d.greatest_len;
      joined = n.made ∙ ap (λ x. x ++ n.new) d.joined ∙ append_assoc (levels_of levels) (all_levels d.made) n.new ∙ ap (λ x. levels_of levels ++ x) (sym (levels_push d.made n.new));
      each = λ q lt. elim (cases_lt q p) [
        | inl below ↦
            subst (λ x. PartNumbers Form o m (part_at parts q) (inside (part_at parts q) edges) (form_of o after) (number_at (highs ++ high ∷ []) q) x) (sym (get_or_append_left d.made (n.new ∷ []) [] q (omega (arith, d.made_len))))
            (subst (λ x. PartNumbers Form o m (part_at parts q) (inside (part_at parts q) edges) (form_of o after) x (levels_at d.made q)) (sym (get_or_append_left highs (high ∷ []) (pos 0) q (omega (arith, d.greatest_len))))
            (part_same (part_at parts q) (inside (part_at parts q) edges) (form_of o before) (form_of o after) (number_at highs q) (levels_at d.made q)
            (λ k ck. n.others k (λ cp. omega (arith, parts_apart keys edges parts comps q p k (omega arith) lp ck cp))) (d.each q below)))
        | inr ge ↦ let is : p ≡ q = omega arith in
            subst (λ r. PartNumbers Form o m (part_at parts r) (inside (part_at parts r) edges) (form_of o after) (number_at (highs ++ high ∷ []) r) (levels_at (d.made ++ n.new ∷ []) r)) is
            (subst (λ x. PartNumbers Form o m (part_at parts p) (inside (part_at parts p) edges) (form_of o after) (number_at (highs ++ high ∷ []) p) x) (sym (get_or_push d.made n.new [] p d.made_len))
            (subst (λ x. PartNumbers Form o m (part_at parts p) (inside (part_at parts p) edges) (form_of o after) x n.new) (sym (get_or_push highs high (pos 0) p d.greatest_len)) n.numbers))
      ];
    }

    -- a number of the next part is large
    pub part_large : (first before after : List Form) (levels levels' levels'' : List Level) (p : ℕ) (highs : List ℤ) → p < length parts → OthersStay o keys first before
        → PartsDone o m edges parts before highs levels levels' p
        → PartDone o m (part_at parts p) (inside (part_at parts p) edges) before after levels' levels'' None
        → GraphDone o m keys edges first after levels levels'' None
    part_large first before after levels levels' levels'' p highs lp stay d n = record {
      new = all_levels d.made ++ n.new;
      made = n.made ∙ ap (λ x. x ++ n.new) d.joined ∙ append_assoc (levels_of levels) (all_levels d.made) n.new;
      numbers = in_part parts p (form_of o before) (number_at highs) d.made n.new comps lp d.made_len d.each n.numbers;
      others = stay_more first before after p lp stay n.others;
    }

    -- the offsets, forms and total of the graph
    pub is_graph : (base : List Form) (form : ℕ → Form) (highs offset : List ℤ) (order : List ℕ) (leads : List (Vec ℕ Global)) (most : ℤ)
        → length offset ≡ length parts → IsOrder edges parts order → AreLeads parts edges leads
        → All (λ p. IsBest (leads_at leads p) highs offset (number_at offset p)) order → IsMost highs offset (length offset) most
        → ((q k : ℕ) → q < length parts → Contains (part_at parts q) k → form k ≡ o.shift (form_of o base k) (number_at offset q))
        → IsGraph o edges parts (form_of o base) (number_at highs) (number_at offset) form most
    is_graph base form highs offset order leads most lo ord lead best top shifted = record {
      offsets = λ p lp. let b = All-contains (λ x. IsBest (leads_at leads x) highs offset (number_at offset x)) order p best (ord.each p lp) in record {
        least = b.least;
        bound = λ q e lq ne ce cf ct. b.bound q (lead.complete p q lp (lq, ne, (e, ce, cf, ct)));
        attained = elim b.attained [
          | inl z ↦ inl z
          | inr a ↦ let s = lead.sound p a.0 a.1 in inr (a.0, s.2.0, s.0, s.1, s.2.1, s.2.2, s.2.3, a.2)
        ];
      };
      forms = shifted;
      greatest_sum = record { bound = λ p lp. top.bound p (omega arith); attained = (top.attained.0, omega (arith, top.attained.1), top.attained.2) };
    }

    module _ (first base : List Form) (highs offset : List ℤ) (levels levels' levels'' : List Level) (most : ℤ) (done : PartsDone o m edges parts base highs levels levels' (length parts))
        (pushed : levels_of levels'' ≡ levels_of levels' ++ graph_level keys most ∷ []) where
      made_more : levels_of levels'' ≡ levels_of levels ++ (all_levels done.made ++ graph_level keys most ∷ [])
      made_more = pushed ∙ ap (λ x. x ++ graph_level keys most ∷ []) done.joined ∙ append_assoc (levels_of levels) (all_levels done.made) (graph_level keys most ∷ [])

      -- no number of the graph is large
      pub graph_small : (after : List Form) → IsGraph o edges parts (form_of o base) (number_at highs) (number_at offset) (form_of o after) most
          → AreSmall o keys (form_of o after) → most ≤ℤ limit → OthersStay o keys first after → GraphDone o m keys edges first after levels levels'' (Some most)
      graph_small after is small lim stay = record {
        new = all_levels done.made ++ graph_level keys most ∷ [];
        made = made_more;
        numbers = of_parts parts (form_of o base) (number_at highs) (number_at offset) done.made comps done.made_len done.each is small lim;
        others = stay;
      }

      -- one is
      pub graph_large : (after : List Form) (form : ℕ → Form) → IsGraph o edges parts (form_of o base) (number_at highs) (number_at offset) form most
          → SomeLarge o keys form ⊎ (limit <ℤ most) → OthersStay o keys first after → GraphDone o m keys edges first after levels levels'' None
      graph_large after form is large stay = record {
        new = all_levels done.made ++ graph_level keys most ∷ [];
        made = made_more;
        numbers = in_graph parts (form_of o base) (number_at highs) (number_at offset) form most done.made comps done.made_len done.each is large;
        others = stay;
      }
