-- What the numbers of all parts make of the graph.
use Rattle.std.proofs.Common.{◌≡◌, ℕ, ◌<◌, inl, inr, true, false, List, [], ◌∷◌, ◌++◌, Some, None, length, get_or, sym, ap, subst, ◌∙◌}
use Rattle.std.specs.Prelude.{ℤ, ◌≤ℤ◌, ◌<ℤ◌}
use Rattle.std.specs.List.{All, Contains}
use Rattle.std.specs.declared.alloc.Global.{Global}
use Rattle.std.specs.declared.vec.Vec.{Vec}
use Rattle.std.proofs.lemmas.List.Elements.{All-contains}
use Rattle.strong_components.specs.declared.edge.Edge.{Edge}
use Rattle.strong_components.specs.Components.{IsComponents, IsOrder, part_at}
use Rattle.rank_shape.specs.declared.moves.Moves.{Moves}
use Rattle.rank_shape.specs.Places.{PlacesOf}
use Rattle.rank_numbers.specs.declared.level.Level.{Level}
use Rattle.rank_numbers.specs.Forms.{Forms}
use Rattle.rank_numbers.specs.Levels.{graph_level, levels_of}
use Rattle.rank_numbers.specs.Numbers.{limit}
use Rattle.rank_numbers.specs.Rows.{form_of, OthersStay}
use Rattle.rank_numbers.specs.Offsets.{leads_at, number_at, IsBest, IsMost}
use Rattle.rank_numbers.specs.Leads.{AreLeads}
use Rattle.rank_numbers.specs.Steps.{GraphDone, PartsDone, Shifted, ShiftPasses}
use Rattle.rank_numbers.proofs.Nesting.{is_graph, graph_small, graph_large}

module _ (Form : Type 0) (o : Forms Form) (m : Moves) (keys : List ℕ) (edges : List Edge) (parts : List (List ℕ)) (comps : IsComponents edges keys parts)
    (first base after : List Form) (highs offset : List ℤ) (order : List ℕ) (leads : List (Vec ℕ Global)) (levels levels' levels'' : List Level) (most : ℤ) (n : ℕ)
    (full : n ≡ length parts) (done : PartsDone o m edges parts base highs levels levels' n)
    (pushed : levels_of levels'' ≡ levels_of levels' ++ graph_level keys most ∷ [])
    (lo : length offset ≡ length parts) (ord : IsOrder edges parts order) (lead : AreLeads parts edges leads)
    (best : All (λ p. IsBest (leads_at leads p) highs offset (number_at offset p)) order) (top : IsMost highs offset (length offset) most)
    (stay : OthersStay o keys first base)
    (away : (k : ℕ) → ((p : ℕ) → p < length parts → Contains (part_at parts p) k → ⊥) → form_of o after k ≡ form_of o base k) where
  all_done : PartsDone o m edges parts base highs levels levels' (length parts)
  all_done = subst (λ x. PartsDone o m edges parts base highs levels levels' x) full done

  end_stay : OthersStay o keys first after
  end_stay k beyond = away k (λ p lp c. beyond (subst (λ x. Contains keys x) c.2 (comps.members p lp c.0 k c.1))) ∙ stay k beyond

  -- no number is large
  pub end_small : Shifted o parts offset base after → most ≤ℤ limit → GraphDone o m keys edges first after levels levels'' (Some most)
  end_small shifted small =
      let at : (p k : ℕ) → p < length parts → Contains (part_at parts p) k → (form_of o after k ≡ o.shift (form_of o base k) (number_at offset p)) × (o.small (form_of o after k) ≡ true) =
      λ p k lp c. All-contains (λ k. (form_of o after k ≡ o.shift (form_of o base k) (number_at offset p)) × (o.small (form_of o after k) ≡ true)) (part_at parts p) k (shifted p lp) c in
      graph_small Form o m keys edges parts comps first base highs offset levels levels' levels'' most all_done pushed after
      (is_graph Form o m keys edges parts comps base (form_of o after) highs offset order leads most lo ord lead best top (λ p k lp c. (at p k lp c).0))
      (λ k ck. let q = comps.covered ck.0 k ck.1 in (at q.0 k q.1 (subst (λ x. Contains (part_at parts q.0) x) ck.2 q.2)).1) small end_stay

  module _ (places : List ℕ) (placed : PlacesOf parts places) where
    -- the form of a key with its part's offset
    end_form : ℕ → Form
    end_form k = o.shift (form_of o base k) (number_at offset (get_or places k 0))

    end_is : (p k : ℕ) → p < length parts → Contains (part_at parts p) k → end_form k ≡ o.shift (form_of o base k) (number_at offset p)
    unfolding end_form
    end_is p k lp c = ap (λ x. o.shift (form_of o base k) (number_at offset x)) (placed p k lp c)

    -- a form with its offset is large
    pub end_form_large : ShiftPasses o parts offset base → GraphDone o m keys edges first after levels levels'' None
    end_form_large h =
        let k : ℕ = h.2.0 in
        graph_large Form o m keys edges parts comps first base highs offset levels levels' levels'' most all_done pushed after end_form
        (is_graph Form o m keys edges parts comps base end_form highs offset order leads most lo ord lead best top end_is)
        (inl (k, subst (λ x. Contains keys x) h.2.1.2 (comps.members h.0 h.1 h.2.1.0 k h.2.1.1), subst (λ x. o.small x ≡ false) (sym (end_is h.0 k h.1 h.2.1)) h.2.2)) end_stay

    -- the total is
    pub end_total_large : limit <ℤ most → GraphDone o m keys edges first after levels levels'' None
    end_total_large large =
        graph_large Form o m keys edges parts comps first base highs offset levels levels' levels'' most all_done pushed after end_form
        (is_graph Form o m keys edges parts comps base end_form highs offset order leads most lo ord lead best top end_is) (inr large) end_stay
