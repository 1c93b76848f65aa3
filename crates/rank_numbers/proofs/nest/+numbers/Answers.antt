-- A graph's parts meet what is asked of them; the measure is the number of edges.
use Rattle.std.proofs.Common.{◌≡◌, ℕ, ◌+◌, ◌<◌, List, [], ◌∷◌, ◌++◌, Some, None, length, get_or, refl, sym, ap, subst, ◌∙◌, arith, rules, to_z, of_z}
use mir.Syntax.{w64, w128}
use mir.Val.{SFits}
use Rattle.std.specs.Prelude.{ℤ, pos, ◌≤ℤ◌, ◌<ℤ◌}
use Rattle.std.specs.List.{All, AllPairs, Contains}
use Rattle.std.specs.declared.alloc.Global.{Global}
use Rattle.std.specs.declared.vec.Vec.{Vec}
use Rattle.std.proofs.lemmas.Bool.{eqb-true, eqb-false}
use Rattle.std.proofs.lemmas.Int.{ints, to_z-of_z}
use Rattle.std.proofs.lemmas.List.Elements.{Contains-get_or, All-contains}
use Rattle.strong_components.specs.Components.{part_at}
use Rattle.strong_components.specs.Groups.{lists_of}
use Rattle.rank_shape.specs.Nests.{inside, remaining, HasNest, HasPart}
use Rattle.rank_shape.specs.Places.{Apart, InSome, PartsBelow, PlacesOf, AreInside, edge_lists}
use Rattle.rank_shape.proofs.Sorting.{part_read, list_read, lists_length, edge_lists_length}
use Rattle.rank_shape.proofs.Shaping.{ends_below, part_below, parts_apart, ends_in_some, inside_le, remaining_lt}
use Rattle.rank_numbers.specs.Levels.{graph_level, part_level, levels_of}
use Rattle.rank_numbers.specs.Numbers.{limit}
use Rattle.rank_numbers.specs.Rows.{form_of, Passes}
use Rattle.rank_numbers.specs.Steps.{IsWithin, GraphDone, PartDone, PartsDone, IsRaised, Shifted, ShiftPasses}
use Rattle.rank_numbers.specs.Offsets.{leads_at, number_at, AreBounded, LeadsBack, IsBest, IsMost}
use Rattle.rank_numbers.specs.Leads.{AreLeads}
use Rattle.rank_numbers.proofs.Ending.{end_small, end_form_large, end_total_large}
use Rattle.rank_numbers.proofs.Leading.{leads_back}
use Rattle.rank_numbers.proofs.Leveling.{part_within, part_form_large, part_value_large, part_small}
use Rattle.rank_numbers.proofs.Nesting.{nest_part, part_rest, part_fits, parts_some, within_part, within_rest, parts_none, part_single, stay_more, highs_limited, parts_more, part_large}
use Rattle.rank_numbers.proofs.Theorem.{total_range}
use Rattle.rank_numbers.proofs.nest.+numbers.Goals as goal

pub graph_numbers-components_of-requires-clause-keys : goal.graph_numbers-components_of-requires-clause-keys
graph_numbers-components_of-requires-clause-keys g t c =
    subst (λ n. All (λ k. k < n) c.args.keys.now) (sym c.requires.places.marks_len) c.requires.graph.below

pub graph_numbers-components_of-requires-clause-ends : goal.graph_numbers-components_of-requires-clause-ends
graph_numbers-components_of-requires-clause-ends g t c =
    ends_below c.args.keys.now c.args.edges.now (length c.args.marks.now) c.requires.graph.ends
    (subst (λ n. All (λ k. k < n) c.args.keys.now) (sym c.requires.places.marks_len) c.requires.graph.below)

pub graph_numbers-inside_parts-requires-clause-within : goal.graph_numbers-inside_parts-requires-clause-within
graph_numbers-inside_parts-requires-clause-within g t c =
    subst (λ x. PartsBelow (length c.args.places.now) (lists_of x)) (sym c.deref.ensures.value)
    (part_below c.args.keys.now c.args.edges.now (lists_of c.in_ok-found.found.parts.items) c.in_ok-found.ensures.parts (length c.args.places.now)
    (subst (λ n. All (λ k. k < n) c.args.keys.now) (sym c.requires.places.places_len) c.requires.graph.below))

pub graph_numbers-inside_parts-requires-clause-apart : goal.graph_numbers-inside_parts-requires-clause-apart
graph_numbers-inside_parts-requires-clause-apart g t c =
    subst (λ x. Apart (lists_of x)) (sym c.deref.ensures.value) (parts_apart c.args.keys.now c.args.edges.now (lists_of c.in_ok-found.found.parts.items) c.in_ok-found.ensures.parts)

pub graph_numbers-inside_parts-requires-clause-in_parts : goal.graph_numbers-inside_parts-requires-clause-in_parts
graph_numbers-inside_parts-requires-clause-in_parts g t c =
    subst (λ x. All (λ e. InSome (lists_of x) e.from × InSome (lists_of x) e.to) c.args.edges.now) (sym c.deref.ensures.value)
    (ends_in_some c.args.keys.now c.args.edges.now (lists_of c.in_ok-found.found.parts.items) c.in_ok-found.ensures.parts c.requires.graph.ends)

pub graph_numbers-leads_of-requires-clause-placed : goal.graph_numbers-leads_of-requires-clause-placed
graph_numbers-leads_of-requires-clause-placed g t c =
    subst (λ x. PlacesOf (lists_of x) c.inside_parts.new.places) (sym c.deref-2.ensures.value)
    (subst (λ x. PlacesOf (lists_of x) c.inside_parts.new.places) c.deref.ensures.value c.in_ok-lists.ensures.places)

pub graph_numbers-leads_of-requires-clause-within : goal.graph_numbers-leads_of-requires-clause-within
graph_numbers-leads_of-requires-clause-within g t c k d lk =
    let e = c.requires.graph.ends (get_or c.args.edges.now k d) (Contains-get_or c.args.edges.now k d lk) in
    let n : length c.args.into.now ≡ length c.inside_parts.new.places = sym (c.in_ok-lists.ensures.len ∙ c.requires.places.places_len) in (
      subst (λ x. (get_or c.args.edges.now k d).from < x) n (All-contains (λ x. x < length c.args.into.now) c.args.keys.now (get_or c.args.edges.now k d).from c.requires.graph.below e.0),
      subst (λ x. (get_or c.args.edges.now k d).to < x) n (All-contains (λ x. x < length c.args.into.now) c.args.keys.now (get_or c.args.edges.now k d).to c.requires.graph.below e.1),
    )

pub graph_numbers-leads_of-requires-clause-in_parts : goal.graph_numbers-leads_of-requires-clause-in_parts
graph_numbers-leads_of-requires-clause-in_parts g t c =
    subst (λ x. All (λ e. InSome (lists_of x) e.from × InSome (lists_of x) e.to) c.args.edges.now) (sym c.deref-2.ensures.value)
    (ends_in_some c.args.keys.now c.args.edges.now (lists_of c.in_ok-found.found.parts.items) c.in_ok-found.ensures.parts c.requires.graph.ends)

pub graph_numbers-loop-p-init : goal.graph_numbers-loop-p-init
graph_numbers-loop-p-init g t c =
    record {
      done = parts_none _ (g.R.Ranks.forms c.args.ranks.now) c.args.moves.now c.args.edges.now (lists_of c.in_ok-found.found.parts.items) c.args.forms.now c.new-highs.result.items c.args.levels.now.items c.new-highs.ensures.items;
      others = λ k away. refl;
      places = record {
        marks_len = c.in_ok-found.ensures.len ∙ c.requires.places.marks_len;
        places_len = c.in_ok-lists.ensures.len ∙ c.requires.places.places_len;
        forms_len = c.requires.places.forms_len;
        fresh = c.in_ok-found.ensures.fresh;
      };
      room = c.requires.room;
    }

pub graph_numbers-part_numbers-requires : goal.graph_numbers-part_numbers-requires
graph_numbers-part_numbers-requires g t c = λ κs ls.
    let comps = c.in_ok-found.ensures.parts in
    let lp : c.loop-p.p < length (lists_of c.in_ok-found.found.parts.items) = omega (arith, lists_length c.in_ok-found.found.parts.items) in
    let is-part : part_at (lists_of c.in_ok-found.found.parts.items) c.loop-p.p ≡ c.deref-in-loop-p.result.now =
    part_read c.in_ok-found.found.parts.items c.loop-p.p c.index-part.result.now (omega arith) c.index-part.ensures ∙ sym c.deref-in-loop-p.ensures.value in
    let lists = subst (λ x. AreInside (lists_of x) c.args.edges.now (edge_lists c.in_ok-lists.lists.items)) c.deref.ensures.value c.in_ok-lists.ensures.inside in
    let is-list : inside (part_at (lists_of c.in_ok-found.found.parts.items) c.loop-p.p) c.args.edges.now ≡ c.deref-in-loop-p-2.result.now =
    sym (lists.each c.loop-p.p lp)
    ∙ list_read c.in_ok-lists.lists.items c.loop-p.p c.index.result.now (omega (arith, lists.len, edge_lists_length c.in_ok-lists.lists.items)) c.index.ensures
    ∙ sym c.deref-in-loop-p-2.ensures.value in (
      omega (arith, c.decreases, ap length is-list, inside_le (part_at (lists_of c.in_ok-found.found.parts.items) c.loop-p.p) c.args.edges.now),
      (
        ls.0,
        (
          ls.1.0,
          (
            ls.1.1,
            (
              c.requires.setting,
              (
                subst (λ x. IsWithin (g.R.Ranks.forms c.args.ranks.now) (length c.args.into.now) x c.deref-in-loop-p-2.result.now) is-part
                    (subst (λ x. IsWithin (g.R.Ranks.forms c.args.ranks.now) (length c.args.into.now) (part_at (lists_of c.in_ok-found.found.parts.items) c.loop-p.p) x) is-list (within_part _ (g.R.Ranks.forms c.args.ranks.now) (length c.args.into.now) c.args.keys.now c.args.edges.now (lists_of c.in_ok-found.found.parts.items) comps c.requires.graph c.loop-p.p lp)),
                (
                  subst (λ x. HasPart c.args.moves.now x c.deref-in-loop-p-2.result.now) is-part
                      (subst (λ x. HasPart c.args.moves.now (part_at (lists_of c.in_ok-found.found.parts.items) c.loop-p.p) x) is-list (nest_part c.args.moves.now c.args.keys.now c.args.edges.now (lists_of c.in_ok-found.found.parts.items) c.requires.nest comps c.loop-p.p lp)),
                  (c.loop-p.invariant.places, c.loop-p.invariant.room),
                ),
              ),
            ),
          ),
        ),
      ),
    )

pub graph_numbers-loop-p-preserved : goal.graph_numbers-loop-p-preserved
graph_numbers-loop-p-preserved g t c =
    let comps = c.in_ok-found.ensures.parts in
    let lp : c.loop-p.p < length (lists_of c.in_ok-found.found.parts.items) = omega (arith, lists_length c.in_ok-found.found.parts.items) in
    let is-part : part_at (lists_of c.in_ok-found.found.parts.items) c.loop-p.p ≡ c.deref-in-loop-p.result.now =
    part_read c.in_ok-found.found.parts.items c.loop-p.p c.index-part.result.now (omega arith) c.index-part.ensures ∙ sym c.deref-in-loop-p.ensures.value in
    let lists = subst (λ x. AreInside (lists_of x) c.args.edges.now (edge_lists c.in_ok-lists.lists.items)) c.deref.ensures.value c.in_ok-lists.ensures.inside in
    let is-list : inside (part_at (lists_of c.in_ok-found.found.parts.items) c.loop-p.p) c.args.edges.now ≡ c.deref-in-loop-p-2.result.now =
    sym (lists.each c.loop-p.p lp)
    ∙ list_read c.in_ok-lists.lists.items c.loop-p.p c.index.result.now (omega (arith, lists.len, edge_lists_length c.in_ok-lists.lists.items)) c.index.ensures
    ∙ sym c.deref-in-loop-p-2.ensures.value in
    let fh : SFits w128 c.in-Some.high = search rules in
    let w = to_z-of_z w128 c.in-Some.high fh in
    let d : PartDone (g.R.Ranks.forms c.args.ranks.now) c.args.moves.now c.deref-in-loop-p.result.now c.deref-in-loop-p-2.result.now c.loop-p.forms c.part_numbers.new.forms c.loop-p.levels.items c.part_numbers.new.levels.items (Some c.in-Some.high) = rw c.in-Some.is at c.in_ok-high.ensures.numbers in
    let here : PartDone (g.R.Ranks.forms c.args.ranks.now) c.args.moves.now (part_at (lists_of c.in_ok-found.found.parts.items) c.loop-p.p) (inside (part_at (lists_of c.in_ok-found.found.parts.items) c.loop-p.p) c.args.edges.now) c.loop-p.forms c.part_numbers.new.forms c.loop-p.levels.items c.part_numbers.new.levels.items (Some c.in-Some.high) =
    subst (λ x. PartDone (g.R.Ranks.forms c.args.ranks.now) c.args.moves.now x (inside (part_at (lists_of c.in_ok-found.found.parts.items) c.loop-p.p) c.args.edges.now) c.loop-p.forms c.part_numbers.new.forms c.loop-p.levels.items c.part_numbers.new.levels.items (Some c.in-Some.high)) (sym is-part)
    (subst (λ x. PartDone (g.R.Ranks.forms c.args.ranks.now) c.args.moves.now c.deref-in-loop-p.result.now x c.loop-p.forms c.part_numbers.new.forms c.loop-p.levels.items c.part_numbers.new.levels.items (Some c.in-Some.high)) (sym is-list) d) in
    let e : c.push.new.self.items ≡ c.loop-p.highs.items ++ to_z w128 (of_z w128 c.in-Some.high) ∷ [] = c.in_ok-push.ensures.items in
    record {
      done = subst (λ (xs : List ℤ). PartsDone (g.R.Ranks.forms c.args.ranks.now) c.args.moves.now c.args.edges.now (lists_of c.in_ok-found.found.parts.items) c.part_numbers.new.forms xs c.args.levels.now.items c.part_numbers.new.levels.items (c.loop-p.p + 1)) (sym (e ∙ ap (λ x. c.loop-p.highs.items ++ x ∷ []) w))
          (parts_more _ (g.R.Ranks.forms c.args.ranks.now) c.args.moves.now c.args.keys.now c.args.edges.now (lists_of c.in_ok-found.found.parts.items) comps c.loop-p.forms c.part_numbers.new.forms c.args.levels.now.items c.loop-p.levels.items c.part_numbers.new.levels.items c.loop-p.p c.loop-p.highs.items c.in-Some.high lp c.loop-p.invariant.done here);
      others = stay_more _ (g.R.Ranks.forms c.args.ranks.now) c.args.moves.now c.args.keys.now c.args.edges.now (lists_of c.in_ok-found.found.parts.items) comps c.args.forms.now c.loop-p.forms c.part_numbers.new.forms c.loop-p.p lp c.loop-p.invariant.others here.others;
      places = c.in_ok-high.ensures.places;
      room = c.in_ok-high.ensures.room;
    }

pub graph_numbers-returns-in_default-clause-numbers : goal.graph_numbers-returns-in_default-clause-numbers
graph_numbers-returns-in_default-clause-numbers g t c =
    let comps = c.in_ok-found.ensures.parts in
    let lp : c.loop-p.p < length (lists_of c.in_ok-found.found.parts.items) = omega (arith, lists_length c.in_ok-found.found.parts.items) in
    let is-part : part_at (lists_of c.in_ok-found.found.parts.items) c.loop-p.p ≡ c.deref-in-loop-p.result.now =
    part_read c.in_ok-found.found.parts.items c.loop-p.p c.index-part.result.now (omega arith) c.index-part.ensures ∙ sym c.deref-in-loop-p.ensures.value in
    let lists = subst (λ x. AreInside (lists_of x) c.args.edges.now (edge_lists c.in_ok-lists.lists.items)) c.deref.ensures.value c.in_ok-lists.ensures.inside in
    let is-list : inside (part_at (lists_of c.in_ok-found.found.parts.items) c.loop-p.p) c.args.edges.now ≡ c.deref-in-loop-p-2.result.now =
    sym (lists.each c.loop-p.p lp)
    ∙ list_read c.in_ok-lists.lists.items c.loop-p.p c.index.result.now (omega (arith, lists.len, edge_lists_length c.in_ok-lists.lists.items)) c.index.ensures
    ∙ sym c.deref-in-loop-p-2.ensures.value in
    let d : PartDone (g.R.Ranks.forms c.args.ranks.now) c.args.moves.now c.deref-in-loop-p.result.now c.deref-in-loop-p-2.result.now c.loop-p.forms c.part_numbers.new.forms c.loop-p.levels.items c.part_numbers.new.levels.items None = rw c.in_default.is at c.in_ok-high.ensures.numbers in
    let here : PartDone (g.R.Ranks.forms c.args.ranks.now) c.args.moves.now (part_at (lists_of c.in_ok-found.found.parts.items) c.loop-p.p) (inside (part_at (lists_of c.in_ok-found.found.parts.items) c.loop-p.p) c.args.edges.now) c.loop-p.forms c.part_numbers.new.forms c.loop-p.levels.items c.part_numbers.new.levels.items None =
    subst (λ x. PartDone (g.R.Ranks.forms c.args.ranks.now) c.args.moves.now x (inside (part_at (lists_of c.in_ok-found.found.parts.items) c.loop-p.p) c.args.edges.now) c.loop-p.forms c.part_numbers.new.forms c.loop-p.levels.items c.part_numbers.new.levels.items None) (sym is-part)
    (subst (λ x. PartDone (g.R.Ranks.forms c.args.ranks.now) c.args.moves.now c.deref-in-loop-p.result.now x c.loop-p.forms c.part_numbers.new.forms c.loop-p.levels.items c.part_numbers.new.levels.items None) (sym is-list) d) in
    part_large _ (g.R.Ranks.forms c.args.ranks.now) c.args.moves.now c.args.keys.now c.args.edges.now (lists_of c.in_ok-found.found.parts.items) comps c.args.forms.now c.loop-p.forms c.part_numbers.new.forms c.args.levels.now.items c.loop-p.levels.items c.part_numbers.new.levels.items c.loop-p.p c.loop-p.highs.items lp c.loop-p.invariant.others c.loop-p.invariant.done here

pub graph_numbers-offsets-requires-clause-back : goal.graph_numbers-offsets-requires-clause-back
graph_numbers-offsets-requires-clause-back g t c =
    let lead = subst (λ x. AreLeads (lists_of x) c.args.edges.now c.in_ok-leads.leads.items) c.deref-2.ensures.value c.in_ok-leads.ensures in
    subst (λ x. LeadsBack x c.deref-3.result.now) (sym c.deref-4.ensures.value) (subst (λ x. LeadsBack c.in_ok-leads.leads.items x) (sym c.deref-3.ensures.value)
    (leads_back c.args.edges.now c.args.keys.now (lists_of c.in_ok-found.found.parts.items) c.in_ok-found.found.order.items c.in_ok-leads.leads.items c.in_ok-found.ensures.parts c.in_ok-found.ensures.order lead))

pub graph_numbers-offsets-requires-clause-len : goal.graph_numbers-offsets-requires-clause-len
graph_numbers-offsets-requires-clause-len g t c =
    let lead = subst (λ x. AreLeads (lists_of x) c.args.edges.now c.in_ok-leads.leads.items) c.deref-2.ensures.value c.in_ok-leads.ensures in
    omega (arith, ap length c.deref-5.ensures.value, ap length c.deref-4.ensures.value, lead.len, c.loop-p.invariant.done.greatest_len, lists_length c.in_ok-found.found.parts.items)

pub graph_numbers-offsets-requires-clause-places : goal.graph_numbers-offsets-requires-clause-places
graph_numbers-offsets-requires-clause-places g t c p k d lk =
    let lead = subst (λ x. AreLeads (lists_of x) c.args.edges.now c.in_ok-leads.leads.items) c.deref-2.ensures.value c.in_ok-leads.ensures in
    let s = lead.sound p (get_or (leads_at c.deref-4.result.now p) k d)
    (subst (λ x. Contains (leads_at x p) (get_or (leads_at c.deref-4.result.now p) k d)) c.deref-4.ensures.value (Contains-get_or (leads_at c.deref-4.result.now p) k d lk)) in
    omega (arith, s.0, lead.len, ap length c.deref-4.ensures.value)

pub graph_numbers-offsets-requires-clause-limit : goal.graph_numbers-offsets-requires-clause-limit
graph_numbers-offsets-requires-clause-limit g t c =
    subst (λ x. (q : ℕ) → number_at x q ≤ℤ limit) (sym c.deref-5.ensures.value)
    (highs_limited _ (g.R.Ranks.forms c.args.ranks.now) c.args.moves.now c.args.keys.now c.args.edges.now (lists_of c.in_ok-found.found.parts.items) c.in_ok-found.ensures.parts c.loop-p.forms c.loop-p.highs.items c.args.levels.now.items c.loop-p.levels.items c.loop-p.p c.loop-p.invariant.done)

pub graph_numbers-total-most-requires-clause-some : goal.graph_numbers-total-most-requires-clause-some
graph_numbers-total-most-requires-clause-some g t c =
    let lead = subst (λ x. AreLeads (lists_of x) c.args.edges.now c.in_ok-leads.leads.items) c.deref-2.ensures.value c.in_ok-leads.ensures in
    let lo : length c.in_ok-offset.offset.items ≡ length (lists_of c.in_ok-found.found.parts.items) = omega (arith, c.in_ok-offset.ensures.len, ap length c.deref-4.ensures.value, lead.len) in
    omega (arith, lo, ap length c.deref-6.ensures.value, parts_some c.args.edges.now c.args.keys.now (lists_of c.in_ok-found.found.parts.items) c.in_ok-found.ensures.parts c.requires.graph.some)

pub graph_numbers-total-most-requires-clause-len : goal.graph_numbers-total-most-requires-clause-len
graph_numbers-total-most-requires-clause-len g t c =
    let lead = subst (λ x. AreLeads (lists_of x) c.args.edges.now c.in_ok-leads.leads.items) c.deref-2.ensures.value c.in_ok-leads.ensures in
    let lo : length c.in_ok-offset.offset.items ≡ length (lists_of c.in_ok-found.found.parts.items) = omega (arith, c.in_ok-offset.ensures.len, ap length c.deref-4.ensures.value, lead.len) in
    omega (arith, lo, ap length c.deref-6.ensures.value, ap length c.deref-7.ensures.value, c.loop-p.invariant.done.greatest_len, lists_length c.in_ok-found.found.parts.items)

pub graph_numbers-total-most-requires-clause-bounded : goal.graph_numbers-total-most-requires-clause-bounded
graph_numbers-total-most-requires-clause-bounded g t c =
    subst (λ x. AreBounded x c.deref-6.result.now 9223372036854775808) (sym c.deref-7.ensures.value) (subst (λ x. AreBounded c.loop-p.highs.items x 9223372036854775808) (sym c.deref-6.ensures.value)
    (subst (λ x. AreBounded x c.in_ok-offset.offset.items 9223372036854775808) c.deref-5.ensures.value c.in_ok-offset.ensures.bounded))

pub graph_numbers-shift_parts-requires-clause-len : goal.graph_numbers-shift_parts-requires-clause-len
graph_numbers-shift_parts-requires-clause-len g t c =
    let lead = subst (λ x. AreLeads (lists_of x) c.args.edges.now c.in_ok-leads.leads.items) c.deref-2.ensures.value c.in_ok-leads.ensures in
    let lo : length c.in_ok-offset.offset.items ≡ length (lists_of c.in_ok-found.found.parts.items) = omega (arith, c.in_ok-offset.ensures.len, ap length c.deref-4.ensures.value, lead.len) in
    omega (arith, lo, ap length c.deref-9.ensures.value, ap length c.deref-8.ensures.value, lists_length c.in_ok-found.found.parts.items)

pub graph_numbers-shift_parts-requires-clause-ascend : goal.graph_numbers-shift_parts-requires-clause-ascend
graph_numbers-shift_parts-requires-clause-ascend g t c =
    subst (λ x. (p : ℕ) → p < length (lists_of x) → AllPairs (λ a b. a < b) (part_at (lists_of x) p)) (sym c.deref-8.ensures.value) c.in_ok-found.ensures.parts.ascend

pub graph_numbers-shift_parts-requires-clause-below : goal.graph_numbers-shift_parts-requires-clause-below
graph_numbers-shift_parts-requires-clause-below g t c =
    subst (λ x. PartsBelow (length c.loop-p.forms) (lists_of x)) (sym c.deref-8.ensures.value)
    (part_below c.args.keys.now c.args.edges.now (lists_of c.in_ok-found.found.parts.items) c.in_ok-found.ensures.parts (length c.loop-p.forms) (subst (λ n. All (λ k. k < n) c.args.keys.now) (sym c.loop-p.invariant.places.forms_len) c.requires.graph.below))

pub graph_numbers-shift_parts-requires-clause-apart : goal.graph_numbers-shift_parts-requires-clause-apart
graph_numbers-shift_parts-requires-clause-apart g t c =
    subst (λ x. Apart (lists_of x)) (sym c.deref-8.ensures.value) (parts_apart c.args.keys.now c.args.edges.now (lists_of c.in_ok-found.found.parts.items) c.in_ok-found.ensures.parts)

pub graph_numbers-returns-then-not-shift_parts-clause-numbers : goal.graph_numbers-returns-then-not-shift_parts-clause-numbers
graph_numbers-returns-then-not-shift_parts-clause-numbers g t c =
    let lead = subst (λ x. AreLeads (lists_of x) c.args.edges.now c.in_ok-leads.leads.items) c.deref-2.ensures.value c.in_ok-leads.ensures in
    let lo : length c.in_ok-offset.offset.items ≡ length (lists_of c.in_ok-found.found.parts.items) = omega (arith, c.in_ok-offset.ensures.len, ap length c.deref-4.ensures.value, lead.len) in
    let full : c.loop-p.p ≡ length (lists_of c.in_ok-found.found.parts.items) = omega (arith, lists_length c.in_ok-found.found.parts.items) in
    let best : All (λ p. IsBest (leads_at c.in_ok-leads.leads.items p) c.loop-p.highs.items c.in_ok-offset.offset.items (number_at c.in_ok-offset.offset.items p)) c.in_ok-found.found.order.items =
    subst (λ x. All (λ p. IsBest (leads_at c.in_ok-leads.leads.items p) c.loop-p.highs.items c.in_ok-offset.offset.items (number_at c.in_ok-offset.offset.items p)) x) c.deref-3.ensures.value
    (subst (λ (x : List (Vec ℕ Global)). All (λ p. IsBest (leads_at x p) c.loop-p.highs.items c.in_ok-offset.offset.items (number_at c.in_ok-offset.offset.items p)) c.deref-3.result.now) c.deref-4.ensures.value
    (subst (λ x. All (λ p. IsBest (leads_at c.deref-4.result.now p) x c.in_ok-offset.offset.items (number_at c.in_ok-offset.offset.items p)) c.deref-3.result.now) c.deref-5.ensures.value c.in_ok-offset.ensures.best)) in
    let fm : SFits w128 c.total-most.result = search rules in
    let w = to_z-of_z w128 c.total-most.result fm in
    let top : IsMost c.loop-p.highs.items c.in_ok-offset.offset.items (length c.in_ok-offset.offset.items) c.total-most.result =
    subst (λ x. IsMost x c.in_ok-offset.offset.items (length c.in_ok-offset.offset.items) c.total-most.result) c.deref-7.ensures.value
    (subst (λ x. IsMost c.deref-7.result.now x (length x) c.total-most.result) c.deref-6.ensures.value c.total-most.ensures) in
    let pushed : levels_of c.push_level.new.levels.items ≡ levels_of c.loop-p.levels.items ++ graph_level c.args.keys.now c.total-most.result ∷ [] =
    c.in_ok-push_level.ensures ∙ ap (λ x. levels_of c.loop-p.levels.items ++ graph_level c.args.keys.now x ∷ []) w in
    let away : (k : ℕ) → ((p : ℕ) → p < length (lists_of c.in_ok-found.found.parts.items) → Contains (part_at (lists_of c.in_ok-found.found.parts.items) p) k → ⊥) → form_of (g.R.Ranks.forms c.args.ranks.now) c.shift_parts.new.forms k ≡ form_of (g.R.Ranks.forms c.args.ranks.now) c.loop-p.forms k =
    subst (λ (x : List (Vec ℕ Global)). (k : ℕ) → ((p : ℕ) → p < length (lists_of x) → Contains (part_at (lists_of x) p) k → ⊥) → form_of (g.R.Ranks.forms c.args.ranks.now) c.shift_parts.new.forms k ≡ form_of (g.R.Ranks.forms c.args.ranks.now) c.loop-p.forms k) c.deref-8.ensures.value c.shift_parts.ensures.others in
    let placed = subst (λ x. PlacesOf (lists_of x) c.inside_parts.new.places) c.deref.ensures.value c.in_ok-lists.ensures.places in
    let passes : ShiftPasses (g.R.Ranks.forms c.args.ranks.now) (lists_of c.in_ok-found.found.parts.items) c.in_ok-offset.offset.items c.loop-p.forms =
    subst (λ (x : List (Vec ℕ Global)). ShiftPasses (g.R.Ranks.forms c.args.ranks.now) (lists_of x) c.in_ok-offset.offset.items c.loop-p.forms) c.deref-8.ensures.value
    (subst (λ (x : List ℤ). ShiftPasses (g.R.Ranks.forms c.args.ranks.now) (lists_of c.deref-8.result.now) x c.loop-p.forms) c.deref-9.ensures.value (c.if-not-shift_parts.ensures.large refl)) in
    end_form_large _ (g.R.Ranks.forms c.args.ranks.now) c.args.moves.now c.args.keys.now c.args.edges.now (lists_of c.in_ok-found.found.parts.items) c.in_ok-found.ensures.parts c.args.forms.now c.loop-p.forms c.shift_parts.new.forms c.loop-p.highs.items c.in_ok-offset.offset.items c.in_ok-found.found.order.items c.in_ok-leads.leads.items
    c.args.levels.now.items c.loop-p.levels.items c.push_level.new.levels.items c.total-most.result c.loop-p.p full c.loop-p.invariant.done pushed lo c.in_ok-found.ensures.order lead best top c.loop-p.invariant.others away
    c.inside_parts.new.places placed passes

pub graph_numbers-returns-then-not-shift_parts-clause-places : goal.graph_numbers-returns-then-not-shift_parts-clause-places
graph_numbers-returns-then-not-shift_parts-clause-places g t c =
    record {
      marks_len = c.loop-p.invariant.places.marks_len;
      places_len = c.loop-p.invariant.places.places_len;
      forms_len = c.shift_parts.ensures.len ∙ c.loop-p.invariant.places.forms_len;
      fresh = c.loop-p.invariant.places.fresh;
    }

pub graph_numbers-returns-then-most-gt-MOST-clause-numbers : goal.graph_numbers-returns-then-most-gt-MOST-clause-numbers
graph_numbers-returns-then-most-gt-MOST-clause-numbers g t c =
    let lead = subst (λ x. AreLeads (lists_of x) c.args.edges.now c.in_ok-leads.leads.items) c.deref-2.ensures.value c.in_ok-leads.ensures in
    let lo : length c.in_ok-offset.offset.items ≡ length (lists_of c.in_ok-found.found.parts.items) = omega (arith, c.in_ok-offset.ensures.len, ap length c.deref-4.ensures.value, lead.len) in
    let full : c.loop-p.p ≡ length (lists_of c.in_ok-found.found.parts.items) = omega (arith, lists_length c.in_ok-found.found.parts.items) in
    let best : All (λ p. IsBest (leads_at c.in_ok-leads.leads.items p) c.loop-p.highs.items c.in_ok-offset.offset.items (number_at c.in_ok-offset.offset.items p)) c.in_ok-found.found.order.items =
    subst (λ x. All (λ p. IsBest (leads_at c.in_ok-leads.leads.items p) c.loop-p.highs.items c.in_ok-offset.offset.items (number_at c.in_ok-offset.offset.items p)) x) c.deref-3.ensures.value
    (subst (λ (x : List (Vec ℕ Global)). All (λ p. IsBest (leads_at x p) c.loop-p.highs.items c.in_ok-offset.offset.items (number_at c.in_ok-offset.offset.items p)) c.deref-3.result.now) c.deref-4.ensures.value
    (subst (λ x. All (λ p. IsBest (leads_at c.deref-4.result.now p) x c.in_ok-offset.offset.items (number_at c.in_ok-offset.offset.items p)) c.deref-3.result.now) c.deref-5.ensures.value c.in_ok-offset.ensures.best)) in
    let fm : SFits w128 c.total-most.result = search rules in
    let w = to_z-of_z w128 c.total-most.result fm in
    let top : IsMost c.loop-p.highs.items c.in_ok-offset.offset.items (length c.in_ok-offset.offset.items) c.total-most.result =
    subst (λ x. IsMost x c.in_ok-offset.offset.items (length c.in_ok-offset.offset.items) c.total-most.result) c.deref-7.ensures.value
    (subst (λ x. IsMost c.deref-7.result.now x (length x) c.total-most.result) c.deref-6.ensures.value c.total-most.ensures) in
    let pushed : levels_of c.push_level.new.levels.items ≡ levels_of c.loop-p.levels.items ++ graph_level c.args.keys.now c.total-most.result ∷ [] =
    c.in_ok-push_level.ensures ∙ ap (λ x. levels_of c.loop-p.levels.items ++ graph_level c.args.keys.now x ∷ []) w in
    let away : (k : ℕ) → ((p : ℕ) → p < length (lists_of c.in_ok-found.found.parts.items) → Contains (part_at (lists_of c.in_ok-found.found.parts.items) p) k → ⊥) → form_of (g.R.Ranks.forms c.args.ranks.now) c.shift_parts.new.forms k ≡ form_of (g.R.Ranks.forms c.args.ranks.now) c.loop-p.forms k =
    subst (λ (x : List (Vec ℕ Global)). (k : ℕ) → ((p : ℕ) → p < length (lists_of x) → Contains (part_at (lists_of x) p) k → ⊥) → form_of (g.R.Ranks.forms c.args.ranks.now) c.shift_parts.new.forms k ≡ form_of (g.R.Ranks.forms c.args.ranks.now) c.loop-p.forms k) c.deref-8.ensures.value c.shift_parts.ensures.others in
    let placed = subst (λ x. PlacesOf (lists_of x) c.inside_parts.new.places) c.deref.ensures.value c.in_ok-lists.ensures.places in
    let large : limit <ℤ c.total-most.result = omega (arith, ints, w, c.if-most-gt-MOST.true) in
    end_total_large _ (g.R.Ranks.forms c.args.ranks.now) c.args.moves.now c.args.keys.now c.args.edges.now (lists_of c.in_ok-found.found.parts.items) c.in_ok-found.ensures.parts c.args.forms.now c.loop-p.forms c.shift_parts.new.forms c.loop-p.highs.items c.in_ok-offset.offset.items c.in_ok-found.found.order.items c.in_ok-leads.leads.items
    c.args.levels.now.items c.loop-p.levels.items c.push_level.new.levels.items c.total-most.result c.loop-p.p full c.loop-p.invariant.done pushed lo c.in_ok-found.ensures.order lead best top c.loop-p.invariant.others away
    c.inside_parts.new.places placed large

pub graph_numbers-returns-then-most-gt-MOST-clause-places : goal.graph_numbers-returns-then-most-gt-MOST-clause-places
graph_numbers-returns-then-most-gt-MOST-clause-places g t c =
    record {
      marks_len = c.loop-p.invariant.places.marks_len;
      places_len = c.loop-p.invariant.places.places_len;
      forms_len = c.shift_parts.ensures.len ∙ c.loop-p.invariant.places.forms_len;
      fresh = c.loop-p.invariant.places.fresh;
    }

pub graph_numbers-returns-clause-numbers : goal.graph_numbers-returns-clause-numbers
graph_numbers-returns-clause-numbers g t c =
    let lead = subst (λ x. AreLeads (lists_of x) c.args.edges.now c.in_ok-leads.leads.items) c.deref-2.ensures.value c.in_ok-leads.ensures in
    let lo : length c.in_ok-offset.offset.items ≡ length (lists_of c.in_ok-found.found.parts.items) = omega (arith, c.in_ok-offset.ensures.len, ap length c.deref-4.ensures.value, lead.len) in
    let full : c.loop-p.p ≡ length (lists_of c.in_ok-found.found.parts.items) = omega (arith, lists_length c.in_ok-found.found.parts.items) in
    let best : All (λ p. IsBest (leads_at c.in_ok-leads.leads.items p) c.loop-p.highs.items c.in_ok-offset.offset.items (number_at c.in_ok-offset.offset.items p)) c.in_ok-found.found.order.items =
    subst (λ x. All (λ p. IsBest (leads_at c.in_ok-leads.leads.items p) c.loop-p.highs.items c.in_ok-offset.offset.items (number_at c.in_ok-offset.offset.items p)) x) c.deref-3.ensures.value
    (subst (λ (x : List (Vec ℕ Global)). All (λ p. IsBest (leads_at x p) c.loop-p.highs.items c.in_ok-offset.offset.items (number_at c.in_ok-offset.offset.items p)) c.deref-3.result.now) c.deref-4.ensures.value
    (subst (λ x. All (λ p. IsBest (leads_at c.deref-4.result.now p) x c.in_ok-offset.offset.items (number_at c.in_ok-offset.offset.items p)) c.deref-3.result.now) c.deref-5.ensures.value c.in_ok-offset.ensures.best)) in
    let fm : SFits w128 c.total-most.result = search rules in
    let w = to_z-of_z w128 c.total-most.result fm in
    let top : IsMost c.loop-p.highs.items c.in_ok-offset.offset.items (length c.in_ok-offset.offset.items) c.total-most.result =
    subst (λ x. IsMost x c.in_ok-offset.offset.items (length c.in_ok-offset.offset.items) c.total-most.result) c.deref-7.ensures.value
    (subst (λ x. IsMost c.deref-7.result.now x (length x) c.total-most.result) c.deref-6.ensures.value c.total-most.ensures) in
    let pushed : levels_of c.push_level.new.levels.items ≡ levels_of c.loop-p.levels.items ++ graph_level c.args.keys.now c.total-most.result ∷ [] =
    c.in_ok-push_level.ensures ∙ ap (λ x. levels_of c.loop-p.levels.items ++ graph_level c.args.keys.now x ∷ []) w in
    let away : (k : ℕ) → ((p : ℕ) → p < length (lists_of c.in_ok-found.found.parts.items) → Contains (part_at (lists_of c.in_ok-found.found.parts.items) p) k → ⊥) → form_of (g.R.Ranks.forms c.args.ranks.now) c.shift_parts.new.forms k ≡ form_of (g.R.Ranks.forms c.args.ranks.now) c.loop-p.forms k =
    subst (λ (x : List (Vec ℕ Global)). (k : ℕ) → ((p : ℕ) → p < length (lists_of x) → Contains (part_at (lists_of x) p) k → ⊥) → form_of (g.R.Ranks.forms c.args.ranks.now) c.shift_parts.new.forms k ≡ form_of (g.R.Ranks.forms c.args.ranks.now) c.loop-p.forms k) c.deref-8.ensures.value c.shift_parts.ensures.others in
    let shifted : Shifted (g.R.Ranks.forms c.args.ranks.now) (lists_of c.in_ok-found.found.parts.items) c.in_ok-offset.offset.items c.loop-p.forms c.shift_parts.new.forms =
    subst (λ (x : List (Vec ℕ Global)). Shifted (g.R.Ranks.forms c.args.ranks.now) (lists_of x) c.in_ok-offset.offset.items c.loop-p.forms c.shift_parts.new.forms) c.deref-8.ensures.value
    (subst (λ (x : List ℤ). Shifted (g.R.Ranks.forms c.args.ranks.now) (lists_of c.deref-8.result.now) x c.loop-p.forms c.shift_parts.new.forms) c.deref-9.ensures.value (c.if-not-shift_parts.ensures.shifted refl)) in
    let small : c.total-most.result ≤ℤ limit = omega (arith, ints, w, c.if-most-gt-MOST.false) in
    subst (λ x. GraphDone (g.R.Ranks.forms c.args.ranks.now) c.args.moves.now c.args.keys.now c.args.edges.now c.args.forms.now c.shift_parts.new.forms c.args.levels.now.items c.push_level.new.levels.items (Some x)) (sym w)
    (end_small _ (g.R.Ranks.forms c.args.ranks.now) c.args.moves.now c.args.keys.now c.args.edges.now (lists_of c.in_ok-found.found.parts.items) c.in_ok-found.ensures.parts c.args.forms.now c.loop-p.forms c.shift_parts.new.forms c.loop-p.highs.items c.in_ok-offset.offset.items c.in_ok-found.found.order.items c.in_ok-leads.leads.items
    c.args.levels.now.items c.loop-p.levels.items c.push_level.new.levels.items c.total-most.result c.loop-p.p full c.loop-p.invariant.done pushed lo c.in_ok-found.ensures.order lead best top c.loop-p.invariant.others away
    shifted small)

pub graph_numbers-returns-clause-places : goal.graph_numbers-returns-clause-places
graph_numbers-returns-clause-places g t c =
    record {
      marks_len = c.loop-p.invariant.places.marks_len;
      places_len = c.loop-p.invariant.places.places_len;
      forms_len = c.shift_parts.ensures.len ∙ c.loop-p.invariant.places.forms_len;
      fresh = c.loop-p.invariant.places.fresh;
    }

pub part_numbers-returns-then-is_empty-clause-numbers : goal.part_numbers-returns-then-is_empty-clause-numbers
part_numbers-returns-then-is_empty-clause-numbers g t c =
    let none = eqb-true (length c.args.edges.now) 0 (sym c.is_empty.ensures ∙ c.if-is_empty.true) in
    part_single _ (g.R.Ranks.forms c.args.ranks.now) c.args.moves.now c.args.part.now c.args.edges.now c.args.forms.now c.ones.new.forms c.args.levels.now.items none c.ones.ensures.ones c.ones.ensures.others

pub part_numbers-unreachable-requires : goal.part_numbers-unreachable-requires
part_numbers-unreachable-requires g t c =
    let ne = eqb-false (length c.args.edges.now) 0 (sym c.is_empty.ensures ∙ c.if-is_empty.false) in
    let some : 0 < length c.args.edges.now = omega (arith, ne) in
    part_fits c.args.moves.now c.args.part.now c.args.edges.now c.requires.nest some c.in_default.ensures

pub part_numbers-graph_numbers-requires : goal.part_numbers-graph_numbers-requires
part_numbers-graph_numbers-requires g t c = λ κs ls.
    let ne = eqb-false (length c.args.edges.now) 0 (sym c.is_empty.ensures ∙ c.if-is_empty.false) in
    let some : 0 < length c.args.edges.now = omega (arith, ne) in
    let rest : remaining c.args.moves.now c.in-Some.candidate c.args.edges.now ≡ c.deref.result.now = sym c.in_ok-rest.ensures ∙ sym c.deref.ensures.value in (
      omega (arith, c.decreases, ap length rest, remaining_lt c.args.moves.now c.in-Some.candidate c.args.edges.now c.in-Some.ensures.fits),
      (
        ls.0,
        (
          ls.1.0,
          (
            ls.1.1,
            (
              c.requires.setting,
              (
                subst (λ x. IsWithin (g.R.Ranks.forms c.args.ranks.now) (length c.args.into.now) c.args.part.now x) rest (within_rest _ (g.R.Ranks.forms c.args.ranks.now) (length c.args.into.now) c.args.moves.now c.in-Some.candidate c.args.part.now c.args.edges.now c.requires.graph),
                (
                  subst (λ x. HasNest c.args.moves.now c.args.part.now x) rest (part_rest c.args.moves.now c.args.part.now c.args.edges.now c.in-Some.candidate c.requires.nest some c.in-Some.ensures),
                  (c.requires.places, c.requires.room),
                ),
              ),
            ),
          ),
        ),
      ),
    )

pub part_numbers-returns-in_default-2-clause-numbers : goal.part_numbers-returns-in_default-2-clause-numbers
part_numbers-returns-in_default-2-clause-numbers g t c =
    let rest : remaining c.args.moves.now c.in-Some.candidate c.args.edges.now ≡ c.deref.result.now = sym c.in_ok-rest.ensures ∙ sym c.deref.ensures.value in
    let d0 : GraphDone (g.R.Ranks.forms c.args.ranks.now) c.args.moves.now c.args.part.now c.deref.result.now c.args.forms.now c.graph_numbers.new.forms c.args.levels.now.items c.graph_numbers.new.levels.items None = rw c.in_default-2.is at c.in_ok-weight.ensures.numbers in
    let d : GraphDone (g.R.Ranks.forms c.args.ranks.now) c.args.moves.now c.args.part.now (remaining c.args.moves.now c.in-Some.candidate c.args.edges.now) c.args.forms.now c.graph_numbers.new.forms c.args.levels.now.items c.graph_numbers.new.levels.items None =
    subst (λ x. GraphDone (g.R.Ranks.forms c.args.ranks.now) c.args.moves.now c.args.part.now x c.args.forms.now c.graph_numbers.new.forms c.args.levels.now.items c.graph_numbers.new.levels.items None) (sym rest) d0 in
    part_within _ (g.R.Ranks.forms c.args.ranks.now) c.args.moves.now c.args.part.now c.args.edges.now c.args.forms.now c.graph_numbers.new.forms c.args.levels.now.items c.graph_numbers.new.levels.items c.in-Some.candidate c.in-Some.ensures d

pub part_numbers-raised-requires-clause-least : goal.part_numbers-raised-requires-clause-least
part_numbers-raised-requires-clause-least g t c =
    let rest : remaining c.args.moves.now c.in-Some.candidate c.args.edges.now ≡ c.deref.result.now = sym c.in_ok-rest.ensures ∙ sym c.deref.ensures.value in
    let d0 : GraphDone (g.R.Ranks.forms c.args.ranks.now) c.args.moves.now c.args.part.now c.deref.result.now c.args.forms.now c.graph_numbers.new.forms c.args.levels.now.items c.graph_numbers.new.levels.items (Some c.in-Some-2.weight) = rw c.in-Some-2.is at c.in_ok-weight.ensures.numbers in
    let d : GraphDone (g.R.Ranks.forms c.args.ranks.now) c.args.moves.now c.args.part.now (remaining c.args.moves.now c.in-Some.candidate c.args.edges.now) c.args.forms.now c.graph_numbers.new.forms c.args.levels.now.items c.graph_numbers.new.levels.items (Some c.in-Some-2.weight) =
    subst (λ x. GraphDone (g.R.Ranks.forms c.args.ranks.now) c.args.moves.now c.args.part.now x c.args.forms.now c.graph_numbers.new.forms c.args.levels.now.items c.graph_numbers.new.levels.items (Some c.in-Some-2.weight)) (sym rest) d0 in
    let known : (k : ℕ) → Contains c.args.part.now k → k < (g.R.Ranks.forms c.args.ranks.now).keys = λ k ck. omega (arith, All-contains (λ k. k < length c.args.into.now) c.args.part.now k c.requires.graph.below ck, c.requires.setting.known) in
    let w = within_rest _ (g.R.Ranks.forms c.args.ranks.now) (length c.args.into.now) c.args.moves.now c.in-Some.candidate c.args.part.now c.args.edges.now c.requires.graph in
    let range = total_range _ (g.R.Ranks.forms c.args.ranks.now) c.args.moves.now (g.met.R.Ranks.laws c.args.ranks.now) c.requires.setting.moves c.args.part.now (remaining c.args.moves.now c.in-Some.candidate c.args.edges.now) (form_of (g.R.Ranks.forms c.args.ranks.now) c.graph_numbers.new.forms) c.in-Some-2.weight d.new d.numbers known w.ends w.within w.some in
    let f : SFits w128 c.in-Some-2.weight = search rules in
    let read = to_z-of_z w128 c.in-Some-2.weight f in
    omega (arith, ints, read, range.0)

pub part_numbers-raised-requires-clause-most : goal.part_numbers-raised-requires-clause-most
part_numbers-raised-requires-clause-most g t c =
    let rest : remaining c.args.moves.now c.in-Some.candidate c.args.edges.now ≡ c.deref.result.now = sym c.in_ok-rest.ensures ∙ sym c.deref.ensures.value in
    let d0 : GraphDone (g.R.Ranks.forms c.args.ranks.now) c.args.moves.now c.args.part.now c.deref.result.now c.args.forms.now c.graph_numbers.new.forms c.args.levels.now.items c.graph_numbers.new.levels.items (Some c.in-Some-2.weight) = rw c.in-Some-2.is at c.in_ok-weight.ensures.numbers in
    let d : GraphDone (g.R.Ranks.forms c.args.ranks.now) c.args.moves.now c.args.part.now (remaining c.args.moves.now c.in-Some.candidate c.args.edges.now) c.args.forms.now c.graph_numbers.new.forms c.args.levels.now.items c.graph_numbers.new.levels.items (Some c.in-Some-2.weight) =
    subst (λ x. GraphDone (g.R.Ranks.forms c.args.ranks.now) c.args.moves.now c.args.part.now x c.args.forms.now c.graph_numbers.new.forms c.args.levels.now.items c.graph_numbers.new.levels.items (Some c.in-Some-2.weight)) (sym rest) d0 in
    let known : (k : ℕ) → Contains c.args.part.now k → k < (g.R.Ranks.forms c.args.ranks.now).keys = λ k ck. omega (arith, All-contains (λ k. k < length c.args.into.now) c.args.part.now k c.requires.graph.below ck, c.requires.setting.known) in
    let w = within_rest _ (g.R.Ranks.forms c.args.ranks.now) (length c.args.into.now) c.args.moves.now c.in-Some.candidate c.args.part.now c.args.edges.now c.requires.graph in
    let range = total_range _ (g.R.Ranks.forms c.args.ranks.now) c.args.moves.now (g.met.R.Ranks.laws c.args.ranks.now) c.requires.setting.moves c.args.part.now (remaining c.args.moves.now c.in-Some.candidate c.args.edges.now) (form_of (g.R.Ranks.forms c.args.ranks.now) c.graph_numbers.new.forms) c.in-Some-2.weight d.new d.numbers known w.ends w.within w.some in
    let f : SFits w128 c.in-Some-2.weight = search rules in
    let read = to_z-of_z w128 c.in-Some-2.weight f in
    omega (arith, ints, read, range.1)

pub part_numbers-returns-in_default-raised-clause-numbers : goal.part_numbers-returns-in_default-raised-clause-numbers
part_numbers-returns-in_default-raised-clause-numbers g t c =
    let rest : remaining c.args.moves.now c.in-Some.candidate c.args.edges.now ≡ c.deref.result.now = sym c.in_ok-rest.ensures ∙ sym c.deref.ensures.value in
    let d0 : GraphDone (g.R.Ranks.forms c.args.ranks.now) c.args.moves.now c.args.part.now c.deref.result.now c.args.forms.now c.graph_numbers.new.forms c.args.levels.now.items c.graph_numbers.new.levels.items (Some c.in-Some-2.weight) = rw c.in-Some-2.is at c.in_ok-weight.ensures.numbers in
    let d : GraphDone (g.R.Ranks.forms c.args.ranks.now) c.args.moves.now c.args.part.now (remaining c.args.moves.now c.in-Some.candidate c.args.edges.now) c.args.forms.now c.graph_numbers.new.forms c.args.levels.now.items c.graph_numbers.new.levels.items (Some c.in-Some-2.weight) =
    subst (λ x. GraphDone (g.R.Ranks.forms c.args.ranks.now) c.args.moves.now c.args.part.now x c.args.forms.now c.graph_numbers.new.forms c.args.levels.now.items c.graph_numbers.new.levels.items (Some c.in-Some-2.weight)) (sym rest) d0 in
    let f : SFits w128 c.in-Some-2.weight = search rules in
    let read = to_z-of_z w128 c.in-Some-2.weight f in
    let fl : SFits w64 c.low_end-low.result = search rules in
    let low = to_z-of_z w64 c.low_end-low.result fl in
    let passes : Passes (g.R.Ranks.forms c.args.ranks.now) (λ f. (g.R.Ranks.forms c.args.ranks.now).level c.in-Some-2.weight c.in-Some.candidate c.low_end-low.result f) c.args.part.now c.graph_numbers.new.forms =
    subst (λ x. Passes (g.R.Ranks.forms c.args.ranks.now) (λ f. (g.R.Ranks.forms c.args.ranks.now).level x c.in-Some.candidate c.low_end-low.result f) c.args.part.now c.graph_numbers.new.forms) read
    (subst (λ x. Passes (g.R.Ranks.forms c.args.ranks.now) (λ f. (g.R.Ranks.forms c.args.ranks.now).level (to_z w128 (of_z w128 c.in-Some-2.weight)) c.in-Some.candidate x f) c.args.part.now c.graph_numbers.new.forms) low c.in_default-raised.ensures.value) in
    let pushed : levels_of c.push_level.new.levels.items ≡ levels_of c.graph_numbers.new.levels.items ++ part_level c.args.part.now c.in-Some.candidate c.low_end-low.result c.in-Some-2.weight (pos 0) ∷ [] =
    c.in_ok-push_level.ensures ∙ ap (λ x. levels_of c.graph_numbers.new.levels.items ++ part_level c.args.part.now c.in-Some.candidate x (to_z w128 (of_z w128 c.in-Some-2.weight)) (pos 0) ∷ []) low
    ∙ ap (λ x. levels_of c.graph_numbers.new.levels.items ++ part_level c.args.part.now c.in-Some.candidate c.low_end-low.result x (pos 0) ∷ []) read in
    part_form_large _ (g.R.Ranks.forms c.args.ranks.now) c.args.moves.now c.args.part.now c.args.edges.now c.args.forms.now c.graph_numbers.new.forms c.args.levels.now.items c.graph_numbers.new.levels.items c.in-Some.candidate c.in-Some.ensures c.raised.new.forms c.push_level.new.levels.items
    c.in-Some-2.weight c.low_end-low.result d c.low_end-low.ensures c.raised.ensures.others passes pushed

pub part_numbers-returns-then-most-gt-MOST-clause-numbers : goal.part_numbers-returns-then-most-gt-MOST-clause-numbers
part_numbers-returns-then-most-gt-MOST-clause-numbers g t c =
    let rest : remaining c.args.moves.now c.in-Some.candidate c.args.edges.now ≡ c.deref.result.now = sym c.in_ok-rest.ensures ∙ sym c.deref.ensures.value in
    let d0 : GraphDone (g.R.Ranks.forms c.args.ranks.now) c.args.moves.now c.args.part.now c.deref.result.now c.args.forms.now c.graph_numbers.new.forms c.args.levels.now.items c.graph_numbers.new.levels.items (Some c.in-Some-2.weight) = rw c.in-Some-2.is at c.in_ok-weight.ensures.numbers in
    let d : GraphDone (g.R.Ranks.forms c.args.ranks.now) c.args.moves.now c.args.part.now (remaining c.args.moves.now c.in-Some.candidate c.args.edges.now) c.args.forms.now c.graph_numbers.new.forms c.args.levels.now.items c.graph_numbers.new.levels.items (Some c.in-Some-2.weight) =
    subst (λ x. GraphDone (g.R.Ranks.forms c.args.ranks.now) c.args.moves.now c.args.part.now x c.args.forms.now c.graph_numbers.new.forms c.args.levels.now.items c.graph_numbers.new.levels.items (Some c.in-Some-2.weight)) (sym rest) d0 in
    let f : SFits w128 c.in-Some-2.weight = search rules in
    let read = to_z-of_z w128 c.in-Some-2.weight f in
    let fl : SFits w64 c.low_end-low.result = search rules in
    let low = to_z-of_z w64 c.low_end-low.result fl in
    let fm : SFits w128 c.in-Some-raised.most = search rules in
    let w = to_z-of_z w128 c.in-Some-raised.most fm in
    let is_raised : IsRaised (g.R.Ranks.forms c.args.ranks.now) (λ f. (g.R.Ranks.forms c.args.ranks.now).level c.in-Some-2.weight c.in-Some.candidate c.low_end-low.result f) c.args.part.now c.graph_numbers.new.forms c.raised.new.forms c.in-Some-raised.most =
    subst (λ x. IsRaised (g.R.Ranks.forms c.args.ranks.now) (λ f. (g.R.Ranks.forms c.args.ranks.now).level x c.in-Some.candidate c.low_end-low.result f) c.args.part.now c.graph_numbers.new.forms c.raised.new.forms c.in-Some-raised.most) read
    (subst (λ x. IsRaised (g.R.Ranks.forms c.args.ranks.now) (λ f. (g.R.Ranks.forms c.args.ranks.now).level (to_z w128 (of_z w128 c.in-Some-2.weight)) c.in-Some.candidate x f) c.args.part.now c.graph_numbers.new.forms c.raised.new.forms c.in-Some-raised.most) low c.in-Some-raised.ensures.value) in
    let pushed : levels_of c.push_level-2.new.levels.items ≡ levels_of c.graph_numbers.new.levels.items ++ part_level c.args.part.now c.in-Some.candidate c.low_end-low.result c.in-Some-2.weight c.in-Some-raised.most ∷ [] =
    c.in_ok-push_level-2.ensures ∙ ap (λ x. levels_of c.graph_numbers.new.levels.items ++ part_level c.args.part.now c.in-Some.candidate x (to_z w128 (of_z w128 c.in-Some-2.weight)) (to_z w128 (of_z w128 c.in-Some-raised.most)) ∷ []) low
    ∙ ap (λ x. levels_of c.graph_numbers.new.levels.items ++ part_level c.args.part.now c.in-Some.candidate c.low_end-low.result x (to_z w128 (of_z w128 c.in-Some-raised.most)) ∷ []) read
    ∙ ap (λ x. levels_of c.graph_numbers.new.levels.items ++ part_level c.args.part.now c.in-Some.candidate c.low_end-low.result c.in-Some-2.weight x ∷ []) w in
    part_value_large _ (g.R.Ranks.forms c.args.ranks.now) c.args.moves.now c.args.part.now c.args.edges.now c.args.forms.now c.graph_numbers.new.forms c.args.levels.now.items c.graph_numbers.new.levels.items c.in-Some.candidate c.in-Some.ensures c.raised.new.forms c.push_level-2.new.levels.items
    c.in-Some-2.weight c.low_end-low.result d c.low_end-low.ensures c.raised.ensures.others c.in-Some-raised.most is_raised pushed (omega (arith, ints, w, c.if-most-gt-MOST.true))

pub part_numbers-returns-then-most-gt-MOST-clause-places : goal.part_numbers-returns-then-most-gt-MOST-clause-places
part_numbers-returns-then-most-gt-MOST-clause-places g t c =
    let h = c.in_ok-weight.ensures.places in
    record {
      marks_len = h.marks_len;
      places_len = h.places_len;
      forms_len = c.raised.ensures.len ∙ h.forms_len;
      fresh = h.fresh;
    }

pub part_numbers-returns-clause-numbers : goal.part_numbers-returns-clause-numbers
part_numbers-returns-clause-numbers g t c =
    let rest : remaining c.args.moves.now c.in-Some.candidate c.args.edges.now ≡ c.deref.result.now = sym c.in_ok-rest.ensures ∙ sym c.deref.ensures.value in
    let d0 : GraphDone (g.R.Ranks.forms c.args.ranks.now) c.args.moves.now c.args.part.now c.deref.result.now c.args.forms.now c.graph_numbers.new.forms c.args.levels.now.items c.graph_numbers.new.levels.items (Some c.in-Some-2.weight) = rw c.in-Some-2.is at c.in_ok-weight.ensures.numbers in
    let d : GraphDone (g.R.Ranks.forms c.args.ranks.now) c.args.moves.now c.args.part.now (remaining c.args.moves.now c.in-Some.candidate c.args.edges.now) c.args.forms.now c.graph_numbers.new.forms c.args.levels.now.items c.graph_numbers.new.levels.items (Some c.in-Some-2.weight) =
    subst (λ x. GraphDone (g.R.Ranks.forms c.args.ranks.now) c.args.moves.now c.args.part.now x c.args.forms.now c.graph_numbers.new.forms c.args.levels.now.items c.graph_numbers.new.levels.items (Some c.in-Some-2.weight)) (sym rest) d0 in
    let f : SFits w128 c.in-Some-2.weight = search rules in
    let read = to_z-of_z w128 c.in-Some-2.weight f in
    let fl : SFits w64 c.low_end-low.result = search rules in
    let low = to_z-of_z w64 c.low_end-low.result fl in
    let fm : SFits w128 c.in-Some-raised.most = search rules in
    let w = to_z-of_z w128 c.in-Some-raised.most fm in
    let is_raised : IsRaised (g.R.Ranks.forms c.args.ranks.now) (λ f. (g.R.Ranks.forms c.args.ranks.now).level c.in-Some-2.weight c.in-Some.candidate c.low_end-low.result f) c.args.part.now c.graph_numbers.new.forms c.raised.new.forms c.in-Some-raised.most =
    subst (λ x. IsRaised (g.R.Ranks.forms c.args.ranks.now) (λ f. (g.R.Ranks.forms c.args.ranks.now).level x c.in-Some.candidate c.low_end-low.result f) c.args.part.now c.graph_numbers.new.forms c.raised.new.forms c.in-Some-raised.most) read
    (subst (λ x. IsRaised (g.R.Ranks.forms c.args.ranks.now) (λ f. (g.R.Ranks.forms c.args.ranks.now).level (to_z w128 (of_z w128 c.in-Some-2.weight)) c.in-Some.candidate x f) c.args.part.now c.graph_numbers.new.forms c.raised.new.forms c.in-Some-raised.most) low c.in-Some-raised.ensures.value) in
    let pushed : levels_of c.push_level-2.new.levels.items ≡ levels_of c.graph_numbers.new.levels.items ++ part_level c.args.part.now c.in-Some.candidate c.low_end-low.result c.in-Some-2.weight c.in-Some-raised.most ∷ [] =
    c.in_ok-push_level-2.ensures ∙ ap (λ x. levels_of c.graph_numbers.new.levels.items ++ part_level c.args.part.now c.in-Some.candidate x (to_z w128 (of_z w128 c.in-Some-2.weight)) (to_z w128 (of_z w128 c.in-Some-raised.most)) ∷ []) low
    ∙ ap (λ x. levels_of c.graph_numbers.new.levels.items ++ part_level c.args.part.now c.in-Some.candidate c.low_end-low.result x (to_z w128 (of_z w128 c.in-Some-raised.most)) ∷ []) read
    ∙ ap (λ x. levels_of c.graph_numbers.new.levels.items ++ part_level c.args.part.now c.in-Some.candidate c.low_end-low.result c.in-Some-2.weight x ∷ []) w in
    subst (λ x. PartDone (g.R.Ranks.forms c.args.ranks.now) c.args.moves.now c.args.part.now c.args.edges.now c.args.forms.now c.raised.new.forms c.args.levels.now.items c.push_level-2.new.levels.items (Some x)) (sym w)
    (part_small _ (g.R.Ranks.forms c.args.ranks.now) c.args.moves.now c.args.part.now c.args.edges.now c.args.forms.now c.graph_numbers.new.forms c.args.levels.now.items c.graph_numbers.new.levels.items c.in-Some.candidate c.in-Some.ensures c.raised.new.forms c.push_level-2.new.levels.items
    c.in-Some-2.weight c.low_end-low.result d c.low_end-low.ensures c.raised.ensures.others c.in-Some-raised.most is_raised pushed (omega (arith, ints, w, c.if-most-gt-MOST.false)))

pub part_numbers-returns-clause-places : goal.part_numbers-returns-clause-places
part_numbers-returns-clause-places g t c =
    let h = c.in_ok-weight.ensures.places in
    record {
      marks_len = h.marks_len;
      places_len = h.places_len;
      forms_len = c.raised.ensures.len ∙ h.forms_len;
      fresh = h.fresh;
    }
