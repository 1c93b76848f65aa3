-- One more key's values are looked at.
use Rattle.std.proofs.Common.{◌≡◌, ◌<◌, ◌⊎◌, ℕ, length, get_or, inl, inr, arith, rules, sym, subst, ap, ◌∙◌, to_z, of_z}
use mir.Syntax.{w128}
use mir.Val.{SFits}
use Rattle.std.specs.Prelude.{ℤ, ◌≤ℤ◌}
use Rattle.std.specs.List.{All, Any, Contains}
use Rattle.std.proofs.lemmas.Int.{ints, to_z-of_z}
use Rattle.std.proofs.lemmas.List.{get_or_read}
use Rattle.std.proofs.lemmas.List.Elements.{Contains-get_or}
use Rattle.rank_shape.specs.Places.{edge_lists, edges_at}
use Rattle.rank_shape.proofs.Sorting.{list_read}
use Rattle.rank_numbers.specs.Forms.{Forms}
use Rattle.rank_numbers.specs.Rows.{form_of}
use Rattle.rank_numbers.proofs.Greatest.{great_facts, great_edges, great_attained, great_all}
use Rattle.rank_numbers.proofs.part.greatest.Goals as goal

pub loop-key-preserved : goal.loop-key-preserved
loop-key-preserved g c =
    let Form : Type 0 = g.row.R-Form.Denot in
    let o : Forms g.row.R-Form.Denot = g.R.Ranks.forms c.args.ranks.now in
    let i : ℕ = c.loop-key.key-index in
    let key : ℕ = get_or c.args.part.now c.loop-key.key-index 0 in
    let li : c.loop-key.key-index < length c.args.part.now = omega arith in
    let form = get_or_read c.args.forms.now key c.index-forms-place.result (c.requires.forms c.loop-key.key-index 0 li) c.index-forms-place.is o.one in
    let list : c.deref.result.now ≡ edges_at (edge_lists c.args.into.now) (get_or c.args.part.now c.loop-key.key-index 0) =
    c.deref.ensures.value ∙ sym (list_read c.args.into.now key c.index-into-place.result (c.requires.into c.loop-key.key-index 0 li) c.index-into-place.is) in
    let fr : SFits w128 c.greatest_at-most.result = search rules in
    let w = to_z-of_z w128 c.greatest_at-most.result fr in
    let most : ℤ = to_z w128 (of_z w128 c.greatest_at-most.result) in
    let h = c.greatest_at-most.ensures in
    let before : to_z w128 c.loop-key.most-bits ≤ℤ to_z w128 (of_z w128 c.greatest_at-most.result) = omega (arith, ints, w, c.greatest_at-most.ensures.before) in
    let fact : o.upper (form_of o c.args.forms.now (get_or c.args.part.now c.loop-key.key-index 0)) (get_or c.args.part.now c.loop-key.key-index 0) ≤ℤ to_z w128 (of_z w128 c.greatest_at-most.result) =
    subst (λ f. o.upper f (get_or c.args.part.now c.loop-key.key-index 0) ≤ℤ to_z w128 (of_z w128 c.greatest_at-most.result)) form (omega (arith, ints, w, c.greatest_at-most.ensures.fact)) in
    let edges : All (λ e. o.after (form_of o c.args.forms.now (get_or c.args.part.now c.loop-key.key-index 0)) e ≤ℤ to_z w128 (of_z w128 c.greatest_at-most.result)) (edges_at (edge_lists c.args.into.now) (get_or c.args.part.now c.loop-key.key-index 0)) =
    subst (λ x. All (λ e. o.after (form_of o c.args.forms.now (get_or c.args.part.now c.loop-key.key-index 0)) e ≤ℤ to_z w128 (of_z w128 c.greatest_at-most.result)) x) list
    (λ k d lk. subst (λ f. o.after f (get_or c.deref.result.now k d) ≤ℤ to_z w128 (of_z w128 c.greatest_at-most.result)) form (omega (arith, ints, w, c.greatest_at-most.ensures.edges k d lk))) in
    let one = elim c.greatest_at-most.ensures.attained as (λ _. (to_z w128 (of_z w128 c.greatest_at-most.result) ≡ to_z w128 c.loop-key.most-bits)
    ⊎ ((to_z w128 (of_z w128 c.greatest_at-most.result) ≡ o.upper (form_of o c.args.forms.now (get_or c.args.part.now c.loop-key.key-index 0)) (get_or c.args.part.now c.loop-key.key-index 0))
    ⊎ Any (λ e. to_z w128 (of_z w128 c.greatest_at-most.result) ≡ o.after (form_of o c.args.forms.now (get_or c.args.part.now c.loop-key.key-index 0)) e) (edges_at (edge_lists c.args.into.now) (get_or c.args.part.now c.loop-key.key-index 0)))) [
      | inl e ↦ inl (w ∙ e)
      | inr r ↦ elim r [
        | inl e ↦ inr (inl (w ∙ e ∙ ap (λ f. o.upper f (get_or c.args.part.now c.loop-key.key-index 0)) form))
        | inr a ↦ inr (inr (subst (λ x. Any (λ e. to_z w128 (of_z w128 c.greatest_at-most.result) ≡ o.after (form_of o c.args.forms.now (get_or c.args.part.now c.loop-key.key-index 0)) e) x) list
            (a.0, a.1, a.2, a.3, w ∙ a.4 ∙ ap (λ f. o.after f a.1) form)))
      ]
    ] in
    record {
      facts = great_facts Form o c.args.part.now c.args.into.now c.args.forms.now i (to_z w128 c.loop-key.most-bits) most before fact c.loop-key.invariant.facts;
      edges = great_edges Form o c.args.part.now c.args.into.now c.args.forms.now i (to_z w128 c.loop-key.most-bits) most before edges c.loop-key.invariant.edges;
      attained = great_attained Form o c.args.part.now c.args.into.now c.args.forms.now i (to_z w128 c.loop-key.most-bits) most li one c.loop-key.invariant.attained;
      room = c.greatest_at-most.ensures.room;
    }

pub greatest_at-most-requires-clause-into : goal.greatest_at-most-requires-clause-into
greatest_at-most-requires-clause-into g c k d lk =
    let key : ℕ = get_or c.args.part.now c.loop-key.key-index 0 in
    let li : c.loop-key.key-index < length c.args.part.now = omega arith in
    let list : c.deref.result.now ≡ edges_at (edge_lists c.args.into.now) (get_or c.args.part.now c.loop-key.key-index 0) =
    c.deref.ensures.value ∙ sym (list_read c.args.into.now key c.index-into-place.result (c.requires.into c.loop-key.key-index 0 li) c.index-into-place.is) in
    ((c.requires.into_keys key (get_or c.deref.result.now k d)).0 (subst (λ x. Contains x (get_or c.deref.result.now k d)) list (Contains-get_or c.deref.result.now k d lk))).0

pub returns-clause-value : goal.returns-clause-value
returns-clause-value g c =
    great_all _ (g.R.Ranks.forms c.args.ranks.now) c.args.part.now c.args.into.now c.args.forms.now _ c.requires.into_keys
    (λ k lk. c.loop-key.invariant.facts k (omega arith)) (λ k e lk. c.loop-key.invariant.edges k e (omega arith)) c.loop-key.invariant.attained
