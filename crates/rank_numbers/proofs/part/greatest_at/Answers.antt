-- One more edge is looked at.
use Rattle.std.proofs.Common.{◌≡◌, get_or, inl, inr, arith, rules, subst, ◌∙◌, to_z, of_z}
use mir.Syntax.{w128}
use mir.Val.{SFits}
use Rattle.std.specs.Prelude.{◌≤ℤ◌}
use Rattle.std.proofs.lemmas.Bool.{cases_lt}
use Rattle.std.proofs.lemmas.Int.{ints, to_z-of_z}
use Rattle.std.proofs.lemmas.List.{get_or_default}
use Rattle.std.proofs.lemmas.List.Elements.{Contains-get_or}
use Rattle.strong_components.specs.declared.edge.Edge.{Edge}
use Rattle.rank_numbers.proofs.part.greatest_at.Goals as goal

abbrev none : Edge
none = record { from = 0; to = 0; name = 0 }

pub loop-edge-init : goal.loop-edge-init
loop-edge-init g c =
    let fr : SFits w128 c.greater-most.result = search rules in
    let w = to_z-of_z w128 c.greater-most.result fr in
    let fu : SFits w128 c.upper.result = search rules in
    let u = to_z-of_z w128 c.upper.result fu in
    record {
      fact = omega (arith, ints, w, u, c.greater-most.ensures.right, c.upper.ensures);
      edges = λ k d lk. absurd (omega arith);
      before = omega (arith, ints, w, c.greater-most.ensures.left);
      attained = elim c.greater-most.ensures.one [
        | inl e ↦ inl (w ∙ e)
        | inr e ↦ inr (inl (w ∙ e ∙ u ∙ c.upper.ensures))
      ];
      room = c.requires.room;
    }

pub loop-edge-preserved : goal.loop-edge-preserved
loop-edge-preserved g c =
    let o = g.R.Ranks.forms c.args.ranks.now in
    let i = c.loop-edge.edge-index in
    let most = c.greater-most-in-loop-edge in
    let fr : SFits w128 c.greater-most-in-loop-edge.result = search rules in
    let w = to_z-of_z w128 c.greater-most-in-loop-edge.result fr in
    let fu : SFits w128 c.after.result = search rules in
    let u = to_z-of_z w128 c.after.result fu in
    record {
      fact = omega (arith, ints, w, c.greater-most-in-loop-edge.ensures.left, c.loop-edge.invariant.fact);
      edges = λ k d lk. elim (cases_lt k c.loop-edge.edge-index) as (λ _. (g.R.Ranks.forms c.args.ranks.now).after c.args.form (get_or c.args.into.now k d) ≤ℤ to_z w128 (of_z w128 c.greater-most-in-loop-edge.result)) [
        | inl lt ↦ omega (arith, ints, w, c.greater-most-in-loop-edge.ensures.left, c.loop-edge.invariant.edges k d lt)
        | inr ge ↦ let is : c.loop-edge.edge-index ≡ k = omega arith in
            let same = get_or_default c.args.into.now c.loop-edge.edge-index none d (omega arith) in
            subst (λ n. (g.R.Ranks.forms c.args.ranks.now).after c.args.form (get_or c.args.into.now n d) ≤ℤ to_z w128 (of_z w128 c.greater-most-in-loop-edge.result)) is
            (subst (λ x. (g.R.Ranks.forms c.args.ranks.now).after c.args.form x ≤ℤ to_z w128 (of_z w128 c.greater-most-in-loop-edge.result)) same
            (omega (arith, ints, w, u, c.greater-most-in-loop-edge.ensures.right, c.after.ensures.value)))
      ];
      before = omega (arith, ints, w, c.greater-most-in-loop-edge.ensures.left, c.loop-edge.invariant.before);
      attained = elim c.greater-most-in-loop-edge.ensures.one [
        | inl e ↦ elim c.loop-edge.invariant.attained [
          | inl a ↦ inl (w ∙ e ∙ a)
          | inr r ↦ elim r [
            | inl a ↦ inr (inl (w ∙ e ∙ a))
            | inr a ↦ inr (inr (a.0, a.1, a.2, a.3, w ∙ e ∙ a.4))
          ]
        ]
        | inr e ↦ let m = Contains-get_or c.args.into.now c.loop-edge.edge-index none (omega arith) in
            inr (inr (m.0, get_or c.args.into.now c.loop-edge.edge-index none, m.1, m.2, w ∙ e ∙ u ∙ c.after.ensures.value))
      ];
      room = c.after.ensures.room;
    }
