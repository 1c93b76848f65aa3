-- A graph's parts meet what is asked of them; the measure is the number of edges.
use Rattle.std.proofs.Common.{◌≡◌, ◌<◌, length, sym, ap, subst, ◌∙◌, arith}
use Rattle.std.specs.List.{All, AllPairs}
use Rattle.std.proofs.lemmas.Bool.{eqb-true, eqb-false}
use Rattle.strong_components.specs.Components.{part_at}
use Rattle.strong_components.specs.Groups.{lists_of}
use Rattle.strong_components.specs.Steps.{BySource}
use Rattle.rank_shape.specs.Nests.{inside, remaining, parts_have, bare, IsStuckIn, unfit}
use Rattle.rank_shape.specs.Places.{EndsIn, Apart, InSome, PartsBelow, AreInside, edge_lists}
use Rattle.rank_shape.proofs.Sorting.{part_read, list_read, lists_length, edge_lists_length}
use Rattle.rank_shape.proofs.Shaping.{ends_below, part_below, parts_apart, ends_in_some, inside_le, inside_by_source, remaining_lt, remaining_by_source, found_some, found_none, found_deeper}
use Rattle.rank_shape.proofs.Theory.{ends_inside, ends_remaining}
use Rattle.rank_shape.proofs.shape.+shape.Goals as goal

pub first_stuck-components_of-requires-clause-ends : goal.first_stuck-components_of-requires-clause-ends
first_stuck-components_of-requires-clause-ends t c = ends_below c.args.keys.now c.args.edges.now (length c.args.marks.now) c.requires.ends c.requires.keys

pub first_stuck-inside_parts-requires-clause-within : goal.first_stuck-inside_parts-requires-clause-within
first_stuck-inside_parts-requires-clause-within t c =
    subst (λ x. PartsBelow (length c.args.places.now) (lists_of x)) (sym c.deref.ensures.value)
    (part_below c.args.keys.now c.args.edges.now (lists_of c.in_ok-found.found.parts.items) c.in_ok-found.ensures.parts (length c.args.places.now)
    (subst (λ n. All (λ k. k < n) c.args.keys.now) (sym c.requires.room) c.requires.keys))

pub first_stuck-inside_parts-requires-clause-apart : goal.first_stuck-inside_parts-requires-clause-apart
first_stuck-inside_parts-requires-clause-apart t c =
    subst (λ x. Apart (lists_of x)) (sym c.deref.ensures.value) (parts_apart c.args.keys.now c.args.edges.now (lists_of c.in_ok-found.found.parts.items) c.in_ok-found.ensures.parts)

pub first_stuck-inside_parts-requires-clause-in_parts : goal.first_stuck-inside_parts-requires-clause-in_parts
first_stuck-inside_parts-requires-clause-in_parts t c =
    subst (λ x. All (λ e. InSome (lists_of x) e.from × InSome (lists_of x) e.to) c.args.edges.now) (sym c.deref.ensures.value)
    (ends_in_some c.args.keys.now c.args.edges.now (lists_of c.in_ok-found.found.parts.items) c.in_ok-found.ensures.parts c.requires.ends)

pub first_stuck-loop-p-init : goal.first_stuck-loop-p-init
first_stuck-loop-p-init t c = record {
  components = c.in_ok-found.ensures.parts;
  lists_are = subst (λ x. AreInside (lists_of x) c.args.edges.now (edge_lists c.in_ok-lists.lists.items)) c.deref.ensures.value c.in_ok-lists.ensures.inside;
  have = λ q lt. absurd (omega arith);
  fresh = c.in_ok-found.ensures.fresh;
  marks_len = c.in_ok-found.ensures.len;
  places_len = c.in_ok-lists.ensures.len;
}

pub first_stuck-stuck_in-requires : goal.first_stuck-stuck_in-requires
first_stuck-stuck_in-requires t c =
    let parts = lists_of c.in_ok-found.found.parts.items in
    let p = c.loop-p.p in
    let lp : c.loop-p.p < length (lists_of c.in_ok-found.found.parts.items) = omega (arith, lists_length c.in_ok-found.found.parts.items) in
    let is-part : part_at (lists_of c.in_ok-found.found.parts.items) c.loop-p.p ≡ c.deref-in-loop-p.result.now =
    part_read c.in_ok-found.found.parts.items c.loop-p.p c.index.result.now (omega arith) c.index.ensures ∙ sym c.deref-in-loop-p.ensures.value in
    let is-list : inside (part_at (lists_of c.in_ok-found.found.parts.items) c.loop-p.p) c.args.edges.now ≡ c.deref-in-loop-p-2.result.now =
    sym (c.loop-p.invariant.lists_are.each c.loop-p.p lp)
    ∙ list_read c.in_ok-lists.lists.items c.loop-p.p c.index-in-loop-p.result.now (omega (arith, c.loop-p.invariant.lists_are.len, edge_lists_length c.in_ok-lists.lists.items)) c.index-in-loop-p.ensures
    ∙ sym c.deref-in-loop-p-2.ensures.value in
    let comps = c.loop-p.invariant.components in (
      omega (arith, c.decreases, ap length is-list, inside_le (part_at (lists_of c.in_ok-found.found.parts.items) c.loop-p.p) c.args.edges.now),
      (
        subst (λ x. AllPairs (λ a b. a < b) x) is-part (comps.ascend c.loop-p.p lp),
        (
          subst (λ x. All (λ k. k < length c.loop-p.marks) x) is-part
              (part_below c.args.keys.now c.args.edges.now (lists_of c.in_ok-found.found.parts.items) comps (length c.loop-p.marks) (subst (λ n. All (λ k. k < n) c.args.keys.now) (sym c.loop-p.invariant.marks_len) c.requires.keys) c.loop-p.p lp),
          (
            omega (arith, c.loop-p.invariant.marks_len, c.loop-p.invariant.places_len, c.requires.room),
            (
              subst (λ x. BySource x) is-list (inside_by_source (part_at (lists_of c.in_ok-found.found.parts.items) c.loop-p.p) c.args.edges.now c.requires.by_source),
              (
                subst (λ x. EndsIn x c.deref-in-loop-p-2.result.now) is-part (subst (λ x. EndsIn (part_at (lists_of c.in_ok-found.found.parts.items) c.loop-p.p) x) is-list (ends_inside (part_at (lists_of c.in_ok-found.found.parts.items) c.loop-p.p) c.args.edges.now)),
                c.loop-p.invariant.fresh,
              ),
            ),
          ),
        ),
      ),
    )

pub first_stuck-returns-then-is_some-clause-shape : goal.first_stuck-returns-then-is_some-clause-shape
first_stuck-returns-then-is_some-clause-shape t c =
    let lp : c.loop-p.p < length (lists_of c.in_ok-found.found.parts.items) = omega (arith, lists_length c.in_ok-found.found.parts.items) in
    let is-part : part_at (lists_of c.in_ok-found.found.parts.items) c.loop-p.p ≡ c.deref-in-loop-p.result.now =
    part_read c.in_ok-found.found.parts.items c.loop-p.p c.index.result.now (omega arith) c.index.ensures ∙ sym c.deref-in-loop-p.ensures.value in
    let is-list : inside (part_at (lists_of c.in_ok-found.found.parts.items) c.loop-p.p) c.args.edges.now ≡ c.deref-in-loop-p-2.result.now =
    sym (c.loop-p.invariant.lists_are.each c.loop-p.p lp)
    ∙ list_read c.in_ok-lists.lists.items c.loop-p.p c.index-in-loop-p.result.now (omega (arith, c.loop-p.invariant.lists_are.len, edge_lists_length c.in_ok-lists.lists.items)) c.index-in-loop-p.ensures
    ∙ sym c.deref-in-loop-p-2.ensures.value in
    found_some c.args.moves.now c.args.keys.now c.args.edges.now (lists_of c.in_ok-found.found.parts.items) c.loop-p.invariant.components c.loop-p.p lp c.loop-p.invariant.have
    c.deref-in-loop-p.result.now c.deref-in-loop-p-2.result.now (sym is-part) (sym is-list) c.in_ok-stuck.stuck c.in_ok-stuck.ensures.shape (sym c.is_some.ensures ∙ c.if-is_some.true)

pub first_stuck-loop-p-preserved : goal.first_stuck-loop-p-preserved
first_stuck-loop-p-preserved t c =
    let lp : c.loop-p.p < length (lists_of c.in_ok-found.found.parts.items) = omega (arith, lists_length c.in_ok-found.found.parts.items) in
    let is-part : part_at (lists_of c.in_ok-found.found.parts.items) c.loop-p.p ≡ c.deref-in-loop-p.result.now =
    part_read c.in_ok-found.found.parts.items c.loop-p.p c.index.result.now (omega arith) c.index.ensures ∙ sym c.deref-in-loop-p.ensures.value in
    let is-list : inside (part_at (lists_of c.in_ok-found.found.parts.items) c.loop-p.p) c.args.edges.now ≡ c.deref-in-loop-p-2.result.now =
    sym (c.loop-p.invariant.lists_are.each c.loop-p.p lp)
    ∙ list_read c.in_ok-lists.lists.items c.loop-p.p c.index-in-loop-p.result.now (omega (arith, c.loop-p.invariant.lists_are.len, edge_lists_length c.in_ok-lists.lists.items)) c.index-in-loop-p.ensures
    ∙ sym c.deref-in-loop-p-2.ensures.value in
    record {
      components = c.loop-p.invariant.components;
      lists_are = c.loop-p.invariant.lists_are;
      have = found_none c.args.moves.now c.args.keys.now c.args.edges.now (lists_of c.in_ok-found.found.parts.items) c.loop-p.invariant.components c.loop-p.p lp c.loop-p.invariant.have
          c.deref-in-loop-p.result.now c.deref-in-loop-p-2.result.now (sym is-part) (sym is-list) c.in_ok-stuck.stuck c.in_ok-stuck.ensures.shape (sym c.is_some.ensures ∙ c.if-is_some.false);
      fresh = c.in_ok-stuck.ensures.fresh;
      marks_len = c.in_ok-stuck.ensures.marks_len ∙ c.loop-p.invariant.marks_len;
      places_len = c.in_ok-stuck.ensures.places_len ∙ c.loop-p.invariant.places_len;
    }

pub first_stuck-returns-clause-shape : goal.first_stuck-returns-clause-shape
first_stuck-returns-clause-shape t c = parts_have (lists_of c.in_ok-found.found.parts.items) c.loop-p.invariant.components (λ p lp. c.loop-p.invariant.have p (omega (arith, lists_length c.in_ok-found.found.parts.items)))

pub stuck_in-returns-then-is_empty-clause-shape : goal.stuck_in-returns-then-is_empty-clause-shape
stuck_in-returns-then-is_empty-clause-shape t c = bare (eqb-true (length c.args.edges.now) 0 (sym c.is_empty.ensures ∙ c.if-is_empty.true))

pub stuck_in-returns-in_default-clause-shape : goal.stuck_in-returns-in_default-clause-shape
stuck_in-returns-in_default-clause-shape t c =
    let ne = eqb-false (length c.args.edges.now) 0 (sym c.is_empty.ensures ∙ c.if-is_empty.false) in
    subst (λ x. IsStuckIn c.args.moves.now c.args.part.now c.args.edges.now x) (sym c.in_ok-from_slice.ensures.items) (unfit (omega (arith, ne)) c.in_default.ensures)

pub stuck_in-first_stuck-requires : goal.stuck_in-first_stuck-requires
stuck_in-first_stuck-requires t c =
    let is : remaining c.args.moves.now c.in-Some.candidate c.args.edges.now ≡ c.deref.result.now = sym c.in_ok-rest.ensures ∙ sym c.deref.ensures.value in (
      omega (arith, c.decreases, ap length is, remaining_lt c.args.moves.now c.in-Some.candidate c.args.edges.now c.in-Some.ensures.fits),
      (
        c.requires.ascend,
        (
          c.requires.keys,
          (
            c.requires.room,
            (
              subst (λ x. BySource x) is (remaining_by_source c.args.moves.now c.in-Some.candidate c.args.edges.now c.requires.by_source),
              (
                subst (λ x. EndsIn c.args.part.now x) is (ends_remaining c.args.moves.now c.in-Some.candidate c.args.part.now c.args.edges.now c.requires.ends),
                c.requires.fresh,
              ),
            ),
          ),
        ),
      ),
    )

pub stuck_in-returns-clause-shape : goal.stuck_in-returns-clause-shape
stuck_in-returns-clause-shape t c =
    let is : c.deref.result.now ≡ remaining c.args.moves.now c.in-Some.candidate c.args.edges.now = c.deref.ensures.value ∙ c.in_ok-rest.ensures in
    found_deeper c.args.moves.now c.args.part.now c.args.edges.now c.deref.result.now c.in-Some.candidate c.in-Some.ensures is c.in_ok-stuck.stuck c.in_ok-stuck.ensures.shape
