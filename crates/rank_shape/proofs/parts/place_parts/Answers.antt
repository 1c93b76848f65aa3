-- One more part's keys have their place.
use Rattle.std.proofs.Common.{◌≡◌, ◌<◌, ℕ, List, length, get_or, arith, sym, subst, ◌∙◌}
use Rattle.std.specs.List.{All, Contains}
use Rattle.strong_components.specs.Components.{part_at}
use Rattle.strong_components.specs.Groups.{lists_of}
use Rattle.rank_shape.proofs.Sorting.{place_more, part_read, lists_length}
use Rattle.rank_shape.proofs.parts.place_parts.Goals as goal

pub place_part-requires : goal.place_part-requires
place_part-requires c =
    let same : part_at (lists_of c.args.parts.now) c.loop-p.p ≡ c.deref.result.now = part_read c.args.parts.now c.loop-p.p c.index-parts-p.result (omega arith) c.index-parts-p.is ∙ sym c.deref.ensures.value in
    subst (λ x. All (λ k. k < length c.loop-p.places) x) same
    (subst (λ n. All (λ k. k < n) (part_at (lists_of c.args.parts.now) c.loop-p.p)) (sym c.loop-p.invariant.len) (c.requires.within c.loop-p.p (omega (arith, lists_length c.args.parts.now))))

pub loop-p-preserved : goal.loop-p-preserved
loop-p-preserved c =
    let parts = lists_of c.args.parts.now in
    let n = lists_length c.args.parts.now in
    let same : part_at (lists_of c.args.parts.now) c.loop-p.p ≡ c.deref.result.now = part_read c.args.parts.now c.loop-p.p c.index-parts-p.result (omega arith) c.index-parts-p.is ∙ sym c.deref.ensures.value in
    record {
      placed = place_more (lists_of c.args.parts.now) c.loop-p.places c.place_part.new.places c.loop-p.p (omega arith) c.requires.apart c.loop-p.invariant.placed
          (subst (λ x. All (λ k. get_or c.place_part.new.places k 0 ≡ c.loop-p.p) x) (sym same) c.place_part.ensures.here)
          (subst (λ (x : List ℕ). (u : ℕ) → (Contains x u → ⊥) → get_or c.place_part.new.places u 0 ≡ get_or c.loop-p.places u 0) (sym same) c.place_part.ensures.others);
      len = c.place_part.ensures.len ∙ c.loop-p.invariant.len;
    }

pub returns-clause-places : goal.returns-clause-places
returns-clause-places c p u lp m = c.loop-p.invariant.placed p u (omega (arith, lists_length c.args.parts.now)) m
