-- One more part's offset is the best sum over the parts that it leads into, whose offsets stay.
use Rattle.std.proofs.Common.{◌≡◌, ◌<◌, ◌^◌, ℕ, length, replicate, get_or, arith, rules, sym, subst, ap, ◌∙◌, to_z, of_z}
use mir.Syntax.{w128}
use mir.Val.{SFits}
use Rattle.std.specs.List.{All}
use Rattle.std.specs.Prelude.{pos}
use Rattle.std.proofs.lemmas.Int.{to_z-of_z}
use Rattle.std.proofs.lemmas.List.{length-set, get_or_default}
use Rattle.rank_numbers.specs.Offsets.{IsBest, AreBounded, leads_at, number_at}
use Rattle.rank_numbers.proofs.Offsetting.{offset_more, leads_read, all_zero, bounds_none, bounds_more, bounds_weaken}
use Rattle.rank_numbers.proofs.offset.offsets.Goals as goal

pub loop-p-init : goal.loop-p-init
loop-p-init c =
    let items : c.in_ok-offset.offset.items ≡ replicate (length c.args.leads.now) (pos 0) = search rules in
    record {
      len = search rules;
      best = λ k lt. absurd (omega arith);
      bounded = bounds_none c.args.greatest.now c.in_ok-offset.offset.items (all_zero c.in_ok-offset.offset.items (length c.args.leads.now) items) c.requires.limit;
    }

pub best-requires-clause-greatest : goal.best-requires-clause-greatest
best-requires-clause-greatest c =
    let p : ℕ = get_or c.args.order.now c.loop-p.p-index 0 in
    let is = leads_read c.args.leads.now p c.index-leads-p.result (c.requires.back.within c.loop-p.p-index 0 (omega arith)) c.index-leads-p.is ∙ sym c.deref.ensures.value in
    subst (λ x. All (λ q. q < length c.args.greatest.now) x) is (subst (λ n. All (λ q. q < n) (leads_at c.args.leads.now p)) (sym c.requires.len) (c.requires.places p))

pub best-requires-clause-offset : goal.best-requires-clause-offset
best-requires-clause-offset c =
    let p : ℕ = get_or c.args.order.now c.loop-p.p-index 0 in
    let is = leads_read c.args.leads.now p c.index-leads-p.result (c.requires.back.within c.loop-p.p-index 0 (omega arith)) c.index-leads-p.is ∙ sym c.deref.ensures.value in
    let n : length c.args.leads.now ≡ length c.deref-in-loop-p.result.now = sym c.loop-p.invariant.len ∙ sym (ap length c.deref-in-loop-p.ensures.value) in
    subst (λ x. All (λ q. q < length c.deref-in-loop-p.result.now) x) is (subst (λ n. All (λ q. q < n) (leads_at c.args.leads.now p)) n (c.requires.places p))

pub best-requires-clause-bounded : goal.best-requires-clause-bounded
best-requires-clause-bounded c =
    let short : length c.args.order.now < 2 ^ 63 = search rules in
    subst (λ x. AreBounded c.args.greatest.now x (2 ^ 63)) (sym c.deref-in-loop-p.ensures.value) (bounds_weaken c.args.greatest.now c.loop-p.offset.items c.loop-p.p-index (2 ^ 63) (omega arith) c.loop-p.invariant.bounded)

pub loop-p-preserved : goal.loop-p-preserved
loop-p-preserved c =
    let p : ℕ = get_or c.args.order.now c.loop-p.p-index 0 in
    let is = leads_read c.args.leads.now p c.index-leads-p.result (c.requires.back.within c.loop-p.p-index 0 (omega arith)) c.index-leads-p.is ∙ sym c.deref.ensures.value in
    let fm : SFits w128 c.best.result = search rules in
    let most = to_z-of_z w128 c.best.result fm in
    let new : IsBest (leads_at c.args.leads.now (get_or c.args.order.now c.loop-p.p-index 0)) c.args.greatest.now c.loop-p.offset.items (to_z w128 (of_z w128 c.best.result)) =
    subst (λ x. IsBest x c.args.greatest.now c.loop-p.offset.items (to_z w128 (of_z w128 c.best.result))) (sym is)
    (subst (λ x. IsBest c.deref.result.now c.args.greatest.now x (to_z w128 (of_z w128 c.best.result))) c.deref-in-loop-p.ensures.value
    (subst (λ x. IsBest c.deref.result.now c.args.greatest.now c.deref-in-loop-p.result.now x) (sym most) c.best.ensures)) in
    record {
      len = length-set c.loop-p.offset.items p (to_z w128 (of_z w128 c.best.result)) ∙ c.loop-p.invariant.len;
      best = offset_more c.args.leads.now c.args.order.now c.args.greatest.now c.loop-p.offset.items c.loop-p.p-index (to_z w128 (of_z w128 c.best.result)) c.requires.back (omega arith) c.loop-p.invariant.len new c.loop-p.invariant.best;
      bounded = bounds_more (leads_at c.args.leads.now p) c.args.greatest.now c.loop-p.offset.items c.loop-p.p-index p (to_z w128 (of_z w128 c.best.result)) (omega (arith, c.requires.back.within c.loop-p.p-index 0 (omega arith), c.loop-p.invariant.len)) c.loop-p.invariant.bounded new;
    }

pub returns-clause-best : goal.returns-clause-best
returns-clause-best c k d lk =
    subst (λ p. IsBest (leads_at c.args.leads.now p) c.args.greatest.now c.loop-p.offset.items (number_at c.loop-p.offset.items p)) (get_or_default c.args.order.now k 0 d lk) (c.loop-p.invariant.best k (omega arith))

pub returns-clause-bounded : goal.returns-clause-bounded
returns-clause-bounded c =
    let short : length c.args.order.now < 2 ^ 63 = search rules in
    bounds_weaken c.args.greatest.now c.loop-p.offset.items c.loop-p.p-index (2 ^ 63) (omega arith) c.loop-p.invariant.bounded
