-- The parts by numbers are the components, and the marks that are forgotten are those of the listed keys.
use Rattle.std.proofs.Common.{◌≡◌, ◌<◌, length, get_or, inl, inr, arith, subst, ap, ◌∙◌}
use Rattle.std.proofs.lemmas.List.{get_or_default, get_or_past}
use Rattle.std.proofs.lemmas.Bool.{cases_lt}
use Rattle.strong_components.specs.declared.search.Mark.TheVariants.{Unseen}
use Rattle.strong_components.specs.Search.{mark_of}
use Rattle.strong_components.proofs.Grouping.{components_grouped, order_grouped}
use Rattle.strong_components.proofs.components.components_of.Goals as goal

pub forget-requires-clause-closed : goal.forget-requires-clause-closed
forget-requires-clause-closed c k d lk =
    let list = c.in_ok-closed.closed.items in
    let same : get_or c.deref.result.now k d ≡ get_or list k 0 = ap (λ x. get_or x k d) c.deref.ensures.value ∙ get_or_default list k d 0 (subst (λ x. k < length x) c.deref.ensures.value lk) in
    let p = c.in_ok-closed.ensures.placed.placed_done k (subst (λ x. k < length x) c.deref.ensures.value lk) in
    elim (cases_lt (get_or c.deref.result.now k d) (length c.number.new.marks)) as (λ _. get_or c.deref.result.now k d < length c.number.new.marks) [
      | inl lt ↦ lt
      | inr ge ↦ let past : mark_of c.number.new.marks (get_or list k 0) ≡ Unseen = get_or_past c.number.new.marks (get_or list k 0) Unseen (omega arith) in let q = p.2 in absurd (cc)
    ]

pub returns-clause-parts : goal.returns-clause-parts
returns-clause-parts c = components_grouped c.args.edges.now c.args.keys.now c.number.new.marks _ c.in_ok-groups.groups.places.items _ c.in_ok-closed.ensures.numbered c.in_ok-groups.ensures

pub returns-clause-order : goal.returns-clause-order
returns-clause-order c = order_grouped c.args.edges.now c.args.keys.now c.number.new.marks _ c.in_ok-groups.groups.places.items _ c.in_ok-order.order.items c.in_ok-closed.ensures.numbered c.in_ok-groups.ensures c.in_ok-order.ensures
