-- One more number is looked at, and has a part or none.
use Rattle.std.proofs.Common.{◌≡◌, ◌+◌, ℕ, Some, None, get_or, sym, subst, ap, ◌∙◌}
use Rattle.std.specs.declared.alloc.Global.{Global}
use Rattle.std.specs.declared.vec.Vec.{Vec}
use Rattle.strong_components.specs.Groups.{Ordered}
use Rattle.strong_components.proofs.Grouping.{ordered_some, ordered_none, none_since}
use Rattle.strong_components.proofs.components.Groups.order.Goals as goal
use Rattle.strong_components.proofs.components.Groups.order.Goals.{in-Some+in_ok-push, in_default}

pub loop-place-preserved : goal.loop-place-preserved
loop-place-preserved c = elim c.match-place.branch [
  | in-Some+in_ok-push w ↦
      subst (λ x. Ordered c.args.self.now.places.items (c.loop-place.place-index + 1) x) (sym (ap (λ (v : Vec ℕ Global). v.items) w.order-is ∙ w.in_ok-push.ensures.items))
      (ordered_some c.args.self.now.places.items c.loop-place.place-index w.in-Some.place c.loop-place.order.items
      (subst (λ x. get_or x c.loop-place.place-index None ≡ Some w.in-Some.place) c.deref-place-items.ensures.value w.in-Some.is) c.loop-place.invariant)
  | in_default w ↦
      subst (λ x. Ordered c.args.self.now.places.items (c.loop-place.place-index + 1) x) (sym (ap (λ (v : Vec ℕ Global). v.items) w.order-is))
      (ordered_none c.args.self.now.places.items c.loop-place.place-index c.loop-place.order.items (subst (λ x. get_or x c.loop-place.place-index None ≡ None) c.deref-place-items.ensures.value (none_since (get_or c.deref-place-items.result.now c.loop-place.place-index None) w.in_default.not-Some)) c.loop-place.invariant)
]
