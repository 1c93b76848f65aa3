-- Each turn marks one more key of the trail, and lists it.
use Rattle.std.proofs.Common.{◌≡◌, ◌<◌, ◌+◌, ◌-◌, length, get_or, arith, sym, ap, subst, ◌∙◌, [], ◌∷◌, ◌++◌, take, drop}
use Rattle.std.proofs.lemmas.List.{get_or_read, length-set}
use Rattle.strong_components.specs.declared.search.Mark.TheVariants.{Done}
use Rattle.strong_components.proofs.Closing.{close_new, close_rest, close_more}
use Rattle.strong_components.proofs.search.Search.close.Goals as goal

pub loop-i-preserved : goal.loop-i-preserved
loop-i-preserved c =
    let short' : c.loop-i.i < length c.args.self.now.trail.items = omega arith in
    let short : c.loop-i.i < length c.loop-i.self.trail.items = subst (λ x. c.loop-i.i < length x) (sym c.loop-i.invariant.trail) short' in
    let at : get_or c.loop-i.self.trail.items c.loop-i.i 0 ≡ c.index-key.result.now = sym (get_or_read c.loop-i.self.trail.items c.loop-i.i c.index-key.result.now short c.index-key.ensures 0) in
    let at' : get_or c.args.self.now.trail.items c.loop-i.i 0 ≡ c.index-key.result.now = subst (λ x. get_or x c.loop-i.i 0 ≡ c.index-key.result.now) c.loop-i.invariant.trail at in
    let within : c.index-key.result.now < length c.loop-i.marks = omega (arith, c.requires.within c.loop-i.i short', at', c.loop-i.invariant.same_length) in
    record {
      same_length = length-set c.loop-i.marks c.index-key.result.now (Done c.len-number.result) ∙ c.loop-i.invariant.same_length;
      new = close_new c.loop-i.marks c.loop-i.self.trail.items c.args.first c.loop-i.i c.index-key.result.now (Done c.len-number.result) within at c.loop-i.invariant.new;
      rest = close_rest c.loop-i.marks c.loop-i.self.trail.items c.args.first c.loop-i.i c.index-key.result.now (Done c.len-number.result) within at c.args.marks.now c.loop-i.invariant.rest (omega arith);
      trail = c.loop-i.invariant.trail;
      closed = c.in_ok-push.ensures.items ∙ ap (λ x. x ++ c.index-key.result.now ∷ []) c.loop-i.invariant.closed
          ∙ subst (λ x. (c.args.self.now.closed.items ++ take (c.loop-i.i - c.args.first) (drop c.args.first c.args.self.now.trail.items)) ++ x ∷ [] ≡ c.args.self.now.closed.items ++ take (c.loop-i.i + 1 - c.args.first) (drop c.args.first c.args.self.now.trail.items)) at' (close_more c.args.self.now.closed.items c.args.self.now.trail.items c.args.first c.loop-i.i (omega arith) short');
      waiting = c.loop-i.invariant.waiting;
      stages = c.loop-i.invariant.stages;
    }
