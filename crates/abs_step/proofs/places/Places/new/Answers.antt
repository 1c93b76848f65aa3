use Rattle.std.proofs.Common.{◌≡◌, ◌+◌, List, [], ◌∷◌, ◌++◌, length, sym, subst, ap, ◌∙◌}
use Rattle.std.proofs.lemmas.List.{length-append}
use Rattle.abs_step.specs.OutcomeLists.{OutcomeOf}
use Rattle.abs_step.specs.Places.{AllHaveCells}
use Rattle.abs_step.proofs.PlaceLaws.{cells_push}
use Rattle.abs_step.proofs.places.Places.new.Goals as goal

pub loop-preserved : goal.loop-preserved
loop-preserved g c =
    let pushed : c.push.new.self.items ≡ c.loop.items.items ++ c.in_ok-place.place ∷ [] = c.in-Ok.ensures.items in
    let has = cells_push c.args.cells c.loop.items.items c.in_ok-place.place c.loop.invariant.counts c.in_ok-place.ensures in
    record {
      count = ap (λ (os : List (OutcomeOf g.row.D.Denot)). length os) pushed ∙ length-append c.loop.items.items (c.in_ok-place.place ∷ [])
          ∙ ap (λ n. n + 1) c.loop.invariant.count;
      counts = subst (λ (os : List (OutcomeOf g.row.D.Denot)). AllHaveCells c.args.cells os) (sym pushed) has;
    }
