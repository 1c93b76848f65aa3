use Rattle.std.proofs.Common.{◌≡◌, ◌<◌, length, arith, sym, subst, ap, ◌∙◌}
use Rattle.std.proofs.lemmas.List.{length-set, length-take}
use Rattle.abs_step.specs.OutcomeLists.{OutcomeOf}
use Rattle.abs_step.specs.Places.{PlacesOf, HasCells}
use Rattle.abs_step.proofs.PlaceLaws.{cells_at, cells_set}
use Rattle.abs_step.proofs.places.Places.push.Goals as goal

pub set-requires-clause-pre : goal.set-requires-clause-pre
set-requires-clause-pre g c =
    let room : length c.self.inside.items.items ≡ c.args.self.now.room = ap (λ (p : PlacesOf g.row.D.Denot). p.room) c.self.view_is in
    let cells : c.self.inside.cells ≡ c.args.self.now.cells = ap (λ (p : PlacesOf g.row.D.Denot). p.cells) c.self.view_is in
    let taken = ap (λ (p : PlacesOf g.row.D.Denot). length p.outcomes) c.self.view_is in
    let within = c.self.invariant.within in
    let free = c.requires.room in
    let here : c.self.inside.used < length c.self.inside.items.items = omega (arith, length-take {A = OutcomeOf g.row.D.Denot}) in
    let slot = cells_at c.self.inside.cells c.self.inside.items.items c.self.inside.used c.index_mut-slot.result.now c.index_mut-slot.result.now c.self.invariant.counts here c.index_mut-slot.ensures.value in
    slot.pre ∙ cells ∙ sym c.requires.pre

pub set-requires-clause-after : goal.set-requires-clause-after
set-requires-clause-after g c =
    let room : length c.self.inside.items.items ≡ c.args.self.now.room = ap (λ (p : PlacesOf g.row.D.Denot). p.room) c.self.view_is in
    let cells : c.self.inside.cells ≡ c.args.self.now.cells = ap (λ (p : PlacesOf g.row.D.Denot). p.cells) c.self.view_is in
    let taken = ap (λ (p : PlacesOf g.row.D.Denot). length p.outcomes) c.self.view_is in
    let within = c.self.invariant.within in
    let free = c.requires.room in
    let here : c.self.inside.used < length c.self.inside.items.items = omega (arith, length-take {A = OutcomeOf g.row.D.Denot}) in
    let slot = cells_at c.self.inside.cells c.self.inside.items.items c.self.inside.used c.index_mut-slot.result.now c.index_mut-slot.result.now c.self.invariant.counts here c.index_mut-slot.ensures.value in
    slot.after ∙ cells ∙ sym c.requires.after

pub set-requires-clause-posts : goal.set-requires-clause-posts
set-requires-clause-posts g c =
    let room : length c.self.inside.items.items ≡ c.args.self.now.room = ap (λ (p : PlacesOf g.row.D.Denot). p.room) c.self.view_is in
    let cells : c.self.inside.cells ≡ c.args.self.now.cells = ap (λ (p : PlacesOf g.row.D.Denot). p.cells) c.self.view_is in
    let taken = ap (λ (p : PlacesOf g.row.D.Denot). length p.outcomes) c.self.view_is in
    let within = c.self.invariant.within in
    let free = c.requires.room in
    let here : c.self.inside.used < length c.self.inside.items.items = omega (arith, length-take {A = OutcomeOf g.row.D.Denot}) in
    let slot = cells_at c.self.inside.cells c.self.inside.items.items c.self.inside.used c.index_mut-slot.result.now c.index_mut-slot.result.now c.self.invariant.counts here c.index_mut-slot.ensures.value in
    slot.posts ∙ cells ∙ sym c.requires.posts

pub invariant_of-self : goal.invariant_of-self
invariant_of-self g c =
    let room : length c.self.inside.items.items ≡ c.args.self.now.room = ap (λ (p : PlacesOf g.row.D.Denot). p.room) c.self.view_is in
    let cells : c.self.inside.cells ≡ c.args.self.now.cells = ap (λ (p : PlacesOf g.row.D.Denot). p.cells) c.self.view_is in
    let taken = ap (λ (p : PlacesOf g.row.D.Denot). length p.outcomes) c.self.view_is in
    let within = c.self.invariant.within in
    let free = c.requires.room in
    let here : c.self.inside.used < length c.self.inside.items.items = omega (arith, length-take {A = OutcomeOf g.row.D.Denot}) in
    let has : HasCells c.self.inside.cells c.set.new.self = subst (λ (o : OutcomeOf g.row.D.Denot). HasCells c.self.inside.cells o) (sym c.set.ensures) (record {
      pre = c.requires.pre ∙ sym cells;
      after = c.requires.after ∙ sym cells;
      posts = c.requires.posts ∙ sym cells;
    }) in
    record {
      within = omega (arith, length-set {A = OutcomeOf g.row.D.Denot});
      counts = cells_set c.self.inside.cells c.self.inside.items.items c.self.inside.used c.set.new.self c.self.invariant.counts has;
    }
