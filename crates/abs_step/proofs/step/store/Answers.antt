use Rattle.std.proofs.Common.{List, ◌≤◌, ◌<◌, ◌+◌, ℕ, length, arith, sym, subst}
use Rattle.std.proofs.lemmas.List.{length-append}
use Rattle.flag_relation.specs.Facts.{values}
use Rattle.abs_step.specs.Addresses.{find_cell}
use Rattle.abs_step.specs.OutcomeLists.{OutcomeOf, each, outcome}
use Rattle.abs_step.specs.Places.{PlacesOf}
use Rattle.abs_step.specs.Stores.{spot, store_one, store_one_posts}
use Rattle.abs_step.proofs.OutcomeRoom.{one_outcome, one_of_each}
use Rattle.abs_step.proofs.step.store.Goals as goal

pub store_at_several-requires-clause-room : goal.store_at_several-requires-clause-room
store_at_several-requires-clause-room g c =
    let d = g.D.NumDomain.domain in
    let side = c.args.side.now in
    let cells = c.args.cells.now in
    let at = c.args.at in
    let source = c.args.source in
    let made : ℕ → List (OutcomeOf g.row.D.Denot) = λ n.
    outcome d (at + 1) side (store_one d at side source (find_cell cells n)) (store_one_posts d cells source (find_cell cells n)) in
    let one = (spot d c.args.place.now (values side)).one in
    let few : length (each one made) ≤ 1 = one_of_each one made (λ n. one_outcome d (at + 1) side _ _) in
    let free = c.requires.room in
    subst (λ (p : PlacesOf g.row.D.Denot). length p.outcomes < p.room) (sym c.store_at_one.ensures.outcomes)
    (omega (arith, length-append c.args.places.now.outcomes (each one made)))
