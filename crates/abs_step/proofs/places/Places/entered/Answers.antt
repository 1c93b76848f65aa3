use Rattle.std.proofs.Common.{subst}
use Rattle.abs_step.specs.Places.{PlacesOf, AllHaveCells}
use Rattle.abs_step.proofs.PlaceLaws.{cells_take}
use Rattle.abs_step.proofs.places.Places.entered.Goals as goal

pub returns-clause-cells : goal.returns-clause-cells
returns-clause-cells g c =
    subst (λ (p : PlacesOf g.row.D.Denot). AllHaveCells p.cells p.outcomes) c.self.view_is
    (cells_take c.self.inside.cells c.self.inside.used c.self.inside.items.items c.self.invariant.counts)
