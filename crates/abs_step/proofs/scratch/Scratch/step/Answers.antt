use Rattle.std.proofs.Common.{◌≡◌, ◌+◌, ◌≤◌, Bool, false, List, [], ◌++◌, length, None, Some, sym, ◌∙◌, ap, subst, arith}
use Rattle.std.proofs.lemmas.List.{length-append}
use Rattle.flag_relation.specs.Emptiness.{is_empty}
use Rattle.flag_relation.specs.InPlace.{left}
use Rattle.abs_step.specs.OutcomeLists.{OutcomeOf}
use Rattle.abs_step.specs.Outcomes.{taken_side, skipped_side, performed}
use Rattle.abs_step.specs.Places.{PlacesOf}
use Rattle.abs_step.specs.Scratches.{ScratchOf}
use Rattle.abs_step.specs.declared.outcome.TheConstants.{MOST_TARGETS}
use Rattle.abs_step.proofs.Sides.{no_fault_c5, skipped, one_skipped, skipped_alone, both_sides}
use Rattle.abs_step.proofs.scratch.Scratch.step.Goals as goal

pub returns-then-not-take_side-clause-outcomes : goal.returns-then-not-take_side-clause-outcomes
returns-then-not-take_side-clause-outcomes g c =
    let d = g.D.NumDomain.domain in
    let plan = c.args.plan.now in
    let cells = c.args.cells.now in
    let at = c.args.at in
    let i = c.args.instruction.now in
    let f = c.args.fact.now in
    let empty : is_empty d f ≡ false = sym c.is_empty.ensures.value ∙ c.if-is_empty.false in
    let none : None ≡ taken_side d i f = ap (λ (b : Bool). left b c.take_side.new.side) (sym c.if-not-take_side.true)
    ∙ c.take_side.ensures.value ∙ ap (taken_side d i) c.copy_from.ensures in
    let start : c.self.inside.places.outcomes ≡ [] = ap (λ (s : ScratchOf g.row.D.Denot). s.outcomes) c.self.view_is ∙ c.requires.none in
    ap (λ (p : PlacesOf g.row.D.Denot). p.outcomes) c.skip.ensures.outcomes
    ∙ ap (λ (os : List (OutcomeOf g.row.D.Denot)). os ++ skipped d plan cells at (skipped_side d i f)) start
    ∙ skipped_alone d plan cells at i f empty none

pub perform-requires-clause-room : goal.perform-requires-clause-room
perform-requires-clause-room g c =
    let d = g.D.NumDomain.domain in
    let plan = c.args.plan.now in
    let cells = c.args.cells.now in
    let at = c.args.at in
    let other = skipped d plan cells at (skipped_side d c.args.instruction.now c.args.fact.now) in
    let start : c.self.inside.places.outcomes ≡ [] = ap (λ (s : ScratchOf g.row.D.Denot). s.outcomes) c.self.view_is ∙ c.requires.none in
    let none : length c.self.inside.places.outcomes ≡ 0 = ap (λ (os : List (OutcomeOf g.row.D.Denot)). length os) start in
    let few : length other ≤ 1 = one_skipped d plan cells at (skipped_side d c.args.instruction.now c.args.fact.now) in
    let room = c.self.invariant.room in
    subst (λ (p : PlacesOf g.row.D.Denot). length p.outcomes + MOST_TARGETS ≤ p.room) (sym c.skip-2.ensures.outcomes)
    (omega (arith, length-append c.self.inside.places.outcomes other))

pub perform-requires-clause-targets : goal.perform-requires-clause-targets
perform-requires-clause-targets g c =
    no_fault_c5 g.D.NumDomain.domain c.args.plan.now c.args.cells.now c.args.at c.args.instruction.now c.take_side.new.side
    (sym c.side_fault.ensures ∙ c.in_default.is)

pub returns-clause-outcomes : goal.returns-clause-outcomes
returns-clause-outcomes g c =
    let d = g.D.NumDomain.domain in
    let plan = c.args.plan.now in
    let cells = c.args.cells.now in
    let at = c.args.at in
    let i = c.args.instruction.now in
    let f = c.args.fact.now in
    let side = c.take_side.new.side in
    let empty : is_empty d f ≡ false = sym c.is_empty.ensures.value ∙ c.if-is_empty.false in
    let some : Some side ≡ taken_side d i f = ap (λ (b : Bool). left b side) (sym c.if-not-take_side.false)
    ∙ c.take_side.ensures.value ∙ ap (taken_side d i) c.copy_from.ensures in
    let start : c.self.inside.places.outcomes ≡ [] = ap (λ (s : ScratchOf g.row.D.Denot). s.outcomes) c.self.view_is ∙ c.requires.none in
    ap (λ (p : PlacesOf g.row.D.Denot). p.outcomes) c.perform.ensures.outcomes
    ∙ ap (λ (p : PlacesOf g.row.D.Denot). p.outcomes ++ performed d plan cells at i side) c.skip-2.ensures.outcomes
    ∙ ap (λ (os : List (OutcomeOf g.row.D.Denot)). (os ++ skipped d plan cells at (skipped_side d i f)) ++ performed d plan cells at i side) start
    ∙ both_sides d plan cells at i f side empty some
