use Rattle.std.proofs.Common.{◌≡◌, ◌-◌, true, false, arith, sym, ◌∙◌}
use Rattle.flag_relation.specs.Facts.{values}
use Rattle.abs_step.specs.Addresses.{is_tracked}
use Rattle.abs_step.specs.Results.{addressed}
use Rattle.abs_step.specs.Walks.{is_untracked}
use Rattle.abs_step.proofs.SearchLaws.{none_refused, one_refused, one_allowed, first_some, past}
use Rattle.abs_step.proofs.operands.may_meet_untracked.Goals as goal

pub returns-in_default : goal.returns-in_default
returns-in_default g c =
    let p = addressed g.D.NumDomain.domain c.args.place.now (values c.args.fact.now) in
    sym (sym c.loop-at.invariant ∙ none_refused p (is_tracked c.args.cells.now) c.loop-at.at (c.args.to - c.loop-at.at) (sym c.in_default.ensures))

pub returns-then-not-is_tracked : goal.returns-then-not-is_tracked
returns-then-not-is_tracked g c =
    let p = addressed g.D.NumDomain.domain c.args.place.now (values c.args.fact.now) in
    let out : is_tracked c.args.cells.now c.in-Some.next ≡ false = sym c.is_tracked.ensures ∙ c.if-not-is_tracked.true in
    sym (sym c.loop-at.invariant ∙ one_refused p (is_tracked c.args.cells.now) c.loop-at.at (c.args.to - c.loop-at.at) c.in-Some.next (sym c.in-Some.ensures) out)

pub loop-at-smaller : goal.loop-at-smaller
loop-at-smaller g c =
    let p = addressed g.D.NumDomain.domain c.args.place.now (values c.args.fact.now) in
    let f = first_some p c.loop-at.at (c.args.to - c.loop-at.at) c.in-Some.next (sym c.in-Some.ensures) in
    let up = f.up in
    let is = c.get-at.ensures.number in
    let test = c.loop-at-test.true in
    omega arith

pub loop-at-preserved : goal.loop-at-preserved
loop-at-preserved g c =
    let p = addressed g.D.NumDomain.domain c.args.place.now (values c.args.fact.now) in
    let is = c.get-at.ensures.number in
    let test = c.loop-at-test.true in
    let in_cells : is_tracked c.args.cells.now c.in-Some.next ≡ true = sym c.is_tracked.ensures ∙ c.if-not-is_tracked.false in
    sym (one_allowed p (is_tracked c.args.cells.now) c.loop-at.at c.args.to c.in-Some.next c.get-at.result (omega arith) (sym c.in-Some.ensures) is in_cells) ∙ c.loop-at.invariant

pub returns : goal.returns
returns g c =
    sym (sym c.loop-at.invariant ∙ past (is_untracked g.D.NumDomain.domain c.args.cells.now c.args.place.now (values c.args.fact.now)) c.loop-at.at c.args.to (omega arith))
