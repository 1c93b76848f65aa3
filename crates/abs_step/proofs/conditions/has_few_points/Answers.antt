use Rattle.std.proofs.Common.{refl, ◌+◌, ◌-◌, ◌≤◌, ◌^◌, ℕ, arith, sym, ◌∙◌, ap, List, length}
use Rattle.abs_step.specs.Addresses.{passing}
use Rattle.abs_step.specs.Walks.{is_point_at}
use Rattle.abs_step.specs.declared.outcome.TheConstants.{MOST_TARGETS}
use Rattle.abs_step.proofs.SearchLaws.{passing_end, passing_on, passing_over, first_some}
use Rattle.abs_step.proofs.EndTests.{few_true, many_false}
use Rattle.abs_step.proofs.conditions.has_few_points.Goals as goal

pub returns-in_default : goal.returns-in_default
returns-in_default g c =
    let p = is_point_at g.D.NumDomain.domain c.args.v.now in
    let none = passing_end p c.loop-at.at (2 ^ 20 - c.loop-at.at) (sym c.in_default.ensures) in
    let all = c.loop-at.invariant.counted ∙ ap (λ (l : List ℕ). c.loop-at.count + length l) none in
    let few = c.loop-at.invariant.few in
    few_true (length (passing p 0 (2 ^ 20))) MOST_TARGETS (omega arith)

pub returns-then-count-eq-MOST_TARGETS : goal.returns-then-count-eq-MOST_TARGETS
returns-then-count-eq-MOST_TARGETS g c =
    let p = is_point_at g.D.NumDomain.domain c.args.v.now in
    let test : c.loop-at.at ≤ 2 ^ 20 = omega arith in
    let on = passing_on p c.loop-at.at (2 ^ 20) c.in-Some.next c.in-Some.next test (sym c.in-Some.ensures) refl in
    let all = c.loop-at.invariant.counted ∙ ap (λ (l : List ℕ). c.loop-at.count + length l) on in
    many_false (length (passing p 0 (2 ^ 20))) MOST_TARGETS (omega arith)

pub loop-at-smaller : goal.loop-at-smaller
loop-at-smaller g c =
    let p = is_point_at g.D.NumDomain.domain c.args.v.now in
    let f = first_some p c.loop-at.at (2 ^ 20 - c.loop-at.at) c.in-Some.next (sym c.in-Some.ensures) in
    let up = f.up in
    let is = c.get-at.ensures.number in
    let test = c.loop-at-test.true in
    omega arith

pub loop-at-preserved : goal.loop-at-preserved
loop-at-preserved g c =
    let p = is_point_at g.D.NumDomain.domain c.args.v.now in
    let is = c.get-at.ensures.number in
    let test : c.loop-at.at ≤ 2 ^ 20 = omega arith in
    let on = passing_on p c.loop-at.at (2 ^ 20) c.in-Some.next c.get-at.result test (sym c.in-Some.ensures) is in
    let all = c.loop-at.invariant.counted ∙ ap (λ (l : List ℕ). c.loop-at.count + length l) on in
    let few = c.loop-at.invariant.few in
    record { counted = omega arith; few = omega arith }

pub returns : goal.returns
returns g c =
    let p = is_point_at g.D.NumDomain.domain c.args.v.now in
    let none = passing_over p c.loop-at.at (2 ^ 20) (omega arith) in
    let all = c.loop-at.invariant.counted ∙ ap (λ (l : List ℕ). c.loop-at.count + length l) none in
    let few = c.loop-at.invariant.few in
    few_true (length (passing p 0 (2 ^ 20))) MOST_TARGETS (omega arith)
