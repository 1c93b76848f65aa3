use Rattle.std.proofs.Common.{◌≡◌, ◌-◌, ◌≤◌, ◌^◌, ◌&&◌, not, true, false, arith, sym, ◌∙◌, ap}
use Rattle.memory_plan.specs.Plans.{in_code}
use Rattle.abs_step.specs.Walks.{is_point_at}
use Rattle.abs_step.proofs.SearchLaws.{none_refused, one_refused, one_allowed, first_some, past}
use Rattle.abs_step.proofs.conditions.points_are_in_code.Goals as goal

pub returns-in_default : goal.returns-in_default
returns-in_default g c =
    let p = is_point_at g.D.NumDomain.domain c.args.v.now in
    ap not (sym (sym c.loop-at.invariant ∙ none_refused p (in_code c.args.plan.now) c.loop-at.at (2 ^ 20 - c.loop-at.at) (sym c.in_default.ensures)))

pub returns-then-not-in_code : goal.returns-then-not-in_code
returns-then-not-in_code g c =
    let p = is_point_at g.D.NumDomain.domain c.args.v.now in
    let out : in_code c.args.plan.now c.in-Some.next ≡ false = sym c.in_code.ensures ∙ c.if-not-in_code.true in
    ap not (sym (sym c.loop-at.invariant ∙ one_refused p (in_code c.args.plan.now) c.loop-at.at (2 ^ 20 - c.loop-at.at) c.in-Some.next (sym c.in-Some.ensures) out))

pub loop-at-smaller : goal.loop-at-smaller
loop-at-smaller g c =
    let p = is_point_at g.D.NumDomain.domain c.args.v.now in
    let f = first_some p c.loop-at.at (2 ^ 20 - c.loop-at.at) c.in-Some.next (sym c.in-Some.ensures) in
    let up = f.up in
    let is = c.get-at.ensures.number in
    let test = c.loop-at-test.true in
    omega arith

pub loop-at-preserved : goal.loop-at-preserved
loop-at-preserved g c =
    let p = is_point_at g.D.NumDomain.domain c.args.v.now in
    let is = c.get-at.ensures.number in
    let test : c.loop-at.at ≤ 2 ^ 20 = omega arith in
    let within : in_code c.args.plan.now c.in-Some.next ≡ true = sym c.in_code.ensures ∙ c.if-not-in_code.false in
    sym (one_allowed p (in_code c.args.plan.now) c.loop-at.at (2 ^ 20) c.in-Some.next c.get-at.result test (sym c.in-Some.ensures) is within) ∙ c.loop-at.invariant

pub returns : goal.returns
returns g c =
    ap not (sym (sym c.loop-at.invariant ∙ past (λ n. is_point_at g.D.NumDomain.domain c.args.v.now n && not (in_code c.args.plan.now n)) c.loop-at.at (2 ^ 20) (omega arith)))
