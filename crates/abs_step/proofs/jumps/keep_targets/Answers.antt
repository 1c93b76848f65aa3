use Rattle.std.proofs.Common.{◌≤◌, ◌+◌, ◌-◌, ◌^◌, ◌++◌, [], List, ℕ, cond, length, refl, arith, sym, ap, ◌∙◌}
use Rattle.std.specs.List.{flat_map}
use Rattle.std.proofs.lemmas.List.{length-append}
use Rattle.memory_plan.specs.Plans.{in_code}
use Rattle.abs_step.specs.Addresses.{passing}
use Rattle.abs_step.specs.OutcomeLists.{OutcomeOf, outcome}
use Rattle.abs_step.specs.Outcomes.{is_target}
use Rattle.abs_step.specs.Walks.{is_point_at}
use Rattle.abs_step.specs.Places.{PlacesOf}
use Rattle.abs_step.proofs.SearchLaws.{passing_on, first_some}
use Rattle.abs_step.proofs.TargetLaws.{targets_end, targets_over, targets_on, kept_few}
use Rattle.abs_step.proofs.jumps.keep_targets.Goals as goal

pub loop-at-smaller : goal.loop-at-smaller
loop-at-smaller g c =
    let p = is_point_at g.D.NumDomain.domain c.args.v.now in
    let f = first_some p c.loop-at.at (2 ^ 20 - c.loop-at.at) c.in-Some.next (sym c.in-Some.ensures) in
    let up = f.up in
    let is = c.get-at.ensures.number in
    let test = c.loop-at-test.true in
    omega arith

pub returns-in_default : goal.returns-in_default
returns-in_default g c =
    let d = g.D.NumDomain.domain in
    let plan = c.args.plan.now in
    let v = c.args.v.now in
    let f : ℕ → List (OutcomeOf g.row.D.Denot) = λ n. outcome d n c.args.pre.now c.args.after.now c.args.posts.now in
    let old = c.args.places.now in
    let now = c.loop-at.places in
    let out = sym (targets_end d plan v f now.outcomes c.loop-at.at (2 ^ 20 - c.loop-at.at) (sym c.in_default.ensures)) ∙ c.loop-at.invariant.same in
    c.loop-at.invariant.others ∙ ap (λ (l : List (OutcomeOf g.row.D.Denot)). record old { outcomes = l }) out

pub keep_target-requires-clause-room : goal.keep_target-requires-clause-room
keep_target-requires-clause-room g c =
    let p = is_point_at g.D.NumDomain.domain c.args.v.now in
    let test : c.loop-at.at ≤ 2 ^ 20 = omega arith in
    let on = ap (λ (l : List ℕ). length l) (passing_on p c.loop-at.at (2 ^ 20) c.in-Some.next c.in-Some.next test (sym c.in-Some.ensures) refl) in
    let free = c.loop-at.invariant.free in
    omega arith

pub loop-at-preserved : goal.loop-at-preserved
loop-at-preserved g c =
    let d = g.D.NumDomain.domain in
    let plan = c.args.plan.now in
    let v = c.args.v.now in
    let f : ℕ → List (OutcomeOf g.row.D.Denot) = λ n. outcome d n c.args.pre.now c.args.after.now c.args.posts.now in
    let old = c.args.places.now in
    let now = c.loop-at.places in
    let p = is_point_at d v in
    let is = c.get-at.ensures.number in
    let test : c.loop-at.at ≤ 2 ^ 20 = omega arith in
    let written = c.keep_target.ensures in
    let kept = cond (in_code plan c.in-Some.next) (f c.in-Some.next) [] in
    let on = ap (λ (l : List ℕ). length l) (passing_on p c.loop-at.at (2 ^ 20) c.in-Some.next c.get-at.result test (sym c.in-Some.ensures) is) in
    let free = c.loop-at.invariant.free in
    let few = kept_few d (in_code plan c.in-Some.next) c.in-Some.next c.args.pre.now c.args.after.now c.args.posts.now in
    let more = ap (λ (w : PlacesOf g.row.D.Denot). length w.outcomes) written ∙ length-append now.outcomes kept in
    let room = ap (λ (w : PlacesOf g.row.D.Denot). w.room) written in
    record {
      same = ap (λ (w : PlacesOf g.row.D.Denot). w.outcomes ++ flat_map f (passing (is_target d plan v) (c.get-at.result + 1) (2 ^ 20 - (c.get-at.result + 1)))) written
          ∙ sym (targets_on d plan v f now.outcomes c.loop-at.at (2 ^ 20) c.in-Some.next c.get-at.result test (sym c.in-Some.ensures) is)
          ∙ c.loop-at.invariant.same;
      free = omega arith;
      others = written
          ∙ ap (λ (w : PlacesOf g.row.D.Denot). record w { outcomes = now.outcomes ++ kept }) c.loop-at.invariant.others
          ∙ sym (ap (λ (w : PlacesOf g.row.D.Denot). record old { outcomes = w.outcomes }) written);
    }

pub returns : goal.returns
returns g c =
    let d = g.D.NumDomain.domain in
    let plan = c.args.plan.now in
    let v = c.args.v.now in
    let f : ℕ → List (OutcomeOf g.row.D.Denot) = λ n. outcome d n c.args.pre.now c.args.after.now c.args.posts.now in
    let old = c.args.places.now in
    let now = c.loop-at.places in
    let out = sym (targets_over d plan v f now.outcomes c.loop-at.at (2 ^ 20) (omega arith)) ∙ c.loop-at.invariant.same in
    c.loop-at.invariant.others ∙ ap (λ (l : List (OutcomeOf g.row.D.Denot)). record old { outcomes = l }) out
