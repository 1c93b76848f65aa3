use Rattle.std.proofs.Common.{◌≡◌, ◌-◌, true, arith, sym, ◌∙◌, ap}
use Rattle.flag_relation.specs.Facts.{values}
use Rattle.memory_plan.specs.Plans.{word_at}
use Rattle.abs_step.specs.Results.{addressed, or_value, word_source, words_from}
use Rattle.abs_step.proofs.SearchLaws.{no_words, words_over, words_next_on, first_some}
use Rattle.abs_step.proofs.JoinLaws.{all_greatest}
use Rattle.abs_step.proofs.operands.join_words.Goals as goal

pub returns-then-is_greatest : goal.returns-then-is_greatest
returns-then-is_greatest g c =
    let d = g.D.NumDomain.domain in
    let p = addressed d c.args.place.now (values c.args.fact.now) in
    sym (all_greatest d g.met.D.NumDomain.laws c.loop-at.all (words_from d c.args.plan.now p c.loop-at.at (c.args.to - c.loop-at.at)) (sym c.is_greatest.ensures ∙ c.if-is_greatest.true)) ∙ c.loop-at.invariant

pub returns-in_default : goal.returns-in_default
returns-in_default g c =
    let p = addressed g.D.NumDomain.domain c.args.place.now (values c.args.fact.now) in
    sym (no_words g.D.NumDomain.domain c.args.plan.now p c.loop-at.all c.loop-at.at (c.args.to - c.loop-at.at) (sym c.in_default.ensures)) ∙ c.loop-at.invariant

pub loop-at-smaller : goal.loop-at-smaller
loop-at-smaller g c =
    let p = addressed g.D.NumDomain.domain c.args.place.now (values c.args.fact.now) in
    let f = first_some p c.loop-at.at (c.args.to - c.loop-at.at) c.in-Some.next (sym c.in-Some.ensures) in
    let up = f.up in
    let is = c.get-at.ensures.number in
    let test = c.loop-at-test.true in
    omega arith

pub loop-at-preserved : goal.loop-at-preserved
loop-at-preserved g c =
    let d = g.D.NumDomain.domain in
    let plan = c.args.plan.now in
    let p = addressed d c.args.place.now (values c.args.fact.now) in
    let is = c.get-at.ensures.number in
    let test = c.loop-at-test.true in
    let all : c.joined-all.result ≡ or_value d c.loop-at.all (word_source d true (word_at plan.image c.in-Some.next)) = c.joined-all.ensures ∙ ap (or_value d c.loop-at.all) c.word_value.ensures in
    sym (words_next_on d plan p c.loop-at.all c.joined-all.result c.loop-at.at c.args.to c.in-Some.next c.get-at.result (omega arith) (sym c.in-Some.ensures) is all) ∙ c.loop-at.invariant

pub returns : goal.returns
returns g c =
    let p = addressed g.D.NumDomain.domain c.args.place.now (values c.args.fact.now) in
    sym (words_over g.D.NumDomain.domain c.args.plan.now p c.loop-at.all c.loop-at.at c.args.to (omega arith)) ∙ c.loop-at.invariant
