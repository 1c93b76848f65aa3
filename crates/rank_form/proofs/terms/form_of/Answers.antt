use Rattle.std.proofs.Common.{rules, arith, ap, ◌∙◌, ◌≡◌, pos, get_or, take, ◌++◌}
use Rattle.std.proofs.Math.Path.{ap₂}
use Rattle.std.proofs.lemmas.Int.{to_z-of_z}
use mir.Val.{SFits}
use mir.Syntax.{w128}
use Rattle.flag_relation.specs.Forms.{form_of}
use Rattle.rank_form.specs.declared.rates.TheConstants.{VARIABLES}
use Rattle.rank_form.specs.Weights.{var_at, term_of}
use Rattle.rank_form.specs.Rates.{rate_at}
use Rattle.rank_form.proofs.Pushing.{push_next, none_left}
use Rattle.rank_form.proofs.terms.form_of.Goals as goal

pub loop-number-preserved : goal.loop-number-preserved
loop-number-preserved c =
    let f : SFits w128 (get_or c.args.rates.now c.loop-number.number (pos 0)) = search rules in
    record {
      in_range = omega arith;
      room = omega (arith, c.push-count.ensures.more, c.loop-number.invariant.room);
      long = c.push-count.ensures.long ∙ c.loop-number.invariant.long;
      made = push_next c.args.rates.now c.loop-number.number VARIABLES (take c.loop-number.count c.loop-number.items) (take c.push-count.result c.push-count.new.items) (omega arith) (c.push-count.ensures.made ∙ ap (λ z. take c.loop-number.count c.loop-number.items ++ term_of (var_at c.loop-number.number) z) (to_z-of_z w128 (get_or c.args.rates.now c.loop-number.number (pos 0)) f)) ∙ c.loop-number.invariant.made;
    }

pub returns : goal.returns
returns c =
    let done : c.loop-number.number ≡ VARIABLES = omega (arith, c.loop-number.invariant.in_range, c.loop-number-test.false) in
    let all = none_left (rate_at c.args.rates.now) c.loop-number.number VARIABLES (take c.loop-number.count c.loop-number.items) done c.loop-number.invariant.made in
    let f : SFits w128 c.args.constant = search rules in
    c.new.ensures.form ∙ ap₂ form_of (to_z-of_z w128 c.args.constant f) all
