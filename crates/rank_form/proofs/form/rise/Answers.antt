use Rattle.std.proofs.Common.{rules, arith}
use Rattle.std.proofs.lemmas.Int.{ints}
use mir.Val.{SFits}
use mir.Syntax.{w128}
use Rattle.rank_form.proofs.Numbers.{no_terms, rise_of_numbers}
use Rattle.rank_form.proofs.form.rise.Goals as goal

pub returns-then-is_empty-2 : goal.returns-then-is_empty-2
returns-then-is_empty-2 g c =
    let f = c.args.from.now in
    let t = c.args.to.now in
    let a : SFits w128 c.constant.result = search rules in
    let b : SFits w128 c.constant-then-is_empty-2.result = search rules in
    let k : SFits w128 c.difference.result = search rules in
    let none = no_terms c.terms.result.now f.terms c.if-is_empty.ensures c.terms.ensures.all in
    let none_after = no_terms c.terms-then-is_empty.result.now t.terms c.if-is_empty-2.ensures c.terms-then-is_empty.ensures.all in
    omega (arith, ints, a, b, k, c.constant.ensures.value, c.constant-then-is_empty-2.ensures.value, c.difference.ensures, rise_of_numbers g.D.NumDomain.domain f t c.args.out.now none none_after)
