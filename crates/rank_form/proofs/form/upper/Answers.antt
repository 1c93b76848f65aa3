use Rattle.std.proofs.Common.{rules, sym, ◌∙◌}
use Rattle.std.proofs.lemmas.Int.{to_z-of_z}
use mir.Val.{SFits}
use mir.Syntax.{w128}
use Rattle.rank_form.proofs.Numbers.{no_terms, upper_of_number}
use Rattle.rank_form.proofs.form.upper.Goals as goal

pub returns-then-is_empty : goal.returns-then-is_empty
returns-then-is_empty g c =
    let f = c.args.form.now in
    let k : SFits w128 c.constant.result = search rules in
    to_z-of_z w128 c.constant.result k ∙ c.constant.ensures.value
    ∙ sym (upper_of_number g.D.NumDomain.domain f c.args.fact.now (no_terms c.terms.result.now f.terms c.if-is_empty.ensures c.terms.ensures.all))
