use Rattle.std.proofs.Common.{rules, arith, ap, subst, ◌∙◌, ◌≡◌, ◌≤◌, ◌^◌, ◌*◌, ℤ, pos, ◌+ℤ◌, ◌*ℤ◌, List, replicate}
use Rattle.std.specs.Prelude.{neg_ℤ, cond}
use Rattle.std.proofs.Math.Path.{ap₂}
use Rattle.std.proofs.lemmas.Int.{to_z-of_z}
use mir.Val.{SFits}
use mir.Syntax.{w64, w128}
use Rattle.flag_relation.specs.declared.var.Var.{Var}
use Rattle.flag_relation.specs.Forms.{form_of}
use Rattle.rank_form.specs.declared.rates.TheConstants.{VARIABLES}
use Rattle.rank_form.specs.Weights.{past, terms_from}
use Rattle.rank_form.specs.Bounds.{linked}
use Rattle.rank_form.specs.Rates.{regs_of, rate_at, put, spread}
use Rattle.rank_form.proofs.Ordering.{linked_none, level_code}
use Rattle.rank_form.proofs.Rating.{start_below, terms_fit, below_more}
use Rattle.rank_form.proofs.levels.level.Goals as goal

pub add_terms-requires-clause-room : goal.add_terms-requires-clause-room
add_terms-requires-clause-room c = start_below VARIABLES _ c.zeros-rates.result c.zeros-rates.ensures

pub put-requires-clause-room : goal.put-requires-clause-room
put-requires-clause-room c =
    below_more (8 * 2 ^ 43) (2 ^ 115) c.add_terms.new.rates (omega arith)
    (terms_fit VARIABLES (2 ^ 43) (regs_of c.no_links.result) c.terms.result.now c.add_terms.new.rates c.zeros-rates.result c.add_terms.ensures.rates c.zeros-rates.ensures c.terms.ensures.small c.terms.ensures.few)

pub returns : goal.returns
returns c =
    let f = c.args.inner.now in
    let same : linked (regs_of c.no_links.result) c.terms.result.now ≡ f.terms = ap₂ linked c.no_links.ensures c.terms.ensures.all ∙ linked_none f.terms in
    let k : SFits w128 c.lowered.result = search rules in
    let w : SFits w128 c.args.weight = search rules in
    let l : SFits w64 c.args.low = search rules in
    let a : SFits w128 c.constant.result = search rules in
    let b : SFits w128 c.directed.result = search rules in
    let rates : c.put.new.rates ≡ put (spread f.terms (replicate VARIABLES (pos 0))) c.args.var c.directed.result =
    c.put.ensures.rates ∙ ap₂ (λ (rs : List ℤ) (z : ℤ). put rs c.args.var z) (c.add_terms.ensures.rates ∙ ap₂ spread same c.zeros-rates.ensures) (to_z-of_z w128 c.directed.result b) in
    let number : c.lowered.result ≡ f.constant +ℤ neg_ℤ (c.args.weight *ℤ c.args.low) =
    c.lowered.ensures ∙ ap₂ (λ (z y : ℤ). z +ℤ neg_ℤ y) (to_z-of_z w128 c.constant.result a ∙ c.constant.ensures.value) (ap₂ ◌*ℤ◌ (to_z-of_z w128 c.args.weight w) (to_z-of_z w64 c.args.low l)) in
    let times : c.directed.result ≡ c.args.weight *ℤ cond c.args.down (pos 1) (neg_ℤ (pos 1)) = c.directed.ensures.value ∙ ap (λ z. z *ℤ cond c.args.down (pos 1) (neg_ℤ (pos 1))) (to_z-of_z w128 c.args.weight w) in
    let named : past f.terms ≤ VARIABLES = subst (λ (us : List (Var × ℤ)). past us ≤ VARIABLES) same c.add_terms.ensures.named in
    c.form_of.ensures ∙ ap (λ z. form_of z (terms_from (rate_at c.put.new.rates) 0 VARIABLES)) (to_z-of_z w128 c.lowered.result k)
    ∙ level_code c.args.weight c.args.var c.args.down c.args.low f c.lowered.result c.directed.result c.put.new.rates number times rates c.put.ensures.named named
