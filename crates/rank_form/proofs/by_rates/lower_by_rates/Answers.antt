use Rattle.std.proofs.Common.{rules, arith, ap, ◌∙◌, ◌≡◌, ◌≤◌, ◌^◌, ℤ, pos, List, replicate, unsigned_abs, Option}
use Rattle.std.proofs.Math.Path.{ap₂}
use Rattle.std.proofs.lemmas.Int.{ints}
use mir.Val.{SFits}
use mir.Syntax.{w128}
use Rattle.flag_relation.specs.declared.link.Link.{Link}
use Rattle.flag_relation.specs.declared.var.Var.{Var}
use Rattle.flag_relation.specs.Values.{Regs}
use Rattle.rank_form.specs.declared.rates.TheConstants.{FACT_VARIABLES}
use Rattle.rank_form.specs.Weights.{weigh}
use Rattle.rank_form.specs.Bounds.{place, linked}
use Rattle.rank_form.specs.Rates.{regs_of, spread, net_upper}
use Rattle.rank_form.proofs.Rating.{start_below, terms_fit}
use Rattle.rank_form.proofs.CodeLaws.{lower_code}
use Rattle.rank_form.proofs.by_rates.lower_by_rates.Goals as goal

pub add_terms-more-requires-clause-room : goal.add_terms-more-requires-clause-room
add_terms-more-requires-clause-room g c = start_below FACT_VARIABLES _ c.zeros-rates.result c.zeros-rates.ensures

pub net_upper-most-requires-clause-plus : goal.net_upper-most-requires-clause-plus
net_upper-most-requires-clause-plus g c = start_below FACT_VARIABLES _ c.zeros.result c.zeros.ensures

pub net_upper-most-requires-clause-minus : goal.net_upper-most-requires-clause-minus
net_upper-most-requires-clause-minus g c = terms_fit FACT_VARIABLES (2 ^ 43) (regs_of c.links_of.result) c.terms.result.now c.add_terms-more.new.rates c.zeros-rates.result c.add_terms-more.ensures.rates c.zeros-rates.ensures c.terms.ensures.small c.terms.ensures.few

pub returns : goal.returns
returns g c =
    let d = g.D.NumDomain.domain in
    let f = c.args.form.now in
    let x = c.args.fact.now in
    let zs = replicate FACT_VARIABLES (pos 0) in
    let k : SFits w128 c.constant.result = search rules in
    let m : SFits w128 c.add_terms-more.result = search rules in
    let n : SFits w128 c.net_upper-most.result = search rules in
    let t : SFits w128 c.total.result = search rules in
    let links : regs_of c.links_of.result ≡ x.links = c.links_of.ensures in
    let more : c.add_terms-more.result ≡ weigh (λ v. (place x.links v).more) f.terms =
    c.add_terms-more.ensures.more ∙ ap₂ (λ (l : Regs (Option Link)) (us : List (Var × ℤ)). weigh (λ v. (place l v).more) us) links c.terms.ensures.all in
    let rates : c.add_terms-more.new.rates ≡ spread (linked x.links f.terms) zs =
    c.add_terms-more.ensures.rates ∙ ap₂ (λ (l : Regs (Option Link)) (us : List (Var × ℤ)). spread (linked l us) c.zeros-rates.result) links c.terms.ensures.all ∙ ap (spread (linked x.links f.terms)) c.zeros-rates.ensures in
    let net : c.net_upper-most.result ≡ net_upper d x zs (spread (linked x.links f.terms) zs) = c.net_upper-most.ensures.value ∙ ap₂ (net_upper d x) c.zeros.ensures rates in
    let size : unsigned_abs c.net_upper-most.result ≤ 2 ^ 116 = c.net_upper-most.ensures.size in
    omega (arith, ints, k, m, n, t, more, net, size, c.total.ensures.value, c.constant.ensures.value, lower_code d f x c.net_upper-most.ensures.few)
