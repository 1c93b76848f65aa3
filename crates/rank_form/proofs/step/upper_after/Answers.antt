use Rattle.std.proofs.Common.{rules, arith, sym, ap, subst, ◌∙◌, ◌≡◌, ◌^◌, ℤ, pos, ◌+ℤ◌, List, length, replicate, Option}
use Rattle.std.proofs.Math.Path.{ap₂}
use Rattle.std.proofs.lemmas.Int.{ints}
use mir.Val.{SFits}
use mir.Syntax.{w128}
use Rattle.flag_relation.specs.declared.link.Link.{Link}
use Rattle.flag_relation.specs.declared.var.Var.{Var}
use Rattle.flag_relation.specs.Values.{Regs}
use Rattle.abs_step.specs.OutcomeLists.{OutcomeOf}
use Rattle.rank_form.specs.declared.rates.TheConstants.{FACT_VARIABLES}
use Rattle.rank_form.specs.Weights.{weigh}
use Rattle.rank_form.specs.Bounds.{place, linked, moved, upper, after}
use Rattle.rank_form.specs.Rates.{regs_of, spread, gains, net_upper}
use Rattle.rank_form.proofs.Limits.{form_ascends}
use Rattle.rank_form.proofs.Rating.{start_below, moved_fit}
use Rattle.rank_form.proofs.CodeLaws.{gains_code, after_code}
use Rattle.rank_form.proofs.step.upper_after.Goals as goal

pub add_after-gained-requires-clause-room : goal.add_after-gained-requires-clause-room
add_after-gained-requires-clause-room g c = start_below FACT_VARIABLES _ c.zeros-rates.result c.zeros-rates.ensures

pub net_upper-most-requires-clause-plus : goal.net_upper-most-requires-clause-plus
net_upper-most-requires-clause-plus g c = moved_fit FACT_VARIABLES (2 ^ 43) (regs_of c.links_of-links.result) c.out.inside.posts c.terms.result.now c.add_after-gained.new.rates c.zeros-rates.result c.add_after-gained.ensures.rates c.zeros-rates.ensures c.terms.ensures.small c.terms.ensures.few

pub net_upper-most-requires-clause-minus : goal.net_upper-most-requires-clause-minus
net_upper-most-requires-clause-minus g c = start_below FACT_VARIABLES _ c.zeros.result c.zeros.ensures

pub returns : goal.returns
returns g c =
    let d = g.D.NumDomain.domain in
    let f = c.args.form.now in
    let o : OutcomeOf g.row.D.Denot = record { target = c.out.inside.target; pre = c.out.inside.pre; after = c.out.inside.after; posts = c.out.inside.posts } in
    let same : o ≡ c.args.out.now = c.out.view_is in
    let many : length o.after.cells ≡ length o.pre.cells = subst (λ (q : OutcomeOf g.row.D.Denot). length q.after.cells ≡ length q.pre.cells) (sym same) c.requires in
    let zs = replicate FACT_VARIABLES (pos 0) in
    let k : SFits w128 c.constant.result = search rules in
    let m : SFits w128 c.add_after-gained.result = search rules in
    let n : SFits w128 c.net_upper-most.result = search rules in
    let t : SFits w128 c.total.result = search rules in
    let links : regs_of c.links_of-links.result ≡ o.pre.links = c.links_of-links.ensures in
    let gained : c.constant.result +ℤ c.add_after-gained.result ≡ (after d f o).constant +ℤ weigh (λ v. (place o.pre.links v).more) (after d f o).terms =
    ap₂ ◌+ℤ◌ c.constant.ensures.value (c.add_after-gained.ensures.gains ∙ ap₂ (λ (l : Regs (Option Link)) (us : List (Var × ℤ)). gains d l o.posts o.after us) links c.terms.ensures.all)
    ∙ gains_code d f o o.pre.links many (form_ascends f.constant f.terms c.terms.ensures.limits) in
    let rates : c.add_after-gained.new.rates ≡ spread (linked o.pre.links (moved o.posts f.terms)) zs =
    c.add_after-gained.ensures.rates ∙ ap₂ (λ (l : Regs (Option Link)) (us : List (Var × ℤ)). spread (linked l (moved o.posts us)) c.zeros-rates.result) links c.terms.ensures.all ∙ ap (spread (linked o.pre.links (moved o.posts f.terms))) c.zeros-rates.ensures in
    let net : c.net_upper-most.result ≡ net_upper d o.pre (spread (linked o.pre.links (moved o.posts f.terms)) zs) zs = c.net_upper-most.ensures.value ∙ ap₂ (net_upper d o.pre) rates c.zeros.ensures in
    omega (arith, ints, k, m, n, t, gained, net, c.total.ensures.value, ap (λ q. upper d (after d f q) q.pre) same, after_code d f o c.net_upper-most.ensures.few)
