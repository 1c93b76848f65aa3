use Rattle.std.proofs.Common.{rules, sym, ap, subst, ◌∙◌, ◌≡◌, ◌^◌, ℤ, pos, ◌+ℤ◌, ◌-ℤ◌, List, length, replicate, Option}
use Rattle.std.proofs.Math.Path.{ap₂}
use Rattle.std.proofs.lemmas.Int.{to_z-of_z}
use mir.Val.{SFits}
use mir.Syntax.{w128}
use Rattle.flag_relation.specs.declared.link.Link.{Link}
use Rattle.flag_relation.specs.declared.var.Var.{Var}
use Rattle.flag_relation.specs.Values.{Regs}
use Rattle.abs_step.specs.OutcomeLists.{OutcomeOf}
use Rattle.rank_form.specs.declared.rates.TheConstants.{FACT_VARIABLES}
use Rattle.rank_form.specs.Weights.{weigh}
use Rattle.rank_form.specs.Bounds.{place, linked, moved, after, rise}
use Rattle.rank_form.specs.Rates.{regs_of, spread, gains, net_upper}
use Rattle.rank_form.proofs.Limits.{form_ascends}
use Rattle.rank_form.proofs.Rating.{start_below, terms_fit, moved_fit}
use Rattle.rank_form.proofs.CodeLaws.{gains_code, rise_code, rise_adds}
use Rattle.rank_form.proofs.by_rates.rise_by_rates.Goals as goal

pub add_after-gained-requires-clause-room : goal.add_after-gained-requires-clause-room
add_after-gained-requires-clause-room g c = start_below FACT_VARIABLES _ c.zeros-plus.result c.zeros-plus.ensures

pub add_terms-more-requires-clause-room : goal.add_terms-more-requires-clause-room
add_terms-more-requires-clause-room g c = start_below FACT_VARIABLES _ c.zeros-minus.result c.zeros-minus.ensures

pub net_upper-most-requires-clause-plus : goal.net_upper-most-requires-clause-plus
net_upper-most-requires-clause-plus g c = moved_fit FACT_VARIABLES (2 ^ 43) (regs_of c.links_of-links.result) c.out.inside.posts c.terms.result.now c.add_after-gained.new.rates c.zeros-plus.result c.add_after-gained.ensures.rates c.zeros-plus.ensures c.terms.ensures.small c.terms.ensures.few

pub net_upper-most-requires-clause-minus : goal.net_upper-most-requires-clause-minus
net_upper-most-requires-clause-minus g c = terms_fit FACT_VARIABLES (2 ^ 43) (regs_of c.links_of-links.result) c.terms-2.result.now c.add_terms-more.new.rates c.zeros-minus.result c.add_terms-more.ensures.rates c.zeros-minus.ensures c.terms-2.ensures.small c.terms-2.ensures.few

pub returns : goal.returns
returns g c =
    let d = g.D.NumDomain.domain in
    let f = c.args.to.now in
    let b = c.args.from.now in
    let o : OutcomeOf g.row.D.Denot = record { target = c.out.inside.target; pre = c.out.inside.pre; after = c.out.inside.after; posts = c.out.inside.posts } in
    let same : o ≡ c.args.out.now = c.out.view_is in
    let many : length o.after.cells ≡ length o.pre.cells = subst (λ (q : OutcomeOf g.row.D.Denot). length q.after.cells ≡ length q.pre.cells) (sym same) c.requires in
    let zs = replicate FACT_VARIABLES (pos 0) in
    let k : SFits w128 c.constant.result = search rules in
    let k2 : SFits w128 c.constant-2.result = search rules in
    let m : SFits w128 c.add_after-gained.result = search rules in
    let m2 : SFits w128 c.add_terms-more.result = search rules in
    let n : SFits w128 c.net_upper-most.result = search rules in
    let t : SFits w128 c.total.result = search rules in
    let links : regs_of c.links_of-links.result ≡ o.pre.links = c.links_of-links.ensures in
    let gained : c.constant.result +ℤ c.add_after-gained.result ≡ (after d f o).constant +ℤ weigh (λ v. (place o.pre.links v).more) (after d f o).terms =
    ap₂ ◌+ℤ◌ c.constant.ensures.value (c.add_after-gained.ensures.gains ∙ ap₂ (λ (l : Regs (Option Link)) (us : List (Var × ℤ)). gains d l o.posts o.after us) links c.terms.ensures.all)
    ∙ gains_code d f o o.pre.links many (form_ascends f.constant f.terms c.terms.ensures.limits) in
    let more : c.add_terms-more.result ≡ weigh (λ v. (place o.pre.links v).more) b.terms =
    c.add_terms-more.ensures.more ∙ ap₂ (λ (l : Regs (Option Link)) (us : List (Var × ℤ)). weigh (λ v. (place l v).more) us) links c.terms-2.ensures.all in
    let plus : c.add_after-gained.new.rates ≡ spread (linked o.pre.links (moved o.posts f.terms)) zs =
    c.add_after-gained.ensures.rates ∙ ap₂ (λ (l : Regs (Option Link)) (us : List (Var × ℤ)). spread (linked l (moved o.posts us)) c.zeros-plus.result) links c.terms.ensures.all ∙ ap (spread (linked o.pre.links (moved o.posts f.terms))) c.zeros-plus.ensures in
    let minus : c.add_terms-more.new.rates ≡ spread (linked o.pre.links b.terms) zs =
    c.add_terms-more.ensures.rates ∙ ap₂ (λ (l : Regs (Option Link)) (us : List (Var × ℤ)). spread (linked l us) c.zeros-minus.result) links c.terms-2.ensures.all ∙ ap (spread (linked o.pre.links b.terms)) c.zeros-minus.ensures in
    let net : c.net_upper-most.result ≡ net_upper d o.pre (spread (linked o.pre.links (moved o.posts f.terms)) zs) (spread (linked o.pre.links b.terms) zs) = c.net_upper-most.ensures.value ∙ ap₂ (net_upper d o.pre) plus minus in
    let z : SFits w128 c.difference.result = search rules in
    let e : rise d b f o ≡ rise d b f c.args.out.now = ap (rise d b f) same in
    let r : net_upper d o.pre (spread (linked o.pre.links (moved o.posts f.terms)) zs) (spread (linked o.pre.links b.terms) zs)
    ≡ (rise d b f o +ℤ (b.constant +ℤ weigh (λ v. (place o.pre.links v).more) b.terms)) -ℤ ((after d f o).constant +ℤ weigh (λ v. (place o.pre.links v).more) (after d f o).terms) = rise_code d b f o c.net_upper-most.ensures.few in
    let sum : c.total.result ≡ (c.constant.result +ℤ c.add_after-gained.result) +ℤ c.net_upper-most.result =
    c.total.ensures.value ∙ ap₂ ◌+ℤ◌ (ap₂ ◌+ℤ◌ (to_z-of_z w128 c.constant.result k) (to_z-of_z w128 c.add_after-gained.result m)) (to_z-of_z w128 c.net_upper-most.result n) in
    let last : c.difference.result ≡ c.total.result -ℤ (b.constant +ℤ weigh (λ v. (place o.pre.links v).more) b.terms) =
    c.difference.ensures ∙ ap₂ ◌-ℤ◌ (to_z-of_z w128 c.total.result t) (ap₂ ◌+ℤ◌ (to_z-of_z w128 c.constant-2.result k2 ∙ c.constant-2.ensures.value) (to_z-of_z w128 c.add_terms-more.result m2 ∙ more)) in
    to_z-of_z w128 c.difference.result z ∙ rise_adds d c.constant.result c.add_after-gained.result c.net_upper-most.result c.total.result b.constant (weigh (λ v. (place o.pre.links v).more) b.terms) c.difference.result (after d f o).constant (weigh (λ v. (place o.pre.links v).more) (after d f o).terms) (rise d b f o) sum gained (net ∙ r) last ∙ e
