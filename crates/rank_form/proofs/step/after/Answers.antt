use Rattle.std.proofs.Common.{rules, arith, sym, ap, subst, ◌∙◌, ◌≡◌, ◌≤◌, ◌^◌, ℤ, pos, ◌+ℤ◌, List, length, replicate, Option, Some}
use Rattle.std.proofs.Math.Path.{ap₂}
use Rattle.std.proofs.lemmas.Int.{ints}
use Rattle.std.proofs.lemmas.Option.{same_Some}
use mir.Val.{SFits, to_z, of_z}
use mir.Syntax.{w128}
use Rattle.flag_relation.specs.declared.link.Link.{Link}
use Rattle.flag_relation.specs.declared.var.Var.{Var}
use Rattle.flag_relation.specs.Values.{Regs}
use Rattle.abs_step.specs.OutcomeLists.{OutcomeOf}
use Rattle.rank_form.specs.declared.rates.TheConstants.{VARIABLES}
use Rattle.rank_form.specs.Weights.{merged}
use Rattle.rank_form.specs.Bounds.{linked, moved, after}
use Rattle.rank_form.specs.Rates.{regs_of, no_links, spread, gains, rate_at, ArePostsSmall}
use Rattle.rank_form.specs.Weights.{past, terms_from}
use Rattle.flag_relation.specs.Forms.{form_of}
use Rattle.rank_form.proofs.Limits.{form_ascends}
use Rattle.rank_form.proofs.Rating.{start_below}
use Rattle.rank_form.proofs.Ordering.{linked_none, some_is}
use Rattle.rank_form.proofs.AfterForms.{after_form}
use Rattle.rank_form.proofs.step.after.Goals as goal

pub add_after-gained-requires-clause-room : goal.add_after-gained-requires-clause-room
add_after-gained-requires-clause-room g c = start_below VARIABLES _ c.zeros-rates.result c.zeros-rates.ensures

pub unwrap-requires : goal.unwrap-requires
unwrap-requires g c =
    let d = g.D.NumDomain.domain in
    let f = c.args.form.now in
    let o : OutcomeOf g.row.D.Denot = record { target = c.out.inside.target; pre = c.out.inside.pre; after = c.out.inside.after; posts = c.out.inside.posts } in
    let same : o ≡ c.args.out.now = c.out.view_is in
    let many : length o.after.cells ≡ length o.pre.cells = subst (λ (q : OutcomeOf g.row.D.Denot). length q.after.cells ≡ length q.pre.cells) (sym same) c.requires.count in
    let posts : ArePostsSmall (2 ^ 20) o.posts = subst (λ (q : OutcomeOf g.row.D.Denot). ArePostsSmall (2 ^ 20) q.posts) (sym same) c.requires.numbers in
    let k : SFits w128 c.constant.result = search rules in
    let m : SFits w128 c.add_after-gained.result = search rules in
    let number = to_z w128 (of_z w128 (to_z w128 (of_z w128 c.constant.result) +ℤ to_z w128 (of_z w128 c.add_after-gained.result))) in
    let ts : c.terms.result.now ≡ f.terms = c.terms.ensures.all in
    let gained : c.add_after-gained.result ≡ gains d no_links o.posts o.after f.terms =
    c.add_after-gained.ensures.gains ∙ ap₂ (λ (l : Regs (Option Link)) (us : List (Var × ℤ)). gains d l o.posts o.after us) c.no_links.ensures ts in
    let is : number ≡ f.constant +ℤ gains d no_links o.posts o.after f.terms = omega (arith, ints, k, m, gained, c.constant.ensures.value, c.constant.ensures.size, c.add_after-gained.ensures.size, c.terms.ensures.few) in
    let lines : linked (regs_of c.no_links.result) (moved o.posts c.terms.result.now) ≡ moved o.posts f.terms =
    ap₂ (λ (l : Regs (Option Link)) (us : List (Var × ℤ)). linked l (moved o.posts us)) c.no_links.ensures ts ∙ linked_none (moved o.posts f.terms) in
    let rates : c.add_after-gained.new.rates ≡ spread (moved o.posts f.terms) (replicate VARIABLES (pos 0)) = c.add_after-gained.ensures.rates ∙ ap₂ spread lines c.zeros-rates.ensures in
    let named : past (moved o.posts f.terms) ≤ VARIABLES = subst (λ (us : List (Var × ℤ)). past us ≤ VARIABLES) lines c.add_after-gained.ensures.named in
    let few : length f.terms ≤ 8 = subst (λ (us : List (Var × ℤ)). length us ≤ 8) ts c.terms.ensures.few in
    let made : c.form_of.result ≡ Some (merged (after d f o)) =
    c.form_of.ensures ∙ ap (λ (rs : List ℤ). form_of number (terms_from (rate_at rs) 0 VARIABLES)) rates
    ∙ after_form d g.met.D.NumDomain.laws f o number c.requires.constant c.requires.small few posts many (form_ascends f.constant f.terms c.terms.ensures.limits) named is in
    some_is c.form_of.result (merged (after d f o)) made

pub returns : goal.returns
returns g c =
    let d = g.D.NumDomain.domain in
    let f = c.args.form.now in
    let o : OutcomeOf g.row.D.Denot = record { target = c.out.inside.target; pre = c.out.inside.pre; after = c.out.inside.after; posts = c.out.inside.posts } in
    let same : o ≡ c.args.out.now = c.out.view_is in
    let many : length o.after.cells ≡ length o.pre.cells = subst (λ (q : OutcomeOf g.row.D.Denot). length q.after.cells ≡ length q.pre.cells) (sym same) c.requires.count in
    let posts : ArePostsSmall (2 ^ 20) o.posts = subst (λ (q : OutcomeOf g.row.D.Denot). ArePostsSmall (2 ^ 20) q.posts) (sym same) c.requires.numbers in
    let k : SFits w128 c.constant.result = search rules in
    let m : SFits w128 c.add_after-gained.result = search rules in
    let number = to_z w128 (of_z w128 (to_z w128 (of_z w128 c.constant.result) +ℤ to_z w128 (of_z w128 c.add_after-gained.result))) in
    let ts : c.terms.result.now ≡ f.terms = c.terms.ensures.all in
    let gained : c.add_after-gained.result ≡ gains d no_links o.posts o.after f.terms =
    c.add_after-gained.ensures.gains ∙ ap₂ (λ (l : Regs (Option Link)) (us : List (Var × ℤ)). gains d l o.posts o.after us) c.no_links.ensures ts in
    let is : number ≡ f.constant +ℤ gains d no_links o.posts o.after f.terms = omega (arith, ints, k, m, gained, c.constant.ensures.value, c.constant.ensures.size, c.add_after-gained.ensures.size, c.terms.ensures.few) in
    let lines : linked (regs_of c.no_links.result) (moved o.posts c.terms.result.now) ≡ moved o.posts f.terms =
    ap₂ (λ (l : Regs (Option Link)) (us : List (Var × ℤ)). linked l (moved o.posts us)) c.no_links.ensures ts ∙ linked_none (moved o.posts f.terms) in
    let rates : c.add_after-gained.new.rates ≡ spread (moved o.posts f.terms) (replicate VARIABLES (pos 0)) = c.add_after-gained.ensures.rates ∙ ap₂ spread lines c.zeros-rates.ensures in
    let named : past (moved o.posts f.terms) ≤ VARIABLES = subst (λ (us : List (Var × ℤ)). past us ≤ VARIABLES) lines c.add_after-gained.ensures.named in
    let few : length f.terms ≤ 8 = subst (λ (us : List (Var × ℤ)). length us ≤ 8) ts c.terms.ensures.few in
    let made : c.form_of.result ≡ Some (merged (after d f o)) =
    c.form_of.ensures ∙ ap (λ (rs : List ℤ). form_of number (terms_from (rate_at rs) 0 VARIABLES)) rates
    ∙ after_form d g.met.D.NumDomain.laws f o number c.requires.constant c.requires.small few posts many (form_ascends f.constant f.terms c.terms.ensures.limits) named is in
    same_Some c.unwrap.result (merged (after d f o)) (sym c.unwrap.ensures ∙ made) ∙ ap (λ q. merged (after d f q)) same
