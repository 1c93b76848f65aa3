use Rattle.std.proofs.Common.{◌≡◌, ℕ, List, ◌++◌, Ok, None, map, sym, ap, subst, ◌∙◌}
use Rattle.std.specs.List.{AllByRecursion}
use Rattle.rank_form.proofs.RankLaws.{form_laws}
use Rattle.cert_checker.specs.Small.{AreSmallAt}
use Rattle.cert_checker.specs.Verdicts.{bound_at, first_failure}
use Rattle.cert_checker.specs.declared.verdict.Bound.{Bound}
use Rattle.cert_checker.proofs.Fits.{bounds_fit, yes_is}
use Rattle.cert_checker.proofs.checking.check_full.Goals as goal

pub push_bounds-requires-clause-small : goal.push_bounds-requires-clause-small
push_bounds-requires-clause-small g c =
    let d = g.D.NumDomain.domain in
    let cert = c.args.cert.now in
    let none : first_failure d c.args.plan.now (λ _. c.args.price) cert ≡ None = sym c.first_failure.ensures ∙ c.in_default-first_failure.is in
    subst (λ (ms : List ℕ). AllByRecursion (AreSmallAt d cert.cells cert.nodes) ms) (sym c.markers-2.ensures)
    (bounds_fit d c.args.plan.now (λ _. c.args.price) cert (form_laws d g.met.D.NumDomain.laws) none)

pub returns : goal.returns
returns g c =
    let d = g.D.NumDomain.domain in
    let cert = c.args.cert.now in
    let none : first_failure d c.args.plan.now (λ _. c.args.price) cert ≡ None = sym c.first_failure.ensures ∙ c.in_default-first_failure.is in
    let marked : List ℕ → List (ℕ × Bound) = λ ms. map (λ m. (m, bound_at d cert.cells m cert.nodes)) ms in
    ap Ok (c.in_ok-push_bounds.ensures
    ∙ ap (λ (bs : List (ℕ × Bound)). bs ++ marked c.markers-2.result.now) c.in-Ok.ensures.items
    ∙ ap marked c.markers-2.ensures)
    ∙ yes_is d c.args.plan.now (λ _. c.args.price) cert (form_laws d g.met.D.NumDomain.laws) none
