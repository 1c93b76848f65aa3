use Rattle.std.proofs.Common.{◌≡◌, IfOk, sym, subst, ◌∙◌}
use Rattle.cert_format.specs.Certificates.{CertificateOf}
use Rattle.cert_checker.specs.Verdicts.{verdict_of, verdict_view}
use Rattle.cert_checker.proofs.Filled.{none_bare, filled_full}
use Rattle.cert_checker.proofs.checking.check.Goals as goal

pub check_full-requires-else-has_bare : goal.check_full-requires-else-has_bare
check_full-requires-else-has_bare g c = record {
  judged = record {
    limits = c.requires.limits;
    full = none_bare c.args.cert.now.nodes (sym c.has_bare.ensures ∙ c.if-has_bare.false);
  };
}

pub returns-in_ok-full : goal.returns-in_ok-full
returns-in_ok-full g c =
    subst (λ (e : CertificateOf _). IfOk c.check_full.result (λ v. verdict_view v ≡ verdict_of g.D.NumDomain.domain c.args.plan.now (λ _. 1) e)) c.in_ok-full.ensures.filled c.check_full.ensures

pub returns-else-has_bare : goal.returns-else-has_bare
returns-else-has_bare g c =
    let full = none_bare c.args.cert.now.nodes (sym c.has_bare.ensures ∙ c.if-has_bare.false) in
    subst (λ (e : CertificateOf _). IfOk c.check_full-else-has_bare.result (λ v. verdict_view v ≡ verdict_of g.D.NumDomain.domain c.args.plan.now (λ _. 1) e))
    (sym (filled_full g.D.NumDomain.domain c.args.plan.now c.args.cert.now full)) c.check_full-else-has_bare.ensures
