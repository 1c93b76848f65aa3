use Rattle.std.proofs.Common.{ℕ, ◌≤◌, sym, subst, ◌∙◌}
use Rattle.cert_format.specs.Bare.{AreRightlyBare}
use Rattle.cert_format.specs.Certificates.{CertificateOf}
use Rattle.cert_format.specs.Limits.{IsWithinLimits}
use Rattle.cert_checker.proofs.Packed.{packed_all, packed_within, packed_rightly}
use Rattle.cert_checker.proofs.packing.pack.Goals as goal

pub returns-clause-packed : goal.returns-clause-packed
returns-clause-packed g c =
    c.loop-i.invariant.done
    ∙ packed_all g.D.NumDomain.domain c.args.plan.now c.args.cert.now c.loop-i.i (subst (λ (n : ℕ). n ≤ c.loop-i.i) c.len-i-end.ensures.count c.loop-i-test.false)

pub returns-clause-limits : goal.returns-clause-limits
returns-clause-limits g c =
    let d = g.D.NumDomain.domain in
    let is = returns-clause-packed g c in
    subst (λ (e : CertificateOf _). IsWithinLimits e) (sym is) (packed_within d c.args.plan.now c.args.cert.now c.requires.judged.limits)

pub returns-clause-bare : goal.returns-clause-bare
returns-clause-bare g c =
    let d = g.D.NumDomain.domain in
    let is = returns-clause-packed g c in
    subst (λ (e : CertificateOf _). AreRightlyBare e) (sym is) (packed_rightly d c.args.plan.now c.args.cert.now c.requires.judged.full)
