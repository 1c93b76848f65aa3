use Rattle.std.proofs.Common.{ℕ, ◌<◌, ◌≤◌, subst, sym, ◌∙◌}
use Rattle.cert_format.specs.Bare.{first_bare}
use Rattle.cert_format.proofs.MarkLaws.{goes_on, is_found, is_none}
use Rattle.cert_format.proofs.bare.first_bare.Goals as goal

pub returns-then-not-is_rightly_bare : goal.returns-then-not-is_rightly_bare
returns-then-not-is_rightly_bare c = is_found c.args.cert.now c.loop-i.i (first_bare c.args.cert.now) (subst (λ (n : ℕ). c.loop-i.i < n) c.len-i-end.ensures.count c.loop-i-test.true) (sym c.is_rightly_bare.ensures ∙ c.if-not-is_rightly_bare.true) c.loop-i.invariant

pub loop-i-preserved : goal.loop-i-preserved
loop-i-preserved c = goes_on c.args.cert.now c.loop-i.i (first_bare c.args.cert.now) (subst (λ (n : ℕ). c.loop-i.i < n) c.len-i-end.ensures.count c.loop-i-test.true) (sym c.is_rightly_bare.ensures ∙ c.if-not-is_rightly_bare.false) c.loop-i.invariant

pub returns : goal.returns
returns c = is_none c.args.cert.now c.loop-i.i (first_bare c.args.cert.now) (subst (λ (n : ℕ). n ≤ c.loop-i.i) c.len-i-end.ensures.count c.loop-i-test.false) c.loop-i.invariant
