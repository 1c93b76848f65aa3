use Rattle.std.proofs.Common.{◌≡◌, ℕ, ◌≤◌, length, subst, arith}
use Rattle.cert_checker.proofs.Filled.{is_filled, judged_filled}
use Rattle.cert_checker.proofs.filling.fill.Goals as goal

pub returns-clause-filled : goal.returns-clause-filled
returns-clause-filled g c =
    let over : length c.args.cert.now.nodes ≤ c.loop-i.i = subst (λ (n : ℕ). n ≤ c.loop-i.i) c.len-i-end.ensures.count c.loop-i-test.false in
    let same : c.loop-i.i ≡ length c.args.cert.now.nodes = omega (arith, over, c.loop-i.invariant.within) in
    is_filled g.D.NumDomain.domain c.args.plan.now c.args.cert.now _ c.loop-i.i same c.loop-i.invariant.done

pub returns-clause-judged : goal.returns-clause-judged
returns-clause-judged g c =
    let over : length c.args.cert.now.nodes ≤ c.loop-i.i = subst (λ (n : ℕ). n ≤ c.loop-i.i) c.len-i-end.ensures.count c.loop-i-test.false in
    let same : c.loop-i.i ≡ length c.args.cert.now.nodes = omega (arith, over, c.loop-i.invariant.within) in
    judged_filled g.D.NumDomain.domain c.args.plan.now c.args.cert.now _ (is_filled g.D.NumDomain.domain c.args.plan.now c.args.cert.now _ c.loop-i.i same c.loop-i.invariant.done) c.requires.limits c.len.ensures.limits
