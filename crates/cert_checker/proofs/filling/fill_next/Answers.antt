use Rattle.std.proofs.Common.{ℕ, ◌<◌, IfSome, sym, subst, arith}
use Rattle.cert_checker.proofs.Filled.{count_filled, full_filled}
use Rattle.cert_checker.proofs.filling.fill_next.Goals as goal

pub fill_fact-requires-clause-full : goal.fill_fact-requires-clause-full
fill_fact-requires-clause-full g c = full_filled g.D.NumDomain.domain c.args.plan.now c.args.cert.now _ c.args.i c.requires.done

pub fill_fact-requires-clause-before : goal.fill_fact-requires-clause-before
fill_fact-requires-clause-before g c =
    subst (λ (n : ℕ). IfSome c.args.first (λ j. j < n)) (sym (count_filled g.D.NumDomain.domain c.args.plan.now c.args.cert.now _ c.args.i c.requires.done)) c.requires.before

pub push_known-requires-clause-room : goal.push_known-requires-clause-room
push_known-requires-clause-room g c =
    let count = count_filled g.D.NumDomain.domain c.args.plan.now c.args.cert.now _ c.args.i c.requires.done in
    omega (arith, count, c.requires.node, c.requires.limits.few_nodes)
