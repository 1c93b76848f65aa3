use Rattle.std.proofs.Common.{◌≤◌, length, arith}
use Rattle.cert_checker.proofs.Packed.{one_more_packed, count_packed}
use Rattle.cert_checker.proofs.packing.pack_next.Goals as goal

pub push_packed-requires-clause-room : goal.push_packed-requires-clause-room
push_packed-requires-clause-room g c =
    let low : c.args.i ≤ length c.args.cert.now.nodes = omega (arith, c.requires.node) in
    let count = count_packed g.D.NumDomain.domain c.args.plan.now c.args.cert.now _ c.args.i low c.requires.done in
    omega (arith, count, c.requires.node, c.requires.judged.limits.few_nodes)

pub returns : goal.returns
returns g c =
    one_more_packed g.D.NumDomain.domain c.args.plan.now c.args.cert.now _ _ c.args.i c.args.bare c.requires.node c.requires.done c.requires.bare
    c.in_ok-push_packed.ensures
