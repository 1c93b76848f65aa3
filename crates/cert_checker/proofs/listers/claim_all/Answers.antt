use Rattle.std.proofs.Common.{◌≡◌, ℕ, suc, ◌+◌, ◌<◌, List, length, take, sym, subst, arith}
use Rattle.std.specs.List.{AllByRecursion}
use Rattle.cert_format.specs.Certificates.{no_node}
use Rattle.cert_format.specs.Limits.{IsBelow, IsNode}
use Rattle.cert_checker.specs.Claiming.{AreListers}
use Rattle.cert_checker.proofs.Places.{one_of}
use Rattle.cert_checker.proofs.Listing.{one_more}
use Rattle.cert_checker.proofs.listers.claim_all.Goals as goal

pub loop-i-preserved : goal.loop-i-preserved
loop-i-preserved g c =
    let cert = c.args.cert.now in
    let i = c.loop-i.i in
    let low : i < length cert.nodes = omega (arith, c.loop-i-test.true, c.len-i-end.ensures.count) in
    let node = one_of (IsNode (length cert.cells) (length cert.nodes)) cert.nodes no_node i c.requires.limits.nodes low in
    let below : AllByRecursion (IsBelow (length cert.nodes)) c.succ.result.now =
    subst (λ (ss : List ℕ). AllByRecursion (IsBelow (length cert.nodes)) ss) (sym c.succ.ensures) node.succ in
    let more = one_more cert.nodes no_node i c.loop-i.listers c.claim.new.listers c.succ.result.now low c.loop-i.invariant c.succ.ensures below c.claim.ensures.claimed c.claim.ensures.count in
    let next : suc i ≡ i + 1 = omega arith in
    subst (λ (n : ℕ). AreListers (length cert.nodes) (take n cert.nodes) c.claim.new.listers) next more
