use Rattle.std.proofs.Common.{◌≡◌, suc, ◌+◌, length, take, ap, ◌∙◌, arith}
use Rattle.std.proofs.lemmas.List.{length-take-le}
use Rattle.flag_relation.specs.Forms.{FormOf}
use Rattle.cert_format.specs.Certificates.{CertificateOf, with_node}
use Rattle.rank_nest.specs.Graph.{node_at}
use Rattle.certifier.specs.Made.{rank_of, cert_node, cert_nodes, start_numbers}
use Rattle.certifier.proofs.NextNodes.{nodes_length, next_node, own_rank}
use Rattle.certifier.proofs.making.made.Goals as goal

pub push_node-requires-clause-room : goal.push_node-requires-clause-room
push_node-requires-clause-room g c =
    let nodes = c.args.solved.now.nodes in
    let count : length c.loop-i.cert.nodes ≡ length (cert_nodes c.args.ranks.now 0 (take c.loop-i.i nodes)) = ap (λ (e : CertificateOf _). length e.nodes) c.loop-i.invariant in
    let long = nodes_length c.args.ranks.now 0 (take c.loop-i.i nodes) in
    let end = c.len-i-end.ensures in
    let low = c.loop-i-test.true in
    let few = c.requires.few in
    let taken = length-take-le c.loop-i.i nodes (omega (arith, end, low)) in
    omega (arith, count, long, end, low, few, taken)

pub loop-i-preserved : goal.loop-i-preserved
loop-i-preserved g c =
    let d = g.D.NumDomain.domain in
    let ranks = c.args.ranks.now in
    let nodes = c.args.solved.now.nodes in
    let i = c.loop-i.i in
    let end = c.len-i-end.ensures in
    let low = c.loop-i-test.true in
    let long = c.requires.ranks in
    let next : i + 1 ≡ suc i = omega arith in
    let rank : c.index-ranks-i.result ≡ rank_of ranks i = own_rank ranks i c.index-ranks-i.result (omega (arith, end, low, long)) c.index-ranks-i.is in
    c.in_ok-push_node.ensures
    ∙ ap (λ (f : FormOf). with_node c.loop-i.cert (cert_node (node_at d nodes i) f)) rank
    ∙ ap (λ (e : CertificateOf _). with_node e (cert_node (node_at d nodes i) (rank_of ranks i))) c.loop-i.invariant
    ∙ ap (λ ns. record { cells = c.args.solved.now.cells; starts = start_numbers nodes c.args.plan.now.starts; nodes = ns }) (next_node ranks d nodes i (i + 1) (omega (arith, end, low)) next)
