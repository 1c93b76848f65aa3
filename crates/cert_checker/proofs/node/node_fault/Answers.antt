use Rattle.std.proofs.Common.{◌∙◌}
use Rattle.cert_format.specs.Certificates.{node_at}
use Rattle.cert_checker.proofs.Nodes.{node_fault_is}
use Rattle.cert_checker.proofs.node.node_fault.Goals as goal

pub returns-clause-fault : goal.returns-clause-fault
returns-clause-fault g c =
    c.flow_fault.ensures
    ∙ node_fault_is g.D.NumDomain.domain c.args.plan.now c.args.cert.now.cells (λ _. c.args.price) c.args.cert.now.nodes (node_at c.args.cert.now c.args.node)
    c.cells.result.now c.addr.result c.known.result.now c.outcomes_in.result.now c.cells.ensures c.addr.ensures c.known.ensures.fact
    c.in_default.ensures.fault (c.outcomes_in.ensures.outcomes ∙ c.in_default.ensures.outcomes)
