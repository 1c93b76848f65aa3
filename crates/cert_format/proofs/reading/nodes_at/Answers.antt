use Rattle.std.proofs.Common.{◌≡◌, [], ◌∙◌, ◌+◌, ap, sym, subst, ℕ, List, length, Ok}
use Rattle.std.proofs.lemmas.Result.{err_from_is_err_and}
use Rattle.val_dom.specs.declared.val.Val.{Val}
use Rattle.cert_format.specs.Certificates.{CertificateOf}
use Rattle.cert_format.specs.Reading.{Fails, many_at}
use Rattle.cert_format.specs.ReadNodes.{placed, placed_at}
use Rattle.cert_format.specs.ReadCerts.{gathered}
use Rattle.cert_format.proofs.NodeLoops.{nodes_go_on, nodes_end, nodes_done, one_longer}
use Rattle.cert_format.proofs.reading.nodes_at.Goals as goal

pub returns-in_err-node : goal.returns-in_err-node
returns-in_err-node c =
    let one = placed_at c.args.version (length c.args.cert.now.cells) c.args.count in
    let p = err_from_is_err_and c.from_residual.result c.from_residual.ensures.1 in
    let at = subst (λ (cs : List ℕ). Fails c.in_err-node.field-0.0 (placed_at c.args.version (length cs) c.args.count c.loop.input)) c.cells.ensures c.in_err-node.ensures.value in
    rw (p.1, p.2) (nodes_end one c.in_err-node.field-0.0 c.loop.cert c.loop.lefts.items c.args.count c.loop.counter c.loop.input (gathered c.args.cert.now [] (many_at one c.args.count c.args.input.now)) c.loop-test.true at c.loop.invariant.total)

pub loop-preserved : goal.loop-preserved
loop-preserved c =
    let one = placed_at c.args.version (length c.args.cert.now.cells) c.args.count in
    let n = placed c.in_ok-node.node in
    let at : one c.loop.input ≡ Ok (n, c.node_at.new.input) = ap (λ (cs : List ℕ). placed_at c.args.version (length cs) c.args.count c.loop.input) (sym c.cells.ensures) ∙ c.in_ok-node.ensures.value in
    record {
      total = rw (c.in_ok-add.ensures, c.in_ok-push.ensures.items) (nodes_go_on one c.loop.cert c.loop.lefts.items c.args.count c.loop.counter c.loop.input n c.node_at.new.input (gathered c.args.cert.now [] (many_at one c.args.count c.args.input.now)) c.loop-test.true at c.loop.invariant.total);
      room = ap (λ (d : CertificateOf Val). length d.nodes) c.in_ok-add.ensures ∙ one_longer c.loop.cert.nodes n.node ∙ ap (λ (k : ℕ). k + 1) c.loop.invariant.room;
      cells = ap (λ (d : CertificateOf Val). d.cells) c.in_ok-add.ensures ∙ c.loop.invariant.cells;
    }

pub returns : goal.returns
returns c =
    let one = placed_at c.args.version (length c.args.cert.now.cells) c.args.count in
    nodes_done one c.loop.cert c.loop.lefts.items c.args.count c.loop.counter c.loop.input (gathered c.args.cert.now [] (many_at one c.args.count c.args.input.now)) c.loop-test.false c.loop.invariant.total
