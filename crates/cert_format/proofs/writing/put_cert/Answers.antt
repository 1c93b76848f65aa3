use Rattle.cert_format.proofs.WriteLaws.{nodes_are_short}
use Rattle.cert_format.proofs.writing.put_cert.Goals as goal

pub put_nodes-requires : goal.put_nodes-requires
put_nodes-requires c = nodes_are_short c.args.cert.now c.requires
