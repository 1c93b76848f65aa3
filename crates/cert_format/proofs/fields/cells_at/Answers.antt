use Rattle.std.proofs.Common.{◌≡◌, ◌++◌, ◌∷◌, []}
use Rattle.std.proofs.lemmas.Result.{err_from_is_err_and}
use Rattle.cert_format.specs.Fields.{cells_at}
use Rattle.cert_format.proofs.Loops.{cells_go_on, cells_end, cells_done}
use Rattle.cert_format.proofs.fields.cells_at.Goals as goal

pub returns-in_err-addr : goal.returns-in_err-addr
returns-in_err-addr c =
    let p = err_from_is_err_and c.from_residual.result c.from_residual.ensures.1 in
    rw (p.1, p.2) (cells_end c.in_err-addr.field-0.0 c.loop.found.items c.args.count c.loop.counter c.loop.from c.loop.input (cells_at 0 c.args.count c.args.input.now) c.loop-test.true c.in_err-addr.ensures c.loop.invariant)

pub loop-preserved : goal.loop-preserved
loop-preserved c =
    let n = c.in_ok-addr.addr in
    let e : c.push.new.self.items ≡ c.loop.found.items ++ n ∷ [] = c.in_ok-push.ensures.items in
    rw (e, c.get-from.ensures.number) (cells_go_on c.loop.found.items c.args.count c.loop.counter c.loop.from c.loop.input n c.cell_at.new.input (cells_at 0 c.args.count c.args.input.now) c.loop-test.true c.in_ok-addr.ensures c.loop.invariant)

pub returns : goal.returns
returns c = cells_done c.loop.found.items c.args.count c.loop.counter c.loop.from c.loop.input (cells_at 0 c.args.count c.args.input.now) c.loop-test.false c.loop.invariant
