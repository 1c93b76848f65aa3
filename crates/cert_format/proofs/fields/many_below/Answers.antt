use Rattle.std.proofs.Common.{◌≡◌, ◌++◌, ◌∷◌, []}
use Rattle.std.proofs.lemmas.Result.{err_from_is_err_and}
use Rattle.cert_format.specs.Reading.{many_at}
use Rattle.cert_format.specs.Fields.{below_at}
use Rattle.cert_format.proofs.Loops.{goes_on, ends, is_done}
use Rattle.cert_format.proofs.fields.many_below.Goals as goal

pub returns-in_err-below_at : goal.returns-in_err-below_at
returns-in_err-below_at c =
    let p = err_from_is_err_and c.from_residual.result c.from_residual.ensures.1 in
    rw (p.1, p.2) (ends (below_at c.args.limit) c.in_err-below_at.field-0.0 c.loop.found.items c.args.count c.loop.counter c.loop.input (many_at (below_at c.args.limit) c.args.count c.args.input.now) c.loop-test.true c.in_err-below_at.ensures c.loop.invariant)

pub loop-preserved : goal.loop-preserved
loop-preserved c =
    let n = c.in_ok-below_at.field-0 in
    let e : c.push.new.self.items ≡ c.loop.found.items ++ n ∷ [] = c.in_ok-push.ensures.items in
    rw e (goes_on (below_at c.args.limit) c.loop.found.items c.args.count c.loop.counter c.loop.input n c.below_at.new.input (many_at (below_at c.args.limit) c.args.count c.args.input.now) c.loop-test.true c.in_ok-below_at.ensures c.loop.invariant)

pub returns : goal.returns
returns c = is_done (below_at c.args.limit) c.loop.found.items c.args.count c.loop.counter c.loop.input (many_at (below_at c.args.limit) c.args.count c.args.input.now) c.loop-test.false c.loop.invariant
