use Rattle.std.proofs.Common.{◌≡◌, ◌++◌, ◌∷◌, []}
use Rattle.std.proofs.lemmas.Result.{err_from_is_err_and}
use Rattle.cert_format.specs.Fields.{terms_at}
use Rattle.cert_format.proofs.Loops.{terms_go_on, terms_end, terms_done}
use Rattle.cert_format.proofs.read_ranks.terms_at.Goals as goal

pub returns-in_err-term : goal.returns-in_err-term
returns-in_err-term c =
    let p = err_from_is_err_and c.from_residual.result c.from_residual.ensures.1 in
    rw (p.1, p.2) (terms_end c.args.cells c.in_err-term.field-0.0 c.loop.found.items c.args.count c.loop.counter c.loop.from c.loop.input (terms_at c.args.cells 0 c.args.count c.args.input.now) c.loop-test.true c.in_err-term.ensures c.loop.invariant)

pub loop-preserved : goal.loop-preserved
loop-preserved c =
    let n = c.in_ok-term.term in
    let e : c.push.new.self.items ≡ c.loop.found.items ++ n ∷ [] = c.in_ok-push.ensures.items in
    rw (e, c.number_of-number.ensures) (terms_go_on c.args.cells c.loop.found.items c.args.count c.loop.counter c.loop.from c.loop.input n c.term_at.new.input (terms_at c.args.cells 0 c.args.count c.args.input.now) c.loop-test.true c.in_ok-term.ensures c.loop.invariant)

pub returns : goal.returns
returns c = terms_done c.args.cells c.loop.found.items c.args.count c.loop.counter c.loop.from c.loop.input (terms_at c.args.cells 0 c.args.count c.args.input.now) c.loop-test.false c.loop.invariant
