use Rattle.std.proofs.Common.{◌∙◌}
use Rattle.std.proofs.lemmas.Result.{err_from_is_err_and}
use Rattle.fix_solver.proofs.SolveLemmas.{few_cells}
use Rattle.fix_solver.proofs.solver.solve.Goals as goal

pub least_over-requires : goal.least_over-requires
least_over-requires g c = few_cells c.args.plan.now c.as_slice.result.now (c.as_slice.ensures.value ∙ c.in_ok-cells.ensures)

pub returns-in_err-found-clause-complete : goal.returns-in_err-found-clause-complete
returns-in_err-found-clause-complete g c = λ m ks s h few.
    let p = err_from_is_err_and c.from_residual-in_err-found.result c.from_residual-in_err-found.ensures.1 in
    rw (p.1, p.2) ((rw (c.as_slice.ensures.value, c.in_ok-cells.ensures, c.in_ok-thresholds.ensures) at c.in_err-found.ensures.complete) m ks s h few)
