use Rattle.std.proofs.Common.{◌≡◌, drop}
use Rattle.cert_checker.specs.Verdicts.{first_of, cell_refusal}
use Rattle.cert_checker.proofs.failures.first_cell.Given as goal

abbrev pub invariant-loop-i : goal.invariant-loop-i
invariant-loop-i l = first_of (cell_refusal l.plan) l.i (drop l.i l.cells) ≡ first_of (cell_refusal l.plan) 0 l.cells
