use Rattle.std.proofs.Common.{◌≡◌, ◌-◌}
use Rattle.cert_format.specs.Fields.{cells_at}
use Rattle.cert_format.proofs.Loops.{with_front}
use Rattle.cert_format.proofs.fields.cells_at.Given as goal

abbrev pub invariant-loop : goal.invariant-loop
invariant-loop l = with_front l.found.items (cells_at l.from (l.count - l.counter) l.input) ≡ cells_at 0 l.count l.fn.input
