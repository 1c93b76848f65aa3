use Rattle.std.proofs.Common.{◌≡◌, ◌-◌}
use Rattle.cert_format.specs.Reading.{many_at}
use Rattle.cert_format.specs.Fields.{below_at}
use Rattle.cert_format.proofs.Loops.{with_front}
use Rattle.cert_format.proofs.fields.many_below.Given as goal

abbrev pub invariant-loop : goal.invariant-loop
invariant-loop l = with_front l.found.items (many_at (below_at l.limit) (l.count - l.counter) l.input) ≡ many_at (below_at l.limit) l.count l.fn.input
