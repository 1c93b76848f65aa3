use Rattle.std.proofs.Common.{◌≡◌, ◌-◌}
use Rattle.cert_format.specs.Fields.{terms_at}
use Rattle.cert_format.proofs.Loops.{with_front}
use Rattle.cert_format.proofs.read_ranks.terms_at.Given as goal

abbrev pub invariant-loop : goal.invariant-loop
invariant-loop l = with_front l.found.items (terms_at l.cells l.from (l.count - l.counter) l.input) ≡ terms_at l.cells 0 l.count l.fn.input
