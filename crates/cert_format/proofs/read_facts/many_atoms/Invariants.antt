use Rattle.std.proofs.Common.{◌≡◌, ◌-◌}
use Rattle.cert_format.specs.Reading.{many_at}
use Rattle.cert_format.specs.Fields.{atom_at}
use Rattle.cert_format.proofs.Loops.{with_front}
use Rattle.cert_format.proofs.read_facts.many_atoms.Given as goal

abbrev pub invariant-loop : goal.invariant-loop
invariant-loop l = with_front l.found.items (many_at (atom_at l.cells) (l.count - l.counter) l.input) ≡ many_at (atom_at l.cells) l.count l.fn.input
