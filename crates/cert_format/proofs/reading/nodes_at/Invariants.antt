use Rattle.std.proofs.Common.{◌≡◌, ◌-◌, [], length}
use Rattle.cert_format.specs.Reading.{many_at}
use Rattle.cert_format.specs.ReadNodes.{placed_at}
use Rattle.cert_format.specs.ReadCerts.{gathered}
use Rattle.cert_format.proofs.reading.nodes_at.Given as goal

abbrev pub invariant-loop : goal.invariant-loop
invariant-loop l = record {
  total : gathered l.cert l.lefts.items (many_at (placed_at l.version (length l.fn.cert.cells) l.count) (l.count - l.counter) l.input) ≡ gathered l.fn.cert [] (many_at (placed_at l.version (length l.fn.cert.cells) l.count) l.count l.fn.input);
  room : length l.cert.nodes ≡ l.counter;
  cells : l.cert.cells ≡ l.fn.cert.cells;
}
