use Rattle.std.proofs.Common.{◌≡◌, length}
use Rattle.cert_format.proofs.MarkLaws.{AreOnTheWay}
use Rattle.cert_format.proofs.bare.marks_of.Given as goal

abbrev pub invariant-loop-i : goal.invariant-loop-i
invariant-loop-i l = record {
  len : length l.marks.items ≡ length l.cert.nodes;
  way : AreOnTheWay l.cert l.marks.items l.i;
}
