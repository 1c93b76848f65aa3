use Rattle.std.proofs.Common.{◌≡◌, length}
use Rattle.cert_checker.proofs.MarkLaws.{AreOnTheWay}
use Rattle.cert_checker.proofs.marks.marks.Given as goal

abbrev pub invariant-loop-i : goal.invariant-loop-i
invariant-loop-i g l = record {
  len : length l.marks.items ≡ length l.cert.nodes;
  way : AreOnTheWay l.cert l.marks.items l.i;
}
