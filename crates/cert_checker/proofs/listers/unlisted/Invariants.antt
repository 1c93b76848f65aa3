use Rattle.std.proofs.Common.{◌≡◌, replicate, None}
use Rattle.cert_checker.proofs.listers.unlisted.Given as goal

abbrev pub invariant-loop : goal.invariant-loop
invariant-loop l = l.listers.items ≡ replicate l.counter None
