use Rattle.std.proofs.Common.{◌≡◌, drop}
use Rattle.cert_format.specs.Bare.{first_bare, first_bare_from}
use Rattle.cert_format.proofs.bare.first_bare.Given as goal

abbrev pub invariant-loop-i : goal.invariant-loop-i
invariant-loop-i l = first_bare_from l.cert l.i (drop l.i l.cert.nodes) ≡ first_bare l.cert
