use Rattle.std.proofs.Common.{◌≡◌, false, take}
use Rattle.std.specs.List.{list_any}
use Rattle.cert_format.specs.Certificates.{is_bare}
use Rattle.cert_checker.proofs.filling.has_bare.Given as goal

abbrev pub invariant-loop-i : goal.invariant-loop-i
invariant-loop-i g l = list_any is_bare (take l.i l.cert.nodes) ≡ false
