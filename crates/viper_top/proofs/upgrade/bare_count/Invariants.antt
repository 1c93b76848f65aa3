use Rattle.std.proofs.Common.{◌≡◌, ◌≤◌, take}
use Rattle.std.specs.Prelude.{count_by}
use Rattle.cert_format.specs.Certificates.{is_bare}
use Rattle.viper_top.proofs.upgrade.bare_count.Given as goal

abbrev pub invariant-loop-i : goal.invariant-loop-i
invariant-loop-i l = record {
  bare : l.count ≡ count_by is_bare (take l.i l.cert.nodes);
  small : l.count ≤ l.i;
}
