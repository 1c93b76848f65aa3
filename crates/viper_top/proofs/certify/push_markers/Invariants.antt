use Rattle.std.proofs.Common.{◌≡◌, ◌++◌, drop}
use Rattle.std.specs.List.{flat_map}
use Rattle.viper_top.specs.Texts.{marker_line}
use Rattle.viper_top.proofs.certify.push_markers.Given as goal

abbrev pub invariant-loop-marker : goal.invariant-loop-marker
invariant-loop-marker l = l.text ++ flat_map marker_line (drop l.marker-index l.bounds) ≡ l.fn.text ++ flat_map marker_line l.bounds
