use Rattle.std.proofs.Common.{◌≡◌, ◌++◌, take}
use Rattle.std.specs.Prelude.{codes}
use Rattle.std.specs.List.{flat_map}
use Rattle.viper_top.specs.Texts.{marker_line}
use Rattle.viper_top.proofs.texts.yes_text.Given as goal

abbrev pub invariant-loop-marker : goal.invariant-loop-marker
invariant-loop-marker l = l.text ≡ codes "yes\n" ++ flat_map marker_line (take l.marker-index l.bounds)
