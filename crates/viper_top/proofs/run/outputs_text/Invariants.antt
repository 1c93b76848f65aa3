use Rattle.std.proofs.Common.{◌≡◌, take}
use Rattle.std.specs.List.{flat_map}
use Rattle.viper_top.specs.Run.{output_line}
use Rattle.viper_top.proofs.run.outputs_text.Given as goal

abbrev pub invariant-loop-step : goal.invariant-loop-step
invariant-loop-step l = l.text ≡ flat_map output_line (take l.step-index l.outputs)
