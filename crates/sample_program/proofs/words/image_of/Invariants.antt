use Rattle.std.proofs.Common.{◌≡◌, take}
use Rattle.memory_plan.specs.Images.{numbers}
use Rattle.sample_program.specs.Samples.{placed}
use Rattle.sample_program.proofs.words.image_of.Given as goal

abbrev pub invariant-loop-i : goal.invariant-loop-i
invariant-loop-i l = l.image ≡ placed 0 (numbers (take l.i l.words))
