use Rattle.std.proofs.Common.{◌≡◌}
use Rattle.memory_plan.specs.Images.{numbers}
use Rattle.sample_program.specs.Samples.{loops_words}
use Rattle.sample_program.proofs.words.sample_words.Given as goal

abbrev pub invariant-loop-i : goal.invariant-loop-i
invariant-loop-i l = numbers l.words.items ≡ loops_words l.procedure l.i
