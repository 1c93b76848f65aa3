use Rattle.std.proofs.Common.{◌≡◌}
use Rattle.std.specs.Prelude.{filter, take}
use Rattle.viper_word.specs.Words.{is_signed}
use Rattle.num_domain.proofs.thresholds.gathered.Given as goal

abbrev pub invariant-loop-n : goal.invariant-loop-n
invariant-loop-n l = l.kept.items ≡ filter is_signed (take l.n-index l.numbers)
