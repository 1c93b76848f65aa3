use Rattle.viper_top.proofs.OneEnding.{one_ending}
use Rattle.viper_top.proofs.laws.endings_are_determined.Goals as goal

pub returns : goal.returns
returns c = one_ending
