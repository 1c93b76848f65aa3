use Rattle.viper_top.specs.Run.{end_words}
use Rattle.viper_top.proofs.run.push_end.Goals as goal

pub returns-in-OutOfRange : goal.returns-in-OutOfRange
unfolding end_words
returns-in-OutOfRange c = rw c.in-OutOfRange.is c.push_answer.ensures
