use Rattle.rank_nest.proofs.EndLaws.{tellable_get}
use Rattle.rank_nest.proofs.telling.nest_of.Goals as goal

pub told_level-requires : goal.told_level-requires
told_level-requires c = tellable_get c.args.levels.now c.loop-level.level-index c.level-item.result c.requires c.loop-level-test.true c.level-item.is
