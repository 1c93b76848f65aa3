use Rattle.std.proofs.Common.{◌≡◌, map, take}
use Rattle.rank_numbers.specs.Levels.{levels_of}
use Rattle.rank_nest.specs.Told.{told, told_of}
use Rattle.rank_nest.proofs.telling.nest_of.Given as goal

abbrev pub invariant-loop-level : goal.invariant-loop-level
invariant-loop-level l = map told_of l.tells.items ≡ map told (levels_of (take l.level-index l.levels))
