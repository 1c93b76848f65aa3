use Rattle.std.proofs.Common.{◌≡◌, map, take}
use Rattle.rank_nest.specs.Told.{keys_at}
use Rattle.rank_nest.proofs.telling.pairs_of.Given as goal

abbrev pub invariant-loop-pair : goal.invariant-loop-pair
invariant-loop-pair g l = l.pairs.items ≡ map (keys_at g.D.NumDomain.domain l.solved.nodes) (take l.pair-index l.pair-items)
