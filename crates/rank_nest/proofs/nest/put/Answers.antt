-- The list at that place gets one more edge.
use Rattle.rank_shape.proofs.Sorting.{put_at}
use Rattle.rank_nest.proofs.nest.put.Goals as goal

pub returns-clause-put : goal.returns-clause-put
returns-clause-put c = put_at c.args.lists.now.items c.args.place c.index_mut.result.now c.push.new.self c.args.edge c.requires c.index_mut.ensures.value c.in_ok-push.ensures.items
