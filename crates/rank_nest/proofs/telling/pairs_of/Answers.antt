use Rattle.std.proofs.Common.{◌<◌, subst, sym, length, get_or, List}
use Rattle.rank_nest.specs.declared.telling.Ends.{Ends}
use Rattle.rank_nest.proofs.EndLaws.{ends_below}
use Rattle.rank_nest.proofs.telling.pairs_of.Goals as goal

pub key-requires : goal.key-requires
key-requires g c =
    let ns = c.args.solved.now.nodes in
    let z : Ends = record { from = 0; to = 0 } in
    let items = c.as_slice-pair-items.ensures.value in
    let below = ends_below (length ns) c.args.edges.now c.in_ok-ends.ends.items c.loop-pair.pair-index z c.in_ok-ends.ensures c.requires (subst (λ (l : List Ends). c.loop-pair.pair-index < length l) items c.loop-pair-test.true) in
    subst (λ (l : List Ends). (get_or l c.loop-pair.pair-index z).from < length ns) (sym items) below.0

pub key-requires-in-loop-pair : goal.key-requires-in-loop-pair
key-requires-in-loop-pair g c =
    let ns = c.args.solved.now.nodes in
    let z : Ends = record { from = 0; to = 0 } in
    let items = c.as_slice-pair-items.ensures.value in
    let below = ends_below (length ns) c.args.edges.now c.in_ok-ends.ends.items c.loop-pair.pair-index z c.in_ok-ends.ensures c.requires (subst (λ (l : List Ends). c.loop-pair.pair-index < length l) items c.loop-pair-test.true) in
    subst (λ (l : List Ends). (get_or l c.loop-pair.pair-index z).to < length ns) (sym items) below.1
