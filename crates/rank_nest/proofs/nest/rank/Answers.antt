use Rattle.std.proofs.Common.{◌≡◌, ◌<◌, arith, ap, sym, subst, ◌∙◌, length, ℕ, List}
use Rattle.std.specs.List.{All, AllPairs}
use Rattle.strong_components.specs.declared.edge.Edge.{Edge}
use Rattle.strong_components.specs.Steps.{BySource}
use Rattle.rank_shape.specs.Places.{EndsIn}
use Rattle.rank_shape.specs.Nests.{IsFirstStuck}
use Rattle.rank_nest.specs.Graph.{graph}
use Rattle.rank_nest.specs.Ranks.{keys_below, IsRankFault}
use Rattle.rank_nest.proofs.FaultLaws.{if_memory}
use Rattle.rank_nest.specs.Ready.{IsLeast}
use Rattle.rank_nest.proofs.GraphLaws.{keys_ascend, keys_all, by_source, ends_in, stuck_below}
use Rattle.rank_nest.proofs.Moving.{moves_are}
use Rattle.rank_nest.proofs.FreshLaws.{fresh_take, fresh_append, fresh_drop}
use Rattle.rank_shape.specs.Nests.{HasNest}
use Rattle.rank_shape.specs.Stuck.{never}
use Rattle.rank_shape.proofs.Theory.{first_is_stuck, first_never}
use Rattle.rank_nest.specs.Told.{AreTold}
use Rattle.rank_nest.proofs.Solution.{few_cells}
use Rattle.rank_nest.proofs.nest.rank.Goals as goal

pub overflow_cast-cells : goal.overflow_cast-cells
overflow_cast-cells g c =
    let few = few_cells c.args.plan.now c.args.solved.now.cells c.requires.cells in
    omega (arith, ap length c.cells.ensures)

pub new-requires-2 : goal.new-requires-2
new-requires-2 g c =
    let few = few_cells c.args.plan.now c.args.solved.now.cells c.requires.cells in
    omega (arith, ap length c.cells.ensures)

pub first_stuck-requires-clause-ascend : goal.first_stuck-requires-clause-ascend
first_stuck-requires-clause-ascend g c =
    let keys = c.deref.ensures.value ∙ c.in_ok-room.ensures.keys in
    subst (λ (l : List ℕ). AllPairs (λ a b. a < b) l) (sym keys) (keys_ascend c.len-2.result)

pub first_stuck-requires-clause-keys : goal.first_stuck-requires-clause-keys
first_stuck-requires-clause-keys g c =
    let keys = c.deref.ensures.value ∙ c.in_ok-room.ensures.keys in
    let marks : length c.deref_mut.result.now ≡ c.len-2.result = ap length c.deref_mut.ensures.value ∙ c.in_ok-room.ensures.marks in
    subst (λ (m : ℕ). All (λ k. k < m) c.deref.result.now) (sym marks) (subst (λ (l : List ℕ). All (λ k. k < c.len-2.result) l) (sym keys) (keys_all c.len-2.result))

pub first_stuck-requires-clause-by_source : goal.first_stuck-requires-clause-by_source
first_stuck-requires-clause-by_source g c =
    let edges = c.edges-edges.ensures ∙ c.in_ok-graph.ensures.built.edges in
    subst (λ (es : List Edge). BySource es) (sym edges) (by_source g.D.NumDomain.domain c.args.plan.now c.args.solved.now.cells c.args.solved.now.nodes)

pub first_stuck-requires-clause-ends : goal.first_stuck-requires-clause-ends
first_stuck-requires-clause-ends g c =
    let d = g.D.NumDomain.domain in
    let ns = c.args.solved.now.nodes in
    let edges = c.edges-edges.ensures ∙ c.in_ok-graph.ensures.built.edges in
    let keys : c.deref.result.now ≡ keys_below (length ns) = c.deref.ensures.value ∙ c.in_ok-room.ensures.keys ∙ ap keys_below c.len-2.ensures in
    let least : IsLeast d c.args.plan.now c.args.solved.now.cells ns = record { solved = c.requires.solved; over = c.requires.cells } in
    subst (λ (l : List ℕ). EndsIn l c.edges-edges.result.now) (sym keys)
    (subst (λ (es : List Edge). EndsIn (keys_below (length ns)) es) (sym edges) (ends_in d c.args.plan.now c.args.solved.now.cells ns least))

pub pairs_of-requires : goal.pairs_of-requires
pairs_of-requires g c =
    let d = g.D.NumDomain.domain in
    let ns = c.args.solved.now.nodes in
    let edges = c.edges-edges.ensures ∙ c.in_ok-graph.ensures.built.edges in
    let keys : c.deref.result.now ≡ keys_below (length ns) = c.deref.ensures.value ∙ c.in_ok-room.ensures.keys ∙ ap keys_below c.len-2.ensures in
    let least : IsLeast d c.args.plan.now c.args.solved.now.cells ns = record { solved = c.requires.solved; over = c.requires.cells } in
    let shape = rw c.in-Some.is at c.in_ok-stuck.ensures.shape in
    let first : IsFirstStuck c.moves-moves.result.now (keys_below (length ns)) (graph d c.args.plan.now c.args.solved.now.cells ns) c.in-Some.stuck.items =
    subst (λ (l : List ℕ). IsFirstStuck c.moves-moves.result.now l (graph d c.args.plan.now c.args.solved.now.cells ns) c.in-Some.stuck.items) keys
    (subst (λ (es : List Edge). IsFirstStuck c.moves-moves.result.now c.deref.result.now es c.in-Some.stuck.items) edges shape) in
    subst (λ (es : List Edge). All (λ e. (e.from < length ns) × (e.to < length ns)) es) (sym c.deref-in-Some.ensures.value)
    (stuck_below d c.args.plan.now c.args.solved.now.cells ns least c.moves-moves.result.now c.in-Some.stuck.items first)

pub returns-in-Some-clause-fault : goal.returns-in-Some-clause-fault
returns-in-Some-clause-fault g c =
    let d = g.D.NumDomain.domain in
    let plan = c.args.plan.now in
    let cells = c.args.solved.now.cells in
    let ns = c.args.solved.now.nodes in
    let all = graph d plan cells ns in
    let ks = keys_below (length ns) in
    let m = c.moves-moves.result.now in
    let stuck = c.in-Some.stuck.items in
    let edges = c.edges-edges.ensures ∙ c.in_ok-graph.ensures.built.edges in
    let keys : c.deref.result.now ≡ keys_below (length ns) = c.deref.ensures.value ∙ c.in_ok-room.ensures.keys ∙ ap keys_below c.len-2.ensures in
    let least : IsLeast d plan cells ns = record { solved = c.requires.solved; over = c.requires.cells } in
    let shape = rw c.in-Some.is at c.in_ok-stuck.ensures.shape in
    let first : IsFirstStuck m ks all stuck =
    subst (λ (l : List ℕ). IsFirstStuck m l all stuck) keys (subst (λ (es : List Edge). IsFirstStuck m c.deref.result.now es stuck) edges shape) in
    let ends = ends_in d plan cells ns least in
    let is = first_is_stuck m ks all stuck first ends in
    let no = first_never m ks all stuck first ends in
    record {
      moves = m;
      are = moves_are d plan cells ns c.in_ok-graph.graph c.in_ok-graph.ensures.built m c.moves-moves.ensures.count c.moves-moves.ensures.grow c.moves-moves.ensures.fall;
      stuck = stuck;
      first = first;
      never = never is.0 is.1 no.0 no.1;
      told = subst (λ (es : List Edge). AreTold d ns es c.in_ok-pairs_of-in-Some.field-0.items) c.deref-in-Some.ensures.value c.in_ok-pairs_of-in-Some.ensures;
    }

pub numbered-requires-clause-moves : goal.numbered-requires-clause-moves
numbered-requires-clause-moves g c =
    moves_are g.D.NumDomain.domain c.args.plan.now c.args.solved.now.cells c.args.solved.now.nodes c.in_ok-graph.graph c.in_ok-graph.ensures.built c.moves-moves.result.now c.moves-moves.ensures.count c.moves-moves.ensures.grow c.moves-moves.ensures.fall

pub numbered-requires-clause-fresh : goal.numbered-requires-clause-fresh
numbered-requires-clause-fresh g c =
    let new = c.first_stuck.new.marks in
    fresh_take c.in_ok-room.room.marks.len _ (fresh_append new _ c.in_ok-stuck.ensures.fresh (fresh_drop (length new) c.in_ok-room.room.marks.items c.in_ok-room.ensures.fresh))

pub numbered-requires-clause-nest : goal.numbered-requires-clause-nest
numbered-requires-clause-nest g c =
    let shape = rw c.in-None.is at c.in_ok-stuck.ensures.shape in
    subst (λ (l : List ℕ). HasNest c.moves-moves.result.now l c.edges-edges.result.now) c.deref.ensures.value shape

pub numbered-requires-clause-ready : goal.numbered-requires-clause-ready
numbered-requires-clause-ready g c =
    let cells = ap (λ s. s.cells) c.in_ok-scratch.ensures in
    record {
      least = record { solved = c.requires.solved; over = c.requires.cells };
      built = c.in_ok-graph.ensures.built;
      enough = omega (arith, c.graph_of.ensures.room, cells, ap length c.cells.ensures);
    }

pub returns-in_err-room-clause-fault : goal.returns-in_err-room-clause-fault
returns-in_err-room-clause-fault g c =
    if_memory (IsRankFault g.D.NumDomain.domain c.args.plan.now c.args.solved.now.cells c.args.solved.now.nodes) c.from_residual-in_err-room.result tt c.from_residual-in_err-room.ensures.1

pub returns-in_err-stuck-clause-fault : goal.returns-in_err-stuck-clause-fault
returns-in_err-stuck-clause-fault g c =
    if_memory (IsRankFault g.D.NumDomain.domain c.args.plan.now c.args.solved.now.cells c.args.solved.now.nodes) c.from_residual-in_err-stuck.result tt c.from_residual-in_err-stuck.ensures.1

pub returns-in_err-pairs_of-in-Some-clause-fault : goal.returns-in_err-pairs_of-in-Some-clause-fault
returns-in_err-pairs_of-in-Some-clause-fault g c =
    if_memory (IsRankFault g.D.NumDomain.domain c.args.plan.now c.args.solved.now.cells c.args.solved.now.nodes) c.from_residual-in_err-pairs_of-in-Some.result tt c.from_residual-in_err-pairs_of-in-Some.ensures.1
