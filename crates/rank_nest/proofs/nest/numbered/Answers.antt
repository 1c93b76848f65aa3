use Rattle.std.proofs.Common.{◌≡◌, ◌<◌, ◌≤◌, arith, ap, sym, subst, ◌∙◌, length, ℕ, List}
use Rattle.std.specs.List.{All, AllPairs}
use Rattle.std.proofs.lemmas.List.FromFn.{length-range_with_len}
use Rattle.strong_components.specs.declared.edge.Edge.{Edge}
use Rattle.strong_components.specs.Steps.{BySource}
use Rattle.rank_shape.specs.Places.{EndsIn}
use Rattle.rank_numbers.specs.Rows.{IntoKeys}
use Rattle.std.specs.Prelude.{map, take, drop, ◌++◌}
use Rattle.std.proofs.Math.Seq.{take-append_seam}
use Rattle.rank_shape.specs.Nests.{HasNest}
use Rattle.rank_numbers.specs.Levels.{levels_of}
use Rattle.rank_numbers.specs.declared.level.Level.{Level}
use Rattle.rank_numbers.specs.Results.{AllSmall, FirstLarge}
use Rattle.rank_nest.specs.Forms.{forms_of}
use Rattle.rank_nest.specs.Graph.{graph}
use Rattle.rank_nest.specs.Told.{IsTellable, told, told_of}
use Rattle.std.proofs.lemmas.List.Elements.{All-from_recursion}
use Rattle.rank_nest.specs.Ranks.{keys_below, rank_at, AreRanks}
use Rattle.rank_nest.proofs.GraphLaws.{keys_ascend, keys_all, by_source, ends_in, tos_below}
use Rattle.rank_nest.proofs.Solution.{few_cells}
use Rattle.rank_nest.proofs.LevelLaws.{large_tells}
use Rattle.rank_nest.proofs.EdgeLaws.{are_ranks}
use Rattle.rank_nest.proofs.nest.numbered.Goals as goal

pub edges_into-requires : goal.edges_into-requires
edges_into-requires g c =
    let d = g.D.NumDomain.domain in
    let s = c.args.ranks.now in
    let ns = s.solved.now.nodes in
    let long = length-range_with_len 0 (length ns) in
    let count : c.len.result ≡ length ns = omega (arith, c.len.ensures, ap length c.requires.keys, long) in
    subst (λ (n : ℕ). All (λ e. e.to < n) c.args.edges.now) (sym count)
    (subst (λ (es : List Edge). All (λ e. e.to < length ns) es) (sym c.requires.edges) (tos_below d s.plan.now s.solved.now.cells ns c.requires.ready.least))

pub numbers_of-requires-clause-ascend : goal.numbers_of-requires-clause-ascend
numbers_of-requires-clause-ascend g c =
    let keys = c.deref.ensures.value ∙ c.requires.keys in
    subst (λ (l : List ℕ). AllPairs (λ a b. a < b) l) (sym keys) (keys_ascend (length c.args.ranks.now.solved.now.nodes))

pub numbers_of-requires-clause-keys : goal.numbers_of-requires-clause-keys
numbers_of-requires-clause-keys g c =
    let n = length c.args.ranks.now.solved.now.nodes in
    let keys = c.deref.ensures.value ∙ c.requires.keys in
    let marks : length c.deref_mut.result.now ≡ n = ap length c.deref_mut.ensures.value ∙ c.requires.marks in
    subst (λ (m : ℕ). All (λ k. k < m) c.deref.result.now) (sym marks) (subst (λ (l : List ℕ). All (λ k. k < n) l) (sym keys) (keys_all n))

pub numbers_of-requires-clause-forms : goal.numbers_of-requires-clause-forms
numbers_of-requires-clause-forms g c =
    let n = length c.args.ranks.now.solved.now.nodes in
    omega (arith, ap length c.deref_mut-3.ensures.value, c.in_ok-forms.ensures.len, c.len-2.ensures, ap length c.requires.keys, length-range_with_len 0 n, ap length c.deref_mut.ensures.value, c.requires.marks)

pub numbers_of-requires-clause-into : goal.numbers_of-requires-clause-into
numbers_of-requires-clause-into g c =
    let n = length c.args.ranks.now.solved.now.nodes in
    omega (arith, ap length c.deref-2.ensures.value, c.in_ok-into.ensures.count, c.len.ensures, ap length c.requires.keys, length-range_with_len 0 n, ap length c.deref_mut.ensures.value, c.requires.marks)

pub numbers_of-requires-clause-into_keys : goal.numbers_of-requires-clause-into_keys
numbers_of-requires-clause-into_keys g c = subst (λ l. IntoKeys c.args.edges.now l) (sym c.deref-2.ensures.value) c.in_ok-into.ensures.into

pub numbers_of-requires-clause-by_source : goal.numbers_of-requires-clause-by_source
numbers_of-requires-clause-by_source g c =
    let s = c.args.ranks.now in
    subst (λ (es : List Edge). BySource es) (sym c.requires.edges) (by_source g.D.NumDomain.domain s.plan.now s.solved.now.cells s.solved.now.nodes)

pub numbers_of-requires-clause-ends : goal.numbers_of-requires-clause-ends
numbers_of-requires-clause-ends g c =
    let s = c.args.ranks.now in
    let n = length s.solved.now.nodes in
    let keys = c.deref.ensures.value ∙ c.requires.keys in
    subst (λ (l : List ℕ). EndsIn l c.args.edges.now) (sym keys)
    (subst (λ (es : List Edge). EndsIn (keys_below n) es) (sym c.requires.edges) (ends_in g.D.NumDomain.domain s.plan.now s.solved.now.cells s.solved.now.nodes c.requires.ready.least))

pub numbers_of-requires-clause-candidates : goal.numbers_of-requires-clause-candidates
numbers_of-requires-clause-candidates g c =
    let s = c.args.ranks.now in
    let few = few_cells s.plan.now s.solved.now.cells c.requires.ready.least.over in
    omega (arith, c.requires.moves.count)

pub returns-in-Total-clause-ranks : goal.returns-in-Total-clause-ranks
returns-in-Total-clause-ranks g c =
    let d = g.D.NumDomain.domain in
    let s = c.args.ranks.now in
    let cells = s.solved.now.cells in
    let ns = s.solved.now.nodes in
    let n = length ns in
    let m = c.args.moves.now in
    let o = forms_of d s.plan.now cells ns in
    let made = c.numbers_of.new.forms in
    let left = drop (length made) c.in_ok-forms.forms.items in
    let keys = c.deref.ensures.value ∙ c.requires.keys in
    let total = c.in-Total.field-0 in
    let numbers = rw c.in-Total.is at c.in_ok-numbers.ensures.numbers in
    let small = subst (λ (l : List ℕ). AllSmall o m l (graph d s.plan.now cells ns) (rank_at d s.plan.now cells ns made) total) keys
    (subst (λ (es : List Edge). AllSmall o m c.deref.result.now es (rank_at d s.plan.now cells ns made) total) c.requires.edges numbers) in
    let held : length c.in_ok-forms.forms.items ≡ n = omega (arith, c.in_ok-forms.ensures.len, c.len-2.ensures, ap length c.requires.keys, length-range_with_len 0 n) in
    let long : length made ≡ n = omega (arith, c.in_ok-numbers.ensures.forms_len, ap length c.deref_mut-3.ensures.value, held) in
    let count : c.in_ok-forms.forms.len ≡ length made = omega (arith, c.in_ok-forms.forms.ok.0, held, long) in
    let all : take c.in_ok-forms.forms.len (made ++ left) ≡ made = ap (λ (k : ℕ). take k (made ++ left)) count ∙ take-append_seam made left in
    subst (AreRanks d s.plan.now cells ns) (sym all) (are_ranks d s.plan.now cells ns m c.requires.moves made long total small)

pub returns-clause-fault : goal.returns-clause-fault
returns-clause-fault g c =
    let d = g.D.NumDomain.domain in
    let s = c.args.ranks.now in
    let cells = s.solved.now.cells in
    let ns = s.solved.now.nodes in
    let all = graph d s.plan.now cells ns in
    let m = c.args.moves.now in
    let levels = levels_of c.in-Large.levels.items in
    let keys = c.deref.ensures.value ∙ c.requires.keys in
    let numbers = rw c.in-Large.is at c.in_ok-numbers.ensures.numbers in
    record {
      moves = m;
      are = c.requires.moves;
      nest = subst (λ (l : List ℕ). HasNest m l all) c.requires.keys (subst (λ (es : List Edge). HasNest m c.args.room.now.keys.items es) c.requires.edges c.requires.nest);
      all = levels;
      large = subst (λ (l : List ℕ). FirstLarge (forms_of d s.plan.now cells ns) m l all levels) keys
          (subst (λ (es : List Edge). FirstLarge (forms_of d s.plan.now cells ns) m c.deref.result.now es levels) c.requires.edges numbers);
      told = subst (λ (ls : List Level). map told_of c.in_ok-nest_of-in-Large.field-0.levels.items ≡ map told (levels_of ls)) c.deref-in-Large.ensures.value c.in_ok-nest_of-in-Large.ensures;
    }

pub nest_of-requires : goal.nest_of-requires
nest_of-requires g c =
    let d = g.D.NumDomain.domain in
    let s = c.args.ranks.now in
    let cells = s.solved.now.cells in
    let ns = s.solved.now.nodes in
    let n = length c.args.ranks.now.solved.now.nodes in
    let m = c.args.moves.now in
    let o = forms_of d s.plan.now cells ns in
    let keys = c.deref.ensures.value ∙ c.requires.keys in
    let numbers = rw c.in-Large.is at c.in_ok-numbers.ensures.numbers in
    let known = subst (λ (l : List ℕ). All (λ k. k < n) l) (sym keys) (keys_all n) in
    let cells_few = few_cells s.plan.now cells c.requires.ready.least.over in
    let few : c.args.moves.now.count ≤ 70 = omega (arith, c.requires.moves.count) in
    let tell = large_tells o m n few c.bound_facts.ensures c.deref.result.now c.args.edges.now (levels_of c.in-Large.levels.items) numbers.large known in
    subst (λ (ls : List Level). All IsTellable (levels_of ls)) (sym c.deref-in-Large.ensures.value) (All-from_recursion IsTellable (levels_of c.in-Large.levels.items) tell)
