-- The numbers of a nest rank its graph.
use Rattle.std.proofs.Common.{◌≡◌, ◌<◌, ◌∙◌, ◌++◌, ℕ, Some, None, length, sym, ap, subst, arith, rules}
use mir.Syntax.{w128}
use mir.Val.{SFits}
use Rattle.std.proofs.lemmas.Int.{to_z-of_z}
use Rattle.std.proofs.lemmas.List.Elements.{All-contains}
use Rattle.std.specs.List.{Contains}
use Rattle.rank_shape.specs.Stuck.{Part}
use Rattle.rank_numbers.specs.Forms.{Forms, MovesOf}
use Rattle.rank_numbers.specs.Levels.{levels_of}
use Rattle.rank_numbers.specs.Results.{AllSmall, FirstLarge}
use Rattle.rank_numbers.specs.Rows.{form_of, IntoKeys}
use Rattle.rank_numbers.specs.Steps.{GraphDone}
use Rattle.rank_numbers.proofs.Alike.{Fit, same_graph}
use Rattle.rank_numbers.proofs.Excluding.{small_graph, one_large}
use Rattle.rank_numbers.proofs.Theorem.{numbers_rank, total_small}
use Rattle.rank_numbers.proofs.nest.numbers_of.Goals as goal

pub graph_numbers-requires-clause-setting : goal.graph_numbers-requires-clause-setting
graph_numbers-requires-clause-setting g c = record {
  known = omega (arith, c.requires.known, c.requires.into);
  into_keys = subst (λ x. IntoKeys x c.args.into.now) c.requires.edges c.requires.into_keys;
  candidates = c.requires.candidates;
  moves = subst (λ x. MovesOf (g.R.Ranks.forms c.args.ranks.now) c.args.moves.now x) c.requires.edges c.requires.moves;
}

pub returns-in_default-clause-numbers : goal.returns-in_default-clause-numbers
returns-in_default-clause-numbers g c =
    let o : Forms g.row.R-Form.Denot = g.R.Ranks.forms c.args.ranks.now in
    let d : GraphDone (g.R.Ranks.forms c.args.ranks.now) c.args.moves.now c.args.keys.now c.args.edges.now c.args.forms.now c.graph_numbers.new.forms c.new-levels.result.items c.graph_numbers.new.levels.items None
    = rw c.in_default.is at c.in_ok-most.ensures.numbers in
    let known : (k : ℕ) → Contains c.args.keys.now k → k < (g.R.Ranks.forms c.args.ranks.now).keys = λ k ck. omega (arith, All-contains (λ k. k < length c.args.marks.now) c.args.keys.now k c.requires.keys ck, c.requires.known) in
    let part : Part c.args.edges.now (g.R.Ranks.forms c.args.ranks.now).edges = λ e ce. subst (λ x. Contains x e) c.requires.edges ce in
    let moves : MovesOf (g.R.Ranks.forms c.args.ranks.now) c.args.moves.now (g.R.Ranks.forms c.args.ranks.now).edges = subst (λ x. MovesOf (g.R.Ranks.forms c.args.ranks.now) c.args.moves.now x) c.requires.edges c.requires.moves in
    let laws = g.met.R.Ranks.laws c.args.ranks.now in
    let fit : Fit g.row.R-Form.Denot (g.R.Ranks.forms c.args.ranks.now) c.args.moves.now laws moves c.args.keys.now c.args.edges.now = record { known = known; ends = c.requires.ends; within = part } in
    let made : levels_of c.graph_numbers.new.levels.items ≡ d.new = d.made ∙ ap (λ x. levels_of x ++ d.new) c.new-levels.ensures.items in
    subst (λ x. FirstLarge o c.args.moves.now c.args.keys.now c.args.edges.now x) (sym made) (record {
      large = d.numbers;
      alone = λ made h. one_large _ o c.args.moves.now laws moves c.args.keys.now c.args.edges.now d.new made d.numbers h fit;
      not_small = λ form t made h. small_graph _ o c.args.moves.now laws moves c.args.keys.now c.args.edges.now form t made d.new h d.numbers fit;
    })

pub returns-clause-numbers : goal.returns-clause-numbers
returns-clause-numbers g c =
    let o : Forms g.row.R-Form.Denot = g.R.Ranks.forms c.args.ranks.now in
    let f : SFits w128 c.in-Some.most = search rules in
    let w = to_z-of_z w128 c.in-Some.most f in
    let d : GraphDone (g.R.Ranks.forms c.args.ranks.now) c.args.moves.now c.args.keys.now c.args.edges.now c.args.forms.now c.graph_numbers.new.forms c.new-levels.result.items c.graph_numbers.new.levels.items (Some c.in-Some.most)
    = rw c.in-Some.is at c.in_ok-most.ensures.numbers in
    let known : (k : ℕ) → Contains c.args.keys.now k → k < (g.R.Ranks.forms c.args.ranks.now).keys = λ k ck. omega (arith, All-contains (λ k. k < length c.args.marks.now) c.args.keys.now k c.requires.keys ck, c.requires.known) in
    let part : Part c.args.edges.now (g.R.Ranks.forms c.args.ranks.now).edges = λ e ce. subst (λ x. Contains x e) c.requires.edges ce in
    let moves : MovesOf (g.R.Ranks.forms c.args.ranks.now) c.args.moves.now (g.R.Ranks.forms c.args.ranks.now).edges = subst (λ x. MovesOf (g.R.Ranks.forms c.args.ranks.now) c.args.moves.now x) c.requires.edges c.requires.moves in
    let laws = g.met.R.Ranks.laws c.args.ranks.now in
    let fit : Fit g.row.R-Form.Denot (g.R.Ranks.forms c.args.ranks.now) c.args.moves.now laws moves c.args.keys.now c.args.edges.now = record { known = known; ends = c.requires.ends; within = part } in
    subst (λ x. AllSmall o c.args.moves.now c.args.keys.now c.args.edges.now (form_of o c.graph_numbers.new.forms) x) (sym w) (record {
      levels = d.new;
      numbers = d.numbers;
      ranked = numbers_rank _ o c.args.moves.now (g.met.R.Ranks.laws c.args.ranks.now) moves c.args.keys.now c.args.edges.now (form_of o c.graph_numbers.new.forms) c.in-Some.most d.new d.numbers known c.requires.ends part;
      alone = λ other t made h. let s = same_graph _ o c.args.moves.now laws moves c.args.keys.now c.args.edges.now (form_of o c.graph_numbers.new.forms) other c.in-Some.most t d.new made d.numbers h fit in (s.forms, s.numbers, s.levels);
      none_large = λ made h. small_graph _ o c.args.moves.now laws moves c.args.keys.now c.args.edges.now (form_of o c.graph_numbers.new.forms) c.in-Some.most d.new made d.numbers h fit;
      within = total_small c.args.keys.now c.args.edges.now (form_of o c.graph_numbers.new.forms) c.in-Some.most d.new d.numbers;
    })
