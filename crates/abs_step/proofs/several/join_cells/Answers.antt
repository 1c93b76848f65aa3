use Rattle.std.proofs.Common.{rules, ◌≡◌, ◌<◌, ◌≤◌, ◌+◌, length, set, List, cond, ℕ, arith, sym, ap, ◌∙◌}
use Rattle.std.proofs.lemmas.List.{length-set}
use Rattle.flag_relation.specs.Facts.{FactOf, values}
use Rattle.abs_step.specs.Results.{addressed}
use Rattle.abs_step.proofs.CellWrites.{zip_from, zip_end, zip_step, zip_joined}
use Rattle.abs_step.proofs.several.join_cells.Goals as goal

pub loop-at-preserved : goal.loop-at-preserved
loop-at-preserved g c =
    let d = g.D.NumDomain.domain in
    let f : ℕ → g.row.D.Denot → g.row.D.Denot = λ a v. cond (addressed d c.args.place.now (values c.args.side.now) a) (d.join v c.args.stored.now) v in
    let before = c.loop-at.after in
    let many = c.loop-at.invariant.as_many in
    let written : c.set_cell.new.self ≡ record before { cells = set before.cells c.loop-at.at c.joined.result } = search rules in
    let below : c.loop-at.at < length c.args.cells.now = omega (arith, c.loop-at-test.true, c.count-count.ensures.count, c.requires) in
    record {
      as_many = many ∙ sym (ap (λ (w : FactOf g.row.D.Denot). length w.cells) written ∙ length-set before.cells c.loop-at.at c.joined.result);
      fills = ap (λ (w : FactOf g.row.D.Denot). zip_from f (c.loop-at.at + 1) c.args.cells.now w.cells) written
          ∙ zip_step f c.loop-at.at c.args.cells.now before.cells c.index-cells-at.result c.cell-old.result d.top c.joined.result below many c.index-cells-at.is c.cell-old.ensures c.joined.ensures
          ∙ c.loop-at.invariant.fills;
      others = written
          ∙ ap (λ (w : FactOf g.row.D.Denot). record w { cells = set before.cells c.loop-at.at c.joined.result }) c.loop-at.invariant.others
          ∙ sym (ap (λ (w : FactOf g.row.D.Denot). record c.args.after.now { cells = w.cells }) written);
    }

pub returns-clause-joined : goal.returns-clause-joined
returns-clause-joined g c =
    let d = g.D.NumDomain.domain in
    let p = addressed d c.args.place.now (values c.args.side.now) in
    let f : ℕ → g.row.D.Denot → g.row.D.Denot = λ a v. cond (p a) (d.join v c.args.stored.now) v in
    let many = c.loop-at.invariant.as_many in
    let past : length c.args.cells.now ≤ c.loop-at.at = omega (arith, c.loop-at-test.false, c.count-count.ensures.count, c.requires) in
    c.loop-at.invariant.others
    ∙ ap (λ (vs : List g.row.D.Denot). record c.args.after.now { cells = vs }) (sym (zip_end f c.loop-at.at c.args.cells.now c.loop-at.after.cells past many) ∙ c.loop-at.invariant.fills ∙ zip_joined d p c.args.stored.now c.args.cells.now c.args.after.now.cells)

pub returns-clause-count : goal.returns-clause-count
returns-clause-count g c = sym c.loop-at.invariant.as_many ∙ c.requires
