use Rattle.std.proofs.Common.{rules, ◌≡◌, ◌<◌, ◌≤◌, ◌+◌, length, set, List, refl, arith, sym, ap, ◌∙◌}
use Rattle.std.proofs.lemmas.List.{length-set}
use Rattle.flag_relation.specs.Facts.{FactOf}
use Rattle.abs_step.specs.Starts.{cell_at}
use Rattle.abs_step.proofs.CellWrites.{fill_from, fill_start, fill_end, fill_step}
use Rattle.abs_step.proofs.starting.set_cells.Goals as goal

pub loop-at-init : goal.loop-at-init
loop-at-init g c = record {
  as_many = c.requires;
  fills = fill_start (cell_at g.D.NumDomain.domain c.args.plan.now) c.args.cells.now c.args.into.now.cells c.requires;
  others = refl;
}

pub loop-at-preserved : goal.loop-at-preserved
loop-at-preserved g c =
    let f = cell_at g.D.NumDomain.domain c.args.plan.now in
    let before = c.loop-at.into in
    let many = c.loop-at.invariant.as_many in
    let written : c.set_cell.new.self ≡ record before { cells = set before.cells c.loop-at.at c.cell_value.result } = search rules in
    let below : c.loop-at.at < length c.args.cells.now = omega (arith, c.loop-at-test.true, c.count-count.ensures.count, c.requires) in
    record {
      as_many = many ∙ sym (ap (λ (w : FactOf g.row.D.Denot). length w.cells) written ∙ length-set before.cells c.loop-at.at c.cell_value.result);
      fills = ap (λ (w : FactOf g.row.D.Denot). fill_from f (c.loop-at.at + 1) c.args.cells.now w.cells) written
          ∙ fill_step f c.loop-at.at c.args.cells.now before.cells c.index-cells-at.result c.cell_value.result below many c.index-cells-at.is c.cell_value.ensures
          ∙ c.loop-at.invariant.fills;
      others = written
          ∙ ap (λ (w : FactOf g.row.D.Denot). record w { cells = set before.cells c.loop-at.at c.cell_value.result }) c.loop-at.invariant.others
          ∙ sym (ap (λ (w : FactOf g.row.D.Denot). record c.args.into.now { cells = w.cells }) written);
    }

pub returns : goal.returns
returns g c =
    let f = cell_at g.D.NumDomain.domain c.args.plan.now in
    let many = c.loop-at.invariant.as_many in
    let past : length c.args.cells.now ≤ c.loop-at.at = omega (arith, c.loop-at-test.false, c.count-count.ensures.count, c.requires) in
    c.loop-at.invariant.others
    ∙ ap (λ (vs : List g.row.D.Denot). record c.args.into.now { cells = vs }) (sym (fill_end f c.loop-at.at c.args.cells.now c.loop-at.into.cells past many) ∙ c.loop-at.invariant.fills)
