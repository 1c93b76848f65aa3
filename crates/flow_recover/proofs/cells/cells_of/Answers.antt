use Rattle.std.proofs.Common.{◌∙◌, ap, take}
use Rattle.flow_recover.specs.declared.cells.TheConstants.{MOST_CELLS}
use Rattle.flow_recover.proofs.CellLemmas.{cells_are}
use Rattle.flow_recover.proofs.cells.cells_of.Goals as goal

pub returns : goal.returns
returns c = c.in_ok-lowest.ensures.lowest ∙ ap (take MOST_CELLS) (cells_are c.args.plan.now c.in_ok-all_named.field-0.keys c.in_ok-all_named.ensures c.in_ok-lowest.ensures.ascending)
