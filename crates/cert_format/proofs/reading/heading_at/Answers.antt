use Rattle.std.proofs.Common.{suc, arith}
use Rattle.cert_format.specs.declared.limits.TheConstants.{MOST_NODES}
use Rattle.cert_format.proofs.ReadLaws.{below_within, tracked_within}
use Rattle.cert_format.proofs.reading.heading_at.Goals as goal

pub returns-clause-cells : goal.returns-clause-cells
returns-clause-cells c = tracked_within c.version_at.new.input (c.in_ok-cells.cells.items, c.tracked_at.new.input) c.in_ok-cells.ensures

pub returns-clause-count : goal.returns-clause-count
returns-clause-count c = let low = below_within (suc MOST_NODES) c.tracked_at.new.input (c.in_ok-count.count, c.below_at.new.input) c.in_ok-count.ensures in omega arith
