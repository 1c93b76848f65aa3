use Rattle.std.proofs.Common.{arith, sym}
use Rattle.abs_step.proofs.SearchLaws.{only_before, only_after, only_here}
use Rattle.abs_step.proofs.addresses.first_only.Goals as goal

pub returns-then-get-from : goal.returns-then-get-from
returns-then-get-from c = sym (only_before c.args.a c.args.from c.args.to (omega arith))

pub returns-then-get-to : goal.returns-then-get-to
returns-then-get-to c = sym (only_here c.args.a c.args.from c.args.to (omega arith) (omega arith))

pub returns-else-get-to : goal.returns-else-get-to
returns-else-get-to c = sym (only_after c.args.a c.args.from c.args.to (omega arith))
