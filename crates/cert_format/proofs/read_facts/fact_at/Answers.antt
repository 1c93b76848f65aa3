use Rattle.std.proofs.Common.{subst, sym, ℕ}
use Rattle.flag_relation.specs.Facts.{links_of}
use Rattle.flag_relation.specs.Limits.{IsFactOf}
use Rattle.cert_format.specs.ReadValues.{value_at}
use Rattle.cert_format.specs.evidence.Numbers.{many_length}
use Rattle.cert_format.proofs.FieldLimits.{links_within, flag_within}
use Rattle.cert_format.proofs.read_facts.fact_at.Goals as goal

pub invariant_of-result : goal.invariant_of-result
invariant_of-result c =
    let len = many_length value_at c.args.cells c.value_at-3.new.input (c.in_ok-values.values.items, c.many_values.new.input) c.in_ok-values.ensures in
    subst (λ (n : ℕ). IsFactOf n (links_of c.in_ok-links.links) c.in_ok-flag.flag) (sym len) (record {
      few = c.requires;
      linked = links_within c.args.cells c.many_values.new.input (links_of c.in_ok-links.links, c.links_at.new.input) c.in_ok-links.ensures;
      flagged = flag_within c.args.cells c.links_at.new.input (c.in_ok-flag.flag, c.flag_at.new.input) c.in_ok-flag.ensures;
    })

pub returns-clause-cells : goal.returns-clause-cells
returns-clause-cells c = many_length value_at c.args.cells c.value_at-3.new.input (c.in_ok-values.values.items, c.many_values.new.input) c.in_ok-values.ensures
