use Rattle.std.proofs.Common.{rules, ◌≡◌, sym, ◌∙◌}
use Rattle.flag_relation.specs.Order.{includes}
use Rattle.flag_relation.proofs.CoverLaws.{included_covers}
use Rattle.flag_relation.proofs.fact.Fact.includes.Goals as goal

pub returns-then-includes_links-clause-covers : goal.returns-then-includes_links-clause-covers
unfolding includes
returns-then-includes_links-clause-covers g c = λ t.
    let d = g.D.NumDomain.domain in
    let is : c.flag_includes.result ≡ includes d c.args.self.now c.args.other.now = search rules in
    included_covers d g.met.D.NumDomain.laws c.args.self.now c.args.other.now (sym is ∙ t)
