use Rattle.std.proofs.Common.{sym, ap, ◌∙◌}
use Rattle.cert_checker.specs.Claiming.{before}
use Rattle.cert_checker.proofs.Before.{lister_before}
use Rattle.cert_checker.proofs.listers.first_before.Goals as goal

pub returns-clause-first : goal.returns-clause-first
returns-clause-first g c =
    let i = c.args.i in
    c.before-2.ensures
    ∙ ap (before i) (c.requires.listers.each i c.requires.node)
    ∙ sym (lister_before i i c.args.cert.now.nodes)
