use Rattle.std.proofs.Common.{◌∙◌, sym}
use Rattle.cert_format.proofs.PlaceLaws.{enters_known, enters_last}
use Rattle.cert_format.proofs.places.enter.Goals as goal

pub returns-then-is_new-clause-ok : goal.returns-then-is_new-clause-ok
returns-then-is_new-clause-ok c =
    let e = c.in_ok-number.ensures in
    enters_last c.args.places.now.keys c.insert_full.new.self.keys c.args.key (sym c.if-is_new.true ∙ e.added) e.keys

pub returns-clause-ok : goal.returns-clause-ok
returns-clause-ok c =
    let e = c.in_ok-number.ensures in
    enters_known c.args.places.now.keys c.insert_full.new.self.keys c.args.key c.in_ok-number.number (sym c.if-is_new.false ∙ e.added) e.keys e.stored
