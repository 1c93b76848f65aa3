use Rattle.val_dom.proofs.ValExact.{val_exact}
use Rattle.val_dom.proofs.val.Val.exact_rule.Goals as goal

pub returns : goal.returns
returns c = val_exact
