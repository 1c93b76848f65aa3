use Rattle.std.proofs.Common.{◌∙◌, ap, ℕ, List, ◌++◌}
use Rattle.std.proofs.lemmas.Result.{on_ok_weaker}
use Rattle.cert_format.proofs.WriteLaws.{fact_front}
use Rattle.cert_format.proofs.writing.put_known_fact.Goals as goal

pub returns : goal.returns
returns c = on_ok_weaker c.put_fact.result (λ e. e ∙ ap (λ (t : List ℕ). c.args.out.now.items ++ t) (fact_front c.args.fact.now)) c.put_fact.ensures.bytes
