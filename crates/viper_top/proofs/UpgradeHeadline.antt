-- What Done means of an upgrade.
use Rattle.std.proofs.Common.{◌≡◌, ℕ, List, length, Some, sym, ap, subst, ◌∙◌}
use Rattle.memory_plan.specs.Plans.{PlanLines}
use Rattle.viper_io.specs.Causes.{Stock, Output, Wrote}
use Rattle.val_dom.specs.Vals.{vals}
use Rattle.val_dom.specs.evidence.ValLaws.{val_laws}
use Rattle.flag_relation.proofs.AllLaws.{fact_laws}
use Rattle.cert_checker.specs.Filling.{filled}
use Rattle.cert_checker.proofs.Filled.{all_filled}
use Rattle.cert_checker.proofs.Packed.{undone}
use Rattle.viper_top.specs.declared.status.Status.{Status}
use Rattle.viper_top.specs.declared.status.Status.TheVariants.{Done, Refused, Input}
use Rattle.viper_top.specs.Certificates.{Certificate, full}
use Rattle.viper_top.specs.Commands.{Upgrades}
use Rattle.viper_top.specs.Endings.{Ending}
use Rattle.viper_top.specs.Orders.{Upgrade}
use Rattle.viper_top.specs.Promises.{Answered, IsPlaced}
use Rattle.viper_top.specs.Headlines.{Upgraded}
use Rattle.viper_top.specs.Upgrade.{packed_again, upgraded}
use Rattle.viper_top.proofs.Headlines.{cert_read}

done_is_not_input : Done ≡ Input → ⊥
done_is_not_input e = cc

refused_is_not_input : Refused ≡ Input → ⊥
refused_is_not_input e = cc

refused_is_not_done : Refused ≡ Done → ⊥
refused_is_not_done e = cc

-- filling undoes packing
same_again : (lines : PlanLines) (c : Certificate) → full lines (packed_again lines c) ≡ full lines c
unfolding filled
same_again lines c = undone vals lines (full lines c) (fact_laws vals val_laws) (all_filled vals lines c (length c.nodes))

pub made_again : (image plan cert new : List ℕ) (s0 s1 : Stock) (out0 out1 : Output) → Answered (Upgrade image plan cert new) s0 s1 Done out0 out1 → Upgraded image plan cert new s0 s1 out0 out1
made_again image plan cert new s0 s1 out0 out1 a =
    let r = cert_read Upgrades image plan cert s0 s1 a.given a.ending a.is_given (λ other. done_is_not_input (a.status ∙ other)) a.walks in
    let is : a.ending ≡ upgraded r.lines r.certificate = r.ends.is in
    record {
      lines = r.lines;
      certificate = r.certificate;
      read = r.read;
      placed = subst (λ (e : Ending). IsPlaced (Some new) e.bytes s1) is a.placed;
      spelled = r.ends.spelled;
      same = same_again r.lines r.certificate;
      put = subst (λ (e : Ending). Wrote out0.text e.text out1.text) is a.put;
    }

-- an upgrade isn't refused
pub unrefused : (image plan cert new : List ℕ) (s0 s1 : Stock) (out0 out1 : Output) → Answered (Upgrade image plan cert new) s0 s1 Refused out0 out1 → ⊥
unrefused image plan cert new s0 s1 out0 out1 a =
    let r = cert_read Upgrades image plan cert s0 s1 a.given a.ending a.is_given (λ other. refused_is_not_input (a.status ∙ other)) a.walks in
    let is : a.ending ≡ upgraded r.lines r.certificate = r.ends.is in
    refused_is_not_done (a.status ∙ ap (λ (e : Ending). e.status) is)
