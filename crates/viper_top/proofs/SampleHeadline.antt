-- What the endings of a sample mean.
use Rattle.std.proofs.Common.{◌≡◌, ◌∙◌, ℕ, List, [], ◌++◌, sym, ap, subst, append-nil, inl, inr}
use Rattle.viper_io.specs.Causes.{Stock, Output, Handed, Wrote}
use Rattle.sample_program.specs.Samples.{sample_plan}
use Rattle.viper_top.specs.declared.status.Status.TheVariants.{Done, Refused}
use Rattle.viper_top.specs.Commands.{Samples}
use Rattle.viper_top.specs.Endings.{Ending}
use Rattle.viper_top.specs.Certify.{EndsRefused}
use Rattle.viper_top.specs.Sample.{EndsSampled, Samples as SamplesTo}
use Rattle.viper_top.specs.Orders.{Sample}
use Rattle.viper_top.specs.Promises.{Given, Answered}
use Rattle.viper_top.specs.Headlines.{Sampled, Unsampled}
use Rattle.viper_top.proofs.Apart.{does_only}
use Rattle.viper_top.proofs.CertifyHeadline.{says_yes, done_is_not_refused}

-- nothing was handed out
none_handed : (s0 s1 : Stock) (given : List Handed) → Given s0 s1 given → given ≡ [] → s1.handed ≡ s0.handed
none_handed s0 s1 given g none = g.appended ∙ ap (λ hs. s0.handed ++ hs) none ∙ append-nil s0.handed

done_only : (loops : ℕ) (e : Ending) → Done ≡ e.status → SamplesTo loops e → EndsSampled loops e
done_only loops e is (inl m) = m
done_only loops e is (inr r) = absurd (done_is_not_refused (is ∙ ap (λ (x : Ending). x.status) r.is))

refused_only : (loops : ℕ) (e : Ending) → Refused ≡ e.status → SamplesTo loops e → EndsRefused (sample_plan loops) e
refused_only loops e is (inl m) = absurd (done_is_not_refused (sym (is ∙ ap (λ (x : Ending). x.status) m.is)))
refused_only loops e is (inr r) = r

pub sampled : (loops : ℕ) (s0 s1 : Stock) (out0 out1 : Output) → Answered (Sample loops) s0 s1 Done out0 out1 → Sampled loops s0 s1 out0 out1
sampled loops s0 s1 out0 out1 a =
    let d = does_only (Samples loops) a.given a.ending a.walks in
    let m = done_only loops a.ending a.status d.1 in
    record {
      handed = none_handed s0 s1 a.given a.is_given d.0;
      certificate = m.certificate;
      made_of = m.made_of;
      local = m.local;
      checks = says_yes (sample_plan loops) m.certificate m.local;
      put = subst (λ (e : Ending). Wrote out0.text e.text out1.text) m.is a.put;
    }

pub unsampled : (loops : ℕ) (s0 s1 : Stock) (out0 out1 : Output) → Answered (Sample loops) s0 s1 Refused out0 out1 → Unsampled loops s0 s1 out0 out1
unsampled loops s0 s1 out0 out1 a =
    let d = does_only (Samples loops) a.given a.ending a.walks in
    record {
      handed = none_handed s0 s1 a.given a.is_given d.0;
      ending = a.ending;
      refused_so = refused_only loops a.ending a.status d.1;
      put = a.put;
    }
