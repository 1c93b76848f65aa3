-- What the endings of a certification mean.
use Rattle.std.proofs.Common.{◌≡◌, ◌≢◌, ℕ, List, [], ◌∷◌, ◌++◌, Some, Ok, refl, sym, ap, subst, ◌∙◌, inl, inr}
use Rattle.memory_plan.specs.Plans.{PlanLines}
use Rattle.viper_io.specs.Causes.{Stock, Output, Handed, Wrote}
use Rattle.val_dom.specs.Vals.{vals}
use Rattle.cert_checker.proofs.Exact.{exact}
use Rattle.viper_top.specs.declared.status.Status.{Status}
use Rattle.viper_top.specs.declared.status.Status.TheVariants.{Done, Refused, Input}
use Rattle.viper_top.specs.Certificates.{Certificate, Local, bounds_of, full, once}
use Rattle.viper_top.specs.Certify.{Certifies as CertifiesTo, EndsMade, EndsRefused, certified_text}
use Rattle.viper_top.specs.Check.{verdict_ending, checked}
use Rattle.viper_top.specs.Commands.{Task, Certifies, Ends, over_plan, alone}
use Rattle.viper_top.specs.Contents.{Image, Plan}
use Rattle.viper_top.specs.Endings.{Ending, done}
use Rattle.viper_top.specs.Orders.{Certify}
use Rattle.viper_top.specs.Promises.{Given, Answered, IsPlaced}
use Rattle.viper_top.specs.Texts.{yes_text}
use Rattle.viper_top.specs.Works.{Does, Reads, Walks}
use Rattle.viper_top.specs.Headlines.{handed_as, ArePlanned, Certified, Uncertified}
use Rattle.viper_top.proofs.Apart.{took_one, does_only}
use Rattle.viper_top.proofs.Runs.{plan_is_well, cells_ascend, local_holds}

-- ---- what was read

record PlanRead (image plan : List ℕ) (s0 s1 : Stock) (e : Ending) : Type 0 where
  lines : PlanLines
  read : ArePlanned image plan s0 s1 lines
  ends : CertifiesTo lines e

plan_read : (image plan : List ℕ) (s0 s1 : Stock) (given : List Handed) (e : Ending) → Given s0 s1 given → (e.status ≡ Input → ⊥) → Walks Ends (over_plan image plan (alone Certifies)) given e
    → PlanRead image plan s0 s1 e
plan_read image plan s0 s1 given e g fine walks =
    let i = took_one s0 s1 Image image (λ words. Reads (Plan words) plan (alone Certifies)) given e g.each fine walks in
    let p = took_one s0 s1 (Plan i.value) plan (alone Certifies) i.others e i.each fine i.goes_on in
    let d = does_only (Certifies p.value) p.others e p.goes_on in
    let only_plan : i.others ≡ handed_as (Plan i.value) plan p.bytes ∷ [] = p.is ∙ ap (λ hs. handed_as (Plan i.value) plan p.bytes ∷ hs) d.0 in
    record {
      lines = p.value;
      read = record {
        words = i.value;
        image_bytes = i.bytes;
        plan_bytes = p.bytes;
        handed = g.appended ∙ ap (λ hs. s0.handed ++ hs) (i.is ∙ ap (λ hs. handed_as Image image i.bytes ∷ hs) only_plan);
        image_told = i.told;
        plan_told = p.told;
        image_is = i.spells;
        plan_is = p.spells;
      };
      ends = d.1;
    }

-- a yes comes where all local conditions hold
pub says_yes : (lines : PlanLines) (c : Certificate) → Local lines c → checked lines c ≡ done (yes_text (bounds_of lines c))
unfolding checked
says_yes lines c local = ap verdict_ending ((exact vals lines once (full lines c)).yes local)

done_is_not_input : Done ≡ Input → ⊥
done_is_not_input e = cc

refused_is_not_input : Refused ≡ Input → ⊥
refused_is_not_input e = cc

pub done_is_not_refused : Done ≡ Refused → ⊥
done_is_not_refused e = cc

-- ---- Done

made_only : (lines : PlanLines) (e : Ending) → Done ≡ e.status → CertifiesTo lines e → EndsMade lines e
made_only lines e is (inl m) = m
made_only lines e is (inr r) = absurd (done_is_not_refused (is ∙ ap (λ (x : Ending). x.status) r.is))

pub certified : (image plan cert : List ℕ) (s0 s1 : Stock) (out0 out1 : Output) → Answered (Certify image plan cert) s0 s1 Done out0 out1 → Certified image plan cert s0 s1 out0 out1
certified image plan cert s0 s1 out0 out1 a =
    let r = plan_read image plan s0 s1 a.given a.ending a.is_given (λ other. done_is_not_input (a.status ∙ other)) a.walks in
    let m = made_only r.lines a.ending a.status r.ends in
    let well = plan_is_well r.read.image_bytes r.read.words r.read.plan_bytes r.lines r.read.image_is r.read.plan_is in
    record {
      lines = r.lines;
      read = r.read;
      certificate = m.certificate;
      made_of = m.made_of;
      local = m.local;
      placed = subst (λ (e : Ending). IsPlaced (Some cert) e.bytes s1) m.is a.placed;
      spelled = m.spelled;
      checks = says_yes r.lines m.certificate m.local;
      runs = local_holds r.lines m.certificate well (cells_ascend _ m.certificate (_, m.spelled)) m.local;
      put = subst (λ (e : Ending). Wrote out0.text e.text out1.text) m.is a.put;
    }

-- ---- Refused

refused_only : (lines : PlanLines) (e : Ending) → Refused ≡ e.status → CertifiesTo lines e → EndsRefused lines e
refused_only lines e is (inl m) = absurd (done_is_not_refused (sym (is ∙ ap (λ (x : Ending). x.status) m.is)))
refused_only lines e is (inr r) = r

pub uncertified : (image plan cert : List ℕ) (s0 s1 : Stock) (out0 out1 : Output) → Answered (Certify image plan cert) s0 s1 Refused out0 out1 → Uncertified image plan s0 s1 out0 out1
uncertified image plan cert s0 s1 out0 out1 a =
    let r = plan_read image plan s0 s1 a.given a.ending a.is_given (λ other. refused_is_not_input (a.status ∙ other)) a.walks in
    record {
      lines = r.lines;
      read = r.read;
      ending = a.ending;
      refused_so = refused_only r.lines a.ending a.status r.ends;
      put = a.put;
    }
