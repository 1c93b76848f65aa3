-- What the endings of a run mean.
use Rattle.std.proofs.Common.{◌≡◌, ◌≢◌, ℕ, List, [], ◌∷◌, ◌++◌, sym, ap, subst, ◌∙◌, inl, inr, ◌⊎◌}
use Rattle.memory_plan.specs.Plans.{PlanLines}
use Rattle.peripheral_run.proofs.Starts.{runs_of_script}
use Rattle.viper_io.specs.Causes.{Stock, Output, Handed, Wrote}
use Rattle.peripheral_run.specs.Scripts.{Scripted}
use Rattle.viper_top.specs.declared.status.Status.{Status}
use Rattle.viper_top.specs.declared.status.Status.TheVariants.{Done, Refused, Input}
use Rattle.viper_top.specs.Endings.{Ending, EndsAnswered}
use Rattle.viper_top.specs.Orders.{Run}
use Rattle.viper_top.specs.Contents.{Image, Plan, Script}
use Rattle.viper_top.specs.Works.{Does, Reads, Walks}
use Rattle.viper_top.specs.Run.{ran}
use Rattle.viper_top.specs.Commands.{Runs, Ends, over_plan, with_script}
use Rattle.viper_top.specs.Promises.{Given, Answered}
use Rattle.viper_top.specs.Headlines.{handed_as, AreFollowed, Followed, run_over}
use Rattle.peripheral_run.specs.Opening.{opening}
use Rattle.viper_top.proofs.Apart.{took_one, does_only}
use Rattle.viper_top.proofs.Runs.{plan_is_well, never_stopped}

-- Done and Refused are answers, and none of them is Input
pub worked : (ends : Status) → (ends ≡ Done) ⊎ (ends ≡ Refused) → EndsAnswered ends × (ends ≢ Input)
worked ends (inl e) = (subst EndsAnswered (sym e) tt, subst (λ (s : Status). s ≢ Input) (sym e) (λ h. cc))
worked ends (inr e) = (subst EndsAnswered (sym e) tt, subst (λ (s : Status). s ≢ Input) (sym e) (λ h. cc))

-- the three contents of a run, and how it then ends
record RunRead (image plan script : List ℕ) (steps : ℕ) (s0 s1 : Stock) (e : Ending) : Type 0 where
  lines : PlanLines
  scripted : Scripted
  read : AreFollowed image plan script s0 s1 lines scripted
  ends : e ≡ ran lines scripted steps

run_read : (image plan script : List ℕ) (steps : ℕ) (s0 s1 : Stock) (given : List Handed) (e : Ending) → Given s0 s1 given → (e.status ≡ Input → ⊥) → Walks Ends (over_plan image plan (with_script script steps)) given e
    → RunRead image plan script steps s0 s1 e
run_read image plan script steps s0 s1 given e g fine walks =
    let i = took_one s0 s1 Image image (λ words. Reads (Plan words) plan (with_script script steps)) given e g.each fine walks in
    let p = took_one s0 s1 (Plan i.value) plan (with_script script steps) i.others e i.each fine i.goes_on in
    let c = took_one s0 s1 (Script p.value) script (λ s. Does (Runs p.value s steps)) p.others e p.each fine p.goes_on in
    let d = does_only (Runs p.value c.value steps) c.others e c.goes_on in
    let only_script : p.others ≡ handed_as (Script p.value) script c.bytes ∷ [] = c.is ∙ ap (λ hs. handed_as (Script p.value) script c.bytes ∷ hs) d.0 in
    let only_plan : i.others ≡ handed_as (Plan i.value) plan p.bytes ∷ handed_as (Script p.value) script c.bytes ∷ [] = p.is ∙ ap (λ hs. handed_as (Plan i.value) plan p.bytes ∷ hs) only_script in
    record {
      lines = p.value;
      scripted = c.value;
      read = record {
        words = i.value;
        image_bytes = i.bytes;
        plan_bytes = p.bytes;
        script_bytes = c.bytes;
        handed = g.appended ∙ ap (λ hs. s0.handed ++ hs) (i.is ∙ ap (λ hs. handed_as Image image i.bytes ∷ hs) only_plan);
        image_told = i.told;
        plan_told = p.told;
        script_told = c.told;
        image_is = i.spells;
        plan_is = p.spells;
        script_is = c.spells;
      };
      ends = d.1;
    }

pub followed : (image plan script : List ℕ) (steps : ℕ) (s0 s1 : Stock) (ends : Status) (out0 out1 : Output) → ends ≢ Input → Answered (Run image plan script steps) s0 s1 ends out0 out1
    → Followed image plan script steps s0 s1 ends out0 out1
followed image plan script steps s0 s1 ends out0 out1 fine a =
    let r = run_read image plan script steps s0 s1 a.given a.ending a.is_given (λ other. fine (a.status ∙ other)) a.walks in
    let well = plan_is_well r.read.image_bytes r.read.words r.read.plan_bytes r.lines r.read.image_is r.read.plan_is in
    let runs = runs_of_script r.lines r.read.script_bytes r.scripted steps well r.read.script_is in
    record {
      lines = r.lines;
      scripted = r.scripted;
      read = r.read;
      status = a.status ∙ ap (λ (x : Ending). x.status) r.ends;
      put = subst (λ t. Wrote out0.text t out1.text) (ap (λ (x : Ending). x.text) r.ends) a.put;
      runs = runs;
      unstopped = never_stopped r.lines steps r.scripted.answers (opening r.lines r.scripted.state) (run_over r.lines r.scripted steps) well runs;
    }
