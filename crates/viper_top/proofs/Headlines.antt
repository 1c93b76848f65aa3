-- What Done and Refused mean of each command.
use Rattle.std.proofs.Common.{◌≡◌, ◌≢◌, ℕ, ◌<◌, List, [], ◌∷◌, ◌++◌, length, refl, sym, ap, subst, ◌∙◌, arith, Option, Some, None, Result, Ok, Err, inl, inr}
use Rattle.std.specs.Prelude.{IsSomeAnd}
use Rattle.std.proofs.lemmas.Option.{same_Some}
use Rattle.memory_plan.specs.Plans.{PlanLines}
use Rattle.memory_plan.specs.Images.{ImageWords, IsImage}
use Rattle.memory_plan.specs.PlanText.{IsPlan}
use Rattle.memory_plan.proofs.OneValue.{image_reading, plan_reading}
use Rattle.viper_io.specs.Causes.{Stock, Output, Handed, Wrote}
use Rattle.viper_top.specs.declared.status.Status.{Status}
use Rattle.viper_top.specs.declared.status.Status.TheVariants.{Done, Refused, Input}
use Rattle.cert_checker.specs.declared.verdict.Bound.{Bound}
use Rattle.cert_checker.specs.declared.verdict.Refusal.{Refusal}
use Rattle.cert_checker.proofs.Exact.{exact}
use Rattle.val_dom.specs.Vals.{vals}
use Rattle.viper_top.specs.Certificates.{Certificate, IsCertificate, verdict_of, bounds_of, full, once}
use Rattle.viper_top.specs.Texts.{yes_text, no_text}
use Rattle.viper_top.specs.Endings.{Ending}
use Rattle.viper_top.specs.Orders.{Check}
use Rattle.viper_top.specs.Contents.{Kind, Image, Plan, Cert, Value, Fault, limit_of, Spells, Breaks}
use Rattle.viper_top.specs.Works.{Work, Does, Reads, Walks}
use Rattle.viper_top.specs.Check.{verdict_ending, checked}
use Rattle.viper_top.specs.Commands.{Task, Checks, Ends, over_plan, with_cert}
use Rattle.viper_top.specs.Promises.{Given, Answered, Leads, Settled}
use Rattle.viper_top.specs.Headlines.{handed_as, AreRead, Verified, Declined, IsGiven, AreGiven, EndsAs}
use Rattle.viper_top.proofs.OneCertificate.{certificate_reading}
use Rattle.viper_top.proofs.Runs.{plan_is_well, plan_can_run, cells_ascend, local_holds}
use Rattle.viper_top.proofs.Apart.{took_one, does_only}

-- a status that is not Input
not_input : (ends : Status) (e : Ending) → ends ≡ e.status → ends ≢ Input → e.status ≡ Input → ⊥
not_input ends e is fine other = fine (is ∙ other)

done_fine : Done ≢ Input
done_fine e = cc

refused_fine : Refused ≢ Input
refused_fine e = cc

-- ---- a certificate over its plan

-- the three contents of a command that reads a certificate, and how it then ends
pub record CertRead (task : PlanLines → Certificate → Task) (image plan cert : List ℕ) (s0 s1 : Stock) (e : Ending) : Type 0 where
  pub lines : PlanLines
  pub certificate : Certificate
  pub read : AreRead image plan cert s0 s1 lines certificate
  pub ends : Ends (task lines certificate) e

pub cert_read : (task : PlanLines → Certificate → Task) (image plan cert : List ℕ) (s0 s1 : Stock) (given : List Handed) (e : Ending) → Given s0 s1 given → (e.status ≡ Input → ⊥) → Walks Ends (over_plan image plan (with_cert task cert)) given e
    → CertRead task image plan cert s0 s1 e
cert_read task image plan cert s0 s1 given e g fine walks =
    let i = took_one s0 s1 Image image (λ words. Reads (Plan words) plan (with_cert task cert)) given e g.each fine walks in
    let p = took_one s0 s1 (Plan i.value) plan (with_cert task cert) i.others e i.each fine i.goes_on in
    let c = took_one s0 s1 Cert cert (λ c. Does (task p.value c)) p.others e p.each fine p.goes_on in
    let d = does_only (task p.value c.value) c.others e c.goes_on in
    let only_cert : p.others ≡ handed_as Cert cert c.bytes ∷ [] = c.is ∙ ap (λ hs. handed_as Cert cert c.bytes ∷ hs) d.0 in
    let only_plan : i.others ≡ handed_as (Plan i.value) plan p.bytes ∷ handed_as Cert cert c.bytes ∷ [] = p.is ∙ ap (λ hs. handed_as (Plan i.value) plan p.bytes ∷ hs) only_cert in
    record {
      lines = p.value;
      certificate = c.value;
      read = record {
        words = i.value;
        image_bytes = i.bytes;
        plan_bytes = p.bytes;
        cert_bytes = c.bytes;
        handed = g.appended ∙ ap (λ hs. s0.handed ++ hs) (i.is ∙ ap (λ hs. handed_as Image image i.bytes ∷ hs) only_plan);
        image_told = i.told;
        plan_told = p.told;
        cert_told = c.told;
        image_is = i.spells;
        plan_is = p.spells;
        cert_is = c.spells;
      };
      ends = d.1;
    }

-- ---- check, Done

record IsYes (plan : PlanLines) (c : Certificate) (e : Ending) : Type 0 where
  bounds : List (ℕ × Bound)
  verdict : verdict_of plan c ≡ Ok bounds
  text : e.text ≡ yes_text bounds

yes_with : (plan : PlanLines) (c : Certificate) (v : Result (List (ℕ × Bound)) Refusal) → verdict_of plan c ≡ v → (verdict_ending v).status ≡ Done → IsYes plan c (verdict_ending v)
yes_with plan c (Ok bounds) is h = record { bounds = bounds; verdict = is; text = refl }
yes_with plan c (Err r) is h = absurd (cc)

yes_of : (plan : PlanLines) (c : Certificate) (e : Ending) → e ≡ checked plan c → Done ≡ e.status → IsYes plan c e
unfolding checked
yes_of plan c e is h = subst (IsYes plan c) (sym is) (yes_with plan c (verdict_of plan c) refl (sym (h ∙ ap (λ (x : Ending). x.status) is)))

pub verified : (image plan cert : List ℕ) (s0 s1 : Stock) (out0 out1 : Output) → Answered (Check image plan cert) s0 s1 Done out0 out1 → Verified image plan cert s0 s1 out0 out1
verified image plan cert s0 s1 out0 out1 a =
    let r = cert_read Checks image plan cert s0 s1 a.given a.ending a.is_given (not_input Done a.ending a.status done_fine) a.walks in
    let yes = yes_of r.lines r.certificate a.ending r.ends a.status in
    let judged = exact vals r.lines once (full r.lines r.certificate) in
    let local = judged.only_where yes.bounds yes.verdict in
    let same : Ok yes.bounds ≡ Ok (bounds_of r.lines r.certificate) = sym yes.verdict ∙ judged.yes local in
    let bounds : yes.bounds ≡ bounds_of r.lines r.certificate = cc same in
    let well = plan_is_well r.read.image_bytes r.read.words r.read.plan_bytes r.lines r.read.image_is r.read.plan_is in
    record {
      lines = r.lines;
      certificate = r.certificate;
      read = r.read;
      local = local;
      runs = local_holds r.lines r.certificate well (cells_ascend r.read.cert_bytes r.certificate r.read.cert_is) local;
      can_run = plan_can_run r.read.words r.read.plan_bytes r.lines well r.read.plan_is;
      put = subst (λ t. Wrote out0.text t out1.text) (yes.text ∙ ap yes_text bounds) a.put;
    }

-- ---- check, Refused

record IsNo (plan : PlanLines) (c : Certificate) (e : Ending) : Type 0 where
  refusal : Refusal
  verdict : verdict_of plan c ≡ Err refusal
  text : e.text ≡ no_text refusal

no_with : (plan : PlanLines) (c : Certificate) (v : Result (List (ℕ × Bound)) Refusal) → verdict_of plan c ≡ v → (verdict_ending v).status ≡ Refused → IsNo plan c (verdict_ending v)
no_with plan c (Ok bounds) is h = absurd (cc)
no_with plan c (Err r) is h = record { refusal = r; verdict = is; text = refl }

no_of : (plan : PlanLines) (c : Certificate) (e : Ending) → e ≡ checked plan c → Refused ≡ e.status → IsNo plan c e
unfolding checked
no_of plan c e is h = subst (IsNo plan c) (sym is) (no_with plan c (verdict_of plan c) refl (sym (h ∙ ap (λ (x : Ending). x.status) is)))

pub declined : (image plan cert : List ℕ) (s0 s1 : Stock) (out0 out1 : Output) → Answered (Check image plan cert) s0 s1 Refused out0 out1 → Declined image plan cert s0 s1 out0 out1
declined image plan cert s0 s1 out0 out1 a =
    let r = cert_read Checks image plan cert s0 s1 a.given a.ending a.is_given (not_input Refused a.ending a.status refused_fine) a.walks in
    let no = no_of r.lines r.certificate a.ending r.ends a.status in
    let judged = exact vals r.lines once (full r.lines r.certificate) in
    record {
      lines = r.lines;
      certificate = r.certificate;
      read = r.read;
      refusal = no.refusal;
      first = judged.first no.refusal no.verdict;
      fails = judged.not_where no.refusal no.verdict;
      put = subst (λ t. Wrote out0.text t out1.text) no.text a.put;
    }

-- ---- check of contents that are given

-- the text of a kind spells one value, and so none of its rules is broken
pub record IsOnly (kind : Kind) (bytes : List ℕ) (value : Value kind) : Type 0 where
  pub only : (v : Value kind) → Spells kind bytes v → v ≡ value
  pub sound : (fault : Fault kind) → Breaks kind bytes fault → ⊥

-- so a content that is given is read as its value
leads_given : (stock : Stock) (kind : Kind) (name : List ℕ) (value : Value kind) (next : Value kind → Work Task) (e : Ending) (given : IsGiven stock kind name value) → IsOnly kind given.bytes value
    → Leads stock.holds (Reads kind name next) e → Leads stock.holds (next value) e
leads_given stock kind name value next e g only (None, content, comes) =
    let long : limit_of kind < length g.bytes = subst (λ (c : Option (List ℕ)). IsSomeAnd c (λ x. limit_of kind < length x)) g.held content in
    let short = g.short in absurd (omega arith)
leads_given stock kind name value next e g only (Some bytes, content, inl broken) =
    let same : bytes ≡ g.bytes = same_Some bytes g.bytes (sym content.0 ∙ g.held) in
    absurd (only.sound broken.0 (subst (λ (b : List ℕ). Breaks kind b broken.0) same broken.1))
leads_given stock kind name value next e g only (Some bytes, content, inr v) =
    let same : bytes ≡ g.bytes = same_Some bytes g.bytes (sym content.0 ∙ g.held) in
    subst (λ (x : Value kind). Leads stock.holds (next x) e) (only.only v.0 (subst (λ (b : List ℕ). Spells kind b v.0) same v.1)) v.2

check_leads : (image plan cert : List ℕ) (stock : Stock) (lines : PlanLines) (certificate : Certificate) (e : Ending) → AreGiven image plan cert stock lines certificate
    → Leads stock.holds (over_plan image plan (with_cert Checks cert)) e → e ≡ checked lines certificate
check_leads image plan cert stock lines certificate e g leads =
    let one_image = image_reading g.image_given.bytes in
    let over = leads_given stock Image image g.words (λ words. Reads (Plan words) plan (with_cert Checks cert)) e g.image_given (record {
      only = λ w is. one_image.value w g.words is g.image_given.is;
      sound = λ fault. one_image.no_fault g.words fault.line fault.rule g.image_given.is;
    }) leads in
    let one_plan = plan_reading g.words g.plan_given.bytes in
    let judged = leads_given stock (Plan g.words) plan lines (with_cert Checks cert) e g.plan_given (record {
      only = λ p is. one_plan.value p lines is g.plan_given.is;
      sound = λ fault. one_plan.no_fault lines fault.line fault.rule g.plan_given.is;
    }) over in
    let one_cert = certificate_reading g.cert_given.bytes in
    leads_given stock Cert cert certificate (λ c. Does (Checks lines c)) e g.cert_given (record {
      only = λ c is. one_cert.value c certificate is g.cert_given.is;
      sound = λ fault. one_cert.no_fault certificate fault g.cert_given.is;
    }) judged

pub ends_as : (image plan cert : List ℕ) (stock now : Stock) (lines : PlanLines) (certificate : Certificate) (ends : Status) (out0 out1 : Output) → AreGiven image plan cert stock lines certificate
    → Settled (Check image plan cert) stock now ends out0 out1 → EndsAs (checked lines certificate) ends out0 out1
ends_as image plan cert stock now lines certificate ends out0 out1 g s =
    let is = check_leads image plan cert stock lines certificate s.ending g s.leads in
    subst (λ (e : Ending). EndsAs e ends out0 out1) is (record { status = s.status; put = s.put })
