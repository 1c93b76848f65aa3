-- The contents that names hold lead a command to one ending.
use Rattle.std.proofs.Common.{◌≡◌, ◌∙◌, ℕ, ◌<◌, ◌≤◌, List, [], length, Option, Some, None, refl, sym, ap, subst, arith, inl, inr}
use Rattle.std.specs.Prelude.{IsSomeAnd, codes}
use Rattle.memory_plan.specs.Images.{ImageWords}
use Rattle.memory_plan.specs.Plans.{PlanLines}
use Rattle.memory_plan.proofs.OneValue.{image_reading, plan_reading}
use Rattle.field_asm.proofs.OneSource.{source_reading}
use Rattle.peripheral_run.proofs.OneScript.{script_reading}
use Rattle.viper_top.specs.Endings.{Ending, input}
use Rattle.viper_top.specs.Orders.{Order, Check, Certify, Run, Upgrade, Assemble, Disasm, Sample}
use Rattle.viper_top.specs.Contents.{Kind, Image, Plan, Cert, Script, Source, Value, Fault, AtLine, AtByte, limit_of, Spells, Breaks, image_rule, plan_rule, cert_rule, script_rule, source_rule, line_text, offset_text, fault_text}
use Rattle.viper_top.specs.Works.{Work, Does, Reads, Comes}
use Rattle.viper_top.specs.Commands.{Task, Checks, Upgrades, Runs, Assembles, Lists, over_plan, with_cert, with_script}
use Rattle.viper_top.specs.Promises.{IsContent, Leads, HasFixedEnding, HasOneEnding}
use Rattle.viper_top.proofs.OneCertificate.{certificate_reading}

-- a name has one content under a limit
too_long : (limit : ℕ) (content : Option (List ℕ)) (bytes : List ℕ) → IsContent limit content None → IsContent limit content (Some bytes) → ⊥
too_long limit content bytes long short =
    let more : limit < length bytes = subst (λ (c : Option (List ℕ)). IsSomeAnd c (λ x. limit < length x)) short.0 long in
    let fits : length bytes ≤ limit = short.1 in
    omega (arith, more, fits)

one_content : (limit : ℕ) (content c d : Option (List ℕ)) → IsContent limit content c → IsContent limit content d → c ≡ d
one_content limit content None None a b = refl
one_content limit content None (Some bytes) a b = absurd (too_long limit content bytes a b)
one_content limit content (Some bytes) None a b = absurd (too_long limit content bytes b a)
one_content limit content (Some bytes) (Some others) a b = sym a.0 ∙ b.0

-- bytes of a kind have one reading: one value, or faults of one text
record IsReadOnce (kind : Kind) (bytes : List ℕ) : Type 0 where
  value : (v w : Value kind) → Spells kind bytes v → Spells kind bytes w → v ≡ w
  apart : (v : Value kind) (fault : Fault kind) → Spells kind bytes v → Breaks kind bytes fault → ⊥
  text : (fault other : Fault kind) → Breaks kind bytes fault → Breaks kind bytes other → fault_text kind fault ≡ fault_text kind other

-- so what comes after a content decides
after_one : (holds : List ℕ → Option (List ℕ)) (kind : Kind) (name : List ℕ) (next : Value kind → Work Task) (e f : Ending) → ((bytes : List ℕ) → IsReadOnce kind bytes)
    → ((bytes : List ℕ) (v : Value kind) → Spells kind bytes v → Leads holds (next v) e → Leads holds (next v) f → e ≡ f)
    → Leads holds (Reads kind name next) e → Leads holds (Reads kind name next) f → e ≡ f
after_one holds kind name next e f once rest (c, is_c, comes_c) (d, is_d, comes_d) =
    by c comes_c (subst (λ (x : Option (List ℕ)). Comes kind x [] f (λ v. Leads holds (next v) f)) (one_content (limit_of kind) (holds name) d c is_d is_c) comes_d)
  where
    both : (bytes : List ℕ) → IsReadOnce kind bytes → Comes kind (Some bytes) [] e (λ v. Leads holds (next v) e) → Comes kind (Some bytes) [] f (λ v. Leads holds (next v) f) → e ≡ f
    both bytes one (inl a) (inl b) = a.3 ∙ ap input (one.text a.0 b.0 a.1 b.1) ∙ sym b.3
    both bytes one (inl a) (inr b) = absurd (one.apart b.0 a.0 b.1 a.1)
    both bytes one (inr a) (inl b) = absurd (one.apart a.0 b.0 a.1 b.1)
    both bytes one (inr a) (inr b) = rest bytes a.0 a.1 a.2 (subst (λ (v : Value kind). Leads holds (next v) f) (one.value b.0 a.0 b.1 a.1) b.2)

    by : (c : Option (List ℕ)) → Comes kind c [] e (λ v. Leads holds (next v) e) → Comes kind c [] f (λ v. Leads holds (next v) f) → e ≡ f
    by None a b = a.1 ∙ sym b.1
    by (Some bytes) a b = both bytes (once bytes) a b

-- ---- the kinds

-- the text of a fault at a line
same_line : {R : Type 0} (title : List ℕ) (rule_text : R → List ℕ) (fault other : AtLine R) → (fault.line ≡ other.line) × (fault.rule ≡ other.rule)
    → line_text title fault.line (rule_text fault.rule) ≡ line_text title other.line (rule_text other.rule)
same_line {R} title rule_text fault other (line, rule) = ap (λ (n : ℕ). line_text title n (rule_text fault.rule)) line ∙ ap (λ (r : R). line_text title other.line (rule_text r)) rule

image_once : (bytes : List ℕ) → IsReadOnce Image bytes
image_once bytes =
    let one = image_reading bytes in
    record {
      value = one.value;
      apart = λ v fault. one.no_fault v fault.line fault.rule;
      text = λ fault other a b. same_line (codes "image") image_rule fault other (one.fault fault.line other.line fault.rule other.rule a b);
    }

plan_once : (image : ImageWords) (bytes : List ℕ) → IsReadOnce (Plan image) bytes
plan_once image bytes =
    let one = plan_reading image bytes in
    record {
      value = one.value;
      apart = λ v fault. one.no_fault v fault.line fault.rule;
      text = λ fault other a b. same_line (codes "plan") plan_rule fault other (one.fault fault.line other.line fault.rule other.rule a b);
    }

cert_once : (bytes : List ℕ) → IsReadOnce Cert bytes
cert_once bytes =
    let one = certificate_reading bytes in
    record { value = one.value; apart = λ v fault. one.no_fault v fault; text = λ fault other a b. ap (λ (f : AtByte). offset_text (codes "cert") f.offset (cert_rule f.rule)) (one.fault fault other a b) }

script_once : (plan : PlanLines) (bytes : List ℕ) → IsReadOnce (Script plan) bytes
script_once plan bytes =
    let one = script_reading plan bytes in
    record {
      value = one.value;
      apart = λ v fault. one.no_fault v fault.line fault.rule;
      text = λ fault other a b. same_line (codes "script") script_rule fault other (one.fault fault.line other.line fault.rule other.rule a b);
    }

source_once : (bytes : List ℕ) → IsReadOnce Source bytes
source_once bytes =
    let one = source_reading bytes in
    record {
      value = one.value;
      apart = λ v fault. one.no_fault v fault.line fault.rule;
      text = λ fault other a b. same_line (codes "source") source_rule fault other (one.fault fault.line other.line fault.rule other.rule a b);
    }

-- ---- the commands

-- after an image and a plan over it
over_plan_once : (holds : List ℕ → Option (List ℕ)) (image plan : List ℕ) (next : PlanLines → Work Task) (e f : Ending)
    → ((lines : PlanLines) → Leads holds (next lines) e → Leads holds (next lines) f → e ≡ f)
    → Leads holds (over_plan image plan next) e → Leads holds (over_plan image plan next) f → e ≡ f
over_plan_once holds image plan next e f rest =
    after_one holds Image image (λ words. Reads (Plan words) plan next) e f image_once
    (λ bytes words is. after_one holds (Plan words) plan next e f (plan_once words) (λ text lines read. rest lines))

pub one_ending : (order : Order) → HasFixedEnding order → HasOneEnding order
one_ending (Check image plan cert) fixed holds e f =
    over_plan_once holds image plan (with_cert Checks cert) e f
    (λ lines. after_one holds Cert cert (λ c. Does (Checks lines c)) e f cert_once (λ spelling c spelled a b. a ∙ sym b))
one_ending (Certify image plan cert) fixed holds e f = absurd fixed
one_ending (Run image plan script steps) fixed holds e f =
    over_plan_once holds image plan (with_script script steps) e f
    (λ lines. after_one holds (Script lines) script (λ s. Does (Runs lines s steps)) e f (script_once lines) (λ spelling s spelled a b. a ∙ sym b))
one_ending (Upgrade image plan cert new) fixed holds e f =
    over_plan_once holds image plan (with_cert Upgrades cert) e f
    (λ lines. after_one holds Cert cert (λ c. Does (Upgrades lines c)) e f cert_once (λ spelling c spelled a b. a.is ∙ sym b.is))
one_ending (Assemble source image) fixed holds e f =
    after_one holds Source source (λ words. Does (Assembles words)) e f source_once (λ bytes words is a b. a ∙ sym b)
one_ending (Sample loops) fixed holds e f = absurd fixed
one_ending (Disasm image) fixed holds e f =
    after_one holds Image image (λ words. Does (Lists words)) e f image_once (λ bytes words is a b. a ∙ sym b)
