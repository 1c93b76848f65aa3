-- The kinds of contents: what texts call them, their limits, what their bytes spell, and what breaks their grammar.
use Rattle.std.specs.Prelude.{ℕ, List, ◌++◌, codes, decimal}
use Rattle.memory_plan.specs.Plans.{PlanLines}
use Rattle.memory_plan.specs.Images.{IsImage, IsImageFault}
use Rattle.memory_plan.specs.PlanText.{IsPlan, IsPlanFault}
use Rattle.memory_plan.specs.declared.text_fault.ImageRule.{ImageRule}
use Rattle.memory_plan.specs.declared.text_fault.ImageRule.TheVariants as image_rules
use Rattle.memory_plan.specs.declared.text_fault.ImageFault.TheVariants as image_faults
use Rattle.memory_plan.specs.declared.text_fault.PlanRule.{PlanRule}
use Rattle.memory_plan.specs.declared.text_fault.PlanRule.TheVariants as plan_rules
use Rattle.memory_plan.specs.declared.text_fault.PlanFault.TheVariants as plan_faults
use Rattle.field_asm.specs.Sources.{IsSource, source_fault}
use Rattle.field_asm.specs.declared.fault.AsmRule.{AsmRule}
use Rattle.field_asm.specs.declared.fault.AsmRule.TheVariants as source_rules
use Rattle.peripheral_run.specs.Scripts.{Scripted, IsScript, IsScriptFault}
use Rattle.peripheral_run.specs.declared.fault.ScriptRule.{ScriptRule}
use Rattle.peripheral_run.specs.declared.fault.ScriptRule.TheVariants as script_rules
use Rattle.peripheral_run.specs.declared.fault.ScriptFault.TheVariants as script_faults
use Rattle.cert_format.specs.ReadCerts.{IsFirstFault}
use Rattle.cert_format.specs.declared.fault.CertRule.{CertRule}
use Rattle.cert_format.specs.declared.fault.CertRule.TheVariants as cert_rules
use Rattle.cert_format.specs.declared.fault.CertFault.TheVariants as cert_faults
use Rattle.viper_top.specs.declared.stage.TheConstants.{IMAGE_LIMIT, PLAN_LIMIT, CERT_LIMIT, SCRIPT_LIMIT, SOURCE_LIMIT}
use Rattle.viper_top.specs.Certificates.{Certificate, IsCertificate}

-- a plan is read over its image, a script over its plan
pub data Kind : Type 0 where
  Image : Kind
  Plan : List (ℕ × ℕ) → Kind
  Cert : Kind
  Script : PlanLines → Kind
  Source : Kind

-- what the bytes of a kind spell
abbrev pub Value : Kind → Type 0
Value Image = List (ℕ × ℕ)
Value (Plan image) = PlanLines
Value Cert = Certificate
Value (Script plan) = Scripted
Value Source = List (ℕ × ℕ)

-- what texts call it
abbrev pub title_of : Kind → List ℕ
title_of Image = codes "image"
title_of (Plan image) = codes "plan"
title_of Cert = codes "cert"
title_of (Script plan) = codes "script"
title_of Source = codes "source"

-- how many bytes it has at the most
abbrev pub limit_of : Kind → ℕ
limit_of Image = IMAGE_LIMIT
limit_of (Plan image) = PLAN_LIMIT
limit_of Cert = CERT_LIMIT
limit_of (Script plan) = SCRIPT_LIMIT
limit_of Source = SOURCE_LIMIT

-- what bytes spell
abbrev pub Spells : (kind : Kind) → List ℕ → Value kind → Type 0
Spells Image = IsImage
Spells (Plan image) = IsPlan image
Spells Cert = IsCertificate
Spells (Script plan) = IsScript plan
Spells Source = IsSource

-- the first line that breaks a rule, and the rule
pub record AtLine (R : Type 0) : Type 0 where
  pub line : ℕ
  pub rule : R

-- the offset of the first field that breaks a rule, in bytes from 0, and the rule
pub record AtByte : Type 0 where
  pub offset : ℕ
  pub rule : CertRule

-- the faults of a kind: where its bytes break its grammar, and which rule
abbrev pub Fault : Kind → Type 0
Fault Image = AtLine ImageRule
Fault (Plan image) = AtLine PlanRule
Fault Cert = AtByte
Fault (Script plan) = AtLine ScriptRule
Fault Source = AtLine AsmRule

-- the bytes break the grammar of their kind so
abbrev pub Breaks : (kind : Kind) → List ℕ → Fault kind → Type 0
Breaks Image bytes fault = IsImageFault bytes (image_faults.At fault.line fault.rule)
Breaks (Plan image) bytes fault = IsPlanFault image bytes (plan_faults.At fault.line fault.rule)
Breaks Cert bytes fault = IsFirstFault bytes (cert_faults.At fault.offset fault.rule)
Breaks (Script plan) bytes fault = IsScriptFault plan bytes (script_faults.At fault.line fault.rule)
Breaks Source bytes fault = source_fault bytes fault.line fault.rule

-- the names of the rules
abbrev pub image_rule : ImageRule → List ℕ
image_rule image_rules.Form = codes "Form"
image_rule image_rules.Order = codes "Order"

abbrev pub plan_rule : PlanRule → List ℕ
plan_rule plan_rules.Form = codes "Form"
plan_rule plan_rules.Number = codes "Number"
plan_rule plan_rules.Order = codes "Order"
plan_rule plan_rules.Limit = codes "Limit"
plan_rule plan_rules.Span = codes "Span"
plan_rule plan_rules.Image = codes "Image"
plan_rule plan_rules.Code = codes "Code"
plan_rule plan_rules.Marker = codes "Marker"
plan_rule plan_rules.Start = codes "Start"

abbrev pub cert_rule : CertRule → List ℕ
cert_rule cert_rules.Length = codes "Length"
cert_rule cert_rules.Magic = codes "Magic"
cert_rule cert_rules.Version = codes "Version"
cert_rule cert_rules.Range = codes "Range"
cert_rule cert_rules.Order = codes "Order"
cert_rule cert_rules.Value = codes "Value"
cert_rule cert_rules.Trailing = codes "Trailing"
cert_rule cert_rules.Bare = codes "Bare"

abbrev pub script_rule : ScriptRule → List ℕ
script_rule script_rules.Form = codes "Form"
script_rule script_rules.Start = codes "Start"

abbrev pub source_rule : AsmRule → List ℕ
source_rule source_rules.Form = codes "Form"
source_rule source_rules.Name = codes "Name"
source_rule source_rules.Number = codes "Number"
source_rule source_rules.Twice = codes "Twice"
source_rule source_rules.Range = codes "Range"
source_rule source_rules.Label = codes "Label"

-- the text of a rule that a line breaks
unfoldable pub line_text : List ℕ → ℕ → List ℕ → List ℕ
line_text title line rule = title ++ codes " line " ++ decimal line ++ codes " " ++ rule ++ codes "\n"

-- the text of a rule that a field breaks
unfoldable pub offset_text : List ℕ → ℕ → List ℕ → List ℕ
offset_text title offset rule = title ++ codes " offset " ++ decimal offset ++ codes " " ++ rule ++ codes "\n"

-- the text of a fault
abbrev pub fault_text : (kind : Kind) → Fault kind → List ℕ
fault_text Image fault = line_text (title_of Image) fault.line (image_rule fault.rule)
fault_text (Plan image) fault = line_text (title_of (Plan image)) fault.line (plan_rule fault.rule)
fault_text Cert fault = offset_text (title_of Cert) fault.offset (cert_rule fault.rule)
fault_text (Script plan) fault = line_text (title_of (Script plan)) fault.line (script_rule fault.rule)
fault_text Source fault = line_text (title_of Source) fault.line (source_rule fault.rule)

-- the text for more bytes than the limit
abbrev pub long_text : Kind → List ℕ
long_text kind = title_of kind ++ codes " long\n"
