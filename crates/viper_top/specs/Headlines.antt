-- What Done and Refused mean of each command.
use Rattle.std.specs.Prelude.{◌≡◌, ℕ, ◌≤◌, List, [], ◌∷◌, ◌++◌, length, Some, true, false}
use Rattle.memory_plan.specs.Plans.{PlanLines}
use Rattle.memory_plan.specs.Runs.{CanRun}
use Rattle.viper_io.specs.Causes.{Stock, Output, Handed, Wrote, HoldsWhereTold}
use Rattle.viper_top.specs.declared.status.Status.{Status}
use Rattle.cert_format.specs.declared.version.Version.TheVariants.{Two}
use Rattle.cert_format.specs.Spelling.{IsCert, cert_bytes}
use Rattle.cert_checker.specs.declared.verdict.Refusal.{Refusal}
use Rattle.abs_step.specs.StepLaws.{Ascend}
use Rattle.viper_top.specs.Certificates.{Certificate, IsCertificate, Local, FailsFirst, bounds_of, full, Holds}
use Rattle.viper_top.specs.Texts.{yes_text, no_text}
use Rattle.val_dom.specs.Vals.{vals}
use Rattle.certifier.specs.Made.{IsMade}
use Rattle.viper_top.specs.Endings.{Ending, done}
use Rattle.viper_top.specs.Check.{checked}
use Rattle.sample_program.specs.Samples.{sample_plan}
use Rattle.viper_top.specs.Certify.{certified_text, EndsRefused}
use Rattle.viper_top.specs.Sample.{numbers_text}
use Rattle.memory_plan.specs.Images.{ImageWords, IsImage, image_text}
use Rattle.memory_plan.specs.PlanText.{IsPlan}
use Rattle.peripheral_run.specs.Scripts.{Scripted, IsScript}
use Rattle.peripheral_run.specs.Opening.{opening}
use Rattle.peripheral_run.specs.Runs.{Outcome, run_of}
use Rattle.peripheral_run.specs.ScriptRuns.{IsRunOver, has_stopped}
use Rattle.field_asm.specs.Sources.{IsSource}
use Rattle.disasm_view.specs.Listings.{listing}
use Rattle.viper_top.specs.Assemble.{words_text}
use Rattle.viper_top.specs.Run.{ran}
use Rattle.viper_top.specs.Upgrade.{packed_again, upgrade_text}
use Rattle.viper_top.specs.Contents.{Kind, Image, Plan, Cert, Script, Source, Value, limit_of, Spells}

-- the bytes of a name, as a content of that kind
abbrev pub handed_as : Kind → List ℕ → List ℕ → Handed
handed_as kind name bytes = record { name = name; limit = limit_of kind; bytes = Some bytes }

-- ---- check

-- These bytes were handed out in this call, in this order, and nothing else; where the store tells, they are
-- what the names hold; and they spell an image, a plan over it and a certificate.
pub record AreRead (image plan cert : List ℕ) (before now : Stock) (lines : PlanLines) (certificate : Certificate) : Type 0 where
  pub words : List (ℕ × ℕ)
  pub image_bytes : List ℕ
  pub plan_bytes : List ℕ
  pub cert_bytes : List ℕ
  pub handed : now.handed ≡ before.handed
      ++ handed_as Image image image_bytes ∷ handed_as (Plan words) plan plan_bytes ∷ handed_as Cert cert cert_bytes ∷ []
  pub image_told : before.tells ≡ true → before.holds image ≡ Some image_bytes
  pub plan_told : before.tells ≡ true → before.holds plan ≡ Some plan_bytes
  pub cert_told : before.tells ≡ true → before.holds cert ≡ Some cert_bytes
  pub image_is : IsImage image_bytes words
  pub plan_is : IsPlan words plan_bytes lines
  pub cert_is : IsCertificate cert_bytes certificate

-- Done: all local conditions hold of what was read; every fair run is safe, and each marker is bounded
-- by the number in its line, or unreached as its line says; there are such runs, and each goes on; and
-- the text of that yes was put.
pub record Verified (image plan cert : List ℕ) (before now : Stock) (out_before out_now : Output) : Type 0 where
  pub lines : PlanLines
  pub certificate : Certificate
  pub read : AreRead image plan cert before now lines certificate
  pub local : Local lines certificate
  pub runs : Holds lines (bounds_of lines certificate)
  pub can_run : CanRun lines
  pub put : Wrote out_before.text (yes_text (bounds_of lines certificate)) out_now.text

-- Refused: not all local conditions hold of what was read; this fails first, and its text was put.
pub record Declined (image plan cert : List ℕ) (before now : Stock) (out_before out_now : Output) : Type 0 where
  pub lines : PlanLines
  pub certificate : Certificate
  pub read : AreRead image plan cert before now lines certificate
  pub refusal : Refusal
  pub first : FailsFirst lines certificate refusal
  pub fails : Local lines certificate → ⊥
  pub put : Wrote out_before.text (no_text refusal) out_now.text

-- a name holds bytes of this kind that spell the value, within the limit
pub record IsGiven (stock : Stock) (kind : Kind) (name : List ℕ) (value : Value kind) : Type 0 where
  pub bytes : List ℕ
  pub held : stock.holds name ≡ Some bytes
  pub short : length bytes ≤ limit_of kind
  pub is : Spells kind bytes value

-- The store tells, and the three names hold an image, this plan over it and this certificate, each within its limit.
pub record AreGiven (image plan cert : List ℕ) (stock : Stock) (lines : PlanLines) (certificate : Certificate) : Type 0 where
  pub told : stock.tells ≡ true
  pub words : List (ℕ × ℕ)
  pub image_given : IsGiven stock Image image words
  pub plan_given : IsGiven stock (Plan words) plan lines
  pub cert_given : IsGiven stock Cert cert certificate

-- the status is that of the ending, whose text was put
pub record EndsAs (ending : Ending) (ends : Status) (out_before out_now : Output) : Type 0 where
  pub status : ends ≡ ending.status
  pub put : Wrote out_before.text ending.text out_now.text

-- ---- run

-- These bytes were handed out in this call, in this order, and nothing else; where the store tells, they are
-- what the names hold; and they spell an image, a plan over it and a script over that.
pub record AreFollowed (image plan script : List ℕ) (before now : Stock) (lines : PlanLines) (scripted : Scripted) : Type 0 where
  pub words : List (ℕ × ℕ)
  pub image_bytes : List ℕ
  pub plan_bytes : List ℕ
  pub script_bytes : List ℕ
  pub handed : now.handed ≡ before.handed
      ++ handed_as Image image image_bytes ∷ handed_as (Plan words) plan plan_bytes ∷ handed_as (Script lines) script script_bytes ∷ []
  pub image_told : before.tells ≡ true → before.holds image ≡ Some image_bytes
  pub plan_told : before.tells ≡ true → before.holds plan ≡ Some plan_bytes
  pub script_told : before.tells ≡ true → before.holds script ≡ Some script_bytes
  pub image_is : IsImage image_bytes words
  pub plan_is : IsPlan words plan_bytes lines
  pub script_is : IsScript lines script_bytes scripted

-- the run of the plan over the script
abbrev pub run_over : PlanLines → Scripted → ℕ → Outcome
run_over lines scripted steps = run_of lines steps scripted.answers (opening lines scripted.state)

-- where all local conditions hold of the plan with some certificate, the run doesn't stop the machine
abbrev pub IsUnstopped : PlanLines → Outcome → Type 0
IsUnstopped lines o = (c : Certificate) → Ascend c.cells → Local lines c → has_stopped o.ending ≡ false

-- The ending and the outputs that were put are those of the machine's run over the script that was read, which
-- is one of the plan's fair runs.
pub record Followed (image plan script : List ℕ) (steps : ℕ) (before now : Stock) (ends : Status) (out_before out_now : Output) : Type 0 where
  pub lines : PlanLines
  pub scripted : Scripted
  pub read : AreFollowed image plan script before now lines scripted
  pub status : ends ≡ (ran lines scripted steps).status
  pub put : Wrote out_before.text (ran lines scripted steps).text out_now.text
  pub runs : IsRunOver lines steps scripted.answers (opening lines scripted.state) (run_over lines scripted steps)
  pub unstopped : IsUnstopped lines (run_over lines scripted steps)

-- ---- certify

-- These bytes were handed out in this call, in this order, and nothing else; where the store tells, they are
-- what the names hold; and they spell an image and a plan over it.
pub record ArePlanned (image plan : List ℕ) (before now : Stock) (lines : PlanLines) : Type 0 where
  pub words : List (ℕ × ℕ)
  pub image_bytes : List ℕ
  pub plan_bytes : List ℕ
  pub handed : now.handed ≡ before.handed ++ handed_as Image image image_bytes ∷ handed_as (Plan words) plan plan_bytes ∷ []
  pub image_told : before.tells ≡ true → before.holds image ≡ Some image_bytes
  pub plan_told : before.tells ≡ true → before.holds plan ≡ Some plan_bytes
  pub image_is : IsImage image_bytes words
  pub plan_is : IsPlan words plan_bytes lines

-- Done: the certificate of the plan's least solution, packed, stands under the third name in version 2, where
-- the store tells. All local conditions hold of it, so a check of these bytes says yes, and every run is as its
-- bounds claim, which were put.
pub record Certified (image plan cert : List ℕ) (before now : Stock) (out_before out_now : Output) : Type 0 where
  pub lines : PlanLines
  pub read : ArePlanned image plan before now lines
  pub certificate : Certificate
  pub made_of : IsMade vals lines certificate
  pub local : Local lines certificate
  pub placed : HoldsWhereTold now.tells (now.holds cert) (cert_bytes Two certificate)
  pub spelled : IsCert Two (cert_bytes Two certificate) certificate
  pub checks : checked lines certificate ≡ done (yes_text (bounds_of lines certificate))
  pub runs : Holds lines (bounds_of lines certificate)
  pub put : Wrote out_before.text (certified_text (length certificate.nodes) (bounds_of lines certificate)) out_now.text

-- Refused: a cause that is true of the plan that was read, and its text was put.
pub record Uncertified (image plan : List ℕ) (before now : Stock) (out_before out_now : Output) : Type 0 where
  pub lines : PlanLines
  pub read : ArePlanned image plan before now lines
  pub ending : Ending
  pub refused_so : EndsRefused lines ending
  pub put : Wrote out_before.text ending.text out_now.text

-- ---- sample

-- Done: nothing was handed out; the certificate is that of the sample's plan, which a check accepts, and its
-- numbers were put.
pub record Sampled (loops : ℕ) (before now : Stock) (out_before out_now : Output) : Type 0 where
  pub handed : now.handed ≡ before.handed
  pub certificate : Certificate
  pub made_of : IsMade vals (sample_plan loops) certificate
  pub local : Local (sample_plan loops) certificate
  pub checks : checked (sample_plan loops) certificate ≡ done (yes_text (bounds_of (sample_plan loops) certificate))
  pub put : Wrote out_before.text (numbers_text loops certificate) out_now.text

-- Refused: a cause that is true of the sample's plan, and its text was put.
pub record Unsampled (loops : ℕ) (before now : Stock) (out_before out_now : Output) : Type 0 where
  pub handed : now.handed ≡ before.handed
  pub ending : Ending
  pub refused_so : EndsRefused (sample_plan loops) ending
  pub put : Wrote out_before.text ending.text out_now.text

-- ---- upgrade

-- Done: the bytes of what was read, filled and then packed, stand under the new name in version 2, where the
-- store tells; they spell that certificate; filling it gives what filling the one that was read gives; and how
-- many nodes and bare nodes it has was put.
pub record Upgraded (image plan cert new : List ℕ) (before now : Stock) (out_before out_now : Output) : Type 0 where
  pub lines : PlanLines
  pub certificate : Certificate
  pub read : AreRead image plan cert before now lines certificate
  pub placed : HoldsWhereTold now.tells (now.holds new) (cert_bytes Two (packed_again lines certificate))
  pub spelled : IsCert Two (cert_bytes Two (packed_again lines certificate)) (packed_again lines certificate)
  pub same : full lines (packed_again lines certificate) ≡ full lines certificate
  pub put : Wrote out_before.text (upgrade_text (packed_again lines certificate)) out_now.text

-- ---- assemble and disasm

-- These bytes of the kind were handed out in this call, and nothing else; where the store tells, they are
-- what the name holds; and they spell the value.
pub record IsOnlyRead (kind : Kind) (name : List ℕ) (before now : Stock) (value : Value kind) : Type 0 where
  pub bytes : List ℕ
  pub handed : now.handed ≡ before.handed ++ handed_as kind name bytes ∷ []
  pub told : before.tells ≡ true → before.holds name ≡ Some bytes
  pub is : Spells kind bytes value

-- Done: what was read is a source of an image, whose text stands under the other name where the store tells,
-- and the number of its words was put.
pub record Assembled (source image : List ℕ) (before now : Stock) (out_before out_now : Output) : Type 0 where
  pub words : ImageWords
  pub read : IsOnlyRead Source source before now words
  pub placed : HoldsWhereTold now.tells (now.holds image) (image_text words)
  pub put : Wrote out_before.text (words_text words) out_now.text

-- Done: what was read is an image, whose listing was put, which is a source of that image within the limit of one.
pub record Listed (image : List ℕ) (before now : Stock) (out_before out_now : Output) : Type 0 where
  pub words : ImageWords
  pub read : IsOnlyRead Image image before now words
  pub put : Wrote out_before.text (listing words) out_now.text
  pub assembles : IsSource (listing words) words
  pub short : length (listing words) ≤ limit_of Source
