-- The commands: what each reads, and how it may end.
use Rattle.std.specs.Prelude.{◌≡◌, ℕ, List}
use Rattle.memory_plan.specs.Images.{ImageWords}
use Rattle.memory_plan.specs.Plans.{PlanLines}
use Rattle.peripheral_run.specs.Scripts.{Scripted}
use Rattle.viper_top.specs.Certificates.{Certificate}
use Rattle.viper_top.specs.Endings.{Ending}
use Rattle.viper_top.specs.Orders.{Order, Check, Certify, Run, Upgrade, Assemble, Disasm, Sample}
use Rattle.viper_top.specs.Contents.{Image, Plan, Cert, Script, Source}
use Rattle.viper_top.specs.Works.{Work, Does, Reads}
use Rattle.viper_top.specs.Check.{checked}
use Rattle.viper_top.specs.Run.{ran}
use Rattle.viper_top.specs.Assemble.{assembled}
use Rattle.viper_top.specs.Disasm.{listed}
use Rattle.viper_top.specs.Upgrade.{EndsUpgraded}
use Rattle.viper_top.specs.Certify.{Certifies as CertifiesTo}
use Rattle.viper_top.specs.Sample.{Samples as SamplesTo}

-- what is to be done once all is read
pub data Task : Type 0 where
  Checks : PlanLines → Certificate → Task
  Upgrades : PlanLines → Certificate → Task
  Certifies : PlanLines → Task
  Runs : PlanLines → Scripted → ℕ → Task
  Assembles : ImageWords → Task
  Lists : ImageWords → Task
  Samples : (loops : ℕ) → Task

-- how a task may end
abbrev pub Ends : Task → Ending → Type 0
Ends (Checks plan cert) ending = ending ≡ checked plan cert
Ends (Upgrades plan cert) ending = EndsUpgraded plan cert ending
Ends (Certifies plan) ending = CertifiesTo plan ending
Ends (Runs plan script steps) ending = ending ≡ ran plan script steps
Ends (Assembles words) ending = ending ≡ assembled words
Ends (Lists words) ending = ending ≡ listed words
Ends (Samples loops) ending = SamplesTo loops ending

-- an image, and a plan over it
abbrev pub over_plan : List ℕ → List ℕ → (PlanLines → Work Task) → Work Task
over_plan image plan next = Reads Image image (λ words. Reads (Plan words) plan next)

-- a certificate over a plan
abbrev pub with_cert : (PlanLines → Certificate → Task) → List ℕ → PlanLines → Work Task
with_cert task cert plan = Reads Cert cert (λ c. Does (task plan c))

-- nothing more over a plan
abbrev pub alone : (PlanLines → Task) → PlanLines → Work Task
alone task plan = Does (task plan)

-- a script over a plan
abbrev pub with_script : List ℕ → ℕ → PlanLines → Work Task
with_script script steps plan = Reads (Script plan) script (λ s. Does (Runs plan s steps))

-- a source
abbrev pub assemble_work : List ℕ → Work Task
assemble_work source = Reads Source source (λ words. Does (Assembles words))

-- what each command reads
abbrev pub work_of : Order → Work Task
work_of (Check image plan cert) = over_plan image plan (with_cert Checks cert)
work_of (Certify image plan cert) = over_plan image plan (alone Certifies)
work_of (Run image plan script steps) = over_plan image plan (with_script script steps)
work_of (Upgrade image plan cert new) = over_plan image plan (with_cert Upgrades cert)
work_of (Assemble source image) = assemble_work source
work_of (Disasm image) = Reads Image image (λ words. Does (Lists words))
work_of (Sample loops) = Does (Samples loops)
