-- What is still to be read at each stage of the program. No public clause speaks of it.
use Rattle.std.specs.Prelude.{◌≡◌, ℕ, ◌<◌, ◌≤◌, length, List, [], ◌∷◌, Option, Some, None, Result, Ok, Err, ◌⊎◌}
use Rattle.memory_plan.specs.Images.{ImageWords}
use Rattle.memory_plan.specs.Plans.{PlanLines}
use Rattle.memory_plan.specs.WellFormed.{IsWellFormed}
use Rattle.cert_format.specs.Limits.{IsWithinLimits}
use Rattle.viper_io.specs.Causes.{Stock, Handed}
use Rattle.viper_io.specs.declared.fault.Call.TheVariants.{Fetch}
use Rattle.viper_top.specs.declared.answer.Answer.{Answer}
use Rattle.viper_top.specs.declared.answer.Answer.TheVariants as answer
use Rattle.viper_top.specs.declared.answer.Stop.{Stop}
use Rattle.viper_top.specs.declared.answer.Stop.TheVariants.{Outside, Memory}
use Rattle.viper_top.specs.declared.command_line.Command.{Command}
use Rattle.viper_top.specs.declared.command_line.Command.TheVariants as command
use Rattle.viper_top.specs.declared.stage.OverPlan.{OverPlan}
use Rattle.viper_top.specs.declared.stage.OverPlan.TheVariants as then
use Rattle.viper_top.specs.declared.stage.OverImage.{OverImage}
use Rattle.viper_top.specs.declared.stage.OverImage.TheVariants as over
use Rattle.viper_top.specs.declared.stage.OverCert.{OverCert}
use Rattle.viper_top.specs.declared.stage.OverCert.TheVariants as with_it
use Rattle.viper_top.specs.declared.stage.Stage.{Stage}
use Rattle.viper_top.specs.declared.stage.Stage.TheVariants as stage
use Rattle.viper_top.specs.declared.stage.Next.{Next}
use Rattle.viper_top.specs.declared.stage.Next.TheVariants.{Due, Ready, Over}
use Rattle.viper_top.specs.declared.task.Task.{Task as Job}
use Rattle.viper_top.specs.declared.task.Task.TheVariants as job
use Rattle.viper_top.specs.Certificates.{Certificate}
use Rattle.viper_top.specs.Endings.{Ending, done, made, refused, input}
use Rattle.viper_top.specs.Orders.{Order, Check, Certify, Run, Upgrade, Assemble, Disasm, Sample}
use Rattle.viper_top.specs.Contents.{Kind, Image, Plan, Value, Fault, title_of, limit_of, long_text, Spells, Breaks, fault_text}
use Rattle.viper_top.specs.Works.{Work, Does, Reads, Walks, Awaits}
use Rattle.viper_top.specs.Commands.{Task, Checks, Upgrades, Certifies, Runs, Assembles, Lists, Samples, Ends, with_cert, with_script, alone, assemble_work}
use Rattle.viper_top.specs.Promises.{Given, Failed, Grew}

-- as the program holds them
abbrev pub order_view : Command → Order
order_view (command.Check i p c) = Check i.now p.now c.now
order_view (command.Run i p s n) = Run i.now p.now s.now n
order_view (command.Certify i p c) = Certify i.now p.now c.now
order_view (command.Upgrade i p c n) = Upgrade i.now p.now c.now n.now
order_view (command.Assemble s i) = Assemble s.now i.now
order_view (command.Disasm i) = Disasm i.now
order_view (command.Sample n) = Sample n

abbrev pub ending_of : Answer → Ending
ending_of (answer.Done text) = done text.items
ending_of (answer.Made bytes text) = made bytes.items text.items
ending_of (answer.Refused text) = refused text.items
ending_of (answer.Input text) = input text.items

-- what is done with a certificate
abbrev pub left_by : OverCert → PlanLines → Certificate → Task
left_by with_it.Check = Checks
left_by with_it.Upgrade = Upgrades

-- what comes after a plan
abbrev pub left_over : OverPlan → PlanLines → Work Task
left_over (then.Cert cert then) plan = with_cert (left_by then) cert.now plan
left_over then.Certify plan = alone Certifies plan
left_over (then.Script script steps) plan = with_script script.now steps plan

-- what comes after an image
abbrev pub left_behind : OverImage → ImageWords → Work Task
left_behind (over.Plan plan then) words = Reads (Plan words) plan.now (left_over then)
left_behind over.List words = Does (Lists words)

-- what is still to be read
abbrev pub left : Stage → Work Task
left (stage.Image image then) = Reads Image image.now (left_behind then)
left (stage.Plan image plan then) = Reads (Plan image) plan.now (left_over then)
left (stage.Cert plan cert then) = with_cert (left_by then) cert.now plan
left (stage.Script plan script steps) = with_script script.now steps plan
left (stage.Source source) = assemble_work source.now

-- how many contents that are at the most
abbrev pub count_left : Stage → ℕ
count_left (stage.Image image then) = 3
count_left (stage.Plan image plan then) = 2
count_left (stage.Cert plan cert then) = 1
count_left (stage.Script plan script steps) = 1
count_left (stage.Source source) = 1

-- what is to be done, as the program holds it
abbrev pub task_of : Job → Task
task_of (job.Check judged) = Checks judged.plan judged.cert
task_of (job.Upgrade judged) = Upgrades judged.plan judged.cert
task_of (job.Certify plan) = Certifies plan
task_of (job.Run plan script steps) = Runs plan script steps
task_of (job.Assemble image) = Assembles image
task_of (job.Disasm image) = Lists image
task_of (job.Sample loops) = Samples loops

-- what may be done: a certificate is judged within its limits, and searched for over a plan that was read
abbrev pub MayBegin : Job → Type 0
MayBegin (job.Check judged) = IsWithinLimits judged.cert
MayBegin (job.Upgrade judged) = IsWithinLimits judged.cert
MayBegin (job.Certify plan) = IsWellFormed plan
MayBegin (job.Run plan script steps) = Unit {0}
MayBegin (job.Assemble image) = Unit {0}
MayBegin (job.Disasm image) = Unit {0}
MayBegin (job.Sample loops) = Unit {0}

-- what is ready may be done
abbrev pub IsSound : Next → Type 0
IsSound (Due s) = Unit {0}
IsSound (Ready j) = MayBegin j
IsSound (Over a) = Unit {0}

-- the program goes on as the work does
abbrev pub Follows : Work Task → Next → Type 0
Follows work (Due s) = work ≡ left s
Follows work (Ready j) = work ≡ Does (task_of j)
Follows work (Over a) = ⊥

-- it ends with this text, since a content can't be read
abbrev pub IsInput : List ℕ → Next → Type 0
IsInput text (Due s) = ⊥
IsInput text (Ready j) = ⊥
IsInput text (Over a) = ending_of a ≡ input text

-- the stage asks for a content
abbrev pub Asks : Work Task → List ℕ → ℕ → List ℕ → Type 0
Asks (Does task) name limit title = ⊥
Asks (Reads kind n next) name limit title = (name ≡ n) × (limit ≡ limit_of kind) × (title ≡ title_of kind)

-- the bytes are within the limit of the content that is due
abbrev pub FitsIn : Work Task → List ℕ → Type 0
FitsIn (Does task) bytes = ⊥
FitsIn (Reads kind name next) bytes = length bytes ≤ limit_of kind

-- bytes of a kind were taken in
pub record TookBroken (kind : Kind) (bytes : List ℕ) (n : Next) : Type 0 where
  pub fault : Fault kind
  pub breaks : Breaks kind bytes fault
  pub is : IsInput (fault_text kind fault) n

pub record TookValue (kind : Kind) (next : Value kind → Work Task) (bytes : List ℕ) (n : Next) : Type 0 where
  pub value : Value kind
  pub spells : Spells kind bytes value
  pub follows : Follows (next value) n

abbrev pub Took : (kind : Kind) → (Value kind → Work Task) → List ℕ → Next → Type 0
Took kind next bytes n = TookBroken kind bytes n ⊎ TookValue kind next bytes n

abbrev pub TookIn : Work Task → List ℕ → Next → Type 0
TookIn (Does task) bytes n = ⊥
TookIn (Reads kind name next) bytes n = Took kind next bytes n

-- fewer are left
abbrev pub IsFewer : ℕ → Next → Type 0
IsFewer count (Due s) = count_left s < count
IsFewer count (Ready j) = Unit {0}
IsFewer count (Over a) = Unit {0}

-- ---- with the store

-- of a store only its lists and its count may have changed, which grew
pub record Stays (before now : Stock) : Type 0 where
  pub holds : (name : List ℕ) → now.holds name ≡ before.holds name
  pub grew : Grew before now

-- what was handed out leads to this ending
pub record Came (work : Work Task) (before now : Stock) (ending : Ending) : Type 0 where
  pub given : List Handed
  pub is_given : Given before now given
  pub walks : Walks Ends work given ending
  pub clean : now.failures ≡ before.failures

-- a fetch of the awaited name failed
pub record Stopped (work : Work Task) (before now : Stock) : Type 0 where
  pub given : List Handed
  pub is_given : Given before now given
  pub name : List ℕ
  pub awaited : Awaits work given name
  pub failed : Failed Fetch name before now

-- there was no memory
pub record Starved (before now : Stock) : Type 0 where
  pub clean : now.failures ≡ before.failures

abbrev pub CameTo : Work Task → Stock → Stock → Result Answer Stop → Type 0
CameTo work before now (Ok a) = Came work before now (ending_of a)
CameTo work before now (Err Outside) = Stopped work before now
CameTo work before now (Err Memory) = Starved before now

-- one content was handed out, or was too long, and the program goes on so
abbrev pub TookContent : (kind : Kind) → (Value kind → Work Task) → Option (List ℕ) → Next → Type 0
TookContent kind next None n = IsInput (long_text kind) n
TookContent kind next (Some bytes) n = Took kind next bytes n

pub record SteppedOn (kind : Kind) (name : List ℕ) (next : Value kind → Work Task) (before now : Stock) (n : Next) : Type 0 where
  pub bytes : Option (List ℕ)
  pub is_given : Given before now (record { name = name; limit = limit_of kind; bytes = bytes } ∷ [])
  pub took : TookContent kind next bytes n
  pub clean : now.failures ≡ before.failures

-- the fetch of a name failed
pub record FailedOn (name : List ℕ) (before now : Stock) : Type 0 where
  pub none : Given before now []
  pub failed : Failed Fetch name before now

abbrev pub SteppedTo : Work Task → Stock → Stock → Result Next Stop → Type 0
SteppedTo (Does task) before now r = ⊥
SteppedTo (Reads kind name next) before now (Ok n) = SteppedOn kind name next before now n
SteppedTo (Reads kind name next) before now (Err Outside) = FailedOn name before now
SteppedTo (Reads kind name next) before now (Err Memory) = Starved before now
