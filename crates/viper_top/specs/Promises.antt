-- What each status means, of any command.
use Rattle.std.specs.Prelude.{◌≡◌, ℕ, ◌<◌, ◌≤◌, List, ◌++◌, [], ◌∷◌, length, take, Option, Some, None, true, All, codes, IsSomeAnd, ◌⊎◌}
use Rattle.viper_io.specs.Causes.{Stock, Output, Failure, Handed, Rose, risen, Wrote, HoldsWhereTold}
use Rattle.viper_io.specs.declared.fault.Call.{Call}
use Rattle.viper_io.specs.declared.fault.Call.TheVariants.{Fetch, Place}
use Rattle.viper_top.specs.declared.status.Status.{Status}
use Rattle.viper_top.specs.declared.status.Status.TheVariants.{Done, Refused, Usage, Input, Outside, Memory}
use Rattle.viper_top.specs.Endings.{Ending}
use Rattle.viper_top.specs.Orders.{Order, Check, Certify, Run, Upgrade, Assemble, Disasm, Sample, target_of}
use Rattle.viper_top.specs.Contents.{limit_of}
use Rattle.viper_top.specs.Works.{Work, Does, Reads, Comes, Walks, Awaits}
use Rattle.viper_top.specs.Commands.{Task, Ends, work_of}

-- of the command, where the words are one
abbrev pub OfOrder : Option Order → (Order → Type 0) → Type 0
OfOrder None P = ⊥
OfOrder (Some order) P = P order

-- what is handed out under a limit: what the name holds, within it, or that it holds more
abbrev pub IsContent : ℕ → Option (List ℕ) → Option (List ℕ) → Type 0
IsContent limit content (Some bytes) = (content ≡ Some bytes) × (length bytes ≤ limit)
IsContent limit content None = IsSomeAnd content (λ c. limit < length c)

-- what was handed out is what the name held, where the store tells it; and where it was too long, the count of long contents rose
pub record IsTrue (before now : Stock) (h : Handed) : Type 0 where
  pub told : before.tells ≡ true → IsContent h.limit (before.holds h.name) h.bytes
  pub long : h.bytes ≡ None → Rose before.longs now.longs

-- this was handed out in between
pub record Given (before now : Stock) (given : List Handed) : Type 0 where
  pub appended : now.handed ≡ before.handed ++ given
  pub each : All (IsTrue before now) given

-- the call failed in between, and no other
pub record Failed (call : Call) (name : List ℕ) (before now : Stock) : Type 0 where
  pub appended : now.failures ≡ before.failures ++ record { call = call; name = name } ∷ []

-- bytes to place stand under the name that is placed, where the store tells it
abbrev pub IsPlaced : Option (List ℕ) → Option (List ℕ) → Stock → Type 0
IsPlaced (Some name) (Some bytes) now = HoldsWhereTold now.tells (now.holds name) bytes
IsPlaced target bytes now = Unit {0}

-- The command ended so for what was handed out in this call; its text was put and its bytes were placed.
pub record Answered (order : Order) (before now : Stock) (ends : Status) (out_before out_now : Output) : Type 0 where
  pub given : List Handed
  pub is_given : Given before now given
  pub ending : Ending
  pub walks : Walks Ends (work_of order) given ending
  pub status : ends ≡ ending.status
  pub put : Wrote out_before.text ending.text out_now.text
  pub placed : IsPlaced (target_of order) ending.bytes now

-- A fetch failed: of the name that was awaited once all that was handed out was read.
pub record FetchFailed (order : Order) (before now : Stock) : Type 0 where
  pub given : List Handed
  pub is_given : Given before now given
  pub name : List ℕ
  pub awaited : Awaits (work_of order) given name
  pub failed : Failed Fetch name before now

-- the place of the name that the command places failed
pub record PlaceFailed (order : Order) (before now : Stock) : Type 0 where
  pub name : List ℕ
  pub target : target_of order ≡ Some name
  pub failed : Failed Place name before now

-- the store failed once, in a fetch or in the place, and the sink didn't
pub record StoreFailed (order : Order) (before now : Stock) (out_before out_now : Output) : Type 0 where
  pub call : FetchFailed order before now ⊎ PlaceFailed order before now
  pub sink : out_now.faults ≡ out_before.faults

-- the sink failed once, and the store didn't
pub record SinkFailed (before now : Stock) (out_before out_now : Output) : Type 0 where
  pub put : out_now.faults ≡ risen out_before.faults
  pub store : now.failures ≡ before.failures

-- what makes the status Outside
abbrev pub FailedOutside : Option Order → Stock → Stock → Output → Output → Type 0
FailedOutside order before now out_before out_now =
    OfOrder order (λ o. StoreFailed o before now out_before out_now) ⊎ SinkFailed before now out_before out_now

-- an ending that the command may have for what was handed out in this call
pub record MayEnd (order : Order) (before now : Stock) (ending : Ending) : Type 0 where
  pub given : List Handed
  pub is_given : Given before now given
  pub walks : Walks Ends (work_of order) given ending

-- `usage`, and what may follow it
abbrev pub IsUsage : List ℕ → Type 0
IsUsage text = (more : List ℕ) × (text ≡ codes "usage\n" ++ more)

-- such a text was put
abbrev pub WroteUsage : Option (List ℕ) → Option (List ℕ) → Type 0
WroteUsage before now = (text : List ℕ) × IsUsage text × Wrote before text now

-- a text that the command may put: that of such an ending, and `usage` where the words are no command
abbrev pub MayPut : Option Order → Stock → Stock → List ℕ → Type 0
MayPut None before now text = IsUsage text
MayPut (Some order) before now text = (ending : Ending) × MayEnd order before now ending × (text ≡ ending.text)

-- the sink failed, and took the first bytes of such a text
pub record LeftFront (order : Option Order) (before now : Stock) (out_before out_now : Output) : Type 0 where
  pub failed : out_now.faults ≡ risen out_before.faults
  pub text : List ℕ
  pub may : MayPut order before now text
  pub count : ℕ
  pub put : Wrote out_before.text (take count text) out_now.text

-- the name holds the bytes of an ending that the command may have, where the store tells it
pub record HoldsMade (order : Order) (before now : Stock) (name : List ℕ) : Type 0 where
  pub ending : Ending
  pub may : MayEnd order before now ending
  pub bytes : List ℕ
  pub made : ending.bytes ≡ Some bytes
  pub held : HoldsWhereTold now.tells (now.holds name) bytes

-- what the placed name holds after this status: what it held, or such bytes, or after Outside anything where its place failed
abbrev pub Keeps : Order → Stock → Stock → Status → List ℕ → Type 0
Keeps order before now ends name =
    (now.holds name ≡ before.holds name) ⊎ (HoldsMade order before now name ⊎ ((ends ≡ Outside) × Failed Place name before now))

-- the statuses after which nothing was placed
abbrev pub IsQuiet : Status → Type 0
IsQuiet Done = ⊥
IsQuiet Refused = Unit {0}
IsQuiet Usage = Unit {0}
IsQuiet Input = Unit {0}
IsQuiet Outside = ⊥
IsQuiet Memory = ⊥

-- no failure was added to the store's, and the sink's count didn't rise
pub record NothingFailed (before now : Stock) (out_before out_now : Output) : Type 0 where
  pub store : now.failures ≡ before.failures
  pub sink : Rose out_before.faults out_now.faults → ⊥

-- ---- what is kept outside

-- neither the store nor the sink has one more failure
pub record NoFailures (before now : Stock) (out_before out_now : Output) : Type 0 where
  pub store : now.failures ≡ before.failures
  pub sink : out_now.faults ≡ out_before.faults

-- what a store keeps only grew, and whether it tells stayed
pub record Grew (before now : Stock) : Type 0 where
  pub tells : now.tells ≡ before.tells
  pub failed : List Failure
  pub failures : now.failures ≡ before.failures ++ failed
  pub given : List Handed
  pub handed : now.handed ≡ before.handed ++ given
  pub longs : before.longs ≤ now.longs

-- ---- where the store tells

-- the contents that the names hold lead to this ending
abbrev pub Leads : (List ℕ → Option (List ℕ)) → Work Task → Ending → Type 0
Leads holds (Does task) e = Ends task e
Leads holds (Reads kind name next) e = (content : Option (List ℕ)) × IsContent (limit_of kind) (holds name) content × Comes kind content [] e (λ v. Leads holds (next v) e)

-- the command ended as those contents lead, the text was put, and its bytes were placed
pub record Settled (order : Order) (before now : Stock) (ends : Status) (out_before out_now : Output) : Type 0 where
  pub ending : Ending
  pub leads : Leads before.holds (work_of order) ending
  pub status : ends ≡ ending.status
  pub put : Wrote out_before.text ending.text out_now.text
  pub placed : IsPlaced (target_of order) ending.bytes now

-- is the ending of the command a function of what is read? Of a certification several causes may be true.
abbrev pub HasFixedEnding : Order → Type 0
HasFixedEnding (Check image plan cert) = Unit {0}
HasFixedEnding (Certify image plan cert) = ⊥
HasFixedEnding (Run image plan script steps) = Unit {0}
HasFixedEnding (Upgrade image plan cert new) = Unit {0}
HasFixedEnding (Assemble source image) = Unit {0}
HasFixedEnding (Disasm image) = Unit {0}
HasFixedEnding (Sample loops) = ⊥

-- The contents that names hold lead the command to one ending.
abbrev pub HasOneEnding : Order → Type 0
HasOneEnding order =
    (holds : List ℕ → Option (List ℕ)) (e f : Ending) → Leads holds (work_of order) e → Leads holds (work_of order) f → e ≡ f
