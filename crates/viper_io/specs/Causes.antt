-- What a store and a sink tell and keep, and what a call of theirs may leave.
use Rattle.std.specs.Prelude.{◌≡◌, ℕ, ◌+◌, ◌-◌, ◌^◌, ◌≤◌, min, List, ◌++◌, Bool, true, Option, Some, None, Result, Ok, Err, [], ◌∷◌, option_map}
use Rattle.viper_io.specs.declared.fault.Call.{Call}
use Rattle.viper_io.specs.declared.fault.Call.TheVariants.{Fetch, Place}
use Rattle.viper_io.specs.declared.fault.FetchFault.{FetchFault}
use Rattle.viper_io.specs.declared.fault.FetchFault.TheVariants.{Failed, Long, Memory}
use Rattle.viper_io.specs.declared.fault.PlaceFault.{PlaceFault}
use Rattle.viper_io.specs.declared.fault.PlaceFault.TheVariants as place_fault
use Rattle.viper_io.specs.declared.fault.SinkFault.{SinkFault}
use Rattle.viper_io.specs.declared.fault.SinkFault.TheVariants as sink_fault

-- a call that failed: its kind, and the name that it was given
pub record Failure : Type 0 where
  pub call : Call
  pub name : List ℕ

-- what a fetch handed out: the bytes of a name under a limit, or that there were more
pub record Handed : Type 0 where
  pub name : List ℕ
  pub limit : ℕ
  pub bytes : Option (List ℕ)

-- one more, in a count that stays at 2^64 - 1
abbrev pub risen : ℕ → ℕ
risen count = min (count + 1) (2 ^ 64 - 1)

-- a count rose, or stands at its end
abbrev pub Rose : ℕ → ℕ → Type 0
Rose before now = risen before ≤ now

-- ---- what each answer of a call adds to what is kept

-- to what was handed out
abbrev pub handed_by : {V : Type 0} → (V → List ℕ) → List ℕ → ℕ → Result V FetchFault → List Handed
handed_by items name limit (Ok v) =
    record { name = name; limit = limit; bytes = Some (items v) } ∷ []
handed_by items name limit (Err Long) = record { name = name; limit = limit; bytes = None } ∷ []
handed_by items name limit (Err Failed) = []
handed_by items name limit (Err Memory) = []

-- to the calls that failed
abbrev pub failed_fetch : {V : Type 0} → List ℕ → Result V FetchFault → List Failure
failed_fetch name (Ok v) = []
failed_fetch name (Err Failed) = record { call = Fetch; name = name } ∷ []
failed_fetch name (Err Long) = []
failed_fetch name (Err Memory) = []

abbrev pub failed_place : {V : Type 0} → List ℕ → Result V PlaceFault → List Failure
failed_place name (Ok v) = []
failed_place name (Err place_fault.Failed) = record { call = Place; name = name } ∷ []
failed_place name (Err place_fault.Memory) = []

-- the count of contents that were too long, after an answer of a fetch
abbrev pub longs_after : {V : Type 0} → ℕ → Result V FetchFault → ℕ
longs_after longs (Ok v) = longs
longs_after longs (Err Failed) = longs
longs_after longs (Err Long) = risen longs
longs_after longs (Err Memory) = longs

-- the count of a sink's failures, after an answer of a put
abbrev pub faults_after : {V : Type 0} → ℕ → Result V SinkFault → ℕ
faults_after faults (Ok v) = faults
faults_after faults (Err sink_fault.Failed) = risen faults
faults_after faults (Err sink_fault.Memory) = faults

-- ---- what is outside

-- What a store tells: whether it does, and what each name holds. What it keeps: the calls that
-- failed and what was handed out, the latest last, and how often a content was too long.
pub record Stock : Type 0 where
  pub tells : Bool
  pub holds : List ℕ → Option (List ℕ)
  pub failures : List Failure
  pub longs : ℕ
  pub handed : List Handed

-- what was put, where the sink tells it, and how often the sink failed
pub record Output : Type 0 where
  pub text : Option (List ℕ)
  pub faults : ℕ

-- each name holds what it held
pub record SameContents (before now : Stock) : Type 0 where
  pub same : (name : List ℕ) → now.holds name ≡ before.holds name

-- the content is these bytes, where the store tells it
abbrev pub HoldsWhereTold : Bool → Option (List ℕ) → List ℕ → Type 0
HoldsWhereTold tells content bytes = tells ≡ true → content ≡ Some bytes

-- the bytes stand behind what was put before, where the sink tells it
abbrev pub Wrote : Option (List ℕ) → List ℕ → Option (List ℕ) → Type 0
Wrote before bytes now = now ≡ option_map (λ w. w ++ bytes) before
