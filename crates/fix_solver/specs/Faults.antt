-- What a fault of the solver says.
use Rattle.std.specs.Prelude.{◌≡◌, ◌+◌, List, length}
use Rattle.std.specs.List.{AllByRecursion, IsDistinct}
use Rattle.flow_recover.specs.declared.key.Key.{Key}
use Rattle.flow_recover.specs.Keys.{same_key}
use Rattle.fix_solver.specs.declared.fault.SolveFault.{SolveFault}
use Rattle.fix_solver.specs.declared.fault.SolveFault.TheVariants.{Undischarged, Nodes, Memory}
use Rattle.fix_solver.specs.declared.table.TheConstants.{MOST_KEYS}
use Rattle.fix_solver.specs.Rules.{Rules}
use Rattle.fix_solver.specs.Solutions.{IsEverywhere, FailsEverywhere}

-- one key more than there may be, all different, and each stands in every candidate
pub record AreNodes {F : Type 0} (r : Rules F) (keys : List Key) : Type 0 where
  pub count : length keys ≡ MOST_KEYS + 1
  pub distinct : IsDistinct same_key keys
  pub everywhere : AllByRecursion (λ k. IsEverywhere r k) keys

-- what it says of all candidates
abbrev pub IsTrueFault : {F : Type 0} → Rules F → SolveFault → Type 0
IsTrueFault r (Undischarged k c) = FailsEverywhere r k c
IsTrueFault r (Nodes keys) = AreNodes r keys.items
IsTrueFault r Memory = Unit {0}

-- nothing but memory was wanting
abbrev pub IsMemory : SolveFault → Type 0
IsMemory (Undischarged k c) = ⊥
IsMemory (Nodes keys) = ⊥
IsMemory Memory = Unit {0}
