-- Tests and lists over spans of addresses.
use Rattle.std.specs.Prelude.{ℕ, Bool, false, ◌||◌, cond, nat_eq, List, [], ◌∷◌, Option, Some, None}
use Rattle.std.specs.List.{list_any}
use Rattle.std.proofs.Common.{zero, suc}
use Rattle.viper_word.specs.Options.{bind}
use Rattle.viper_word.specs.Ranges.{NumberRange}
use Rattle.memory_plan.specs.Ranges.{Span}
use Rattle.memory_plan.specs.Plans.{has_address, range_at}

-- does one of n addresses from `at` on pass?
unfoldable pub any_from : (ℕ → Bool) → ℕ → ℕ → Bool
any_from p at zero = false
any_from p at (suc n) = p at || any_from p (suc at) n

-- those of n addresses from `at` on that pass, in ascending order
unfoldable pub passing : (ℕ → Bool) → ℕ → ℕ → List ℕ
passing p at zero = []
passing p at (suc n) = cond (p at) (at ∷ passing p (suc at) n) (passing p (suc at) n)

-- an address is in a span whose range passes
abbrev pub some_passes : (NumberRange → Bool) → Option NumberRange → Bool
some_passes p None = false
some_passes p (Some r) = p r

abbrev pub passes_at : List Span → (NumberRange → Bool) → ℕ → Bool
passes_at ss p n = some_passes p (range_at ss n)

abbrev pub in_spans : List Span → ℕ → Bool
in_spans ss n = list_any (λ s. has_address s n) ss

-- the number of the cell at that address
abbrev pub find_cell : List ℕ → ℕ → Option ℕ
find_cell [] n = None
find_cell (c ∷ cs) n = cond (nat_eq c n) (Some 0) (bind (find_cell cs n) (λ i. Some (suc i)))

abbrev pub is_tracked : List ℕ → ℕ → Bool
is_tracked cells n = list_any (λ c. nat_eq c n) cells
