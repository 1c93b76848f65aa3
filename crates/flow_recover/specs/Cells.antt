-- The words of memory that are tracked, one by one.
use Rattle.std.specs.Prelude.{◌≡◌, ℕ, ◌^◌, Bool, ◌==◌, ◌&&◌, ◌||◌, not, is_some, false, cond, Option, Some, None, List, [], ◌∷◌, take}
use Rattle.std.specs.List.{list_any}
use Rattle.std.specs.Option.{option_map_or}
use Rattle.std.specs.BTreeSet.{insert_key}
use Rattle.std.specs.Ordering.{nat_cmp}
use Rattle.std.proofs.Common.{zero, suc}
use Rattle.viper_word.specs.Fields.{Fields, fields_of, is_function, is_store}
use Rattle.viper_decode.specs.declared.codes.mode.TheConstants.{AT_FIELD}
use Rattle.viper_decode.specs.declared.codes.function.TheConstants.{INP, SHIFT}
use Rattle.memory_plan.specs.Plans.{PlanLines, in_code, range_at}
use Rattle.flow_recover.specs.declared.cells.TheConstants.{MOST_CELLS}

-- M 1, and the address is one of memory: of a comparison, of a store, or of a function other than
-- INP and SHIFT
abbrev pub names_memory : Fields → Bool
names_memory i =
    (i.m == AT_FIELD)
    && (i.c || (is_store i || (is_function i && not ((i.f == INP) || (i.f == SHIFT)))))

-- the data address that a word of the image names: none where it isn't in code, or names no such
-- one
abbrev pub named_by : PlanLines → ℕ × ℕ → Option ℕ
named_by plan e =
    let i : Fields = fields_of e.1 in
    cond (in_code plan e.0 && (names_memory i && is_some (range_at plan.«data» i.field)))
    (Some i.field) None

-- a word of code names the address, which is one of data
abbrev pub is_cell : PlanLines → ℕ → Bool
is_cell plan at = list_any (λ e. option_map_or (λ a. a == at) (named_by plan e) false) plan.image

-- those of n addresses from `at` on that pass, in ascending order
unfoldable pub passing : (ℕ → Bool) → ℕ → ℕ → List ℕ
passing p at zero = []
passing p at (suc n) = cond (p at) (at ∷ passing p (suc at) n) (passing p (suc at) n)

-- the lowest of them
abbrev pub cells_of : PlanLines → List ℕ
cells_of plan = take MOST_CELLS (passing (is_cell plan) 0 (2 ^ 20))

-- ---- how they are found

-- the addresses are the cells
pub record AreCells (plan : PlanLines) (cells : List ℕ) : Type 0 where
  pub has : (at : ℕ) → list_any (λ c. c == at) cells ≡ is_cell plan at

-- with the cell that a word names, in its place
abbrev pub with_named : PlanLines → ℕ × ℕ → List ℕ → List ℕ
with_named plan e cells = option_map_or (insert_key nat_cmp cells) (named_by plan e) cells
