-- The numbers that facts are rounded to.
use Rattle.std.specs.Prelude.{ℕ, ℤ, pos, neg_ℤ, ◌+ℤ◌, ◌-ℤ◌, int_le, cond, List, [], ◌∷◌, ◌++◌}
use Rattle.std.specs.List.{flat_map}
use Rattle.viper_word.specs.Ranges.{NumberRange}
use Rattle.viper_word.specs.Fields.{fields_of}
use Rattle.num_domain.specs.Rounding.{with_ends}
use Rattle.memory_plan.specs.Ranges.{Span}
use Rattle.memory_plan.specs.Plans.{PlanLines, in_code}
use Rattle.memory_plan.specs.declared.start.Start.{Start}

-- the field of a word of code, the number before it and the one after it
abbrev pub near_field : PlanLines → ℕ × ℕ → List ℤ
near_field plan e =
    let field : ℤ = pos (fields_of e.1).field in
    cond (in_code plan e.0) (field ∷ (field -ℤ pos 1) ∷ (field +ℤ pos 1) ∷ []) []

-- both ends of a range
abbrev pub ends_of : NumberRange → List ℤ
ends_of r = r.lo ∷ r.hi ∷ []

abbrev pub ends_at : Span → List ℤ
ends_at s = ends_of s.2

abbrev pub ends_of_start : Start → List ℤ
ends_of_start s = ends_of s.a ++ ends_of s.x ++ ends_of s.y

-- the numbers that a plan gives: -1, 0 and 1, those of code, of the regions' and the starts'
-- ranges, and those that it lists
abbrev pub numbers_of : PlanLines → List ℤ
numbers_of plan =
    (neg_ℤ (pos 1) ∷ pos 0 ∷ pos 1 ∷ [])
    ++ flat_map (near_field plan) plan.image
    ++ flat_map ends_at plan.«data»
    ++ flat_map ends_at plan.inputs
    ++ flat_map ends_at plan.outputs
    ++ flat_map ends_of_start plan.starts
    ++ plan.thresholds

-- the number in its place among ascending ones
abbrev pub placed : ℤ → List ℤ → List ℤ
placed n [] = n ∷ []
placed n (m ∷ ms) = cond (int_le n m) (n ∷ m ∷ ms) (m ∷ placed n ms)

abbrev pub in_order : List ℤ → List ℤ
in_order [] = []
in_order (n ∷ ns) = placed n (in_order ns)

-- those of them that a word can hold, and both ends of the signed words, in ascending order
abbrev pub thresholds_of : PlanLines → List ℤ
thresholds_of plan = in_order (with_ends (numbers_of plan))
