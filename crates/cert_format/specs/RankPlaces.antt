-- How a node keeps its rank.
use Rattle.std.specs.Prelude.{◌≡◌, ℤ, true, [], Option, Some, None}
use Rattle.std.specs.Global.{Box}
use Rattle.flag_relation.specs.Forms.{FormOf, is_form}

-- a rank without a form of its own is its constant
abbrev pub rank_view : ℤ → Option (Box FormOf) → FormOf
rank_view c None = record { constant = c; terms = [] }
rank_view c (Some b) = b.value

-- the constant makes a form
abbrev pub IsRankKept : ℤ → Type 0
IsRankKept c = is_form c [] ≡ true
