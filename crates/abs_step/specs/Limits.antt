-- What code keeps of what an instruction does to a variable, of which no public clause speaks.
use Rattle.std.specs.Prelude.{ℕ, ◌<◌, ◌^◌, ℤ, pos, neg_ℤ, ◌≤ℤ◌}
use Rattle.flag_relation.specs.declared.var.Var.{Var}
use Rattle.flag_relation.specs.declared.var.Var.TheVariants.{Reg, Cell}
use Rattle.abs_step.specs.declared.outcome.Post.{Post}
use Rattle.abs_step.specs.declared.outcome.Post.TheVariants.{Same, Plus, Within}

-- a number of at most an address's size
pub record IsSmall (n : ℤ) : Type 0 where
  pub low : neg_ℤ (pos (2 ^ 20)) ≤ℤ n
  pub high : n ≤ℤ pos (2 ^ 20)

abbrev pub IsVarOf : ℕ → Var → Type 0
IsVarOf count (Reg r) = Unit {0}
IsVarOf count (Cell i) = i < count

-- it speaks of a cell that is there, and of a small number
abbrev pub IsPostOf : ℕ → Post → Type 0
IsPostOf count Same = Unit {0}
IsPostOf count Within = Unit {0}
IsPostOf count (Plus v n) = IsVarOf count v × IsSmall n
