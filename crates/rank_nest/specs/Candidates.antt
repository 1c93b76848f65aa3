-- Candidates: a variable with a direction each, and how they move along an outcome.
use Rattle.std.specs.Prelude.{ℕ, ◌+◌, ◌*◌, ◌/◌, ◌%◌, ℤ, pos, negsuc, int_le, Bool, nat_eq}
use Rattle.num_domain.specs.Domain.{Domain}
use Rattle.flag_relation.specs.declared.var.Var.{Var}
use Rattle.flag_relation.specs.Forms.{FormOf}
use Rattle.abs_step.specs.OutcomeLists.{OutcomeOf}
use Rattle.rank_form.specs.Weights.{var_at}
use Rattle.rank_form.specs.Bounds.{rise}
use Rattle.rank_form.specs.Levels.{direction}

-- how many candidates there are over so many cells: A, X, Y and each cell, down and up
abbrev pub candidates : ℕ → ℕ
candidates cells = 2 * (3 + cells)

-- the variable of a candidate
abbrev pub variable : ℕ → Var
variable c = var_at (c / 2)

-- is the candidate's direction down? Else it is up.
abbrev pub is_down : ℕ → Bool
is_down c = nat_eq (c % 2) 0

-- the candidate as a form: its variable, or, where that is to go up, the negative of it
abbrev pub candidate_form : ℕ → FormOf
candidate_form c = direction (variable c) (is_down c)

module _ {T : Type 0} (d : Domain T) where
  -- by how much the candidate may rise over an outcome
  abbrev pub change : OutcomeOf T → ℕ → ℤ
  change o c = rise d (candidate_form c) (candidate_form c) o

  -- may it grow?
  abbrev pub grows_by : OutcomeOf T → ℕ → Bool
  grows_by o c = int_le (pos 1) (change o c)

  -- does it surely fall?
  abbrev pub falls_by : OutcomeOf T → ℕ → Bool
  falls_by o c = int_le (change o c) (negsuc 0)
