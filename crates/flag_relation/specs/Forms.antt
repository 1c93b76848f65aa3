-- Forms that are linear in registers and cells.
use Rattle.std.specs.Prelude.{ℕ, ◌+◌, ℤ, pos, neg_ℤ, int_le, Bool, true, not, ◌&&◌, if◌then◌else◌, nat_le, List, [], ◌∷◌, length, Option, Some, None}
use Rattle.std.specs.Ordering.{int_eq}
use Rattle.flag_relation.specs.declared.form.TheConstants.{MOST_TERMS, MOST_COEFFICIENT, MOST_CONSTANT}
use Rattle.viper_word.specs.declared.reg.Reg.TheVariants.{A}
use Rattle.flag_relation.specs.declared.var.Var.{Var}
use Rattle.flag_relation.specs.declared.var.Var.TheVariants.{Reg, Cell}
use Rattle.flag_relation.specs.Equality.{reg_number}

-- a constant and terms: variables with their coefficients
pub record FormOf : Type 0 where
  pub constant : ℤ
  pub terms : List (Var × ℤ)

-- the order of variables: A, X, Y, then the cells
abbrev pub var_number : Var → ℕ
var_number (Reg r) = reg_number r
var_number (Cell i) = 3 + i

abbrev pub is_within : ℤ → ℤ → Bool
is_within bound z = int_le (neg_ℤ bound) z && int_le z bound

-- a coefficient isn't 0, and at most 2^43 in size
abbrev pub is_coefficient : ℤ → Bool
is_coefficient z = not (int_eq z (pos 0)) && is_within MOST_COEFFICIENT z

-- the variables ascend from the number on
unfoldable pub are_terms : ℕ → List (Var × ℤ) → Bool
are_terms n [] = true
are_terms n (t ∷ ts) = nat_le n (var_number t.0) && is_coefficient t.1
    && are_terms (var_number t.0 + 1) ts

-- the constant is at most 2^77 in size, and there are at most eight terms
abbrev pub is_form : ℤ → List (Var × ℤ) → Bool
is_form c ts =
    nat_le (length ts) MOST_TERMS && is_within MOST_CONSTANT c && are_terms 0 ts

abbrev pub form_of : ℤ → List (Var × ℤ) → Option FormOf
form_of c ts = (if is_form c ts then Some (record { constant = c; terms = ts }) else None)

-- what stands in an unused place
abbrev pub unused_term : Var × ℤ
unused_term = (Reg A, pos 0)
