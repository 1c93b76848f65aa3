-- What the type of forms keeps.
use Rattle.std.specs.Prelude.{◌≡◌, ℕ, ℤ, true, List, take}
use Rattle.flag_relation.specs.declared.form.TheConstants.{MOST_TERMS}
use Rattle.flag_relation.specs.declared.var.Var.{Var}
use Rattle.flag_relation.specs.Padding.{IsPadded}
use Rattle.flag_relation.specs.Forms.{is_form, unused_term}

pub record IsForm (constant : ℤ) (items : List (Var × ℤ)) (len : ℕ) : Type 0 where
  pub padding : IsPadded unused_term MOST_TERMS items len
  pub limits : is_form constant (take len items) ≡ true
