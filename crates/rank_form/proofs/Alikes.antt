-- Two spellings of one form.
use Rattle.std.specs.Prelude.{◌≡◌, ℤ}
use Rattle.flag_relation.specs.declared.var.Var.{Var}
use Rattle.flag_relation.specs.Forms.{FormOf}
use Rattle.rank_form.specs.Weights.{weigh}

-- the terms may be split, merged, reordered or zero
pub record Alike (f g : FormOf) : Type 0 where
  pub constant : f.constant ≡ g.constant
  pub weighs : (h : Var → ℤ) → weigh h f.terms ≡ weigh h g.terms
