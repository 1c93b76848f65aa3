-- The forms of a nest: one on another.
use Rattle.std.specs.Prelude.{ℤ, pos, ◌+ℤ◌, ◌*ℤ◌, neg_ℤ, Bool, cond, [], ◌∷◌, Option}
use Rattle.flag_relation.specs.declared.var.Var.{Var}
use Rattle.flag_relation.specs.Forms.{FormOf, form_of}
use Rattle.rank_form.specs.Weights.{scaled, plus, merged}

-- the form of a number
abbrev pub constant_form : ℤ → FormOf
constant_form n = record { constant = n; terms = [] }

-- a variable, or the negative of it where it is to go up
abbrev pub direction : Var → Bool → FormOf
direction v down = record {
  constant = pos 0;
  terms = (v, cond down (pos 1) (neg_ℤ (pos 1))) ∷ [];
}

-- the form plus a number
abbrev pub shift : FormOf → ℤ → FormOf
shift f n = record { constant = f.constant +ℤ n; terms = f.terms }

-- so many times (a form less its low end) plus another form, as the sum has it
abbrev pub stacked : ℤ → FormOf → ℤ → FormOf → FormOf
stacked t w low f = shift (plus (scaled t w) f) (neg_ℤ (t *ℤ low))

-- the same, with its terms in order
unfoldable pub level : ℤ → FormOf → ℤ → FormOf → FormOf
level t w low f = merged (stacked t w low f)

-- the form, unless it passes a limit
abbrev pub in_limits : FormOf → Option FormOf
in_limits f = form_of f.constant f.terms
