-- Bounds of forms over a fact, and over an outcome.
use Rattle.std.specs.Prelude.{ℤ, pos, ◌+ℤ◌, ◌*ℤ◌, neg_ℤ, int_le, cond, List, [], ◌∷◌, map, length, Option, Some, None}
use Rattle.num_domain.specs.Domain.{Domain}
use Rattle.num_domain.specs.Ends.{Ends, ends}
use Rattle.flag_relation.specs.declared.link.Link.{Link}
use Rattle.flag_relation.specs.declared.var.Var.{Var}
use Rattle.flag_relation.specs.declared.var.Var.TheVariants.{Reg, Cell}
use Rattle.flag_relation.specs.Values.{Values, Regs, at_reg}
use Rattle.flag_relation.specs.Facts.{FactOf, values}
use Rattle.flag_relation.specs.Forms.{FormOf}
use Rattle.abs_step.specs.declared.outcome.Post.{Post}
use Rattle.abs_step.specs.declared.outcome.Post.TheVariants.{Same, Plus, Within}
use Rattle.abs_step.specs.OutcomeLists.{OutcomeOf}
use Rattle.rank_form.specs.declared.place.Spot.{Spot}
use Rattle.rank_form.specs.Weights.{at, weigh, rate, negated, less, sum_over}

-- what a variable with this link is
abbrev pub placed : Var → Option Link → Spot
placed v None = record { var = v; more = pos 0 }
placed v (Some l) = record { var = Cell l.cell; more = l.offset }

-- a register with a link is the cell plus the offset, and all else is itself
abbrev pub place : Regs (Option Link) → Var → Spot
place links (Reg r) = placed (Reg r) (at_reg links r)
place links (Cell i) = placed (Cell i) None

-- the terms with each linked register replaced by its cell
abbrev pub linked : Regs (Option Link) → List (Var × ℤ) → List (Var × ℤ)
linked links ts = map (λ (t : Var × ℤ). ((place links t.0).var, t.1)) ts

-- the form with each linked register replaced
abbrev pub canonical : Regs (Option Link) → FormOf → FormOf
canonical links f = record {
  constant = f.constant +ℤ weigh (λ v. (place links v).more) f.terms;
  terms = linked links f.terms;
}

-- the most that c times a number between the ends is: at the high end for a positive c, at the low
-- one for a negative
abbrev pub most : ℤ → Option Ends → ℤ
most c None = pos 0
most c (Some r) = cond (int_le (pos 0) c) (c *ℤ r.hi) (c *ℤ r.lo)

-- ---- what becomes of a term

-- what is said of a variable; it stays where nothing is
abbrev pub post_at : Values Post → Var → Post
post_at posts v = at Same posts v

-- what a variable weighs by its post
abbrev pub by_post : (Var → ℤ) → Post → Var → ℤ
by_post g Same v = g v
by_post g (Plus u n) v = g u
by_post g Within v = pos 0

-- what is added to a variable
abbrev pub added : Post → ℤ
added Same = pos 0
added (Plus u n) = n
added Within = pos 0

-- the most of c times a variable of which only its value after the step is known
abbrev pub within : ℤ → Option Ends → Post → ℤ
within c r Same = pos 0
within c r (Plus u n) = pos 0
within c r Within = most c r

-- the terms with what a term c times a variable becomes
abbrev pub moved_by : Post → Var → ℤ → List (Var × ℤ) → List (Var × ℤ)
moved_by Same v c ts = (v, c) ∷ ts
moved_by (Plus u n) v c ts = (u, c) ∷ ts
moved_by Within v c ts = ts

unfoldable pub moved : Values Post → List (Var × ℤ) → List (Var × ℤ)
moved posts [] = []
moved posts (t ∷ ts) = moved_by (post_at posts t.0) t.0 t.1 (moved posts ts)

module _ {T : Type 0} (d : Domain T) where
  -- the ends of a variable's value
  abbrev pub span : FactOf T → Var → Option Ends
  span x v = ends d (at d.top (values x) v)

  -- the greatest value of a form over a fact
  unfoldable pub upper : FormOf → FactOf T → ℤ
  upper f x =
      let g = canonical x.links f in
      g.constant +ℤ sum_over (length x.cells) (λ v. most (rate g.terms v) (span x v))

  -- the least
  abbrev pub lower : FormOf → FactOf T → ℤ
  lower f x = neg_ℤ (upper (negated f) x)

  -- the most that is left of terms where only the value after the step is known
  abbrev pub remains : OutcomeOf T → List (Var × ℤ) → ℤ
  remains o ts = sum_over (length o.pre.cells)
      (λ v. within (rate ts v) (span o.after v) (post_at o.posts v))

  -- the form after the step, in terms of the variables before it
  unfoldable pub after : FormOf → OutcomeOf T → FormOf
  after f o = record {
    constant = f.constant +ℤ weigh (λ v. added (post_at o.posts v)) f.terms +ℤ remains o f.terms;
    terms = moved o.posts f.terms;
  }

  -- the most that the second form after the step is above the first before it
  unfoldable pub rise : FormOf → FormOf → OutcomeOf T → ℤ
  rise f g o = upper (less (after g o) f) o.pre
