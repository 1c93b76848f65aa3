-- Words for code: coefficients in a list, by the numbers of their variables.
use Rattle.std.specs.Prelude.{ℕ, ◌≤◌, ℤ, pos, ◌+ℤ◌, ◌-ℤ◌, ◌*ℤ◌, unsigned_abs, List, [], ◌∷◌, Option, None, length, cond, nat_lt, Bool, true}
use Rattle.std.proofs.Common.{set, get_or}
use Rattle.num_domain.specs.Domain.{Domain}
use Rattle.flag_relation.specs.declared.link.Link.{Link}
use Rattle.flag_relation.specs.declared.var.Var.{Var}
use Rattle.flag_relation.specs.declared.var.Var.TheVariants.{Reg, Cell}
use Rattle.flag_relation.specs.Values.{Values, Regs}
use Rattle.flag_relation.specs.Facts.{FactOf}
use Rattle.flag_relation.specs.Forms.{var_number}
use Rattle.abs_step.specs.declared.outcome.Post.{Post}
use Rattle.abs_step.specs.declared.outcome.Post.TheVariants.{Same, Plus, Within}
use Rattle.rank_form.specs.declared.place.Links.{Links}
use Rattle.rank_form.specs.Weights.{sum_over}
use Rattle.rank_form.specs.Bounds.{place, post_at, added, most, span}

-- no register is linked
abbrev pub no_links : Regs (Option Link)
no_links = record { a = None; x = None; y = None }

abbrev pub regs_of : Links → Regs (Option Link)
regs_of l = record { a = l.a; x = l.x; y = l.y }

-- each coefficient is at most so large
abbrev pub AreSmall : ℕ → List (Var × ℤ) → Type 0
AreSmall b [] = Unit {0}
AreSmall b (t ∷ ts) = (unsigned_abs t.1 ≤ b) × AreSmall b ts

-- each number is at most so large
abbrev pub IsBelow : ℕ → List ℤ → Type 0
IsBelow b rates = (i : ℕ) → unsigned_abs (get_or rates i (pos 0)) ≤ b

-- the number at a variable
abbrev pub rate_at : List ℤ → Var → ℤ
rate_at rates v = get_or rates (var_number v) (pos 0)

-- a coefficient is added at its variable
abbrev pub put : List ℤ → Var → ℤ → List ℤ
put rates v c = set rates (var_number v) (rate_at rates v +ℤ c)

-- each term is added
unfoldable pub spread : List (Var × ℤ) → List ℤ → List ℤ
spread [] rates = rates
spread (t ∷ ts) rates = spread ts (put rates t.0 t.1)

-- is the variable one of the fact's?
abbrev pub is_in : ℕ → Var → Bool
is_in n (Reg r) = true
is_in n (Cell i) = nat_lt i n

module _ {T : Type 0} (d : Domain T) where
  -- the most of c times a value after the step, where the fact has the variable
  abbrev pub most_in : FactOf T → Var → ℤ → ℤ
  most_in x v c = cond (is_in (length x.cells) v) (most c (span d x v)) (pos 0)

  -- what a term adds to the constant, by its post and then by a link
  abbrev pub gain : Regs (Option Link) → FactOf T → Post → Var → ℤ → ℤ
  gain links x Same v c = c *ℤ (place links v).more
  gain links x (Plus u n) v c = (c *ℤ (place links u).more) +ℤ (c *ℤ n)
  gain links x Within v c = most_in x v c

  unfoldable pub gains : Regs (Option Link) → Values Post → FactOf T → List (Var × ℤ) → ℤ
  gains links posts x [] = pos 0
  gains links posts x (t ∷ ts) = gain links x (post_at posts t.0) t.0 t.1 +ℤ gains links posts x ts

  -- the most that the variables of a fact add, by one list of coefficients less another
  abbrev pub net_most : FactOf T → List ℤ → List ℤ → Var → ℤ
  net_most x plus minus v = most (rate_at plus v -ℤ rate_at minus v) (span d x v)

  abbrev pub net_upper : FactOf T → List ℤ → List ℤ → ℤ
  net_upper x plus minus = sum_over (length x.cells) (net_most x plus minus)

-- a number that is added to a variable is at most so large
abbrev pub ArePostsSmall : ℕ → Values Post → Type 0
ArePostsSmall b posts = (v : Var) → unsigned_abs (added (post_at posts v)) ≤ b
