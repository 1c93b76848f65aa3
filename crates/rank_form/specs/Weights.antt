-- Forms by what they weigh, and sums over variables.
use Rattle.std.specs.Prelude.{ℕ, zero, suc, ◌+◌, nat_lt, ℤ, pos, ◌+ℤ◌, ◌*ℤ◌, neg_ℤ, cond, nat_eq, List, [], ◌∷◌, ◌++◌, map}
use Rattle.std.specs.Ordering.{int_eq}
use Rattle.viper_word.specs.declared.reg.Reg.TheVariants.{A, X, Y}
use Rattle.flag_relation.specs.declared.var.Var.{Var}
use Rattle.flag_relation.specs.declared.var.Var.TheVariants.{Reg, Cell}
use Rattle.flag_relation.specs.Values.{Values, reg, cell}
use Rattle.flag_relation.specs.Forms.{FormOf, var_number}

-- what stands at a variable; z where there is no such cell
abbrev pub at : {T : Type 0} → T → Values T → Var → T
at z v (Reg r) = reg v r
at z v (Cell i) = cell z v i

-- each coefficient times what its variable weighs
unfoldable pub weigh : (Var → ℤ) → List (Var × ℤ) → ℤ
weigh g [] = pos 0
weigh g (t ∷ ts) = (t.1 *ℤ g t.0) +ℤ weigh g ts

-- the value of a form at the numbers of a state
abbrev pub value : FormOf → Values ℤ → ℤ
value f e = f.constant +ℤ weigh (at (pos 0) e) f.terms

-- 1 at the variable, and 0 at each other
abbrev pub is_at : Var → Var → ℤ
is_at v u = cond (nat_eq (var_number u) (var_number v)) (pos 1) (pos 0)

-- the coefficient of a variable: those of its terms, added
abbrev pub rate : List (Var × ℤ) → Var → ℤ
rate ts v = weigh (is_at v) ts

-- ---- forms made of forms

-- the terms, each as many times
abbrev pub scaled_terms : ℤ → List (Var × ℤ) → List (Var × ℤ)
scaled_terms t ts = map (λ (p : Var × ℤ). (p.0, t *ℤ p.1)) ts

abbrev pub scaled : ℤ → FormOf → FormOf
scaled t f = record { constant = t *ℤ f.constant; terms = scaled_terms t f.terms }

abbrev pub plus : FormOf → FormOf → FormOf
plus f g = record { constant = f.constant +ℤ g.constant; terms = f.terms ++ g.terms }

abbrev pub negated : FormOf → FormOf
negated f = scaled (neg_ℤ (pos 1)) f

abbrev pub less : FormOf → FormOf → FormOf
less f g = plus f (negated g)

-- ---- the terms of a form in order

-- the variable of a number
abbrev pub var_at : ℕ → Var
var_at zero = Reg A
var_at (suc zero) = Reg X
var_at (suc (suc zero)) = Reg Y
var_at (suc (suc (suc i))) = Cell i

-- a term, unless its coefficient is 0
abbrev pub term_of : Var → ℤ → List (Var × ℤ)
term_of v c = cond (int_eq c (pos 0)) [] ((v, c) ∷ [])

-- the terms of so many variables from that number on, by the variables' coefficients
unfoldable pub terms_from : (Var → ℤ) → ℕ → ℕ → List (Var × ℤ)
terms_from g k zero = []
terms_from g k (suc m) = term_of (var_at k) (g (var_at k)) ++ terms_from g (suc k) m

-- the number after the last variable's
unfoldable pub past : List (Var × ℤ) → ℕ
past [] = 0
past (t ∷ ts) = cond (nat_lt (var_number t.0) (past ts)) (past ts) (var_number t.0 + 1)

-- the form with its terms in order, those of one variable added, and none with coefficient 0
abbrev pub merged : FormOf → FormOf
merged f = record { constant = f.constant; terms = terms_from (rate f.terms) 0 (past f.terms) }

-- ---- sums over variables

-- the sum over the numbers below n
unfoldable pub sum_below : ℕ → (ℕ → ℤ) → ℤ
sum_below zero g = pos 0
sum_below (suc n) g = sum_below n g +ℤ g n

-- the sum over A, X, Y and n cells
abbrev pub sum_over : ℕ → (Var → ℤ) → ℤ
sum_over n g = g (Reg A) +ℤ g (Reg X) +ℤ g (Reg Y) +ℤ sum_below n (λ i. g (Cell i))
