-- A form with its terms in order weighs the same.
use Rattle.std.specs.Prelude.{◌≡◌, ℕ, zero, suc, ◌+◌, ◌≤◌, ◌<◌, nat_eq, ℤ, pos, ◌+ℤ◌, ◌*ℤ◌, cond, Bool, true, false, List, [], ◌∷◌}
use Rattle.std.specs.Ordering.{int_eq}
use Rattle.std.proofs.Common.{refl, arith, sym, ◌∙◌, ap, subst, ◌⊎◌, inl, inr}
use Rattle.std.proofs.Math.Path.{ap₂}
use Rattle.std.proofs.lemmas.Int.{ints}
use Rattle.std.proofs.Math.IntN.{*ℤ_comm}
use Rattle.viper_word.specs.declared.reg.Reg.TheVariants.{A, X, Y}
use Rattle.viper_word.proofs.Products.{plus_times}
use Rattle.flag_relation.specs.declared.var.Var.{Var}
use Rattle.flag_relation.specs.declared.var.Var.TheVariants.{Reg, Cell}
use Rattle.flag_relation.specs.Forms.{FormOf, var_number}
use Rattle.rank_form.specs.Weights.{weigh, is_at, rate, var_at, term_of, terms_from, past, merged}
use Rattle.rank_form.proofs.Alikes.{Alike}
use Rattle.rank_form.proofs.Products.{times_times, zero_times}
use Rattle.rank_form.proofs.Summing.{at_one, at_none, test_same, test_other, test_above}
use Rattle.rank_form.proofs.Weighing.{weigh_append}

pub number_var : (i : ℕ) → var_number (var_at i) ≡ i
number_var zero = refl
number_var (suc zero) = refl
number_var (suc (suc zero)) = refl
number_var (suc (suc (suc i))) = omega arith

pub var_of_number : (v : Var) → var_at (var_number v) ≡ v
var_of_number (Reg A) = refl
var_of_number (Reg X) = refl
var_of_number (Reg Y) = refl
var_of_number (Cell i) =
    let e : 3 + i ≡ suc (suc (suc i)) = omega arith in
    ap var_at e

zero_is : (c : ℤ) → int_eq c (pos 0) ≡ true → c ≡ pos 0
zero_is c h = grind (arith, ints)

term_by : (h : Var → ℤ) (v : Var) (c : ℤ) (b : Bool) → int_eq c (pos 0) ≡ b → weigh h (cond b [] ((v, c) ∷ [])) ≡ c *ℤ h v
unfolding weigh
term_by h v c true e = sym (zero_times (h v)) ∙ ap (λ z. z *ℤ h v) (sym (zero_is c e))
term_by h v c false e = omega (arith, ints)

weigh_term : (h : Var → ℤ) (v : Var) (c : ℤ) → weigh h (term_of v c) ≡ c *ℤ h v
weigh_term h v c = term_by h v c (int_eq c (pos 0)) refl

-- the sum over so many numbers from one on
unfoldable sum_from : (ℕ → ℤ) → ℕ → ℕ → ℤ
sum_from g k zero = pos 0
sum_from g k (suc m) = g k +ℤ sum_from g (suc k) m

from_same : (g h : ℕ → ℤ) (k m : ℕ) → ((i : ℕ) → g i ≡ h i) → sum_from g k m ≡ sum_from h k m
unfolding sum_from
from_same g h k zero e = refl
from_same g h k (suc m) e = ap₂ ◌+ℤ◌ (e k) (from_same g h (suc k) m e)

from_plus : (g h : ℕ → ℤ) (k m : ℕ) → sum_from (λ i. g i +ℤ h i) k m ≡ sum_from g k m +ℤ sum_from h k m
unfolding sum_from
from_plus g h k zero = refl
from_plus g h k (suc m) = omega (arith, ints, from_plus g h (suc k) m)

from_zero : (g : ℕ → ℤ) (k m : ℕ) → ((i : ℕ) → k ≤ i → g i ≡ pos 0) → sum_from g k m ≡ pos 0
unfolding sum_from
from_zero g k zero e = refl
from_zero g k (suc m) e = omega (arith, ints, e k (omega arith), from_zero g (suc k) m (λ i h. e i (omega arith)))

-- what stands at a number, from the sum of what stands at each
abbrev spot : ℕ → (ℕ → ℤ) → ℕ → ℤ
spot j w i = cond (nat_eq j (var_number (var_at i))) (pos 1) (pos 0) *ℤ w i

spot_other : (j : ℕ) (w : ℕ → ℤ) (i : ℕ) → nat_eq j i ≡ false → spot j w i ≡ pos 0
spot_other j w i h = at_none (nat_eq j (var_number (var_at i))) (w i) (ap (nat_eq j) (number_var i) ∙ h)

spot_same : (j : ℕ) (w : ℕ → ℤ) → spot j w j ≡ w j
spot_same j w = at_one (nat_eq j (var_number (var_at j))) (w j) (ap (nat_eq j) (number_var j) ∙ test_same j)

order : (k j : ℕ) → k ≤ j → (k ≡ j) ⊎ (suc k ≤ j)
order k j h = grind arith

from_spot : (j : ℕ) (w : ℕ → ℤ) (k m : ℕ) → k ≤ j → j < k + m → sum_from (spot j w) k m ≡ w j
unfolding sum_from
from_spot j w k zero h p = absurd (omega arith)
from_spot j w k (suc m) h p = elim (order k j h) [
  | inl same ↦ omega (arith, ints, subst (λ (i : ℕ). spot j w i ≡ w j) (sym same) (spot_same j w), from_zero (spot j w) (suc k) m (λ i q. spot_other j w i (test_other j i (omega arith))))
  | inr more ↦ omega (arith, ints, spot_other j w k (test_above j k (omega arith)), from_spot j w (suc k) m more (omega arith))
]

weigh_from : (h g : Var → ℤ) (k m : ℕ) → weigh h (terms_from g k m) ≡ sum_from (λ i. g (var_at i) *ℤ h (var_at i)) k m
unfolding weigh terms_from sum_from
weigh_from h g k zero = refl
weigh_from h g k (suc m) =
    weigh_append h (term_of (var_at k) (g (var_at k))) (terms_from g (suc k) m) ∙ ap₂ ◌+ℤ◌ (weigh_term h (var_at k) (g (var_at k))) (weigh_from h g (suc k) m)

pub past_head : (t : Var × ℤ) (ts : List (Var × ℤ)) (n : ℕ) → past (t ∷ ts) ≤ n → var_number t.0 < n
unfolding past
past_head t ts n h = grind arith

pub past_tail : (t : Var × ℤ) (ts : List (Var × ℤ)) (n : ℕ) → past (t ∷ ts) ≤ n → past ts ≤ n
unfolding past
past_tail t ts n h = grind arith

turned : (t s a : ℤ) → (t *ℤ s) *ℤ a ≡ s *ℤ (t *ℤ a)
turned t s a = ap (λ z. z *ℤ a) (*ℤ_comm t s) ∙ times_times s t a

sum_zero_left : (n : ℕ) → n ≡ 0 + n
sum_zero_left n = omega arith

-- what terms weigh is the sum of each coefficient times what its variable weighs
from_rates : (h : Var → ℤ) (ts : List (Var × ℤ)) (n : ℕ) → past ts ≤ n → sum_from (λ i. rate ts (var_at i) *ℤ h (var_at i)) 0 n ≡ weigh h ts
unfolding weigh
from_rates h [] n p = from_zero (λ i. pos 0 *ℤ h (var_at i)) 0 n (λ i q. zero_times (h (var_at i)))
from_rates h (t ∷ ts) n p =
    let j = var_number t.0 in
    let w = λ (i : ℕ). t.1 *ℤ h (var_at i) in
    let rest = λ (i : ℕ). rate ts (var_at i) *ℤ h (var_at i) in
    let each = from_same (λ i. rate (t ∷ ts) (var_at i) *ℤ h (var_at i)) (λ i. spot j w i +ℤ rest i) 0 n
    (λ i. plus_times (t.1 *ℤ is_at (var_at i) t.0) (rate ts (var_at i)) (h (var_at i)) ∙ ap (λ z. z +ℤ rest i) (turned t.1 (is_at (var_at i) t.0) (h (var_at i)))) in
    let one = from_spot j w 0 n (omega arith) (subst (λ (m : ℕ). var_number t.0 < m) (sum_zero_left n) (past_head t ts n p)) in
    each ∙ from_plus (spot j w) rest 0 n ∙ ap₂ ◌+ℤ◌ (one ∙ ap (λ v. t.1 *ℤ h v) (var_of_number t.0)) (from_rates h ts n (past_tail t ts n p))

pub weigh_ordered : (h : Var → ℤ) (ts : List (Var × ℤ)) (n : ℕ) → past ts ≤ n → weigh h (terms_from (rate ts) 0 n) ≡ weigh h ts
weigh_ordered h ts n p = weigh_from h (rate ts) 0 n ∙ from_rates h ts n p

pub merged_alike : (f : FormOf) → Alike (merged f) f
merged_alike f = record { constant = refl; weighs = λ h. weigh_ordered h f.terms (past f.terms) (omega arith) }
