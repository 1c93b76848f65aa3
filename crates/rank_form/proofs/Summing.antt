-- Sums over variables, term by term.
use Rattle.std.specs.Prelude.{◌≡◌, ℕ, zero, suc, ◌+◌, ◌<◌, ◌≤◌, nat_eq, cond, true, false, Bool, ℤ, pos, ◌+ℤ◌, ◌*ℤ◌, ◌≤ℤ◌, List, [], ◌∷◌}
use Rattle.std.proofs.Common.{add-one, refl, arith, sym, ◌∙◌, ap, subst, ◌⊎◌, inl, inr}
use Rattle.std.proofs.Math.Path.{ap₂}
use Rattle.std.proofs.lemmas.Int.{ints}
use Rattle.viper_word.specs.declared.reg.Reg.TheVariants.{A, X, Y}
use Rattle.flag_relation.specs.declared.var.Var.{Var}
use Rattle.flag_relation.specs.declared.var.Var.TheVariants.{Reg, Cell}
use Rattle.rank_form.specs.Weights.{weigh, rate, is_at, sum_below, sum_over}
use Rattle.viper_word.proofs.Products.{times_plus, plus_times}
use Rattle.rank_form.proofs.Products.{times_times, times_zero, zero_times}

below_le : (n : ℕ) (g h : ℕ → ℤ) → ((i : ℕ) → g i ≤ℤ h i) → sum_below n g ≤ℤ sum_below n h
unfolding sum_below
below_le zero g h p = omega (arith, ints)
below_le (suc n) g h p = omega (arith, ints, below_le n g h p, p n)

below_plus : (n : ℕ) (g h : ℕ → ℤ) → sum_below n (λ i. g i +ℤ h i) ≡ sum_below n g +ℤ sum_below n h
unfolding sum_below
below_plus zero g h = omega (arith, ints)
below_plus (suc n) g h = omega (arith, ints, below_plus n g h)

below_times : (n : ℕ) (t : ℤ) (g : ℕ → ℤ) → sum_below n (λ i. t *ℤ g i) ≡ t *ℤ sum_below n g
unfolding sum_below
below_times zero t g = sym (times_zero t)
below_times (suc n) t g = omega (arith, ints, below_times n t g, times_plus t (sum_below n g) (g n))

below_zero : (n : ℕ) (g : ℕ → ℤ) → ((i : ℕ) → i < n → g i ≡ pos 0) → sum_below n g ≡ pos 0
unfolding sum_below
below_zero zero g p = refl
below_zero (suc n) g p = omega (arith, ints, below_zero n g (λ i h. p i (omega arith)), p n (omega arith))

pub sum_le : (n : ℕ) (g h : Var → ℤ) → ((v : Var) → g v ≤ℤ h v) → sum_over n g ≤ℤ sum_over n h
sum_le n g h p = omega (arith, ints, p (Reg A), p (Reg X), p (Reg Y), below_le n (λ i. g (Cell i)) (λ i. h (Cell i)) (λ i. p (Cell i)))

pub sum_plus : (n : ℕ) (g h : Var → ℤ) → sum_over n (λ v. g v +ℤ h v) ≡ sum_over n g +ℤ sum_over n h
sum_plus n g h = omega (arith, ints, below_plus n (λ i. g (Cell i)) (λ i. h (Cell i)))

pub sum_times : (n : ℕ) (t : ℤ) (g : Var → ℤ) → sum_over n (λ v. t *ℤ g v) ≡ t *ℤ sum_over n g
sum_times n t g =
    omega (
      arith,
      ints,
      below_times n t (λ i. g (Cell i)),
      times_plus t (g (Reg A) +ℤ g (Reg X) +ℤ g (Reg Y)) (sum_below n (λ i. g (Cell i))),
      times_plus t (g (Reg A) +ℤ g (Reg X)) (g (Reg Y)),
      times_plus t (g (Reg A)) (g (Reg X)),
    )

pub sum_zero : (n : ℕ) (g : Var → ℤ) → ((v : Var) → g v ≡ pos 0) → sum_over n g ≡ pos 0
sum_zero n g p = omega (arith, ints, p (Reg A), p (Reg X), p (Reg Y), below_zero n (λ i. g (Cell i)) (λ i h. p (Cell i)))

below_same : (n : ℕ) (g h : ℕ → ℤ) → ((i : ℕ) → g i ≡ h i) → sum_below n g ≡ sum_below n h
unfolding sum_below
below_same zero g h p = refl
below_same (suc n) g h p = ap₂ ◌+ℤ◌ (below_same n g h p) (p n)

pub sum_same : (n : ℕ) (g h : Var → ℤ) → ((v : Var) → g v ≡ h v) → sum_over n g ≡ sum_over n h
sum_same n g h p = omega (arith, ints, p (Reg A), p (Reg X), p (Reg Y), below_same n (λ i. g (Cell i)) (λ i. h (Cell i)) (λ i. p (Cell i)))

-- ---- the sum of each variable's share

pub test_same : (i : ℕ) → nat_eq i i ≡ true
test_same i = grind arith

pub test_other : (i j : ℕ) → i < j → nat_eq i j ≡ false
test_other i j h = grind arith

pub test_above : (i j : ℕ) → j < i → nat_eq i j ≡ false
test_above i j h = grind arith

pub at_one : (b : Bool) (c : ℤ) → b ≡ true → cond b (pos 1) (pos 0) *ℤ c ≡ c
at_one true c e = omega (arith, ints)
at_one false c e = cc

pub at_none : (b : Bool) (c : ℤ) → b ≡ false → cond b (pos 1) (pos 0) *ℤ c ≡ pos 0
at_none true c e = cc
at_none false c e = zero_times c

order : (k n : ℕ) → (k < n) ⊎ (n ≤ k)
order k zero = inr (omega arith)
order zero (suc n) = inl (omega arith)
order (suc k) (suc n) = elim (order k n) [
  | inl less ↦ inl (omega arith)
  | inr past ↦ inr (omega arith)
]

-- where the numbers differ
others_zero : (n k : ℕ) (g : ℕ → ℤ) → n ≤ k → sum_below n (λ i. cond (nat_eq (3 + k) (3 + i)) (pos 1) (pos 0) *ℤ g i) ≡ pos 0
others_zero n k g h = below_zero n _ (λ i lt. at_none (nat_eq (3 + k) (3 + i)) (g i) (test_above (3 + k) (3 + i) (omega arith)))

same_number : (n k : ℕ) (g : ℕ → ℤ) → k < suc n → n ≤ k → cond (nat_eq (3 + k) (3 + n)) (pos 1) (pos 0) *ℤ g n ≡ g k
same_number n k g h p = let e : k ≡ n = omega arith in subst (λ (j : ℕ). cond (nat_eq (3 + j) (3 + n)) (pos 1) (pos 0) *ℤ g n ≡ g j) (sym e) (at_one (nat_eq (3 + n) (3 + n)) (g n) (test_same (3 + n)))

below_in : (n k : ℕ) (g : ℕ → ℤ) → k < n → sum_below n (λ i. cond (nat_eq (3 + k) (3 + i)) (pos 1) (pos 0) *ℤ g i) ≡ g k
unfolding sum_below
below_in zero k g h = absurd (omega arith)
below_in (suc n) k g h = elim (order k n) [
  | inl less ↦ omega (arith, ints, below_in n k g less, at_none (nat_eq (3 + k) (3 + n)) (g n) (test_other (3 + k) (3 + n) (omega arith)))
  | inr past ↦ omega (arith, ints, others_zero n k g past, same_number n k g h past)
]

-- the sum over numbers of what stands at one of them; past them it is zero
below_at : (n k : ℕ) (g : ℕ → ℤ) → ((i : ℕ) → n ≤ i → g i ≡ pos 0) → sum_below n (λ i. cond (nat_eq (3 + k) (3 + i)) (pos 1) (pos 0) *ℤ g i) ≡ g k
below_at n k g p = elim (order k n) [
  | inl less ↦ below_in n k g less
  | inr past ↦ others_zero n k g past ∙ sym (p k past)
]

-- what stands at the variable, from the sum of what stands at each
pub share : (n : ℕ) (u : Var) (g : Var → ℤ) → ((i : ℕ) → n ≤ i → g (Cell i) ≡ pos 0) → sum_over n (λ v. is_at v u *ℤ g v) ≡ g u
share n (Reg A) g p = omega (arith, ints, below_zero n (λ i. is_at (Cell i) (Reg A) *ℤ g (Cell i)) (λ i h. at_none (nat_eq 0 (3 + i)) (g (Cell i)) (test_other 0 (3 + i) (omega arith))), zero_times (g (Reg X)), zero_times (g (Reg Y)), at_one true (g (Reg A)) refl)
share n (Reg X) g p = omega (arith, ints, below_zero n (λ i. is_at (Cell i) (Reg X) *ℤ g (Cell i)) (λ i h. at_none (nat_eq 1 (3 + i)) (g (Cell i)) (test_other 1 (3 + i) (omega arith))), zero_times (g (Reg A)), zero_times (g (Reg Y)), at_one true (g (Reg X)) refl)
share n (Reg Y) g p = omega (arith, ints, below_zero n (λ i. is_at (Cell i) (Reg Y) *ℤ g (Cell i)) (λ i h. at_none (nat_eq 2 (3 + i)) (g (Cell i)) (test_other 2 (3 + i) (omega arith))), zero_times (g (Reg A)), zero_times (g (Reg X)), at_one true (g (Reg Y)) refl)
share n (Cell k) g p = omega (arith, ints, below_at n k (λ i. g (Cell i)) p, at_none (nat_eq (3 + k) 0) (g (Reg A)) (test_above (3 + k) 0 (omega arith)), at_none (nat_eq (3 + k) 1) (g (Reg X)) (test_above (3 + k) 1 (omega arith)), at_none (nat_eq (3 + k) 2) (g (Reg Y)) (test_above (3 + k) 2 (omega arith)))

-- what terms weigh is the sum of each variable's coefficient times what it weighs
pub weigh_rates : (n : ℕ) (g : Var → ℤ) (ts : List (Var × ℤ)) → ((i : ℕ) → n ≤ i → g (Cell i) ≡ pos 0) → weigh g ts ≡ sum_over n (λ v. rate ts v *ℤ g v)
unfolding weigh
weigh_rates n g [] p = sym (sum_zero n _ (λ v. zero_times (g v)))
weigh_rates n g (t ∷ ts) p =
    let one : sum_over n (λ v. (t.1 *ℤ is_at v t.0) *ℤ g v) ≡ t.1 *ℤ g t.0 =
    sum_same n _ (λ v. t.1 *ℤ (is_at v t.0 *ℤ g v)) (λ v. times_times t.1 (is_at v t.0) (g v)) ∙ sum_times n t.1 (λ v. is_at v t.0 *ℤ g v) ∙ ap (λ z. t.1 *ℤ z) (share n t.0 g p) in
    let split = sum_same n (λ v. ((t.1 *ℤ is_at v t.0) +ℤ rate ts v) *ℤ g v) (λ v. ((t.1 *ℤ is_at v t.0) *ℤ g v) +ℤ (rate ts v *ℤ g v)) (λ v. plus_times (t.1 *ℤ is_at v t.0) (rate ts v) (g v)) in
    let two = sum_plus n (λ v. (t.1 *ℤ is_at v t.0) *ℤ g v) (λ v. rate ts v *ℤ g v) in
    ap₂ ◌+ℤ◌ (sym one) (weigh_rates n g ts p) ∙ sym two ∙ sym split

pub sum_next : (n : ℕ) (g : ℕ → ℤ) → sum_below (n + 1) g ≡ sum_below n g +ℤ g n
unfolding sum_below
sum_next n g = ap (λ (m : ℕ). sum_below m g) (add-one n)

pub sum_none : (g : ℕ → ℤ) → sum_below 0 g ≡ pos 0
unfolding sum_below
sum_none g = refl
