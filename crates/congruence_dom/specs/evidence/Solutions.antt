-- The least solution of a linear congruence, by Euclid's steps.
use Rattle.std.specs.Prelude.{◌≡◌, ℕ, ◌+◌, ◌-◌, ◌*◌, ◌/◌, ◌%◌, ◌<◌, ◌≤◌, nat_eq, nat_le, true, false}
use Rattle.std.specs.Int.{◌∣◌}
use Rattle.std.proofs.Common.{refl, sym, ap, arith, ⊎_elim, ◌∙◌}
use Rattle.std.proofs.Math.Nat.{div-add-mod, mod_self, mod-eq_of_lt, dvd-mul_right, mul-div_cancel', mul-le-mul_left, le_of_mul-le-mul_left}
use Rattle.std.proofs.lemmas.Nat.{mod_below}
use Rattle.std.proofs.lemmas.Bool.{cases_Bool, eqb-true, eqb-false, leb-true, leb-false}

-- a times k is d plus a multiple of n
pub record IsSolution (a d n k : ℕ) : Type 0 where
  pub steps : ℕ
  pub holds : a * k ≡ d + n * steps

-- what is missing from d to a multiple of a
unfoldable pub missing : ℕ → ℕ → ℕ
missing d a = (a - d % a) % a

spread : (a q r j : ℕ) → (a * q + r) * j ≡ a * (q * j) + r * j
spread a q r j = grind arith

pub spread_at : (n a j : ℕ) → n * j ≡ a * ((n / a) * j) + (n % a) * j
spread_at n a j = ap (λ (x : ℕ). x * j) (sym (div-add-mod n a)) ∙ spread a (n / a) (n % a) j

collect4 : (a p q r s : ℕ) → a * p + a * q + a * r + a * s ≡ a * (p + q + r + s)
collect4 a p q r s = grind arith

-- d and what is missing are a multiple of a
pub record IsFilled (d a : ℕ) : Type 0 where
  pub over : ℕ
  pub holds : d % a + missing d a ≡ a * over
  pub small : missing d a < a

pub filled : (d a : ℕ) → 0 < a → IsFilled d a
unfolding missing
filled d a h =
    let l = mod_below d a h in
    ⊎_elim (λ (e : nat_eq (d % a) 0 ≡ true). let z = eqb-true (d % a) 0 e in let f : a - d % a ≡ a = omega arith in let g : (a - d % a) % a ≡ 0 = rw f (mod_self a) in
    record { over = 0; holds = let i : a * 0 ≡ 0 = omega arith in omega arith; small = omega arith })
    (λ (e : nat_eq (d % a) 0 ≡ false). let z : 0 < d % a = grind (arith, eqb-false (d % a) 0 e) in
    let g : (a - d % a) % a ≡ a - d % a = mod-eq_of_lt (omega arith) in
    record { over = 1; holds = let i : a * 1 ≡ a = omega arith in omega arith; small = omega arith }) (cases_Bool (nat_eq (d % a) 0))

product_comm : (a b : ℕ) → a * b ≡ b * a
product_comm a b = grind arith

product_suc : (a b : ℕ) → a * (b + 1) ≡ a * b + a
product_suc a b = grind arith

pub product_sum : (a b c d : ℕ) → b ≡ c + d → a * b ≡ a * c + a * d
product_sum a b c d e = grind arith

-- a solution j of the smaller congruence gives one of the larger
pub record IsLifted (a d n j k : ℕ) : Type 0 where
  pub exact : a * k ≡ d + n * j
  pub below : k < n

pub lifted : (a d n j : ℕ) → 0 < a → d < n → j < a → IsSolution (n % a) (missing d a) a j → IsLifted a d n j ((d + n * j) / a)
lifted a d n j h l m s =
    let t = s.steps in
    let e = s.holds in
    let f = filled d a h in
    let g = f.holds in
    let i = spread_at n a j in
    let q = div-add-mod d a in
    let c = collect4 a (d / a) f.over ((n / a) * j) s.steps in
    let whole : d + n * j ≡ a * (d / a + f.over + (n / a) * j + s.steps) = omega arith in
    let dv : a ∣ (d + n * j) = rw whole (dvd-mul_right a (d / a + f.over + (n / a) * j + s.steps)) in
    let x : a * ((d + n * j) / a) ≡ d + n * j = mul-div_cancel' a dv in
    let up : n * (j + 1) ≤ n * a = mul-le-mul_left n (omega arith) in
    let us = product_suc n j in
    let co = product_comm n a in
    record {
      exact = x;
      below = ⊎_elim (λ (b : nat_le n ((d + n * j) / a) ≡ true). let le : a * n ≤ a * ((d + n * j) / a) = mul-le-mul_left a (leb-true n ((d + n * j) / a) b) in absurd (omega arith))
          (λ (b : nat_le n ((d + n * j) / a) ≡ false). leb-false n ((d + n * j) / a) b) (cases_Bool (nat_le n ((d + n * j) / a)));
    }

-- each solution of the larger congruence gives one of the smaller
pub lowered : (a d n k : ℕ) → 0 < a → (s : IsSolution a d n k) → IsSolution (n % a) (missing d a) a s.steps
lowered a d n k h s =
    let t = s.steps in
    let e = s.holds in
    let f = filled d a h in
    let g = f.holds in
    let i = spread_at n a s.steps in
    let q = div-add-mod d a in
    let c = d / a + (n / a) * s.steps in
    let cs = product_sum a (d / a + (n / a) * s.steps) (d / a) ((n / a) * s.steps) refl in
    let under : a * (d / a + (n / a) * s.steps) ≤ a * k = omega arith in
    let ck : d / a + (n / a) * s.steps ≤ k = le_of_mul-le-mul_left under h in
    let w0 = k - (d / a + (n / a) * s.steps) in
    let ks = product_sum a k (d / a + (n / a) * s.steps) (k - (d / a + (n / a) * s.steps)) (omega arith) in
    let small = f.small in
    let over : f.over ≤ k - (d / a + (n / a) * s.steps) = ⊎_elim (λ (b : nat_le f.over (k - (d / a + (n / a) * s.steps)) ≡ true). leb-true f.over (k - (d / a + (n / a) * s.steps)) b)
    (λ (b : nat_le f.over (k - (d / a + (n / a) * s.steps)) ≡ false).
    let lt = leb-false f.over (k - (d / a + (n / a) * s.steps)) b in
    let lm : a * ((k - (d / a + (n / a) * s.steps)) + 1) ≤ a * f.over = mul-le-mul_left a (omega arith) in
    let su = product_suc a (k - (d / a + (n / a) * s.steps)) in
    absurd (omega arith)) (cases_Bool (nat_le f.over (k - (d / a + (n / a) * s.steps)))) in
    let ws = product_sum a (k - (d / a + (n / a) * s.steps)) f.over ((k - (d / a + (n / a) * s.steps)) - f.over) (omega arith) in
    record { steps = (k - (d / a + (n / a) * s.steps)) - f.over; holds = omega arith }

pub lifted_least : (a d n j k : ℕ) → 0 < a → (s : IsSolution a d n k) → IsLifted a d n j ((d + n * j) / a) → j ≤ s.steps → (d + n * j) / a ≤ k
lifted_least a d n j k h s l m =
    let e = l.exact in
    let f = s.holds in
    let g : n * j ≤ n * s.steps = mul-le-mul_left n m in
    let i : a * ((d + n * j) / a) ≤ a * k = omega arith in
    le_of_mul-le-mul_left i h
