-- Steps of a modulus, by the test of a remainder.
use Rattle.std.specs.Prelude.{◌≡◌, ℕ, ◌+◌, ◌*◌, ◌/◌, ◌%◌, ◌==◌, suc, zero, ℤ, pos, negsuc, neg_ℤ, ◌+ℤ◌, ◌-ℤ◌, ◌*ℤ◌, ◌≤ℤ◌, true, nat_abs}
use Rattle.std.specs.Int.{◌∣◌}
use Rattle.std.proofs.Common.{arith, sym, ap, ◌∙◌}
use Rattle.std.proofs.Math.Nat.{div-add-mod, dvd-mul_left}
use Rattle.std.proofs.lemmas.Bool.{eqb-true}
use Rattle.std.proofs.lemmas.Int.{ints, unsigned_abs-mul}
use Rattle.viper_word.specs.Ranges.{OnStep}
use Rattle.viper_word.proofs.Products.{plus_times, less_times}

back_steps : (q t : ℤ) (n m k : ℕ) → q ≡ pos m → k * m ≡ n + 1 → OnStep q t (t +ℤ negsuc n)
back_steps q t n m zero e f = absurd (omega arith)
back_steps q t n m (suc j) e f =
    let g : negsuc n ≡ neg_ℤ (pos (suc j * m)) = omega (arith, ints) in
    record { steps = negsuc j; holds = rw e (ap (λ (z : ℤ). t +ℤ z) g) }

-- a number whose distance from t leaves no remainder
whole_steps : (q t z : ℤ) (m : ℕ) → q ≡ pos m → nat_abs z % m ≡ 0 → OnStep q t (t +ℤ z)
whole_steps q t (pos n) m e h =
    let d = div-add-mod n m in
    let f : n / m * m ≡ n = omega arith in
    record { steps = pos (n / m); holds = rw e (ap (λ (k : ℕ). t +ℤ pos k) (sym f)) }
whole_steps q t (negsuc n) m e h =
    back_steps q t n m (nat_abs (negsuc n) / m) e (let d = div-add-mod (nat_abs (negsuc n)) m in let c : nat_abs (negsuc n) ≡ n + 1 = omega (arith, ints) in omega arith)

pub on_step_from : (q t z n : ℤ) → pos 1 ≤ℤ q → (nat_abs (z -ℤ t) % nat_abs q == 0) ≡ true → n ≡ z → OnStep q t n
on_step_from q t z n l e f =
    let s = whole_steps q t (z -ℤ t) (nat_abs q) (omega (arith, ints)) (eqb-true (nat_abs (z -ℤ t) % nat_abs q) 0 e) in
    let g : t +ℤ (z -ℤ t) ≡ n = omega (arith, ints) in
    rw g at s

-- a step's distance is a multiple of the modulus
pub step_divides : (q t n : ℤ) → OnStep q t n → nat_abs q ∣ nat_abs (n -ℤ t)
step_divides q t n s =
    let d : n -ℤ t ≡ s.steps *ℤ q = let h = s.holds in omega (arith, ints) in
    let e : nat_abs (n -ℤ t) ≡ nat_abs s.steps * nat_abs q = ap nat_abs d ∙ unsigned_abs-mul s.steps q in
    rw e (dvd-mul_left (nat_abs q) (nat_abs s.steps))

-- two numbers that are both so many steps from a third are so many steps apart
pub steps_between : (q t a b : ℤ) → OnStep q t a → OnStep q t b → OnStep q a b
steps_between q t a b s r =
    let f = s.holds in
    let g = r.holds in
    let d : (r.steps -ℤ s.steps) *ℤ q ≡ (r.steps *ℤ q) -ℤ (s.steps *ℤ q) = less_times r.steps s.steps q in
    record { steps = r.steps -ℤ s.steps; holds = omega (arith, ints) }

pub steps_onward : (q t a b : ℤ) → OnStep q t a → OnStep q a b → OnStep q t b
steps_onward q t a b s r =
    let f = s.holds in
    let g = r.holds in
    let d : (s.steps +ℤ r.steps) *ℤ q ≡ (s.steps *ℤ q) +ℤ (r.steps *ℤ q) = plus_times s.steps r.steps q in
    record { steps = s.steps +ℤ r.steps; holds = omega (arith, ints) }
