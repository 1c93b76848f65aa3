-- Products of whole numbers.
use Rattle.std.specs.Prelude.{◌≡◌, ℕ, ◌*◌, ℤ, ◌+ℤ◌, ◌-ℤ◌, ◌*ℤ◌}
use Rattle.std.proofs.Common.{arith, ap}
use Rattle.std.proofs.lemmas.Int.{ints}
use Rattle.std.proofs.Math.IntN.{*ℤ_comm}
use borrow.Author.Differences.{up, down, sum_is_lem}

pub times_plus : (t a b : ℤ) → t *ℤ (a +ℤ b) ≡ (t *ℤ a) +ℤ (t *ℤ b)
times_plus t a b = omega (arith, ints, ap (λ (z : ℕ). up t * z) (sum_is_lem a b), ap (λ (z : ℕ). down t * z) (sum_is_lem a b))

pub plus_times : (a b t : ℤ) → (a +ℤ b) *ℤ t ≡ (a *ℤ t) +ℤ (b *ℤ t)
plus_times a b t = omega (arith, ints, times_plus t a b, *ℤ_comm (a +ℤ b) t, *ℤ_comm a t, *ℤ_comm b t)

-- so is a difference: it and the second make the first
pub less_times : (a b t : ℤ) → (a -ℤ b) *ℤ t ≡ (a *ℤ t) -ℤ (b *ℤ t)
less_times a b t =
    let e : (a -ℤ b) +ℤ b ≡ a = omega (arith, ints) in
    let d : ((a -ℤ b) +ℤ b) *ℤ t ≡ ((a -ℤ b) *ℤ t) +ℤ (b *ℤ t) = plus_times (a -ℤ b) b t in
    let f : a *ℤ t ≡ ((a -ℤ b) *ℤ t) +ℤ (b *ℤ t) = rw e at d in
    omega (arith, ints)
