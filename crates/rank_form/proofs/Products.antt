-- Products of whole numbers: what the lemma house doesn't have.
use Rattle.std.specs.Prelude.{◌≡◌, ℕ, ◌+◌, ◌*◌, ◌≤◌, ℤ, pos, negsuc, ◌*ℤ◌, neg_ℤ, ◌≤ℤ◌}
use Rattle.std.proofs.Common.{arith, ◌∙◌, ap, zero, suc}
use Rattle.std.proofs.lemmas.Int.{ints}
use Rattle.std.proofs.Math.IntN.{*ℤ_comm}
use borrow.Author.Differences.{up, down, le_out, product_is}

pub times_times : (s t a : ℤ) → (s *ℤ t) *ℤ a ≡ s *ℤ (t *ℤ a)
times_times s t a =
    let p = product_is s t in
    let q = product_is t a in
    omega (
      arith,
      ints,
      ap (λ (z : ℕ). z * up a) p.0,
      ap (λ (z : ℕ). z * down a) p.0,
      ap (λ (z : ℕ). z * up a) p.1,
      ap (λ (z : ℕ). z * down a) p.1,
      ap (λ (z : ℕ). up s * z) q.0,
      ap (λ (z : ℕ). down s * z) q.0,
      ap (λ (z : ℕ). up s * z) q.1,
      ap (λ (z : ℕ). down s * z) q.1,
    )

grows : (n k m : ℕ) → k ≤ m → n * k ≤ n * m
grows n k m h = grind arith

pub times_mono : (c a b : ℤ) → pos 0 ≤ℤ c → a ≤ℤ b → (c *ℤ a) ≤ℤ (c *ℤ b)
times_mono (pos n) a b h k = omega (arith, ints, grows n (up a + down b) (up b + down a) (le_out a b k))
times_mono (negsuc n) a b h k = absurd (omega (arith, ints))

times_neg : (c a : ℤ) → neg_ℤ c *ℤ a ≡ neg_ℤ (c *ℤ a)
times_neg (pos zero) a = omega (arith, ints)
times_neg (pos (suc n)) a = omega (arith, ints)
times_neg (negsuc n) a = omega (arith, ints)

pub times_turned : (c a b : ℤ) → c ≤ℤ pos 0 → a ≤ℤ b → (c *ℤ b) ≤ℤ (c *ℤ a)
times_turned c a b h k = omega (arith, ints, times_mono (neg_ℤ c) a b (omega (arith, ints)) k, times_neg c a, times_neg c b)

pub times_minus : (a : ℤ) → neg_ℤ (pos 1) *ℤ a ≡ neg_ℤ a
times_minus a = omega (arith, ints)

pub times_zero : (a : ℤ) → a *ℤ pos 0 ≡ pos 0
times_zero a = omega (arith, ints)

pub zero_times : (a : ℤ) → pos 0 *ℤ a ≡ pos 0
zero_times a = omega (arith, ints)

pub times_negated : (t a : ℤ) → t *ℤ (neg_ℤ (pos 1) *ℤ a) ≡ neg_ℤ (t *ℤ a)
times_negated t a = ap (λ z. t *ℤ z) (times_minus a) ∙ omega (arith, ints, *ℤ_comm t (neg_ℤ a), times_neg a t, *ℤ_comm a t)
