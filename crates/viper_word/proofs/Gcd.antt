-- What the greatest common divisor is.
use Rattle.std.specs.Prelude.{ℕ, zero, suc, ◌%◌, ◌<◌, nat_eq}
use Rattle.std.specs.Int.{◌∣◌, IsGcd}
use Rattle.std.proofs.Common.{arith}
use Rattle.viper_word.specs.Divisors.{gcd_within, gcd}
use Rattle.std.proofs.lemmas.Nat.{mod_below}
use Rattle.std.proofs.lemmas.Bool.{eqb-true, eqb-false, cond_both}
use Rattle.std.proofs.lemmas.Nat.Gcd.{IsGcd-from_zero, IsGcd-from_mod}

gcd_within_is : (k a b : ℕ) → b < k → IsGcd a b (gcd_within k a b)
unfolding gcd_within
gcd_within_is zero a b h = absurd (omega arith)
gcd_within_is (suc k) a b h =
    cond_both (nat_eq b 0) a (gcd_within k b (a % b)) (λ g. IsGcd a b g)
    (λ e. IsGcd-from_zero a b (eqb-true b 0 e))
    (λ e. let p : 0 < b = grind (arith, eqb-false b 0 e) in let q = mod_below a b p in IsGcd-from_mod a b _ (gcd_within_is k b (a % b) (omega arith)))

pub gcd_is : (a b : ℕ) → IsGcd a b (gcd a b)
unfolding gcd
gcd_is a b = gcd_within_is (suc b) a b (omega arith)

pub gcd_left : (a b : ℕ) → gcd a b ∣ a
gcd_left a b = (gcd_is a b).0

pub gcd_right : (a b : ℕ) → gcd a b ∣ b
gcd_right a b = (gcd_is a b).1

pub gcd_greatest : (a b d : ℕ) → d ∣ a → d ∣ b → d ∣ gcd a b
gcd_greatest a b d h k = (gcd_is a b).2 d h k
