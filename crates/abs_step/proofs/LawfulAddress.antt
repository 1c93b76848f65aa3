-- Words and signed numbers: lawful addresses.
use Rattle.std.specs.Prelude.{◌≡◌, ℕ, ◌+◌, ◌%◌, ◌^◌, ◌<◌, pos, nat_abs, ◌+ℤ◌, ◌-◌, int_le, ◌&&◌, Bool, true, false, cond, Some, None}
use Rattle.std.proofs.Common.{refl, arith}
use Rattle.std.proofs.lemmas.Int.{ints}
use Rattle.std.proofs.lemmas.Bool.{and_parts}
use Rattle.viper_word.specs.Words.{signed_value}
use Rattle.viper_word.proofs.Integers.{le_true}
use Rattle.abs_step.proofs.Performing.{lawful}

-- the machine's address, modulo 2^32, is the lawful one
pub address_is : (a x n : ℕ) → a < 2 ^ 20 → x < 2 ^ 32 → lawful (pos a +ℤ signed_value x) ≡ Some n → ((a + x) % 2 ^ 32 ≡ n) × (n < 2 ^ 20)
address_is a x n h k e = by_test (int_le (pos 0) (pos a +ℤ signed_value x) && int_le (pos a +ℤ signed_value x) (pos (2 ^ 20 - 1))) refl e
  where
    some_same : (x y : ℕ) → Some x ≡ Some y → x ≡ y
    some_same x y h = cc

    by_test : (b : Bool) → (int_le (pos 0) (pos a +ℤ signed_value x) && int_le (pos a +ℤ signed_value x) (pos (2 ^ 20 - 1))) ≡ b → cond b (Some (nat_abs (pos a +ℤ signed_value x))) None ≡ Some n → ((a + x) % 2 ^ 32 ≡ n) × (n < 2 ^ 20)
    by_test false t i = absurd (cc)
    by_test true t i =
        let p = and_parts (int_le (pos 0) (pos a +ℤ signed_value x)) (int_le (pos a +ℤ signed_value x) (pos (2 ^ 20 - 1))) t in
        let lo = le_true (pos 0) (pos a +ℤ signed_value x) p.0 in
        let hi = le_true (pos a +ℤ signed_value x) (pos (2 ^ 20 - 1)) p.1 in
        let j = some_same (nat_abs (pos a +ℤ signed_value x)) n i in
        (grind (arith, ints), grind (arith, ints))
