-- The digits of a word, one by one.
use Rattle.std.proofs.Common.{◌≡◌, ℕ, ◌/◌, ◌%◌, [], ◌∷◌, refl, arith}
use Rattle.viper_word.specs.Digits.{digit, digits, word_digits}

pub eight_digits : (n : ℕ) → word_digits n ≡ digit (n / 0x1000_0000 % 16) ∷ digit (n / 0x100_0000 % 16) ∷ digit (n / 0x10_0000 % 16) ∷ digit (n / 0x1_0000 % 16) ∷ digit (n / 0x1000 % 16) ∷ digit (n / 0x100 % 16) ∷ digit (n / 0x10 % 16) ∷ digit (n % 16) ∷ []
unfolding digits
eight_digits n =
    let e2 : n / 16 / 16 ≡ n / 0x100 = omega arith in
    let e3 : n / 0x100 / 16 ≡ n / 0x1000 = omega arith in
    let e4 : n / 0x1000 / 16 ≡ n / 0x1_0000 = omega arith in
    let e5 : n / 0x1_0000 / 16 ≡ n / 0x10_0000 = omega arith in
    let e6 : n / 0x10_0000 / 16 ≡ n / 0x100_0000 = omega arith in
    let e7 : n / 0x100_0000 / 16 ≡ n / 0x1000_0000 = omega arith in
    rw (e2, e3, e4, e5, e6, e7) refl
