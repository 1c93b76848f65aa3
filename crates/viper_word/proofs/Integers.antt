-- Tests of whole numbers, and what they say.
use Rattle.std.specs.Prelude.{◌≡◌, ℤ, ◌≤ℤ◌, ◌<ℤ◌, int_le, int_lt, true, false}
use Rattle.std.specs.Ordering.{int_eq}
use Rattle.std.proofs.Common.{arith, ⊎_elim}
use Rattle.std.proofs.lemmas.Int.{ints}
use Rattle.std.proofs.lemmas.Bool.{and_parts, and_from, cases_Bool}
use Rattle.viper_word.specs.Words.{IsSigned, least_signed, greatest_signed, is_signed}

pub le_true : (x y : ℤ) → int_le x y ≡ true → x ≤ℤ y
le_true x y h = grind (arith, ints)

pub le_false : (x y : ℤ) → int_le x y ≡ false → y <ℤ x
le_false x y h = grind (arith, ints)

pub true_le : (x y : ℤ) → x ≤ℤ y → int_le x y ≡ true
true_le x y h = grind (arith, ints)

pub lt_false : (x y : ℤ) → y <ℤ x → int_le x y ≡ false
lt_false x y h = grind (arith, ints)

pub less_true : (x y : ℤ) → int_lt x y ≡ true → x <ℤ y
less_true x y h = grind (arith, ints)

pub less_false : (x y : ℤ) → int_lt x y ≡ false → y ≤ℤ x
less_false x y h = grind (arith, ints)

pub true_less : (x y : ℤ) → x <ℤ y → int_lt x y ≡ true
true_less x y h = grind (arith, ints)

pub eq_true : (x y : ℤ) → int_eq x y ≡ true → x ≡ y
eq_true x y h = grind (arith, ints)

pub true_eq : (x y : ℤ) → x ≡ y → int_eq x y ≡ true
true_eq x y h = grind (arith, ints)

pub is_signed_true : (n : ℤ) → is_signed n ≡ true → IsSigned n
is_signed_true n h = let p = and_parts (int_le least_signed n) (int_le n greatest_signed) h in record { low = le_true least_signed n p.0; high = le_true n greatest_signed p.1 }

pub true_is_signed : (n : ℤ) → IsSigned n → is_signed n ≡ true
true_is_signed n h = and_from (int_le least_signed n) (int_le n greatest_signed) (true_le least_signed n h.low) (true_le n greatest_signed h.high)

pub not_signed : (z : ℤ) → (least_signed ≤ℤ z → z ≤ℤ greatest_signed → ⊥) → is_signed z ≡ false
not_signed z h = ⊎_elim (λ (e : is_signed z ≡ true). let p = is_signed_true z e in absurd (h p.low p.high)) (λ (e : is_signed z ≡ false). e) (cases_Bool (is_signed z))
