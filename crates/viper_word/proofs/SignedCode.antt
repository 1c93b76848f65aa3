-- What the code of the signed operations computes.
use Rattle.std.specs.Prelude.{◌≡◌, ℕ, ◌+◌, ◌-◌, ◌/◌, ◌%◌, ◌^◌, ◌<◌, ℤ, pos, negsuc, ◌+ℤ◌, ◌-ℤ◌, Bool, true, false, cond, nat_lt, bit_and, bit_or, bit_xor}
use Rattle.std.specs.Int.{w32, w64, cast_signed, cast_unsigned, int_wrap, int_div_euclid}
use Rattle.std.proofs.Common.{refl, ap, arith, ⊎_elim, ◌∙◌}
use Rattle.std.proofs.Math.Path.{ap₂}
use Rattle.std.proofs.lemmas.Int.{ints, to_z_pos, wrapping_add_is, wrapping_sub_is, int_wrap-add_left}
use Rattle.std.proofs.lemmas.Nat.{and_le_l, xor_lt}
use Rattle.std.proofs.lemmas.Bool.{cases_Bool, ltb-true, ltb-false}
use Rattle.viper_word.specs.Words.{IsSigned}
use Rattle.viper_word.specs.Signed.{wrapped, signed_xor, signed_and, signed_nor, signed_and_not, halved, shifted_right, shifted_left}
use Rattle.viper_word.proofs.SignedLemmas.{high_word, signed_fits, wrapped_in_w, unsigned_below}

pub outer : (z : ℤ) → IsSigned z → cast_signed w64 (cast_unsigned w64 z) ≡ z
outer z h = let l = h.low in let k = h.high in omega (arith, ints)

pub word_signed : (n : ℕ) → n < 2 ^ 32 → IsSigned (cast_signed w32 n)
word_signed n h =
    ⊎_elim (λ (e : nat_lt n (2 ^ 31) ≡ true). let l = ltb-true n (2 ^ 31) e in let f = to_z_pos w32 n l in record { low = omega (arith, ints); high = omega (arith, ints) })
    (λ (e : nat_lt n (2 ^ 31) ≡ false). let l = ltb-false n (2 ^ 31) e in let f = high_word n l h in record { low = omega (arith, ints); high = omega (arith, ints) }) (cases_Bool (nat_lt n (2 ^ 31)))

-- a result of the code, where its value is known
pub outer_is : (z r : ℤ) → z ≡ r → IsSigned r → cast_signed w64 (cast_unsigned w64 z) ≡ r
outer_is z r e h = ap (λ (y : ℤ). cast_signed w64 (cast_unsigned w64 y)) e ∙ outer r h

pub and_code : (x y x' y' : ℤ) → IsSigned x → x' ≡ x → y' ≡ y → cast_signed w64 (cast_unsigned w64 (cast_signed w32 (bit_and (cast_unsigned w32 x') (cast_unsigned w32 y')))) ≡ signed_and x y
unfolding signed_and
and_code x y x' y' h e f =
    let n = cast_unsigned w32 x in
    let m = cast_unsigned w32 y in
    let b = unsigned_below x h in
    let l = and_le_l n m in
    outer_is (cast_signed w32 (bit_and (cast_unsigned w32 x') (cast_unsigned w32 y'))) (cast_signed w32 (bit_and n m)) (ap₂ (λ (a b : ℤ). cast_signed w32 (bit_and (cast_unsigned w32 a) (cast_unsigned w32 b))) e f) (word_signed (bit_and n m) (omega arith))

pub xor_code : (x y x' y' : ℤ) → IsSigned x → IsSigned y → x' ≡ x → y' ≡ y → cast_signed w64 (cast_unsigned w64 (cast_signed w32 (bit_xor (cast_unsigned w32 x') (cast_unsigned w32 y')))) ≡ signed_xor x y
unfolding signed_xor
xor_code x y x' y' h k e f =
    let n = cast_unsigned w32 x in
    let m = cast_unsigned w32 y in
    outer_is (cast_signed w32 (bit_xor (cast_unsigned w32 x') (cast_unsigned w32 y'))) (cast_signed w32 (bit_xor n m)) (ap₂ (λ (a b : ℤ). cast_signed w32 (bit_xor (cast_unsigned w32 a) (cast_unsigned w32 b))) e f) (word_signed (bit_xor n m) (xor_lt 32 n m (unsigned_below x h) (unsigned_below y k)))

pub nor_code : (x y x' y' : ℤ) → x' ≡ x → y' ≡ y → cast_signed w64 (cast_unsigned w64 (cast_signed w32 (2 ^ 32 - 1 - bit_or (cast_unsigned w32 x') (cast_unsigned w32 y')))) ≡ signed_nor x y
unfolding signed_nor
nor_code x y x' y' e f =
    let n = cast_unsigned w32 x in
    let m = cast_unsigned w32 y in
    outer_is (cast_signed w32 (2 ^ 32 - 1 - bit_or (cast_unsigned w32 x') (cast_unsigned w32 y'))) (cast_signed w32 (2 ^ 32 - 1 - bit_or n m)) (ap₂ (λ (a b : ℤ). cast_signed w32 (2 ^ 32 - 1 - bit_or (cast_unsigned w32 a) (cast_unsigned w32 b))) e f) (word_signed (2 ^ 32 - 1 - bit_or n m) (omega arith))

pub and_not_code : (x y x' y' : ℤ) → IsSigned x → x' ≡ x → y' ≡ y → cast_signed w64 (cast_unsigned w64 (cast_signed w32 (bit_and (cast_unsigned w32 x') (2 ^ 32 - 1 - cast_unsigned w32 y')))) ≡ signed_and_not x y
unfolding signed_and_not
and_not_code x y x' y' h e f =
    let n = cast_unsigned w32 x in
    let m = 2 ^ 32 - 1 - cast_unsigned w32 y in
    let b = unsigned_below x h in
    let l = and_le_l n m in
    outer_is (cast_signed w32 (bit_and (cast_unsigned w32 x') (2 ^ 32 - 1 - cast_unsigned w32 y'))) (cast_signed w32 (bit_and n m)) (ap₂ (λ (a b : ℤ). cast_signed w32 (bit_and (cast_unsigned w32 a) (2 ^ 32 - 1 - cast_unsigned w32 b))) e f) (word_signed (bit_and n m) (omega arith))

pub sum_code : (x y x' y' : ℤ) → IsSigned x → IsSigned y → x' ≡ x → y' ≡ y → cast_signed w64 (cast_unsigned w64 (cast_signed w32 ((cast_unsigned w32 x' + cast_unsigned w32 y') % 2 ^ 32))) ≡ wrapped (x +ℤ y)
unfolding wrapped
sum_code x y x' y' h k e f =
    outer_is (cast_signed w32 ((cast_unsigned w32 x' + cast_unsigned w32 y') % 2 ^ 32)) (int_wrap w32 (x +ℤ y))
    (ap₂ (λ (a b : ℤ). cast_signed w32 ((cast_unsigned w32 a + cast_unsigned w32 b) % 2 ^ 32)) e f ∙ wrapping_add_is w32 x y (signed_fits x h) (signed_fits y k)) (wrapped_in_w (x +ℤ y))

pub difference_code : (x y x' y' : ℤ) → IsSigned x → IsSigned y → x' ≡ x → y' ≡ y → cast_signed w64 (cast_unsigned w64 (cast_signed w32 ((cast_unsigned w32 x' + (2 ^ 32 - cast_unsigned w32 y')) % 2 ^ 32))) ≡ wrapped (x -ℤ y)
unfolding wrapped
difference_code x y x' y' h k e f =
    outer_is (cast_signed w32 ((cast_unsigned w32 x' + (2 ^ 32 - cast_unsigned w32 y')) % 2 ^ 32)) (int_wrap w32 (x -ℤ y))
    (ap₂ (λ (a b : ℤ). cast_signed w32 ((cast_unsigned w32 a + (2 ^ 32 - cast_unsigned w32 b)) % 2 ^ 32)) e f ∙ wrapping_sub_is w32 x y (signed_fits x h) (signed_fits y k)) (wrapped_in_w (x -ℤ y))

pub half_code : (x : ℤ) → int_div_euclid x (pos 2) ≡ halved x
unfolding halved
half_code (pos n) = refl
half_code (negsuc n) = refl

pub twice_outer : (z r : ℤ) → z ≡ r → IsSigned r → cast_signed w64 (cast_unsigned w64 (cast_signed w32 (cast_unsigned w32 z))) ≡ r
twice_outer z r e h =
    let l = h.low in
    let k = h.high in
    ap (λ (y : ℤ). cast_signed w64 (cast_unsigned w64 (cast_signed w32 (cast_unsigned w32 y)))) e ∙ omega (arith, ints)

pub right_code : (b : Bool) (x z r : ℤ) (u : ℕ) → u ≡ cast_unsigned w32 z → z ≡ x → r ≡ cast_signed w32 (u / 2 + cond b (2 ^ 31) 0) → r ≡ shifted_right b x
unfolding shifted_right
right_code b x z r u e f g = g ∙ ap (λ (n : ℕ). cast_signed w32 (n / 2 + cond b (2 ^ 31) 0)) (e ∙ ap (cast_unsigned w32) f)

pub left_set_code : (x d z r : ℤ) → d ≡ wrapped (x +ℤ x) → z ≡ d +ℤ pos 1 → r ≡ wrapped z → r ≡ shifted_left true x
unfolding shifted_left wrapped
left_set_code x d z r e f g = g ∙ ap (int_wrap w32) (f ∙ ap (λ (y : ℤ). y +ℤ pos 1) e) ∙ int_wrap-add_left w32 (x +ℤ x) (pos 1)

pub left_clear_code : (x z r : ℤ) → z ≡ x +ℤ x → r ≡ wrapped z → r ≡ shifted_left false x
unfolding shifted_left
left_clear_code x z r f g = g ∙ ap wrapped (omega (arith, ints))
