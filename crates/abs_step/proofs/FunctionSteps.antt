-- What the machine computes, on words and on their signed values.
use Rattle.std.specs.Prelude.{◌≡◌, ℕ, ◌+◌, ◌-◌, ◌*◌, ◌/◌, ◌%◌, ◌^◌, ◌<◌, ◌==◌, ℤ, pos, neg_ℤ, ◌+ℤ◌, ◌-ℤ◌, ◌≤ℤ◌, Bool, true, false, cond, nat_le, nat_lt, nat_eq, Some, None, IsSomeAnd, bit_and, bit_or, if◌then◌else◌}
use Rattle.std.specs.Ordering.{int_eq}
use Rattle.std.specs.Int.{w32, bit_not}
use Rattle.std.proofs.Common.{refl, arith, sym, subst, ap, ◌∙◌, zero, suc}
use Rattle.std.proofs.Math.Path.{ap₂}
use Rattle.std.proofs.lemmas.Int.{ints, of_z-to_z}
use Rattle.std.proofs.lemmas.Nat.{and_le_l, xor_lt}
use Rattle.std.proofs.lemmas.Bool.Decides.{nat_tests}
use Rattle.std.proofs.lemmas.Option.{cond_some, same_Some}
use Rattle.viper_word.specs.Words.{IsWord, IsSigned, is_signed, signed_value, least_signed, greatest_signed}
use Rattle.viper_word.specs.Fields.{Fields, bit_value}
use Rattle.viper_word.specs.Machine.{Computed, exact, negated, shifted, applied, computed}
use Rattle.viper_word.specs.Signed.{wrapped, signed_xor, signed_and, signed_nor, signed_and_not, halved, shifted_right, shifted_left}
use Rattle.viper_word.proofs.SignedLemmas.{wrapped_is}
use Rattle.viper_word.proofs.SignedResults.{signed_sum, signed_difference, xor_signed, and_signed, nor_signed, and_not_signed, half_signed, right_signed, left_signed}
use Rattle.viper_word.specs.declared.profile.Profile.{Profile}
use Rattle.viper_word.specs.declared.profile.Profile.TheVariants as profile
use Rattle.viper_word.proofs.Integers.{is_signed_true, true_is_signed}
use Rattle.viper_decode.specs.Instructions.{function_of, shift_of}
use Rattle.abs_step.proofs.Performing.{exactly, function_number, moved, unsigned, lowest, function_bit, shift_bit}

-- what was computed has this signed value and this B
pub record GivesBoth (e : Computed) (z : ℤ) (b : Bool) : Type 0 where
  pub word : IsWord e.value
  pub value : signed_value e.value ≡ z
  pub bit : e.b ≡ b

-- a signed value gives its word back
pub unsigned_is : (r : ℕ) → IsWord r → unsigned (signed_value r) ≡ r
unsigned_is r h = of_z-to_z w32 r h

pub signed_in_w : (r : ℕ) → IsWord r → IsSigned (signed_value r)
signed_in_w r h = record { low = grind (arith, ints); high = grind (arith, ints) }

-- an exact result
exact_gives : (x z : ℤ) (value : ℕ) (b : Bool) → IsWord value → (IsSigned x → signed_value value ≡ x) → exactly x ≡ Some z → IsSomeAnd (exact x value b) (λ e. GivesBoth e z b)
exact_gives x z value b w f h =
    let p = cond_some (is_signed x) x z h in
    subst (λ (c : Bool). IsSomeAnd (if c then Some (record { value = value; b = b }) else None) (λ e. GivesBoth e z b)) (sym p.0)
    (record { word = w; value = f (is_signed_true x p.0) ∙ p.1; bit = refl })

-- the word of zero less the operand
negated_value : (m : ℕ) → IsWord m → signed_value ((2 ^ 32 - m) % 2 ^ 32) ≡ wrapped (neg_ℤ (signed_value m))
negated_value m h =
    ap signed_value (ap (λ (n : ℕ). n % 2 ^ 32) zero_plus) ∙ signed_difference 0 m (omega arith) h ∙ ap wrapped (omega (arith, ints))
  where
    zero_plus : 2 ^ 32 - m ≡ 0 + (2 ^ 32 - m)
    zero_plus = omega arith

mod_word : (n : ℕ) → IsWord (n % 2 ^ 32)
mod_word n = omega arith

lowest_is : (r : ℕ) → IsWord r → (r % 2 == 1) ≡ lowest (signed_value r)
lowest_is r h = ap (λ (n : ℕ). nat_eq (n % 2) 1) (sym (unsigned_is r h))

shifted_gives : (pr : Profile) (m r : ℕ) (b : Bool) (z : ℤ) → IsWord r → m < 4 → moved (shift_of m) (signed_value r) b ≡ Some z → IsSomeAnd (shifted pr m r b) (λ e. GivesBoth e z (shift_bit pr (shift_of m) (signed_value r) b))
unfolding shift_of moved shifted shift_bit
shifted_gives profile.One zero r b z h l k = record { word = grind (arith, nat_tests); value = half_signed r h ∙ same_Some (halved (signed_value r)) z k; bit = refl }
shifted_gives profile.Two zero r b z h l k = record { word = grind (arith, nat_tests); value = half_signed r h ∙ same_Some (halved (signed_value r)) z k; bit = lowest_is r h }
shifted_gives pr (suc zero) r b z h l k = record { word = right_word b r h; value = right_signed b r h ∙ same_Some (shifted_right b (signed_value r)) z k; bit = lowest_is r h }
  where
    right_word : (b : Bool) (r : ℕ) → IsWord r → IsWord (r / 2 + bit_value b * 2 ^ 31)
    right_word true r h = omega arith
    right_word false r h = omega arith
shifted_gives pr (suc (suc zero)) r b z h l k =
    exact_gives (signed_value r +ℤ signed_value r) z (2 * r % 2 ^ 32) b (mod_word (2 * r)) (λ w. ap signed_value (omega arith) ∙ signed_sum r r h h ∙ wrapped_is (signed_value r +ℤ signed_value r) w) k
shifted_gives pr (suc (suc (suc zero))) r b z h l k = record { word = left_word b r; value = left_signed b r h ∙ same_Some (shifted_left b (signed_value r)) z k; bit = ap (nat_le (2 ^ 31)) (sym (unsigned_is r h)) }
  where
    left_word : (b : Bool) (r : ℕ) → IsWord (2 * r % 2 ^ 32 + bit_value b)
    left_word true r = omega arith
    left_word false r = omega arith
shifted_gives pr (suc (suc (suc (suc m)))) r b z h l k = absurd (omega arith)

and_word : (r m : ℕ) → IsWord r → IsWord (bit_and r m)
and_word r m h = let a = and_le_l r m in omega arith

not_word : (n : ℕ) → IsWord (bit_not w32 n)
not_word n = omega arith

-- a function other than a shift, by its code
at_code : (pr : Profile) (i : Fields) (f r m : ℕ) (b : Bool) (z : ℤ) → IsWord r → IsWord m → f < 12 → function_number pr (function_of f) (signed_value r) (signed_value m) ≡ Some z → IsSomeAnd (computed pr (record i { f = f }) r m b) (λ e. GivesBoth e z (function_bit (function_of f) (signed_value r) (signed_value m) b))
unfolding function_of function_number computed applied negated function_bit
at_code profile.One i zero r m b z h l s k = record { word = mod_word (2 ^ 32 - m); value = negated_value m l ∙ same_Some (wrapped (neg_ℤ (signed_value m))) z k; bit = refl }
at_code profile.Two i zero r m b z h l s k = two (int_eq (signed_value m) least_signed) refl k
  where
    two : (c : Bool) → int_eq (signed_value m) least_signed ≡ c → cond c None (Some (wrapped (neg_ℤ (signed_value m)))) ≡ Some z → IsSomeAnd (exact (pos 0 -ℤ signed_value m) ((2 ^ 32 - m) % 2 ^ 32) b) (λ e. GivesBoth e z b)
    two true e q = absurd (cc)
    two false e q =
        let w = above (signed_value m) (signed_in_w m l) e in
        exact_gives (pos 0 -ℤ signed_value m) z ((2 ^ 32 - m) % 2 ^ 32) b (mod_word (2 ^ 32 - m)) (λ v. negated_value m l ∙ ap wrapped (omega (arith, ints)) ∙ wrapped_is (pos 0 -ℤ signed_value m) v)
        (subst (λ (c : Bool). cond c (Some (pos 0 -ℤ signed_value m)) None ≡ Some z) (sym (true_is_signed (pos 0 -ℤ signed_value m) w)) (ap Some (sym (wrapped_is (pos 0 -ℤ signed_value m) w) ∙ ap wrapped (omega (arith, ints)) ∙ same_Some (wrapped (neg_ℤ (signed_value m))) z q)))
      where
        above : (x : ℤ) → IsSigned x → int_eq x least_signed ≡ false → IsSigned (pos 0 -ℤ x)
        above x h e = record { low = low x h; high = high x h e }
          where
            low : (x : ℤ) → IsSigned x → least_signed ≤ℤ (pos 0 -ℤ x)
            low x h = let a = h.low in let c = h.high in omega (arith, ints)

            high : (x : ℤ) → IsSigned x → int_eq x least_signed ≡ false → (pos 0 -ℤ x) ≤ℤ greatest_signed
            high x h e = let a = h.low in grind (arith, ints)
at_code pr i (suc zero) r m b z h l s k = record { word = l; value = same_Some (signed_value m) z k; bit = refl }
at_code pr i (suc (suc zero)) r m b z h l s k = record { word = l; value = same_Some (signed_value m) z k; bit = refl }
at_code pr i (suc (suc (suc zero))) r m b z h l s k = record { word = l; value = same_Some (signed_value m) z k; bit = refl }
at_code pr i (suc (suc (suc (suc zero)))) r m b z h l s k = record { word = mod_word (r + m); value = signed_sum r m h l ∙ same_Some (wrapped (signed_value r +ℤ signed_value m)) z k; bit = ap₂ (λ (x y : ℕ). nat_le (2 ^ 32) (x + y)) (sym (unsigned_is r h)) (sym (unsigned_is m l)) }
at_code pr i (suc (suc (suc (suc (suc zero))))) r m b z h l s k = exact_gives (signed_value r +ℤ signed_value m) z ((r + m) % 2 ^ 32) b (mod_word (r + m)) (λ w. signed_sum r m h l ∙ wrapped_is (signed_value r +ℤ signed_value m) w) k
at_code pr i (suc (suc (suc (suc (suc (suc zero)))))) r m b z h l s k = record { word = mod_word (r + (2 ^ 32 - m)); value = signed_difference r m h l ∙ same_Some (wrapped (signed_value r -ℤ signed_value m)) z k; bit = ap₂ nat_lt (sym (unsigned_is r h)) (sym (unsigned_is m l)) }
at_code pr i (suc (suc (suc (suc (suc (suc (suc zero))))))) r m b z h l s k = exact_gives (signed_value r -ℤ signed_value m) z ((r + (2 ^ 32 - m)) % 2 ^ 32) b (mod_word (r + (2 ^ 32 - m))) (λ w. signed_difference r m h l ∙ wrapped_is (signed_value r -ℤ signed_value m) w) k
at_code pr i (suc (suc (suc (suc (suc (suc (suc (suc zero)))))))) r m b z h l s k = record { word = xor_lt 32 r m h l; value = xor_signed r m h l ∙ same_Some (signed_xor (signed_value r) (signed_value m)) z k; bit = refl }
at_code pr i (suc (suc (suc (suc (suc (suc (suc (suc (suc zero))))))))) r m b z h l s k = record { word = and_word r m h; value = and_signed r m h l ∙ same_Some (signed_and (signed_value r) (signed_value m)) z k; bit = refl }
at_code pr i (suc (suc (suc (suc (suc (suc (suc (suc (suc (suc zero)))))))))) r m b z h l s k = record { word = not_word (bit_or r m); value = nor_signed r m h l ∙ same_Some (signed_nor (signed_value r) (signed_value m)) z k; bit = refl }
at_code pr i (suc (suc (suc (suc (suc (suc (suc (suc (suc (suc (suc zero))))))))))) r m b z h l s k = record { word = and_word r (bit_not w32 m) h; value = and_not_signed r m h l ∙ same_Some (signed_and_not (signed_value r) (signed_value m)) z k; bit = refl }
at_code pr i (suc (suc (suc (suc (suc (suc (suc (suc (suc (suc (suc (suc f)))))))))))) r m b z h l s k = absurd (omega arith)

pub computed_gives : (pr : Profile) (i : Fields) (r m : ℕ) (b : Bool) (z : ℤ) → IsWord r → IsWord m → i.f < 12 → function_number pr (function_of i.f) (signed_value r) (signed_value m) ≡ Some z → IsSomeAnd (computed pr i r m b) (λ e. GivesBoth e z (function_bit (function_of i.f) (signed_value r) (signed_value m) b))
computed_gives pr i r m b z h l s k = at_code pr i i.f r m b z h l s k

pub shift_gives : (pr : Profile) (i : Fields) (r m : ℕ) (b : Bool) (z : ℤ) → IsWord r → i.m < 4 → i.f ≡ 12 → moved (shift_of i.m) (signed_value r) b ≡ Some z → IsSomeAnd (computed pr i r m b) (λ e. GivesBoth e z (shift_bit pr (shift_of i.m) (signed_value r) b))
unfolding computed
shift_gives pr i r m b z h l e k = subst (λ (f : ℕ). IsSomeAnd (computed pr (record i { f = f }) r m b) (λ g. GivesBoth g z (shift_bit pr (shift_of i.m) (signed_value r) b))) (sym e) (shifted_gives pr i.m r b z h l k)
