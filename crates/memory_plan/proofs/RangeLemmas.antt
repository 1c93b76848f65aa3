-- Ranges in their normal form.
use Rattle.std.proofs.Common.{◌≡◌, ℕ, ◌/◌, ◌<◌, true, pos, negsuc, ◌+ℤ◌, ◌-ℤ◌, ◌*ℤ◌, ◌≤ℤ◌, ◌<ℤ◌, refl, arith, eqb, inl, inr}
use Rattle.std.specs.Prelude.{ℤ, unsigned_abs, ◌&&◌, int_le, int_lt}
use Rattle.std.specs.Int.{int_rem_euclid}
use Rattle.std.proofs.lemmas.Int.{ints}
use Rattle.std.proofs.lemmas.Nat.{mod_below}
use Rattle.std.proofs.lemmas.Bool.Decides.{nat_tests}
use Rattle.std.proofs.Math.Nat.{div-add-mod}
use Rattle.std.proofs.lemmas.Bool.{and_parts}
use Rattle.viper_word.proofs.Integers.{le_true, is_signed_true, less_true}
use Rattle.viper_word.proofs.Products.{plus_times}
use Rattle.viper_word.proofs.Multiples.{rem_bounds}
use Rattle.viper_word.specs.Words.{IsSigned, is_signed}
use Rattle.viper_word.specs.Ranges.{IsNormal, any_word}
use Rattle.memory_plan.specs.Numbers.{is_rising, is_step, leads, one_number, several}

pub same_rem : (z y m n : ℤ) → z ≡ y → m ≡ n → int_rem_euclid z m ≡ int_rem_euclid y n
same_rem z y m n e f = rw (e, f) refl

-- two signed words, the lower one first
pub record Rises (lo hi : ℤ) : Type 0 where
  pub low : IsSigned lo
  pub high : IsSigned hi
  pub ends : lo <ℤ hi

pub rising_facts : (lo hi : ℤ) → is_rising lo hi ≡ true → Rises lo hi
rising_facts lo hi h =
    let b = and_parts (is_signed lo && is_signed hi) (int_lt lo hi) h in
    let c = and_parts (is_signed lo) (is_signed hi) b.0 in
    record { low = is_signed_true lo c.0; high = is_signed_true hi c.1; ends = less_true lo hi b.1 }

pub record IsStep (m : ℤ) : Type 0 where
  pub least : pos 1 ≤ℤ m
  pub most : m ≤ℤ pos 4294967295

pub step_facts : (m : ℤ) → is_step m ≡ true → IsStep m
step_facts m h = let b = and_parts (int_le (pos 1) m) (int_le m (pos 4294967295)) h in record { least = le_true (pos 1) m b.0; most = le_true m (pos 4294967295) b.1 }

-- a number is its remainder and so many times the divisor
pub quotient : (z : ℤ) (m : ℕ) → 0 < m → (k : ℤ) × (z ≡ int_rem_euclid z (pos m) +ℤ (k *ℤ pos m))
quotient (pos a) m h = let d = div-add-mod a m in (pos (a / m), omega (arith, ints))
quotient (negsuc a) m h = let d = div-add-mod a m in let q = mod_below a m h in (negsuc (a / m), omega (arith, ints))

pub is_pos : (m : ℤ) → pos 1 ≤ℤ m → (n : ℕ) × (m ≡ pos n) × (0 < n)
is_pos (pos n) h = (n, refl, omega (arith, ints))
is_pos (negsuc n) h = absurd (omega (arith, ints))

pub zero_size : (z : ℤ) → eqb (unsigned_abs z) 0 ≡ true → z ≡ pos 0
zero_size z h = let e : unsigned_abs z ≡ 0 = grind (arith, nat_tests) in omega (arith, ints, e)

pub both_steps : (lo hi r e k q : ℤ) (m : ℕ) → lo ≡ r +ℤ (k *ℤ pos m) → hi -ℤ lo ≡ e +ℤ (q *ℤ pos m) → e ≡ pos 0 → hi ≡ r +ℤ ((k +ℤ q) *ℤ pos m)
both_steps lo hi r e k q m f g z = let d = plus_times k q (pos m) in omega (arith, ints)

-- the range of such a text is in the normal form
several_normal : (lo hi : ℤ) (m : ℕ) → Rises lo hi → 0 < m → int_rem_euclid (hi -ℤ lo) (pos m) ≡ pos 0 → IsNormal (several lo hi (pos m))
several_normal lo hi m up some even =
    let from = quotient lo m some in
    let gap = quotient (hi -ℤ lo) m some in
    let bounds = rem_bounds lo m some in
    record {
      lo = up.low;
      hi = up.high;
      form = inr (record {
        ends = up.ends;
        modulus = omega (arith, ints);
        low = bounds.0;
        high = bounds.1;
        from = record { steps = from.0; holds = from.1 };
        to = record { steps = from.0 +ℤ gap.0; holds = both_steps lo hi (int_rem_euclid lo (pos m)) (int_rem_euclid (hi -ℤ lo) (pos m)) from.0 gap.0 m from.1 gap.1 even };
      });
    }

pub steps_normal : (lo hi m : ℤ) → is_rising lo hi ≡ true → is_step m ≡ true → leads lo hi m ≡ true → IsNormal (several lo hi m)
steps_normal lo hi m up step even =
    let s = is_pos m (step_facts m step).least in
    rw s.1 (several_normal lo hi s.0 (rising_facts lo hi up) s.2 (zero_size (int_rem_euclid (hi -ℤ lo) (pos s.0)) (rw s.1 at even)))

-- the same, as the code has it
pub normal_at : (lo hi m lo' hi' m' r : ℤ) → lo' ≡ lo → hi' ≡ hi → m' ≡ m → r ≡ int_rem_euclid lo m → IsNormal (several lo hi m) → IsNormal (record { lo = lo'; hi = hi'; modulus = m'; residue = r })
normal_at lo hi m lo' hi' m' r e f g h n = rw (e, f, g, h) n

pub single_normal : (n : ℤ) → IsSigned n → IsNormal (one_number n)
single_normal n h = record { lo = h; hi = h; form = inl (record { ends = refl; modulus = refl; residue = refl }) }

pub any_normal : IsNormal any_word
any_normal = record {
  lo = record { low = omega (arith, ints); high = omega (arith, ints) };
  hi = record { low = omega (arith, ints); high = omega (arith, ints) };
  form = inr (record {
    ends = omega (arith, ints);
    modulus = omega (arith, ints);
    low = omega (arith, ints);
    high = omega (arith, ints);
    from = record { steps = negsuc 2147483647; holds = refl };
    to = record { steps = pos 2147483647; holds = refl };
  });
}
