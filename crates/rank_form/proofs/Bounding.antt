-- The most of a multiple between two ends.
use Rattle.std.specs.Prelude.{◌≡◌, ℤ, pos, ◌+ℤ◌, ◌*ℤ◌, ◌≤ℤ◌, int_le, cond, Bool, true, false, Option, Some, None, IsSomeAnd}
use Rattle.std.proofs.Common.{refl, arith}
use Rattle.std.proofs.lemmas.Int.{ints}
use Rattle.num_domain.specs.Ends.{Ends, Between, Within}
use Rattle.viper_word.proofs.Integers.{le_true}
use Rattle.rank_form.specs.Bounds.{most}
use Rattle.viper_word.proofs.Products.{plus_times}
use Rattle.rank_form.proofs.Products.{times_times, times_mono, times_turned, zero_times, times_zero}

negative : (c : ℤ) → int_le (pos 0) c ≡ false → c ≤ℤ pos 0
negative c h = grind (arith, ints)

most_by : (c : ℤ) (r : Ends) (n : ℤ) (b : Bool) → int_le (pos 0) c ≡ b → Between r n → (c *ℤ n) ≤ℤ cond b (c *ℤ r.hi) (c *ℤ r.lo)
most_by c r n true e h = times_mono c n r.hi (le_true (pos 0) c e) h.hi
most_by c r n false e h = times_turned c r.lo n (negative c e) h.lo

-- a multiple of a number between the ends is at most the most
pub most_bounds : (c : ℤ) (o : Option Ends) (n : ℤ) → IsSomeAnd o (λ r. Between r n) → (c *ℤ n) ≤ℤ most c o
most_bounds c None n h = absurd h
most_bounds c (Some r) n h = most_by c r n (int_le (pos 0) c) refl h

low : (r : Ends) → Between r r.lo
low r = record { lo = omega (arith, ints); hi = r.order }

high : (r : Ends) → Between r r.hi
high r = record { lo = r.order; hi = omega (arith, ints) }

plus_by : (c d : ℤ) (r : Ends) (b : Bool) → cond b ((c +ℤ d) *ℤ r.hi) ((c +ℤ d) *ℤ r.lo) ≤ℤ (most c (Some r) +ℤ most d (Some r))
plus_by c d r true = omega (arith, ints, plus_times c d r.hi, most_bounds c (Some r) r.hi (high r), most_bounds d (Some r) r.hi (high r))
plus_by c d r false = omega (arith, ints, plus_times c d r.lo, most_bounds c (Some r) r.lo (low r), most_bounds d (Some r) r.lo (low r))

pub most_plus : (c d : ℤ) (o : Option Ends) → most (c +ℤ d) o ≤ℤ (most c o +ℤ most d o)
most_plus c d None = omega (arith, ints)
most_plus c d (Some r) = plus_by c d r (int_le (pos 0) (c +ℤ d))

times_by : (t c : ℤ) (r : Ends) (b : Bool) → pos 0 ≤ℤ t → cond b ((t *ℤ c) *ℤ r.hi) ((t *ℤ c) *ℤ r.lo) ≤ℤ (t *ℤ most c (Some r))
times_by t c r true h = omega (arith, ints, times_times t c r.hi, times_mono t (c *ℤ r.hi) (most c (Some r)) h (most_bounds c (Some r) r.hi (high r)))
times_by t c r false h = omega (arith, ints, times_times t c r.lo, times_mono t (c *ℤ r.lo) (most c (Some r)) h (most_bounds c (Some r) r.lo (low r)))

pub most_times : (t c : ℤ) (o : Option Ends) → pos 0 ≤ℤ t → most (t *ℤ c) o ≤ℤ (t *ℤ most c o)
most_times t c None h = omega (arith, ints, times_zero t)
most_times t c (Some r) h = times_by t c r (int_le (pos 0) (t *ℤ c)) h

pub most_zero : (o : Option Ends) → most (pos 0) o ≡ pos 0
most_zero None = refl
most_zero (Some r) = zero_times r.hi

within_by : (c : ℤ) (r r' : Ends) (b : Bool) → Within r r' → cond b (c *ℤ r.hi) (c *ℤ r.lo) ≤ℤ most c (Some r')
within_by c r r' true h = most_bounds c (Some r') r.hi (record { lo = omega (arith, ints, r.order, h.lo); hi = h.hi })
within_by c r r' false h = most_bounds c (Some r') r.lo (record { lo = h.lo; hi = omega (arith, ints, r.order, h.hi) })

-- the most grows with the ends
pub most_grows : (c : ℤ) (o o' : Option Ends) → IsSomeAnd o (λ r. IsSomeAnd o' (λ r'. Within r r')) → most c o ≤ℤ most c o'
most_grows c None o' h = absurd h
most_grows c (Some r) None h = absurd h
most_grows c (Some r) (Some r') h = within_by c r r' (int_le (pos 0) c) h
