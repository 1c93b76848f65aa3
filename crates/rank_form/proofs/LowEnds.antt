-- The least value of a directed variable is small.
use Rattle.std.specs.Prelude.{◌≡◌, ℕ, zero, suc, ◌+◌, ◌*◌, ◌^◌, ◌≤◌, ℤ, pos, neg_ℤ, ◌+ℤ◌, ◌*ℤ◌, cond, Bool, true, false, unsigned_abs, length, Option, Some, None, IfSome}
use Rattle.std.proofs.Common.{arith}
use Rattle.std.proofs.lemmas.Int.{ints}
use Rattle.viper_word.specs.declared.reg.Reg.TheVariants.{A, X, Y}
use Rattle.num_domain.specs.Domain.{Domain}
use Rattle.num_domain.specs.Laws.{DomainLaws}
use Rattle.num_domain.proofs.EndsLaws.{ends_in_w}
use Rattle.flag_relation.specs.declared.link.Link.{Link}
use Rattle.flag_relation.specs.declared.var.Var.{Var}
use Rattle.flag_relation.specs.declared.var.Var.TheVariants.{Reg, Cell}
use Rattle.flag_relation.specs.Values.{Regs}
use Rattle.flag_relation.specs.Facts.{FactOf, values}
use Rattle.flag_relation.specs.Limits.{IsLinkOf, AreLinksOf}
use Rattle.rank_form.specs.Weights.{at, weigh, is_at, negated, sum_below, sum_over}
use Rattle.rank_form.specs.Bounds.{placed, place, most, span, lower, upper}
use Rattle.rank_form.specs.Levels.{direction}
use Rattle.rank_form.proofs.Fitting.{times_small, most_small}
use Rattle.rank_form.proofs.UpperLaws.{upper_is}

-- ---- sums of small numbers

below_small : (n : ℕ) (g : ℕ → ℤ) → ((i : ℕ) → unsigned_abs (g i) ≤ 2 ^ 31) → unsigned_abs (sum_below n g) ≤ n * 2 ^ 31
unfolding sum_below
below_small zero g h = omega arith
below_small (suc n) g h = omega (arith, ints, below_small n g h, h n)

sum_small : (n : ℕ) (g : Var → ℤ) → ((v : Var) → unsigned_abs (g v) ≤ 2 ^ 31) → unsigned_abs (sum_over n g) ≤ (n + 3) * 2 ^ 31
sum_small n g h =
    omega (arith, ints, h (Reg A), h (Reg X), h (Reg Y), below_small n (λ i. g (Cell i)) (λ i. h (Cell i)))

-- ---- one variable

placed_small : (n : ℕ) (v : Var) (l : Option Link) → IfSome l (IsLinkOf n) → unsigned_abs (placed v l).more ≤ 2 ^ 32
placed_small n v None h = omega arith
placed_small n v (Some l) h = omega (arith, ints, h.low, h.high)

place_small : (n : ℕ) (links : Regs (Option Link)) → AreLinksOf n links → (v : Var) → unsigned_abs (place links v).more ≤ 2 ^ 32
place_small n links h (Reg A) = placed_small n (Reg A) links.a h.a
place_small n links h (Reg X) = placed_small n (Reg X) links.x h.x
place_small n links h (Reg Y) = placed_small n (Reg Y) links.y h.y
place_small n links h (Cell i) = omega arith

-- the share of a variable in a form of one variable
share_small : (c : ℤ) (b : Bool) → unsigned_abs c ≤ 1 → unsigned_abs ((c *ℤ cond b (pos 1) (pos 0)) +ℤ pos 0) ≤ 1
share_small c true h = omega (arith, ints)
share_small c false h = omega (arith, ints)

sign_small : (down : Bool) → unsigned_abs (neg_ℤ (pos 1) *ℤ cond down (pos 1) (neg_ℤ (pos 1))) ≤ 1
sign_small true = omega (arith, ints)
sign_small false = omega (arith, ints)

negative_small : (z : ℤ) (n : ℕ) → unsigned_abs z ≤ n → unsigned_abs (neg_ℤ z) ≤ n
negative_small z n h = omega (arith, ints)

module _ {T : Type 0} (d : Domain T) (laws : DomainLaws d) where
  pub low_small : (v : Var) (down : Bool) (x : FactOf T) → length x.cells ≤ 32 → AreLinksOf (length x.cells) x.links
      → unsigned_abs (lower d (direction v down) x) ≤ 2 ^ 39
  unfolding weigh
  low_small v down x few limits =
      let f = negated (direction v down) in
      let c = neg_ℤ (pos 1) *ℤ cond down (pos 1) (neg_ℤ (pos 1)) in
      let more = (place x.links v).more in
      let whole = sum_over (length x.cells) (λ u. most ((c *ℤ is_at u (place x.links v).var) +ℤ pos 0) (span d x u)) in
      let sum : unsigned_abs whole ≤ (length x.cells + 3) * 2 ^ 31 =
      sum_small (length x.cells) (λ u. most ((c *ℤ is_at u (place x.links v).var) +ℤ pos 0) (span d x u))
      (λ u. most_small 1 ((c *ℤ is_at u (place x.links v).var) +ℤ pos 0) (span d x u) (share_small c _ (sign_small down)) (ends_in_w d laws (at d.top (values x) u))) in
      let part : unsigned_abs (c *ℤ more) ≤ 1 * 2 ^ 32 = times_small c more 1 (2 ^ 32) (sign_small down) (place_small (length x.cells) x.links limits v) in
      let is : upper d f x ≡ ((neg_ℤ (pos 1) *ℤ pos 0) +ℤ ((c *ℤ more) +ℤ pos 0)) +ℤ whole = upper_is d f x in
      negative_small (upper d f x) (2 ^ 39) (omega (arith, ints))
