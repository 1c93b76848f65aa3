use Rattle.std.proofs.Common.{arith, to_z, of_z, w64, sym, ap, ◌≡◌, ◌∙◌, ◌+ℤ◌, ℤ, pos}
use Rattle.std.proofs.lemmas.Int.{ints}
use Rattle.std.proofs.lemmas.Bool.{and_from, and_left, and_right}
use Rattle.viper_word.specs.Words.{is_signed}
use Rattle.interval_dom.proofs.IntervalCode.{signed_as, left_then, left_else}
use Rattle.interval_dom.proofs.interval.Interval.left_row.Goals as goal
use Rattle.interval_dom.proofs.interval.Interval.left_row.Goals.{else-is_signed-via-then-is_signed+else-is_signed-2, else-is_signed-via-else-is_signed}

-- a number as the code keeps it
abbrev kept : ℤ → ℤ
kept z = to_z w64 (of_z w64 z)

pub returns-then-is_signed-2 : goal.returns-then-is_signed-2
returns-then-is_signed-2 c =
    let a = c.args.self.now in
    let e = c.args.self.now.ends in
    let l = c.least_bit.ensures.value in
    let l0 = c.least_bit.ensures.natural in
    let l1 = c.least_bit.ensures.small in
    let g = c.greatest_bit.ensures.value in
    let g0 = c.greatest_bit.ensures.natural in
    let g1 = c.greatest_bit.ensures.small in
    c.cut.ensures ∙ left_then c.args.self.now c.args.b c.is_signed.result c.is_signed-then-is_signed.result _ _
    (signed_as c.is_signed.result (kept (kept c.args.self.now.lo +ℤ kept c.args.self.now.lo)) (c.args.self.now.lo +ℤ c.args.self.now.lo) c.is_signed.ensures (omega (arith, ints)))
    (signed_as c.is_signed-then-is_signed.result (kept (kept (kept c.args.self.now.hi +ℤ kept c.args.self.now.hi) +ℤ pos 1)) (c.args.self.now.hi +ℤ c.args.self.now.hi +ℤ pos 1) c.is_signed-then-is_signed.ensures (omega (arith, ints)))
    (and_from c.is_signed.result c.is_signed-then-is_signed.result c.if-is_signed.true c.if-is_signed-2.true)
    (sum_of (c.args.self.now.lo +ℤ c.args.self.now.lo) _ c.least_bit.result _ (omega (arith, ints)) l)
    (sum_of (c.args.self.now.hi +ℤ c.args.self.now.hi) _ c.greatest_bit.result _ (omega (arith, ints)) g)
  where
    sum_of : (x r b b' : ℤ) → r ≡ x +ℤ b → b ≡ b' → r ≡ x +ℤ b'
    sum_of x r b b' e f = e ∙ ap (λ (y : ℤ). x +ℤ y) f

pub returns-else-is_signed : goal.returns-else-is_signed
returns-else-is_signed c =
    let e = c.args.self.now.ends in
    let low : c.is_signed.result ≡ is_signed (c.args.self.now.lo +ℤ c.args.self.now.lo) = signed_as c.is_signed.result (kept (kept c.args.self.now.lo +ℤ kept c.args.self.now.lo)) (c.args.self.now.lo +ℤ c.args.self.now.lo) c.is_signed.ensures (omega (arith, ints)) in
    left_else c.args.self.now c.args.b c.top.result
    (elim c.else-is_signed.branch [
      | else-is_signed-via-then-is_signed+else-is_signed-2 w ↦ and_right (is_signed (c.args.self.now.lo +ℤ c.args.self.now.lo)) _
          (sym (signed_as w.is_signed-then-is_signed.result (kept (kept (kept c.args.self.now.hi +ℤ kept c.args.self.now.hi) +ℤ pos 1)) (c.args.self.now.hi +ℤ c.args.self.now.hi +ℤ pos 1) w.is_signed-then-is_signed.ensures (omega (arith, ints))) ∙ w.if-is_signed-2.false)
      | else-is_signed-via-else-is_signed w ↦ and_left _ _ (sym low ∙ w.if-is_signed.false)
    ])
    c.top.ensures
