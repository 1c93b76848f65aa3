use Rattle.std.proofs.Common.{arith, ◌≡◌, ◌∙◌, ◌-ℤ◌, ap, to_z, of_z, w64}
use Rattle.std.proofs.Math.Path.{ap₂}
use Rattle.std.proofs.lemmas.Int.{ints}
use Rattle.std.specs.Prelude.{None, Some, nat_abs}
use Rattle.congruence_dom.specs.Congruences.{make}
use Rattle.congruence_dom.proofs.CommonCode.{fits_small, first_signed, no_first, first_and}
use Rattle.congruence_dom.proofs.congruence.Congruence.common.Goals as goal

pub returns-in_err-first : goal.returns-in_err-first
returns-in_err-first c = c.from_residual.ensures ∙ no_first c.args.self.now c.args.other.now c.in_err-first.ensures

pub next_common-requires-2-clause-low : goal.next_common-requires-2-clause-low
next_common-requires-2-clause-low c = let w = first_signed c.args.self.now c.args.other.now _ c.in_ok-first.first c.in_ok-first.ensures in let l = w.low in let h = w.high in omega (arith, ints)

pub overflow_sub-second : goal.overflow_sub-second
overflow_sub-second c =
    let w = first_signed c.args.self.now c.args.other.now _ c.in_ok-first.first c.in_ok-first.ensures in
    let v = first_signed c.args.self.now c.args.other.now _ c.in-Some.second c.in-Some.ensures in
    let wl = w.low in let wh = w.high in let vl = v.low in let vh = v.high in
    fits_small (to_z w64 (of_z w64 c.in-Some.second) -ℤ to_z w64 (of_z w64 c.in_ok-first.first)) (omega (arith, ints)) (omega (arith, ints))

pub make-requires-in-Some-clause-small : goal.make-requires-in-Some-clause-small
make-requires-in-Some-clause-small c =
    let w = first_signed c.args.self.now c.args.other.now _ c.in_ok-first.first c.in_ok-first.ensures in
    let v = first_signed c.args.self.now c.args.other.now _ c.in-Some.second c.in-Some.ensures in
    let wl = w.low in let wh = w.high in let vl = v.low in let vh = v.high in
    let e = c.unsigned_abs.ensures.value in
    omega (arith, ints)

pub make-requires-in-Some-clause-z_high : goal.make-requires-in-Some-clause-z_high
make-requires-in-Some-clause-z_high c = let w = first_signed c.args.self.now c.args.other.now _ c.in_ok-first.first c.in_ok-first.ensures in let l = w.low in let h = w.high in omega (arith, ints)

pub returns-in-None : goal.returns-in-None
returns-in-None c =
    let w = first_signed c.args.self.now c.args.other.now _ c.in_ok-first.first c.in_ok-first.ensures in
    let l = w.low in let h = w.high in
    let i : to_z w64 (of_z w64 c.in_ok-first.first) ≡ c.in_ok-first.first = omega (arith, ints) in
    c.make.ensures ∙ ap (make 0) i ∙ first_and c.args.self.now c.args.other.now c.in_ok-first.first _ None c.in_ok-first.ensures (omega (arith, ints)) c.in-None.ensures

pub returns-in-Some : goal.returns-in-Some
returns-in-Some c =
    let w = first_signed c.args.self.now c.args.other.now _ c.in_ok-first.first c.in_ok-first.ensures in
    let v = first_signed c.args.self.now c.args.other.now _ c.in-Some.second c.in-Some.ensures in
    let wl = w.low in let wh = w.high in let vl = v.low in let vh = v.high in
    let i : to_z w64 (of_z w64 c.in_ok-first.first) ≡ c.in_ok-first.first = omega (arith, ints) in
    let g : c.unsigned_abs.result ≡ nat_abs (c.in-Some.second -ℤ c.in_ok-first.first) = let e = c.unsigned_abs.ensures.value in omega (arith, ints) in
    c.make-in-Some.ensures ∙ ap₂ make g i ∙ first_and c.args.self.now c.args.other.now c.in_ok-first.first _ (Some c.in-Some.second) c.in_ok-first.ensures (omega (arith, ints)) c.in-Some.ensures
