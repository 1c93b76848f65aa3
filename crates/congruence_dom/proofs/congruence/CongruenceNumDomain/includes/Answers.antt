use Rattle.std.proofs.Common.{arith, refl, ap, sym, ◌∙◌, ◌≡◌, ◌-ℤ◌, to_z, of_z, w64, ℕ}
use Rattle.std.proofs.lemmas.Int.{ints}
use Rattle.std.specs.Prelude.{nat_abs, nat_eq, ◌&&◌, ◌%◌}
use Rattle.congruence_dom.proofs.CongruenceCode.{includes_zero}
use Rattle.congruence_dom.proofs.congruence.CongruenceNumDomain.includes.Goals as goal

pub returns-then-divisor-eq0 : goal.returns-then-divisor-eq0
returns-then-divisor-eq0 c =
    let a = c.args.self.now.form in
    let b = c.args.other.now.form in
    let gap : to_z w64 (of_z w64 (to_z w64 (of_z w64 c.args.other.now.residue) -ℤ to_z w64 (of_z w64 c.args.self.now.residue))) ≡ c.args.other.now.residue -ℤ c.args.self.now.residue = omega (arith, ints) in
    let t : c.unsigned_abs-gap.result ≡ nat_abs (c.args.other.now.residue -ℤ c.args.self.now.residue) = c.unsigned_abs-gap.ensures.value ∙ ap nat_abs gap in
    ap (λ (x : ℕ). nat_eq x 0 && nat_eq c.unsigned_abs-gap.result 0) (sym c.if-divisor-eq0.true ∙ c.divisor.ensures) ∙
    includes_zero c.args.self.now c.args.other.now c.unsigned_abs-gap.result (sym c.divisor-m.ensures ∙ c.if-m-eq0.true) t

pub returns-then-divisor-m-eq0 : goal.returns-then-divisor-m-eq0
returns-then-divisor-m-eq0 c =
    let a = c.args.self.now.form in
    let b = c.args.other.now.form in
    let gap : to_z w64 (of_z w64 (to_z w64 (of_z w64 c.args.other.now.residue) -ℤ to_z w64 (of_z w64 c.args.self.now.residue))) ≡ c.args.other.now.residue -ℤ c.args.self.now.residue = omega (arith, ints) in
    let t : c.unsigned_abs-gap.result ≡ nat_abs (c.args.other.now.residue -ℤ c.args.self.now.residue) = c.unsigned_abs-gap.ensures.value ∙ ap nat_abs gap in
    ap (λ (x : ℕ). nat_eq x 0 && nat_eq (c.unsigned_abs-gap.result % c.divisor-m.result) 0) (sym c.if-divisor-m-eq0.true) ∙
    rw (c.divisor-else-m-eq0.ensures, c.divisor-m.ensures, t) refl
