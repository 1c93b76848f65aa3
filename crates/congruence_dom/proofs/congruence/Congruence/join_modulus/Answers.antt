use Rattle.std.proofs.Common.{arith, ap, ◌∙◌, ◌≡◌, ◌-ℤ◌, to_z, of_z, w64, ℕ}
use Rattle.std.proofs.Math.Path.{ap₂}
use Rattle.std.proofs.lemmas.Int.{ints}
use Rattle.std.specs.Prelude.{nat_abs}
use Rattle.congruence_dom.specs.Residues.{mod_of, join_modulus}
use Rattle.congruence_dom.specs.evidence.Forms.{join_modulus_le}
use Rattle.viper_word.specs.Divisors.{gcd}
use Rattle.congruence_dom.specs.declared.congruence.Congruence.{Congruence}
use Rattle.congruence_dom.proofs.congruence.Congruence.join_modulus.Goals as goal

modulus_is : (a b : Congruence) (g x y d e : ℕ) → g ≡ gcd x y → x ≡ gcd d e → d ≡ mod_of a → e ≡ mod_of b → y ≡ nat_abs (a.residue -ℤ b.residue) → g ≡ join_modulus a b
modulus_is a b g x y d e p q r s t = p ∙ ap₂ gcd (q ∙ ap₂ gcd r s) t

value-at : (c : goal.After-gcd_of-2) → c.gcd_of-2.result ≡ join_modulus c.args.self.now c.args.other.now
value-at c =
    let a = c.args.self.now.form in
    let b = c.args.other.now.form in
    let gap : to_z w64 (of_z w64 (to_z w64 (of_z w64 c.args.self.now.residue) -ℤ to_z w64 (of_z w64 c.args.other.now.residue))) ≡ c.args.self.now.residue -ℤ c.args.other.now.residue = omega (arith, ints) in
    let t : c.unsigned_abs-gap.result ≡ nat_abs (c.args.self.now.residue -ℤ c.args.other.now.residue) = c.unsigned_abs-gap.ensures.value ∙ ap nat_abs gap in
    modulus_is c.args.self.now c.args.other.now c.gcd_of-2.result c.gcd_of.result c.unsigned_abs-gap.result c.divisor.result c.divisor-2.result c.gcd_of-2.ensures c.gcd_of.ensures c.divisor.ensures c.divisor-2.ensures t

pub returns-clause-value : goal.returns-clause-value
returns-clause-value c = value-at c

pub returns-clause-small : goal.returns-clause-small
returns-clause-small c = let h = join_modulus_le c.args.self.now c.args.other.now in let e = value-at c in omega arith
