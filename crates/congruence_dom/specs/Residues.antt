-- Residues of whole numbers.
use Rattle.std.specs.Prelude.{ℕ, ◌-◌, ◌^◌, ℤ, pos, ◌+ℤ◌, ◌-ℤ◌, Bool, ◌&&◌, cond, nat_abs, nat_eq, nat_le, nat_lt}
use Rattle.std.specs.Int.{int_rem_euclid}
use Rattle.viper_word.specs.Divisors.{gcd}
use Rattle.congruence_dom.specs.declared.congruence.Congruence.{Congruence}

-- the modulus, which isn't negative
abbrev pub mod_of : Congruence → ℕ
mod_of c = nat_abs c.modulus

-- what is left of z, which is z itself at the modulus 0
unfoldable pub reduce : ℕ → ℤ → ℤ
reduce m z = cond (nat_eq m 0) z (int_rem_euclid z (pos m))

abbrev pub is_small : ℕ → Bool
is_small m = nat_lt 0 m && nat_le m (2 ^ 32 - 1)

-- the least number from n on that has the residue of z
abbrev pub next_from : ℕ → ℤ → ℤ → ℤ
next_from m z n = n +ℤ reduce m (z -ℤ n)

abbrev pub next_to : ℕ → ℤ → ℤ → ℤ
next_to m z n = n -ℤ reduce m (n -ℤ z)

abbrev pub join_modulus : Congruence → Congruence → ℕ
join_modulus a b = gcd (gcd (mod_of a) (mod_of b)) (nat_abs (a.residue -ℤ b.residue))
