-- Which four numbers are a value in normal form.
use Rattle.std.specs.Prelude.{◌≡◌, ℕ, ℤ, pos, nat_lt, Bool, true, false, if◌then◌else◌, Option, Some, None, List, Result, Ok, length}
use Rattle.std.specs.Int.{w32}
use Rattle.std.proofs.Common.{refl}
use Rattle.viper_word.specs.Words.{signed_value}
use Rattle.val_dom.specs.declared.val.Val.{Val}
use Rattle.cert_format.specs.declared.fault.Fault.{Fault}
use Rattle.cert_format.specs.declared.fault.CertRule.TheVariants.{Length, Value}
use Rattle.cert_format.specs.declared.limits.TheConstants.{VALUE}
use Rattle.cert_format.specs.Reading.{fault, ◌>>=◌, number_at}
use Rattle.cert_format.specs.evidence.ValueForms.{IsValue, made, is_value, residue_of, value_is}

-- the value of these ends, modulus and residue
abbrev pub value_if : (lo hi m r : ℤ) (b : Bool) → (b ≡ true → IsValue lo hi m r) → Option Val
value_if lo hi m r true h = Some (record { pair = made lo hi m r (h refl).ends (h refl).form; normal = (h refl).normal })
value_if lo hi m r false h = None

unfoldable pub value_of : ℤ → ℤ → ℕ → ℕ → Option Val
value_of lo hi m r = value_if lo hi (pos m) (residue_of m r) (is_value lo hi m r) (value_is lo hi m r)

-- a value, or the rule Value at the first of the bytes
abbrev pub or_value : Option Val → List ℕ → List ℕ → Result (Val × List ℕ) Fault
or_value None bytes rest = fault bytes Value
or_value (Some v) bytes rest = Ok (v, rest)

-- its four numbers, one field of 16 bytes
unfoldable pub parts_at : List ℕ → Result (Val × List ℕ) Fault
parts_at bytes = do
  lo ← number_at w32 bytes
  hi ← number_at w32 lo.1
  modulus ← number_at w32 hi.1
  residue ← number_at w32 modulus.1
  or_value (value_of (signed_value lo.0) (signed_value hi.0) modulus.0 residue.0) bytes residue.1

unfoldable pub value_at : List ℕ → Result (Val × List ℕ) Fault
value_at bytes = (if nat_lt (length bytes) VALUE then fault bytes Length else parts_at bytes)
