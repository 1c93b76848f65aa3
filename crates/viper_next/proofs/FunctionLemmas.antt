-- The functions of legal words, by their codes.
use Rattle.std.proofs.Common.{◌≡◌, ℕ, Bool, false, ◌==◌, refl}
use Rattle.viper_word.specs.declared.profile.Profile.{Profile}
use Rattle.viper_word.specs.Fields.{Fields}
use Rattle.viper_word.specs.Machine.{applied, computed, shifted}
use Rattle.viper_decode.specs.declared.instructions.Function.{Function}
use Rattle.viper_decode.specs.declared.instructions.Function.TheVariants.{Neg, Call, Inp, Read, Addb, Adds, Subb, Subs, Xor, And, Nor, Andn}
use Rattle.viper_decode.specs.declared.instructions.Shift.{Shift}
use Rattle.viper_decode.specs.Instructions.{code_of, shift_code}

-- no function but SHIFT has the code 12
below_shift : (f : Function) → (code_of f == 12) ≡ false
below_shift Neg = refl
below_shift Call = refl
below_shift Inp = refl
below_shift Read = refl
below_shift Addb = refl
below_shift Adds = refl
below_shift Subb = refl
below_shift Subs = refl
below_shift Xor = refl
below_shift And = refl
below_shift Nor = refl
below_shift Andn = refl

pub applied_is : (profile : Profile) (i : Fields) (f : Function) (r m : ℕ) (b : Bool) → i.f ≡ code_of f → computed profile i r m b ≡ applied profile (code_of f) r m b
unfolding computed
applied_is profile i f r m b e = rw (e, below_shift f) refl

pub shifted_is : (profile : Profile) (i : Fields) (k : Shift) (r m : ℕ) (b : Bool) → i.f ≡ 12 → i.m ≡ shift_code k → computed profile i r m b ≡ shifted profile (shift_code k) r b
unfolding computed
shifted_is profile i k r m b e g = rw (e, g) refl
