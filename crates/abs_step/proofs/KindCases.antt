-- What holds of each kind of instruction holds of the instruction of any six numbers.
use Rattle.std.specs.Prelude.{◌≡◌, ℕ, ◌<◌, ◌%◌, ◌^◌, Bool, true, false, not, nat_le}
use Rattle.std.proofs.Common.{refl, arith, zero, suc}
use Rattle.viper_word.specs.Fields.{Fields, AreFields, fields_of, is_function, is_jump, is_output, is_store}
use Rattle.viper_word.specs.Machine.{kind_of, is_skipped}
use Rattle.viper_word.specs.declared.reg.Reg.{Reg}
use Rattle.viper_word.specs.declared.reg.Reg.TheVariants.{A, X, Y}
use Rattle.viper_decode.specs.Instructions.{source_of, place_of, operand_of, work_of, result_to, instruction_of}
use Rattle.viper_decode.specs.declared.instructions.Side.{Side}
use Rattle.viper_decode.specs.declared.instructions.Side.TheVariants.{Always, IfB, IfNotB}
use Rattle.viper_decode.specs.declared.instructions.Instruction.{Instruction}
use Rattle.viper_decode.specs.declared.instructions.Instruction.TheVariants.{Compare, Assign, Jump, Output, Store}
use Rattle.abs_step.proofs.Performing.{is_taken}

-- a result goes to a register: a function that is no jump, and that B doesn't forbid
pub record ToRegister (i : Fields) : Type 0 where
  pub function : is_function i ≡ true
  pub no_jump : is_jump i ≡ false
  pub unskipped : (b : Bool) → is_skipped i b ≡ false

-- a jump is skipped where its side isn't taken
pub record ToAddress (i : Fields) (side : Side) : Type 0 where
  pub function : is_function i ≡ true
  pub jump : is_jump i ≡ true
  pub skipped : (b : Bool) → is_skipped i b ≡ false → is_taken side b ≡ true

is_set : (b : Bool) → is_skipped (record { r = 0; m = 0; d = 4; c = false; f = 0; field = 0 }) b ≡ false → b ≡ true
is_set true e = refl
is_set false e = absurd (cc)

is_clear : (b : Bool) → is_skipped (record { r = 0; m = 0; d = 5; c = false; f = 0; field = 0 }) b ≡ false → not b ≡ true
is_clear false e = refl
is_clear true e = absurd (cc)

-- one case for each kind
pub record Kinds (P : Fields → Instruction → Type 0) (i : Fields) : Type 0 where
  pub compare : i.c ≡ true → P i (Compare (nat_le 8 i.f) (kind_of (i.f % 8)) (source_of i.r) (operand_of i))
  pub assign : (r : Reg) → ToRegister i → P i (Assign r (work_of i))
  pub jump : (side : Side) → ToAddress i side → P i (Jump side (work_of i))
  pub output : is_output i ≡ true → P i (Output (source_of i.r) (place_of i))
  pub store : is_store i ≡ true → P i (Store (source_of i.r) (place_of i))

by_kind : (P : Fields → Instruction → Type 0) (c : Bool) (d : ℕ) (i : Fields) → d < 8 → Kinds P (record i { c = c; d = d }) → P (record i { c = c; d = d }) (instruction_of (record i { c = c; d = d }))
unfolding instruction_of result_to
by_kind P true d i l k = k.compare refl
by_kind P false zero i l k = k.assign A (record { function = refl; no_jump = refl; unskipped = λ b. refl })
by_kind P false (suc zero) i l k = k.assign X (record { function = refl; no_jump = refl; unskipped = λ b. refl })
by_kind P false (suc (suc zero)) i l k = k.assign Y (record { function = refl; no_jump = refl; unskipped = λ b. refl })
by_kind P false (suc (suc (suc zero))) i l k = k.jump Always (record { function = refl; jump = refl; skipped = λ b e. refl })
by_kind P false (suc (suc (suc (suc zero)))) i l k = k.jump IfB (record { function = refl; jump = refl; skipped = λ b e. is_set b e })
by_kind P false (suc (suc (suc (suc (suc zero))))) i l k = k.jump IfNotB (record { function = refl; jump = refl; skipped = λ b e. is_clear b e })
by_kind P false (suc (suc (suc (suc (suc (suc zero)))))) i l k = k.output refl
by_kind P false (suc (suc (suc (suc (suc (suc (suc zero))))))) i l k = k.store refl
by_kind P false (suc (suc (suc (suc (suc (suc (suc (suc d)))))))) i l k = absurd (omega arith)

pub each_kind : (P : Fields → Instruction → Type 0) (i : Fields) → AreFields i → Kinds P i → P i (instruction_of i)
each_kind P i f k = by_kind P i.c i.d i f.d k

-- the numbers of a word are in their ranges
pub fields_are : (w : ℕ) → w < 2 ^ 32 → AreFields (fields_of w)
unfolding fields_of
fields_are w h = record { r = omega arith; m = omega arith; d = omega arith; f = omega arith; field = omega arith }
