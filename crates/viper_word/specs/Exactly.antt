-- Results that are the exact signed value, or none.
use Rattle.std.specs.Prelude.{◌≡◌, ℕ, ℤ, Option, Some, None, MatchOption, option_map, if◌then◌else◌}
use Rattle.viper_word.specs.Words.{signed_value, is_signed, IsSigned}
use Rattle.viper_word.specs.declared.word.Word.{Word}

-- the word with this signed value; None where no word has it
abbrev pub IsExactly : Option Word → ℤ → Type 0
IsExactly result z = MatchOption result (IsSigned z → ⊥) (λ w. signed_value w.0 ≡ z)

-- the word with these bits where the number is the signed value of a word, and else None
abbrev pub HasBits : Option Word → ℤ → ℕ → Type 0
HasBits result z bits = option_map (λ w. w.0) result ≡ (if is_signed z then Some bits else None)
