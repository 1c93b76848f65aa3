-- What was put out.
use Rattle.std.specs.Prelude.{ℕ, List}
use Rattle.viper_word.specs.declared.word.Word.{Word}

-- an output: the number of its step, the peripheral address, and the word
abbrev pub Output : Type 0
Output = ℕ × ℕ × Word

-- the outputs in their order, and how many there may be
pub record Log : Type 0 where
  pub items : List Output
  pub room : ℕ
