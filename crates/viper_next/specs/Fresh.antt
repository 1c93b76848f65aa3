-- A machine that has run nothing yet.
use Rattle.std.specs.Prelude.{◌≡◌, ℕ, Bool, false, slice_index}
use Rattle.viper_word.specs.Machine.{State, IsState}

-- stop is clear, and each of the 2^20 words of memory is zero
pub record IsFresh (s : State) : Type 0 where
  pub state : IsState s
  pub runs : s.stop ≡ false
  pub zero_words : (at : ℕ) → slice_index s.memory at ≡ 0

-- P, A, X, Y and B have these values
pub record HasRegisters (s : State) (at va vx vy : ℕ) (vb : Bool) : Type 0 where
  pub p : s.p ≡ at
  pub a : s.a ≡ va
  pub x : s.x ≡ vx
  pub y : s.y ≡ vy
  pub b : s.b ≡ vb
