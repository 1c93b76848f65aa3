-- The words of the command line.
use Rattle.std.specs.Prelude.{ℕ, List, [], ◌∷◌, Option, Some, None, Bool, false, not, ◌&&◌, ◌==◌, nat_le, if◌then◌else◌, codes, length, map}
use Rattle.viper_word.specs.Options.{bind}
use Rattle.memory_plan.specs.Numbers.{natural}
use Rattle.sample_program.specs.declared.loops.TheConstants.{MOST_LOOPS}
use Rattle.viper_top.specs.declared.command_line.TheConstants.{STEPS_DIGITS, MOST_STEPS, LOOPS_DIGITS}
use Rattle.std.specs.Borrow.{Bor}
use Rattle.std.specs.Str.{bytes_eq}

-- a command with the names that it is given
pub data Order : Type 0 where
  Check : (image plan cert : List ℕ) → Order
  Run : (image plan script : List ℕ) → (steps : ℕ) → Order
  Certify : (image plan cert : List ℕ) → Order
  Upgrade : (image plan cert new : List ℕ) → Order
  Assemble : (source image : List ℕ) → Order
  Disasm : (image : List ℕ) → Order
  Sample : (loops : ℕ) → Order

-- the name that a command places
abbrev pub target_of : Order → Option (List ℕ)
target_of (Check image plan cert) = None
target_of (Run image plan script steps) = None
target_of (Certify image plan cert) = Some cert
target_of (Upgrade image plan cert new) = Some new
target_of (Assemble source image) = Some image
target_of (Disasm image) = None
target_of (Sample loops) = None

-- not empty, and no option
abbrev pub is_plain : List ℕ → Bool
is_plain [] = false
is_plain (c ∷ cs) = not (c == 45)

-- a number of loops: one to four digits, from 1 on
abbrev pub loops_of : List ℕ → Option ℕ
loops_of text =
    if nat_le (length text) LOOPS_DIGITS
    then bind (natural text) (λ n. if nat_le 1 n && nat_le n MOST_LOOPS then Some n else None)
    else None

-- the rows with one word behind the first
unfoldable pub one_word : List ℕ → List ℕ → Option Order
one_word word a =
    if bytes_eq word (codes "disasm") then Some (Disasm a)
    else if bytes_eq word (codes "sample") then bind (loops_of a) (λ n. Some (Sample n))
    else None

-- the row with two names
abbrev pub two_names : List ℕ → List ℕ → List ℕ → Option Order
two_names word a b = if bytes_eq word (codes "assemble") then Some (Assemble a b) else None

-- the rows with three names
abbrev pub three_names : List ℕ → List ℕ → List ℕ → List ℕ → Option Order
three_names word a b c =
    if bytes_eq word (codes "check") then Some (Check a b c)
    else if bytes_eq word (codes "certify") then Some (Certify a b c)
    else None

-- a number of steps: one to seven digits, from 1 on
abbrev pub steps_of : List ℕ → Option ℕ
steps_of text =
    if nat_le (length text) STEPS_DIGITS
    then bind (natural text) (λ n. if nat_le 1 n && nat_le n MOST_STEPS then Some n else None)
    else None

-- the rows with three names and a number of steps, or a fourth name
abbrev pub four_words : List ℕ → List ℕ → List ℕ → List ℕ → List ℕ → Option Order
four_words word a b c d =
    if bytes_eq word (codes "run") then bind (steps_of d) (λ n. Some (Run a b c n))
    else if bytes_eq word (codes "upgrade") && is_plain d then Some (Upgrade a b c d)
    else None

-- the rows; where the words are none of them, they are no command
abbrev pub order_of : List (List ℕ) → Option Order
order_of (word ∷ a ∷ []) = if is_plain a then one_word word a else None
order_of (word ∷ a ∷ b ∷ []) = if is_plain a && is_plain b then two_names word a b else None
order_of (word ∷ a ∷ b ∷ c ∷ []) = if is_plain a && is_plain b && is_plain c then three_names word a b c else None
order_of (word ∷ a ∷ b ∷ c ∷ d ∷ []) = if is_plain a && is_plain b && is_plain c then four_words word a b c d else None
order_of _ = None

-- the command on the command line, as the program is handed its words
abbrev pub order_in : List (Bor (List ℕ)) → Option Order
order_in words = order_of (map (λ w. w.now) words)

-- the name that is placed, where the words are a command that places one
abbrev pub target_in : Option Order → Option (List ℕ)
target_in None = None
target_in (Some order) = target_of order
