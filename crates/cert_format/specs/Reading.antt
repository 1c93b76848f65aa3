-- Reading from left to right: each reader gives a value and the bytes after it, or the first fault.
use Rattle.std.specs.Prelude.{◌≡◌, ℕ, zero, suc, List, [], ◌∷◌, length, take, drop, Result, Ok, Err, nat_lt, if◌then◌else◌}
use Rattle.std.specs.Int.{Width, byte_len, from_be_bytes}
use Rattle.cert_format.specs.declared.fault.Fault.{Fault}
use Rattle.cert_format.specs.declared.fault.ReadError.{ReadError}
use Rattle.cert_format.specs.declared.fault.ReadError.TheVariants as errors
use Rattle.cert_format.specs.declared.fault.CertRule.{CertRule}
use Rattle.cert_format.specs.declared.fault.CertRule.TheVariants.{Length}

-- the rule is broken at the first of the bytes: a fault says how many are left from there
abbrev pub fault : {X : Type 0} → List ℕ → CertRule → Result X Fault
fault bytes rule = Err (record { left = length bytes; rule = rule })

infixl 10 ◌>>=◌
abbrev pub ◌>>=◌ : {A B : Type 0} → Result A Fault → (A → Result B Fault) → Result B Fault
(Ok x) >>= f = f x
(Err e) >>= f = Err e

-- what a function returned, seen by view, and what it left unread are what reading gives, unless
-- memory ran out
abbrev pub Fails : {Y : Type 0} → ReadError → Result Y Fault → Type 0
Fails errors.Memory read = Unit {0}
Fails (errors.At e) read = read ≡ Err e

abbrev pub Reads : {X Y : Type 0} → (X → Y) → Result X ReadError → List ℕ
    → Result (Y × List ℕ) Fault → Type 0
Reads view (Ok x) rest read = read ≡ Ok (view x, rest)
Reads view (Err e) rest read = Fails e read

-- a number
unfoldable pub number_at : Width → List ℕ → Result (ℕ × List ℕ) Fault
number_at w bytes = (
    if nat_lt (length bytes) (byte_len w) then fault bytes Length
    else Ok (from_be_bytes w (take (byte_len w) bytes), drop (byte_len w) bytes))

-- so many, one after the other
unfoldable pub many_at : {X : Type 0} → (List ℕ → Result (X × List ℕ) Fault) → ℕ → List ℕ
    → Result (List X × List ℕ) Fault
many_at one zero bytes = Ok ([], bytes)
many_at one (suc n) bytes = one bytes >>= λ first. many_at one n first.1
    >>= λ others. Ok (first.0 ∷ others.0, others.1)
