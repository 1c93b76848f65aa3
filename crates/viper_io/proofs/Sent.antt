-- Writes that each take the next bytes of a text have together taken its first bytes.
use Rattle.std.proofs.Common.{◌≡◌, ℕ, ◌+◌, ◌-◌, ◌≤◌, List, Option, sym, ap, subst, ◌∙◌, take, drop, length, arith}
use Rattle.std.proofs.Math.Seq.{take-add, take-length}
use Rattle.std.proofs.lemmas.List.{length-drop}
use Rattle.std.proofs.KnownBytes.{Appends-trans}
use Rattle.std.specs.Io.KnownBytes.{Appends}

-- what is left of a text once its first bytes were sent, as the program holds it
abbrev pub unsent : List ℕ → ℕ → List ℕ
unsent bytes sent = take (length bytes - sent) (drop sent bytes)

unsent_is : (bytes : List ℕ) (sent : ℕ) → unsent bytes sent ≡ drop sent bytes
unsent_is bytes sent = ap (λ n. take n (drop sent bytes)) (sym (length-drop sent bytes)) ∙ take-length (drop sent bytes)

-- the next bytes went out, as many as were taken of what is left
pub sent_more : (a b c : Option (List ℕ)) (bytes : List ℕ) (sent count : ℕ)
    → Appends a b (take sent bytes) → Appends b c (take count (unsent bytes sent)) → Appends a c (take (sent + count) bytes)
sent_more a b c bytes sent count before next =
    let rest : Appends b c (take count (drop sent bytes)) = subst (λ xs. Appends b c (take count xs)) (unsent_is bytes sent) next in
    subst (Appends a c) (sym (take-add sent count bytes)) (Appends-trans a b c (take sent bytes) (take count (drop sent bytes)) before rest)

-- and they are no more than there are
pub sent_within : (bytes : List ℕ) (sent count : ℕ) → sent ≤ length bytes → count ≤ length (unsent bytes sent) → sent + count ≤ length bytes
sent_within bytes sent count within bound =
    let left : length (unsent bytes sent) ≡ length bytes - sent = ap length (unsent_is bytes sent) ∙ length-drop sent bytes in
    omega (arith, left)
