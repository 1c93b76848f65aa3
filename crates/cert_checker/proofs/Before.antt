-- The lister of a node, if it stands before it.
use Rattle.std.proofs.Common.{◌≡◌, ℕ, zero, suc, ◌+◌, ◌<◌, ◌≤◌, Bool, true, false, if◌then◌else◌, List, [], ◌∷◌, length, take, Option, Some, None, refl, sym, ap, ◌∙◌, arith}
use Rattle.std.proofs.lemmas.Bool.{lt-ltb, le-ltb}
use Rattle.std.proofs.lemmas.Option.{none-some, same_Some}
use Rattle.cert_format.specs.Certificates.{NodeOf}
use Rattle.cert_checker.specs.Filling.{lists, lister}
use Rattle.cert_checker.specs.Claiming.{before}

late_by : (m k : ℕ) (b : Bool) (o : Option ℕ) → m ≤ k → before m o ≡ None → before m (if b then Some k else o) ≡ None
late_by m k true o h rest = rw (le-ltb k m h) refl
late_by m k false o h rest = rest

-- no lister among nodes that are counted from k stands before an earlier number
late : {T : Type 0} (i m k : ℕ) (ns : List (NodeOf T)) → m ≤ k → before m (lister i k ns) ≡ None
late i m k [] h = refl
late i m k (n ∷ ns) h = late_by m k (lists i n) (lister i (k + 1) ns) h (late i m (k + 1) ns (omega (arith, h)))

one_before : (k m : ℕ) (b : Bool) (o p : Option ℕ) → p ≡ before (k + 1 + m) o → (if b then Some k else p) ≡ before (k + suc m) (if b then Some k else o)
one_before k m true o p rest = rw (lt-ltb k (k + suc m) (omega arith)) refl
one_before k m false o p rest = rest ∙ ap (λ (n : ℕ). before n o) (omega arith)

before_from : {T : Type 0} (i k m : ℕ) (ns : List (NodeOf T)) → lister i k (take m ns) ≡ before (k + m) (lister i k ns)
before_from i k zero ns = sym (late i (k + 0) k ns (omega arith))
before_from i k (suc m) [] = refl
before_from i k (suc m) (n ∷ ns) = one_before k m (lists i n) (lister i (k + 1) ns) (lister i (k + 1) (take m ns)) (before_from i (k + 1) m ns)

pub lister_before : {T : Type 0} (i m : ℕ) (ns : List (NodeOf T)) → lister i 0 (take m ns) ≡ before m (lister i 0 ns)
lister_before i m ns = before_from i 0 m ns ∙ ap (λ (n : ℕ). before n (lister i 0 ns)) (omega arith)

below_by : (k j m : ℕ) (b : Bool) (o : Option ℕ) → (o ≡ Some j → j < k + 1 + m) → (if b then Some k else o) ≡ Some j → j < k + suc m
below_by k j m true o more h = let e : k ≡ j = same_Some k j h in omega (arith, e)
below_by k j m false o more h = let low = more h in omega (arith, low)

-- a lister is one of the nodes
pub lister_below : {T : Type 0} (i k j : ℕ) (ns : List (NodeOf T)) → lister i k ns ≡ Some j → j < k + length ns
lister_below i k j [] h = absurd (none-some j h)
lister_below i k j (n ∷ ns) h = below_by k j (length ns) (lists i n) (lister i (k + 1) ns) (lister_below i (k + 1) j ns) h
