-- The bits of a number are the answers that it was made of.
use Rattle.std.specs.Prelude.{◌≡◌, ℕ, zero, suc, ◌+◌, ◌-◌, ◌*◌, ◌/◌, ◌%◌, ◌^◌, ◌<◌, ◌≤◌, Bool, true, false, cond, nat_eq}
use Rattle.std.proofs.Common.{refl, arith, sym, ap, ◌∙◌}
use Rattle.std.proofs.Math.Nat.{div-div-eq-div-mul, pow-succ'}
use Rattle.rank_nest.specs.Bits.{bits}

-- powers of two
unfoldable pow : ℕ → ℕ
pow zero = 1
pow (suc n) = 2 * pow n

pow_some : (n : ℕ) → 1 ≤ pow n
unfolding pow
pow_some zero = omega arith
pow_some (suc n) = omega (arith, pow_some n)

pow_grows : (n m : ℕ) → n ≤ m → pow n ≤ pow m
unfolding pow
pow_grows zero m h = pow_some m
pow_grows (suc n) zero h = absurd (omega arith)
pow_grows (suc n) (suc m) h = omega (arith, pow_grows n m (omega arith))

more_below : (b : Bool) (m n : ℕ) → m < n → cond b 1 0 + 2 * m < 2 * n
more_below true m n h = omega arith
more_below false m n h = omega arith

bits_below : (p : ℕ → Bool) (k n : ℕ) → bits p k n < pow n
unfolding bits pow
bits_below p k zero = omega arith
bits_below p k (suc n) = more_below (p k) (bits p (suc k) n) (pow n) (bits_below p (suc k) n)

last_pow : pow 127 ≡ 2 ^ 127
unfolding pow
last_pow = refl

pub bits_small : (p : ℕ → Bool) (k n : ℕ) → n ≤ 127 → bits p k n < 2 ^ 127
bits_small p k n h = omega (arith, bits_below p k n, pow_grows n 127 h, last_pow)

-- one more answer below the others
pub bits_more : (p : ℕ → Bool) (j k count : ℕ) (b : Bool) (old new : ℕ) → k ≡ suc j → k ≤ count → b ≡ p j → old ≡ bits p k (count - k)
    → new ≡ cond b 1 0 + 2 * old → new ≡ bits p j (count - j)
unfolding bits
bits_more p j k count b old new e le t o n =
    let size : count - j ≡ suc (count - k) = omega arith in
    n ∙ ap (λ (x : Bool). cond {A = ℕ} x 1 0 + 2 * old) t ∙ ap (λ (x : ℕ). cond {A = ℕ} (p j) 1 0 + 2 * x) (o ∙ ap (λ (q : ℕ). bits p q (count - k)) e)
    ∙ sym (ap (bits p j) size)

-- ---- reading a bit

low_bit : (b : Bool) (m : ℕ) → ((cond b 1 0 + 2 * m) / 1) % 2 ≡ cond b 1 0
low_bit true m = omega arith
low_bit false m = omega arith

half : (b : Bool) (m : ℕ) → (cond b 1 0 + 2 * m) / 2 ≡ m
half true m = omega arith
half false m = omega arith

next_bit : (b : Bool) (m c : ℕ) → ((cond b 1 0 + 2 * m) / 2 ^ suc c) % 2 ≡ (m / 2 ^ c) % 2
next_bit b m c =
    let x = cond {A = ℕ} b 1 0 + 2 * m in
    let twice : 2 ^ suc c ≡ 2 * 2 ^ c = pow-succ' 2 c in
    ap (λ (y : ℕ). (x / y) % 2) twice ∙ ap (λ (y : ℕ). y % 2) (sym (div-div-eq-div-mul x 2 (2 ^ c))) ∙ ap (λ (y : ℕ). (y / 2 ^ c) % 2) (half b m)

pub bit_is : (p : ℕ → Bool) (k n c i : ℕ) → c < n → i ≡ k + c → (bits p k n / 2 ^ c) % 2 ≡ cond (p i) 1 0
unfolding bits
bit_is p k zero c i h e = absurd (omega arith)
bit_is p k (suc n) zero i h e =
    let same : k ≡ i = omega arith in
    low_bit (p k) (bits p (suc k) n) ∙ ap (λ (j : ℕ). cond {A = ℕ} (p j) 1 0) same
bit_is p k (suc n) (suc c) i h e =
    next_bit (p k) (bits p (suc k) n) c ∙ bit_is p (suc k) n c i (omega arith) (omega arith)

pub test_is : (b : Bool) → nat_eq (cond b 1 0) 1 ≡ b
test_is true = refl
test_is false = refl

-- no answer makes no bit
pub bits_none : (p : ℕ → Bool) (k : ℕ) → 0 ≡ bits p k (k - k)
unfolding bits
bits_none p k =
    let none : k - k ≡ 0 = omega arith in
    sym (ap (bits p k) none)
