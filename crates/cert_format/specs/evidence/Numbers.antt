-- A number that is read is the number that was spelled, and what is spelled is read again.
use Rattle.std.proofs.Common.{◌≡◌, ℕ, zero, suc, ◌+◌, ◌^◌, ◌<◌, ◌≤◌, Bool, true, false, cond, ltb, List, [], ◌∷◌, ◌++◌, length, get_or, take, drop, Result, Ok, Err, refl, sym, ap, subst, ◌∙◌, append_assoc, arith, inl, inr, nat_lt}
use Rattle.std.specs.Int.{Width, w8, w32, w64, byte_len, from_be_bytes, to_be_bytes}
use Rattle.std.specs.List.{flat_map, AllByRecursion}
use Rattle.std.proofs.lemmas.Bool.{cases_lt, ltb-false, le-ltb}
use Rattle.std.proofs.lemmas.Bool.Decides.{nat_tests}
use Rattle.std.proofs.lemmas.List.{take_at, drop_at, take-append-drop, length-append, length-take, get_or-drop, get_or-take, get_or_past}
use Rattle.std.proofs.lemmas.Nat.{be_bytes_4, be_bytes_8, from_be_bytes-to_be_bytes_4, from_be_bytes-to_be_bytes_8}
use Rattle.cert_format.specs.declared.fault.Fault.{Fault}
use Rattle.cert_format.specs.declared.fault.CertRule.TheVariants.{Length}
use Rattle.cert_format.specs.Values.{word_bytes, long_bytes}
use Rattle.cert_format.specs.Reading.{◌>>=◌, number_at, many_at}

abbrev pub IsBytes : List ℕ → Type 0
IsBytes bytes = (i : ℕ) → get_or bytes i 0 < 256

pub IsBytes-drop : (n : ℕ) (bytes : List ℕ) → IsBytes bytes → IsBytes (drop n bytes)
IsBytes-drop n bytes h i = rw get_or-drop (h (n + i))

IsBytes-take : (n : ℕ) (bytes : List ℕ) → IsBytes bytes → IsBytes (take n bytes)
IsBytes-take n bytes h i =
    elim (cases_lt i n) [
      | inl lt ↦ rw (get_or-take n bytes i 0 lt) (h i)
      | inr le ↦ rw (get_or_past (take n bytes) i 0 (omega (arith, length-take n bytes))) (omega arith)
    ]

abbrev done : {A : Type 0} → A → Result A Fault
done x = Ok x

pub ok_is : {A : Type 0} (x y : A) → done x ≡ done y → x ≡ y
ok_is x y e = cc

abbrev failed : {A : Type 0} → Fault → Result A Fault
failed e = Err e

pub err_not_ok : {A B : Type 0} (e : Fault) (y : A) → failed e ≡ done y → B
err_not_ok e y h = absurd cc

-- the value of a step that gave one
pub bind_ok : {A B : Type 0} (r : Result A Fault) (f : A → Result B Fault) (y : B) → (r >>= f) ≡ Ok y → (x : A) × (r ≡ Ok x) × (f x ≡ Ok y)
bind_ok (Ok x) f y e = (x, refl, e)
bind_ok (Err d) f y e = err_not_ok d y e

-- a test that lets a value through
pub passed : {A : Type 0} (b : Bool) (r : Result A Fault) (e : Fault) (y : A) → cond b r (Err e) ≡ Ok y → (b ≡ true) × (r ≡ Ok y)
passed true r e y h = (refl, h)
passed false r e y h = err_not_ok e y h

-- a test that stops
pub spared : {A : Type 0} (b : Bool) (e : Fault) (r : Result A Fault) (y : A) → cond b (Err e) r ≡ Ok y → (b ≡ false) × (r ≡ Ok y)
spared true e r y h = err_not_ok e y h
spared false e r y h = (refl, h)

-- what a reader took from the front
pub record Takes (bytes text rest : List ℕ) : Type 0 where
  pub parts : bytes ≡ text ++ rest
  pub rest_fits : IsBytes rest

pub Takes-then : (a x b y c : List ℕ) → Takes a x b → Takes b y c → Takes a (x ++ y) c
Takes-then a x b y c p q = record { parts = p.parts ∙ ap (λ (t : List ℕ). x ++ t) q.parts ∙ sym (append_assoc x y c); rest_fits = q.rest_fits }

-- ---- numbers

pub record IsWide (w : Width) (limit : ℕ) : Type 0 where
  pub len : (n : ℕ) → length (to_be_bytes w n) ≡ byte_len w
  pub back : (bytes : List ℕ) → length bytes ≡ byte_len w → IsBytes bytes → to_be_bytes w (from_be_bytes w bytes) ≡ bytes
  pub again : (n : ℕ) → n < limit → from_be_bytes w (to_be_bytes w n) ≡ n
  pub below : (bytes : List ℕ) → IsBytes bytes → from_be_bytes w bytes < limit

pub wide32 : IsWide w32 (2 ^ 32)
wide32 = record {
  len = λ n. refl;
  back = λ bytes len fits. be_bytes_4 bytes _ len fits refl;
  again = λ n lt. from_be_bytes-to_be_bytes_4 n lt;
  below = λ bytes fits. omega (arith, fits 0, fits 1, fits 2, fits 3);
}

pub wide64 : IsWide w64 (2 ^ 64)
wide64 = record {
  len = λ n. refl;
  back = λ bytes len fits. be_bytes_8 bytes _ len fits refl;
  again = λ n lt. from_be_bytes-to_be_bytes_8 n lt;
  below = λ bytes fits. omega (arith, fits 0, fits 1, fits 2, fits 3, fits 4, fits 5, fits 6, fits 7);
}

pub number_takes : (w : Width) (limit : ℕ) (wide : IsWide w limit) (bytes : List ℕ) (x : ℕ × List ℕ) → IsBytes bytes → number_at w bytes ≡ Ok x → Takes bytes (to_be_bytes w x.0) x.1 × (x.0 < limit)
unfolding number_at
number_takes w limit wide bytes x fits e =
    let g = spared (ltb (length bytes) (byte_len w)) (record { left = length bytes; rule = Length }) (Ok (from_be_bytes w (take (byte_len w) bytes), drop (byte_len w) bytes)) x e in
    let long : byte_len w ≤ length bytes = ltb-false _ _ g.0 in
    let made = ok_is (from_be_bytes w (take (byte_len w) bytes), drop (byte_len w) bytes) x g.1 in
    let n-is : from_be_bytes w (take (byte_len w) bytes) ≡ x.0 = ap (λ (p : ℕ × List ℕ). p.0) made in
    let rest-is : drop (byte_len w) bytes ≡ x.1 = ap (λ (p : ℕ × List ℕ). p.1) made in
    let front : to_be_bytes w x.0 ≡ take (byte_len w) bytes = rw (← n-is) (wide.back (take (byte_len w) bytes) (omega (arith, length-take (byte_len w) bytes)) (IsBytes-take (byte_len w) bytes fits)) in
    (record { parts = rw (front, ← rest-is) (sym (take-append-drop (byte_len w) bytes)); rest_fits = rw (← rest-is) (IsBytes-drop (byte_len w) bytes fits) }, rw (← n-is) (wide.below (take (byte_len w) bytes) (IsBytes-take (byte_len w) bytes fits)))

pub number_again : (w : Width) (limit : ℕ) (wide : IsWide w limit) (n : ℕ) (rest : List ℕ) → n < limit → number_at w (to_be_bytes w n ++ rest) ≡ Ok (n, rest)
unfolding number_at
number_again w limit wide n rest lt =
    let len = wide.len n in
    let long : ltb (length (to_be_bytes w n ++ rest)) (byte_len w) ≡ false = le-ltb _ _ (omega (arith, length-append (to_be_bytes w n) rest)) in
    rw (long, take_at (to_be_bytes w n) rest (byte_len w) len, drop_at (to_be_bytes w n) rest (byte_len w) len, wide.again n lt) refl

pub word_takes : (bytes : List ℕ) (x : ℕ × List ℕ) → IsBytes bytes → number_at w32 bytes ≡ Ok x → Takes bytes (word_bytes x.0) x.1 × (x.0 < 2 ^ 32)
unfolding word_bytes
word_takes bytes x fits e = number_takes w32 (2 ^ 32) wide32 bytes x fits e

pub word_again : (n : ℕ) (rest : List ℕ) → n < 2 ^ 32 → number_at w32 (word_bytes n ++ rest) ≡ Ok (n, rest)
unfolding word_bytes
word_again n rest low = number_again w32 (2 ^ 32) wide32 n rest low

pub long_takes : (bytes : List ℕ) (x : ℕ × List ℕ) → IsBytes bytes → number_at w64 bytes ≡ Ok x → Takes bytes (long_bytes x.0) x.1 × (x.0 < 2 ^ 64)
unfolding long_bytes
long_takes bytes x fits e = number_takes w64 (2 ^ 64) wide64 bytes x fits e

pub long_again : (n : ℕ) (rest : List ℕ) → n < 2 ^ 64 → number_at w64 (long_bytes n ++ rest) ≡ Ok (n, rest)
unfolding long_bytes
long_again n rest low = number_again w64 (2 ^ 64) wide64 n rest low

long_enough : (n : ℕ) → nat_lt (suc n) 1 ≡ false
long_enough n = grind (arith, nat_tests)

pub byte_takes : (bytes : List ℕ) (x : ℕ × List ℕ) → IsBytes bytes → number_at w8 bytes ≡ Ok x → Takes bytes (x.0 ∷ []) x.1 × (x.0 < 256)
unfolding number_at
byte_takes [] x fits e = err_not_ok _ x e
byte_takes (b ∷ bytes) x fits e =
    let made : (b, bytes) ≡ x = ok_is (b, bytes) x (rw (long_enough (length bytes)) at e) in
    subst (λ (y : ℕ × List ℕ). Takes (b ∷ bytes) (y.0 ∷ []) y.1 × (y.0 < 256)) made (record { parts = refl; rest_fits = λ i. fits (suc i) }, fits 0)

pub byte_again : (n : ℕ) (rest : List ℕ) → number_at w8 (n ∷ rest) ≡ Ok (n, rest)
unfolding number_at
byte_again n rest = rw (long_enough (length rest)) refl

-- ---- one after the other

-- what a reader of one takes
abbrev pub TakesOne : {X : Type 0} → (List ℕ → Result (X × List ℕ) Fault) → (X → List ℕ) → (X → Type 0) → Type 0
TakesOne {X} one text P = (bytes : List ℕ) (x : X × List ℕ) → IsBytes bytes → one bytes ≡ Ok x → Takes bytes (text x.0) x.1 × P x.0

-- and reads again
pub record Reader {X : Type 0} (one : List ℕ → Result (X × List ℕ) Fault) (text : X → List ℕ) (P : X → Type 0) : Type 0 where
  pub takes : TakesOne one text P
  pub again : (x : X) (rest : List ℕ) → P x → one (text x ++ rest) ≡ Ok (x, rest)

pub many_takes : {X : Type 0} (one : List ℕ → Result (X × List ℕ) Fault) (text : X → List ℕ) (P : X → Type 0) → TakesOne one text P → (n : ℕ) (bytes : List ℕ) (x : List X × List ℕ) → IsBytes bytes → many_at one n bytes ≡ Ok x
    → Takes bytes (flat_map text x.0) x.1 × (length x.0 ≡ n) × AllByRecursion P x.0
unfolding many_at
many_takes {X} one text P takes zero bytes x fits e =
    subst (λ (y : List X × List ℕ). Takes bytes (flat_map text y.0) y.1 × (length y.0 ≡ 0) × AllByRecursion P y.0) (ok_is ([], bytes) x e) (record { parts = refl; rest_fits = fits }, refl, tt)
many_takes {X} one text P takes (suc n) bytes x fits e =
    let first = bind_ok (one bytes) (λ (a : X × List ℕ). many_at one n a.1 >>= λ b. Ok (a.0 ∷ b.0, b.1)) x e in
    let others = bind_ok (many_at one n first.0.1) (λ (b : List X × List ℕ). Ok (first.0.0 ∷ b.0, b.1)) x first.2 in
    let t = takes bytes first.0 fits first.1 in
    let ts = many_takes one text P takes n first.0.1 others.0 t.0.rest_fits others.1 in
    let all = Takes-then bytes (text first.0.0) first.0.1 (flat_map text others.0.0) others.0.1 t.0 ts.0 in
    subst (λ (y : List X × List ℕ). Takes bytes (flat_map text y.0) y.1 × (length y.0 ≡ suc n) × AllByRecursion P y.0) (ok_is (first.0.0 ∷ others.0.0, others.0.1) x others.2) (all, omega (arith, ts.1), (t.1, ts.2))

pub many_again : {X : Type 0} (one : List ℕ → Result (X × List ℕ) Fault) (text : X → List ℕ) (P : X → Type 0) → Reader one text P → (xs : List X) (rest : List ℕ) → AllByRecursion P xs
    → many_at one (length xs) (flat_map text xs ++ rest) ≡ Ok (xs, rest)
unfolding many_at
many_again one text P reader [] rest fits = refl
many_again one text P reader (x ∷ xs) rest fits =
    let regrouped : flat_map text (x ∷ xs) ++ rest ≡ text x ++ (flat_map text xs ++ rest) = append_assoc (text x) (flat_map text xs) rest in
    ap (many_at one (suc (length xs))) regrouped ∙ rw (reader.again x (flat_map text xs ++ rest) fits.0, many_again one text P reader xs rest fits.1) refl

-- so many are as many as were read
pub many_length : {X : Type 0} (one : List ℕ → Result (X × List ℕ) Fault) (n : ℕ) (bytes : List ℕ) (x : List X × List ℕ) → many_at one n bytes ≡ Ok x → length x.0 ≡ n
unfolding many_at
many_length {X} one zero bytes x e = subst (λ (y : List X × List ℕ). length y.0 ≡ 0) (ok_is ([], bytes) x e) refl
many_length {X} one (suc n) bytes x e =
    let first = bind_ok (one bytes) (λ (a : X × List ℕ). many_at one n a.1 >>= λ b. Ok (a.0 ∷ b.0, b.1)) x e in
    let others = bind_ok (many_at one n first.0.1) (λ (b : List X × List ℕ). Ok (first.0.0 ∷ b.0, b.1)) x first.2 in
    subst (λ (y : List X × List ℕ). length y.0 ≡ suc n) (ok_is (first.0.0 ∷ others.0.0, others.0.1) x others.2) (ap suc (many_length one n first.0.1 others.0 others.1))
