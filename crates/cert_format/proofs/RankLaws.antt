-- Ranks: what is read is spelled so, and what is spelled so is read.
use Rattle.std.proofs.Common.{◌≡◌, ℕ, zero, suc, ◌+◌, ◌^◌, ◌<◌, ◌≤◌, ℤ, pos, Bool, true, false, not, ◌&&◌, List, [], ◌∷◌, ◌++◌, length, Ok, refl, sym, ap, subst, ◌∙◌, append_assoc, arith, nat_lt, nat_le}
use Rattle.std.specs.Ordering.{int_eq}
use Rattle.std.specs.Int.{w8, w64, cast_signed, cast_unsigned}
use Rattle.std.specs.List.{flat_map}
use Rattle.std.proofs.lemmas.Int.{ints, of_z-to_z}
use Rattle.std.proofs.lemmas.Bool.{and_parts, and_from, ltb-true, lt-ltb, le-ltb, leb-true, le-leb, ne_eqb}
use Rattle.std.proofs.lemmas.Bool.Decides.{Decides-int_eq}
use Rattle.viper_word.proofs.Booleans.{test_false}
use Rattle.viper_word.specs.declared.reg.Reg.TheVariants as reg
use Rattle.flag_relation.specs.declared.form.TheConstants.{MOST_TERMS}
use Rattle.flag_relation.specs.declared.var.Var.{Var}
use Rattle.flag_relation.specs.declared.var.Var.TheVariants as var
use Rattle.flag_relation.specs.Forms.{FormOf, var_number, is_within, is_coefficient, are_terms, is_form}
use Rattle.cert_format.specs.declared.limits.TheConstants.{MOST_RANK, MOST_FACTOR, TERM}
use Rattle.cert_format.specs.Limits.{IsWithin, AreTerms, IsRank}
use Rattle.cert_format.specs.Values.{long_bytes, signed_long_bytes}
use Rattle.cert_format.specs.Spelling.{counted_bytes, term_bytes, rank_bytes}
use Rattle.cert_format.specs.Reading.{◌>>=◌, number_at}
use Rattle.cert_format.specs.Fields.{count_at, signed_at, var_of, is_factor, term_of, term_parts_at, term_at, terms_at, rank_at}
use Rattle.cert_format.specs.evidence.Numbers.{IsBytes, Takes, Takes-then, bind_ok, passed, spared, ok_is, byte_takes, byte_again, long_takes, long_again}
use Rattle.cert_format.proofs.FieldLaws.{within_is, is_within_is, signed_takes, signed_again, count_takes, count_again, long_from}

pub var_back : (n : ℕ) → var_number (var_of n) ≡ n
unfolding var_of
var_back zero = refl
var_back (suc zero) = refl
var_back (suc (suc zero)) = refl
var_back (suc (suc (suc n))) = rw (ne_eqb (suc (suc (suc n))) 0 (λ e. omega arith), ne_eqb (suc (suc (suc n))) 1 (λ e. omega arith), ne_eqb (suc (suc (suc n))) 2 (λ e. omega arith)) (omega arith)

-- a term within the limits
pub record IsTerm (cells from : ℕ) (t : Var × ℤ) : Type 0 where
  pub low : from ≤ var_number t.0
  pub high : var_number t.0 < 3 + cells
  pub some : t.1 ≡ pos 0 → ⊥
  pub size : IsWithin MOST_FACTOR t.1

factor_is : (z : ℤ) → is_factor z ≡ true → (z ≡ pos 0 → ⊥) × IsWithin MOST_FACTOR z
factor_is z h =
    let p = and_parts (not (int_eq z (pos 0))) (is_within MOST_FACTOR z) h in
    (λ e. let t = (Decides-int_eq z (pos 0)).1 e in let f = test_false (int_eq z (pos 0)) p.0 in absurd (cc), within_is MOST_FACTOR z p.1)

pub term_takes : (cells from : ℕ) (bytes : List ℕ) (x : (Var × ℤ) × List ℕ) → IsBytes bytes → term_at cells from bytes ≡ Ok x → Takes bytes (term_bytes x.0) x.1 × IsTerm cells from x.0
unfolding term_at term_parts_at term_of term_bytes
term_takes cells from bytes x fits e =
    let w = spared (nat_lt (length bytes) TERM) _ (term_parts_at cells from bytes) x e in
    let n = bind_ok (number_at w8 bytes) (λ n. number_at w64 n.1 >>= λ z. term_of cells from n.0 (cast_signed w64 z.0) bytes z.1) x w.1 in
    let z = bind_ok (number_at w64 n.0.1) (λ z. term_of cells from n.0.0 (cast_signed w64 z.0) bytes z.1) x n.2 in
    let f = cast_signed w64 z.0.0 in
    let g0 = passed (nat_lt n.0.0 (3 + cells)) _ _ x z.2 in
    let g1 = passed (nat_le from n.0.0) _ _ x g0.1 in
    let g2 = passed (is_factor f) (Ok ((var_of n.0.0, f), z.0.1)) _ x g1.1 in
    let t0 = byte_takes bytes n.0 fits n.1 in
    let t1 = long_takes n.0.1 z.0 t0.0.rest_fits z.1 in
    let v = var_back n.0.0 in
    let k = factor_is f g2.0 in
    let whole : Takes bytes (term_bytes (var_of n.0.0, f)) z.0.1 = rw (v, of_z-to_z w64 z.0.0 t1.1) (Takes-then bytes (n.0.0 ∷ []) n.0.1 (long_bytes z.0.0) z.0.1 t0.0 t1.0) in
    let made : (Var × ℤ) × List ℕ = ((var_of n.0.0, f), z.0.1) in
    subst (λ (y : (Var × ℤ) × List ℕ). Takes bytes (term_bytes y.0) y.1 × IsTerm cells from y.0) (ok_is made x g2.1) (whole, record { low = rw v (leb-true from n.0.0 g1.0); high = rw v (ltb-true n.0.0 (3 + cells) g0.0); some = k.0; size = k.1 })

-- without a look at the bytes
pub term_within : (cells from : ℕ) (bytes : List ℕ) (x : (Var × ℤ) × List ℕ) → term_at cells from bytes ≡ Ok x → IsTerm cells from x.0
unfolding term_at term_parts_at term_of
term_within cells from bytes x e =
    let w = spared (nat_lt (length bytes) TERM) _ (term_parts_at cells from bytes) x e in
    let n = bind_ok (number_at w8 bytes) (λ n. number_at w64 n.1 >>= λ z. term_of cells from n.0 (cast_signed w64 z.0) bytes z.1) x w.1 in
    let z = bind_ok (number_at w64 n.0.1) (λ z. term_of cells from n.0.0 (cast_signed w64 z.0) bytes z.1) x n.2 in
    let f = cast_signed w64 z.0.0 in
    let g0 = passed (nat_lt n.0.0 (3 + cells)) _ _ x z.2 in
    let g1 = passed (nat_le from n.0.0) _ _ x g0.1 in
    let g2 = passed (is_factor f) (Ok ((var_of n.0.0, f), z.0.1)) _ x g1.1 in
    let v = var_back n.0.0 in
    let k = factor_is f g2.0 in
    let made : (Var × ℤ) × List ℕ = ((var_of n.0.0, f), z.0.1) in
    subst (λ (y : (Var × ℤ) × List ℕ). IsTerm cells from y.0) (ok_is made x g2.1) (record { low = rw v (leb-true from n.0.0 g1.0); high = rw v (ltb-true n.0.0 (3 + cells) g0.0); some = k.0; size = k.1 })

not_zero : (z : ℤ) (b : Bool) → (z ≡ pos 0 → ⊥) → int_eq z (pos 0) ≡ b → not b ≡ true
not_zero z true some e = absurd (some ((Decides-int_eq z (pos 0)).0 e))
not_zero z false some e = refl

coefficient_is : (z : ℤ) → (z ≡ pos 0 → ⊥) → IsWithin MOST_FACTOR z → is_coefficient z ≡ true
coefficient_is z some h =
    let low = h.low in let high = h.high in
    and_from (not (int_eq z (pos 0))) (is_within (pos (2 ^ 43)) z) (not_zero z (int_eq z (pos 0)) some refl) (is_within_is (pos (2 ^ 43)) z (record { low = omega (arith, ints); high = omega (arith, ints) }))

pub terms_within : (cells from n : ℕ) (bytes : List ℕ) (x : List (Var × ℤ) × List ℕ) → terms_at cells from n bytes ≡ Ok x → (are_terms from x.0 ≡ true) × (length x.0 ≡ n)
unfolding terms_at are_terms
terms_within cells from zero bytes x e = subst (λ (y : List (Var × ℤ) × List ℕ). (are_terms from y.0 ≡ true) × (length y.0 ≡ 0)) (ok_is ([], bytes) x e) (refl, refl)
terms_within cells from (suc n) bytes x e =
    let first = bind_ok (term_at cells from bytes) (λ a. terms_at cells (var_number a.0.0 + 1) n a.1 >>= λ b. Ok (a.0 ∷ b.0, b.1)) x e in
    let others = bind_ok (terms_at cells (var_number first.0.0.0 + 1) n first.0.1) (λ b. Ok (first.0.0 ∷ b.0, b.1)) x first.2 in
    let t = term_within cells from bytes first.0 first.1 in
    let ts = terms_within cells (var_number first.0.0.0 + 1) n first.0.1 others.0 others.1 in
    subst (λ (y : List (Var × ℤ) × List ℕ). (are_terms from y.0 ≡ true) × (length y.0 ≡ suc n)) (ok_is (first.0.0 ∷ others.0.0, others.0.1) x others.2)
    (rw (le-leb from (var_number first.0.0.0) t.low, coefficient_is first.0.0.1 t.some t.size, ts.0) refl, ap suc ts.1)

pub rank_is_form : (c : ℤ) (ts : List (Var × ℤ)) (n : ℕ) → IsWithin MOST_RANK c → are_terms 0 ts ≡ true → length ts ≡ n → n ≤ MOST_TERMS → is_form c ts ≡ true
rank_is_form c ts n h a len few =
    let low = h.low in let high = h.high in
    and_from (nat_le (length ts) MOST_TERMS && is_within (pos (2 ^ 77)) c) (are_terms 0 ts) (and_from (nat_le (length ts) MOST_TERMS) (is_within (pos (2 ^ 77)) c) (le-leb (length ts) MOST_TERMS (omega arith)) (is_within_is (pos (2 ^ 77)) c (record { low = omega (arith, ints); high = omega (arith, ints) }))) a

-- ---- what is spelled is read again

var_again : (v : Var) → var_of (var_number v) ≡ v
unfolding var_of
var_again (var.Reg reg.A) = refl
var_again (var.Reg reg.X) = refl
var_again (var.Reg reg.Y) = refl
var_again (var.Cell i) = rw (ne_eqb (3 + i) 0 (λ e. omega arith), ne_eqb (3 + i) 1 (λ e. omega arith), ne_eqb (3 + i) 2 (λ e. omega arith)) (ap (λ (k : ℕ). var.Cell k) (omega arith))

factor_again : (z : ℤ) → (z ≡ pos 0 → ⊥) → IsWithin MOST_FACTOR z → is_factor z ≡ true
factor_again z some h = and_from (not (int_eq z (pos 0))) (is_within MOST_FACTOR z) (not_zero z (int_eq z (pos 0)) some refl) (is_within_is MOST_FACTOR z h)

nine : (k n : ℕ) (rest : List ℕ) → nat_lt (length (k ∷ (long_bytes n ++ rest))) TERM ≡ false
unfolding long_bytes
nine k n rest = le-ltb (length (k ∷ (long_bytes n ++ rest))) TERM (omega arith)

pub term_again : (cells from : ℕ) (t : Var × ℤ) (rest : List ℕ) → IsTerm cells from t → term_at cells from (term_bytes t ++ rest) ≡ Ok (t, rest)
unfolding term_at term_parts_at term_of term_bytes
term_again cells from t rest h =
    let k = var_number t.0 in
    let n = cast_unsigned w64 t.1 in
    let size = h.size in let low = size.low in let high = size.high in
    let l = long_from t.1 (omega (arith, ints)) (omega (arith, ints)) in
    rw (nine k n rest, byte_again k (long_bytes n ++ rest), long_again n rest l.fits, l.back, lt-ltb k (3 + cells) h.high, le-leb from k h.low, factor_again t.1 h.some size, var_again t.0) refl

pub terms_takes : (cells from n : ℕ) (bytes : List ℕ) (x : List (Var × ℤ) × List ℕ) → IsBytes bytes → terms_at cells from n bytes ≡ Ok x → Takes bytes (flat_map term_bytes x.0) x.1 × (length x.0 ≡ n) × AreTerms cells from x.0
unfolding terms_at
terms_takes cells from zero bytes x fits e =
    subst (λ (y : List (Var × ℤ) × List ℕ). Takes bytes (flat_map term_bytes y.0) y.1 × (length y.0 ≡ 0) × AreTerms cells from y.0) (ok_is ([], bytes) x e) (record { parts = refl; rest_fits = fits }, refl, tt)
terms_takes cells from (suc n) bytes x fits e =
    let first = bind_ok (term_at cells from bytes) (λ a. terms_at cells (var_number a.0.0 + 1) n a.1 >>= λ b. Ok (a.0 ∷ b.0, b.1)) x e in
    let others = bind_ok (terms_at cells (var_number first.0.0.0 + 1) n first.0.1) (λ b. Ok (first.0.0 ∷ b.0, b.1)) x first.2 in
    let t = term_takes cells from bytes first.0 fits first.1 in
    let ts = terms_takes cells (var_number first.0.0.0 + 1) n first.0.1 others.0 t.0.rest_fits others.1 in
    let all = Takes-then bytes (term_bytes first.0.0) first.0.1 (flat_map term_bytes others.0.0) others.0.1 t.0 ts.0 in
    subst (λ (y : List (Var × ℤ) × List ℕ). Takes bytes (flat_map term_bytes y.0) y.1 × (length y.0 ≡ suc n) × AreTerms cells from y.0) (ok_is (first.0.0 ∷ others.0.0, others.0.1) x others.2) (all, ap suc ts.1, (t.1.low, t.1.high, t.1.some, t.1.size, ts.2))

pub terms_again : (cells from : ℕ) (ts : List (Var × ℤ)) (rest : List ℕ) → AreTerms cells from ts → terms_at cells from (length ts) (flat_map term_bytes ts ++ rest) ≡ Ok (ts, rest)
unfolding terms_at
terms_again cells from [] rest h = refl
terms_again cells from (t ∷ ts) rest h =
    let later = flat_map term_bytes ts ++ rest in
    let regrouped : flat_map term_bytes (t ∷ ts) ++ rest ≡ term_bytes t ++ later = append_assoc (term_bytes t) (flat_map term_bytes ts) rest in
    ap (terms_at cells from (suc (length ts))) regrouped ∙ rw (term_again cells from t later (record { low = h.0; high = h.1; some = h.2; size = h.3 }), terms_again cells (var_number t.0 + 1) ts rest h.4) refl

pub rank_takes : (cells : ℕ) (bytes : List ℕ) (x : FormOf × List ℕ) → IsBytes bytes → rank_at cells bytes ≡ Ok x → Takes bytes (rank_bytes x.0) x.1 × IsRank cells x.0
unfolding rank_at rank_bytes counted_bytes
rank_takes cells bytes x fits e =
    let k = bind_ok (signed_at MOST_RANK bytes) (λ k. count_at MOST_TERMS k.1 >>= λ n. terms_at cells 0 n.0 n.1 >>= λ ts. Ok (record { constant = k.0; terms = ts.0 }, ts.1)) x e in
    let n = bind_ok (count_at MOST_TERMS k.0.1) (λ n. terms_at cells 0 n.0 n.1 >>= λ ts. Ok (record { constant = k.0.0; terms = ts.0 }, ts.1)) x k.2 in
    let ts = bind_ok (terms_at cells 0 n.0.0 n.0.1) (λ ts. Ok (record { constant = k.0.0; terms = ts.0 }, ts.1)) x n.2 in
    let t0 = signed_takes MOST_RANK bytes k.0 fits k.1 in
    let t1 = count_takes MOST_TERMS k.0.1 n.0 t0.0.rest_fits n.1 in
    let t2 = terms_takes cells 0 n.0.0 n.0.1 ts.0 t1.0.rest_fits ts.1 in
    let listed = flat_map term_bytes ts.0.0 in
    let counted : Takes k.0.1 (length ts.0.0 ∷ listed) ts.0.1 = subst (λ (m : ℕ). Takes k.0.1 (m ∷ listed) ts.0.1) (sym t2.1) (Takes-then k.0.1 (n.0.0 ∷ []) n.0.1 listed ts.0.1 t1.0 t2.0) in
    let whole = Takes-then bytes (signed_long_bytes k.0.0) k.0.1 (length ts.0.0 ∷ listed) ts.0.1 t0.0 counted in
    let made : FormOf × List ℕ = (record { constant = k.0.0; terms = ts.0.0 }, ts.0.1) in
    subst (λ (y : FormOf × List ℕ). Takes bytes (rank_bytes y.0) y.1 × IsRank cells y.0) (ok_is made x ts.2) (whole, record { constant = t0.1; few = subst (λ (m : ℕ). m ≤ MOST_TERMS) (sym t2.1) t1.1; terms = t2.2 })

pub rank_again : (cells : ℕ) (f : FormOf) (rest : List ℕ) → IsRank cells f → rank_at cells (rank_bytes f ++ rest) ≡ Ok (f, rest)
unfolding rank_at rank_bytes counted_bytes
rank_again cells f rest h =
    let later = flat_map term_bytes f.terms ++ rest in
    let regrouped : rank_bytes f ++ rest ≡ signed_long_bytes f.constant ++ (length f.terms ∷ later) = append_assoc (signed_long_bytes f.constant) (length f.terms ∷ flat_map term_bytes f.terms) rest in
    ap (rank_at cells) regrouped ∙ rw (signed_again MOST_RANK f.constant (length f.terms ∷ later) (omega (arith, ints)) h.constant, count_again MOST_TERMS (length f.terms) later h.few, terms_again cells 0 f.terms rest h.terms) refl
