-- Each field: what is read is spelled so, within its limits, and what is spelled so is read.
use Rattle.std.proofs.Common.{◌≡◌, ℕ, zero, suc, ◌+◌, ◌-◌, ◌^◌, ◌<◌, ◌≤◌, ℤ, pos, negsuc, neg_ℤ, ◌≤ℤ◌, int_le, true, false, cond, List, [], ◌∷◌, ◌++◌, length, Option, Some, None, Ok, Err, refl, sym, ap, subst, ◌∙◌, append_assoc, arith, eqb, nat_lt, nat_le, IfSome, ⊎_elim}
use Rattle.std.specs.Int.{w8, w32, w64, cast_signed, cast_unsigned}
use Rattle.std.specs.List.{flat_map, AllByRecursion}
use Rattle.std.proofs.lemmas.Int.{ints, of_z-to_z, to_z-of_z}
use Rattle.std.proofs.lemmas.Bool.{and_parts, and_from, ltb-true, lt-ltb, leb-true, le-leb, eqb-true, ne_eqb}
use Rattle.viper_word.proofs.Booleans.{chosen}
use Rattle.viper_word.proofs.Integers.{le_true, true_le}
use Rattle.flag_relation.specs.declared.link.Link.{Link}
use Rattle.flag_relation.specs.declared.link.TheConstants.{MOST_OFFSET}
use Rattle.flag_relation.specs.Forms.{is_within}
use Rattle.flag_relation.specs.Limits.{IsLinkOf}
use Rattle.cert_format.specs.declared.limits.TheConstants.{NO_LINK}
use Rattle.cert_format.specs.Limits.{IsBelow, IsWithin, AreCells}
use Rattle.cert_format.specs.Values.{word_bytes, long_bytes, signed_long_bytes}
use Rattle.cert_format.specs.Spelling.{counted_bytes, link_bytes}
use Rattle.cert_format.specs.Reading.{◌>>=◌, number_at, many_at}
use Rattle.cert_format.specs.Fields.{count_at, below_at, signed_at, numbers_at, cell_at, cells_at, offset_at, link_at}
use Rattle.cert_format.specs.evidence.Numbers.{IsBytes, Takes, Takes-then, Reader, bind_ok, passed, ok_is, word_takes, word_again, long_takes, long_again, byte_takes, byte_again, many_takes, many_again}

-- ---- counts and numbers below a limit

pub count_takes : (most : ℕ) (bytes : List ℕ) (x : ℕ × List ℕ) → IsBytes bytes → count_at most bytes ≡ Ok x → Takes bytes (x.0 ∷ []) x.1 × (x.0 ≤ most)
unfolding count_at
count_takes most bytes x fits e =
    let n = bind_ok (number_at w8 bytes) (λ n. cond (nat_le n.0 most) (Ok n) (Err _)) x e in
    let t = byte_takes bytes n.0 fits n.1 in
    let g = passed (nat_le n.0.0 most) (Ok n.0) _ x n.2 in
    subst (λ (y : ℕ × List ℕ). Takes bytes (y.0 ∷ []) y.1 × (y.0 ≤ most)) (ok_is n.0 x g.1) (t.0, leb-true n.0.0 most g.0)

pub count_again : (most n : ℕ) (rest : List ℕ) → n ≤ most → count_at most (n ∷ rest) ≡ Ok (n, rest)
unfolding count_at
count_again most n rest h = rw (byte_again n rest, le-leb n most h) refl

pub below_takes : (limit : ℕ) (bytes : List ℕ) (x : ℕ × List ℕ) → IsBytes bytes → below_at limit bytes ≡ Ok x → Takes bytes (word_bytes x.0) x.1 × (x.0 < limit)
unfolding below_at
below_takes limit bytes x fits e =
    let n = bind_ok (number_at w32 bytes) (λ n. cond (nat_lt n.0 limit) (Ok n) (Err _)) x e in
    let t = word_takes bytes n.0 fits n.1 in
    let g = passed (nat_lt n.0.0 limit) (Ok n.0) _ x n.2 in
    subst (λ (y : ℕ × List ℕ). Takes bytes (word_bytes y.0) y.1 × (y.0 < limit)) (ok_is n.0 x g.1) (t.0, ltb-true n.0.0 limit g.0)

pub below_again : (limit n : ℕ) (rest : List ℕ) → limit ≤ 2 ^ 32 → n < limit → below_at limit (word_bytes n ++ rest) ≡ Ok (n, rest)
unfolding below_at
below_again limit n rest small h = rw (word_again n rest (omega arith), lt-ltb n limit h) refl

pub below_reader : (limit : ℕ) → limit ≤ 2 ^ 32 → Reader (below_at limit) word_bytes (IsBelow limit)
below_reader limit small = record { takes = below_takes limit; again = λ n rest h. below_again limit n rest small h }

pub numbers_takes : (most limit : ℕ) (bytes : List ℕ) (x : List ℕ × List ℕ) → limit ≤ 2 ^ 32 → IsBytes bytes → numbers_at most limit bytes ≡ Ok x → Takes bytes (counted_bytes word_bytes x.0) x.1 × (length x.0 ≤ most) × AllByRecursion (IsBelow limit) x.0
unfolding numbers_at counted_bytes
numbers_takes most limit bytes x small fits e =
    let n = bind_ok (count_at most bytes) (λ n. many_at (below_at limit) n.0 n.1) x e in
    let t = count_takes most bytes n.0 fits n.1 in
    let ts = many_takes (below_at limit) word_bytes (IsBelow limit) (below_reader limit small).takes n.0.0 n.0.1 x t.0.rest_fits n.2 in
    let both = Takes-then bytes (n.0.0 ∷ []) n.0.1 (flat_map word_bytes x.0) x.1 t.0 ts.0 in
    (subst (λ (k : ℕ). Takes bytes (k ∷ flat_map word_bytes x.0) x.1) (sym ts.1) both, subst (λ (k : ℕ). k ≤ most) (sym ts.1) t.1, ts.2)

pub numbers_again : (most limit : ℕ) (ns rest : List ℕ) → limit ≤ 2 ^ 32 → length ns ≤ most → AllByRecursion (IsBelow limit) ns → numbers_at most limit (counted_bytes word_bytes ns ++ rest) ≡ Ok (ns, rest)
unfolding numbers_at counted_bytes
numbers_again most limit ns rest small few fits = rw (count_again most (length ns) (flat_map word_bytes ns ++ rest) few) (many_again (below_at limit) word_bytes (IsBelow limit) (below_reader limit small) ns rest fits)

-- ---- signed numbers

pub within_is : (most z : ℤ) → is_within most z ≡ true → IsWithin most z
within_is most z h = let p = and_parts (int_le (neg_ℤ most) z) (int_le z most) h in record { low = le_true (neg_ℤ most) z p.0; high = le_true z most p.1 }

pub is_within_is : (most z : ℤ) → IsWithin most z → is_within most z ≡ true
is_within_is most z h = and_from (int_le (neg_ℤ most) z) (int_le z most) (true_le (neg_ℤ most) z h.low) (true_le z most h.high)

pub signed_takes : (most : ℤ) (bytes : List ℕ) (x : ℤ × List ℕ) → IsBytes bytes → signed_at most bytes ≡ Ok x → Takes bytes (signed_long_bytes x.0) x.1 × IsWithin most x.0
unfolding signed_at
signed_takes most bytes x fits e =
    let n = bind_ok (number_at w64 bytes) (λ n. cond (is_within most (cast_signed w64 n.0)) (Ok (cast_signed w64 n.0, n.1)) (Err _)) x e in
    let t = long_takes bytes n.0 fits n.1 in
    let g = passed (is_within most (cast_signed w64 n.0.0)) (Ok (cast_signed w64 n.0.0, n.0.1)) _ x n.2 in
    let back : cast_unsigned w64 (cast_signed w64 n.0.0) ≡ n.0.0 = of_z-to_z w64 n.0.0 t.1 in
    let whole : Takes bytes (signed_long_bytes (cast_signed w64 n.0.0)) n.0.1 = subst (λ (k : ℕ). Takes bytes (long_bytes k) n.0.1) (sym back) t.0 in
    subst (λ (y : ℤ × List ℕ). Takes bytes (signed_long_bytes y.0) y.1 × IsWithin most y.0) (ok_is (cast_signed w64 n.0.0, n.0.1) x g.1) (whole, within_is most (cast_signed w64 n.0.0) g.0)

pub record IsLong (z : ℤ) : Type 0 where
  pub back : cast_signed w64 (cast_unsigned w64 z) ≡ z
  pub fits : cast_unsigned w64 z < 2 ^ 64

pub long_from : (z : ℤ) → neg_ℤ (pos (2 ^ 63)) ≤ℤ z → z ≤ℤ pos (2 ^ 63 - 1) → IsLong z
long_from (pos n) l h = record { back = to_z-of_z w64 (pos n) (record { sfits = omega (arith, ints) }); fits = omega (arith, ints) }
long_from (negsuc n) l h = record { back = to_z-of_z w64 (negsuc n) (record { sfits = omega (arith, ints) }); fits = omega (arith, ints) }

pub signed_again : (most z : ℤ) (rest : List ℕ) → most ≤ℤ pos (2 ^ 63 - 1) → IsWithin most z → signed_at most (signed_long_bytes z ++ rest) ≡ Ok (z, rest)
unfolding signed_at
signed_again most z rest small h =
    let low = h.low in let high = h.high in
    let l = long_from z (omega (arith, ints)) (omega (arith, ints)) in
    rw (long_again (cast_unsigned w64 z) rest l.fits, l.back, is_within_is most z h) refl

-- ---- cells

pub cell_takes : (from : ℕ) (bytes : List ℕ) (x : ℕ × List ℕ) → IsBytes bytes → cell_at from bytes ≡ Ok x → Takes bytes (word_bytes x.0) x.1 × (from ≤ x.0) × (x.0 < 2 ^ 20)
unfolding cell_at
cell_takes from bytes x fits e =
    let n = bind_ok (below_at (2 ^ 20) bytes) (λ n. cond (nat_le from n.0) (Ok n) (Err _)) x e in
    let t = below_takes (2 ^ 20) bytes n.0 fits n.1 in
    let g = passed (nat_le from n.0.0) (Ok n.0) _ x n.2 in
    subst (λ (y : ℕ × List ℕ). Takes bytes (word_bytes y.0) y.1 × (from ≤ y.0) × (y.0 < 2 ^ 20)) (ok_is n.0 x g.1) (t.0, leb-true from n.0.0 g.0, t.1)

pub cell_again : (from n : ℕ) (rest : List ℕ) → from ≤ n → n < 2 ^ 20 → cell_at from (word_bytes n ++ rest) ≡ Ok (n, rest)
unfolding cell_at
cell_again from n rest h low = rw (below_again (2 ^ 20) n rest (omega arith) low, le-leb from n h) refl

pub cells_takes : (from n : ℕ) (bytes : List ℕ) (x : List ℕ × List ℕ) → IsBytes bytes → cells_at from n bytes ≡ Ok x → Takes bytes (flat_map word_bytes x.0) x.1 × (length x.0 ≡ n) × AreCells from x.0
unfolding cells_at
cells_takes from zero bytes x fits e =
    subst (λ (y : List ℕ × List ℕ). Takes bytes (flat_map word_bytes y.0) y.1 × (length y.0 ≡ 0) × AreCells from y.0) (ok_is ([], bytes) x e) (record { parts = refl; rest_fits = fits }, refl, tt)
cells_takes from (suc n) bytes x fits e =
    let first = bind_ok (cell_at from bytes) (λ (a : ℕ × List ℕ). cells_at (a.0 + 1) n a.1 >>= λ b. Ok (a.0 ∷ b.0, b.1)) x e in
    let others = bind_ok (cells_at (first.0.0 + 1) n first.0.1) (λ (b : List ℕ × List ℕ). Ok (first.0.0 ∷ b.0, b.1)) x first.2 in
    let t = cell_takes from bytes first.0 fits first.1 in
    let ts = cells_takes (first.0.0 + 1) n first.0.1 others.0 t.0.rest_fits others.1 in
    let all = Takes-then bytes (word_bytes first.0.0) first.0.1 (flat_map word_bytes others.0.0) others.0.1 t.0 ts.0 in
    subst (λ (y : List ℕ × List ℕ). Takes bytes (flat_map word_bytes y.0) y.1 × (length y.0 ≡ suc n) × AreCells from y.0) (ok_is (first.0.0 ∷ others.0.0, others.0.1) x others.2) (all, ap suc ts.1, (t.1, t.2, ts.2))

pub cells_again : (from : ℕ) (cs rest : List ℕ) → AreCells from cs → cells_at from (length cs) (flat_map word_bytes cs ++ rest) ≡ Ok (cs, rest)
unfolding cells_at
cells_again from [] rest h = refl
cells_again from (c ∷ cs) rest h =
    let regrouped : flat_map word_bytes (c ∷ cs) ++ rest ≡ word_bytes c ++ (flat_map word_bytes cs ++ rest) = append_assoc (word_bytes c) (flat_map word_bytes cs) rest in
    ap (cells_at from (suc (length cs))) regrouped ∙ rw (cell_again from c (flat_map word_bytes cs ++ rest) h.0 h.1, cells_again (c + 1) cs rest h.2) refl

-- ---- links

offset_takes : (cells cell : ℕ) (front bytes : List ℕ) (x : Option Link × List ℕ) → cell < cells → Takes front (cell ∷ []) bytes → offset_at cell bytes ≡ Ok x → Takes front (link_bytes x.0) x.1 × IfSome x.0 (IsLinkOf cells)
unfolding offset_at link_bytes
offset_takes cells cell front bytes x lt before e =
    let o = bind_ok (signed_at MOST_OFFSET bytes) (λ o. Ok (Some (record { cell = cell; offset = o.0 }), o.1)) x e in
    let t = signed_takes MOST_OFFSET bytes o.0 before.rest_fits o.1 in
    let made : Option Link × List ℕ = (Some (record { cell = cell; offset = o.0.0 }), o.0.1) in
    let whole = Takes-then front (cell ∷ []) bytes (signed_long_bytes o.0.0) o.0.1 before t.0 in
    subst (λ (y : Option Link × List ℕ). Takes front (link_bytes y.0) y.1 × IfSome y.0 (IsLinkOf cells)) (ok_is made x o.2) (whole, record { cell = lt; low = t.1.low; high = t.1.high })

pub link_takes : (cells : ℕ) (bytes : List ℕ) (x : Option Link × List ℕ) → IsBytes bytes → link_at cells bytes ≡ Ok x → Takes bytes (link_bytes x.0) x.1 × IfSome x.0 (IsLinkOf cells)
unfolding link_at link_bytes
link_takes cells bytes x fits e =
    let n = bind_ok (number_at w8 bytes) (λ n. cond (eqb n.0 NO_LINK) (Ok (None, n.1)) (cond (nat_lt n.0 cells) (offset_at n.0 n.1) (Err _))) x e in
    let t = byte_takes bytes n.0 fits n.1 in
    ⊎_elim
    (λ (p : (eqb n.0.0 NO_LINK ≡ true) × (Ok (None, n.0.1) ≡ Ok x)).
    let b = eqb-true n.0.0 NO_LINK p.0 in
    subst (λ (y : Option Link × List ℕ). Takes bytes (link_bytes y.0) y.1 × IfSome y.0 (IsLinkOf cells)) (ok_is (None, n.0.1) x p.1) (subst (λ (k : ℕ). Takes bytes (k ∷ []) n.0.1) b t.0, tt))
    (λ (p : (eqb n.0.0 NO_LINK ≡ false) × (cond (nat_lt n.0.0 cells) (offset_at n.0.0 n.0.1) (Err _) ≡ Ok x)).
    let g = passed (nat_lt n.0.0 cells) (offset_at n.0.0 n.0.1) _ x p.1 in
    offset_takes cells n.0.0 bytes n.0.1 x (ltb-true n.0.0 cells g.0) t.0 g.1)
    (chosen (eqb n.0.0 NO_LINK) (Ok (None, n.0.1)) _ (Ok x) n.2)

pub link_again : (cells : ℕ) (l : Option Link) (rest : List ℕ) → cells ≤ 32 → IfSome l (IsLinkOf cells) → link_at cells (link_bytes l ++ rest) ≡ Ok (l, rest)
unfolding link_at offset_at link_bytes
link_again cells None rest few h = rw (byte_again NO_LINK rest) refl
link_again cells (Some l) rest few h =
    let below = h.cell in
    let apart : eqb l.cell NO_LINK ≡ false = ne_eqb l.cell NO_LINK (λ e. omega arith) in
    rw (byte_again l.cell (signed_long_bytes l.offset ++ rest), apart, lt-ltb l.cell cells h.cell, signed_again MOST_OFFSET l.offset rest (omega (arith, ints)) (record { low = h.low; high = h.high })) refl
