-- Links and flags that are read are within their limits.
use Rattle.std.proofs.Common.{◌≡◌, ℕ, zero, suc, ◌≤◌, ℤ, true, false, cond, List, [], ◌∷◌, Option, Some, None, Ok, Err, subst, eqb, nat_lt, nat_le, IfSome, ⊎_elim}
use Rattle.std.specs.Int.{w8, w32, w64, cast_signed}
use Rattle.std.proofs.lemmas.Bool.{ltb-true, leb-true}
use Rattle.viper_word.proofs.Booleans.{chosen}
use Rattle.flag_relation.specs.declared.atom.Atom.{Atom}
use Rattle.flag_relation.specs.declared.atom.Right.{Right}
use Rattle.flag_relation.specs.declared.atom.Right.TheVariants.{Cell, Const}
use Rattle.flag_relation.specs.declared.atoms.TheConstants.{MOST_ATOMS}
use Rattle.flag_relation.specs.declared.flag.Flag.{Flag}
use Rattle.flag_relation.specs.declared.flag.Flag.TheVariants.{Any, One, Or}
use Rattle.flag_relation.specs.declared.link.Link.{Link}
use Rattle.flag_relation.specs.declared.link.TheConstants.{MOST_OFFSET}
use Rattle.flag_relation.specs.Forms.{is_within}
use Rattle.flag_relation.specs.Limits.{IsLinkOf, AreLinksOf, IsRightOf, AreAtomsOf, IsFlagOf}
use Rattle.flag_relation.specs.Values.{Regs}
use Rattle.cert_format.specs.declared.limits.TheConstants.{NO_LINK, A_WORD, ONE, ANY}
use Rattle.cert_format.specs.Limits.{IsWithin}
use Rattle.cert_format.specs.Reading.{◌>>=◌, number_at, many_at}
use Rattle.cert_format.specs.Fields.{count_at, signed_at, offset_at, link_at, kind_at, reg_at, const_at, right_at, has_atom, atom_parts_at, atom_at, atoms_at, flag_at}
use Rattle.cert_format.specs.ReadNodes.{links_at}
use Rattle.cert_format.specs.evidence.Numbers.{bind_ok, passed, ok_is}
use Rattle.cert_format.proofs.FieldLaws.{within_is}

pub signed_within : (most : ℤ) (bytes : List ℕ) (x : ℤ × List ℕ) → signed_at most bytes ≡ Ok x → IsWithin most x.0
unfolding signed_at
signed_within most bytes x e =
    let n = bind_ok (number_at w64 bytes) (λ n. cond (is_within most (cast_signed w64 n.0)) (Ok (cast_signed w64 n.0, n.1)) (Err _)) x e in
    let g = passed (is_within most (cast_signed w64 n.0.0)) (Ok (cast_signed w64 n.0.0, n.0.1)) _ x n.2 in
    subst (λ (y : ℤ × List ℕ). IsWithin most y.0) (ok_is (cast_signed w64 n.0.0, n.0.1) x g.1) (within_is most (cast_signed w64 n.0.0) g.0)

link_within : (cells : ℕ) (bytes : List ℕ) (x : Option Link × List ℕ) → link_at cells bytes ≡ Ok x → IfSome x.0 (IsLinkOf cells)
unfolding link_at offset_at
link_within cells bytes x e =
    let n = bind_ok (number_at w8 bytes) (λ n. cond (eqb n.0 NO_LINK) (Ok (None, n.1)) (cond (nat_lt n.0 cells) (offset_at n.0 n.1) (Err _))) x e in
    ⊎_elim
    (λ (p : (eqb n.0.0 NO_LINK ≡ true) × (Ok (None, n.0.1) ≡ Ok x)).
    subst (λ (y : Option Link × List ℕ). IfSome y.0 (IsLinkOf cells)) (ok_is (None, n.0.1) x p.1) tt)
    (λ (p : (eqb n.0.0 NO_LINK ≡ false) × (cond (nat_lt n.0.0 cells) (offset_at n.0.0 n.0.1) (Err _) ≡ Ok x)).
    let g = passed (nat_lt n.0.0 cells) (offset_at n.0.0 n.0.1) _ x p.1 in
    let o = bind_ok (signed_at MOST_OFFSET n.0.1) (λ o. Ok (Some (record { cell = n.0.0; offset = o.0 }), o.1)) x g.1 in
    let t = signed_within MOST_OFFSET n.0.1 o.0 o.1 in
    subst (λ (y : Option Link × List ℕ). IfSome y.0 (IsLinkOf cells)) (ok_is (Some (record { cell = n.0.0; offset = o.0.0 }), o.0.1) x o.2) (record { cell = ltb-true n.0.0 cells g.0; low = t.low; high = t.high }))
    (chosen (eqb n.0.0 NO_LINK) (Ok (None, n.0.1)) _ (Ok x) n.2)

pub links_within : (cells : ℕ) (bytes : List ℕ) (x : Regs (Option Link) × List ℕ) → links_at cells bytes ≡ Ok x → AreLinksOf cells x.0
unfolding links_at
links_within cells bytes z e =
    let a = bind_ok (link_at cells bytes) (λ a. link_at cells a.1 >>= λ x. link_at cells x.1 >>= λ y. Ok (record { a = a.0; x = x.0; y = y.0 }, y.1)) z e in
    let x = bind_ok (link_at cells a.0.1) (λ x. link_at cells x.1 >>= λ y. Ok (record { a = a.0.0; x = x.0; y = y.0 }, y.1)) z a.2 in
    let y = bind_ok (link_at cells x.0.1) (λ y. Ok (record { a = a.0.0; x = x.0.0; y = y.0 }, y.1)) z x.2 in
    let made : Regs (Option Link) × List ℕ = (record { a = a.0.0; x = x.0.0; y = y.0.0 }, y.0.1) in
    subst (λ (w : Regs (Option Link) × List ℕ). AreLinksOf cells w.0) (ok_is made z y.2) (record { a = link_within cells bytes a.0 a.1; x = link_within cells a.0.1 x.0 x.1; y = link_within cells x.0.1 y.0 y.1 })

right_within : (cells : ℕ) (bytes : List ℕ) (x : Right × List ℕ) → right_at cells bytes ≡ Ok x → IsRightOf cells x.0
unfolding right_at const_at
right_within cells bytes x e =
    let n = bind_ok (number_at w8 bytes) (λ n. cond (eqb n.0 A_WORD) (const_at n.1) (cond (nat_lt n.0 cells) (Ok (Cell n.0, n.1)) (Err _))) x e in
    ⊎_elim
    (λ (p : (eqb n.0.0 A_WORD ≡ true) × (const_at n.0.1 ≡ Ok x)).
    let w = bind_ok (number_at w32 n.0.1) (λ w. Ok (Const (record { 0 = w.0 }), w.1)) x p.1 in
    subst (λ (y : Right × List ℕ). IsRightOf cells y.0) (ok_is (Const (record { 0 = w.0.0 }), w.0.1) x w.2) tt)
    (λ (p : (eqb n.0.0 A_WORD ≡ false) × (cond (nat_lt n.0.0 cells) (Ok (Cell n.0.0, n.0.1)) (Err _) ≡ Ok x)).
    let g = passed (nat_lt n.0.0 cells) (Ok (Cell n.0.0, n.0.1)) _ x p.1 in
    subst (λ (y : Right × List ℕ). IsRightOf cells y.0) (ok_is (Cell n.0.0, n.0.1) x g.1) (ltb-true n.0.0 cells g.0))
    (chosen (eqb n.0.0 A_WORD) (const_at n.0.1) _ (Ok x) n.2)

atom_within : (cells : ℕ) (bytes : List ℕ) (x : Atom × List ℕ) → atom_at cells bytes ≡ Ok x → IsRightOf cells x.0.right
unfolding atom_at atom_parts_at
atom_within cells bytes x e =
    let w = passed (has_atom bytes) (atom_parts_at cells bytes) _ x e in
    let k = bind_ok (kind_at bytes) (λ k. reg_at k.1 >>= λ l. right_at cells l.1 >>= λ r. Ok (record { kind = k.0; left = l.0; right = r.0 }, r.1)) x w.1 in
    let l = bind_ok (reg_at k.0.1) (λ l. right_at cells l.1 >>= λ r. Ok (record { kind = k.0.0; left = l.0; right = r.0 }, r.1)) x k.2 in
    let r = bind_ok (right_at cells l.0.1) (λ r. Ok (record { kind = k.0.0; left = l.0.0; right = r.0 }, r.1)) x l.2 in
    subst (λ (y : Atom × List ℕ). IsRightOf cells y.0.right) (ok_is (record { kind = k.0.0; left = l.0.0; right = r.0.0 }, r.0.1) x r.2) (right_within cells l.0.1 r.0 r.1)

atoms_within : (cells n : ℕ) (bytes : List ℕ) (x : List Atom × List ℕ) → many_at (atom_at cells) n bytes ≡ Ok x → AreAtomsOf cells x.0
unfolding many_at
atoms_within cells zero bytes x e = subst (λ (y : List Atom × List ℕ). AreAtomsOf cells y.0) (ok_is ([], bytes) x e) tt
atoms_within cells (suc n) bytes x e =
    let first = bind_ok (atom_at cells bytes) (λ (a : Atom × List ℕ). many_at (atom_at cells) n a.1 >>= λ b. Ok (a.0 ∷ b.0, b.1)) x e in
    let others = bind_ok (many_at (atom_at cells) n first.0.1) (λ (b : List Atom × List ℕ). Ok (first.0.0 ∷ b.0, b.1)) x first.2 in
    subst (λ (y : List Atom × List ℕ). AreAtomsOf cells y.0) (ok_is (first.0.0 ∷ others.0.0, others.0.1) x others.2) (atom_within cells bytes first.0 first.1, atoms_within cells n first.0.1 others.0 others.1)

pub flag_within : (cells : ℕ) (bytes : List ℕ) (x : Flag × List ℕ) → flag_at cells bytes ≡ Ok x → IsFlagOf cells x.0
unfolding flag_at atoms_at
flag_within cells bytes x e =
    let n = bind_ok (number_at w8 bytes) (λ n. cond (eqb n.0 ANY) (Ok (Any, n.1)) (cond (eqb n.0 ONE) (Ok (One, n.1)) (cond (nat_le n.0 MOST_ATOMS) (atoms_at cells n.0 n.1) (Err _)))) x e in
    ⊎_elim
    (λ (p : (eqb n.0.0 ANY ≡ true) × (Ok (Any, n.0.1) ≡ Ok x)).
    subst (λ (y : Flag × List ℕ). IsFlagOf cells y.0) (ok_is (Any, n.0.1) x p.1) tt)
    (λ (p : (eqb n.0.0 ANY ≡ false) × (cond (eqb n.0.0 ONE) (Ok (One, n.0.1)) (cond (nat_le n.0.0 MOST_ATOMS) (atoms_at cells n.0.0 n.0.1) (Err _)) ≡ Ok x)).
    ⊎_elim
    (λ (q : (eqb n.0.0 ONE ≡ true) × (Ok (One, n.0.1) ≡ Ok x)).
    subst (λ (y : Flag × List ℕ). IsFlagOf cells y.0) (ok_is (One, n.0.1) x q.1) tt)
    (λ (q : (eqb n.0.0 ONE ≡ false) × (cond (nat_le n.0.0 MOST_ATOMS) (atoms_at cells n.0.0 n.0.1) (Err _) ≡ Ok x)).
    let g = passed (nat_le n.0.0 MOST_ATOMS) (atoms_at cells n.0.0 n.0.1) _ x q.1 in
    let a = bind_ok (many_at (atom_at cells) n.0.0 n.0.1) (λ a. Ok (Or a.0, a.1)) x g.1 in
    subst (λ (y : Flag × List ℕ). IsFlagOf cells y.0) (ok_is (Or a.0.0, a.0.1) x a.2) (atoms_within cells n.0.0 n.0.1 a.0 a.1))
    (chosen (eqb n.0.0 ONE) (Ok (One, n.0.1)) _ (Ok x) p.1))
    (chosen (eqb n.0.0 ANY) (Ok (Any, n.0.1)) _ (Ok x) n.2)

pub count_within : (most : ℕ) (bytes : List ℕ) (x : ℕ × List ℕ) → count_at most bytes ≡ Ok x → x.0 ≤ most
unfolding count_at
count_within most bytes x e =
    let n = bind_ok (number_at w8 bytes) (λ n. cond (nat_le n.0 most) (Ok n) (Err _)) x e in
    let g = passed (nat_le n.0.0 most) (Ok n.0) _ x n.2 in
    subst (λ (y : ℕ × List ℕ). y.0 ≤ most) (ok_is n.0 x g.1) (leb-true n.0.0 most g.0)
