-- Comparisons and flags: what is read is spelled so, and what is spelled so is read.
use Rattle.std.proofs.Common.{◌≡◌, ℕ, ◌≤◌, true, false, cond, List, [], ◌∷◌, ◌++◌, length, Option, Some, None, Ok, Err, refl, sym, ap, subst, ◌∙◌, arith, eqb, nat_lt, nat_le, ⊎_elim}
use Rattle.std.specs.Int.{w8, w32}
use Rattle.std.specs.List.{flat_map, AllByRecursion}
use Rattle.std.proofs.lemmas.List.{length-append}
use Rattle.std.proofs.lemmas.Bool.{ltb-true, lt-ltb, leb-true, le-leb, eqb-true, ne_eqb}
use Rattle.std.proofs.lemmas.Option.{none-some, same_Some}
use Rattle.viper_word.proofs.Booleans.{chosen}
use Rattle.viper_word.specs.declared.kind.Kind.{Kind}
use Rattle.viper_word.specs.declared.kind.Kind.TheVariants as kind
use Rattle.viper_word.specs.declared.reg.Reg.{Reg}
use Rattle.viper_word.specs.declared.reg.Reg.TheVariants as reg
use Rattle.flag_relation.specs.declared.atom.Atom.{Atom}
use Rattle.flag_relation.specs.declared.atom.Right.{Right}
use Rattle.flag_relation.specs.declared.atom.Right.TheVariants.{Cell, Const}
use Rattle.flag_relation.specs.declared.atoms.TheConstants.{MOST_ATOMS}
use Rattle.flag_relation.specs.declared.flag.Flag.{Flag}
use Rattle.flag_relation.specs.declared.flag.Flag.TheVariants.{Any, One, Or}
use Rattle.flag_relation.specs.Equality.{kind_number, reg_number}
use Rattle.flag_relation.specs.Limits.{IsRightOf, AreAtomsOf, IsFlagOf}
use Rattle.cert_format.specs.declared.limits.TheConstants.{A_WORD, ONE, ANY}
use Rattle.cert_format.specs.Limits.{IsRightWord, HasWord, IsFlag}
use Rattle.cert_format.specs.Values.{word_bytes}
use Rattle.cert_format.specs.Spelling.{right_bytes, atom_bytes, flag_bytes}
use Rattle.cert_format.specs.Reading.{◌>>=◌, number_at, many_at}
use Rattle.cert_format.specs.Fields.{kind_of, reg_of, or_range, kind_at, reg_at, const_at, right_at, has_atom, atom_parts_at, atom_at, atoms_at, flag_at}
use Rattle.cert_format.specs.evidence.Numbers.{IsBytes, Takes, Takes-then, Reader, bind_ok, passed, ok_is, err_not_ok, word_takes, word_again, byte_takes, byte_again, many_takes, many_again}

-- a value that is there
or_range_is : {Z : Type 0} (o : Option Z) (bytes rest : List ℕ) (x : Z × List ℕ) → or_range o bytes rest ≡ Ok x → (o ≡ Some x.0) × (rest ≡ x.1)
or_range_is {Z} None bytes rest x e = err_not_ok _ x e
or_range_is {Z} (Some z) bytes rest x e = let made = ok_is (z, rest) x e in (ap (λ (p : Z × List ℕ). Some p.0) made, ap (λ (p : Z × List ℕ). p.1) made)

-- ---- kinds and registers

-- the first that has the number
pick : {Z : Type 0} (f : Z → ℕ) (n i : ℕ) (z k : Z) (o : Option Z) → f z ≡ i → cond (eqb n i) (Some z) o ≡ Some k → (o ≡ Some k → f k ≡ n) → f k ≡ n
pick {Z} f n i z k o here e rest =
    ⊎_elim (λ (p : (eqb n i ≡ true) × (Some z ≡ Some k)). ap f (sym (same_Some z k p.1)) ∙ here ∙ sym (eqb-true n i p.0)) (λ (p : (eqb n i ≡ false) × (o ≡ Some k)). rest p.1) (chosen (eqb n i) (Some z) o (Some k) e)

pub kind_back : (n : ℕ) (k : Kind) → kind_of n ≡ Some k → kind_number k ≡ n
unfolding kind_of
kind_back n k e = pick kind_number n 0 kind.Lt k _ refl e (λ e1. pick kind_number n 1 kind.Ge k _ refl e1 (λ e2. pick kind_number n 2 kind.Eq k _ refl e2 (λ e3. pick kind_number n 3 kind.Ne k _ refl e3 (λ e4. pick kind_number n 4 kind.Le k _ refl e4 (λ e5. pick kind_number n 5 kind.Gt k _ refl e5 (λ e6. pick kind_number n 6 kind.Ult k _ refl e6 (λ e7. pick kind_number n 7 kind.Uge k _ refl e7 (λ e8. absurd (none-some k e8)))))))))

pub kind_again : (k : Kind) → kind_of (kind_number k) ≡ Some k
unfolding kind_of
kind_again kind.Lt = refl
kind_again kind.Ge = refl
kind_again kind.Eq = refl
kind_again kind.Ne = refl
kind_again kind.Le = refl
kind_again kind.Gt = refl
kind_again kind.Ult = refl
kind_again kind.Uge = refl

pub reg_back : (n : ℕ) (r : Reg) → reg_of n ≡ Some r → reg_number r ≡ n
unfolding reg_of
reg_back n r e = pick reg_number n 0 reg.A r _ refl e (λ e1. pick reg_number n 1 reg.X r _ refl e1 (λ e2. pick reg_number n 2 reg.Y r _ refl e2 (λ e3. absurd (none-some r e3))))

pub reg_again : (r : Reg) → reg_of (reg_number r) ≡ Some r
unfolding reg_of
reg_again reg.A = refl
reg_again reg.X = refl
reg_again reg.Y = refl

kind_takes : (bytes : List ℕ) (x : Kind × List ℕ) → IsBytes bytes → kind_at bytes ≡ Ok x → Takes bytes (kind_number x.0 ∷ []) x.1
unfolding kind_at
kind_takes bytes x fits e =
    let n = bind_ok (number_at w8 bytes) (λ n. or_range (kind_of n.0) bytes n.1) x e in
    let t = byte_takes bytes n.0 fits n.1 in
    let g = or_range_is (kind_of n.0.0) bytes n.0.1 x n.2 in
    subst (λ (k : ℕ). Takes bytes (k ∷ []) x.1) (sym (kind_back n.0.0 x.0 g.0)) (subst (λ (r : List ℕ). Takes bytes (n.0.0 ∷ []) r) g.1 t.0)

reg_takes : (bytes : List ℕ) (x : Reg × List ℕ) → IsBytes bytes → reg_at bytes ≡ Ok x → Takes bytes (reg_number x.0 ∷ []) x.1
unfolding reg_at
reg_takes bytes x fits e =
    let n = bind_ok (number_at w8 bytes) (λ n. or_range (reg_of n.0) bytes n.1) x e in
    let t = byte_takes bytes n.0 fits n.1 in
    let g = or_range_is (reg_of n.0.0) bytes n.0.1 x n.2 in
    subst (λ (k : ℕ). Takes bytes (k ∷ []) x.1) (sym (reg_back n.0.0 x.0 g.0)) (subst (λ (r : List ℕ). Takes bytes (n.0.0 ∷ []) r) g.1 t.0)

-- ---- the right side

const_takes : (front bytes : List ℕ) (x : Right × List ℕ) → Takes front (A_WORD ∷ []) bytes → const_at bytes ≡ Ok x → Takes front (right_bytes x.0) x.1 × IsRightWord x.0 × ((cells : ℕ) → IsRightOf cells x.0)
unfolding const_at
const_takes front bytes x before e =
    let n = bind_ok (number_at w32 bytes) (λ n. Ok (Const (record { 0 = n.0 }), n.1)) x e in
    let t = word_takes bytes n.0 before.rest_fits n.1 in
    let made : Right × List ℕ = (Const (record { 0 = n.0.0 }), n.0.1) in
    let whole = Takes-then front (A_WORD ∷ []) bytes (word_bytes n.0.0) n.0.1 before t.0 in
    subst (λ (y : Right × List ℕ). Takes front (right_bytes y.0) y.1 × IsRightWord y.0 × ((cells : ℕ) → IsRightOf cells y.0)) (ok_is made x n.2) (whole, t.1, λ cells. tt)

right_takes : (cells : ℕ) (bytes : List ℕ) (x : Right × List ℕ) → IsBytes bytes → right_at cells bytes ≡ Ok x → Takes bytes (right_bytes x.0) x.1 × IsRightWord x.0 × IsRightOf cells x.0
unfolding right_at
right_takes cells bytes x fits e =
    let n = bind_ok (number_at w8 bytes) (λ n. cond (eqb n.0 A_WORD) (const_at n.1) (cond (nat_lt n.0 cells) (Ok (Cell n.0, n.1)) (Err _))) x e in
    let t = byte_takes bytes n.0 fits n.1 in
    ⊎_elim
    (λ (p : (eqb n.0.0 A_WORD ≡ true) × (const_at n.0.1 ≡ Ok x)).
    let b = eqb-true n.0.0 A_WORD p.0 in
    let c = const_takes bytes n.0.1 x (subst (λ (k : ℕ). Takes bytes (k ∷ []) n.0.1) b t.0) p.1 in
    (c.0, c.1, c.2 cells))
    (λ (p : (eqb n.0.0 A_WORD ≡ false) × (cond (nat_lt n.0.0 cells) (Ok (Cell n.0.0, n.0.1)) (Err _) ≡ Ok x)).
    let g = passed (nat_lt n.0.0 cells) (Ok (Cell n.0.0, n.0.1)) _ x p.1 in
    let made : Right × List ℕ = (Cell n.0.0, n.0.1) in
    subst (λ (y : Right × List ℕ). Takes bytes (right_bytes y.0) y.1 × IsRightWord y.0 × IsRightOf cells y.0) (ok_is made x g.1) (t.0, tt, ltb-true n.0.0 cells g.0))
    (chosen (eqb n.0.0 A_WORD) (const_at n.0.1) _ (Ok x) n.2)

right_again : (cells : ℕ) (r : Right) (rest : List ℕ) → cells ≤ 32 → IsRightWord r → IsRightOf cells r → right_at cells (right_bytes r ++ rest) ≡ Ok (r, rest)
unfolding right_at const_at
right_again cells (Cell i) rest few w h =
    let apart : eqb i A_WORD ≡ false = ne_eqb i A_WORD (λ e. omega arith) in
    rw (byte_again i rest, apart, lt-ltb i cells h) refl
right_again cells (Const word) rest few w h = rw (byte_again A_WORD (word_bytes word.0 ++ rest), word_again word.0 rest w) refl

-- ---- comparisons

abbrev pub IsAtom : ℕ → Atom → Type 0
IsAtom cells a = HasWord a × IsRightOf cells a.right

pub atom_takes : (cells : ℕ) (bytes : List ℕ) (x : Atom × List ℕ) → IsBytes bytes → atom_at cells bytes ≡ Ok x → Takes bytes (atom_bytes x.0) x.1 × IsAtom cells x.0
unfolding atom_at atom_parts_at atom_bytes
atom_takes cells bytes x fits e =
    let w = passed (has_atom bytes) (atom_parts_at cells bytes) _ x e in
    let k = bind_ok (kind_at bytes) (λ k. reg_at k.1 >>= λ l. right_at cells l.1 >>= λ r. Ok (record { kind = k.0; left = l.0; right = r.0 }, r.1)) x w.1 in
    let l = bind_ok (reg_at k.0.1) (λ l. right_at cells l.1 >>= λ r. Ok (record { kind = k.0.0; left = l.0; right = r.0 }, r.1)) x k.2 in
    let r = bind_ok (right_at cells l.0.1) (λ r. Ok (record { kind = k.0.0; left = l.0.0; right = r.0 }, r.1)) x l.2 in
    let t0 = kind_takes bytes k.0 fits k.1 in
    let t1 = reg_takes k.0.1 l.0 t0.rest_fits l.1 in
    let t2 = right_takes cells l.0.1 r.0 t1.rest_fits r.1 in
    let e12 = Takes-then k.0.1 (reg_number l.0.0 ∷ []) l.0.1 (right_bytes r.0.0) r.0.1 t1 t2.0 in
    let e02 = Takes-then bytes (kind_number k.0.0 ∷ []) k.0.1 (reg_number l.0.0 ∷ right_bytes r.0.0) r.0.1 t0 e12 in
    let made : Atom × List ℕ = (record { kind = k.0.0; left = l.0.0; right = r.0.0 }, r.0.1) in
    subst (λ (y : Atom × List ℕ). Takes bytes (atom_bytes y.0) y.1 × IsAtom cells y.0) (ok_is made x r.2) (e02, (t2.1, t2.2))

whole_atom : (cells : ℕ) (a : Atom) (rest : List ℕ) → cells ≤ 32 → IsRightOf cells a.right → has_atom (atom_bytes a ++ rest) ≡ true
unfolding atom_bytes has_atom word_bytes
whole_atom cells a rest few h = by_right cells a.right rest few h
  where
    by_right : (cells : ℕ) (r : Right) (rest : List ℕ) → cells ≤ 32 → IsRightOf cells r → has_atom (0 ∷ 0 ∷ right_bytes r ++ rest) ≡ true
    by_right cells (Cell i) rest few h = rw (ne_eqb i A_WORD (λ e. omega arith)) refl
    by_right cells (Const w) rest few h = le-leb 4 (length (word_bytes w.0 ++ rest)) (omega (arith, length-append (word_bytes w.0) rest))

pub atom_again : (cells : ℕ) (a : Atom) (rest : List ℕ) → cells ≤ 32 → IsAtom cells a → atom_at cells (atom_bytes a ++ rest) ≡ Ok (a, rest)
unfolding atom_at atom_parts_at atom_bytes kind_at reg_at
atom_again cells a rest few h =
    rw (whole_atom cells a rest few h.1, byte_again (kind_number a.kind) (reg_number a.left ∷ right_bytes a.right ++ rest), kind_again a.kind, byte_again (reg_number a.left) (right_bytes a.right ++ rest), reg_again a.left, right_again cells a.right rest few h.0 h.1) refl

pub atom_reader : (cells : ℕ) → cells ≤ 32 → Reader (atom_at cells) atom_bytes (IsAtom cells)
atom_reader cells few = record { takes = atom_takes cells; again = λ a rest h. atom_again cells a rest few h }

atoms_parts : (cells : ℕ) (atoms : List Atom) → AllByRecursion (IsAtom cells) atoms → AllByRecursion HasWord atoms × AreAtomsOf cells atoms
atoms_parts cells [] h = (tt, tt)
atoms_parts cells (a ∷ atoms) h = let p = atoms_parts cells atoms h.1 in ((h.0.0, p.0), (h.0.1, p.1))

parts_atoms : (cells : ℕ) (atoms : List Atom) → AllByRecursion HasWord atoms → AreAtomsOf cells atoms → AllByRecursion (IsAtom cells) atoms
parts_atoms cells [] w h = tt
parts_atoms cells (a ∷ atoms) w h = ((w.0, h.0), parts_atoms cells atoms w.1 h.1)

-- ---- flags

abbrev pub IsFlagIn : ℕ → Flag → Type 0
IsFlagIn cells f = IsFlag f × IsFlagOf cells f

atoms_takes : (cells n : ℕ) (front bytes : List ℕ) (x : Flag × List ℕ) → cells ≤ 32 → n ≤ MOST_ATOMS → Takes front (n ∷ []) bytes → atoms_at cells n bytes ≡ Ok x → Takes front (flag_bytes x.0) x.1 × IsFlagIn cells x.0
unfolding atoms_at flag_bytes
atoms_takes cells n front bytes x small few before e =
    let a = bind_ok (many_at (atom_at cells) n bytes) (λ a. Ok (Or a.0, a.1)) x e in
    let t = many_takes (atom_at cells) atom_bytes (IsAtom cells) (atom_reader cells small).takes n bytes a.0 before.rest_fits a.1 in
    let whole = Takes-then front (n ∷ []) bytes (flat_map atom_bytes a.0.0) a.0.1 before t.0 in
    let p = atoms_parts cells a.0.0 t.2 in
    let made : Flag × List ℕ = (Or a.0.0, a.0.1) in
    subst (λ (y : Flag × List ℕ). Takes front (flag_bytes y.0) y.1 × IsFlagIn cells y.0) (ok_is made x a.2) (subst (λ (k : ℕ). Takes front (k ∷ flat_map atom_bytes a.0.0) a.0.1) (sym t.1) whole, ((subst (λ (k : ℕ). k ≤ MOST_ATOMS) (sym t.1) few, p.0), p.1))

pub flag_takes : (cells : ℕ) (bytes : List ℕ) (x : Flag × List ℕ) → cells ≤ 32 → IsBytes bytes → flag_at cells bytes ≡ Ok x → Takes bytes (flag_bytes x.0) x.1 × IsFlagIn cells x.0
unfolding flag_at flag_bytes
flag_takes cells bytes x small fits e =
    let n = bind_ok (number_at w8 bytes) (λ n. cond (eqb n.0 ANY) (Ok (Any, n.1)) (cond (eqb n.0 ONE) (Ok (One, n.1)) (cond (nat_le n.0 MOST_ATOMS) (atoms_at cells n.0 n.1) (Err _)))) x e in
    let t = byte_takes bytes n.0 fits n.1 in
    ⊎_elim
    (λ (p : (eqb n.0.0 ANY ≡ true) × (Ok (Any, n.0.1) ≡ Ok x)).
    subst (λ (y : Flag × List ℕ). Takes bytes (flag_bytes y.0) y.1 × IsFlagIn cells y.0) (ok_is (Any, n.0.1) x p.1) (subst (λ (k : ℕ). Takes bytes (k ∷ []) n.0.1) (eqb-true n.0.0 ANY p.0) t.0, (tt, tt)))
    (λ (p : (eqb n.0.0 ANY ≡ false) × (cond (eqb n.0.0 ONE) (Ok (One, n.0.1)) (cond (nat_le n.0.0 MOST_ATOMS) (atoms_at cells n.0.0 n.0.1) (Err _)) ≡ Ok x)).
    ⊎_elim
    (λ (q : (eqb n.0.0 ONE ≡ true) × (Ok (One, n.0.1) ≡ Ok x)).
    subst (λ (y : Flag × List ℕ). Takes bytes (flag_bytes y.0) y.1 × IsFlagIn cells y.0) (ok_is (One, n.0.1) x q.1) (subst (λ (k : ℕ). Takes bytes (k ∷ []) n.0.1) (eqb-true n.0.0 ONE q.0) t.0, (tt, tt)))
    (λ (q : (eqb n.0.0 ONE ≡ false) × (cond (nat_le n.0.0 MOST_ATOMS) (atoms_at cells n.0.0 n.0.1) (Err _) ≡ Ok x)).
    let g = passed (nat_le n.0.0 MOST_ATOMS) (atoms_at cells n.0.0 n.0.1) _ x q.1 in
    atoms_takes cells n.0.0 bytes n.0.1 x small (leb-true n.0.0 MOST_ATOMS g.0) t.0 g.1)
    (chosen (eqb n.0.0 ONE) (Ok (One, n.0.1)) _ (Ok x) p.1))
    (chosen (eqb n.0.0 ANY) (Ok (Any, n.0.1)) _ (Ok x) n.2)

pub flag_again : (cells : ℕ) (f : Flag) (rest : List ℕ) → cells ≤ 32 → IsFlagIn cells f → flag_at cells (flag_bytes f ++ rest) ≡ Ok (f, rest)
unfolding flag_at atoms_at flag_bytes
flag_again cells Any rest small h = rw (byte_again ANY rest) refl
flag_again cells One rest small h = rw (byte_again ONE rest) refl
flag_again cells (Or atoms) rest small h =
    let few = h.0.0 in
    let n = length atoms in
    let not_any : eqb n ANY ≡ false = ne_eqb n ANY (λ e. omega arith) in
    let not_one : eqb n ONE ≡ false = ne_eqb n ONE (λ e. omega arith) in
    rw (byte_again n (flat_map atom_bytes atoms ++ rest), not_any, not_one, le-leb n MOST_ATOMS few, many_again (atom_at cells) atom_bytes (IsAtom cells) (atom_reader cells small) atoms rest (parts_atoms cells atoms h.0.1 h.1)) refl
