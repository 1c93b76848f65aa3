-- Links and flags: the tests say what they should, inclusion is an order, the join is the least
-- upper bound.
use Rattle.std.specs.Prelude.{◌≡◌, ℕ, ℤ, Bool, true, false, ◌&&◌, cond, nat_eq, List, [], ◌∷◌, Option, Some, None}
use Rattle.std.specs.Ordering.{int_eq}
use Rattle.std.proofs.Common.{refl, arith, subst, sym, ◌∙◌, ap}
use Rattle.std.proofs.Math.Path.{ap₂}
use Rattle.std.proofs.lemmas.Int.{ints}
use Rattle.std.proofs.lemmas.Bool.{and_parts, and_from, false≢true, eqb-true}
use Rattle.std.proofs.lemmas.Bool.Decides.{nat_tests}
use Rattle.viper_word.specs.declared.kind.Kind.{Kind}
use Rattle.viper_word.specs.declared.kind.Kind.TheVariants.{Lt, Ge, Eq, Ne, Le, Gt, Ult, Uge}
use Rattle.viper_word.specs.declared.reg.Reg.{Reg}
use Rattle.viper_word.specs.declared.reg.Reg.TheVariants.{A, X, Y}
use Rattle.flag_relation.specs.declared.link.Link.{Link}
use Rattle.flag_relation.specs.declared.atom.Atom.{Atom}
use Rattle.flag_relation.specs.declared.atom.Right.{Right}
use Rattle.flag_relation.specs.declared.atom.Right.TheVariants.{Cell, Const}
use Rattle.flag_relation.specs.declared.flag.Flag.{Flag}
use Rattle.flag_relation.specs.declared.flag.Flag.TheVariants.{Any, One, Or}
use Rattle.flag_relation.specs.Values.{Values, Regs, at_reg, set_reg}
use Rattle.flag_relation.specs.Facts.{LinkHolds, LinksHold, FlagSays}
use Rattle.flag_relation.specs.Order.{LinkBelow, LinksBelow, FlagBelow, link_includes, links_include, flag_includes}
use Rattle.flag_relation.specs.Equality.{kind_number, reg_number, right_eq, atom_eq, atoms_eq, link_eq}
use Rattle.flag_relation.specs.Joins.{join_link, join_links, join_flags}
use Rattle.viper_word.proofs.Integers.{eq_true}

-- ---- equality, as a test

eq_same : (n : ℕ) → nat_eq n n ≡ true
eq_same n = grind (arith, nat_tests)

z_same : (n : ℤ) → int_eq n n ≡ true
z_same n = grind (arith, ints)

kind_of : ℕ → Kind
kind_of n = cond (nat_eq n 0) Lt (cond (nat_eq n 1) Ge (cond (nat_eq n 2) Eq (cond (nat_eq n 3) Ne (cond (nat_eq n 4) Le (cond (nat_eq n 5) Gt (cond (nat_eq n 6) Ult Uge))))))

kind_back : (k : Kind) → kind_of (kind_number k) ≡ k
unfolding kind_of
kind_back Lt = refl
kind_back Ge = refl
kind_back Eq = refl
kind_back Ne = refl
kind_back Le = refl
kind_back Gt = refl
kind_back Ult = refl
kind_back Uge = refl

reg_of : ℕ → Reg
reg_of n = cond (nat_eq n 0) A (cond (nat_eq n 1) X Y)

reg_back : (r : Reg) → reg_of (reg_number r) ≡ r
unfolding reg_of
reg_back A = refl
reg_back X = refl
reg_back Y = refl

right_from : (v w : Right) → right_eq v w ≡ true → v ≡ w
right_from (Cell i) (Cell j) h = ap Cell (eqb-true i j h)
right_from (Cell i) (Const w) h = absurd (false≢true h)
right_from (Const w) (Cell j) h = absurd (false≢true h)
right_from (Const w) (Const v) h = ap (λ (n : ℕ). Const (record { 0 = n })) (eqb-true w.0 v.0 h)

right_same : (r : Right) → right_eq r r ≡ true
right_same (Cell i) = eq_same i
right_same (Const w) = eq_same w.0

pub atom_from : (a b : Atom) → atom_eq a b ≡ true → a ≡ b
atom_from a b h =
    let p = and_parts (nat_eq (kind_number a.kind) (kind_number b.kind) && nat_eq (reg_number a.left) (reg_number b.left)) (right_eq a.right b.right) h in
    let q = and_parts (nat_eq (kind_number a.kind) (kind_number b.kind)) (nat_eq (reg_number a.left) (reg_number b.left)) p.0 in
    let k = sym (kind_back a.kind) ∙ ap kind_of (eqb-true (kind_number a.kind) (kind_number b.kind) q.0) ∙ kind_back b.kind in
    let l = sym (reg_back a.left) ∙ ap reg_of (eqb-true (reg_number a.left) (reg_number b.left) q.1) ∙ reg_back b.left in
    let r = right_from a.right b.right p.1 in
    λ i. record { kind = k i; left = l i; right = r i }

atom_same : (a : Atom) → atom_eq a a ≡ true
atom_same a = and_from _ _ (and_from _ _ (eq_same (kind_number a.kind)) (eq_same (reg_number a.left))) (right_same a.right)

pub atoms_from : (l m : List Atom) → atoms_eq l m ≡ true → l ≡ m
unfolding atoms_eq
atoms_from [] [] h = refl
atoms_from [] (b ∷ m) h = absurd (false≢true h)
atoms_from (a ∷ l) [] h = absurd (false≢true h)
atoms_from (a ∷ l) (b ∷ m) h = let p = and_parts (atom_eq a b) (atoms_eq l m) h in ap₂ (λ (x : Atom) (xs : List Atom). x ∷ xs) (atom_from a b p.0) (atoms_from l m p.1)

pub atoms_same : (l : List Atom) → atoms_eq l l ≡ true
unfolding atoms_eq
atoms_same [] = refl
atoms_same (a ∷ l) = and_from (atom_eq a a) (atoms_eq l l) (atom_same a) (atoms_same l)

pub link_from : (l m : Link) → link_eq l m ≡ true → l ≡ m
link_from l m h =
    let p = and_parts (nat_eq l.cell m.cell) (int_eq l.offset m.offset) h in
    let c = eqb-true l.cell m.cell p.0 in
    let o = eq_true l.offset m.offset p.1 in
    λ i. record { cell = c i; offset = o i }

pub link_same : (l : Link) → link_eq l l ≡ true
link_same l = and_from _ _ (eq_same l.cell) (z_same l.offset)

-- ---- the tests of inclusion

pub link_below_from : (l k : Option Link) → link_includes k l ≡ true → LinkBelow l k
link_below_from l None h = tt
link_below_from None (Some k) h = absurd (false≢true h)
link_below_from (Some l) (Some k) h = ap Some (sym (link_from k l h))

pub link_below_to : (l k : Option Link) → LinkBelow l k → link_includes k l ≡ true
link_below_to l None h = refl
link_below_to l (Some k) h = subst (λ (o : Option Link). link_includes (Some k) o ≡ true) (sym h) (link_same k)

pub links_below_from : (l k : Regs (Option Link)) → links_include k l ≡ true → LinksBelow l k
links_below_from l k h =
    let p = and_parts (link_includes k.a l.a && link_includes k.x l.x) (link_includes k.y l.y) h in
    let q = and_parts (link_includes k.a l.a) (link_includes k.x l.x) p.0 in
    record { a = link_below_from l.a k.a q.0; x = link_below_from l.x k.x q.1; y = link_below_from l.y k.y p.1 }

pub links_below_to : (l k : Regs (Option Link)) → LinksBelow l k → links_include k l ≡ true
links_below_to l k h = and_from _ _ (and_from _ _ (link_below_to l.a k.a h.a) (link_below_to l.x k.x h.x)) (link_below_to l.y k.y h.y)

pub flag_below_from : (f g : Flag) → flag_includes g f ≡ true → FlagBelow f g
flag_below_from f Any h = tt
flag_below_from Any One h = absurd (false≢true h)
flag_below_from One One h = refl
flag_below_from (Or l) One h = absurd (false≢true h)
flag_below_from Any (Or m) h = absurd (false≢true h)
flag_below_from One (Or m) h = absurd (false≢true h)
flag_below_from (Or l) (Or m) h = ap Or (sym (atoms_from m l h))

pub flag_below_to : (f g : Flag) → FlagBelow f g → flag_includes g f ≡ true
flag_below_to f Any h = refl
flag_below_to f One h = subst (λ (w : Flag). flag_includes One w ≡ true) (sym h) refl
flag_below_to f (Or m) h = subst (λ (w : Flag). flag_includes (Or m) w ≡ true) (sym h) (atoms_same m)

-- ---- the order

pub link_below_refl : (l : Option Link) → LinkBelow l l
link_below_refl None = tt
link_below_refl (Some l) = refl

pub links_below_refl : (l : Regs (Option Link)) → LinksBelow l l
links_below_refl l = record { a = link_below_refl l.a; x = link_below_refl l.x; y = link_below_refl l.y }

pub flag_below_refl : (f : Flag) → FlagBelow f f
flag_below_refl Any = tt
flag_below_refl One = refl
flag_below_refl (Or l) = refl

pub link_below_trans : (l m k : Option Link) → LinkBelow l m → LinkBelow m k → LinkBelow l k
link_below_trans l m None h g = tt
link_below_trans l m (Some k) h g = subst (λ (w : Option Link). LinkBelow l w) g h

pub links_below_trans : (l m k : Regs (Option Link)) → LinksBelow l m → LinksBelow m k → LinksBelow l k
links_below_trans l m k h g = record { a = link_below_trans l.a m.a k.a h.a g.a; x = link_below_trans l.x m.x k.x h.x g.x; y = link_below_trans l.y m.y k.y h.y g.y }

pub flag_below_trans : (f g h : Flag) → FlagBelow f g → FlagBelow g h → FlagBelow f h
flag_below_trans f g Any p q = tt
flag_below_trans f g One p q = subst (λ (w : Flag). FlagBelow f w) q p
flag_below_trans f g (Or l) p q = subst (λ (w : Flag). FlagBelow f w) q p

pub link_antisym : (l m : Option Link) → LinkBelow l m → LinkBelow m l → l ≡ m
link_antisym l (Some m) h g = h
link_antisym None None h g = refl
link_antisym (Some l) None h g = sym g

pub flag_antisym : (f g : Flag) → FlagBelow f g → FlagBelow g f → f ≡ g
flag_antisym f One h k = h
flag_antisym f (Or l) h k = h
flag_antisym Any Any h k = refl
flag_antisym One Any h k = sym k
flag_antisym (Or l) Any h k = sym k

link_says : (l k : Option Link) (r : Reg) (e : Values ℤ) → LinkBelow l k → LinkHolds e r l → LinkHolds e r k
link_says l None r e h m = tt
link_says l (Some k) r e h m = subst (λ (w : Option Link). LinkHolds e r w) h m

pub links_say : (l k : Regs (Option Link)) (e : Values ℤ) → LinksBelow l k → LinksHold l e → LinksHold k e
links_say l k e h m = record { a = link_says l.a k.a A e h.a m.a; x = link_says l.x k.x X e h.x m.x; y = link_says l.y k.y Y e h.y m.y }

pub flag_says : (f g : Flag) (e : Values ℤ) (b : Bool) → FlagBelow f g → FlagSays f e b → FlagSays g e b
flag_says f Any e b h k = tt
flag_says f One e b h k = subst (λ (w : Flag). FlagSays w e b) h k
flag_says f (Or l) e b h k = subst (λ (w : Flag). FlagSays w e b) h k

-- a register that is set to what it has
pub set_same : {T : Type 0} (v : Regs T) (r : Reg) → set_reg v r (at_reg v r) ≡ v
set_same v A = refl
set_same v X = refl
set_same v Y = refl

-- ---- the join

link_left_when : (l : Option Link) (b : Bool) → LinkBelow l (cond b l None)
link_left_when l true = link_below_refl l
link_left_when l false = tt

link_right_when : (l m : Option Link) (b : Bool) → (b ≡ true → LinkBelow m l) → LinkBelow m (cond b l None)
link_right_when l m true h = h refl
link_right_when l m false h = tt

link_least_when : (l m k : Option Link) → LinkBelow l k → LinkBelow m k → LinkBelow (join_link l m) k
link_least_when l m None p q = tt
link_least_when l m (Some k) p q = ap₂ join_link p q ∙ ap (λ (b : Bool). cond b (Some k) None) (link_same k)

pub links_left : (l m : Regs (Option Link)) → LinksBelow l (join_links l m)
links_left l m = record { a = link_left_when l.a (link_includes l.a m.a); x = link_left_when l.x (link_includes l.x m.x); y = link_left_when l.y (link_includes l.y m.y) }

link_right : (l m : Option Link) → LinkBelow m (join_link l m)
link_right l m = link_right_when l m (link_includes l m) (link_below_from m l)

pub links_right : (l m : Regs (Option Link)) → LinksBelow m (join_links l m)
links_right l m = record { a = link_right l.a m.a; x = link_right l.x m.x; y = link_right l.y m.y }

pub links_least : (l m k : Regs (Option Link)) → LinksBelow l k → LinksBelow m k → LinksBelow (join_links l m) k
links_least l m k p q = record { a = link_least_when l.a m.a k.a p.a q.a; x = link_least_when l.x m.x k.x p.x q.x; y = link_least_when l.y m.y k.y p.y q.y }

flag_left_when : (f : Flag) (b : Bool) → FlagBelow f (cond b f Any)
flag_left_when f true = flag_below_refl f
flag_left_when f false = tt

flag_right_when : (f g : Flag) (b : Bool) → (b ≡ true → FlagBelow g f) → FlagBelow g (cond b f Any)
flag_right_when f g true h = h refl
flag_right_when f g false h = tt

pub flags_left : (f g : Flag) → FlagBelow f (join_flags f g)
flags_left f g = flag_left_when f (flag_includes f g)

pub flags_right : (f g : Flag) → FlagBelow g (join_flags f g)
flags_right f g = flag_right_when f g (flag_includes f g) (flag_below_from g f)

pub flags_least : (f g h : Flag) → FlagBelow f h → FlagBelow g h → FlagBelow (join_flags f g) h
flags_least f g Any p q = tt
flags_least f g One p q = ap₂ join_flags p q
flags_least f g (Or l) p q = ap₂ join_flags p q ∙ ap (λ (b : Bool). cond b (Or l) Any) (atoms_same l)
