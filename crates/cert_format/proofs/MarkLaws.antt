-- Marks tell which nodes may be bare.
use Rattle.std.proofs.Common.{◌≡◌, ℕ, zero, suc, ◌+◌, ◌<◌, ◌≤◌, true, false, ◌&&◌, List, [], ◌∷◌, length, get_or, take, drop, Option, Some, None, refl, sym, ap, subst, ◌∙◌, arith, eqb}
use Rattle.std.specs.Prelude.{min}
use Rattle.std.proofs.lemmas.Bool.{lt-ltb, le-ltb}
use Rattle.std.proofs.lemmas.Bool.Decides.{nat_tests}
use Rattle.std.proofs.lemmas.List.{drop_more, drop_all}
use Rattle.val_dom.specs.declared.val.Val.{Val}
use Rattle.cert_format.specs.declared.limits.TheConstants.{MOST_NODES}
use Rattle.cert_format.specs.Certificates.{NodeOf, CertificateOf, node_at, no_node}
use Rattle.cert_format.specs.Bare.{times, listed, is_rightly_bare, first_bare_from}
use Rattle.cert_format.specs.Marks.{weight, weights, AreRaised, AreMarks}

-- marks are raised one after the other
min_then : (a f g : ℕ) → min (min (a + f) 255 + g) 255 ≡ min (a + (f + g)) 255
min_then a f g = omega arith

-- ---- all nodes

abbrev pub whole_weight : CertificateOf Val → ℕ → ℕ
whole_weight c i = weight MOST_NODES i (times i c.starts) + weights 0 i c.nodes

-- what the nodes from that one on will add makes the whole
abbrev pub AreOnTheWay : CertificateOf Val → List ℕ → ℕ → Type 0
AreOnTheWay c marks k = (i : ℕ) → i < length c.nodes → min (get_or marks i 0 + weights k i (drop k c.nodes)) 255 ≡ min (whole_weight c i) 255

pub node_counts : (c : CertificateOf Val) (old new : List ℕ) (k : ℕ) → length old ≡ length c.nodes → k < length c.nodes → AreRaised old new (λ i. weight k i (times i (node_at c k).succ)) → AreOnTheWay c old k → AreOnTheWay c new (k + 1)
node_counts c old new k len lt r before i low =
    let w = weight k i (times i (node_at c k).succ) in
    let rest = weights (suc k) i (drop (k + 1) c.nodes) in
    let at : get_or new i 0 ≡ min (get_or old i 0 + w) 255 = r.marks i (subst (λ (n : ℕ). i < n) (sym len) low) in
    let split : weights k i (drop k c.nodes) ≡ w + rest = ap (λ (ns : List (NodeOf Val)). weights k i ns) (drop_more c.nodes k no_node lt) in
    let next : weights (k + 1) i (drop (k + 1) c.nodes) ≡ rest = ap (λ (n : ℕ). weights n i (drop (k + 1) c.nodes)) (omega arith) in
    ap (λ (m : ℕ). min (m + weights (k + 1) i (drop (k + 1) c.nodes)) 255) at ∙ ap (λ (n : ℕ). min (min (get_or old i 0 + w) 255 + n) 255) next ∙ min_then (get_or old i 0) w rest ∙ ap (λ (n : ℕ). min (get_or old i 0 + n) 255) (sym split) ∙ before i low

-- ---- what a mark tells

-- from that number on, each listing counts twice
all_twice : (k i : ℕ) (ns : List (NodeOf Val)) → i ≤ k → weights k i ns ≡ listed i ns + listed i ns
all_twice k i [] h = refl
all_twice k i (n ∷ ns) h =
    let here : weight k i (times i n.succ) ≡ times i n.succ + times i n.succ = rw (le-ltb k i h) refl in
    let later = all_twice (suc k) i ns (omega arith) in
    omega arith

front_once : (k m i : ℕ) (ns : List (NodeOf Val)) → i ≡ k + m → weights k i ns + listed i (take m ns) ≡ listed i ns + listed i ns
front_once k zero i ns h =
    let twice = all_twice k i ns (omega arith) in
    omega arith
front_once k (suc m) i [] h = refl
front_once k (suc m) i (n ∷ ns) h =
    let here : weight k i (times i n.succ) ≡ times i n.succ = rw (lt-ltb k i (omega arith)) refl in
    let later = front_once (suc k) m i ns (omega arith) in
    omega arith

front_fewer : (m i : ℕ) (ns : List (NodeOf Val)) → listed i (take m ns) ≤ listed i ns
front_fewer zero i ns = omega arith
front_fewer (suc m) i [] = omega arith
front_fewer (suc m) i (n ∷ ns) = let later = front_fewer m i ns in omega arith

tells : (x s w l t : ℕ) → min (x + 0) 255 ≡ min ((s + s) + w) 255 → w + t ≡ l + l → t ≤ l → eqb x 1 ≡ (eqb s 0 && (eqb l 1 && eqb t 1))
tells x s w l t e f h = grind (arith, nat_tests)

pub marks_tell : (c : CertificateOf Val) (marks : List ℕ) (k : ℕ) → length c.nodes ≤ k → length c.nodes ≤ MOST_NODES → length marks ≡ length c.nodes → AreOnTheWay c marks k → AreMarks marks c
marks_tell c marks k done few len way = record {
  len = len;
  ones = λ i lt.
      let s = times i c.starts in
      let over : weight MOST_NODES i s ≡ s + s = rw (le-ltb MOST_NODES i (omega arith)) refl in
      let none : weights k i (drop k c.nodes) ≡ 0 = ap (λ (ns : List (NodeOf Val)). weights k i ns) (drop_all k c.nodes done) in
      let sum : min (get_or marks i 0 + 0) 255 ≡ min ((s + s) + weights 0 i c.nodes) 255 = ap (λ (n : ℕ). min (get_or marks i 0 + n) 255) (sym none) ∙ way i lt ∙ ap (λ (n : ℕ). min (n + weights 0 i c.nodes) 255) over in
      tells (get_or marks i 0) s (weights 0 i c.nodes) (listed i c.nodes) (listed i (take i c.nodes)) sum (front_once 0 i i c.nodes (omega arith)) (front_fewer i i c.nodes);
}

-- ---- the search

pub goes_on : (c : CertificateOf Val) (k : ℕ) (total : Option ℕ) → k < length c.nodes → is_rightly_bare c k (node_at c k) ≡ true → first_bare_from c k (drop k c.nodes) ≡ total → first_bare_from c (k + 1) (drop (k + 1) c.nodes) ≡ total
unfolding first_bare_from
goes_on c k total lt right so_far =
    let step : first_bare_from c k (drop k c.nodes) ≡ first_bare_from c (suc k) (drop (k + 1) c.nodes) = ap (first_bare_from c k) (drop_more c.nodes k no_node lt) ∙ rw right refl in
    ap (λ (n : ℕ). first_bare_from c n (drop (k + 1) c.nodes)) (omega arith) ∙ sym step ∙ so_far

pub is_found : (c : CertificateOf Val) (k : ℕ) (total : Option ℕ) → k < length c.nodes → is_rightly_bare c k (node_at c k) ≡ false → first_bare_from c k (drop k c.nodes) ≡ total → Some k ≡ total
unfolding first_bare_from
is_found c k total lt wrong so_far =
    let step : first_bare_from c k (drop k c.nodes) ≡ Some k = ap (first_bare_from c k) (drop_more c.nodes k no_node lt) ∙ rw wrong refl in
    sym step ∙ so_far

pub is_none : (c : CertificateOf Val) (k : ℕ) (total : Option ℕ) → length c.nodes ≤ k → first_bare_from c k (drop k c.nodes) ≡ total → None ≡ total
unfolding first_bare_from
is_none c k total done so_far =
    let step : first_bare_from c k (drop k c.nodes) ≡ None = ap (first_bare_from c k) (drop_all k c.nodes done) in
    sym step ∙ so_far
