-- Refining an interval is sound, gives the least interval, and so is monotone.
use Rattle.std.specs.Prelude.{◌≡◌, ℤ, pos, negsuc, ◌+ℤ◌, ◌-ℤ◌, ◌≤ℤ◌, ◌<ℤ◌, ◌⊎◌, true, false, not, cond, int_le, int_lt, Option, Some, None, IsSomeAnd, IfSome}
use Rattle.std.specs.Ordering.{int_eq}
use Rattle.std.specs.Int.{w32, cast_unsigned, int_min, int_max}
use Rattle.std.proofs.Common.{refl, arith, ⊎_elim, inl, inr}
use Rattle.std.proofs.lemmas.Int.{ints, clamps}
use Rattle.std.proofs.lemmas.Bool.{false≢true, cond_both, cases_Bool, ltb-true, leb-true, lt-ltb, le-leb, not_from_false}
use Rattle.viper_word.specs.Words.{IsSigned, least_signed, greatest_signed}
use Rattle.viper_word.specs.Signed.{signed_compares}
use Rattle.viper_word.specs.declared.kind.Kind.{Kind}
use Rattle.viper_word.specs.declared.kind.Kind.TheVariants.{Lt, Ge, Eq, Ne, Le, Gt, Ult, Uge}
use Rattle.num_domain.specs.Domain.{Has, Below, BelowOption}
use Rattle.num_domain.specs.Laws.{Mono2}
use Rattle.viper_word.proofs.Options.{all_some}
use Rattle.viper_word.proofs.Integers.{le_true, le_false, true_le, less_true, true_less, less_false, eq_true, true_eq}
use Rattle.interval_dom.specs.Intervals.{cut, join, hull, without, negative_to, natural_to, negative_from, natural_from, refine, intervals}
use Rattle.interval_dom.specs.evidence.IntervalOrder.{has_ends, ends_has, below_ends, ends_below, has_in_w, cut_has, cut_all}
use Rattle.interval_dom.specs.declared.interval.Interval.{Interval}

-- ---- tests

pub lt_not_eq : (x y : ℤ) → (x <ℤ y) ⊎ (y <ℤ x) → int_eq x y ≡ false
lt_not_eq x y (inl h) = grind (arith, ints)
lt_not_eq x y (inr h) = grind (arith, ints)

not_eq : (x y : ℤ) → not (int_eq x y) ≡ true → (x <ℤ y) ⊎ (y <ℤ x)
not_eq x y h =
    ⊎_elim (λ (e : int_lt x y ≡ true). inl (less_true x y e))
    (λ (e : int_lt x y ≡ false). ⊎_elim (λ (f : int_lt y x ≡ true). inr (less_true y x f))
    (λ (f : int_lt y x ≡ false). let p = less_false x y e in let q = less_false y x f in let g = true_eq x y (omega (arith, ints)) in absurd (false≢true (rw g at h))) (cases_Bool (int_lt y x))) (cases_Bool (int_lt x y))

-- ---- soundness

hull_left : (o q : Option Interval) (x : ℤ) → IsSomeAnd o (λ r. Has intervals r x) → IsSomeAnd (hull o q) (λ r. Has intervals r x)
hull_left None q x h = absurd h
hull_left (Some a) None x h = h
hull_left (Some a) (Some b) x h = let p = has_ends a x h in ends_has (join a b) x (omega (arith, ints, clamps)) (omega (arith, ints, clamps))

hull_right : (o q : Option Interval) (x : ℤ) → IsSomeAnd q (λ r. Has intervals r x) → IsSomeAnd (hull o q) (λ r. Has intervals r x)
hull_right o None x h = absurd h
hull_right None (Some b) x h = h
hull_right (Some a) (Some b) x h = let p = has_ends b x h in ends_has (join a b) x (omega (arith, ints, clamps)) (omega (arith, ints, clamps))

without_has : (a : Interval) (n x : ℤ) → Has intervals a x → (x <ℤ n) ⊎ (n <ℤ x) → IsSomeAnd (without a n) (λ r. Has intervals r x)
unfolding without
without_has a n x h d =
    let p = has_ends a x h in
    let low : cond (int_eq a.lo n) (a.lo +ℤ pos 1) a.lo ≤ℤ x = cond_both (int_eq a.lo n) (a.lo +ℤ pos 1) a.lo (λ z. z ≤ℤ x)
    (λ e. let f = eq_true a.lo n e in ⊎_elim (λ (g : x <ℤ n). absurd (omega (arith, ints))) (λ (g : n <ℤ x). omega (arith, ints)) d) (λ e. p.low) in
    let high : x ≤ℤ cond (int_eq a.hi n) (a.hi -ℤ pos 1) a.hi = cond_both (int_eq a.hi n) (a.hi -ℤ pos 1) a.hi (λ z. x ≤ℤ z)
    (λ e. let f = eq_true a.hi n e in ⊎_elim (λ (g : x <ℤ n). omega (arith, ints)) (λ (g : n <ℤ x). absurd (omega (arith, ints))) d) (λ e. p.high) in
    cut_has (cond (int_eq a.lo n) (a.lo +ℤ pos 1) a.lo) (cond (int_eq a.hi n) (a.hi -ℤ pos 1) a.hi) x (has_in_w a x h) low high

abbrev Sound : Interval → Interval → Kind → ℤ → ℤ → Type 0
Sound a b k x y = Has intervals a x → Has intervals b y → signed_compares k x y ≡ true → IsSomeAnd (refine a k b) (λ r. Has intervals r x)

-- among unsigned numbers the negative ones stand above the others
ult_sound : (a b : Interval) (x y : ℤ) → Sound a b Ult x y
unfolding refine
ult_sound a b x y h k e =
    let p = has_ends a x h in
    let q = has_ends b y k in
    let wx = has_in_w a x h in
    let wy = has_in_w b y k in
    let u = ltb-true (cast_unsigned w32 x) (cast_unsigned w32 y) e in
    ⊎_elim
    (λ (n : int_lt x (pos 0) ≡ true). let l = less_true x (pos 0) n in
    let yn : y <ℤ pos 0 = omega (arith, ints) in
    let xy : x <ℤ y = omega (arith, ints) in
    let bn : b.lo <ℤ pos 0 = omega (arith, ints) in
    hull_left (cut a.lo (int_min a.hi (negative_to b))) (cut (int_max a.lo (pos 0)) (int_min a.hi (natural_to b))) x
    (cut_has a.lo (int_min a.hi (negative_to b)) x wx p.low (rw (true_less b.lo (pos 0) bn) (omega (arith, ints, clamps)))))
    (λ (n : int_lt x (pos 0) ≡ false). let l = less_false x (pos 0) n in
    let to : x ≤ℤ natural_to b = cond_both (int_lt b.lo (pos 0)) greatest_signed (b.hi -ℤ pos 1) (λ z. x ≤ℤ z) (λ t. wx.high) (λ t. let g = less_false b.lo (pos 0) t in omega (arith, ints)) in
    hull_right (cut a.lo (int_min a.hi (negative_to b))) (cut (int_max a.lo (pos 0)) (int_min a.hi (natural_to b))) x
    (cut_has (int_max a.lo (pos 0)) (int_min a.hi (natural_to b)) x wx (omega (arith, ints, clamps)) (omega (arith, ints, clamps))))
    (cases_Bool (int_lt x (pos 0)))

uge_sound : (a b : Interval) (x y : ℤ) → Sound a b Uge x y
unfolding refine
uge_sound a b x y h k e =
    let p = has_ends a x h in
    let q = has_ends b y k in
    let wx = has_in_w a x h in
    let wy = has_in_w b y k in
    let u = leb-true (cast_unsigned w32 y) (cast_unsigned w32 x) e in
    ⊎_elim
    (λ (n : int_lt x (pos 0) ≡ true). let l = less_true x (pos 0) n in
    let from : negative_from b ≤ℤ x = cond_both (int_le (pos 0) b.hi) least_signed b.lo (λ z. z ≤ℤ x) (λ t. wx.low) (λ t. let g = le_false (pos 0) b.hi t in omega (arith, ints)) in
    hull_left (cut (int_max a.lo (negative_from b)) (int_min a.hi (negsuc 0))) (cut (int_max a.lo (natural_from b)) a.hi) x
    (cut_has (int_max a.lo (negative_from b)) (int_min a.hi (negsuc 0)) x wx (omega (arith, ints, clamps)) (omega (arith, ints, clamps))))
    (λ (n : int_lt x (pos 0) ≡ false). let l = less_false x (pos 0) n in
    let yn : pos 0 ≤ℤ y = omega (arith, ints) in
    let yx : y ≤ℤ x = omega (arith, ints) in
    let bn : pos 0 ≤ℤ b.hi = omega (arith, ints) in
    hull_right (cut (int_max a.lo (negative_from b)) (int_min a.hi (negsuc 0))) (cut (int_max a.lo (natural_from b)) a.hi) x
    (cut_has (int_max a.lo (natural_from b)) a.hi x wx (rw (true_le (pos 0) b.hi bn) (omega (arith, ints, clamps))) p.high))
    (cases_Bool (int_lt x (pos 0)))

pub refine_sound : (a b : Interval) (k : Kind) (x y : ℤ) → Has intervals a x → Has intervals b y → signed_compares k x y ≡ true → IsSomeAnd (refine a k b) (λ r. Has intervals r x)
unfolding refine
refine_sound a b Lt x y h k e =
    let p = has_ends a x h in
    let q1 = (has_ends b y k).high in let l = less_true x y e in
    cut_has a.lo (int_min a.hi (b.hi -ℤ pos 1)) x (has_in_w a x h) p.low (omega (arith, ints, clamps))
refine_sound a b Ge x y h k e =
    let p = has_ends a x h in
    let q0 = (has_ends b y k).low in let l = le_true y x e in
    cut_has (int_max a.lo b.lo) a.hi x (has_in_w a x h) (omega (arith, ints, clamps)) p.high
refine_sound a b Eq x y h k e =
    let p = has_ends a x h in
    let q = has_ends b y k in let l = eq_true x y e in
    cut_has (int_max a.lo b.lo) (int_min a.hi b.hi) x (has_in_w a x h) (omega (arith, ints, clamps)) (omega (arith, ints, clamps))
refine_sound a b Ne x y h k e =
    let q = has_ends b y k in
    cond_both (int_le b.hi b.lo) (without a b.lo) (Some a) (λ o. IsSomeAnd o (λ r. Has intervals r x))
    (λ t. let l = le_true b.hi b.lo t in
    without_has a b.lo x h (⊎_elim (λ (d : x <ℤ y). inl (omega (arith, ints))) (λ (d : y <ℤ x). inr (omega (arith, ints))) (not_eq x y e)))
    (λ t. h)
refine_sound a b Le x y h k e =
    let p = has_ends a x h in
    let q = has_ends b y k in let l = le_true x y e in
    cut_has a.lo (int_min a.hi b.hi) x (has_in_w a x h) p.low (omega (arith, ints, clamps))
refine_sound a b Gt x y h k e =
    let p = has_ends a x h in
    let q = has_ends b y k in let l = less_true y x e in
    cut_has (int_max a.lo (b.lo +ℤ pos 1)) a.hi x (has_in_w a x h) (omega (arith, ints, clamps)) p.high
refine_sound a b Ult x y h k e = ult_sound a b x y h k e
refine_sound a b Uge x y h k e = uge_sound a b x y h k e

-- ---- the least interval

-- a member of a that stands in the kind to a member of b
pub record IsReached (a : Interval) (k : Kind) (b : Interval) (x : ℤ) : Type 0 where
  pub member : Has intervals a x
  pub other : ℤ
  pub among : Has intervals b other
  pub stands : signed_compares k x other ≡ true

-- both ends are reached, so no smaller interval has all
pub record AreReached (a : Interval) (k : Kind) (b r : Interval) : Type 0 where
  pub low : IsReached a k b r.lo
  pub high : IsReached a k b r.hi

reached : (a b : Interval) (k : Kind) (x y : ℤ) → a.lo ≤ℤ x → x ≤ℤ a.hi → b.lo ≤ℤ y → y ≤ℤ b.hi → signed_compares k x y ≡ true → IsReached a k b x
reached a b k x y p q r s e = record { member = ends_has a x p q; other = y; among = ends_has b y r s; stands = e }

hull_reached : (a b : Interval) (k : Kind) (o q : Option Interval) → IfSome o (AreReached a k b) → IfSome q (AreReached a k b) → IfSome (hull o q) (AreReached a k b)
hull_reached a b k None q h i = i
hull_reached a b k (Some x) None h i = h
hull_reached a b k (Some x) (Some y) h i = record {
  low = cond_both (int_lt y.lo x.lo) y.lo x.lo (IsReached a k b) (λ _. i.low) (λ _. h.low);
  high = cond_both (int_lt y.hi x.hi) x.hi y.hi (IsReached a k b) (λ _. h.high) (λ _. i.high);
}

-- a number other than n, in an interval that has two
apart : (b : Interval) (a : Interval) (x : ℤ) → b.lo <ℤ b.hi → a.lo ≤ℤ x → x ≤ℤ a.hi → IsReached a Ne b x
apart b a x l p q =
    ⊎_elim (λ (e : int_eq x b.lo ≡ true). let f = eq_true x b.lo e in reached a b Ne x b.hi p q (omega (arith, ints)) (omega (arith, ints)) (not_from_false (int_eq x b.hi) (lt_not_eq x b.hi (inl (omega (arith, ints))))))
    (λ (e : int_eq x b.lo ≡ false). reached a b Ne x b.lo p q (omega (arith, ints)) (omega (arith, ints)) (not_from_false (int_eq x b.lo) e)) (cases_Bool (int_eq x b.lo))

without_reached : (a b : Interval) → b.hi ≤ℤ b.lo → IfSome (without a b.lo) (AreReached a Ne b)
unfolding without
without_reached a b l =
    let lo = cond (int_eq a.lo b.lo) (a.lo +ℤ pos 1) a.lo in
    let hi = cond (int_eq a.hi b.lo) (a.hi -ℤ pos 1) a.hi in
    let low : (a.lo ≤ℤ cond (int_eq a.lo b.lo) (a.lo +ℤ pos 1) a.lo) × (int_eq (cond (int_eq a.lo b.lo) (a.lo +ℤ pos 1) a.lo) b.lo ≡ false) = cond_both (int_eq a.lo b.lo) (a.lo +ℤ pos 1) a.lo (λ z. (a.lo ≤ℤ z) × (int_eq z b.lo ≡ false))
    (λ e. let f = eq_true a.lo b.lo e in (omega (arith, ints), lt_not_eq (a.lo +ℤ pos 1) b.lo (inr (omega (arith, ints))))) (λ e. (omega (arith, ints), e)) in
    let high : (cond (int_eq a.hi b.lo) (a.hi -ℤ pos 1) a.hi ≤ℤ a.hi) × (int_eq (cond (int_eq a.hi b.lo) (a.hi -ℤ pos 1) a.hi) b.lo ≡ false) = cond_both (int_eq a.hi b.lo) (a.hi -ℤ pos 1) a.hi (λ z. (z ≤ℤ a.hi) × (int_eq z b.lo ≡ false))
    (λ e. let f = eq_true a.hi b.lo e in (omega (arith, ints), lt_not_eq (a.hi -ℤ pos 1) b.lo (inl (omega (arith, ints))))) (λ e. (omega (arith, ints), e)) in
    let e = a.ends in
    let bo = b.ends.ordered in
    let low0 = low.0 in
    let high0 = high.0 in
    cut_all lo hi (AreReached a Ne b)
    (λ r f g.
    let o = r.ends.ordered in
    let fl : r.lo ≡ cond (int_eq a.lo b.lo) (a.lo +ℤ pos 1) a.lo = omega (arith, ints, clamps) in
    let gh : r.hi ≡ cond (int_eq a.hi b.lo) (a.hi -ℤ pos 1) a.hi = omega (arith, ints, clamps) in
    record {
      low = reached a b Ne r.lo b.lo (omega (arith, ints)) (omega (arith, ints)) (omega (arith, ints)) bo (not_from_false (int_eq r.lo b.lo) (rw fl low.1));
      high = reached a b Ne r.hi b.lo (omega (arith, ints)) (omega (arith, ints)) (omega (arith, ints)) bo (not_from_false (int_eq r.hi b.lo) (rw gh high.1));
    })

-- the cut between two bounds that every number of it reaches
cut_reached : (a b : Interval) (k : Kind) (lo hi : ℤ) → a.lo ≤ℤ lo → hi ≤ℤ a.hi → ((x : ℤ) → IsSigned x → lo ≤ℤ x → x ≤ℤ hi → (y : ℤ) × (b.lo ≤ℤ y) × (y ≤ℤ b.hi) × (signed_compares k x y ≡ true)) → IfSome (cut lo hi) (AreReached a k b)
cut_reached a b k lo hi p q f =
    let e = a.ends in
    cut_all lo hi (AreReached a k b)
    (λ r g h.
    let o = r.ends.ordered in
    let re = r.ends in
    let at = λ (x : ℤ) (l : r.lo ≤ℤ x) (m : x ≤ℤ r.hi).
    let t = f x (record { low = omega (arith, ints); high = omega (arith, ints) }) (omega (arith, ints, clamps)) (omega (arith, ints, clamps)) in
    reached a b k x t.0 (omega (arith, ints, clamps)) (omega (arith, ints, clamps)) t.1 t.2 t.3 in
    record { low = at r.lo (omega (arith, ints)) o; high = at r.hi o (omega (arith, ints)) })

ult_stands : (x y : ℤ) → IsSigned x → IsSigned y → ((y <ℤ pos 0) × ((pos 0 ≤ℤ x) ⊎ (x <ℤ y))) ⊎ ((pos 0 ≤ℤ x) × (x <ℤ y)) → signed_compares Ult x y ≡ true
ult_stands x y w v (inl (n, inl h)) = let a = w.low in let b = w.high in let c = v.low in let d = v.high in lt-ltb (cast_unsigned w32 x) (cast_unsigned w32 y) (omega (arith, ints))
ult_stands x y w v (inl (n, inr h)) = let a = w.low in let b = w.high in let c = v.low in let d = v.high in lt-ltb (cast_unsigned w32 x) (cast_unsigned w32 y) (omega (arith, ints))
ult_stands x y w v (inr (n, h)) = let a = w.low in let b = w.high in let c = v.low in let d = v.high in lt-ltb (cast_unsigned w32 x) (cast_unsigned w32 y) (omega (arith, ints))

uge_stands : (x y : ℤ) → IsSigned x → IsSigned y → ((x <ℤ pos 0) × ((pos 0 ≤ℤ y) ⊎ (y ≤ℤ x))) ⊎ ((pos 0 ≤ℤ y) × (y ≤ℤ x)) → signed_compares Uge x y ≡ true
uge_stands x y w v (inl (n, inl h)) = let a = w.low in let b = w.high in let c = v.low in let d = v.high in le-leb (cast_unsigned w32 y) (cast_unsigned w32 x) (omega (arith, ints))
uge_stands x y w v (inl (n, inr h)) = let a = w.low in let b = w.high in let c = v.low in let d = v.high in le-leb (cast_unsigned w32 y) (cast_unsigned w32 x) (omega (arith, ints))
uge_stands x y w v (inr (n, h)) = let a = w.low in let b = w.high in let c = v.low in let d = v.high in le-leb (cast_unsigned w32 y) (cast_unsigned w32 x) (omega (arith, ints))

pub member_signed : (b : Interval) (y : ℤ) → b.lo ≤ℤ y → y ≤ℤ b.hi → IsSigned y
member_signed b y p q = let e = b.ends in record { low = omega (arith, ints); high = omega (arith, ints) }

ult_reached : (a b : Interval) → IfSome (refine a Ult b) (AreReached a Ult b)
unfolding refine
ult_reached a b =
    let e = a.ends in
    let f = b.ends in
    hull_reached a b Ult (cut a.lo (int_min a.hi (negative_to b))) (cut (int_max a.lo (pos 0)) (int_min a.hi (natural_to b)))
    (cut_reached a b Ult a.lo (int_min a.hi (negative_to b)) (omega (arith, ints)) (omega (arith, ints, clamps))
    (λ x w p q. ⊎_elim
    (λ (t : int_lt b.lo (pos 0) ≡ true). let l = less_true b.lo (pos 0) t in
    let q2 : x ≤ℤ int_min a.hi (int_min b.hi (negsuc 0) -ℤ pos 1) = rw t at q in
    let u : b.lo ≤ℤ int_min b.hi (negsuc 0) = omega (arith, ints, clamps) in
    let v : int_min b.hi (negsuc 0) ≤ℤ b.hi = omega (arith, ints, clamps) in
    (int_min b.hi (negsuc 0), u, v, ult_stands x (int_min b.hi (negsuc 0)) w (member_signed b (int_min b.hi (negsuc 0)) u v) (inl (omega (arith, ints, clamps), inr (omega (arith, ints, clamps))))))
    (λ (t : int_lt b.lo (pos 0) ≡ false). let wl = w.low in let q2 : x ≤ℤ int_min a.hi (least_signed -ℤ pos 1) = rw t at q in absurd (omega (arith, ints, clamps))) (cases_Bool (int_lt b.lo (pos 0)))))
    (cut_reached a b Ult (int_max a.lo (pos 0)) (int_min a.hi (natural_to b)) (omega (arith, ints, clamps)) (omega (arith, ints, clamps))
    (λ x w p q. let p2 : pos 0 ≤ℤ x = omega (arith, ints, clamps) in ⊎_elim
    (λ (t : int_lt b.lo (pos 0) ≡ true). let l = less_true b.lo (pos 0) t in
    let u : b.lo ≤ℤ b.lo = omega (arith, ints) in
    (b.lo, u, f.ordered, ult_stands x b.lo w (member_signed b b.lo u f.ordered) (inl (l, inl p2))))
    (λ (t : int_lt b.lo (pos 0) ≡ false). let l = less_false b.lo (pos 0) t in
    let q2 : x ≤ℤ int_min a.hi (b.hi -ℤ pos 1) = rw t at q in
    let u : b.hi ≤ℤ b.hi = omega (arith, ints) in
    (b.hi, f.ordered, u, ult_stands x b.hi w (member_signed b b.hi f.ordered u) (inr (p2, omega (arith, ints, clamps))))) (cases_Bool (int_lt b.lo (pos 0)))))

uge_reached : (a b : Interval) → IfSome (refine a Uge b) (AreReached a Uge b)
unfolding refine
uge_reached a b =
    let e = a.ends in
    let f = b.ends in
    hull_reached a b Uge (cut (int_max a.lo (negative_from b)) (int_min a.hi (negsuc 0))) (cut (int_max a.lo (natural_from b)) a.hi)
    (cut_reached a b Uge (int_max a.lo (negative_from b)) (int_min a.hi (negsuc 0)) (omega (arith, ints, clamps)) (omega (arith, ints, clamps))
    (λ x w p q. let q2 : x <ℤ pos 0 = omega (arith, ints, clamps) in ⊎_elim
    (λ (t : int_le (pos 0) b.hi ≡ true). let l = le_true (pos 0) b.hi t in
    let u : b.hi ≤ℤ b.hi = omega (arith, ints) in
    (b.hi, f.ordered, u, uge_stands x b.hi w (member_signed b b.hi f.ordered u) (inl (q2, inl l))))
    (λ (t : int_le (pos 0) b.hi ≡ false).
    let p2 : int_max a.lo b.lo ≤ℤ x = rw t at p in
    let u : b.lo ≤ℤ b.lo = omega (arith, ints) in
    (b.lo, u, f.ordered, uge_stands x b.lo w (member_signed b b.lo u f.ordered) (inl (q2, inr (omega (arith, ints, clamps)))))) (cases_Bool (int_le (pos 0) b.hi))))
    (cut_reached a b Uge (int_max a.lo (natural_from b)) a.hi (omega (arith, ints, clamps)) (omega (arith, ints))
    (λ x w p q. ⊎_elim
    (λ (t : int_le (pos 0) b.hi ≡ true). let l = le_true (pos 0) b.hi t in
    let p2 : int_max a.lo (int_max b.lo (pos 0)) ≤ℤ x = rw t at p in
    let u : b.lo ≤ℤ int_max b.lo (pos 0) = omega (arith, ints, clamps) in
    let v : int_max b.lo (pos 0) ≤ℤ b.hi = omega (arith, ints, clamps) in
    (int_max b.lo (pos 0), u, v, uge_stands x (int_max b.lo (pos 0)) w (member_signed b (int_max b.lo (pos 0)) u v) (inr (omega (arith, ints, clamps), omega (arith, ints, clamps)))))
    (λ (t : int_le (pos 0) b.hi ≡ false). let wh = w.high in let p2 : int_max a.lo (greatest_signed +ℤ pos 1) ≤ℤ x = rw t at p in absurd (omega (arith, ints, clamps))) (cases_Bool (int_le (pos 0) b.hi))))

pub refine_reached : (a b : Interval) (k : Kind) → IfSome (refine a k b) (AreReached a k b)
unfolding refine
refine_reached a b Lt =
    let o = b.ends.ordered in
    let u : b.hi ≤ℤ b.hi = omega (arith, ints) in
    cut_reached a b Lt a.lo (int_min a.hi (b.hi -ℤ pos 1)) (omega (arith, ints)) (omega (arith, ints, clamps)) (λ x w p q. (b.hi, o, u, true_less x b.hi (omega (arith, ints, clamps))))
refine_reached a b Ge =
    let o = b.ends.ordered in
    let u : b.lo ≤ℤ b.lo = omega (arith, ints) in
    cut_reached a b Ge (int_max a.lo b.lo) a.hi (omega (arith, ints, clamps)) (omega (arith, ints)) (λ x w p q. (b.lo, u, o, true_le b.lo x (omega (arith, ints, clamps))))
refine_reached a b Eq =
    cut_reached a b Eq (int_max a.lo b.lo) (int_min a.hi b.hi) (omega (arith, ints, clamps)) (omega (arith, ints, clamps)) (λ x w p q. (x, omega (arith, ints, clamps), omega (arith, ints, clamps), true_eq x x refl))
refine_reached a b Ne =
    let o = a.ends.ordered in
    cond_both (int_le b.hi b.lo) (without a b.lo) (Some a) (λ q. IfSome q (AreReached a Ne b))
    (λ t. without_reached a b (le_true b.hi b.lo t))
    (λ t. let l = le_false b.hi b.lo t in record { low = apart b a a.lo l (omega (arith, ints)) o; high = apart b a a.hi l o (omega (arith, ints)) })
refine_reached a b Le =
    let o = b.ends.ordered in
    let u : b.hi ≤ℤ b.hi = omega (arith, ints) in
    cut_reached a b Le a.lo (int_min a.hi b.hi) (omega (arith, ints)) (omega (arith, ints, clamps)) (λ x w p q. (b.hi, o, u, true_le x b.hi (omega (arith, ints, clamps))))
refine_reached a b Gt =
    let o = b.ends.ordered in
    let u : b.lo ≤ℤ b.lo = omega (arith, ints) in
    cut_reached a b Gt (int_max a.lo (b.lo +ℤ pos 1)) a.hi (omega (arith, ints, clamps)) (omega (arith, ints)) (λ x w p q. (b.lo, u, o, true_less b.lo x (omega (arith, ints, clamps))))
refine_reached a b Ult = ult_reached a b
refine_reached a b Uge = uge_reached a b

-- ---- what follows

has_both : (a r : Interval) (o : Option Interval) → IsSomeAnd o (λ s. Has intervals s r.lo) → IsSomeAnd o (λ s. Has intervals s r.hi) → IsSomeAnd o (λ s. Below intervals r s)
has_both a r None h k = absurd h
has_both a r (Some s) h k = ends_below r s (has_ends s r.lo h).low (has_ends s r.hi k).high

pub refine_mono : (k : Kind) → Mono2 intervals (λ a b. refine a k b)
refine_mono k a a' b b' h i =
    all_some (AreReached a k b) (λ r. IsSomeAnd (refine a' k b') (λ s. Below intervals r s)) (refine a k b) (refine_reached a b k)
    (λ r t. has_both a r (refine a' k b') (carried r.lo t.low) (carried r.hi t.high))
  where
    grown : (a a' : Interval) (x : ℤ) → Below intervals a a' → Has intervals a x → Has intervals a' x
    grown a a' x h m = let p = below_ends a a' h in let q = has_ends a x m in ends_has a' x (omega (arith, ints)) (omega (arith, ints))

    carried : (x : ℤ) → IsReached a k b x → IsSomeAnd (refine a' k b') (λ s. Has intervals s x)
    carried x t = refine_sound a' b' k x t.other (grown a a' x h t.member) (grown b b' t.other i t.among) t.stands

pub refine_below : (a b : Interval) (k : Kind) → BelowOption intervals (refine a k b) (Some a)
refine_below a b k = all_some (AreReached a k b) (λ r. Below intervals r a) (refine a k b) (refine_reached a b k) (λ r t. ends_below r a (has_ends a r.lo t.low.member).low (has_ends a r.hi t.high.member).high)
