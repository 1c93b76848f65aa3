-- The ends of a value lie around its members, its members are points, and both grow with it.
use Rattle.std.specs.Prelude.{◌≡◌, ℤ, ◌≤ℤ◌, ◌<ℤ◌, int_le, Bool, true, false, Option, Some, None, IfSome, IsSomeAnd}
use Rattle.std.specs.Ordering.{int_eq}
use Rattle.std.proofs.Common.{refl, arith, sym, ◌∙◌}
use Rattle.std.proofs.lemmas.Int.{ints}
use Rattle.std.proofs.lemmas.Bool.{and_parts, and_from, false≢true, false_from_ne_true}
use Rattle.viper_word.specs.Words.{IsSigned, least_signed, greatest_signed}
use Rattle.num_domain.specs.Domain.{Domain, Has, Below}
use Rattle.num_domain.specs.Laws.{DomainLaws}
use Rattle.num_domain.specs.Ends.{Ends, Within, Between, ends_when, same_as, is_between, ends, is_point}
use Rattle.viper_word.proofs.Options.{some_bind, all_bind, bind_mono}
use Rattle.viper_word.proofs.Integers.{le_true, true_le}

ends_when_some : (lo hi : ℤ) (b : Bool) (e : int_le lo hi ≡ b) (P : Ends → Type 0) → lo ≤ℤ hi → ((p : lo ≤ℤ hi) → P (record { lo = lo; hi = hi; order = p })) → IsSomeAnd (ends_when lo hi b e) P
unfolding ends_when
ends_when_some lo hi true e P h k = k (le_true lo hi e)
ends_when_some lo hi false e P h k = absurd (false≢true (sym e ∙ true_le lo hi h))

ends_when_all : (lo hi : ℤ) (b : Bool) (e : int_le lo hi ≡ b) (P : Ends → Type 0) → ((p : lo ≤ℤ hi) → P (record { lo = lo; hi = hi; order = p })) → IfSome (ends_when lo hi b e) P
unfolding ends_when
ends_when_all lo hi true e P k = k (le_true lo hi e)
ends_when_all lo hi false e P k = tt

int_eq_from : (x y : ℤ) → x ≤ℤ y → y ≤ℤ x → int_eq x y ≡ true
int_eq_from x y h k = grind (arith, ints)

int_eq_le : (x y : ℤ) → int_eq x y ≡ true → x ≤ℤ y
int_eq_le x y h = grind (arith, ints)

same_is : (n : ℤ) (o : Option ℤ) → same_as n o ≡ true → IsSomeAnd o (λ k. k ≡ n)
same_is n None h = absurd (false≢true h)
same_is n (Some k) h = grind (arith, ints)

module _ {T : Type 0} (d : Domain T) (laws : DomainLaws d) where
  pub ends_has : (v : T) (n : ℤ) → Has d v n → IsSomeAnd (ends d v) (λ r. Between r n)
  unfolding ends
  ends_has v n h =
      let w = laws.order.in_w v n h in
      some_bind (λ lo. lo ≤ℤ n) (λ r. Between r n) (d.least_from v least_signed) _ (laws.spans.least_first v least_signed n h w.low)
      (λ lo p. some_bind (λ hi. n ≤ℤ hi) (λ r. Between r n) (d.greatest_to v greatest_signed) _ (laws.spans.greatest_first v greatest_signed n h w.high)
      (λ hi q. ends_when_some lo hi (int_le lo hi) refl (λ r. Between r n) (omega (arith, ints)) (λ o. record { lo = p; hi = q })))

  low_le : least_signed ≤ℤ least_signed
  low_le = omega (arith, ints)

  high_le : greatest_signed ≤ℤ greatest_signed
  high_le = omega (arith, ints)

  pub ends_grow : (v v' : T) → Below d v v' → IfSome (ends d v) (λ r. IsSomeAnd (ends d v') (λ r'. Within r r'))
  unfolding ends
  ends_grow v v' h =
      bind_mono (λ lo lo'. lo' ≤ℤ lo) Within (d.least_from v least_signed) (d.least_from v' least_signed) _ _ (laws.spans.least_mono v v' least_signed least_signed h low_le)
      (λ lo lo' p. bind_mono (λ hi hi'. hi ≤ℤ hi') Within (d.greatest_to v greatest_signed) (d.greatest_to v' greatest_signed) _ _ (laws.spans.greatest_mono v v' greatest_signed greatest_signed h high_le)
      (λ hi hi' q. ends_when_all lo hi (int_le lo hi) refl (λ r. IsSomeAnd (ends_when lo' hi' (int_le lo' hi') refl) (λ r'. Within r r'))
      (λ o. ends_when_some lo' hi' (int_le lo' hi') refl (λ r'. Within (record { lo = lo; hi = hi; order = o }) r') (omega (arith, ints)) (λ o'. record { lo = p; hi = q }))))

  pub ends_in_w : (v : T) → IfSome (ends d v) (λ r. IsSigned r.lo × IsSigned r.hi)
  unfolding ends
  ends_in_w v =
      all_bind IsSigned (λ r. IsSigned r.lo × IsSigned r.hi) (d.least_from v least_signed) _ (laws.spans.least_in_w v least_signed)
      (λ lo p. all_bind IsSigned (λ r. IsSigned r.lo × IsSigned r.hi) (d.greatest_to v greatest_signed) _ (laws.spans.greatest_in_w v greatest_signed)
      (λ hi q. ends_when_all lo hi (int_le lo hi) refl (λ r. IsSigned r.lo × IsSigned r.hi) (λ o. (p, q))))

  between_from : (n : ℤ) (o : Option Ends) → IsSomeAnd o (λ r. Between r n) → is_between n o ≡ true
  between_from n None h = absurd h
  between_from n (Some r) h = and_from _ _ (true_le r.lo n h.lo) (true_le n r.hi h.hi)

  between_some : (n : ℤ) (o : Option Ends) → is_between n o ≡ true → IsSomeAnd o (λ r. Between r n)
  between_some n None h = absurd (false≢true h)
  between_some n (Some r) h = let p = and_parts (int_le r.lo n) (int_le n r.hi) h in record { lo = le_true r.lo n p.0; hi = le_true n r.hi p.1 }

  between_grows : (n : ℤ) (o o' : Option Ends) → IfSome o (λ r. IsSomeAnd o' (λ r'. Within r r')) → IsSomeAnd o (λ r. Between r n) → IsSomeAnd o' (λ r. Between r n)
  between_grows n None o' h k = absurd k
  between_grows n (Some r) None h k = absurd h
  between_grows n (Some r) (Some r') h k = record { lo = omega (arith, ints); hi = omega (arith, ints) }

  same_from : (n : ℤ) (o : Option ℤ) → IsSomeAnd o (λ k. k ≤ℤ n) → IfSome o (λ k. n ≤ℤ k) → same_as n o ≡ true
  same_from n None h k = absurd h
  same_from n (Some m) h k = int_eq_from m n h k

  same_le : (n : ℤ) (o : Option ℤ) → same_as n o ≡ true → IsSomeAnd o (λ k. k ≤ℤ n)
  same_le n None h = absurd (false≢true h)
  same_le n (Some m) h = int_eq_le m n h

  some_meet : (n : ℤ) (o o' : Option ℤ) → IfSome o (λ k. IsSomeAnd o' (λ k'. k' ≤ℤ k)) → IsSomeAnd o (λ k. k ≤ℤ n) → IsSomeAnd o' (λ k. k ≤ℤ n)
  some_meet n None o' h k = absurd k
  some_meet n (Some m) None h k = absurd h
  some_meet n (Some m) (Some m') h k = omega (arith, ints)

  -- members are points
  pub point_has : (v : T) (n : ℤ) → Has d v n → is_point d v n ≡ true
  unfolding is_point
  point_has v n h =
      and_from _ _ (between_from n (ends d v) (ends_has v n h)) (same_from n (d.least_from v n) (laws.spans.least_first v n n h (omega (arith, ints))) (laws.spans.least_above v n))

  pub point_between : (v : T) (n : ℤ) → is_point d v n ≡ true → IsSomeAnd (ends d v) (λ r. Between r n)
  unfolding is_point
  point_between v n h = between_some n (ends d v) (and_parts (is_between n (ends d v)) (same_as n (d.least_from v n)) h).0

  -- points grow with the value
  pub points_grow : (v v' : T) (n : ℤ) → Below d v v' → is_point d v n ≡ true → is_point d v' n ≡ true
  unfolding is_point
  points_grow v v' n h k =
      let p = and_parts (is_between n (ends d v)) (same_as n (d.least_from v n)) k in
      and_from _ _ (between_from n (ends d v') (between_grows n (ends d v) (ends d v') (ends_grow v v' h) (between_some n (ends d v) p.0)))
      (same_from n (d.least_from v' n) (some_meet n (d.least_from v n) (d.least_from v' n) (laws.spans.least_mono v v' n n h (omega (arith, ints))) (same_le n (d.least_from v n) p.1)) (laws.spans.least_above v' n))

  -- no number before the least from k on is a point
  before : (v : T) (k j : ℤ) (o q : Option ℤ) → k ≤ℤ j → d.least_from v k ≡ o → d.least_from v j ≡ q → IfSome o (λ m. j <ℤ m) → same_as j q ≡ false
  before v k j o None h e f g = refl
  before v k j None (Some m) h e f g =
      let a = laws.spans.least_mono v v j k (laws.order.refl v) h in
      let b : IfSome (Some m) (λ i. IsSomeAnd None (λ i'. i' ≤ℤ i)) = rw (e, f) at a in absurd b
  before v k j (Some i) (Some m) h e f g =
      let a = laws.spans.least_mono v v j k (laws.order.refl v) h in
      let b : i ≤ℤ m = rw (e, f) at a in
      false_from_ne_true (int_eq m j) (λ t. let c = same_is j (Some m) t in omega (arith, ints))

  pub none_before : (v : T) (k j m : ℤ) → k ≤ℤ j → j <ℤ m → d.least_from v k ≡ Some m → same_as j (d.least_from v j) ≡ false
  none_before v k j m h g e = before v k j (Some m) (d.least_from v j) h e refl g

  pub none_after : (v : T) (k j : ℤ) → k ≤ℤ j → d.least_from v k ≡ None → same_as j (d.least_from v j) ≡ false
  none_after v k j h e = before v k j None (d.least_from v j) h e refl tt
