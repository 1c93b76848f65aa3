-- The laws of pairs, from those of the factors.
use Rattle.std.specs.Prelude.{◌≡◌, ◌<◌, ◌≤◌, ℤ, ◌+ℤ◌, ◌-ℤ◌, neg_ℤ, ◌≤ℤ◌, int_le, Bool, true, false, ◌||◌, Option, Some, None, IsSomeAnd, IfSome}
use Rattle.std.proofs.Common.{arith, ap, refl, ⊎_elim}
use Rattle.std.proofs.Math.Path.{ap₂}
use Rattle.std.proofs.lemmas.Int.{ints}
use Rattle.std.proofs.lemmas.Bool.{and_parts, and_from, and_cases, cases_Bool}
use Rattle.viper_word.specs.Words.{IsSigned, least_signed, greatest_signed}
use Rattle.viper_word.specs.Signed.{wrapped, signed_xor, signed_and, signed_nor, signed_and_not, halved, shifted_right, shifted_left}
use Rattle.num_domain.specs.Domain.{Domain, Has, Below, BelowOption}
use Rattle.viper_word.specs.Ranges.{OnStep}
use Rattle.num_domain.specs.Laws.{DomainLaws, OrderLaws, SoundLaws, MonoLaws, SpanLaws, Sound1, Sound2, Mono1, Mono2}
use Rattle.viper_word.specs.Options.{bind}
use Rattle.num_domain.specs.Pairs.{pair, both, pair_least, pair_greatest, seal, lift1, lift2, joined, pairs}
use Rattle.num_domain.specs.declared.pair.Pair.{Pair}
use Rattle.viper_word.proofs.Options.{some_bind, all_bind, bind_mono, all_some, some_when, all_when, some_or_else}
use Rattle.viper_word.proofs.Integers.{le_true, true_le}
use Rattle.viper_word.proofs.Booleans.{or_mono}

-- of the left factor and of the right one
pub record Both (A B : Type 0) : Type 0 where
  pub left : A
  pub right : B

module _ {L R : Type 0} (l : Domain L) (r : Domain R) where
  -- ---- the order and the members, by the factors

  pub both_has : (p : Pair L R) (n : ℤ) → Has l p.left n → Has r p.right n → Has (pairs l r) p n
  both_has p n h k = record { holds = and_from _ _ h.holds k.holds }

  pub has_both : (p : Pair L R) (n : ℤ) → Has (pairs l r) p n → Both (Has l p.left n) (Has r p.right n)
  has_both p n h = let e = and_parts _ _ h.holds in record { left = record { holds = e.0 }; right = record { holds = e.1 } }

  pub both_le : (p q : Pair L R) → Below l p.left q.left → Below r p.right q.right → Below (pairs l r) p q
  both_le p q h k = record { holds = and_from _ _ h.holds k.holds }

  pub le_both : (p q : Pair L R) → Below (pairs l r) p q → Both (Below l p.left q.left) (Below r p.right q.right)
  le_both p q h = let e = and_parts _ _ h.holds in record { left = record { holds = e.0 }; right = record { holds = e.1 } }

  -- ---- a pair of options

  pub both_mono : (o o' : Option L) (q q' : Option R) → BelowOption l o o' → BelowOption r q q' → BelowOption (pairs l r) (both l r o q) (both l r o' q')
  both_mono o o' q q' h k =
      bind_mono (Below l) (Below (pairs l r)) o o' _ _ h
      (λ x x' e. bind_mono (Below r) (Below (pairs l r)) q q' _ _ k (λ y y' f. both_le (pair x y) (pair x' y') e f))

  pub both_some : (o : Option L) (q : Option R) (n : ℤ) → IsSomeAnd o (λ x. Has l x n) → IsSomeAnd q (λ y. Has r y n) → IsSomeAnd (both l r o q) (λ p. Has (pairs l r) p n)
  both_some o q n h k =
      some_bind (λ x. Has l x n) (λ p. Has (pairs l r) p n) o _ h
      (λ x e. some_bind (λ y. Has r y n) (λ p. Has (pairs l r) p n) q _ k (λ y f. both_has (pair x y) n e f))

  pub both_below : (o : Option L) (q : Option R) (p : Pair L R) → BelowOption l o (Some p.left) → BelowOption r q (Some p.right) → BelowOption (pairs l r) (both l r o q) (Some p)
  both_below o q p h k =
      all_bind (λ x. Below l x p.left) (λ s. Below (pairs l r) s p) o _ h
      (λ x e. all_bind (λ y. Below r y p.right) (λ s. Below (pairs l r) s p) q _ k (λ y f. both_le (pair x y) p e f))

  -- ---- the laws, from those of the factors

  module _ (a : DomainLaws l) (b : DomainLaws r) where
    pub pair_least_above : (p : Pair L R) (n : ℤ) → IfSome (pair_least l r p n) (λ k. n ≤ℤ k)
    pair_least_above p n =
        all_bind (λ i. n ≤ℤ i) (λ k. n ≤ℤ k) (l.least_from p.left n) _ (a.spans.least_above p.left n)
        (λ i e. all_bind (λ j. i ≤ℤ j) (λ k. n ≤ℤ k) (r.least_from p.right i) _ (b.spans.least_above p.right i)
        (λ j f. all_some (λ k. j ≤ℤ k) (λ k. n ≤ℤ k) (l.least_from p.left j) (a.spans.least_above p.left j) (λ k g. omega (arith, ints))))

    pub pair_least_first : (p : Pair L R) (n m : ℤ) → Has (pairs l r) p m → n ≤ℤ m → IsSomeAnd (pair_least l r p n) (λ k. k ≤ℤ m)
    pair_least_first p n m h e =
        let hs = has_both p m h in
        some_bind (λ i. i ≤ℤ m) (λ k. k ≤ℤ m) (l.least_from p.left n) _ (a.spans.least_first p.left n m hs.left e)
        (λ i f. some_bind (λ j. j ≤ℤ m) (λ k. k ≤ℤ m) (r.least_from p.right i) _ (b.spans.least_first p.right i m hs.right f)
        (λ j g. a.spans.least_first p.left j m hs.left g))

    pub pair_least_mono : (p p' : Pair L R) (n n' : ℤ) → Below (pairs l r) p p' → n' ≤ℤ n → IfSome (pair_least l r p n) (λ k. IsSomeAnd (pair_least l r p' n') (λ k'. k' ≤ℤ k))
    pair_least_mono p p' n n' h e =
        let hs = le_both p p' h in
        bind_mono (λ i i'. i' ≤ℤ i) (λ k k'. k' ≤ℤ k) (l.least_from p.left n) (l.least_from p'.left n') _ _ (a.spans.least_mono p.left p'.left n n' hs.left e)
        (λ i i' f. bind_mono (λ j j'. j' ≤ℤ j) (λ k k'. k' ≤ℤ k) (r.least_from p.right i) (r.least_from p'.right i') _ _ (b.spans.least_mono p.right p'.right i i' hs.right f)
        (λ j j' g. a.spans.least_mono p.left p'.left j j' hs.left g))

    pub pair_greatest_below : (p : Pair L R) (n : ℤ) → IfSome (pair_greatest l r p n) (λ k. k ≤ℤ n)
    pair_greatest_below p n =
        all_bind (λ i. i ≤ℤ n) (λ k. k ≤ℤ n) (l.greatest_to p.left n) _ (a.spans.greatest_below p.left n)
        (λ i e. all_bind (λ j. j ≤ℤ i) (λ k. k ≤ℤ n) (r.greatest_to p.right i) _ (b.spans.greatest_below p.right i)
        (λ j f. all_some (λ k. k ≤ℤ j) (λ k. k ≤ℤ n) (l.greatest_to p.left j) (a.spans.greatest_below p.left j) (λ k g. omega (arith, ints))))

    pub pair_greatest_first : (p : Pair L R) (n m : ℤ) → Has (pairs l r) p m → m ≤ℤ n → IsSomeAnd (pair_greatest l r p n) (λ k. m ≤ℤ k)
    pair_greatest_first p n m h e =
        let hs = has_both p m h in
        some_bind (λ i. m ≤ℤ i) (λ k. m ≤ℤ k) (l.greatest_to p.left n) _ (a.spans.greatest_first p.left n m hs.left e)
        (λ i f. some_bind (λ j. m ≤ℤ j) (λ k. m ≤ℤ k) (r.greatest_to p.right i) _ (b.spans.greatest_first p.right i m hs.right f)
        (λ j g. a.spans.greatest_first p.left j m hs.left g))

    pub pair_greatest_mono : (p p' : Pair L R) (n n' : ℤ) → Below (pairs l r) p p' → n ≤ℤ n' → IfSome (pair_greatest l r p n) (λ k. IsSomeAnd (pair_greatest l r p' n') (λ k'. k ≤ℤ k'))
    pair_greatest_mono p p' n n' h e =
        let hs = le_both p p' h in
        bind_mono (λ i i'. i ≤ℤ i') (λ k k'. k ≤ℤ k') (l.greatest_to p.left n) (l.greatest_to p'.left n') _ _ (a.spans.greatest_mono p.left p'.left n n' hs.left e)
        (λ i i' f. bind_mono (λ j j'. j ≤ℤ j') (λ k k'. k ≤ℤ k') (r.greatest_to p.right i) (r.greatest_to p'.right i') _ _ (b.spans.greatest_mono p.right p'.right i i' hs.right f)
        (λ j j' g. a.spans.greatest_mono p.left p'.left j j' hs.left g))

    pub seal_mono : (p p' : Pair L R) → Below (pairs l r) p p' → BelowOption (pairs l r) (seal l r p) (seal l r p')
    unfolding seal
    seal_mono p p' h =
        let hs = le_both p p' h in
        bind_mono (λ i i'. i' ≤ℤ i) (Below (pairs l r)) (pair_least l r p least_signed) (pair_least l r p' least_signed) _ _ (pair_least_mono p p' least_signed least_signed h (omega (arith, ints)))
        (λ i i' f. bind_mono (λ j j'. j ≤ℤ j') (Below (pairs l r)) (pair_greatest l r p greatest_signed) (pair_greatest l r p' greatest_signed) _ _ (pair_greatest_mono p p' greatest_signed greatest_signed h (omega (arith, ints)))
        (λ j j' g. all_when (int_le i j) (both l r (l.narrow p.left i j) (r.narrow p.right i j)) _
        (λ t. let o = le_true i j t in
        all_some _ _ (both l r (l.narrow p.left i j) (r.narrow p.right i j))
        (both_mono (l.narrow p.left i j) (l.narrow p'.left i' j') (r.narrow p.right i j) (r.narrow p'.right i' j') (a.spans.narrow_mono p.left p'.left i i' j j' hs.left f g) (b.spans.narrow_mono p.right p'.right i i' j j' hs.right f g))
        (λ s e. some_when (int_le i' j') (both l r (l.narrow p'.left i' j') (r.narrow p'.right i' j')) (λ s'. Below (pairs l r) s s') (true_le i' j' (omega (arith, ints))) e))))

    pub seal_has : (p : Pair L R) (n : ℤ) → Has (pairs l r) p n → IsSomeAnd (seal l r p) (λ s. Has (pairs l r) s n)
    unfolding seal
    seal_has p n h =
        let hs = has_both p n h in
        let w = a.order.in_w p.left n hs.left in
        some_bind (λ i. i ≤ℤ n) (λ s. Has (pairs l r) s n) (pair_least l r p least_signed) _ (pair_least_first p least_signed n h w.low)
        (λ i f. some_bind (λ j. n ≤ℤ j) (λ s. Has (pairs l r) s n) (pair_greatest l r p greatest_signed) _ (pair_greatest_first p greatest_signed n h w.high)
        (λ j g. some_when (int_le i j) (both l r (l.narrow p.left i j) (r.narrow p.right i j)) (λ s. Has (pairs l r) s n) (true_le i j (omega (arith, ints)))
        (both_some (l.narrow p.left i j) (r.narrow p.right i j) n (a.spans.narrow_sound p.left i j n hs.left f g) (b.spans.narrow_sound p.right i j n hs.right f g))))

    pub seal_below : (p : Pair L R) → BelowOption (pairs l r) (seal l r p) (Some p)
    unfolding seal
    seal_below p =
        all_bind (λ i. Unit {0}) (λ s. Below (pairs l r) s p) (pair_least l r p least_signed) _ (all_some (λ k. least_signed ≤ℤ k) (λ _. Unit {0}) (pair_least l r p least_signed) (pair_least_above p least_signed) (λ _ _. tt))
        (λ i f. all_bind (λ j. Unit {0}) (λ s. Below (pairs l r) s p) (pair_greatest l r p greatest_signed) _ (all_some (λ k. k ≤ℤ greatest_signed) (λ _. Unit {0}) (pair_greatest l r p greatest_signed) (pair_greatest_below p greatest_signed) (λ _ _. tt))
        (λ j g. all_when (int_le i j) (both l r (l.narrow p.left i j) (r.narrow p.right i j)) (λ s. Below (pairs l r) s p)
        (λ t. both_below (l.narrow p.left i j) (r.narrow p.right i j) p (a.spans.narrow_below p.left i j) (b.spans.narrow_below p.right i j))))

    -- what is sealed after both l r factors worked
    pub sealed_mono : (o o' : Option (Pair L R)) → BelowOption (pairs l r) o o' → BelowOption (pairs l r) (bind o (seal l r)) (bind o' (seal l r))
    sealed_mono o o' h = bind_mono (Below (pairs l r)) (Below (pairs l r)) o o' (seal l r) (seal l r) h (λ p p' e. seal_mono p p' e)

    pub sealed_has : (o : Option (Pair L R)) (n : ℤ) → IsSomeAnd o (λ p. Has (pairs l r) p n) → IsSomeAnd (bind o (seal l r)) (λ p. Has (pairs l r) p n)
    sealed_has o n h = some_bind (λ p. Has (pairs l r) p n) (λ p. Has (pairs l r) p n) o (seal l r) h (λ p e. seal_has p n e)

    pub sealed_below : (o : Option (Pair L R)) (p : Pair L R) → BelowOption (pairs l r) o (Some p) → BelowOption (pairs l r) (bind o (seal l r)) (Some p)
    sealed_below o p h =
        all_bind (λ s. Below (pairs l r) s p) (λ s. Below (pairs l r) s p) o (seal l r) h
        (λ s e. all_some (λ t. Below (pairs l r) t s) (λ t. Below (pairs l r) t p) (seal l r s) (seal_below s) (λ t f.
        let hs = le_both s p e in let ks = le_both t s f in
        both_le t p (a.order.trans t.left s.left p.left ks.left hs.left) (b.order.trans t.right s.right p.right ks.right hs.right)))

    -- a factor that doesn't grow strictly keeps its height
    pub height_le : {A : Type 0} (d : Domain A) (laws : DomainLaws d) (x y : A) → Below d x y → d.height y ≤ d.height x
    height_le d laws x y h =
        ⊎_elim (λ (e : d.includes x y ≡ true). let same = ap d.height (laws.order.antisym x y h (record { holds = e })) in omega arith)
        (λ (e : d.includes x y ≡ false). let less = laws.order.height_falls x y h e in omega arith) (cases_Bool (d.includes x y))

    pub pair_height : (p q : Pair L R) → Below (pairs l r) p q → (pairs l r).includes p q ≡ false → (pairs l r).height q < (pairs l r).height p
    pair_height p q h e =
        let hs = le_both p q h in
        let low = height_le l a p.left q.left hs.left in
        let high = height_le r b p.right q.right hs.right in
        ⊎_elim (λ (f : l.includes p.left q.left ≡ false). let less = a.order.height_falls p.left q.left hs.left f in omega arith)
        (λ (f : r.includes p.right q.right ≡ false). let less = b.order.height_falls p.right q.right hs.right f in omega arith) (and_cases _ _ e)

    pub lift1_sound : (f : L → Option L) (g : R → Option R) (op : ℤ → ℤ) → Sound1 l f op → Sound1 r g op → Sound1 (pairs l r) (lift1 l r f g) op
    lift1_sound f g op s t p x h w =
        let hs = has_both p x h in
        sealed_has (both l r (f p.left) (g p.right)) (op x) (both_some (f p.left) (g p.right) (op x) (s p.left x hs.left w) (t p.right x hs.right w))

    pub lift2_sound : (f : L → L → Option L) (g : R → R → Option R) (op : ℤ → ℤ → ℤ) → Sound2 l f op → Sound2 r g op → Sound2 (pairs l r) (lift2 l r f g) op
    lift2_sound f g op s t p q x y h k w =
        let hs = has_both p x h in
        let ks = has_both q y k in
        sealed_has (both l r (f p.left q.left) (g p.right q.right)) (op x y) (both_some (f p.left q.left) (g p.right q.right) (op x y) (s p.left q.left x y hs.left ks.left w) (t p.right q.right x y hs.right ks.right w))

    pub lift1_mono : (f : L → Option L) (g : R → Option R) → Mono1 l f → Mono1 r g → Mono1 (pairs l r) (lift1 l r f g)
    lift1_mono f g s t p p' h =
        let hs = le_both p p' h in
        sealed_mono (both l r (f p.left) (g p.right)) (both l r (f p'.left) (g p'.right)) (both_mono (f p.left) (f p'.left) (g p.right) (g p'.right) (s p.left p'.left hs.left) (t p.right p'.right hs.right))

    pub lift2_mono : (f : L → L → Option L) (g : R → R → Option R) → Mono2 l f → Mono2 r g → Mono2 (pairs l r) (lift2 l r f g)
    lift2_mono f g s t p p' q q' h k =
        let hs = le_both p p' h in
        let ks = le_both q q' k in
        sealed_mono (both l r (f p.left q.left) (g p.right q.right)) (both l r (f p'.left q'.left) (g p'.right q'.right)) (both_mono (f p.left q.left) (f p'.left q'.left) (g p.right q.right) (g p'.right q'.right) (s p.left p'.left q.left q'.left hs.left ks.left) (t p.right p'.right q.right q'.right hs.right ks.right))

    pub sound_laws : SoundLaws (pairs l r)
    sound_laws = record {
      add = lift2_sound l.add r.add ◌+ℤ◌ a.sound.add b.sound.add;
      sub = lift2_sound l.sub r.sub ◌-ℤ◌ a.sound.sub b.sound.sub;
      add_wrap = lift2_sound l.add_wrap r.add_wrap (λ x y. wrapped (x +ℤ y)) a.sound.add_wrap b.sound.add_wrap;
      sub_wrap = lift2_sound l.sub_wrap r.sub_wrap (λ x y. wrapped (x -ℤ y)) a.sound.sub_wrap b.sound.sub_wrap;
      xor = lift2_sound l.xor r.xor signed_xor a.sound.xor b.sound.xor;
      bit_and = lift2_sound l.bit_and r.bit_and signed_and a.sound.bit_and b.sound.bit_and;
      nor = lift2_sound l.nor r.nor signed_nor a.sound.nor b.sound.nor;
      and_not = lift2_sound l.and_not r.and_not signed_and_not a.sound.and_not b.sound.and_not;
      neg = lift1_sound l.neg r.neg (λ x. wrapped (neg_ℤ x)) a.sound.neg b.sound.neg;
      sar = lift1_sound l.sar r.sar halved a.sound.sar b.sound.sar;
      shl = lift1_sound l.shl r.shl (λ x. x +ℤ x) a.sound.shl b.sound.shl;
      moved = λ k. lift1_sound (λ x. l.moved x k) (λ y. r.moved y k) (λ x. x +ℤ k) (a.sound.moved k) (b.sound.moved k);
      right_through = λ p c e x h m. lift1_sound (λ s. l.right_through s c) (λ t. r.right_through t c) (λ z. shifted_right e z) (λ s z i w. a.sound.right_through s c e z i m w) (λ t z i w. b.sound.right_through t c e z i m w) p x h;
      left_through = λ p c e x h m. lift1_sound (λ s. l.left_through s c) (λ t. r.left_through t c) (λ z. shifted_left e z) (λ s z i w. a.sound.left_through s c e z i m w) (λ t z i w. b.sound.left_through t c e z i m w) p x h;
      refine = λ p q k x y h i e. let hs = has_both p x h in let is = has_both q y i in
          sealed_has (both l r (l.refine p.left k q.left) (r.refine p.right k q.right)) x (both_some (l.refine p.left k q.left) (r.refine p.right k q.right) x (a.sound.refine p.left q.left k x y hs.left is.left e) (b.sound.refine p.right q.right k x y hs.right is.right e));
    }

    pub mono_laws : MonoLaws (pairs l r)
    mono_laws = record {
      add = lift2_mono l.add r.add a.mono.add b.mono.add;
      sub = lift2_mono l.sub r.sub a.mono.sub b.mono.sub;
      add_wrap = lift2_mono l.add_wrap r.add_wrap a.mono.add_wrap b.mono.add_wrap;
      sub_wrap = lift2_mono l.sub_wrap r.sub_wrap a.mono.sub_wrap b.mono.sub_wrap;
      xor = lift2_mono l.xor r.xor a.mono.xor b.mono.xor;
      bit_and = lift2_mono l.bit_and r.bit_and a.mono.bit_and b.mono.bit_and;
      nor = lift2_mono l.nor r.nor a.mono.nor b.mono.nor;
      and_not = lift2_mono l.and_not r.and_not a.mono.and_not b.mono.and_not;
      neg = lift1_mono l.neg r.neg a.mono.neg b.mono.neg;
      sar = lift1_mono l.sar r.sar a.mono.sar b.mono.sar;
      shl = lift1_mono l.shl r.shl a.mono.shl b.mono.shl;
      moved = λ k. lift1_mono (λ x. l.moved x k) (λ y. r.moved y k) (a.mono.moved k) (b.mono.moved k);
      right_through = λ p p' c c' h e. let hs = le_both p p' h in
          sealed_mono (both l r (l.right_through p.left c) (r.right_through p.right c)) (both l r (l.right_through p'.left c') (r.right_through p'.right c')) (both_mono (l.right_through p.left c) (l.right_through p'.left c') (r.right_through p.right c) (r.right_through p'.right c') (a.mono.right_through p.left p'.left c c' hs.left e) (b.mono.right_through p.right p'.right c c' hs.right e));
      left_through = λ p p' c c' h e. let hs = le_both p p' h in
          sealed_mono (both l r (l.left_through p.left c) (r.left_through p.right c)) (both l r (l.left_through p'.left c') (r.left_through p'.right c')) (both_mono (l.left_through p.left c) (l.left_through p'.left c') (r.left_through p.right c) (r.left_through p'.right c') (a.mono.left_through p.left p'.left c c' hs.left e) (b.mono.left_through p.right p'.right c c' hs.right e));
      refine = λ k. lift2_mono (λ x y. l.refine x k y) (λ x y. r.refine x k y) (a.mono.refine k) (b.mono.refine k);
      refine_below = λ p q k. sealed_below (both l r (l.refine p.left k q.left) (r.refine p.right k q.right)) p (both_below (l.refine p.left k q.left) (r.refine p.right k q.right) p (a.mono.refine_below p.left q.left k) (b.mono.refine_below p.right q.right k));
    }

    pub round_above : (p : Pair L R) (o : Option (Pair L R)) → Below (pairs l r) p (joined l r p o)
    round_above p None = both_le p p (a.order.refl p.left) (b.order.refl p.right)
    round_above p (Some s) = both_le p (pair (l.join p.left s.left) (r.join p.right s.right)) (a.order.join_left p.left s.left) (b.order.join_left p.right s.right)

    pub joined_mono : (p p' : Pair L R) (o o' : Option (Pair L R)) → Below (pairs l r) p p' → BelowOption (pairs l r) o o' → Below (pairs l r) (joined l r p o) (joined l r p' o')
    joined_mono p p' None o' h k =
        let hs = le_both p p' h in let ks = le_both p' (joined l r p' o') (round_above p' o') in
        both_le p (joined l r p' o') (a.order.trans p.left p'.left (joined l r p' o').left hs.left ks.left) (b.order.trans p.right p'.right (joined l r p' o').right hs.right ks.right)
    joined_mono p p' (Some s) None h k = absurd k
    joined_mono p p' (Some s) (Some s') h k =
        let hs = le_both p p' h in let ks = le_both s s' k in
        both_le (pair (l.join p.left s.left) (r.join p.right s.right)) (pair (l.join p'.left s'.left) (r.join p'.right s'.right))
        (a.order.join_least p.left s.left (l.join p'.left s'.left) (a.order.trans p.left p'.left (l.join p'.left s'.left) hs.left (a.order.join_left p'.left s'.left)) (a.order.trans s.left s'.left (l.join p'.left s'.left) ks.left (a.order.join_right p'.left s'.left)))
        (b.order.join_least p.right s.right (r.join p'.right s'.right) (b.order.trans p.right p'.right (r.join p'.right s'.right) hs.right (b.order.join_left p'.right s'.right)) (b.order.trans s.right s'.right (r.join p'.right s'.right) ks.right (b.order.join_right p'.right s'.right)))

    pub order_laws : OrderLaws (pairs l r)
    order_laws = record {
      in_w = λ p n h. a.order.in_w p.left n (has_both p n h).left;
      refl = λ p. both_le p p (a.order.refl p.left) (b.order.refl p.right);
      trans = λ p q s h k. let hs = le_both p q h in let ks = le_both q s k in both_le p s (a.order.trans p.left q.left s.left hs.left ks.left) (b.order.trans p.right q.right s.right hs.right ks.right);
      antisym = λ p q h k. let hs = le_both p q h in let ks = le_both q p k in ap₂ pair (a.order.antisym p.left q.left hs.left ks.left) (b.order.antisym p.right q.right hs.right ks.right);
      has = λ p q n h k. let hs = le_both p q h in let ks = has_both p n k in both_has q n (a.order.has p.left q.left n hs.left ks.left) (b.order.has p.right q.right n hs.right ks.right);
      height_falls = pair_height;
      constant_has = λ n h. let p = pair (l.constant n) (r.constant n) in
          some_or_else (λ s. Has (pairs l r) s n) (seal l r p) (pair l.top r.top) (seal_has p n (both_has p n (a.order.constant_has n h) (b.order.constant_has n h)));
      top_greatest = λ p. both_le p (pair l.top r.top) (a.order.top_greatest p.left) (b.order.top_greatest p.right);
      top_has = λ n h. both_has (pair l.top r.top) n (a.order.top_has n h) (b.order.top_has n h);
      join_left = λ p q. both_le p ((pairs l r).join p q) (a.order.join_left p.left q.left) (b.order.join_left p.right q.right);
      join_right = λ p q. both_le q ((pairs l r).join p q) (a.order.join_right p.left q.left) (b.order.join_right p.right q.right);
      join_least = λ p q s h k. let hs = le_both p s h in let ks = le_both q s k in both_le ((pairs l r).join p q) s (a.order.join_least p.left q.left s.left hs.left ks.left) (b.order.join_least p.right q.right s.right hs.right ks.right);
      round_above = λ p t. round_above p (seal l r (pair (l.round p.left t) (r.round p.right t)));
      round_mono = λ p p' t h. let hs = le_both p p' h in
          joined_mono p p' (seal l r (pair (l.round p.left t) (r.round p.right t))) (seal l r (pair (l.round p'.left t) (r.round p'.right t))) h
          (seal_mono (pair (l.round p.left t) (r.round p.right t)) (pair (l.round p'.left t) (r.round p'.right t)) (both_le (pair (l.round p.left t) (r.round p.right t)) (pair (l.round p'.left t) (r.round p'.right t)) (a.order.round_mono p.left p'.left t hs.left) (b.order.round_mono p.right p'.right t hs.right)));
      all_on_mono = λ p p' q s h e. let hs = le_both p p' h in
          or_mono (l.all_on p'.left q s) (r.all_on p'.right q s) (l.all_on p.left q s) (r.all_on p.right q s) (a.order.all_on_mono p.left p'.left q s hs.left) (b.order.all_on_mono p.right p'.right q s hs.right) e;
    }

    or_on : (q t n : ℤ) (x y : Bool) → (x ≡ true → OnStep q t n) → (y ≡ true → OnStep q t n) → (x || y) ≡ true → OnStep q t n
    or_on q t n true y f g h = f refl
    or_on q t n false y f g h = g h

    pub span_laws : SpanLaws (pairs l r)
    span_laws = record {
      span_has = λ lo hi m n i j. let p = pair (l.span lo hi m) (r.span lo hi m) in
          some_or_else (λ s. Has (pairs l r) s n) (seal l r p) (pair l.top r.top) (seal_has p n (both_has p n (a.spans.span_has lo hi m n i j) (b.spans.span_has lo hi m n i j)));
      all_on_sound = λ p q t n e h k. let hs = has_both p n h in
          or_on q t n (l.all_on p.left q t) (r.all_on p.right q t) (a.spans.all_on_sound p.left q t n e hs.left) (b.spans.all_on_sound p.right q t n e hs.right) k;
      least_in_w = λ p n.
          all_bind (λ _. Unit {0}) IsSigned (l.least_from p.left n) _ (all_some IsSigned (λ _. Unit {0}) (l.least_from p.left n) (a.spans.least_in_w p.left n) (λ _ _. tt))
          (λ i _. all_bind (λ _. Unit {0}) IsSigned (r.least_from p.right i) _ (all_some IsSigned (λ _. Unit {0}) (r.least_from p.right i) (b.spans.least_in_w p.right i) (λ _ _. tt)) (λ j _. a.spans.least_in_w p.left j));
      greatest_in_w = λ p n.
          all_bind (λ _. Unit {0}) IsSigned (l.greatest_to p.left n) _ (all_some IsSigned (λ _. Unit {0}) (l.greatest_to p.left n) (a.spans.greatest_in_w p.left n) (λ _ _. tt))
          (λ i _. all_bind (λ _. Unit {0}) IsSigned (r.greatest_to p.right i) _ (all_some IsSigned (λ _. Unit {0}) (r.greatest_to p.right i) (b.spans.greatest_in_w p.right i) (λ _ _. tt)) (λ j _. a.spans.greatest_in_w p.left j));
      narrow_sound = λ p lo hi n h e f. let hs = has_both p n h in
          sealed_has (both l r (l.narrow p.left lo hi) (r.narrow p.right lo hi)) n (both_some (l.narrow p.left lo hi) (r.narrow p.right lo hi) n (a.spans.narrow_sound p.left lo hi n hs.left e f) (b.spans.narrow_sound p.right lo hi n hs.right e f));
      narrow_below = λ p lo hi. sealed_below (both l r (l.narrow p.left lo hi) (r.narrow p.right lo hi)) p (both_below (l.narrow p.left lo hi) (r.narrow p.right lo hi) p (a.spans.narrow_below p.left lo hi) (b.spans.narrow_below p.right lo hi));
      narrow_mono = λ p p' lo lo' hi hi' h e f. let hs = le_both p p' h in
          sealed_mono (both l r (l.narrow p.left lo hi) (r.narrow p.right lo hi)) (both l r (l.narrow p'.left lo' hi') (r.narrow p'.right lo' hi'))
          (both_mono (l.narrow p.left lo hi) (l.narrow p'.left lo' hi') (r.narrow p.right lo hi) (r.narrow p'.right lo' hi') (a.spans.narrow_mono p.left p'.left lo lo' hi hi' hs.left e f) (b.spans.narrow_mono p.right p'.right lo lo' hi hi' hs.right e f));
      least_above = pair_least_above;
      least_first = pair_least_first;
      least_mono = pair_least_mono;
      greatest_below = pair_greatest_below;
      greatest_first = pair_greatest_first;
      greatest_mono = pair_greatest_mono;
    }

    pub pair_laws : DomainLaws (pairs l r)
    pair_laws = record { order = order_laws; sound = sound_laws; mono = mono_laws; spans = span_laws }
