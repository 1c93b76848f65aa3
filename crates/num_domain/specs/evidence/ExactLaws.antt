-- The exact rule keeps soundness and monotony.
use Rattle.std.specs.Prelude.{◌≡◌, ℤ, Bool, Option, Some, None, IsSomeAnd}
use Rattle.std.proofs.Common.{refl, sym, subst, ap, ◌∙◌}
use Rattle.std.proofs.Math.Path.{ap₂}
use Rattle.viper_word.specs.Words.{IsSigned, is_signed}
use Rattle.num_domain.specs.Domain.{Domain, Has, Below, BelowOption, LeFlag, MayBe}
use Rattle.num_domain.specs.Laws.{OrderLaws, Sound1, Sound2, SoundFlag, Mono1, Mono2, MonoFlag}
use Rattle.num_domain.specs.Exact.{SingleLaws, one, exact1_when, exact2_when, exact_flag_when, exact1, exact2, exact_flag}
use Rattle.viper_word.proofs.Options.{some_when, all_when, some_some}
use Rattle.viper_word.proofs.Integers.{is_signed_true, true_is_signed}

module _ {A : Type 0} (d : Domain A) (single : A → Option ℤ) where
  module _ (order : OrderLaws d) (laws : SingleLaws d single) where
    one_has : (z n : ℤ) → IsSigned n → n ≡ z → IsSomeAnd (one d.constant single z) (λ r. Has d r n)
    one_has z n w e =
        some_when (is_signed z) (Some (d.constant z)) (λ r. Has d r n) (true_is_signed z (subst IsSigned e w)) (subst (λ (y : ℤ). Has d (d.constant y) n) e (order.constant_has n w))

    one_below : (z : ℤ) (o : Option A) → (IsSigned z → IsSomeAnd o (λ r. Has d r z)) → BelowOption d (one d.constant single z) o
    one_below z o h =
        all_when (is_signed z) (Some (d.constant z)) (λ r. IsSomeAnd o (λ r'. Below d r r'))
        (λ t. some_some (λ r. Has d r z) (λ r. Below d (d.constant z) r) o (h (is_signed_true z t)) (λ r p. laws.least r z p))

    exact2_when_sound : (op : ℤ → ℤ → ℤ) (a b : A) (x y : ℤ) (s t : Option ℤ) (r : Option A) → single a ≡ s → single b ≡ t → Has d a x → Has d b y → IsSigned (op x y) → IsSomeAnd r (λ v. Has d v (op x y)) → IsSomeAnd (exact2_when d.constant single op s t r) (λ v. Has d v (op x y))
    exact2_when_sound op a b x y None t r e f h k w p = p
    exact2_when_sound op a b x y (Some u) None r e f h k w p = p
    exact2_when_sound op a b x y (Some u) (Some v) r e f h k w p = one_has (op u v) (op x y) w (ap₂ op (laws.only a u x e h) (laws.only b v y f k))

    pub exact2_sound : (op : ℤ → ℤ → ℤ) (f : A → A → Option A) → Sound2 d f op → Sound2 d (exact2 d.constant single op f) op
    exact2_sound op f s a b x y h k w = exact2_when_sound op a b x y (single a) (single b) (f a b) refl refl h k w (s a b x y h k w)

    exact2_when_mono : (op : ℤ → ℤ → ℤ) (f : A → A → Option A) → Sound2 d f op → Mono2 d f → (a a' b b' : A) (s s' t t' : Option ℤ) → single a ≡ s → single a' ≡ s' → single b ≡ t → single b' ≡ t' → Below d a a' → Below d b b' → BelowOption d (exact2_when d.constant single op s t (f a b)) (exact2_when d.constant single op s' t' (f a' b'))
    exact2_when_mono op f sound mono a a' b b' (Some x) (Some x') (Some y) (Some y') e e' g g' h k =
        let p : Some x' ≡ Some x = sym (laws.below a a' x' h e') ∙ e in
        let q : Some y' ≡ Some y = sym (laws.below b b' y' k g') ∙ g in
        let px : x ≡ x' = cc in
        let qy : y ≡ y' = cc in
        one_below (op x y) (one d.constant single (op x' y')) (λ w. one_has (op x' y') (op x y) w (ap₂ op px qy))
    exact2_when_mono op f sound mono a a' b b' (Some x) None (Some y) t' e e' g g' h k =
        one_below (op x y) (f a' b') (λ w. sound a' b' x y (order.has a a' x h (laws.has a x e)) (order.has b b' y k (laws.has b y g)) w)
    exact2_when_mono op f sound mono a a' b b' (Some x) (Some x') (Some y) None e e' g g' h k =
        one_below (op x y) (f a' b') (λ w. sound a' b' x y (order.has a a' x h (laws.has a x e)) (order.has b b' y k (laws.has b y g)) w)
    exact2_when_mono op f sound mono a a' b b' None None t t' e e' g g' h k = mono a a' b b' h k
    exact2_when_mono op f sound mono a a' b b' None (Some x') t t' e e' g g' h k =
        let p : None ≡ Some x' = sym e ∙ laws.below a a' x' h e' in absurd (cc)
    exact2_when_mono op f sound mono a a' b b' (Some x) None None t' e e' g g' h k = mono a a' b b' h k
    exact2_when_mono op f sound mono a a' b b' (Some x) (Some x') None None e e' g g' h k = mono a a' b b' h k
    exact2_when_mono op f sound mono a a' b b' (Some x) (Some x') None (Some y') e e' g g' h k =
        let p : None ≡ Some y' = sym g ∙ laws.below b b' y' k g' in absurd (cc)

    pub exact2_mono : (op : ℤ → ℤ → ℤ) (f : A → A → Option A) → Sound2 d f op → Mono2 d f → Mono2 d (exact2 d.constant single op f)
    exact2_mono op f sound mono a a' b b' h k = exact2_when_mono op f sound mono a a' b b' (single a) (single a') (single b) (single b') refl refl refl refl h k

    exact1_when_sound : (op : ℤ → ℤ) (a : A) (x : ℤ) (s : Option ℤ) (r : Option A) → single a ≡ s → Has d a x → IsSigned (op x) → IsSomeAnd r (λ v. Has d v (op x)) → IsSomeAnd (exact1_when d.constant single op s r) (λ v. Has d v (op x))
    exact1_when_sound op a x None r e h w p = p
    exact1_when_sound op a x (Some u) r e h w p = one_has (op u) (op x) w (ap op (laws.only a u x e h))

    pub exact1_sound : (op : ℤ → ℤ) (f : A → Option A) → Sound1 d f op → Sound1 d (exact1 d.constant single op f) op
    exact1_sound op f s a x h w = exact1_when_sound op a x (single a) (f a) refl h w (s a x h w)

    exact1_when_mono : (op : ℤ → ℤ) (f : A → Option A) → Sound1 d f op → Mono1 d f → (a a' : A) (s s' : Option ℤ) → single a ≡ s → single a' ≡ s' → Below d a a' → BelowOption d (exact1_when d.constant single op s (f a)) (exact1_when d.constant single op s' (f a'))
    exact1_when_mono op f sound mono a a' (Some x) (Some x') e e' h =
        let p : Some x' ≡ Some x = sym (laws.below a a' x' h e') ∙ e in
        let px : x ≡ x' = cc in
        one_below (op x) (one d.constant single (op x')) (λ w. one_has (op x') (op x) w (ap op px))
    exact1_when_mono op f sound mono a a' (Some x) None e e' h = one_below (op x) (f a') (λ w. sound a' x (order.has a a' x h (laws.has a x e)) w)
    exact1_when_mono op f sound mono a a' None None e e' h = mono a a' h
    exact1_when_mono op f sound mono a a' None (Some x') e e' h =
        let p : None ≡ Some x' = sym e ∙ laws.below a a' x' h e' in absurd (cc)

    pub exact1_mono : (op : ℤ → ℤ) (f : A → Option A) → Sound1 d f op → Mono1 d f → Mono1 d (exact1 d.constant single op f)
    exact1_mono op f sound mono a a' h = exact1_when_mono op f sound mono a a' (single a) (single a') refl refl h

    exact_flag_when_sound : (op : Bool → ℤ → ℤ) (a : A) (x : ℤ) (c : Bool) (s : Option ℤ) (b : Option Bool) (r : Option A) → single a ≡ s → Has d a x → MayBe b c → IsSigned (op c x) → IsSomeAnd r (λ v. Has d v (op c x)) → IsSomeAnd (exact_flag_when d.constant single op s b r) (λ v. Has d v (op c x))
    exact_flag_when_sound op a x c None b r e h m w p = p
    exact_flag_when_sound op a x c (Some u) None r e h m w p = p
    exact_flag_when_sound op a x c (Some u) (Some v) r e h m w p = one_has (op v u) (op c x) w (ap₂ op (sym m) (laws.only a u x e h))

    pub exact_flag_sound : (op : Bool → ℤ → ℤ) (f : A → Option Bool → Option A) → SoundFlag d f op → SoundFlag d (exact_flag d.constant single op f) op
    exact_flag_sound op f s a b c x h m w = exact_flag_when_sound op a x c (single a) b (f a b) refl h m w (s a b c x h m w)

    exact_flag_when_mono : (op : Bool → ℤ → ℤ) (f : A → Option Bool → Option A) → SoundFlag d f op → MonoFlag d f → (a a' : A) (s s' : Option ℤ) (b b' : Option Bool) → single a ≡ s → single a' ≡ s' → Below d a a' → LeFlag b b' → BelowOption d (exact_flag_when d.constant single op s b (f a b)) (exact_flag_when d.constant single op s' b' (f a' b'))
    exact_flag_when_mono op f sound mono a a' (Some x) (Some x') (Some b) (Some b') e e' h l =
        let p : Some x' ≡ Some x = sym (laws.below a a' x' h e') ∙ e in
        let px : x ≡ x' = cc in
        one_below (op b x) (one d.constant single (op b' x')) (λ w. one_has (op b' x') (op b x) w (ap₂ op l px))
    exact_flag_when_mono op f sound mono a a' (Some x) (Some x') (Some b) None e e' h l =
        one_below (op b x) (f a' None) (λ w. sound a' None b x (order.has a a' x h (laws.has a x e)) tt w)
    exact_flag_when_mono op f sound mono a a' (Some x) None (Some b) None e e' h l =
        one_below (op b x) (f a' None) (λ w. sound a' None b x (order.has a a' x h (laws.has a x e)) tt w)
    exact_flag_when_mono op f sound mono a a' (Some x) None (Some b) (Some b') e e' h l =
        one_below (op b x) (f a' (Some b')) (λ w. sound a' (Some b') b x (order.has a a' x h (laws.has a x e)) (sym l) w)
    exact_flag_when_mono op f sound mono a a' (Some x) s' None (Some b') e e' h l = absurd l
    exact_flag_when_mono op f sound mono a a' (Some x) (Some x') None None e e' h l = mono a a' None None h l
    exact_flag_when_mono op f sound mono a a' (Some x) None None None e e' h l = mono a a' None None h l
    exact_flag_when_mono op f sound mono a a' None None b b' e e' h l = mono a a' b b' h l
    exact_flag_when_mono op f sound mono a a' None (Some x') b b' e e' h l =
        let p : None ≡ Some x' = sym e ∙ laws.below a a' x' h e' in absurd (cc)

    pub exact_flag_mono : (op : Bool → ℤ → ℤ) (f : A → Option Bool → Option A) → SoundFlag d f op → MonoFlag d f → MonoFlag d (exact_flag d.constant single op f)
    exact_flag_mono op f sound mono a a' b b' h l = exact_flag_when_mono op f sound mono a a' (single a) (single a') b b' refl refl h l

  -- the two ways of the exact rule, as a test takes them
  pub exact1_single : (op : ℤ → ℤ) (f : A → Option A) (a : A) (x : ℤ) → single a ≡ Some x → IsSigned (op x) → Some (d.constant (op x)) ≡ exact1 d.constant single op f a
  exact1_single op f a x e w = rw (e, true_is_signed (op x) w) refl

  pub exact1_row : (op : ℤ → ℤ) (f : A → Option A) (a : A) → single a ≡ None → f a ≡ exact1 d.constant single op f a
  exact1_row op f a e = rw e refl

  pub exact2_single : (op : ℤ → ℤ → ℤ) (f : A → A → Option A) (a b : A) (x y : ℤ) → single a ≡ Some x → single b ≡ Some y → IsSigned (op x y) → Some (d.constant (op x y)) ≡ exact2 d.constant single op f a b
  exact2_single op f a b x y e g w = rw (e, g, true_is_signed (op x y) w) refl

  pub exact2_first : (op : ℤ → ℤ → ℤ) (f : A → A → Option A) (a b : A) → single a ≡ None → f a b ≡ exact2 d.constant single op f a b
  exact2_first op f a b e = rw e refl

  pub exact2_second : (op : ℤ → ℤ → ℤ) (f : A → A → Option A) (a b : A) (s : Option ℤ) → single a ≡ s → single b ≡ None → f a b ≡ exact2 d.constant single op f a b
  exact2_second op f a b None e g = rw e refl
  exact2_second op f a b (Some x) e g = rw (e, g) refl

-- where a value is single at n, so is the constant, which is below it
pub constant_single : {A : Type 0} (d : Domain A) (single : A → Option ℤ) → SingleLaws d single → (a : A) (n : ℤ) → single a ≡ Some n → single (d.constant n) ≡ Some n
constant_single d single laws a n e = laws.below (d.constant n) a n (laws.least a n (laws.has a n e)) e
