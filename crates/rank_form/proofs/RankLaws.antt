-- Forms give what a ranking needs.
use Rattle.std.specs.Prelude.{◌≡◌, ℤ, pos, negsuc, ◌+ℤ◌, ◌-ℤ◌, ◌*ℤ◌, neg_ℤ, ◌≤ℤ◌, [], ◌++◌}
use Rattle.std.proofs.Common.{arith, sym, ◌∙◌, ap, subst}
use Rattle.std.proofs.lemmas.Int.{ints}
use Rattle.num_domain.specs.Domain.{Domain}
use Rattle.num_domain.specs.Laws.{DomainLaws}
use Rattle.flag_relation.specs.declared.var.Var.{Var}
use Rattle.flag_relation.specs.Facts.{FactOf}
use Rattle.flag_relation.specs.Forms.{FormOf}
use Rattle.rank_form.specs.Weights.{weigh, scaled, scaled_terms, plus, negated, less}
use Rattle.abs_step.specs.OutcomeLists.{OutcomeOf}
use Rattle.rank_form.specs.Bounds.{post_at, by_post, upper, lower, after, rise}
use Rattle.rank_form.specs.Levels.{shift, stacked, level}
use Rattle.rank_form.specs.Laws.{FormLaws}
use Rattle.rank_form.proofs.Alikes.{Alike}
use Rattle.rank_form.proofs.Merging.{merged_alike}
use Rattle.rank_form.proofs.Spellings.{negated_alike, upper_alike, rise_alike}
use Rattle.viper_word.proofs.Products.{times_plus}
use Rattle.rank_form.proofs.Products.{times_minus, times_mono, times_negated}
use Rattle.rank_form.proofs.Weighing.{weigh_append, weigh_scaled, weigh_negated}
use Rattle.rank_form.proofs.UpperLaws.{Under, upper_is, upper_under, upper_plus, upper_scaled, upper_constant, upper_grows}
use Rattle.rank_form.proofs.AfterLaws.{after_weighs, after_stacked, after_shift, after_constant_form}

module _ {T : Type 0} (d : Domain T) where
  upper_shift : (f : FormOf) (n : ℤ) (x : FactOf T) → upper d (shift f n) x ≡ upper d f x +ℤ n
  upper_shift f n x = omega (arith, ints, upper_is d f x, upper_is d (shift f n) x)

  lower_shift : (f : FormOf) (n : ℤ) (x : FactOf T) → lower d (shift f n) x ≡ lower d f x +ℤ n
  lower_shift f n x = omega (arith, ints, upper_is d (negated f) x, upper_is d (negated (shift f n)) x, times_minus f.constant, times_minus (f.constant +ℤ n))

  nothing_under : (f : FormOf) → Under (record { constant = pos 0; terms = [] }) (plus f (negated f))
  unfolding weigh
  nothing_under f = record {
    constant = omega (arith, ints, times_minus f.constant);
    weighs = λ h. omega (arith, ints, weigh_append h f.terms (scaled_terms (neg_ℤ (pos 1)) f.terms), weigh_negated h f.terms);
  }

  bounds_ordered : (f : FormOf) (x : FactOf T) → lower d f x ≤ℤ upper d f x
  bounds_ordered f x =
      omega (arith, ints, upper_constant d (pos 0) x, upper_under d (record { constant = pos 0; terms = [] }) (plus f (negated f)) x (nothing_under f), upper_plus d f (negated f) x)

  -- ---- levels

  stacked_negated : (t : ℤ) (w : FormOf) (low : ℤ) (f : FormOf) → Under (negated (stacked t w low f)) (shift (plus (scaled t (negated w)) (negated f)) (t *ℤ low))
  stacked_negated t w low f = record {
    constant = omega (arith, ints, times_minus (((t *ℤ w.constant) +ℤ f.constant) +ℤ neg_ℤ (t *ℤ low)), times_minus f.constant, times_negated t w.constant);
    weighs = λ h.
        omega (
          arith,
          ints,
          weigh_negated h (scaled_terms t w.terms ++ f.terms),
          weigh_append h (scaled_terms t w.terms) f.terms,
          weigh_scaled h t w.terms,
          weigh_append h (scaled_terms t (scaled_terms (neg_ℤ (pos 1)) w.terms)) (scaled_terms (neg_ℤ (pos 1)) f.terms),
          weigh_negated h f.terms,
          weigh_scaled h t (scaled_terms (neg_ℤ (pos 1)) w.terms),
          ap (λ z. t *ℤ z) (weigh_scaled h (neg_ℤ (pos 1)) w.terms),
          times_negated t (weigh h w.terms),
        );
  }

  stacked_above : (t : ℤ) (w : FormOf) (low : ℤ) (f : FormOf) (x : FactOf T) → pos 0 ≤ℤ t → low ≤ℤ lower d w x → lower d f x ≤ℤ lower d (stacked t w low f) x
  stacked_above t w low f x h k =
      let half = plus (scaled t (negated w)) (negated f) in
      omega (
        arith,
        ints,
        upper_under d (negated (stacked t w low f)) (shift half (t *ℤ low)) x (stacked_negated t w low f),
        upper_shift half (t *ℤ low) x,
        upper_plus d (scaled t (negated w)) (negated f) x,
        upper_scaled d t (negated w) x h,
        times_mono t (upper d (negated w) x) (neg_ℤ low) h (omega (arith, ints)),
        times_negated t low,
        ap (λ z. t *ℤ z) (times_minus low),
      )

  stacked_moved : (t : ℤ) (w : FormOf) (low : ℤ) (f g : FormOf) (o : OutcomeOf T) → pos 0 ≤ℤ t
      → Under (less (after d (stacked t w low g) o) (stacked t w low f)) (plus (scaled t (less (after d w o) w)) (less (after d g o) f))
  stacked_moved t w low f g o h =
      let base = plus (scaled t w) g in
      let k = neg_ℤ (t *ℤ low) in
      record {
        constant =
            omega (
              arith,
              ints,
              after_stacked d o t w g h,
              ap (λ (q : FormOf). q.constant) (after_shift d o base k),
              times_minus (((t *ℤ w.constant) +ℤ f.constant) +ℤ k),
              times_minus f.constant,
              times_plus t (after d w o).constant (neg_ℤ (pos 1) *ℤ w.constant),
              times_negated t w.constant,
            );
        weighs = λ q.
            let moved = λ (v : Var). by_post q (post_at o.posts v) v in
            omega (
              arith,
              ints,
              weigh_append q (after d (stacked t w low g) o).terms (negated (stacked t w low f)).terms,
              after_weighs d o q (stacked t w low g),
              weigh_append moved (scaled_terms t w.terms) g.terms,
              weigh_scaled moved t w.terms,
              weigh_negated q (scaled_terms t w.terms ++ f.terms),
              weigh_append q (scaled_terms t w.terms) f.terms,
              weigh_scaled q t w.terms,
              weigh_append q (scaled t (less (after d w o) w)).terms (less (after d g o) f).terms,
              weigh_scaled q t (less (after d w o) w).terms,
              ap (λ z. t *ℤ z) (weigh_append q (after d w o).terms (negated w).terms),
              times_plus t (weigh q (after d w o).terms) (weigh q (negated w).terms),
              ap (λ z. t *ℤ z) (after_weighs d o q w),
              ap (λ z. t *ℤ z) (weigh_scaled q (neg_ℤ (pos 1)) w.terms),
              times_negated t (weigh q w.terms),
              weigh_append q (after d g o).terms (negated f).terms,
              after_weighs d o q g,
              weigh_negated q f.terms,
            );
      }

  -- a level rises by at most so many times its variable's rise, and its inner form's
  stacked_rises : (t : ℤ) (w : FormOf) (low : ℤ) (f g : FormOf) (o : OutcomeOf T) → pos 0 ≤ℤ t → rise d (stacked t w low f) (stacked t w low g) o ≤ℤ ((t *ℤ rise d w w o) +ℤ rise d f g o)
  unfolding rise
  stacked_rises t w low f g o h =
      let a = less (after d w o) w in
      let b = less (after d g o) f in
      omega (
        arith,
        ints,
        upper_under d (less (after d (stacked t w low g) o) (stacked t w low f)) (plus (scaled t a) b) o.pre (stacked_moved t w low f g o h),
        upper_plus d (scaled t a) b o.pre,
        upper_scaled d t a o.pre h,
      )

  shift_rises : (f g : FormOf) (m n : ℤ) (o : OutcomeOf T) → rise d (shift f m) (shift g n) o ≡ (rise d f g o +ℤ n) -ℤ m
  unfolding rise
  shift_rises f g m n o =
      let change = upper_shift (less (after d g o) f) (n -ℤ m) o.pre in
      let k : (after d g o).constant +ℤ n +ℤ (neg_ℤ (pos 1) *ℤ (f.constant +ℤ m)) ≡ ((after d g o).constant +ℤ (neg_ℤ (pos 1) *ℤ f.constant)) +ℤ (n -ℤ m) = omega (arith, ints, times_minus f.constant, times_minus (f.constant +ℤ m)) in
      let same : upper d (less (shift (after d g o) n) (shift f m)) o.pre ≡ upper d (shift (less (after d g o) f) (n -ℤ m)) o.pre = ap (λ z. upper d (record { constant = z; terms = (less (after d g o) f).terms }) o.pre) k in
      ap (λ q. upper d (less q (shift f m)) o.pre) (after_shift d o g n) ∙ same ∙ change ∙ omega (arith, ints)

  rise_most : (f g : FormOf) (o : OutcomeOf T) → rise d f g o ≤ℤ (upper d (after d g o) o.pre -ℤ lower d f o.pre)
  unfolding rise
  rise_most f g o = omega (arith, ints, upper_plus d (after d g o) (negated f) o.pre)

  -- a level is the same form as what it is the sum of
  level_alike : (t : ℤ) (w : FormOf) (low : ℤ) (f : FormOf) → Alike (level t w low f) (stacked t w low f)
  unfolding level
  level_alike t w low f = merged_alike (stacked t w low f)

  level_above : (t : ℤ) (w : FormOf) (low : ℤ) (f : FormOf) (x : FactOf T) → pos 0 ≤ℤ t → low ≤ℤ lower d w x → lower d f x ≤ℤ lower d (level t w low f) x
  level_above t w low f x h k =
      subst (λ z. lower d f x ≤ℤ neg_ℤ z) (sym (upper_alike d (negated (level t w low f)) (negated (stacked t w low f)) x (negated_alike (level t w low f) (stacked t w low f) (level_alike t w low f))))
      (stacked_above t w low f x h k)

  level_rises : (t : ℤ) (w : FormOf) (low : ℤ) (f g : FormOf) (o : OutcomeOf T) → pos 0 ≤ℤ t → rise d (level t w low f) (level t w low g) o ≤ℤ ((t *ℤ rise d w w o) +ℤ rise d f g o)
  level_rises t w low f g o h =
      subst (λ z. z ≤ℤ ((t *ℤ rise d w w o) +ℤ rise d f g o)) (sym (rise_alike d (level t w low f) (stacked t w low f) (level t w low g) (stacked t w low g) o (level_alike t w low f) (level_alike t w low g)))
      (stacked_rises t w low f g o h)

  pub form_laws : DomainLaws d → FormLaws d
  form_laws laws = record {
    ordered = bounds_ordered;
    side_lower = λ f x side h. omega (arith, ints, upper_grows d laws (negated f) side x h.links h.smaller h.live);
    side_upper = λ f x side h. upper_grows d laws f side x h.links h.smaller h.live;
    rise_bound = rise_most;
    constant_lower = λ n x. omega (arith, ints, upper_constant d (neg_ℤ (pos 1) *ℤ n) x, times_minus n);
    constant_upper = λ n x. upper_constant d n x;
    constant_after = λ n o. ap (λ q. upper d q o.pre) (after_constant_form d o n) ∙ upper_constant d n o.pre;
    shift_lower = lower_shift;
    shift_upper = upper_shift;
    shift_after = λ f n o. ap (λ q. upper d q o.pre) (after_shift d o f n) ∙ upper_shift (after d f o) n o.pre;
    shift_rise = shift_rises;
    level_lower = level_above;
    level_rise = level_rises;
    level_keeps = λ t w low f g o h l. omega (arith, ints, level_rises t w low f g o h, times_mono t (rise d w w o) (pos 0) h l);
    level_falls = λ t w low f g o h l. omega (arith, ints, level_rises t w low f g o h, times_mono t (rise d w w o) (negsuc 0) h l);
  }
