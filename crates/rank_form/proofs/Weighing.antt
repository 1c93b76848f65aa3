-- What sums, multiples and replacements of terms weigh.
use Rattle.std.specs.Prelude.{◌≡◌, ℤ, pos, ◌+ℤ◌, ◌*ℤ◌, neg_ℤ, List, [], ◌∷◌, ◌++◌, map}
use Rattle.std.proofs.Common.{refl, arith, sym, ◌∙◌, ap}
use Rattle.std.proofs.Math.Path.{ap₂}
use Rattle.std.proofs.lemmas.Int.{ints}
use Rattle.flag_relation.specs.declared.var.Var.{Var}
use Rattle.flag_relation.specs.Values.{Values}
use Rattle.abs_step.specs.declared.outcome.Post.{Post}
use Rattle.abs_step.specs.declared.outcome.Post.TheVariants.{Same, Plus, Within}
use Rattle.rank_form.specs.Weights.{weigh, scaled_terms}
use Rattle.rank_form.specs.Bounds.{post_at, by_post, moved_by, moved}
use Rattle.viper_word.proofs.Products.{times_plus}
use Rattle.rank_form.proofs.Products.{times_times, times_minus, times_zero}

pub weigh_append : (g : Var → ℤ) (ts us : List (Var × ℤ)) → weigh g (ts ++ us) ≡ weigh g ts +ℤ weigh g us
unfolding weigh
weigh_append g [] us = omega (arith, ints)
weigh_append g (t ∷ ts) us = omega (arith, ints, weigh_append g ts us)

pub weigh_scaled : (g : Var → ℤ) (t : ℤ) (ts : List (Var × ℤ)) → weigh g (scaled_terms t ts) ≡ t *ℤ weigh g ts
unfolding weigh
weigh_scaled g t [] = sym (times_zero t)
weigh_scaled g t (u ∷ ts) = ap₂ ◌+ℤ◌ (times_times t u.1 (g u.0)) (weigh_scaled g t ts) ∙ sym (times_plus t (u.1 *ℤ g u.0) (weigh g ts))

pub weigh_negated : (g : Var → ℤ) (ts : List (Var × ℤ)) → weigh g (scaled_terms (neg_ℤ (pos 1)) ts) ≡ neg_ℤ (weigh g ts)
weigh_negated g ts = weigh_scaled g (neg_ℤ (pos 1)) ts ∙ times_minus (weigh g ts)

pub weigh_renamed : (g : Var → ℤ) (s : Var → Var) (ts : List (Var × ℤ)) → weigh g (map (λ (t : Var × ℤ). (s t.0, t.1)) ts) ≡ weigh (λ v. g (s v)) ts
unfolding weigh
weigh_renamed g s [] = refl
weigh_renamed g s (t ∷ ts) = ap (λ z. (t.1 *ℤ g (s t.0)) +ℤ z) (weigh_renamed g s ts)

moved_step : (g : Var → ℤ) (p : Post) (v : Var) (c : ℤ) (ts : List (Var × ℤ)) → weigh g (moved_by p v c ts) ≡ (c *ℤ by_post g p v) +ℤ weigh g ts
unfolding weigh
moved_step g Same v c ts = refl
moved_step g (Plus u n) v c ts = refl
moved_step g Within v c ts = omega (arith, ints, times_zero c)

pub weigh_moved : (g : Var → ℤ) (posts : Values Post) (ts : List (Var × ℤ)) → weigh g (moved posts ts) ≡ weigh (λ v. by_post g (post_at posts v) v) ts
unfolding weigh moved
weigh_moved g posts [] = refl
weigh_moved g posts (t ∷ ts) = moved_step g (post_at posts t.0) t.0 t.1 (moved posts ts) ∙ ap (λ z. (t.1 *ℤ by_post g (post_at posts t.0) t.0) +ℤ z) (weigh_moved g posts ts)

pub weigh_plus : (g h k : Var → ℤ) (ts : List (Var × ℤ)) → ((v : Var) → g v ≡ h v +ℤ k v) → weigh g ts ≡ weigh h ts +ℤ weigh k ts
unfolding weigh
weigh_plus g h k [] e = refl
weigh_plus g h k (t ∷ ts) e =
    let a : t.1 *ℤ g t.0 ≡ (t.1 *ℤ h t.0) +ℤ (t.1 *ℤ k t.0) = ap (λ z. t.1 *ℤ z) (e t.0) ∙ times_plus t.1 (h t.0) (k t.0) in
    omega (arith, ints, a, weigh_plus g h k ts e)

pub weigh_same : (g h : Var → ℤ) (ts : List (Var × ℤ)) → ((v : Var) → g v ≡ h v) → weigh g ts ≡ weigh h ts
unfolding weigh
weigh_same g h [] e = refl
weigh_same g h (t ∷ ts) e = ap₂ ◌+ℤ◌ (ap (λ z. t.1 *ℤ z) (e t.0)) (weigh_same g h ts e)
