-- The code's form after a step.
use Rattle.std.specs.Prelude.{◌≡◌, ℕ, ◌+◌, ◌*◌, ◌^◌, ◌<◌, ◌≤◌, ℤ, pos, ◌+ℤ◌, ◌*ℤ◌, true, unsigned_abs, List, [], ◌∷◌, length, replicate, Some}
use Rattle.std.proofs.Common.{refl, arith, sym, ◌∙◌, ap, subst}
use Rattle.std.proofs.Math.Path.{ap₂}
use Rattle.std.proofs.lemmas.Int.{ints}
use Rattle.num_domain.specs.Domain.{Domain}
use Rattle.num_domain.specs.Laws.{DomainLaws}
use Rattle.flag_relation.specs.declared.var.Var.{Var}
use Rattle.flag_relation.specs.Forms.{FormOf, var_number, are_terms, form_of}
use Rattle.abs_step.specs.OutcomeLists.{OutcomeOf}
use Rattle.rank_form.specs.declared.rates.TheConstants.{VARIABLES}
use Rattle.rank_form.specs.Weights.{weigh, rate, var_at, terms_from, past, merged}
use Rattle.rank_form.specs.Bounds.{place, moved, after}
use Rattle.rank_form.specs.Rates.{no_links, AreSmall, IsBelow, ArePostsSmall, rate_at, spread, gains}
use Rattle.rank_form.proofs.Merging.{number_var}
use Rattle.rank_form.proofs.Rating.{moved_small, moved_few, spread_zeros, spread_fits}
use Rattle.rank_form.proofs.Ordering.{ordered_is}
use Rattle.rank_form.proofs.Fitting.{none_more, gains_small, from_terms, ordered_few, makes_form}
use Rattle.rank_form.proofs.CodeLaws.{gains_code}

weigh_none : (g : Var → ℤ) (ts : List (Var × ℤ)) → ((v : Var) → g v ≡ pos 0) → weigh g ts ≡ pos 0
unfolding weigh
weigh_none g [] h = refl
weigh_none g (t ∷ ts) h = omega (arith, ints, ap (λ z. t.1 *ℤ z) (h t.0), weigh_none g ts h)

-- the numbers of the code's list make the merged form
form_made : (ts : List (Var × ℤ)) (k : ℤ) → AreSmall (2 ^ 40) ts → length ts ≤ 8 → past ts ≤ VARIABLES → unsigned_abs k ≤ 2 ^ 77
    → form_of k (terms_from (rate_at (spread ts (replicate VARIABLES (pos 0)))) 0 VARIABLES) ≡ Some (record { constant = k; terms = terms_from (rate ts) 0 (past ts) })
form_made ts k h few named near =
    let rs = spread ts (replicate VARIABLES (pos 0)) in
    let same = ordered_is rs ts VARIABLES named (λ v p. spread_zeros ts VARIABLES v p) in
    let below : IsBelow (8 * 2 ^ 40) rs = spread_fits VARIABLES (2 ^ 40) ts h few in
    let small = λ (i : ℕ) (p : 0 ≤ i) (q : i < 0 + past ts). subst (λ z. unsigned_abs z ≤ 2 ^ 43) (spread_zeros ts VARIABLES (var_at i) (subst (λ (j : ℕ). j < VARIABLES) (sym (number_var i)) (omega arith))) (below (var_number (var_at i))) in
    ap (form_of k) same ∙ makes_form k (terms_from (rate ts) 0 (past ts)) near (omega (arith, ordered_few ts 0 (past ts))) (from_terms (rate ts) 0 (past ts) small)

module _ {T : Type 0} (d : Domain T) (laws : DomainLaws d) where
  pub after_is : (f : FormOf) (o : OutcomeOf T) → length o.after.cells ≡ length o.pre.cells → are_terms 0 f.terms ≡ true → f.constant +ℤ gains d no_links o.posts o.after f.terms ≡ (after d f o).constant
  after_is f o e h = gains_code d f o no_links e h ∙ omega (arith, ints, weigh_none (λ v. (place no_links v).more) (after d f o).terms none_more)

  after_terms : (f : FormOf) (o : OutcomeOf T) → (after d f o).terms ≡ moved o.posts f.terms
  unfolding after
  after_terms f o = refl

  pub after_form : (f : FormOf) (o : OutcomeOf T) (k : ℤ) → unsigned_abs f.constant ≤ 2 ^ 62 → AreSmall (2 ^ 40) f.terms → length f.terms ≤ 8 → ArePostsSmall (2 ^ 20) o.posts
      → length o.after.cells ≡ length o.pre.cells → are_terms 0 f.terms ≡ true → past (moved o.posts f.terms) ≤ VARIABLES → k ≡ f.constant +ℤ gains d no_links o.posts o.after f.terms
      → form_of k (terms_from (rate_at (spread (moved o.posts f.terms) (replicate VARIABLES (pos 0)))) 0 VARIABLES) ≡ Some (merged (after d f o))
  after_form f o k near small few posts e h named is =
      let ts = moved o.posts f.terms in
      let size : unsigned_abs k ≤ 2 ^ 77 = omega (arith, ints, is, near, few, gains_small d laws o.posts o.after f.terms small posts) in
      form_made ts k (moved_small (2 ^ 40) o.posts f.terms small) (omega (arith, moved_few o.posts f.terms, few)) named size
      ∙ ap₂ (λ (z : ℤ) (us : List (Var × ℤ)). Some (record { constant = z; terms = terms_from (rate us) 0 (past us) })) (is ∙ after_is f o e h) (sym (after_terms f o))
