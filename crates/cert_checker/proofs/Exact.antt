-- A yes comes exactly where all local conditions hold, and a no names what fails first.
use Rattle.std.proofs.Common.{◌≡◌, ℕ, List, Bool, true, false, Option, Some, None, Result, Ok, Err, refl, sym, ap, ◌∙◌, inl, inr, option_map}
use Rattle.std.proofs.lemmas.Option.{none-some}
use Rattle.std.proofs.lemmas.List.Elements.{All-from_recursion, recursion_from_All}
use Rattle.num_domain.specs.Domain.{Domain}
use Rattle.memory_plan.specs.Plans.{PlanLines}
use Rattle.memory_plan.specs.declared.start.Start.{Start}
use Rattle.cert_format.specs.Certificates.{NodeOf, CertificateOf}
use Rattle.cert_checker.specs.Conditions.{is_data, is_start_covered, node_fault, LocalOfFull}
use Rattle.cert_checker.specs.Verdicts.{or_else, refuse, first_of, cell_refusal, start_refusal, node_refusal, first_failure, bounds_of, verdict_from, verdict_of}
use Rattle.cert_checker.specs.Exactness.{FailsFirst, IsExact}
use Rattle.cert_checker.specs.declared.verdict.Bound.{Bound}
use Rattle.cert_checker.specs.declared.verdict.Refusal.{Refusal}
use Rattle.cert_checker.proofs.First.{or_none, all_pass, each_passes, none_refused, first_found}

-- ---- one element

pub refuse_none : (b : Bool) (r : Refusal) → refuse b r ≡ None → b ≡ true
refuse_none true r h = refl
refuse_none false r h = absurd (none-some r (sym h))

refuse_true : (b : Bool) (r : Refusal) → b ≡ true → refuse b r ≡ None
refuse_true true r h = refl
refuse_true false r h = absurd (cc)

pub map_none : {A B : Type 0} (f : A → B) (o : Option A) → option_map f o ≡ None → o ≡ None
map_none f None h = refl
map_none f (Some a) h = absurd (none-some (f a) (sym h))

-- ---- the verdict

ok_of : (bounds b : List (ℕ × Bound)) (o : Option Refusal) → verdict_from bounds o ≡ Ok b → o ≡ None
ok_of bounds b None h = refl
ok_of bounds b (Some r) h = absurd (cc)

err_of : (bounds : List (ℕ × Bound)) (o : Option Refusal) (r : Refusal) → verdict_from bounds o ≡ Err r → o ≡ Some r
err_of bounds None r h = absurd (cc)
err_of bounds (Some q) r h = ap Some (same q r h)
  where
    same : (q r : Refusal) → (let v : Result (List (ℕ × Bound)) Refusal = Err q in v ≡ Err r) → q ≡ r
    same q r h = cc

module _ {T : Type 0} (d : Domain T) (plan : PlanLines) (price : ℕ → ℕ) (c : CertificateOf T) where
  none_local : first_failure d plan price c ≡ None → LocalOfFull d plan price c
  none_local h =
      let one = or_none (first_of (cell_refusal plan) 0 c.cells) _ h in
      let two = or_none (first_of (start_refusal d plan c) 0 plan.starts) (first_of (node_refusal d plan price c) 0 c.nodes) one.1 in
      record {
        cells = All-from_recursion (λ (at : ℕ). is_data plan at ≡ true) c.cells
            (each_passes (cell_refusal plan) (λ (at : ℕ). is_data plan at ≡ true) (λ k at e. refuse_none (is_data plan at) _ e) 0 c.cells one.0);
        starts = All-from_recursion (λ (s : Start). is_start_covered d plan c.cells c.nodes c.starts s ≡ true) plan.starts
            (each_passes (start_refusal d plan c) (λ (s : Start). is_start_covered d plan c.cells c.nodes c.starts s ≡ true) (λ k s e. refuse_none (is_start_covered d plan c.cells c.nodes c.starts s) _ e) 0 plan.starts two.0);
        nodes = All-from_recursion (λ (n : NodeOf T). node_fault d plan c.cells price c.nodes n ≡ None) c.nodes
            (each_passes (node_refusal d plan price c) (λ (n : NodeOf T). node_fault d plan c.cells price c.nodes n ≡ None) (λ k n e. map_none _ (node_fault d plan c.cells price c.nodes n) e) 0 c.nodes two.1);
      }

  local_none : LocalOfFull d plan price c → first_failure d plan price c ≡ None
  local_none local =
      let cells : first_of (cell_refusal plan) 0 c.cells ≡ None = all_pass (cell_refusal plan) (λ (at : ℕ). is_data plan at ≡ true) (λ k at e. refuse_true (is_data plan at) _ e) 0 c.cells
      (recursion_from_All (λ (at : ℕ). is_data plan at ≡ true) c.cells local.cells) in
      let starts : first_of (start_refusal d plan c) 0 plan.starts ≡ None = all_pass (start_refusal d plan c) (λ (s : Start). is_start_covered d plan c.cells c.nodes c.starts s ≡ true) (λ k s e. refuse_true (is_start_covered d plan c.cells c.nodes c.starts s) _ e) 0 plan.starts
      (recursion_from_All (λ (s : Start). is_start_covered d plan c.cells c.nodes c.starts s ≡ true) plan.starts local.starts) in
      let nodes : first_of (node_refusal d plan price c) 0 c.nodes ≡ None = all_pass (node_refusal d plan price c) (λ (n : NodeOf T). node_fault d plan c.cells price c.nodes n ≡ None) (λ k n e. ap (option_map _) e) 0 c.nodes
      (recursion_from_All (λ (n : NodeOf T). node_fault d plan c.cells price c.nodes n ≡ None) c.nodes local.nodes) in
      rw (cells, starts, nodes) refl

  first_by : (r : Refusal) (o p q : Option Refusal) → first_of (cell_refusal plan) 0 c.cells ≡ o → first_of (start_refusal d plan c) 0 plan.starts ≡ p
      → first_of (node_refusal d plan price c) 0 c.nodes ≡ q → or_else o (or_else p q) ≡ Some r → FailsFirst d plan price c r
  first_by r (Some x) p q a b e h = inl (first_found (cell_refusal plan) c.cells r (a ∙ h))
  first_by r None (Some x) q a b e h = inr (none_refused (cell_refusal plan) c.cells a, inl (first_found (start_refusal d plan c) plan.starts r (b ∙ h)))
  first_by r None None q a b e h =
      inr (none_refused (cell_refusal plan) c.cells a, inr (none_refused (start_refusal d plan c) plan.starts b, first_found (node_refusal d plan price c) c.nodes r (e ∙ h)))

  yes_if : first_failure d plan price c ≡ None → verdict_of d plan price c ≡ Ok (bounds_of d plan c)
  unfolding verdict_of
  yes_if h = ap (verdict_from (bounds_of d plan c)) h

  none_if : (bounds : List (ℕ × Bound)) → verdict_of d plan price c ≡ Ok bounds → first_failure d plan price c ≡ None
  unfolding verdict_of
  none_if bounds h = ok_of (bounds_of d plan c) bounds (first_failure d plan price c) h

  some_if : (r : Refusal) → verdict_of d plan price c ≡ Err r → first_failure d plan price c ≡ Some r
  unfolding verdict_of
  some_if r h = err_of (bounds_of d plan c) (first_failure d plan price c) r h

  pub exact : IsExact d plan price c
  exact = record {
    yes = λ local. yes_if (local_none local);
    only_where = λ bounds h. none_local (none_if bounds h);
    first = λ r h. first_by r (first_of (cell_refusal plan) 0 c.cells) (first_of (start_refusal d plan c) 0 plan.starts) (first_of (node_refusal d plan price c) 0 c.nodes) refl refl refl (some_if r h);
    not_where = λ r h local. none-some r (sym (local_none local) ∙ some_if r h);
  }
