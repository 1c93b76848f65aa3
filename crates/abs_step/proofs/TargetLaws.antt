-- The outcomes of a jump, one point of its result after the other.
use Rattle.std.specs.Prelude.{◌≡◌, ℕ, ◌+◌, ◌-◌, ◌≤◌, Bool, true, false, ◌&&◌, cond, List, [], ◌∷◌, ◌++◌, length, Some, None}
use Rattle.std.specs.List.{flat_map}
use Rattle.std.proofs.Common.{refl, arith, suc, sym, ◌∙◌, ap, append_assoc, append-nil}
use Rattle.std.proofs.lemmas.Bool.{and_left}
use Rattle.num_domain.specs.Domain.{Domain}
use Rattle.memory_plan.specs.Plans.{PlanLines, in_code}
use Rattle.flag_relation.specs.Values.{Values}
use Rattle.flag_relation.specs.Facts.{FactOf}
use Rattle.abs_step.specs.declared.outcome.Post.{Post}
use Rattle.abs_step.specs.Addresses.{passing}
use Rattle.abs_step.specs.OutcomeLists.{OutcomeOf, outcome, is_live}
use Rattle.abs_step.specs.Outcomes.{is_target}
use Rattle.abs_step.specs.Walks.{first_from, is_point_at}
use Rattle.abs_step.proofs.SearchLaws.{first_some, first_nothing, passing_none, passing_skip, passing_over, passing_one}

-- those that pass both tests, where the first that passes one is known
pub both_on : (p c : ℕ → Bool) (at to m n : ℕ) → at ≤ to → first_from p at (to - at) ≡ Some m → n ≡ m → passing (λ k. p k && c k) at (to - at) ≡ cond (c m) (m ∷ passing (λ k. p k && c k) (n + 1) (to - (n + 1))) (passing (λ k. p k && c k) (n + 1) (to - (n + 1)))
both_on p c at to m n o e s =
    let f = first_some p at (to - at) m e in
    let u = f.up in
    let w = f.below in
    let t : ℕ → Bool = λ k. p k && c k in
    let a : to - at ≡ (m - at) + suc (to - (n + 1)) = omega arith in
    let b : at + (m - at) ≡ m = omega arith in
    let d : suc m ≡ n + 1 = omega arith in
    ap (passing t at) a
    ∙ passing_skip t (m - at) at (suc (to - (n + 1))) (λ k i j. and_left (p k) (c k) (f.before k i (omega arith)))
    ∙ ap (λ (l : ℕ). passing t l (suc (to - (n + 1)))) b
    ∙ passing_one t m (to - (n + 1))
    ∙ ap (λ (q : Bool). cond (q && c m) (m ∷ passing t (suc m) (to - (n + 1))) (passing t (suc m) (to - (n + 1)))) f.holds
    ∙ ap (λ (l : ℕ). cond (c m) (m ∷ passing t l (to - (n + 1))) (passing t l (to - (n + 1)))) d

pub both_end : (p c : ℕ → Bool) (at n : ℕ) → first_from p at n ≡ None → passing (λ k. p k && c k) at n ≡ []
both_end p c at n e = passing_none (λ k. p k && c k) at n (λ k i j. and_left (p k) (c k) (first_nothing p at n e k i j))

flat_one : {U : Type 0} (f : ℕ → List U) (b : Bool) (n : ℕ) (ns : List ℕ) → flat_map f (cond b (n ∷ ns) ns) ≡ cond b (f n) [] ++ flat_map f ns
flat_one f true n ns = refl
flat_one f false n ns = refl

module _ {T : Type 0} (d : Domain T) where
  outcome_few : (n : ℕ) (pre after : FactOf T) (posts : Values Post) → length (outcome d n pre after posts) ≤ 1
  unfolding outcome
  outcome_few n pre after posts = by_test (is_live d after)
    where
      by_test : (b : Bool) → length {A = OutcomeOf T} (cond b (record { target = n; pre = pre; after = after; posts = posts } ∷ []) []) ≤ 1
      by_test true = omega arith
      by_test false = omega arith

  pub kept_few : (b : Bool) (n : ℕ) (pre after : FactOf T) (posts : Values Post) → length (cond b (outcome d n pre after posts) []) ≤ 1
  kept_few true n pre after posts = outcome_few n pre after posts
  kept_few false n pre after posts = omega arith

  module _ (plan : PlanLines) (v : T) (f : ℕ → List (OutcomeOf T)) where
    pub targets_end : (so_far : List (OutcomeOf T)) (at n : ℕ) → first_from (is_point_at d v) at n ≡ None → so_far ++ flat_map f (passing (is_target d plan v) at n) ≡ so_far
    unfolding is_target
    targets_end so_far at n e = ap (λ (l : List ℕ). so_far ++ flat_map f l) (both_end (is_point_at d v) (in_code plan) at n e) ∙ append-nil so_far

    pub targets_over : (so_far : List (OutcomeOf T)) (at to : ℕ) → to ≤ at → so_far ++ flat_map f (passing (is_target d plan v) at (to - at)) ≡ so_far
    targets_over so_far at to h = ap (λ (l : List ℕ). so_far ++ flat_map f l) (passing_over (is_target d plan v) at to h) ∙ append-nil so_far

    pub targets_on : (so_far : List (OutcomeOf T)) (at to m n : ℕ) → at ≤ to → first_from (is_point_at d v) at (to - at) ≡ Some m → n ≡ m → so_far ++ flat_map f (passing (is_target d plan v) at (to - at)) ≡ (so_far ++ cond (in_code plan m) (f m) []) ++ flat_map f (passing (is_target d plan v) (n + 1) (to - (n + 1)))
    unfolding is_target
    targets_on so_far at to m n o e s =
        ap (λ (l : List ℕ). so_far ++ flat_map f l) (both_on (is_point_at d v) (in_code plan) at to m n o e s)
        ∙ ap (λ (l : List (OutcomeOf T)). so_far ++ l) (flat_one f (in_code plan m) m (passing (λ k. is_point_at d v k && in_code plan k) (n + 1) (to - (n + 1))))
        ∙ sym (append_assoc so_far (cond (in_code plan m) (f m) []) (flat_map f (passing (λ k. is_point_at d v k && in_code plan k) (n + 1) (to - (n + 1)))))
