-- A key has at most 65 outcomes, and so at most 65 successors.
use Rattle.std.proofs.Common.{◌≡◌, ℕ, zero, suc, ◌+◌, ◌≤◌, ◌^◌, Bool, true, false, cond, ◌&&◌, nat_eq, List, [], ◌∷◌, ◌++◌, length, Option, Some, None, refl, sym, ◌∙◌, arith, length-append}
use Rattle.std.specs.Prelude.{pos}
use Rattle.std.specs.List.{AllByRecursion, list_any, flat_map, IsDistinct}
use Rattle.std.specs.List.Sorted.{IsStrictlySortedBy}
use Rattle.std.specs.Ordering.{nat_cmp}
use Rattle.std.specs.declared.cmp.Ordering.TheVariants.{Less}
use Rattle.std.proofs.lemmas.Bool.{false≢true}
use Rattle.std.proofs.lemmas.Cmp.{nat_eq_equiv}
use Rattle.std.proofs.lemmas.Map.Made.{length-le_from_is_member}
use Rattle.num_domain.specs.Domain.{Domain}
use Rattle.num_domain.specs.Ends.{is_point}
use Rattle.memory_plan.specs.Plans.{PlanLines, in_code}
use Rattle.viper_word.specs.Options.{bind}
use Rattle.viper_decode.specs.declared.instructions.Source.{Source}
use Rattle.viper_decode.specs.declared.instructions.Place.{Place}
use Rattle.viper_decode.specs.declared.instructions.Work.{Work}
use Rattle.viper_decode.specs.declared.instructions.Side.{Side}
use Rattle.viper_decode.specs.declared.instructions.Instruction.{Instruction}
use Rattle.viper_decode.specs.declared.instructions.Instruction.TheVariants.{Compare, Assign, Jump, Output, Store}
use Rattle.flag_relation.specs.Facts.{FactOf, values}
use Rattle.abs_step.specs.declared.outcome.Cond.TheVariants.{C5}
use Rattle.abs_step.specs.Addresses.{passing, find_cell}
use Rattle.abs_step.specs.Results.{is_call, addressed, result_value}
use Rattle.abs_step.specs.OutcomeLists.{OutcomeOf, each, live, outcome, all_same}
use Rattle.abs_step.specs.Outcomes.{linked, linked_posts, is_target, jumps, performed, taken_side, skipped_side, instruction_outcomes}
use Rattle.abs_step.specs.Stores.{Spot, spot, stored, store_one, store_one_posts, store_several, store_several_posts}
use Rattle.abs_step.specs.Conditions.{targets_lawful, c5, side_keeps, if_there, instruction_keeps, instruction_at, keeps, outcomes_at, outcomes}
use Rattle.abs_step.specs.Walks.{is_point_at}
use Rattle.abs_step.proofs.JumpRoom.{few_targets}
use Rattle.abs_step.proofs.OutcomeRoom.{one_outcome, one_of_each}
use Rattle.certifier.proofs.Standing.{less_is}

-- ---- lists

fewer_pass : (p q : ℕ → Bool) → ((n : ℕ) → p n ≡ true → q n ≡ true) → (at n : ℕ) → length (passing p at n) ≤ length (passing q at n)
unfolding passing
fewer_pass p q f at zero = omega arith
fewer_pass p q f at (suc n) = by (p at) (q at) (f at) (passing p (suc at) n) (passing q (suc at) n) (fewer_pass p q f (suc at) n)
  where
    by : (b c : Bool) → (b ≡ true → c ≡ true) → (ps qs : List ℕ) → length ps ≤ length qs → length (cond b (at ∷ ps) ps) ≤ length (cond c (at ∷ qs) qs)
    by true true g ps qs h = omega arith
    by true false g ps qs h = absurd (false≢true (g refl))
    by false true g ps qs h = omega arith
    by false false g ps qs h = h

flat_few : {A B : Type 0} (f : A → List B) → ((a : A) → length (f a) ≤ 1) → (xs : List A) → length (flat_map f xs) ≤ length xs
flat_few f h [] = omega arith
flat_few f h (x ∷ xs) =
    let first = h x in
    let rest = flat_few f h xs in
    let both = length-append (f x) (flat_map f xs) in
    omega (arith, first, rest, both)

distinct_from : (xs : List ℕ) → IsStrictlySortedBy nat_cmp xs → IsDistinct nat_eq xs
unfolding IsStrictlySortedBy IsDistinct
distinct_from [] h = tt
distinct_from (x ∷ xs) h = (apart xs h.0, distinct_from xs h.1)
  where
    apart : (ys : List ℕ) → AllByRecursion (λ y. nat_cmp x y ≡ Less) ys → AllByRecursion (λ y. nat_eq x y ≡ false) ys
    apart [] l = tt
    apart (y ∷ ys) l = let under = less_is x y l.0 in (grind arith, apart ys l.1)

-- a set of numbers has no more than they are
pub set_few : (s ns : List ℕ) → IsStrictlySortedBy nat_cmp s → ((n : ℕ) → list_any (nat_eq n) s ≡ list_any (nat_eq n) ns) → length s ≤ length ns
set_few s ns up same = length-le_from_is_member nat_eq_equiv s ns (distinct_from s up) (λ q h. sym (same q) ∙ h)

-- ---- outcomes

module _ {T : Type 0} (d : Domain T) (plan : PlanLines) (cells : List ℕ) (at : ℕ) where
  jumps_few : (call : Bool) (f : FactOf T) (v : T) → targets_lawful d plan (Some v) ≡ true → length (jumps d plan cells at call f v) ≤ 64
  unfolding jumps is_target
  jumps_few call f v h =
      let all = few_targets d plan v h in
      let some = fewer_pass (is_target d plan v) (is_point_at d v) (λ n t. both (is_point d v (pos n)) (in_code plan n) t) 0 (2 ^ 20) in
      let flat = flat_few (λ n. outcome d n f (linked d call at f) (linked_posts d call cells)) (λ n. one_outcome d n f (linked d call at f) (linked_posts d call cells)) (passing (is_target d plan v) 0 (2 ^ 20)) in
      omega (arith, all, some, flat)
    where
      both : (b c : Bool) → (b && c) ≡ true → b ≡ true
      both true c t = refl
      both false c t = absurd (false≢true t)

  jump_few : (side : Side) (w : Work) (f : FactOf T) (o : Option T) → targets_lawful d plan o ≡ true → length (each o (λ v. jumps d plan cells at (is_call w) f v)) ≤ 64
  jump_few side w f None h = omega arith
  jump_few side w f (Some v) h = jumps_few (is_call w) f v h

  one_if : (b : Bool) (os : List (OutcomeOf T)) → length os ≤ 1 → length (cond b os []) ≤ 1
  one_if true os h = h
  one_if false os h = omega arith

  wide : (os : List (OutcomeOf T)) → length os ≤ 1 → length os ≤ 64
  wide os h = omega arith

  two_few : (os ps : List (OutcomeOf T)) → length os ≤ 1 → length ps ≤ 1 → length (os ++ ps) ≤ 64
  two_few os ps h k = let both = length-append os ps in omega (arith, both)

  stored_few : (s : Source) (p : Place) (g : FactOf T) (q : Spot) → length (stored d cells at g s p q) ≤ 64
  unfolding stored
  stored_few s p g q =
      let to = addressed d p (values g) in
      let one = λ (n : ℕ). outcome d (at + 1) g (store_one d at g s (find_cell cells n)) (store_one_posts d cells s (find_cell cells n)) in
      let more = outcome d (at + 1) g (store_several d to cells at g s) (store_several_posts d to cells) in
      two_few (each q.one one) (cond q.several more [])
      (one_of_each q.one one (λ n. one_outcome d (at + 1) g (store_one d at g s (find_cell cells n)) (store_one_posts d cells s (find_cell cells n))))
      (one_if q.several more (one_outcome d (at + 1) g (store_several d to cells at g s) (store_several_posts d to cells)))

  performed_few : (i : Instruction) (g : FactOf T) → c5 d plan cells at i g ≡ true → length (performed d plan cells at i g) ≤ 64
  unfolding performed c5
  performed_few (Compare joined k s o) g h = wide _ (one_of_each _ _ (λ _. one_outcome d (at + 1) g _ _))
  performed_few (Assign r w) g h = wide _ (one_of_each _ _ (λ v. one_outcome d (at + 1) g _ _))
  performed_few (Jump side w) g h = jump_few side w g (result_value d plan cells at (values g) g.flag w) h
  performed_few (Output s p) g h = wide _ (one_if _ _ (one_outcome d (at + 1) g g _))
  performed_few (Store s p) g h = stored_few s p g (spot d p (values g))

  taken_few : (i : Instruction) (o : Option (FactOf T)) → if_there d o (λ g. side_keeps d plan cells at i C5 g) ≡ true → length (each o (λ g. performed d plan cells at i g)) ≤ 64
  unfolding side_keeps
  taken_few i None h = omega arith
  taken_few i (Some g) h = performed_few i g h

  sides_few : (i : Instruction) (g : FactOf T) → if_there d (taken_side d i g) (λ g. side_keeps d plan cells at i C5 g) ≡ true → length (instruction_outcomes d plan cells at i g) ≤ 65
  unfolding instruction_outcomes
  sides_few i g h =
      let skip = λ (k : FactOf T). outcome d (at + 1) k k (all_same cells) in
      let take = λ (k : FactOf T). performed d plan cells at i k in
      let one : length (each (skipped_side d i g) skip) ≤ 1 = one_of_each (skipped_side d i g) skip (λ k. one_outcome d (at + 1) k k (all_same cells)) in
      let rest : length (each (taken_side d i g) take) ≤ 64 = taken_few i (taken_side d i g) h in
      let both : length (each (skipped_side d i g) skip ++ each (taken_side d i g) take) ≡ length (each (skipped_side d i g) skip) + length (each (taken_side d i g) take) =
      length-append (each (skipped_side d i g) skip) (each (taken_side d i g) take) in
      omega (arith, one, rest, both)

  from_few : (i : Option Instruction) (o : Option (FactOf T)) → if_there d i (λ j. if_there d (bind o (λ g. taken_side d j g)) (λ g. side_keeps d plan cells at j C5 g)) ≡ true
      → length (outcomes_at d plan cells at i o) ≤ 65
  from_few None o h = omega arith
  from_few (Some i) None h = omega arith
  from_few (Some i) (Some g) h = sides_few i g h

  pub outcomes_few : (f : FactOf T) → keeps d plan cells at C5 f ≡ true → length (outcomes d plan cells at f) ≤ 65
  unfolding outcomes keeps instruction_keeps
  outcomes_few f h = from_few (instruction_at plan at) (live d f) h
