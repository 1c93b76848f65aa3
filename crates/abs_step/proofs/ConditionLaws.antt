-- A condition that holds of a larger fact holds of the smaller one.
use Rattle.std.specs.Prelude.{◌≡◌, ℕ, ◌≤◌, ℤ, pos, ◌-◌, ◌^◌, ◌+ℤ◌, int_le, Bool, true, false, not, ◌&&◌, ◌||◌, nat_le, nat_lt, List, length, Option, Some, None, IfSome, IsSomeAnd}
use Rattle.std.specs.Ordering.{int_eq}
use Rattle.std.proofs.Common.{refl, arith}
use Rattle.std.proofs.lemmas.Int.{ints}
use Rattle.std.proofs.lemmas.Bool.{and_parts, and_from}
use Rattle.std.proofs.lemmas.Bool.Decides.{nat_tests}
use Rattle.viper_word.specs.Words.{least_signed, greatest_signed}
use Rattle.num_domain.specs.Domain.{Domain, Below, BelowOption}
use Rattle.num_domain.specs.Laws.{DomainLaws}
use Rattle.viper_word.specs.Options.{bind}
use Rattle.viper_word.proofs.Options.{bind_mono}
use Rattle.viper_word.proofs.Integers.{le_true, true_le, less_true, true_less}
use Rattle.num_domain.specs.Ends.{Ends, Within, ends, is_point}
use Rattle.num_domain.proofs.EndsLaws.{ends_grow, points_grow}
use Rattle.viper_word.specs.Ranges.{NumberRange}
use Rattle.memory_plan.specs.Ranges.{Span}
use Rattle.memory_plan.specs.Plans.{PlanLines, in_code}
use Rattle.flag_relation.specs.Values.{Values, reg}
use Rattle.flag_relation.specs.Facts.{FactOf, values}
use Rattle.flag_relation.specs.Order.{BelowValues, BelowFact}
use Rattle.flag_relation.proofs.ValueLemmas.{reg_related}
use Rattle.viper_word.specs.declared.profile.Profile.{Profile}
use Rattle.viper_word.specs.declared.profile.Profile.TheVariants as profile
use Rattle.abs_step.specs.declared.outcome.Cond.{Cond}
use Rattle.abs_step.specs.declared.outcome.Cond.TheVariants.{H1, H2, C1, C2, C3, C4, C5, C6, C7, C8, C9, C10, C11}
use Rattle.abs_step.specs.Addresses.{passing, some_passes, passes_at, in_spans}
use Rattle.memory_plan.specs.Plans.{range_at}
use Rattle.abs_step.specs.Results.{in_memory, ends_within, addressed, source_value, operand_value, result_value}
use Rattle.abs_step.specs.OutcomeLists.{live}
use Rattle.abs_step.specs.Outcomes.{taken_side}
use Rattle.abs_step.specs.Conditions.{sums_within, less_within, twice_within, above_least, each_address, in_range, each_allows, operand_lawful, work_lawful, c3, ends_of, function_exact, move_exact, work_exact, c4, targets_lawful, c5, c6, c7, side_keeps, if_there, instruction_keeps, instruction_at, keeps}
use Rattle.abs_step.proofs.AddressLaws.{and_grows, not_falls, none_falls, passing_count}
use Rattle.abs_step.proofs.ResultLaws.{addressed_grows, source_grows, operand_grows, result_grows}
use Rattle.abs_step.proofs.OutcomeLaws.{live_some}
use Rattle.abs_step.proofs.OutcomesGrow.{taken_below}
use Rattle.viper_decode.specs.declared.instructions.Place.{Place}
use Rattle.viper_decode.specs.declared.instructions.Place.TheVariants.{At, Index}
use Rattle.viper_decode.specs.declared.instructions.Operand.{Operand}
use Rattle.viper_decode.specs.declared.instructions.Operand.TheVariants.{Literal, Memory, Peripheral}
use Rattle.viper_decode.specs.declared.instructions.Function.{Function}
use Rattle.viper_decode.specs.declared.instructions.Function.TheVariants.{Neg, Call, Inp, Read, Addb, Adds, Subb, Subs, Xor, And, Nor, Andn}
use Rattle.viper_decode.specs.declared.instructions.Shift.{Shift}
use Rattle.viper_decode.specs.declared.instructions.Shift.TheVariants as shift
use Rattle.viper_decode.specs.declared.instructions.Work.{Work}
use Rattle.viper_decode.specs.declared.instructions.Work.TheVariants.{Apply, Move}
use Rattle.viper_decode.specs.declared.instructions.Instruction.{Instruction}
use Rattle.viper_decode.specs.declared.instructions.Instruction.TheVariants.{Compare, Assign, Jump, Output, Store}

-- ---- ends

-- wider ends, where the first are there
abbrev pub Wider : Option Ends → Option Ends → Type 0
Wider e e' = IfSome e (λ r. IsSomeAnd e' (λ r'. Within r r'))

within_falls : (e e' : Option Ends) (base lo hi : ℤ) → Wider e e' → ends_within e' base lo hi ≡ true → ends_within e base lo hi ≡ true
within_falls None e' base lo hi h k = refl
within_falls (Some e) None base lo hi h k = absurd h
within_falls (Some e) (Some e') base lo hi h k =
    let p = and_parts (int_le lo (base +ℤ e'.lo)) (int_le (base +ℤ e'.hi) hi) k in
    let a = le_true lo (base +ℤ e'.lo) p.0 in
    let b = le_true (base +ℤ e'.hi) hi p.1 in
    let l = h.lo in
    let u = h.hi in
    and_from _ _ (true_le lo (base +ℤ e.lo) (omega (arith, ints))) (true_le (base +ℤ e.hi) hi (omega (arith, ints)))

sums_fall : (e e' q q' : Option Ends) → Wider e e' → Wider q q' → sums_within e' q' ≡ true → sums_within e q ≡ true
sums_fall None e' q q' h k m = refl
sums_fall (Some e) None q q' h k m = absurd h
sums_fall (Some e) (Some e') None q' h k m = refl
sums_fall (Some e) (Some e') (Some q) None h k m = absurd k
sums_fall (Some e) (Some e') (Some q) (Some q') h k m =
    let p = and_parts (ends_within (Some q') e'.lo least_signed greatest_signed) (ends_within (Some q') e'.hi least_signed greatest_signed) m in
    let p0 = and_parts (int_le least_signed (e'.lo +ℤ q'.lo)) (int_le (e'.lo +ℤ q'.hi) greatest_signed) p.0 in
    let p1 = and_parts (int_le least_signed (e'.hi +ℤ q'.lo)) (int_le (e'.hi +ℤ q'.hi) greatest_signed) p.1 in
    let a = le_true least_signed (e'.lo +ℤ q'.lo) p0.0 in
    let b = le_true (e'.hi +ℤ q'.hi) greatest_signed p1.1 in
    let o = e.order in
    let o' = q.order in
    let l = h.lo in
    let u = h.hi in
    let l' = k.lo in
    let u' = k.hi in
    and_from _ _
    (and_from _ _ (true_le least_signed (e.lo +ℤ q.lo) (omega (arith, ints))) (true_le (e.lo +ℤ q.hi) greatest_signed (omega (arith, ints))))
    (and_from _ _ (true_le least_signed (e.hi +ℤ q.lo) (omega (arith, ints))) (true_le (e.hi +ℤ q.hi) greatest_signed (omega (arith, ints))))

less_falls : (e e' q q' : Option Ends) → Wider e e' → Wider q q' → less_within e' q' ≡ true → less_within e q ≡ true
less_falls None e' q q' h k m = refl
less_falls (Some e) None q q' h k m = absurd h
less_falls (Some e) (Some e') None q' h k m = refl
less_falls (Some e) (Some e') (Some q) None h k m = absurd k
less_falls (Some e) (Some e') (Some q) (Some q') h k m =
    let p = and_parts (int_le (least_signed +ℤ q'.hi) e'.lo) (int_le e'.hi (greatest_signed +ℤ q'.lo)) m in
    let a = le_true (least_signed +ℤ q'.hi) e'.lo p.0 in
    let b = le_true e'.hi (greatest_signed +ℤ q'.lo) p.1 in
    let l = h.lo in
    let u = h.hi in
    let l' = k.lo in
    let u' = k.hi in
    and_from _ _ (true_le (least_signed +ℤ q.hi) e.lo (omega (arith, ints))) (true_le e.hi (greatest_signed +ℤ q.lo) (omega (arith, ints)))

twice_falls : (e e' : Option Ends) → Wider e e' → twice_within e' ≡ true → twice_within e ≡ true
twice_falls None e' h m = refl
twice_falls (Some e) None h m = absurd h
twice_falls (Some e) (Some e') h m =
    let p = and_parts (int_le least_signed (e'.lo +ℤ e'.lo)) (int_le (e'.hi +ℤ e'.hi) greatest_signed) m in
    let a = le_true least_signed (e'.lo +ℤ e'.lo) p.0 in
    let b = le_true (e'.hi +ℤ e'.hi) greatest_signed p.1 in
    let l = h.lo in
    let u = h.hi in
    and_from _ _ (true_le least_signed (e.lo +ℤ e.lo) (omega (arith, ints))) (true_le (e.hi +ℤ e.hi) greatest_signed (omega (arith, ints)))

above_falls : (e e' : Option Ends) → Wider e e' → above_least e' ≡ true → above_least e ≡ true
above_falls None e' h m = refl
above_falls (Some e) None h m = absurd h
above_falls (Some e) (Some e') h m =
    let a = less_true least_signed e'.lo m in
    let l = h.lo in
    true_less least_signed e.lo (omega (arith, ints))

small_le : (m n : ℕ) → m ≤ n → nat_le n 64 ≡ true → nat_le m 64 ≡ true
small_le m n h k = grind (arith, nat_tests)

or_falls : (x y y' : Bool) → (y' ≡ true → y ≡ true) → (x || y') ≡ true → (x || y) ≡ true
or_falls true y y' f h = refl
or_falls false y y' f h = f h

module _ {T : Type 0} (d : Domain T) (laws : DomainLaws d) where
  each_falls : (p : Place) (v v' : Values T) (ok ok' : ℕ → Bool) → BelowValues d v v' → ((n : ℕ) → ok' n ≡ true → ok n ≡ true) → each_address d p v' ok' ≡ true → each_address d p v ok ≡ true
  unfolding each_address
  each_falls (At a) v v' ok ok' h f k = and_grows (nat_lt a (2 ^ 20)) (ok' a) (nat_lt a (2 ^ 20)) (ok a) (λ e. e) (f a) k
  each_falls (Index a r) v v' ok ok' h f k =
      and_grows (ends_within (ends d (reg v' r)) (pos a) (pos 0) (pos (2 ^ 20 - 1))) _ (ends_within (ends d (reg v r)) (pos a) (pos 0) (pos (2 ^ 20 - 1))) _
      (within_falls (ends d (reg v r)) (ends d (reg v' r)) (pos a) (pos 0) (pos (2 ^ 20 - 1)) (ends_grow d laws (reg v r) (reg v' r) (reg_related (Below d) v v' h r)))
      (none_falls (λ n. addressed d (Index a r) v n && not (ok n)) (λ n. addressed d (Index a r) v' n && not (ok' n)) 0 (2 ^ 20)
      (λ n. and_grows (addressed d (Index a r) v n) (not (ok n)) (addressed d (Index a r) v' n) (not (ok' n)) (addressed_grows d laws (Index a r) v v' h n) (not_falls (ok' n) (ok n) (f n))))
      k

  range_falls : (v v' : T) (r : NumberRange) → Below d v v' → in_range d v' r ≡ true → in_range d v r ≡ true
  range_falls v v' r h =
      and_grows (ends_within (ends d v') (pos 0) r.lo r.hi) _ (ends_within (ends d v) (pos 0) r.lo r.hi) _
      (within_falls (ends d v) (ends d v') (pos 0) r.lo r.hi (ends_grow d laws v v' h))
      (or_falls (int_eq r.lo r.hi) (d.all_on v r.modulus r.residue) (d.all_on v' r.modulus r.residue) (laws.order.all_on_mono v v' r.modulus r.residue h))

  passes_fall : (o : Option NumberRange) (p q : NumberRange → Bool) → ((r : NumberRange) → p r ≡ true → q r ≡ true) → some_passes p o ≡ true → some_passes q o ≡ true
  passes_fall None p q f h = h
  passes_fall (Some r) p q f h = f r h

  allows_falls : (spans : List Span) (p : Place) (v v' : Values T) (w w' : T) → BelowValues d v v' → Below d w w' → each_allows d spans p v' w' ≡ true → each_allows d spans p v w ≡ true
  allows_falls spans p v v' w w' h k =
      each_falls p v v' (λ n. passes_at spans (λ r. in_range d w r) n) (λ n. passes_at spans (λ r. in_range d w' r) n) h
      (λ n. passes_fall (range_at spans n) (λ r. in_range d w' r) (λ r. in_range d w r) (λ r. range_falls w w' r k))

  operand_falls : (plan : PlanLines) (v v' : Values T) (o : Operand) → BelowValues d v v' → operand_lawful d plan v' o ≡ true → operand_lawful d plan v o ≡ true
  unfolding operand_lawful
  operand_falls plan v v' (Literal n) h k = k
  operand_falls plan v v' (Memory p) h k = each_falls p v v' (λ n. in_memory plan n) (λ n. in_memory plan n) h (λ n e. e) k
  operand_falls plan v v' (Peripheral p) h k = each_falls p v v' (λ n. in_spans plan.inputs n) (λ n. in_spans plan.inputs n) h (λ n e. e) k

  work_falls : (plan : PlanLines) (v v' : Values T) (w : Work) → BelowValues d v v' → work_lawful d plan v' w ≡ true → work_lawful d plan v w ≡ true
  work_falls plan v v' (Apply f s o) h k = operand_falls plan v v' o h k
  work_falls plan v v' (Move m s) h k = k

  pub c3_falls : (plan : PlanLines) (instruction : Instruction) (v v' : Values T) → BelowValues d v v' → c3 d plan instruction v' ≡ true → c3 d plan instruction v ≡ true
  unfolding c3
  c3_falls plan (Compare joined k s o) v v' h m = operand_falls plan v v' o h m
  c3_falls plan (Assign r w) v v' h m = work_falls plan v v' w h m
  c3_falls plan (Jump side w) v v' h m = work_falls plan v v' w h m
  c3_falls plan (Output s p) v v' h m = refl
  c3_falls plan (Store s p) v v' h m = refl

  wider_of : (o o' : Option T) → BelowOption d o o' → Wider (ends_of d o) (ends_of d o')
  wider_of o o' h = bind_mono (Below d) Within o o' (λ m. ends d m) (λ m. ends d m) h (λ m m' k. ends_grow d laws m m' k)

  function_falls : (pr : Profile) (f : Function) (e e' q q' : Option Ends) → Wider e e' → Wider q q' → function_exact d pr f e' q' ≡ true → function_exact d pr f e q ≡ true
  unfolding function_exact
  function_falls pr Adds e e' q q' h k m = sums_fall e e' q q' h k m
  function_falls pr Subs e e' q q' h k m = less_falls e e' q q' h k m
  function_falls profile.One Neg e e' q q' h k m = refl
  function_falls profile.Two Neg e e' q q' h k m = above_falls q q' k m
  function_falls pr Call e e' q q' h k m = refl
  function_falls pr Inp e e' q q' h k m = refl
  function_falls pr Read e e' q q' h k m = refl
  function_falls pr Addb e e' q q' h k m = refl
  function_falls pr Subb e e' q q' h k m = refl
  function_falls pr Xor e e' q q' h k m = refl
  function_falls pr And e e' q q' h k m = refl
  function_falls pr Nor e e' q q' h k m = refl
  function_falls pr Andn e e' q q' h k m = refl

  move_falls : (s : Shift) (e e' : Option Ends) → Wider e e' → move_exact d s e' ≡ true → move_exact d s e ≡ true
  unfolding move_exact
  move_falls shift.Right e e' h m = refl
  move_falls shift.RightThroughB e e' h m = refl
  move_falls shift.Left e e' h m = twice_falls e e' h m
  move_falls shift.LeftThroughB e e' h m = refl

  exact_falls : (plan : PlanLines) (cells : List ℕ) (at : ℕ) (w : Work) (v v' : Values T) → BelowValues d v v' → work_exact d plan cells at v' w ≡ true → work_exact d plan cells at v w ≡ true
  unfolding work_exact
  exact_falls plan cells at (Apply f s o) v v' h m =
      function_falls plan.profile f (ends d (source_value d at v s)) (ends d (source_value d at v' s)) (ends_of d (operand_value d plan cells v o)) (ends_of d (operand_value d plan cells v' o))
      (ends_grow d laws (source_value d at v s) (source_value d at v' s) (source_grows d laws at v v' s h)) (wider_of (operand_value d plan cells v o) (operand_value d plan cells v' o) (operand_grows d laws plan cells v v' o h)) m
  exact_falls plan cells at (Move k s) v v' h m = move_falls k (ends d (source_value d at v s)) (ends d (source_value d at v' s)) (ends_grow d laws (source_value d at v s) (source_value d at v' s) (source_grows d laws at v v' s h)) m

  pub c4_falls : (plan : PlanLines) (cells : List ℕ) (at : ℕ) (instruction : Instruction) (v v' : Values T) → BelowValues d v v' → c4 d plan cells at instruction v' ≡ true → c4 d plan cells at instruction v ≡ true
  unfolding c4
  c4_falls plan cells at (Compare joined k s o) v v' h m = refl
  c4_falls plan cells at (Assign r w) v v' h m = exact_falls plan cells at w v v' h m
  c4_falls plan cells at (Jump side w) v v' h m = exact_falls plan cells at w v v' h m
  c4_falls plan cells at (Output s p) v v' h m = refl
  c4_falls plan cells at (Store s p) v v' h m = refl

  targets_fall : (plan : PlanLines) (o o' : Option T) → BelowOption d o o' → targets_lawful d plan o' ≡ true → targets_lawful d plan o ≡ true
  unfolding targets_lawful
  targets_fall plan None o' h m = refl
  targets_fall plan (Some v) None h m = absurd h
  targets_fall plan (Some v) (Some v') h m =
      let grows = λ (n : ℕ). points_grow d laws v v' (pos n) h in
      and_grows (ends_within (ends d v') (pos 0) (pos 0) (pos (2 ^ 20 - 1))) _ (ends_within (ends d v) (pos 0) (pos 0) (pos (2 ^ 20 - 1))) _
      (within_falls (ends d v) (ends d v') (pos 0) (pos 0) (pos (2 ^ 20 - 1)) (ends_grow d laws v v' h))
      (and_grows _ _ _ _
      (small_le (length (passing (λ n. is_point d v (pos n)) 0 (2 ^ 20))) (length (passing (λ n. is_point d v' (pos n)) 0 (2 ^ 20))) (passing_count (λ n. is_point d v (pos n)) (λ n. is_point d v' (pos n)) 0 (2 ^ 20) grows))
      (none_falls (λ n. is_point d v (pos n) && not (in_code plan n)) (λ n. is_point d v' (pos n) && not (in_code plan n)) 0 (2 ^ 20)
      (λ n. and_grows (is_point d v (pos n)) (not (in_code plan n)) (is_point d v' (pos n)) (not (in_code plan n)) (grows n) (λ e. e))))
      m

  pub c5_falls : (plan : PlanLines) (cells : List ℕ) (at : ℕ) (instruction : Instruction) (f g : FactOf T) → BelowFact d f g → c5 d plan cells at instruction g ≡ true → c5 d plan cells at instruction f ≡ true
  unfolding c5
  c5_falls plan cells at (Compare joined k s o) f g h m = refl
  c5_falls plan cells at (Assign r w) f g h m = refl
  c5_falls plan cells at (Jump side w) f g h m = targets_fall plan (result_value d plan cells at (values f) f.flag w) (result_value d plan cells at (values g) g.flag w) (result_grows d laws plan cells at (values f) (values g) f.flag g.flag w h.values h.flag) m
  c5_falls plan cells at (Output s p) f g h m = refl
  c5_falls plan cells at (Store s p) f g h m = refl

  pub c6_falls : (plan : PlanLines) (at : ℕ) (instruction : Instruction) (v v' : Values T) → BelowValues d v v' → c6 d plan at instruction v' ≡ true → c6 d plan at instruction v ≡ true
  unfolding c6
  c6_falls plan at (Compare joined k s o) v v' h m = refl
  c6_falls plan at (Assign r w) v v' h m = refl
  c6_falls plan at (Jump side w) v v' h m = refl
  c6_falls plan at (Output s p) v v' h m = refl
  c6_falls plan at (Store s p) v v' h m = allows_falls plan.«data» p v v' (source_value d at v s) (source_value d at v' s) h (source_grows d laws at v v' s h) m

  pub c7_falls : (plan : PlanLines) (at : ℕ) (instruction : Instruction) (v v' : Values T) → BelowValues d v v' → c7 d plan at instruction v' ≡ true → c7 d plan at instruction v ≡ true
  unfolding c7
  c7_falls plan at (Compare joined k s o) v v' h m = refl
  c7_falls plan at (Assign r w) v v' h m = refl
  c7_falls plan at (Jump side w) v v' h m = refl
  c7_falls plan at (Output s p) v v' h m = allows_falls plan.outputs p v v' (source_value d at v s) (source_value d at v' s) h (source_grows d laws at v v' s h) m
  c7_falls plan at (Store s p) v v' h m = refl

  side_falls : (plan : PlanLines) (cells : List ℕ) (at : ℕ) (instruction : Instruction) (c : Cond) (f g : FactOf T) → BelowFact d f g → side_keeps d plan cells at instruction c g ≡ true → side_keeps d plan cells at instruction c f ≡ true
  unfolding side_keeps
  side_falls plan cells at instruction C3 f g h m = c3_falls plan instruction (values f) (values g) h.values m
  side_falls plan cells at instruction C4 f g h m = c4_falls plan cells at instruction (values f) (values g) h.values m
  side_falls plan cells at instruction C5 f g h m = c5_falls plan cells at instruction f g h m
  side_falls plan cells at instruction C6 f g h m = c6_falls plan at instruction (values f) (values g) h.values m
  side_falls plan cells at instruction C7 f g h m = c7_falls plan at instruction (values f) (values g) h.values m
  side_falls plan cells at instruction H1 f g h m = refl
  side_falls plan cells at instruction H2 f g h m = refl
  side_falls plan cells at instruction C1 f g h m = refl
  side_falls plan cells at instruction C2 f g h m = refl
  side_falls plan cells at instruction C8 f g h m = refl
  side_falls plan cells at instruction C9 f g h m = refl
  side_falls plan cells at instruction C10 f g h m = refl
  side_falls plan cells at instruction C11 f g h m = refl

  there_falls : (o o' : Option (FactOf T)) (p : FactOf T → Bool) → IfSome o (λ f. IsSomeAnd o' (λ g. BelowFact d f g)) → ((f g : FactOf T) → BelowFact d f g → p g ≡ true → p f ≡ true) → if_there d o' p ≡ true → if_there d o p ≡ true
  there_falls None o' p h k m = refl
  there_falls (Some f) None p h k m = absurd h
  there_falls (Some f) (Some g) p h k m = k f g h m

  instruction_falls : (plan : PlanLines) (cells : List ℕ) (at : ℕ) (instruction : Instruction) (c : Cond) (f g : FactOf T) → BelowFact d f g → instruction_keeps d plan cells at instruction c g ≡ true → instruction_keeps d plan cells at instruction c f ≡ true
  unfolding instruction_keeps
  instruction_falls plan cells at instruction c f g h =
      there_falls (bind (live d f) (λ u. taken_side d instruction u)) (bind (live d g) (λ u. taken_side d instruction u)) (λ u. side_keeps d plan cells at instruction c u)
      (bind_mono (BelowFact d) (BelowFact d) (live d f) (live d g) (λ u. taken_side d instruction u) (λ u. taken_side d instruction u) (live_some d laws f g h) (λ u u' k. taken_below d laws instruction u u' k))
      (λ u u' k. side_falls plan cells at instruction c u u' k)

  at_falls : (o : Option Instruction) (p q : Instruction → Bool) → ((s : Instruction) → p s ≡ true → q s ≡ true) → if_there d o p ≡ true → if_there d o q ≡ true
  at_falls None p q f h = h
  at_falls (Some s) p q f h = f s h

  shapes_fall : (plan : PlanLines) (cells : List ℕ) (at : ℕ) (c : Cond) (f g : FactOf T) → BelowFact d f g → if_there d (instruction_at plan at) (λ instruction. instruction_keeps d plan cells at instruction c g) ≡ true → if_there d (instruction_at plan at) (λ instruction. instruction_keeps d plan cells at instruction c f) ≡ true
  shapes_fall plan cells at c f g h = at_falls (instruction_at plan at) (λ instruction. instruction_keeps d plan cells at instruction c g) (λ instruction. instruction_keeps d plan cells at instruction c f) (λ instruction. instruction_falls plan cells at instruction c f g h)

  pub keeps_falls : (plan : PlanLines) (cells : List ℕ) (at : ℕ) (c : Cond) (f g : FactOf T) → BelowFact d f g → keeps d plan cells at c g ≡ true → keeps d plan cells at c f ≡ true
  unfolding keeps
  keeps_falls plan cells at C1 f g h m = m
  keeps_falls plan cells at C2 f g h m = m
  keeps_falls plan cells at H1 f g h m = shapes_fall plan cells at H1 f g h m
  keeps_falls plan cells at H2 f g h m = shapes_fall plan cells at H2 f g h m
  keeps_falls plan cells at C3 f g h m = shapes_fall plan cells at C3 f g h m
  keeps_falls plan cells at C4 f g h m = shapes_fall plan cells at C4 f g h m
  keeps_falls plan cells at C5 f g h m = shapes_fall plan cells at C5 f g h m
  keeps_falls plan cells at C6 f g h m = shapes_fall plan cells at C6 f g h m
  keeps_falls plan cells at C7 f g h m = shapes_fall plan cells at C7 f g h m
  keeps_falls plan cells at C8 f g h m = shapes_fall plan cells at C8 f g h m
  keeps_falls plan cells at C9 f g h m = shapes_fall plan cells at C9 f g h m
  keeps_falls plan cells at C10 f g h m = shapes_fall plan cells at C10 f g h m
  keeps_falls plan cells at C11 f g h m = shapes_fall plan cells at C11 f g h m
