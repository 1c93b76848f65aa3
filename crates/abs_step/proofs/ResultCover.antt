-- Operands and results have the machine's numbers.
use Rattle.std.specs.Prelude.{◌≡◌, ℕ, ◌+◌, ◌-◌, ◌^◌, ◌<◌, ◌≤◌, ℤ, pos, neg_ℤ, nat_abs, ◌+ℤ◌, ◌-ℤ◌, ◌≤ℤ◌, ◌<ℤ◌, int_le, Bool, true, false, not, ◌&&◌, ◌||◌, cond, nat_eq, nat_le, nat_lt, List, [], ◌∷◌, map, Option, Some, None, IsSome, IsSomeAnd, ◌⊎◌, bit_and, bit_or, bit_xor}
use Rattle.std.specs.Ordering.{int_eq}
use Rattle.std.specs.Int.{w32, cast_unsigned}
use Rattle.std.specs.List.{list_any}
use Rattle.std.proofs.Common.{refl, arith, sym, subst, ◌∙◌, ⊎_elim, inl, inr, suc, zero}
use Rattle.std.proofs.Math.Nat.{eq-or-lt_of_le}
use Rattle.std.proofs.lemmas.Int.{ints}
use Rattle.std.proofs.lemmas.Nat.{and_le_l, xor_lt}
use Rattle.std.proofs.lemmas.Bool.{and_parts, and_from, false≢true, cases_Bool, eqb-true, or_cases, not_from_false, not-true, leb-true, ltb-true}
use Rattle.std.proofs.lemmas.Bool.Decides.{nat_tests}
use Rattle.std.proofs.lemmas.Option.{same_Some}
use Rattle.viper_word.specs.Words.{IsWord, IsSigned, signed_value, least_signed, greatest_signed}
use Rattle.viper_word.specs.Signed.{signed_xor, signed_and, signed_nor, signed_and_not}
use Rattle.viper_word.proofs.SignedLemmas.{wrapped_in_w, unsigned_below, halved_in_w, shifted_left_in_w, shifted_right_in_w}
use Rattle.num_domain.specs.Domain.{Domain, Has, MayBe}
use Rattle.num_domain.specs.Laws.{DomainLaws}
use Rattle.viper_word.specs.Options.{bind}
use Rattle.viper_word.proofs.Integers.{le_true, true_le, true_is_signed, less_true}
use Rattle.num_domain.specs.Ends.{Ends, Between, ends, is_point}
use Rattle.num_domain.proofs.EndsLaws.{ends_has, point_has}
use Rattle.viper_word.specs.Ranges.{NumberRange}
use Rattle.memory_plan.specs.Ranges.{Span}
use Rattle.memory_plan.specs.Plans.{PlanLines, in_code, word_at}
use Rattle.flag_relation.specs.declared.flag.Flag.{Flag}
use Rattle.flag_relation.specs.declared.flag.Flag.TheVariants.{Any, One, Or}
use Rattle.flag_relation.specs.Values.{Values, Pairwise, reg, at_reg}
use Rattle.flag_relation.specs.Facts.{MeetsValues, FlagSays}
use Rattle.flag_relation.proofs.ValueLemmas.{reg_related}
use Rattle.abs_step.specs.Addresses.{any_from, in_spans, is_tracked}
use Rattle.memory_plan.specs.Plans.{has_address, range_at}
use Rattle.abs_step.specs.Results.{known_bit, in_memory, ends_within, given, or_value, join_all, addressed, cell_sources, span_meets, span_sources, word_source, words_from, read_code, read_memory, read_input, source_value, operand_value, apply, move, result_value}
use Rattle.abs_step.specs.Conditions.{sums_within, less_within, twice_within, above_least, each_address, operand_lawful, work_lawful, ends_of, function_exact, move_exact, work_exact}
use Rattle.abs_step.proofs.Performing.{Numbers, env, lawful, place_number, source_number, operand_number, exactly, function_number, moved, result_number, AllItems, IsRangeOf, InRangeOf, IsPlanOf, IsKeptBy, IsFair}
use Rattle.viper_word.specs.declared.profile.Profile.{Profile}
use Rattle.viper_word.specs.declared.profile.Profile.TheVariants as profile
use Rattle.abs_step.proofs.AddressLaws.{any_from_at}
use Rattle.viper_decode.specs.declared.instructions.Source.{Source}
use Rattle.viper_decode.specs.declared.instructions.Source.TheVariants.{Of, AfterP}
use Rattle.viper_decode.specs.declared.instructions.Place.{Place}
use Rattle.viper_decode.specs.declared.instructions.Place.TheVariants.{At, Index}
use Rattle.viper_decode.specs.declared.instructions.Operand.{Operand}
use Rattle.viper_decode.specs.declared.instructions.Operand.TheVariants.{Literal, Memory, Peripheral}
use Rattle.viper_decode.specs.declared.instructions.Function.{Function}
use Rattle.viper_decode.specs.declared.instructions.Function.TheVariants.{Neg, Call, Inp, Read, Addb, Adds, Subb, Subs, Xor, And, Nor, Andn}
use Rattle.viper_decode.specs.declared.instructions.Shift.{Shift}
use Rattle.viper_decode.specs.declared.instructions.Shift.TheVariants as shift
use Rattle.viper_decode.specs.declared.instructions.Work.{Work}
use Rattle.viper_decode.specs.declared.instructions.Work.TheVariants.{Apply, Move}
use Rattle.viper_word.proofs.SignedCode.{word_signed}
use Rattle.viper_word.proofs.Options.{some_bind_is}

-- ---- tests

pub self_eq : (n : ℕ) → nat_eq n n ≡ true
self_eq n = grind (arith, nat_tests)

pub none_at : (p q : ℕ → Bool) (n : ℕ) → n < 2 ^ 20 → not (any_from (λ k. p k && not (q k)) 0 (2 ^ 20)) ≡ true → p n ≡ true → q n ≡ true
none_at p q n h k e =
    ⊎_elim (λ (t : q n ≡ true). t)
    (λ (t : q n ≡ false). absurd (false≢true (sym (not-true (any_from (λ k. p k && not (q k)) 0 (2 ^ 20)) k) ∙ any_from_at (λ k. p k && not (q k)) 0 (2 ^ 20) n (omega arith) (omega arith) (and_from _ _ e (not_from_false (q n) t))))) (cases_Bool (q n))

pub lawful_some : (z : ℤ) (P : ℕ → Type 0) → pos 0 ≤ℤ z → z ≤ℤ pos (2 ^ 20 - 1) → P (nat_abs z) → IsSomeAnd (lawful z) P
lawful_some z P h k m = rw (and_from _ _ (true_le (pos 0) z h) (true_le z (pos (2 ^ 20 - 1)) k)) m

pub within_from : (o : Option Ends) (base lo hi n : ℤ) → ends_within o base lo hi ≡ true → IsSomeAnd o (λ r. Between r n) → (lo ≤ℤ (base +ℤ n)) × ((base +ℤ n) ≤ℤ hi)
within_from None base lo hi n h k = absurd k
within_from (Some r) base lo hi n h k =
    let p = and_parts (int_le lo (base +ℤ r.lo)) (int_le (base +ℤ r.hi) hi) h in
    let a = le_true lo (base +ℤ r.lo) p.0 in
    let b = le_true (base +ℤ r.hi) hi p.1 in
    let x = k.lo in
    let y = k.hi in
    (omega (arith, ints), omega (arith, ints))

-- ---- results are words'

xor_in_w : (x y : ℤ) → IsSigned x → IsSigned y → IsSigned (signed_xor x y)
unfolding signed_xor
xor_in_w x y h k = word_signed (bit_xor (cast_unsigned w32 x) (cast_unsigned w32 y)) (xor_lt 32 (cast_unsigned w32 x) (cast_unsigned w32 y) (unsigned_below x h) (unsigned_below y k))

and_in_w : (x y : ℤ) → IsSigned x → IsSigned (signed_and x y)
unfolding signed_and
and_in_w x y h = let a = and_le_l (cast_unsigned w32 x) (cast_unsigned w32 y) in let b = unsigned_below x h in word_signed (bit_and (cast_unsigned w32 x) (cast_unsigned w32 y)) (omega arith)

nor_in_w : (x y : ℤ) → IsSigned (signed_nor x y)
unfolding signed_nor
nor_in_w x y = word_signed (2 ^ 32 - 1 - bit_or (cast_unsigned w32 x) (cast_unsigned w32 y)) (omega arith)

and_not_in_w : (x y : ℤ) → IsSigned x → IsSigned (signed_and_not x y)
unfolding signed_and_not
and_not_in_w x y h = let a = and_le_l (cast_unsigned w32 x) (2 ^ 32 - 1 - cast_unsigned w32 y) in let b = unsigned_below x h in word_signed (bit_and (cast_unsigned w32 x) (2 ^ 32 - 1 - cast_unsigned w32 y)) (omega arith)

pub exactly_some : (z : ℤ) (P : ℤ → Type 0) → IsSigned z → P z → IsSomeAnd (exactly z) P
exactly_some z P h k = rw (true_is_signed z h) k

sums_from : (e q : Option Ends) (x y : ℤ) → sums_within e q ≡ true → IsSomeAnd e (λ r. Between r x) → IsSomeAnd q (λ r. Between r y) → IsSigned (x +ℤ y)
sums_from None q x y h k m = absurd k
sums_from (Some e) None x y h k m = absurd m
sums_from (Some e) (Some q) x y h k m =
    let p = and_parts (ends_within (Some q) e.lo least_signed greatest_signed) (ends_within (Some q) e.hi least_signed greatest_signed) h in
    let a = within_from (Some q) e.lo least_signed greatest_signed y p.0 m in
    let b = within_from (Some q) e.hi least_signed greatest_signed y p.1 m in
    let a0 = a.0 in
    let b1 = b.1 in
    let k0 = k.lo in
    let k1 = k.hi in
    record { low = omega (arith, ints); high = omega (arith, ints) }

less_from : (e q : Option Ends) (x y : ℤ) → less_within e q ≡ true → IsSomeAnd e (λ r. Between r x) → IsSomeAnd q (λ r. Between r y) → IsSigned (x -ℤ y)
less_from None q x y h k m = absurd k
less_from (Some e) None x y h k m = absurd m
less_from (Some e) (Some q) x y h k m =
    let p = and_parts (int_le (least_signed +ℤ q.hi) e.lo) (int_le e.hi (greatest_signed +ℤ q.lo)) h in
    let a = le_true (least_signed +ℤ q.hi) e.lo p.0 in
    let b = le_true e.hi (greatest_signed +ℤ q.lo) p.1 in
    let k0 = k.lo in
    let k1 = k.hi in
    let m0 = m.lo in
    let m1 = m.hi in
    record { low = omega (arith, ints); high = omega (arith, ints) }

twice_from : (e : Option Ends) (x : ℤ) → twice_within e ≡ true → IsSomeAnd e (λ r. Between r x) → IsSigned (x +ℤ x)
twice_from None x h k = absurd k
twice_from (Some e) x h k =
    let p = and_parts (int_le least_signed (e.lo +ℤ e.lo)) (int_le (e.hi +ℤ e.hi) greatest_signed) h in
    let a = le_true least_signed (e.lo +ℤ e.lo) p.0 in
    let b = le_true (e.hi +ℤ e.hi) greatest_signed p.1 in
    let k0 = k.lo in
    let k1 = k.hi in
    record { low = omega (arith, ints); high = omega (arith, ints) }

above_from : (e : Option Ends) (x : ℤ) → above_least e ≡ true → IsSomeAnd e (λ r. Between r x) → int_eq x least_signed ≡ false
above_from None x h k = absurd k
above_from (Some e) x h k = let a = less_true least_signed e.lo h in let k0 = k.lo in not_eq x least_signed (omega (arith, ints))
  where
    not_eq : (x y : ℤ) → y <ℤ x → int_eq x y ≡ false
    not_eq x y h = grind (arith, ints)

-- ---- ranges at an address

range_there : (ss : List Span) (n : ℕ) → in_spans ss n ≡ true → IsSomeAnd (range_at ss n) (λ r. Unit {0})
range_there [] n h = absurd (false≢true h)
range_there (s ∷ ss) n h = by_test (has_address s n) h (λ e. range_there ss n e)
  where
    by_test : (b : Bool) → (b || in_spans ss n) ≡ true → (in_spans ss n ≡ true → IsSomeAnd (range_at ss n) (λ r. Unit {0})) → IsSomeAnd (cond b (Some s.2) (range_at ss n)) (λ r. Unit {0})
    by_test true e f = tt
    by_test false e f = f e

module _ {T : Type 0} (d : Domain T) (laws : DomainLaws d) where
  abbrev pub OneHas : ℤ → List (Option T) → Type 0
  OneHas n [] = ⊥
  OneHas n (o ∷ os) = IsSomeAnd o (λ v. Has d v n) ⊎ OneHas n os

  or_value_first : (o q : Option T) (n : ℤ) → IsSomeAnd o (λ v. Has d v n) → IsSomeAnd (or_value d o q) (λ v. Has d v n)
  or_value_first None q n h = absurd h
  or_value_first (Some v) None n h = h
  or_value_first (Some v) (Some w) n h = laws.order.has v (d.join v w) n (laws.order.join_left v w) h

  or_value_second : (o q : Option T) (n : ℤ) → IsSomeAnd q (λ v. Has d v n) → IsSomeAnd (or_value d o q) (λ v. Has d v n)
  or_value_second None q n h = h
  or_value_second (Some v) None n h = absurd h
  or_value_second (Some v) (Some w) n h = laws.order.has w (d.join v w) n (laws.order.join_right v w) h

  join_all_first : (acc : Option T) (os : List (Option T)) (n : ℤ) → IsSomeAnd acc (λ v. Has d v n) → IsSomeAnd (join_all d acc os) (λ v. Has d v n)
  unfolding join_all
  join_all_first acc [] n h = h
  join_all_first acc (o ∷ os) n h = join_all_first (or_value d acc o) os n (or_value_first acc o n h)

  join_all_has : (acc : Option T) (os : List (Option T)) (n : ℤ) → OneHas n os → IsSomeAnd (join_all d acc os) (λ v. Has d v n)
  unfolding join_all
  join_all_has acc [] n h = absurd h
  join_all_has acc (o ∷ os) n h =
      ⊎_elim (λ (e : IsSomeAnd o (λ v. Has d v n)). join_all_first (or_value d acc o) os n (or_value_second acc o n e)) (λ (e : OneHas n os). join_all_has (or_value d acc o) os n e) h

  given_has : (b : Bool) (v : T) (n : ℤ) → b ≡ true → Has d v n → IsSomeAnd (given b v) (λ w. Has d w n)
  given_has true v n e h = h
  given_has false v n e h = absurd (false≢true e)

  cell_given : (p : ℕ → Bool) (mem : ℕ → ℤ) (a : ℕ) (cells : List ℕ) (vs : List T) → Pairwise (Has d) vs (map mem cells) → p a ≡ true → is_tracked cells a ≡ true → OneHas (mem a) (cell_sources d p cells vs)
  unfolding cell_sources
  cell_given p mem a [] vs h e k = absurd (false≢true k)
  cell_given p mem a (c ∷ cs) [] h e k = absurd h
  cell_given p mem a (c ∷ cs) (v ∷ vs) h e k =
      ⊎_elim (λ (t : nat_eq c a ≡ true). inl (given_has (p c) v (mem a) (subst (λ (n : ℕ). p n ≡ true) (sym (eqb-true c a t)) e) (subst (λ (n : ℕ). Has d v (mem n)) (eqb-true c a t) h.0)))
      (λ (t : is_tracked cs a ≡ true). inr (cell_given p mem a cs vs h.1 e t)) (or_cases (nat_eq c a) (is_tracked cs a) k)

  -- a number of the range at an address that passes
  span_given : (p : ℕ → Bool) (a : ℕ) (z : ℤ) (ss : List Span) (r : NumberRange) → AllItems IsRangeOf ss → p a ≡ true → range_at ss a ≡ Some r → InRangeOf r z → OneHas z (span_sources d p ss)
  unfolding span_sources
  span_given p a z [] r f e h k = absurd (cc)
  span_given p a z (s ∷ ss) r f e h k = by_test (has_address s a) refl h (λ i. span_given p a z ss r f.1 e i k)
    where
      by_test : (b : Bool) → has_address s a ≡ b → cond b (Some s.2) (range_at ss a) ≡ Some r → (range_at ss a ≡ Some r → OneHas z (span_sources d p ss)) → OneHas z (given (span_meets d p s) (d.span s.2.lo s.2.hi s.2.modulus) ∷ span_sources d p ss)
      by_test true t i j =
          let q = and_parts (nat_le s.0 a) (nat_le a s.1) t in
          let x = leb-true s.0 a q.0 in
          let y = leb-true a s.1 q.1 in
          inl (given_has (span_meets d p s) (d.span s.2.lo s.2.hi s.2.modulus) z
          (any_from_at p s.0 ((s.1 + 1) - s.0) a x (omega arith) e)
          (laws.spans.span_has s.2.lo s.2.hi s.2.modulus z f.0 (subst (λ (w : NumberRange). InRangeOf w z) (sym (same_Some s.2 r i)) k)))
      by_test false t i j = inr (j i)

  word_has : (b : Bool) (o : Option ℕ) (z : ℤ) → b ≡ true → IsSomeAnd o (λ w. (z ≡ signed_value w) × IsWord w) → IsSigned z → IsSomeAnd (word_source d b o) (λ v. Has d v z)
  word_has true None z e h k = absurd h
  word_has true (Some w) z e h k = subst (λ (n : ℤ). Has d (d.constant (signed_value w)) n) (sym h.0) (laws.order.constant_has (signed_value w) (subst IsSigned h.0 k))
  word_has false o z e h k = absurd (false≢true e)

  words_has : (plan : PlanLines) (p : ℕ → Bool) (a at n : ℕ) (z : ℤ) → at ≤ a → a < at + n → p a ≡ true → IsSomeAnd (word_at plan.image a) (λ w. (z ≡ signed_value w) × IsWord w) → IsSigned z → OneHas z (words_from d plan p at n)
  unfolding words_from
  words_has plan p a at zero z h l e k i = absurd (omega arith)
  words_has plan p a at (suc n) z h l e k i =
      ⊎_elim (λ (q : at ≡ a). inl (subst (λ (j : ℕ). IsSomeAnd (word_source d (p j) (word_at plan.image j)) (λ v. Has d v z)) (sym q) (word_has (p a) (word_at plan.image a) z e k i)))
      (λ (q : at < a). inr (words_has plan p a (suc at) n z (omega arith) (omega arith) e k i)) (eq-or-lt_of_le h)

  code_first : (plan : PlanLines) (p : ℕ → Bool) (acc : Option T) (ss : List (ℕ × ℕ)) (z : ℤ) → IsSomeAnd acc (λ v. Has d v z) → IsSomeAnd (read_code d plan p acc ss) (λ v. Has d v z)
  unfolding read_code
  code_first plan p acc [] z h = h
  code_first plan p acc (s ∷ ss) z h = code_first plan p (join_all d acc (words_from d plan p s.0 ((s.1 + 1) - s.0))) ss z (join_all_first acc (words_from d plan p s.0 ((s.1 + 1) - s.0)) z h)

  code_has : (plan : PlanLines) (p : ℕ → Bool) (a : ℕ) (acc : Option T) (ss : List (ℕ × ℕ)) (z : ℤ) → list_any (λ s. nat_le s.0 a && nat_le a s.1) ss ≡ true → p a ≡ true → IsSomeAnd (word_at plan.image a) (λ w. (z ≡ signed_value w) × IsWord w) → IsSigned z → IsSomeAnd (read_code d plan p acc ss) (λ v. Has d v z)
  unfolding read_code
  code_has plan p a acc [] z h e k i = absurd (false≢true h)
  code_has plan p a acc (s ∷ ss) z h e k i =
      let n = (s.1 + 1) - s.0 in
      ⊎_elim (λ (t : (nat_le s.0 a && nat_le a s.1) ≡ true).
      let q = and_parts (nat_le s.0 a) (nat_le a s.1) t in
      let x = leb-true s.0 a q.0 in
      let y = leb-true a s.1 q.1 in
      code_first plan p (join_all d acc (words_from d plan p s.0 n)) ss z (join_all_has acc (words_from d plan p s.0 n) z (words_has plan p a s.0 n z x (omega arith) e k i)))
      (λ (t : list_any (λ s. nat_le s.0 a && nat_le a s.1) ss ≡ true). code_has plan p a (join_all d acc (words_from d plan p s.0 n)) ss z t e k i) (or_cases (nat_le s.0 a && nat_le a s.1) _ h)

  -- a word that is read is a member of the join
  read_has : (plan : PlanLines) (p : ℕ → Bool) (mem : ℕ → ℤ) (a : ℕ) (cells : List ℕ) (vs : List T) → IsPlanOf plan → IsKeptBy plan mem → Pairwise (Has d) vs (map mem cells) → p a ≡ true → in_memory plan a ≡ true → IsSomeAnd (read_memory d plan cells p vs) (λ v. Has d v (mem a))
  unfolding read_memory
  read_has plan p mem a cells vs fits kept h e m =
      let c = join_all d None (cell_sources d p cells vs) in
      let s = join_all d c (span_sources d (λ n. p n && not (is_tracked cells n)) plan.«data») in
      ⊎_elim (λ (t : in_code plan a ≡ true). code_has plan p a s plan.code (mem a) t e (code_word (word_at plan.image a) refl (fits.words a t) t) (kept.signed a))
      (λ (t : in_code plan a ≡ false). code_first plan p s plan.code (mem a)
      (⊎_elim (λ (k : is_tracked cells a ≡ true). join_all_first c (span_sources d (λ n. p n && not (is_tracked cells n)) plan.«data») (mem a) (join_all_has None (cell_sources d p cells vs) (mem a) (cell_given p mem a cells vs h e k)))
      (λ (k : is_tracked cells a ≡ false). join_all_has c (span_sources d (λ n. p n && not (is_tracked cells n)) plan.«data») (mem a)
      (from_range (λ n. p n && not (is_tracked cells n)) (and_from _ _ e (not_from_false (is_tracked cells a) k)) (range_at plan.«data» a) refl (range_there plan.«data» a (subst (λ (b : Bool). cond b true (in_spans plan.«data» a) ≡ true) t m)))) (cases_Bool (is_tracked cells a))))
      (cases_Bool (in_code plan a))
    where
      code_word : (o : Option ℕ) → word_at plan.image a ≡ o → IsSome o → in_code plan a ≡ true → IsSomeAnd o (λ w. (mem a ≡ signed_value w) × IsWord w)
      code_word None j l t = absurd (false≢true l)
      code_word (Some w) j l t = kept.code a w t j

      from_range : (q : ℕ → Bool) → q a ≡ true → (o : Option NumberRange) → range_at plan.«data» a ≡ o → IsSomeAnd o (λ r. Unit {0}) → OneHas (mem a) (span_sources d q plan.«data»)
      from_range q i None j l = absurd l
      from_range q i (Some r) j l = span_given q a (mem a) plan.«data» r fits.«data» i j (kept.ranges a r j)

  -- the address of a place each of whose addresses passes
  pub record PlaceIs (p : Place) (v : Values T) (regs : ℤ) (ok : ℕ → Bool) (n : ℕ) : Type 0 where
    pub number : pos n ≡ regs
    pub small : n < 2 ^ 20
    pub passes : ok n ≡ true
    pub addressed : addressed d p v n ≡ true

  pub place_has : (p : Place) (v : Values T) (s : Numbers) (cells : List ℕ) (ok : ℕ → Bool) → MeetsValues d v (env cells s) → each_address d p v ok ≡ true → IsSomeAnd (lawful (place_number p s.regs)) (λ n. PlaceIs p v (place_number p s.regs) ok n)
  unfolding each_address addressed
  place_has (At a) v s cells ok h k =
      let q = and_parts (nat_lt a (2 ^ 20)) (ok a) k in
      let small = ltb-true a (2 ^ 20) q.0 in
      lawful_some (pos a) (λ n. PlaceIs (At a) v (pos a) ok n) (omega (arith, ints)) (omega (arith, ints)) (record { number = refl; small = small; passes = q.1; addressed = self_eq a })
  place_has (Index a r) v s cells ok h k =
      let x = at_reg s.regs r in
      let z = pos a +ℤ x in
      let hx = reg_related (Has d) v (env cells s) h r in
      let q = and_parts (ends_within (ends d (reg v r)) (pos a) (pos 0) (pos (2 ^ 20 - 1))) _ k in
      let b = within_from (ends d (reg v r)) (pos a) (pos 0) (pos (2 ^ 20 - 1)) x q.0 (ends_has d laws (reg v r) x hx) in
      let b0 : pos 0 ≤ℤ z = b.0 in
      let b1 : z ≤ℤ pos (2 ^ 20 - 1) = b.1 in
      let e : pos (nat_abs z) -ℤ pos a ≡ x = omega (arith, ints) in
      let small : nat_abs z < 2 ^ 20 = omega (arith, ints) in
      let at : is_point d (reg v r) (pos (nat_abs z) -ℤ pos a) ≡ true = subst (λ (y : ℤ). is_point d (reg v r) y ≡ true) (sym e) (point_has d laws (reg v r) x hx) in
      lawful_some z (λ n. PlaceIs (Index a r) v z ok n) b0 b1
      (record { number = omega (arith, ints); small = small; passes = none_at (λ n. is_point d (reg v r) (pos n -ℤ pos a)) ok (nat_abs z) small q.1 at; addressed = at })

  literal_in_w : (n : ℕ) → n < 2 ^ 21 → IsSigned (pos n)
  literal_in_w n h = record { low = omega (arith, ints); high = omega (arith, ints) }

  abbrev pub IsOperand : Operand → Type 0
  IsOperand (Literal n) = n < 2 ^ 20
  IsOperand (Memory p) = Unit {0}
  IsOperand (Peripheral p) = Unit {0}

  pub operand_has : (plan : PlanLines) (cells : List ℕ) (v : Values T) (s : Numbers) (answer : ℤ) (o : Operand) → IsOperand o → IsPlanOf plan → IsKeptBy plan s.mem → IsFair plan answer s o → MeetsValues d v (env cells s) → operand_lawful d plan v o ≡ true → IsSomeAnd (operand_number s answer o) (λ z. IsSomeAnd (operand_value d plan cells v o) (λ m. Has d m z))
  unfolding operand_number operand_value operand_lawful read_input
  operand_has plan cells v s answer (Literal n) i fits kept fair h k = laws.order.constant_has (pos n) (literal_in_w n (omega arith))
  operand_has plan cells v s answer (Memory p) i fits kept fair h k =
      some_bind_is (λ n. PlaceIs p v (place_number p s.regs) (λ n. in_memory plan n) n) _ (lawful (place_number p s.regs)) _ (place_has p v s cells (λ n. in_memory plan n) h k)
      (λ n e q. read_has plan (addressed d p v) s.mem n cells v.cells fits kept h.cells q.addressed q.passes)
  operand_has plan cells v s answer (Peripheral p) i fits kept fair h k =
      some_bind_is (λ n. PlaceIs p v (place_number p s.regs) (λ n. in_spans plan.inputs n) n) _ (lawful (place_number p s.regs)) _ (place_has p v s cells (λ n. in_spans plan.inputs n) h k)
      (λ n e q. join_all_has None (span_sources d (addressed d p v) plan.inputs) answer (from_range n e q.addressed (range_at plan.inputs n) refl (range_there plan.inputs n q.passes)))
    where
      from_range : (n : ℕ) → lawful (place_number p s.regs) ≡ Some n → addressed d p v n ≡ true → (o : Option NumberRange) → range_at plan.inputs n ≡ o → IsSomeAnd o (λ r. Unit {0}) → OneHas answer (span_sources d (addressed d p v) plan.inputs)
      from_range n e a None j l = absurd l
      from_range n e a (Some r) j l = span_given (addressed d p v) n answer plan.inputs r fits.inputs a j (fair n r e j)

  -- ---- functions

  applied_has : (pr : Profile) (f : Function) (r m : T) (x y : ℤ) → function_exact d pr f (ends d r) (ends d m) ≡ true → Has d r x → Has d m y → IsSomeAnd (function_number pr f x y) (λ z. IsSomeAnd (apply d f r m) (λ v. Has d v z))
  unfolding function_number apply function_exact
  applied_has profile.One Neg r m x y c h k = laws.sound.neg m y k (wrapped_in_w (neg_ℤ y))
  applied_has profile.Two Neg r m x y c h k = rw (above_from (ends d m) y c (ends_has d laws m y k)) (laws.sound.neg m y k (wrapped_in_w (neg_ℤ y)))
  applied_has pr Call r m x y c h k = k
  applied_has pr Inp r m x y c h k = k
  applied_has pr Read r m x y c h k = k
  applied_has pr Addb r m x y c h k = laws.sound.add_wrap r m x y h k (wrapped_in_w (x +ℤ y))
  applied_has pr Adds r m x y c h k =
      let w = sums_from (ends d r) (ends d m) x y c (ends_has d laws r x h) (ends_has d laws m y k) in
      exactly_some (x +ℤ y) (λ z. IsSomeAnd (d.add r m) (λ v. Has d v z)) w (laws.sound.add r m x y h k w)
  applied_has pr Subb r m x y c h k = laws.sound.sub_wrap r m x y h k (wrapped_in_w (x -ℤ y))
  applied_has pr Subs r m x y c h k =
      let w = less_from (ends d r) (ends d m) x y c (ends_has d laws r x h) (ends_has d laws m y k) in
      exactly_some (x -ℤ y) (λ z. IsSomeAnd (d.sub r m) (λ v. Has d v z)) w (laws.sound.sub r m x y h k w)
  applied_has pr Xor r m x y c h k = laws.sound.xor r m x y h k (xor_in_w x y (laws.order.in_w r x h) (laws.order.in_w m y k))
  applied_has pr And r m x y c h k = laws.sound.bit_and r m x y h k (and_in_w x y (laws.order.in_w r x h))
  applied_has pr Nor r m x y c h k = laws.sound.nor r m x y h k (nor_in_w x y)
  applied_has pr Andn r m x y c h k = laws.sound.and_not r m x y h k (and_not_in_w x y (laws.order.in_w r x h))

  may_be : (flag : Flag) (e : Values ℤ) (b : Bool) → FlagSays flag e b → MayBe (known_bit flag) b
  may_be Any e b h = tt
  may_be One e b h = sym h
  may_be (Or []) e b h = sym h
  may_be (Or (a ∷ atoms)) e b h = tt

  moved_has : (m : Shift) (r : T) (x : ℤ) (b : Bool) (o : Option Bool) → MayBe o b → move_exact d m (ends d r) ≡ true → Has d r x → IsSomeAnd (moved m x b) (λ z. IsSomeAnd (move d m r o) (λ v. Has d v z))
  unfolding moved move move_exact
  moved_has shift.Right r x b o t c h = laws.sound.sar r x h (halved_in_w x (laws.order.in_w r x h))
  moved_has shift.RightThroughB r x b o t c h = laws.sound.right_through r o b x h t (shifted_right_in_w b x (laws.order.in_w r x h))
  moved_has shift.Left r x b o t c h =
      let w = twice_from (ends d r) x c (ends_has d laws r x h) in
      exactly_some (x +ℤ x) (λ z. IsSomeAnd (d.shl r) (λ v. Has d v z)) w (laws.sound.shl r x h w)
  moved_has shift.LeftThroughB r x b o t c h = laws.sound.left_through r o b x h t (shifted_left_in_w b x)

  pub source_has : (v : Values T) (s : Numbers) (cells : List ℕ) (l : Source) → s.p < 2 ^ 20 → MeetsValues d v (env cells s) → Has d (source_value d s.p v l) (source_number s l)
  unfolding source_value
  source_has v s cells (Of r) i h = reg_related (Has d) v (env cells s) h r
  source_has v s cells AfterP i h = laws.order.constant_has (pos (s.p + 1)) (literal_in_w (s.p + 1) (omega arith))

  abbrev pub IsWork : Work → Type 0
  IsWork (Apply f l o) = IsOperand o
  IsWork (Move m l) = Unit {0}

  abbrev pub IsFairWork : PlanLines → ℤ → Numbers → Work → Type 0
  IsFairWork plan answer s (Apply f l o) = IsFair plan answer s o
  IsFairWork plan answer s (Move m l) = Unit {0}

  apply_some : (pr : Profile) (f : Function) (r : T) (x y : ℤ) (o : Option T) → IsSomeAnd o (λ m. Has d m y) → function_exact d pr f (ends d r) (ends_of d o) ≡ true → Has d r x → IsSomeAnd (function_number pr f x y) (λ z. IsSomeAnd (bind o (λ m. apply d f r m)) (λ v. Has d v z))
  apply_some pr f r x y None h c k = absurd h
  apply_some pr f r x y (Some m) h c k = applied_has pr f r m x y c k h

  pub result_has : (plan : PlanLines) (cells : List ℕ) (v : Values T) (flag : Flag) (s : Numbers) (answer : ℤ) (w : Work) → IsWork w → s.p < 2 ^ 20 → IsPlanOf plan → IsKeptBy plan s.mem → IsFairWork plan answer s w → MeetsValues d v (env cells s) → FlagSays flag (env cells s) s.b → work_lawful d plan v w ≡ true → work_exact d plan cells s.p v w ≡ true → IsSomeAnd (result_number plan.profile s answer w) (λ z. IsSomeAnd (result_value d plan cells s.p v flag w) (λ u. Has d u z))
  unfolding result_number result_value work_exact
  result_has plan cells v flag s answer (Apply f l o) i at fits kept fair h b c3 c4 =
      some_bind_is (λ y. IsSomeAnd (operand_value d plan cells v o) (λ m. Has d m y)) _ (operand_number s answer o) _ (operand_has plan cells v s answer o i fits kept fair h c3)
      (λ y e k. apply_some plan.profile f (source_value d s.p v l) (source_number s l) y (operand_value d plan cells v o) k c4 (source_has v s cells l at h))
  result_has plan cells v flag s answer (Move m l) i at fits kept fair h b c3 c4 =
      moved_has m (source_value d s.p v l) (source_number s l) s.b (known_bit flag) (may_be flag (env cells s) s.b b) c4 (source_has v s cells l at h)
