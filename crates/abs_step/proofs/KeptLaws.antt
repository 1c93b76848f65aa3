-- A step that is allowed keeps the code words and the ranges of data.
use Rattle.std.specs.Prelude.{◌≡◌, ℕ, ℤ, pos, ◌+ℤ◌, ◌≤ℤ◌, Bool, true, false, ◌||◌, cond, nat_eq, Option, Some, None}
use Rattle.std.specs.Ordering.{int_eq}
use Rattle.std.proofs.Common.{refl, arith, sym, subst, ◌∙◌, ⊎_elim}
use Rattle.std.proofs.lemmas.Int.{ints}
use Rattle.std.proofs.lemmas.Bool.{and_parts, false≢true, cases_Bool, eqb-true}
use Rattle.viper_word.specs.Words.{IsSigned}
use Rattle.num_domain.specs.Domain.{Domain, Has}
use Rattle.num_domain.specs.Laws.{DomainLaws}
use Rattle.viper_word.specs.Ranges.{OnStep}
use Rattle.num_domain.specs.Ends.{ends}
use Rattle.num_domain.proofs.EndsLaws.{ends_has}
use Rattle.viper_word.specs.Ranges.{NumberRange}
use Rattle.memory_plan.specs.Plans.{PlanLines, in_code}
use Rattle.abs_step.specs.Addresses.{some_passes, passes_at}
use Rattle.memory_plan.specs.Plans.{range_at}
use Rattle.abs_step.specs.Results.{ends_within}
use Rattle.abs_step.specs.Conditions.{in_range}
use Rattle.abs_step.proofs.Performing.{InRangeOf, IsKeptBy, put_at}
use Rattle.abs_step.proofs.ResultCover.{within_from}
use Rattle.viper_word.proofs.Integers.{eq_true}

-- the residue and the low end are of one step; several numbers have a modulus
pub record IsSpaced (r : NumberRange) : Type 0 where
  pub several : int_eq r.lo r.hi ≡ false → pos 1 ≤ℤ r.modulus
  pub from_low : (z : ℤ) → OnStep r.modulus r.residue z → OnStep r.modulus r.lo z

first_on : (q t n : ℤ) → n ≡ t → OnStep q t n
first_on q t n e = record { steps = pos 0; holds = omega (arith, ints) }

module _ {T : Type 0} (d : Domain T) (laws : DomainLaws d) where
  -- a member of a value that lies in a range is a number of the range
  pub in_range_has : (w : T) (r : NumberRange) (z : ℤ) → IsSpaced r → in_range d w r ≡ true → Has d w z → InRangeOf r z
  in_range_has w r z f h k =
      let p = and_parts (ends_within (ends d w) (pos 0) r.lo r.hi) _ h in
      let b = within_from (ends d w) (pos 0) r.lo r.hi z p.0 (ends_has d laws w z k) in
      let b0 : r.lo ≤ℤ (pos 0 +ℤ z) = b.0 in
      let b1 : (pos 0 +ℤ z) ≤ℤ r.hi = b.1 in
      let low : r.lo ≤ℤ z = omega (arith, ints) in
      let high : z ≤ℤ r.hi = omega (arith, ints) in
      record {
        low = low;
        high = high;
        step = ⊎_elim (λ (e : int_eq r.lo r.hi ≡ true). let i = eq_true r.lo r.hi e in first_on r.modulus r.lo z (omega (arith, ints)))
            (λ (e : int_eq r.lo r.hi ≡ false). f.from_low z (laws.spans.all_on_sound w r.modulus r.residue z (f.several e) k (second (int_eq r.lo r.hi) (d.all_on w r.modulus r.residue) e p.1))) (cases_Bool (int_eq r.lo r.hi));
      }
    where
      second : (x y : Bool) → x ≡ false → (x || y) ≡ true → y ≡ true
      second true y e h = absurd (false≢true (sym e))
      second false y e h = h

  -- after a store that C6 allows
  pub store_keeps : (plan : PlanLines) (mem : ℕ → ℤ) (n : ℕ) (w : T) (z : ℤ) → IsKeptBy plan mem → ((k : ℕ) → in_code plan k ≡ true → range_at plan.«data» k ≡ None) → ((k : ℕ) (r : NumberRange) → range_at plan.«data» k ≡ Some r → IsSpaced r) → passes_at plan.«data» (λ r. in_range d w r) n ≡ true → Has d w z → IsKeptBy plan (put_at mem n z)
  store_keeps plan mem n w z kept apart spaced h k = record {
    signed = λ i. signed_at i (nat_eq n i);
    code = λ i v c e. let q = kept.code i v c e in (other i (nat_eq n i) refl c ∙ q.0, q.1);
    ranges = λ i r e. by_test i r e (nat_eq n i) refl;
  }
    where
      signed_at : (i : ℕ) (b : Bool) → IsSigned (cond b z (mem i))
      signed_at i true = laws.order.in_w w z k
      signed_at i false = kept.signed i

      not_code : in_code plan n ≡ true → ⊥
      not_code c = false≢true (subst (λ (o : Option NumberRange). some_passes (λ r. in_range d w r) o ≡ true) (apart n c) h)

      other : (i : ℕ) (b : Bool) → nat_eq n i ≡ b → in_code plan i ≡ true → cond b z (mem i) ≡ mem i
      other i true e c = absurd (not_code (subst (λ (j : ℕ). in_code plan j ≡ true) (sym (eqb-true n i e)) c))
      other i false e c = refl

      stored_in : (r : NumberRange) → range_at plan.«data» n ≡ Some r → InRangeOf r z
      stored_in r e = in_range_has w r z (spaced n r e) (subst (λ (o : Option NumberRange). some_passes (λ r. in_range d w r) o ≡ true) e h) k

      by_test : (i : ℕ) (r : NumberRange) → range_at plan.«data» i ≡ Some r → (b : Bool) → nat_eq n i ≡ b → InRangeOf r (cond b z (mem i))
      by_test i r e true t = stored_in r (subst (λ (j : ℕ). range_at plan.«data» j ≡ Some r) (sym (eqb-true n i t)) e)
      by_test i r e false t = kept.ranges i r e
