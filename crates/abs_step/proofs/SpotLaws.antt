-- The one address of an indexed place, as code finds it.
use Rattle.std.specs.Prelude.{◌≡◌, ℕ, ◌^◌, ◌-◌, ℤ, pos, ◌-ℤ◌, ◌+ℤ◌, int_le, nat_abs, Bool, true, false, ◌&&◌, cond, Option, Some, None}
use Rattle.std.specs.Ordering.{int_eq}
use Rattle.std.proofs.Common.{refl, arith, sym, ◌∙◌, ap}
use Rattle.std.proofs.lemmas.Int.{ints}
use Rattle.std.proofs.lemmas.Bool.{and_parts}
use Rattle.viper_word.specs.Options.{bind}
use Rattle.viper_word.proofs.Integers.{le_true}
use Rattle.viper_word.specs.declared.reg.Reg.{Reg}
use Rattle.num_domain.specs.Domain.{Domain}
use Rattle.num_domain.specs.Ends.{Ends, ends, is_point}
use Rattle.flag_relation.specs.Values.{Values, reg}
use Rattle.viper_decode.specs.declared.instructions.Place.TheVariants.{Index}
use Rattle.abs_step.specs.Addresses.{any_from}
use Rattle.abs_step.specs.Results.{addressed}
use Rattle.abs_step.specs.Stores.{Spot, lawful_at, index_spot, spot}
use Rattle.abs_step.specs.Walks.{both}
use Rattle.abs_step.proofs.PointLaws.{low_of, high_of, int_same}

module _ {T : Type 0} (d : Domain T) where
  at_ends : (a : ℕ) (o : Option Ends) (p : ℤ → Bool) (s : Bool) (lo hi : ℤ) → Some (lo, hi) ≡ both o → lo ≡ hi → (index_spot d a o p s).one ≡ cond (p lo) (lawful_at d (pos a +ℤ lo)) None
  at_ends a None p s lo hi e h = absurd (cc)
  at_ends a (Some r) p s lo hi e h = by_ends r.lo r.hi (sym (ap low_of e)) (sym (ap high_of e))
    where
      by_ends : (x y : ℤ) → x ≡ lo → y ≡ hi → (cond {A = Spot} (int_eq x y) (record { one = cond (p x) (lawful_at d (pos a +ℤ x)) None; several = false }) (record { one = None; several = s })).one ≡ cond (p lo) (lawful_at d (pos a +ℤ lo)) None
      by_ends x y f g =
          ap (λ (b : Bool). (cond {A = Spot} b (record { one = cond (p x) (lawful_at d (pos a +ℤ x)) None; several = false }) (record { one = None; several = s })).one) (ap (λ (z : ℤ). int_eq x z) (g ∙ sym h ∙ sym f) ∙ int_same x)
          ∙ ap (λ (z : ℤ). cond (p z) (lawful_at d (pos a +ℤ z)) None) f

  at_address : (a : ℕ) (p : ℤ → Bool) (lo : ℤ) → cond (p lo) (lawful_at d (pos a +ℤ lo)) None ≡ bind (lawful_at d (pos a +ℤ lo)) (λ n. cond (p (pos n -ℤ pos a)) (Some n) None)
  at_address a p lo = by_test (int_le (pos 0) (pos a +ℤ lo) && int_le (pos a +ℤ lo) (pos (2 ^ 20 - 1))) refl
    where
      none_of : (b : Bool) → cond {A = Option ℕ} b None None ≡ None
      none_of true = refl
      none_of false = refl

      by_test : (b : Bool) → (int_le (pos 0) (pos a +ℤ lo) && int_le (pos a +ℤ lo) (pos (2 ^ 20 - 1))) ≡ b → cond (p lo) (cond b (Some (nat_abs (pos a +ℤ lo))) None) None ≡ bind (cond b (Some (nat_abs (pos a +ℤ lo))) None) (λ n. cond (p (pos n -ℤ pos a)) (Some n) None)
      by_test true e =
          let t = and_parts (int_le (pos 0) (pos a +ℤ lo)) (int_le (pos a +ℤ lo) (pos (2 ^ 20 - 1))) e in
          let up = le_true (pos 0) (pos a +ℤ lo) t.0 in
          let same : lo ≡ (pos (nat_abs (pos a +ℤ lo)) -ℤ pos a) = omega (arith, ints) in
          ap (λ (z : ℤ). cond (p z) (Some (nat_abs (pos a +ℤ lo))) None) same
      by_test false e = none_of (p lo)

  pub one_index : (a : ℕ) (r : Reg) (v : Values T) (lo hi z : ℤ) → Some (lo, hi) ≡ both (ends d (reg v r)) → lo ≡ hi → z ≡ (pos a +ℤ lo) → (spot d (Index a r) v).one ≡ bind (lawful_at d z) (λ n. cond (addressed d (Index a r) v n) (Some n) None)
  unfolding spot addressed
  one_index a r v lo hi z e h s =
      at_ends a (ends d (reg v r)) (is_point d (reg v r)) (any_from (addressed d (Index a r) v) 0 (2 ^ 20)) lo hi e h
      ∙ at_address a (is_point d (reg v r)) lo
      ∙ ap (λ (y : ℤ). bind (lawful_at d y) (λ n. cond (is_point d (reg v r) (pos n -ℤ pos a)) (Some n) None)) (sym s)
