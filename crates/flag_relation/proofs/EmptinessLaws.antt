-- A fact that some state meets isn't empty, and neither is a larger one than one that isn't.
use Rattle.std.specs.Prelude.{◌≡◌, ℤ, int_le, Bool, true, false, not, ◌&&◌, List, [], ◌∷◌, Option, Some, None, IfSome, IsSomeAnd}
use Rattle.std.proofs.Common.{refl, ap, subst, sym, ◌∙◌, to_z, of_z, w64}
use Rattle.std.proofs.Math.Path.{ap₂}
use Rattle.std.proofs.lemmas.Bool.{and_parts, and_from, false≢true, not-false}
use Rattle.viper_word.specs.Words.{IsSigned, least_signed, greatest_signed}
use Rattle.num_domain.specs.Domain.{Domain, Has, Below}
use Rattle.num_domain.specs.Laws.{DomainLaws}
use Rattle.num_domain.specs.Ends.{Ends, Between, Within, ends_when, ends}
use Rattle.viper_word.specs.Options.{bind}
use Rattle.num_domain.proofs.EndsLaws.{ends_has, ends_grow}
use Rattle.flag_relation.specs.Values.{Values, Regs, RelatedRegs, Pairwise}
use Rattle.flag_relation.specs.Facts.{FactOf, values, Meets}
use Rattle.flag_relation.specs.Order.{BelowFact}
use Rattle.flag_relation.specs.Emptiness.{are_there, has_ends, regs_have_ends, cells_have_ends, is_empty}
use Rattle.viper_word.proofs.SignedCode.{outer}

some_there : (P : Ends → Type 0) (o : Option Ends) → IsSomeAnd o P → are_there o ≡ true
some_there P None h = absurd h
some_there P (Some r) h = refl

there_grows : (P : Ends → Ends → Type 0) (o o' : Option Ends) → IfSome o (λ r. IsSomeAnd o' (P r)) → are_there o ≡ true → are_there o' ≡ true
there_grows P None o' h t = absurd (false≢true t)
there_grows P (Some r) o' h t = some_there (P r) o' h

when_there : (lo hi : ℤ) (b : Bool) (e : int_le lo hi ≡ b) → are_there (ends_when lo hi b e) ≡ b
unfolding ends_when
when_there lo hi true e = refl
when_there lo hi false e = refl

some_signed : (o : Option ℤ) (z : ℤ) → IfSome o IsSigned → o ≡ Some z → IsSigned z
some_signed o z h e = let k : IfSome (Some z) IsSigned = subst (λ (q : Option ℤ). IfSome q IsSigned) e h in k

module _ {T : Type 0} (d : Domain T) (laws : DomainLaws d) where
  -- the test of the ends that were found, as words
  pub ends_found : (v : T) (lo hi : ℤ) → d.least_from v least_signed ≡ Some lo → d.greatest_to v greatest_signed ≡ Some hi → int_le (to_z w64 (of_z w64 lo)) (to_z w64 (of_z w64 hi)) ≡ has_ends d v
  unfolding ends
  ends_found v lo hi e f =
      let l = some_signed (d.least_from v least_signed) lo (laws.spans.least_in_w v least_signed) e in
      let h = some_signed (d.greatest_to v greatest_signed) hi (laws.spans.greatest_in_w v greatest_signed) f in
      ap₂ int_le (outer lo l) (outer hi h)
      ∙ subst (λ (o : Option ℤ). int_le lo hi ≡ are_there (bind o (λ a. bind (d.greatest_to v greatest_signed) (λ b. ends_when a b (int_le a b) refl)))) (sym e)
      (subst (λ (q : Option ℤ). int_le lo hi ≡ are_there (bind q (λ b. ends_when lo b (int_le lo b) refl))) (sym f) (sym (when_there lo hi (int_le lo hi) refl)))

  met : (v : T) (n : ℤ) → Has d v n → has_ends d v ≡ true
  met v n h = some_there (λ r. Between r n) (ends d v) (ends_has d laws v n h)

  grows : (v w : T) → Below d v w → has_ends d v ≡ true → has_ends d w ≡ true
  grows v w h t = there_grows Within (ends d v) (ends d w) (ends_grow d laws v w h) t

  cells_met : (vs : List T) (ns : List ℤ) → Pairwise (Has d) vs ns → cells_have_ends d vs ≡ true
  unfolding cells_have_ends
  cells_met [] ns h = refl
  cells_met (v ∷ vs) [] h = absurd h
  cells_met (v ∷ vs) (n ∷ ns) h = and_from (has_ends d v) (cells_have_ends d vs) (met v n h.0) (cells_met vs ns h.1)

  cells_grow : (vs ws : List T) → Pairwise (Below d) vs ws → cells_have_ends d vs ≡ true → cells_have_ends d ws ≡ true
  unfolding cells_have_ends
  cells_grow [] [] h t = refl
  cells_grow [] (w ∷ ws) h t = absurd h
  cells_grow (v ∷ vs) [] h t = absurd h
  cells_grow (v ∷ vs) (w ∷ ws) h t =
      let p = and_parts (has_ends d v) (cells_have_ends d vs) t in
      and_from (has_ends d w) (cells_have_ends d ws) (grows v w h.0 p.0) (cells_grow vs ws h.1 p.1)

  regs_grow : (v w : Regs T) → RelatedRegs (Below d) v w → regs_have_ends d v ≡ true → regs_have_ends d w ≡ true
  regs_grow v w h t =
      let p = and_parts (has_ends d v.a && has_ends d v.x) (has_ends d v.y) t in
      let q = and_parts (has_ends d v.a) (has_ends d v.x) p.0 in
      and_from _ _ (and_from _ _ (grows v.a w.a h.a q.0) (grows v.x w.x h.x q.1)) (grows v.y w.y h.y p.1)

  pub met_not_empty : (f : FactOf T) (e : Values ℤ) (b : Bool) → Meets d f e b → is_empty d f ≡ false
  unfolding is_empty
  met_not_empty f e b h =
      let m = h.values in
      ap not (and_from _ _ (and_from _ _ (and_from _ _ (met f.a e.regs.a m.regs.a) (met f.x e.regs.x m.regs.x)) (met f.y e.regs.y m.regs.y)) (cells_met f.cells e.cells m.cells))

  pub larger_not_empty : (f g : FactOf T) → BelowFact d f g → is_empty d f ≡ false → is_empty d g ≡ false
  unfolding is_empty
  larger_not_empty f g h t =
      let p = and_parts (regs_have_ends d (values f).regs) (cells_have_ends d f.cells) (not-false _ t) in
      ap not (and_from _ _ (regs_grow (values f).regs (values g).regs h.values.regs p.0) (cells_grow f.cells g.cells h.values.cells p.1))
