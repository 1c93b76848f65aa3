-- Functions that refine values: they keep a state, they only shrink, they are monotone. Each is shown
-- of the parts, and carries over to what comes after one another.
use Rattle.std.specs.Prelude.{ℤ, List, [], ◌∷◌, Option, Some, IfSome, IsSomeAnd}
use Rattle.num_domain.specs.Domain.{Domain, Has, Below}
use Rattle.num_domain.specs.Laws.{DomainLaws}
use Rattle.viper_word.specs.Options.{bind}
use Rattle.viper_word.proofs.Options.{some_bind, all_bind, bind_mono, all_some}
use Rattle.flag_relation.specs.Values.{Values, Pairwise}
use Rattle.flag_relation.specs.Facts.{MeetsValues}
use Rattle.flag_relation.specs.Order.{BelowValues}
use Rattle.flag_relation.specs.Laws.{BelowSome}

module _ {T : Type 0} (d : Domain T) where
  pub record Shrinks (f : Values T → Option (Values T)) : Type 0 where
    pub below : (v : Values T) → IfSome (f v) (λ w. BelowValues d w v)

  -- numbers of which `holds` is true aren't lost
  pub record Keeps (holds : Values ℤ → Type 0) (f : Values T → Option (Values T)) : Type 0 where
    pub sound : (v : Values T) (e : Values ℤ) → holds e → MeetsValues d v e → IsSomeAnd (f v) (λ w. MeetsValues d w e)

  -- what the second gives of larger values is larger
  pub record Grows (f f' : Values T → Option (Values T)) : Type 0 where
    pub mono : (v v' : Values T) → BelowValues d v v' → BelowSome d (f v) (f' v')

  module _ (laws : DomainLaws d) where
    pairs_refl : (vs : List T) → Pairwise (Below d) vs vs
    pairs_refl [] = tt
    pairs_refl (v ∷ vs) = (laws.order.refl v, pairs_refl vs)

    pairs_trans : (us vs ws : List T) → Pairwise (Below d) us vs → Pairwise (Below d) vs ws → Pairwise (Below d) us ws
    pairs_trans [] [] [] h k = tt
    pairs_trans [] [] (w ∷ ws) h k = k
    pairs_trans [] (v ∷ vs) ws h k = absurd h
    pairs_trans (u ∷ us) [] ws h k = absurd h
    pairs_trans (u ∷ us) (v ∷ vs) [] h k = absurd k
    pairs_trans (u ∷ us) (v ∷ vs) (w ∷ ws) h k = (laws.order.trans u v w h.0 k.0, pairs_trans us vs ws h.1 k.1)

    pairs_has : (vs ws : List T) (ns : List ℤ) → Pairwise (Below d) vs ws → Pairwise (Has d) vs ns → Pairwise (Has d) ws ns
    pairs_has [] [] [] h k = tt
    pairs_has [] [] (n ∷ ns) h k = k
    pairs_has [] (w ∷ ws) ns h k = absurd h
    pairs_has (v ∷ vs) [] ns h k = absurd h
    pairs_has (v ∷ vs) (w ∷ ws) [] h k = absurd k
    pairs_has (v ∷ vs) (w ∷ ws) (n ∷ ns) h k = (laws.order.has v w n h.0 k.0, pairs_has vs ws ns h.1 k.1)

    pub values_refl : (v : Values T) → BelowValues d v v
    values_refl v = record { regs = record { a = laws.order.refl v.regs.a; x = laws.order.refl v.regs.x; y = laws.order.refl v.regs.y }; cells = pairs_refl v.cells }

    pub values_trans : (u v w : Values T) → BelowValues d u v → BelowValues d v w → BelowValues d u w
    values_trans u v w h k = record {
      regs = record { a = laws.order.trans u.regs.a v.regs.a w.regs.a h.regs.a k.regs.a; x = laws.order.trans u.regs.x v.regs.x w.regs.x h.regs.x k.regs.x; y = laws.order.trans u.regs.y v.regs.y w.regs.y h.regs.y k.regs.y };
      cells = pairs_trans u.cells v.cells w.cells h.cells k.cells;
    }

    -- a state that meets values meets larger ones
    pub values_has : (v w : Values T) (e : Values ℤ) → BelowValues d v w → MeetsValues d v e → MeetsValues d w e
    values_has v w e h k = record {
      regs = record { a = laws.order.has v.regs.a w.regs.a e.regs.a h.regs.a k.regs.a; x = laws.order.has v.regs.x w.regs.x e.regs.x h.regs.x k.regs.x; y = laws.order.has v.regs.y w.regs.y e.regs.y h.regs.y k.regs.y };
      cells = pairs_has v.cells w.cells e.cells h.cells k.cells;
    }

    pub some_shrinks : Shrinks (λ v. Some v)
    some_shrinks = record { below = λ v. values_refl v }

    pub some_keeps : (holds : Values ℤ → Type 0) → Keeps holds (λ v. Some v)
    some_keeps holds = record { sound = λ v e h k. k }

    pub some_grows : Grows (λ v. Some v) (λ v. Some v)
    some_grows = record { mono = λ v v' h. h }

    -- where the larger side does nothing
    pub shrinks_grows : (f : Values T → Option (Values T)) → Shrinks f → Grows f (λ v. Some v)
    shrinks_grows f s = record { mono = λ v v' h. all_some (λ w. BelowValues d w v) (λ w. BelowValues d w v') (f v) (s.below v) (λ w k. values_trans w v v' k h) }

    pub then_shrinks : (f g : Values T → Option (Values T)) → Shrinks f → Shrinks g → Shrinks (λ v. bind (f v) g)
    then_shrinks f g s t = record {
      below = λ v. all_bind (λ w. BelowValues d w v) (λ w. BelowValues d w v) (f v) g (s.below v)
          (λ u h. all_some (λ w. BelowValues d w u) (λ w. BelowValues d w v) (g u) (t.below u) (λ w k. values_trans w u v k h));
    }

    pub then_keeps : (holds : Values ℤ → Type 0) (f g : Values T → Option (Values T)) → Keeps holds f → Keeps holds g → Keeps holds (λ v. bind (f v) g)
    then_keeps holds f g s t = record {
      sound = λ v e h k. some_bind (λ w. MeetsValues d w e) (λ w. MeetsValues d w e) (f v) g (s.sound v e h k) (λ u m. t.sound u e h m);
    }

    pub then_grows : (f f' g g' : Values T → Option (Values T)) → Grows f f' → Grows g g' → Grows (λ v. bind (f v) g) (λ v. bind (f' v) g')
    then_grows f f' g g' s t = record {
      mono = λ v v' h. bind_mono (BelowValues d) (BelowValues d) (f v) (f' v') g g' (s.mono v v' h) (λ u u' k. t.mono u u' k);
    }
