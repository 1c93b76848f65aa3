-- What is left where B is known: each state with that B, and more of a larger fact.
use Rattle.std.specs.Prelude.{◌≡◌, ℤ, Bool, true, false, ◌||◌, List, [], ◌∷◌, Option, Some, None, IfSome, IsSomeAnd}
use Rattle.std.specs.List.{list_any}
use Rattle.std.proofs.Common.{refl, subst, sym}
use Rattle.std.proofs.lemmas.Bool.{or_parts, false≢true}
use Rattle.num_domain.specs.Domain.{Domain}
use Rattle.num_domain.specs.Laws.{DomainLaws}
use Rattle.viper_word.proofs.Options.{some_bind, all_bind, bind_mono, all_some}
use Rattle.flag_relation.specs.declared.link.Link.{Link}
use Rattle.flag_relation.specs.declared.atom.Atom.{Atom}
use Rattle.flag_relation.specs.declared.flag.Flag.{Flag}
use Rattle.flag_relation.specs.declared.flag.Flag.TheVariants.{Any, One, Or}
use Rattle.flag_relation.specs.Values.{Values, Regs}
use Rattle.flag_relation.specs.Facts.{FactOf, values, LinksHold, FlagSays, MeetsValues, Meets, atom_holds}
use Rattle.flag_relation.specs.Order.{LinksBelow, FlagBelow, BelowValues, BelowFact}
use Rattle.flag_relation.specs.Joins.{or_join}
use Rattle.flag_relation.specs.Refining.{negate_atom, flag_of, refined, refined_by_some, refined_by_none, assumed, assume}
use Rattle.flag_relation.specs.Laws.{BelowSome}
use Rattle.flag_relation.proofs.Refiners.{Shrinks, Grows, some_shrinks, then_shrinks, then_grows, values_refl, values_trans}
use Rattle.flag_relation.proofs.AtomLaws.{negate_atom_holds, refined_shrinks, refined_keeps, refined_grows}
use Rattle.flag_relation.proofs.JoinLaws.{UpTo, or_join_below, or_join_first, or_join_second, or_join_grows}
use Rattle.flag_relation.proofs.FlagLaws.{flag_below_refl}

pub flag_of_says : (e : Values ℤ) (b : Bool) → FlagSays (flag_of b) e b
flag_of_says e true = refl
flag_of_says e false = refl

module _ {T : Type 0} (d : Domain T) (laws : DomainLaws d) where
  some_below : (links : Regs (Option Link)) (atoms : List Atom) (acc : Option (Values T)) (v : Values T) → UpTo d laws acc v → UpTo d laws (refined_by_some d links atoms acc v) v
  unfolding refined_by_some
  some_below links [] acc v h = h
  some_below links (a ∷ atoms) acc v h = some_below links atoms (or_join d acc (refined d links a v)) v (or_join_below d laws acc (refined d links a v) v h ((refined_shrinks d laws links a).below v))

  some_first : (links : Regs (Option Link)) (atoms : List Atom) (acc : Option (Values T)) (v : Values T) (e : Values ℤ) → UpTo d laws acc v → IsSomeAnd acc (λ w. MeetsValues d w e) → IsSomeAnd (refined_by_some d links atoms acc v) (λ w. MeetsValues d w e)
  unfolding refined_by_some
  some_first links [] acc v e h k = k
  some_first links (a ∷ atoms) acc v e h k =
      let s = (refined_shrinks d laws links a).below v in
      some_first links atoms (or_join d acc (refined d links a v)) v e (or_join_below d laws acc (refined d links a v) v h s) (or_join_first d laws acc (refined d links a v) v e h s k)

  some_sound : (links : Regs (Option Link)) (atoms : List Atom) (acc : Option (Values T)) (v : Values T) (e : Values ℤ) → UpTo d laws acc v → LinksHold links e → MeetsValues d v e → list_any (λ a. atom_holds e a) atoms ≡ true → IsSomeAnd (refined_by_some d links atoms acc v) (λ w. MeetsValues d w e)
  unfolding refined_by_some
  some_sound links [] acc v e h l m t = absurd (false≢true t)
  some_sound links (a ∷ atoms) acc v e h l m t = by_test (atom_holds e a) refl t (λ j. some_sound links atoms (or_join d acc (refined d links a v)) v e next l m j)
    where
      s : UpTo d laws (refined d links a v) v
      s = (refined_shrinks d laws links a).below v

      next : UpTo d laws (or_join d acc (refined d links a v)) v
      next = or_join_below d laws acc (refined d links a v) v h s

      by_test : (b : Bool) → atom_holds e a ≡ b → (b || list_any (λ x. atom_holds e x) atoms) ≡ true → (list_any (λ x. atom_holds e x) atoms ≡ true → IsSomeAnd (refined_by_some d links atoms (or_join d acc (refined d links a v)) v) (λ w. MeetsValues d w e)) → IsSomeAnd (refined_by_some d links atoms (or_join d acc (refined d links a v)) v) (λ w. MeetsValues d w e)
      by_test true i j k = some_first links atoms (or_join d acc (refined d links a v)) v e next (or_join_second d laws acc (refined d links a v) v e h s ((refined_keeps d laws links a).sound v e (l, i) m))
      by_test false i j k = k j

  joined_grows : (links links' : Regs (Option Link)) (atoms : List Atom) (acc acc' : Option (Values T)) (v v' : Values T) → LinksBelow links links' → UpTo d laws acc' v' → BelowSome d acc acc' → BelowValues d v v' → BelowSome d (refined_by_some d links atoms acc v) (refined_by_some d links' atoms acc' v')
  unfolding refined_by_some
  joined_grows links links' [] acc acc' v v' l h k m = k
  joined_grows links links' (a ∷ atoms) acc acc' v v' l h k m =
      let s' = (refined_shrinks d laws links' a).below v' in
      joined_grows links links' atoms (or_join d acc (refined d links a v)) (or_join d acc' (refined d links' a v')) v v' l (or_join_below d laws acc' (refined d links' a v') v' h s')
      (or_join_grows d laws acc (refined d links a v) acc' (refined d links' a v') v' h s' k ((refined_grows d laws links links' a l).mono v v' m)) m

  none_shrinks : (links : Regs (Option Link)) (atoms : List Atom) → Shrinks d (refined_by_none d links atoms)
  unfolding refined_by_none
  none_shrinks links [] = some_shrinks d laws
  none_shrinks links (a ∷ atoms) = then_shrinks d laws (refined d links (negate_atom a)) (refined_by_none d links atoms) (refined_shrinks d laws links (negate_atom a)) (none_shrinks links atoms)

  none_sound : (links : Regs (Option Link)) (atoms : List Atom) (v : Values T) (e : Values ℤ) → LinksHold links e → list_any (λ a. atom_holds e a) atoms ≡ false → MeetsValues d v e → IsSomeAnd (refined_by_none d links atoms v) (λ w. MeetsValues d w e)
  unfolding refined_by_none
  none_sound links [] v e l t m = m
  none_sound links (a ∷ atoms) v e l t m =
      let p = or_parts (atom_holds e a) (list_any (λ x. atom_holds e x) atoms) t in
      some_bind (λ w. MeetsValues d w e) (λ w. MeetsValues d w e) (refined d links (negate_atom a) v) _ ((refined_keeps d laws links (negate_atom a)).sound v e (l, negate_atom_holds e a p.0) m)
      (λ w h. none_sound links atoms w e l p.1 h)

  none_grows : (links links' : Regs (Option Link)) (atoms : List Atom) → LinksBelow links links' → Grows d (refined_by_none d links atoms) (refined_by_none d links' atoms)
  unfolding refined_by_none
  none_grows links links' [] l = some_grows_id
    where
      some_grows_id : Grows d (λ v. Some v) (λ v. Some v)
      some_grows_id = record { mono = λ v v' h. h }
  none_grows links links' (a ∷ atoms) l = then_grows d laws (refined d links (negate_atom a)) (refined d links' (negate_atom a)) _ _ (refined_grows d laws links links' (negate_atom a) l) (none_grows links links' atoms l)

  pub assumed_shrinks : (links : Regs (Option Link)) (f : Flag) (b : Bool) (v : Values T) → UpTo d laws (assumed d links f b v) v
  unfolding assumed
  assumed_shrinks links Any b v = values_refl d laws v
  assumed_shrinks links One true v = values_refl d laws v
  assumed_shrinks links One false v = tt
  assumed_shrinks links (Or atoms) true v = some_below links atoms None v tt
  assumed_shrinks links (Or atoms) false v = (none_shrinks links atoms).below v

  assumed_sound : (links : Regs (Option Link)) (f : Flag) (b : Bool) (v : Values T) (e : Values ℤ) → LinksHold links e → FlagSays f e b → MeetsValues d v e → IsSomeAnd (assumed d links f b v) (λ w. MeetsValues d w e)
  unfolding assumed
  assumed_sound links Any b v e l s m = m
  assumed_sound links One true v e l s m = m
  assumed_sound links One false v e l s m = absurd (false≢true s)
  assumed_sound links (Or atoms) true v e l s m = some_sound links atoms None v e tt l m (sym s)
  assumed_sound links (Or atoms) false v e l s m = none_sound links atoms v e l (sym s) m

  same_grows : (links links' : Regs (Option Link)) (f : Flag) (b : Bool) (v v' : Values T) → LinksBelow links links' → BelowValues d v v' → BelowSome d (assumed d links f b v) (assumed d links' f b v')
  unfolding assumed
  same_grows links links' Any b v v' l m = m
  same_grows links links' One true v v' l m = m
  same_grows links links' One false v v' l m = tt
  same_grows links links' (Or atoms) true v v' l m = joined_grows links links' atoms None None v v' l tt tt m
  same_grows links links' (Or atoms) false v v' l m = (none_grows links links' atoms l).mono v v' m

  assumed_grows : (links links' : Regs (Option Link)) (f f' : Flag) (b : Bool) (v v' : Values T) → LinksBelow links links' → FlagBelow f f' → BelowValues d v v' → BelowSome d (assumed d links f b v) (assumed d links' f' b v')
  unfolding assumed
  assumed_grows links links' f Any b v v' l k m = all_some (λ w. BelowValues d w v) (λ w. BelowValues d w v') (assumed d links f b v) (assumed_shrinks links f b v) (λ w h. values_trans d laws w v v' h m)
  assumed_grows links links' f One b v v' l k m = subst (λ (g : Flag). BelowSome d (assumed d links g b v) (assumed d links' One b v')) (sym k) (same_grows links links' One b v v' l m)
  assumed_grows links links' f (Or atoms) b v v' l k m = subst (λ (g : Flag). BelowSome d (assumed d links g b v) (assumed d links' (Or atoms) b v')) (sym k) (same_grows links links' (Or atoms) b v v' l m)

  -- a state whose B is b meets what is left
  pub assume_sound : (f : FactOf T) (e : Values ℤ) (b : Bool) → Meets d f e b → IsSomeAnd (assume d f b) (λ g. Meets d g e b)
  unfolding assume
  assume_sound f e b h =
      some_bind (λ w. MeetsValues d w e) (λ g. Meets d g e b) (assumed d f.links f.flag b (values f)) _ (assumed_sound f.links f.flag b (values f) e h.links h.flag h.values)
      (λ w k. record { values = k; links = h.links; flag = flag_of_says e b })

  pub assume_grows : (f g : FactOf T) (b : Bool) → BelowFact d f g → IfSome (assume d f b) (λ f'. IsSomeAnd (assume d g b) (λ g'. BelowFact d f' g'))
  unfolding assume
  assume_grows f g b h =
      bind_mono (BelowValues d) (BelowFact d) (assumed d f.links f.flag b (values f)) (assumed d g.links g.flag b (values g)) _ _ (assumed_grows f.links g.links f.flag g.flag b (values f) (values g) h.links h.flag h.values)
      (λ w w' k. record { values = k; links = h.links; flag = flag_below_refl (flag_of b) })

  -- the values only shrink, and the links stay
  pub assume_below : (f : FactOf T) (b : Bool) → IfSome (assume d f b) (λ g. BelowValues d (values g) (values f) × (g.links ≡ f.links))
  unfolding assume
  assume_below f b =
      all_bind (λ w. BelowValues d w (values f)) (λ g. BelowValues d (values g) (values f) × (g.links ≡ f.links)) (assumed d f.links f.flag b (values f)) _ (assumed_shrinks f.links f.flag b (values f)) (λ w h. (h, refl))
