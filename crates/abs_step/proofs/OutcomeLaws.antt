-- A larger fact has larger outcomes.
use Rattle.std.specs.Prelude.{◌≡◌, ℕ, ℤ, pos, ◌+◌, Bool, true, false, not, cond, nat_eq, List, [], ◌∷◌, ◌++◌, Option, Some, None, IfSome, IsSomeAnd, ◌⊎◌}
use Rattle.std.specs.List.{flat_map, list_any}
use Rattle.std.proofs.Common.{refl, zero, suc, sym, subst, ap, ⊎_elim, inl, inr, set}
use Rattle.std.proofs.lemmas.Bool.{false≢true, eqb-true, not-true}
use Rattle.num_domain.specs.Domain.{Domain, Below}
use Rattle.num_domain.specs.Laws.{DomainLaws}
use Rattle.flag_relation.specs.declared.var.Var.TheVariants as var
use Rattle.flag_relation.specs.declared.link.Link.{Link}
use Rattle.flag_relation.specs.declared.atom.Atom.{Atom}
use Rattle.flag_relation.specs.declared.flag.Flag.{Flag}
use Rattle.flag_relation.specs.declared.flag.Flag.TheVariants.{Any, One, Or}
use Rattle.flag_relation.specs.Values.{Values, Regs, at_reg}
use Rattle.flag_relation.specs.Facts.{FactOf, values, with_flag}
use Rattle.flag_relation.specs.Order.{LinkBelow, LinksBelow, FlagBelow, BelowFact}
use Rattle.flag_relation.proofs.ValueLemmas.{at_related, put_related}
use Rattle.flag_relation.proofs.AllLaws.{fact_laws}
use Rattle.abs_step.specs.declared.outcome.Post.{Post}
use Rattle.abs_step.specs.declared.outcome.Post.TheVariants.{Same, Plus, Within as Somewhere}
use Rattle.abs_step.specs.Addresses.{passing, find_cell}
use Rattle.abs_step.specs.Writes.{put_cells, hits}
use Rattle.abs_step.specs.Results.{addressed, source_value}
use Rattle.flag_relation.specs.Emptiness.{is_empty}
use Rattle.flag_relation.proofs.AllLaws.{fact_laws}
use Rattle.abs_step.specs.Origins.{compared_flag, link_if_small, moved_link, link_of}
use Rattle.abs_step.specs.OutcomeLists.{OutcomeOf, each, is_live, live, outcome}
use Rattle.abs_step.specs.Stores.{Spot, source_link, store_one, store_one_posts, joined_cells, unlinked, store_several, store_several_posts, stored}
use Rattle.abs_step.specs.Outcomes.{flag_set}
use Rattle.abs_step.specs.Laws.{OutcomeBelow, SomeAbove, AllBelow}
use Rattle.abs_step.proofs.AddressLaws.{hits_grow, found_hits, list_any_grows}
use Rattle.abs_step.proofs.WriteLaws.{flag_below_equal, link_below_equal, put_cells_below, keep_cells_below, source_link_below, keep_unlinked, unlinked_below, joined_below, joined_above, set_joined}
use Rattle.abs_step.proofs.ResultLaws.{addressed_grows, source_grows}
use Rattle.viper_decode.specs.declared.instructions.Source.{Source}
use Rattle.viper_decode.specs.declared.instructions.Place.{Place}

-- ---- flags and links

pub compared_below : (joined : Bool) (a : Option Atom) (f g : Flag) → FlagBelow f g → FlagBelow (compared_flag joined a f) (compared_flag joined a g)
unfolding compared_flag
compared_below false None f g h = tt
compared_below false (Some a) f g h = refl
compared_below true None f Any h = tt
compared_below true (Some a) f Any h = tt
compared_below true a f One h = flag_below_equal (compared_flag true a f) (compared_flag true a One) (ap (compared_flag true a) h)
compared_below true None f (Or atoms) h = tt
compared_below true (Some a) f (Or atoms) h = flag_below_equal (compared_flag true (Some a) f) (compared_flag true (Some a) (Or atoms)) (ap (compared_flag true (Some a)) h)

moved_below : (n : ℤ) (p q : Option Link) → LinkBelow p q → LinkBelow (moved_link n p) (moved_link n q)
moved_below n p None e = tt
moved_below n p (Some k) e = link_below_equal (moved_link n p) (moved_link n (Some k)) (ap (moved_link n) e)

pub link_of_below : (links links' : Regs (Option Link)) (p : Post) → LinksBelow links links' → LinkBelow (link_of links p) (link_of links' p)
unfolding link_of
link_of_below links links' Same h = tt
link_of_below links links' (Plus (var.Cell i) n) h = link_below_equal (link_if_small i n) (link_if_small i n) refl
link_of_below links links' (Plus (var.Reg l) n) h = moved_below n (at_reg links l) (at_reg links' l) (at_related LinkBelow links links' h l)
link_of_below links links' Somewhere h = tt

module _ {T : Type 0} (d : Domain T) where
  all_below_more : (os os' : List (OutcomeOf T)) (o' : OutcomeOf T) → AllBelow d os os' → AllBelow d os (o' ∷ os')
  all_below_more [] os' o' h = tt
  all_below_more (o ∷ os) os' o' h = (inr h.0, all_below_more os os' o' h.1)

  below_second : (os qs os' : List (OutcomeOf T)) → AllBelow d os os' → AllBelow d os (qs ++ os')
  below_second os [] os' h = h
  below_second os (q ∷ qs) os' h = all_below_more os (qs ++ os') q (below_second os qs os' h)

  some_first : (o : OutcomeOf T) (os' qs : List (OutcomeOf T)) → SomeAbove d o os' → SomeAbove d o (os' ++ qs)
  some_first o [] qs h = absurd h
  some_first o (o' ∷ os') qs h = ⊎_elim (λ (k : OutcomeBelow d o o'). inl k) (λ (k : SomeAbove d o os'). inr (some_first o os' qs k)) h

  pub both_below : (os os' qs qs' : List (OutcomeOf T)) → AllBelow d os os' → AllBelow d qs qs' → AllBelow d (os ++ qs) (os' ++ qs')
  both_below [] os' qs qs' h k = below_second qs os' qs' k
  both_below (o ∷ os) os' qs qs' h k = (some_first o os' qs' h.0, both_below os os' qs qs' h.1 k)

  below_first : (os os' qs : List (OutcomeOf T)) → AllBelow d os os' → AllBelow d os (os' ++ qs)
  below_first [] os' qs h = tt
  below_first (o ∷ os) os' qs h = (some_first o os' qs h.0, below_first os os' qs h.1)

  all_both : (os qs os' : List (OutcomeOf T)) → AllBelow d os os' → AllBelow d qs os' → AllBelow d (os ++ qs) os'
  all_both [] qs os' h k = k
  all_both (o ∷ os) qs os' h k = (h.0, all_both os qs os' h.1 k)

  pub each_grows : {S : Type 0} (R : S → S → Type 0) (o o' : Option S) (f g : S → List (OutcomeOf T)) → IfSome o (λ v. IsSomeAnd o' (λ v'. R v v')) → ((v v' : S) → R v v' → AllBelow d (f v) (g v')) → AllBelow d (each o f) (each o' g)
  each_grows R None o' f g h k = tt
  each_grows R (Some v) None f g h k = absurd h
  each_grows R (Some v) (Some v') f g h k = k v v' h

  pub when_grows : (b b' : Bool) (os os' : List (OutcomeOf T)) → (b ≡ true → b' ≡ true) → AllBelow d os os' → AllBelow d (cond b os []) (cond b' os' [])
  when_grows true true os os' t h = h
  when_grows true false os os' t h = absurd (false≢true (t refl))
  when_grows false b' os os' t h = tt

  pub flat_grows : (F G : ℕ → List (OutcomeOf T)) (p q : ℕ → Bool) (at n : ℕ) → ((k : ℕ) → AllBelow d (F k) (G k)) → ((k : ℕ) → p k ≡ true → q k ≡ true) → AllBelow d (flat_map F (passing p at n)) (flat_map G (passing q at n))
  unfolding passing
  flat_grows F G p q at zero f t = tt
  flat_grows F G p q at (suc n) f t = by_tests (p at) (q at) (t at) (flat_grows F G p q (suc at) n f t)
    where
      by_tests : (b b' : Bool) → (b ≡ true → b' ≡ true) → AllBelow d (flat_map F (passing p (suc at) n)) (flat_map G (passing q (suc at) n)) → AllBelow d (flat_map F (cond b (at ∷ passing p (suc at) n) (passing p (suc at) n))) (flat_map G (cond b' (at ∷ passing q (suc at) n) (passing q (suc at) n)))
      by_tests true true e h = both_below (F at) (G at) (flat_map F (passing p (suc at) n)) (flat_map G (passing q (suc at) n)) (f at) h
      by_tests true false e h = absurd (false≢true (e refl))
      by_tests false true e h = below_second (flat_map F (passing p (suc at) n)) (G at) (flat_map G (passing q (suc at) n)) h
      by_tests false false e h = h

  pub with_flag_below : (f g : FactOf T) (w w' : Flag) → BelowFact d f g → FlagBelow w w' → BelowFact d (with_flag f w) (with_flag g w')
  with_flag_below f g w w' h k = record { values = h.values; links = h.links; flag = k }

  pub flag_set_below : (b : Bool) (f g : FactOf T) → BelowFact d f g → BelowFact d (flag_set d b f) (flag_set d b g)
  flag_set_below true f g h = with_flag_below f g Any Any h tt
  flag_set_below false f g h = h

  module _ (laws : DomainLaws d) where
    -- ---- facts that aren't empty

    live_grows : (f g : FactOf T) → BelowFact d f g → is_live d f ≡ true → is_live d g ≡ true
    live_grows f g h e = ap not ((fact_laws d laws).emptiness.larger f g h (not-true (is_empty d f) e))

    pub live_some : (f g : FactOf T) → BelowFact d f g → IfSome (live d f) (λ f'. IsSomeAnd (live d g) (λ g'. BelowFact d f' g'))
    live_some f g h = by_tests (is_live d f) (is_live d g) (live_grows f g h)
      where
        by_tests : (b b' : Bool) → (b ≡ true → b' ≡ true) → IfSome (cond b (Some f) None) (λ f'. IsSomeAnd (cond b' (Some g) None) (λ g'. BelowFact d f' g'))
        by_tests true true e = h
        by_tests true false e = absurd (false≢true (e refl))
        by_tests false b' e = tt

    pub outcome_grows : (target : ℕ) (f g f' g' : FactOf T) (ps ps' : Values Post) → BelowFact d f g → BelowFact d f' g' → AllBelow d (outcome d target f f' ps) (outcome d target g g' ps')
    unfolding outcome
    outcome_grows target f g f' g' ps ps' h k =
        when_grows (is_live d f') (is_live d g') (record { target = target; pre = f; after = f'; posts = ps } ∷ []) (record { target = target; pre = g; after = g'; posts = ps' } ∷ [])
        (live_grows f' g' k) (inl (record { target = refl; pre = h; after = k }), tt)

    -- ---- stores

    store_one_below : (at : ℕ) (f g : FactOf T) (s : Source) (o : Option ℕ) → BelowFact d f g → BelowFact d (store_one d at f s o) (store_one d at g s o)
    unfolding store_one
    store_one_below at f g s None h = h
    store_one_below at f g s (Some i) h =
        let w = source_value d at (values f) s in
        let w' = source_value d at (values g) s in
        let l : Option Link = Some (record { cell = i; offset = pos 0 }) in
        source_link_below d (put_cells f (set f.cells i w) (nat_eq i)) (put_cells g (set g.cells i w') (nat_eq i)) s l l
        (put_cells_below d f g (set f.cells i w) (set g.cells i w') (nat_eq i) (nat_eq i) h (put_related (Below d) f.cells g.cells h.values.cells i w w' (source_grows d laws at (values f) (values g) s h.values)) (λ j e. e))
        (link_below_equal l l refl)

    several_below : (p q : ℕ → Bool) (cells : List ℕ) (at : ℕ) (f g : FactOf T) (s : Source) → ((k : ℕ) → p k ≡ true → q k ≡ true) → BelowFact d f g → BelowFact d (store_several d p cells at f s) (store_several d q cells at g s)
    unfolding store_several
    several_below p q cells at f g s t h =
        let w = source_value d at (values f) s in
        let w' = source_value d at (values g) s in
        unlinked_below d (list_any p cells) (list_any q cells) (put_cells f (joined_cells d p cells f.cells w) (hits p cells)) (put_cells g (joined_cells d q cells g.cells w') (hits q cells)) s (list_any_grows p q cells t)
        (put_cells_below d f g (joined_cells d p cells f.cells w) (joined_cells d q cells g.cells w') (hits p cells) (hits q cells) h (joined_below d laws p q cells f.cells g.cells w w' t h.values.cells (source_grows d laws at (values f) (values g) s h.values)) (λ i. hits_grow p q cells i t))

    eq_number : (i j : ℕ) (q : ℕ → Bool) → nat_eq i j ≡ true → q i ≡ true → q j ≡ true
    eq_number i j q e h = subst (λ (k : ℕ). q k ≡ true) (eqb-true i j e) h

    -- one address below several, of which it is one
    one_several_below : (q : ℕ → Bool) (cells : List ℕ) (at : ℕ) (f g : FactOf T) (s : Source) (o : Option ℕ) → BelowFact d f g → IfSome o (λ i. (hits q cells i ≡ true) × (list_any q cells ≡ true)) → BelowFact d (store_one d at f s o) (store_several d q cells at g s)
    unfolding store_one store_several
    one_several_below q cells at f g s None h k =
        let w' = source_value d at (values g) s in
        keep_unlinked d (list_any q cells) f (put_cells g (joined_cells d q cells g.cells w') (hits q cells)) s (keep_cells_below d f g (joined_cells d q cells g.cells w') (hits q cells) h (joined_above d laws q cells f.cells g.cells w' h.values.cells))
    one_several_below q cells at f g s (Some i) h k =
        let w = source_value d at (values f) s in
        let w' = source_value d at (values g) s in
        let f' = put_cells f (set f.cells i w) (nat_eq i) in
        let g' = put_cells g (joined_cells d q cells g.cells w') (hits q cells) in
        let l : Option Link = Some (record { cell = i; offset = pos 0 }) in
        subst (λ (b : Bool). BelowFact d (source_link d f' s l) (unlinked d b g' s)) (sym k.1)
        (source_link_below d f' g' s l None
        (put_cells_below d f g (set f.cells i w) (joined_cells d q cells g.cells w') (nat_eq i) (hits q cells) h
        (set_joined d laws q cells f.cells g.cells i w w' k.0 h.values.cells (source_grows d laws at (values f) (values g) s h.values)) (λ j e. eq_number i j (hits q cells) e k.0)) tt)

    -- what a smaller spot is to a larger one, where these addresses pass in the larger
    pub record SpotBelow (q : ℕ → Bool) (o o' : Spot) : Type 0 where
      pub one : IfSome o.one (λ n. (o'.one ≡ Some n) ⊎ ((o'.several ≡ true) × (q n ≡ true)))
      pub several : o.several ≡ true → o'.several ≡ true

    pub stored_below : (cells : List ℕ) (at : ℕ) (f g : FactOf T) (s : Source) (p : Place) (o o' : Spot) → BelowFact d f g → SpotBelow (addressed d p (values g)) o o' → AllBelow d (stored d cells at f s p o) (stored d cells at g s p o')
    unfolding stored
    stored_below cells at f g s p o o' h k =
        join_parts o.one k.one
      where
        q : ℕ → Bool
        q = addressed d p (values g)

        t : (n : ℕ) → addressed d p (values f) n ≡ true → q n ≡ true
        t = addressed_grows d laws p (values f) (values g) h.values

        one_f : ℕ → List (OutcomeOf T)
        one_f n = outcome d (at + 1) f (store_one d at f s (find_cell cells n)) (store_one_posts d cells s (find_cell cells n))

        one_g : ℕ → List (OutcomeOf T)
        one_g n = outcome d (at + 1) g (store_one d at g s (find_cell cells n)) (store_one_posts d cells s (find_cell cells n))

        all_f : List (OutcomeOf T)
        all_f = outcome d (at + 1) f (store_several d (addressed d p (values f)) cells at f s) (store_several_posts d (addressed d p (values f)) cells)

        all_g : List (OutcomeOf T)
        all_g = outcome d (at + 1) g (store_several d q cells at g s) (store_several_posts d q cells)

        one_one : (n : ℕ) → AllBelow d (one_f n) (one_g n)
        one_one n = outcome_grows (at + 1) f g _ _ _ _ h (store_one_below at f g s (find_cell cells n) h)

        one_all : (n : ℕ) → q n ≡ true → AllBelow d (one_f n) all_g
        one_all n e = outcome_grows (at + 1) f g _ _ _ _ h (one_several_below q cells at f g s (find_cell cells n) h (found_hits q cells n e))

        all_all : AllBelow d (cond o.several all_f []) (cond o'.several all_g [])
        all_all = when_grows o.several o'.several all_f all_g k.several (outcome_grows (at + 1) f g _ _ _ _ h (several_below (addressed d p (values f)) q cells at f g s t h))

        first : (n : ℕ) → (o'.one ≡ Some n) ⊎ ((o'.several ≡ true) × (q n ≡ true)) → AllBelow d (one_f n) (each o'.one one_g ++ cond o'.several all_g [])
        first n e = ⊎_elim
            (λ (i : o'.one ≡ Some n). subst (λ (w : Option ℕ). AllBelow d (one_f n) (each w one_g ++ cond o'.several all_g [])) (sym i) (below_first (one_f n) (one_g n) (cond o'.several all_g []) (one_one n)))
            (λ (i : (o'.several ≡ true) × (q n ≡ true)). subst (λ (b : Bool). AllBelow d (one_f n) (each o'.one one_g ++ cond b all_g [])) (sym i.0) (below_second (one_f n) (each o'.one one_g) all_g (one_all n i.1))) e

        join_parts : (w : Option ℕ) → IfSome w (λ n. (o'.one ≡ Some n) ⊎ ((o'.several ≡ true) × (q n ≡ true))) → AllBelow d (each w one_f ++ cond o.several all_f []) (each o'.one one_g ++ cond o'.several all_g [])
        join_parts None e = below_second (cond o.several all_f []) (each o'.one one_g) (cond o'.several all_g []) all_all
        join_parts (Some n) e = all_both (one_f n) (cond o.several all_f []) (each o'.one one_g ++ cond o'.several all_g []) (first n e) (below_second (cond o.several all_f []) (each o'.one one_g) (cond o'.several all_g []) all_all)
