-- Writes of larger values to larger facts.
use Rattle.std.specs.Prelude.{◌≡◌, ℕ, Bool, true, false, cond, List, [], ◌∷◌, Option, Some, None}
use Rattle.std.specs.List.{list_any}
use Rattle.std.proofs.Common.{refl, sym, subst, ap, set, zero, suc}
use Rattle.std.proofs.lemmas.Bool.{false≢true}
use Rattle.num_domain.specs.Domain.{Domain, Below}
use Rattle.num_domain.specs.Laws.{DomainLaws}
use Rattle.viper_word.specs.declared.reg.Reg.{Reg}
use Rattle.viper_word.specs.declared.reg.Reg.TheVariants as register
use Rattle.flag_relation.specs.declared.link.Link.{Link}
use Rattle.flag_relation.specs.declared.atom.Atom.{Atom}
use Rattle.flag_relation.specs.declared.atom.Right.{Right}
use Rattle.flag_relation.specs.declared.atom.Right.TheVariants.{Cell, Const}
use Rattle.flag_relation.specs.declared.flag.Flag.{Flag}
use Rattle.flag_relation.specs.declared.flag.Flag.TheVariants.{Any, One, Or}
use Rattle.flag_relation.specs.Values.{Pairwise}
use Rattle.flag_relation.specs.Facts.{FactOf, values, with_link}
use Rattle.flag_relation.specs.Order.{LinkBelow, FlagBelow, BelowFact}
use Rattle.flag_relation.proofs.ValueLemmas.{with_reg_related, set_related}
use Rattle.viper_decode.specs.declared.instructions.Source.{Source}
use Rattle.viper_decode.specs.declared.instructions.Source.TheVariants.{Of, AfterP}
use Rattle.abs_step.specs.Writes.{is_on_reg, is_among, drop_flag, drop_link, hits, put_reg, put_cells}
use Rattle.abs_step.specs.Stores.{source_link, unlinked, joined_cells}
use Rattle.abs_step.proofs.AddressLaws.{list_any_grows}

-- ---- flags

pub flag_below_equal : (f g : Flag) → f ≡ g → FlagBelow f g
flag_below_equal f Any h = tt
flag_below_equal f One h = h
flag_below_equal f (Or atoms) h = h

pub drop_below : (p q : Atom → Bool) (f g : Flag) → ((a : Atom) → p a ≡ true → q a ≡ true) → FlagBelow f g → FlagBelow (drop_flag p f) (drop_flag q g)
drop_below p q f Any t h = tt
drop_below p q f One t h = ap (drop_flag p) h
drop_below p q f (Or l) t h = subst (λ (w : Flag). FlagBelow (drop_flag p w) (drop_flag q (Or l))) (sym h) (by_tests (list_any p l) (list_any q l) (list_any_grows p q l t))
  where
    by_tests : (b b' : Bool) → (b ≡ true → b' ≡ true) → FlagBelow (cond b Any (Or l)) (cond b' Any (Or l))
    by_tests b true e = tt
    by_tests true false e = absurd (false≢true (e refl))
    by_tests false false e = refl

keep_below : (q : Atom → Bool) (f g : Flag) → FlagBelow f g → FlagBelow f (drop_flag q g)
keep_below q f Any h = tt
keep_below q f One h = h
keep_below q f (Or l) h = by_test (list_any q l)
  where
    by_test : (b : Bool) → FlagBelow f (cond b Any (Or l))
    by_test true = tt
    by_test false = h

among_grows : (p q : ℕ → Bool) → ((i : ℕ) → p i ≡ true → q i ≡ true) → (w : Right) → is_among p w ≡ true → is_among q w ≡ true
among_grows p q t (Cell j) h = t j h
among_grows p q t (Const w) h = h

-- ---- links

pub link_below_equal : (p q : Option Link) → p ≡ q → LinkBelow p q
link_below_equal p None e = tt
link_below_equal p (Some k) e = e

drop_link_below : (p q : ℕ → Bool) (o o' : Option Link) → ((i : ℕ) → p i ≡ true → q i ≡ true) → LinkBelow o o' → LinkBelow (drop_link p o) (drop_link q o')
drop_link_below p q o None t h = tt
drop_link_below p q o (Some l) t h = subst (λ (w : Option Link). LinkBelow (drop_link p w) (drop_link q (Some l))) (sym h) (by_tests (p l.cell) (q l.cell) (t l.cell))
  where
    by_tests : (b b' : Bool) → (b ≡ true → b' ≡ true) → LinkBelow (cond b None (Some l)) (cond b' None (Some l))
    by_tests b true e = tt
    by_tests true false e = absurd (false≢true (e refl))
    by_tests false false e = refl

keep_link_below : (q : ℕ → Bool) (o o' : Option Link) → LinkBelow o o' → LinkBelow o (drop_link q o')
keep_link_below q o None h = tt
keep_link_below q o (Some l) h = by_test (q l.cell)
  where
    by_test : (b : Bool) → LinkBelow o (cond b None (Some l))
    by_test true = tt
    by_test false = h

module _ {T : Type 0} (d : Domain T) where
  pub put_reg_below : (f g : FactOf T) (r : Reg) (v v' : T) (l l' : Option Link) → BelowFact d f g → Below d v v' → LinkBelow l l' → BelowFact d (put_reg f r v l) (put_reg g r v' l')
  unfolding put_reg
  put_reg_below f g r v v' l l' h k m = record {
    values = with_reg_related (Below d) (values f) (values g) h.values r v v' k;
    links = set_related LinkBelow f.links g.links h.links r l l' m;
    flag = drop_below (is_on_reg r) (is_on_reg r) f.flag g.flag (λ a e. e) h.flag;
  }

  pub put_cells_below : (f g : FactOf T) (vs vs' : List T) (p q : ℕ → Bool) → BelowFact d f g → Pairwise (Below d) vs vs' → ((i : ℕ) → p i ≡ true → q i ≡ true) → BelowFact d (put_cells f vs p) (put_cells g vs' q)
  unfolding put_cells
  put_cells_below f g vs vs' p q h k t = record {
    values = record { regs = h.values.regs; cells = k };
    links = record { a = drop_link_below p q f.links.a g.links.a t h.links.a; x = drop_link_below p q f.links.x g.links.x t h.links.x; y = drop_link_below p q f.links.y g.links.y t h.links.y };
    flag = drop_below (λ a. is_among p a.right) (λ a. is_among q a.right) f.flag g.flag (λ a. among_grows p q t a.right) h.flag;
  }

  -- a fact that nothing was written to is below one that something was written to
  pub keep_cells_below : (f g : FactOf T) (vs' : List T) (q : ℕ → Bool) → BelowFact d f g → Pairwise (Below d) f.cells vs' → BelowFact d f (put_cells g vs' q)
  unfolding put_cells
  keep_cells_below f g vs' q h k = record {
    values = record { regs = h.values.regs; cells = k };
    links = record { a = keep_link_below q f.links.a g.links.a h.links.a; x = keep_link_below q f.links.x g.links.x h.links.x; y = keep_link_below q f.links.y g.links.y h.links.y };
    flag = keep_below (λ a. is_among q a.right) f.flag g.flag h.flag;
  }

  with_link_below : (f g : FactOf T) (r : Reg) (l l' : Option Link) → BelowFact d f g → LinkBelow l l' → BelowFact d (with_link f r l) (with_link g r l')
  with_link_below f g r l l' h k = record { values = h.values; links = set_related LinkBelow f.links g.links h.links r l l' k; flag = h.flag }

  pub source_link_below : (f g : FactOf T) (s : Source) (l l' : Option Link) → BelowFact d f g → LinkBelow l l' → BelowFact d (source_link d f s l) (source_link d g s l')
  source_link_below f g AfterP l l' h k = h
  source_link_below f g (Of r) l l' h k = with_link_below f g r l l' h k

  without_link_below : (f g : FactOf T) (r : Reg) → BelowFact d f g → BelowFact d f (with_link g r None)
  without_link_below f g register.A h = record { values = h.values; links = record { a = tt; x = h.links.x; y = h.links.y }; flag = h.flag }
  without_link_below f g register.X h = record { values = h.values; links = record { a = h.links.a; x = tt; y = h.links.y }; flag = h.flag }
  without_link_below f g register.Y h = record { values = h.values; links = record { a = h.links.a; x = h.links.x; y = tt }; flag = h.flag }

  source_unlinked : (f g : FactOf T) (s : Source) → BelowFact d f g → BelowFact d f (source_link d g s None)
  source_unlinked f g AfterP h = h
  source_unlinked f g (Of r) h = without_link_below f g r h

  pub keep_unlinked : (b : Bool) (f g : FactOf T) (s : Source) → BelowFact d f g → BelowFact d f (unlinked d b g s)
  keep_unlinked true f g s h = source_unlinked f g s h
  keep_unlinked false f g s h = h

  pub unlinked_below : (b b' : Bool) (f g : FactOf T) (s : Source) → (b ≡ true → b' ≡ true) → BelowFact d f g → BelowFact d (unlinked d b f s) (unlinked d b' g s)
  unlinked_below true true f g s t h = source_link_below f g s None None h tt
  unlinked_below true false f g s t h = absurd (false≢true (t refl))
  unlinked_below false b' f g s t h = keep_unlinked b' f g s h

  module _ (laws : DomainLaws d) where
    join_above : (v v' w : T) → Below d v v' → Below d v (d.join v' w)
    join_above v v' w h = laws.order.trans v v' (d.join v' w) h (laws.order.join_left v' w)

    join_grows : (v v' w w' : T) → Below d v v' → Below d w w' → Below d (d.join v w) (d.join v' w')
    join_grows v v' w w' h k = laws.order.join_least v w (d.join v' w') (join_above v v' w' h) (laws.order.trans w w' (d.join v' w') k (laws.order.join_right v' w'))

    joined_item : (b b' : Bool) (v v' w w' : T) → (b ≡ true → b' ≡ true) → Below d v v' → Below d w w' → Below d (cond b (d.join v w) v) (cond b' (d.join v' w') v')
    joined_item true true v v' w w' t h k = join_grows v v' w w' h k
    joined_item true false v v' w w' t h k = absurd (false≢true (t refl))
    joined_item false true v v' w w' t h k = join_above v v' w' h
    joined_item false false v v' w w' t h k = h

    pub joined_below : (p q : ℕ → Bool) (cells : List ℕ) (vs vs' : List T) (w w' : T) → ((k : ℕ) → p k ≡ true → q k ≡ true) → Pairwise (Below d) vs vs' → Below d w w' → Pairwise (Below d) (joined_cells d p cells vs w) (joined_cells d q cells vs' w')
    unfolding joined_cells
    joined_below p q [] vs vs' w w' t h k = h
    joined_below p q (c ∷ cs) [] [] w w' t h k = tt
    joined_below p q (c ∷ cs) [] (v' ∷ vs') w w' t h k = absurd h
    joined_below p q (c ∷ cs) (v ∷ vs) [] w w' t h k = absurd h
    joined_below p q (c ∷ cs) (v ∷ vs) (v' ∷ vs') w w' t h k = (joined_item (p c) (q c) v v' w w' (t c) h.0 k, joined_below p q cs vs vs' w w' t h.1 k)

    keep_item : (b : Bool) (v v' w : T) → Below d v v' → Below d v (cond b (d.join v' w) v')
    keep_item true v v' w h = join_above v v' w h
    keep_item false v v' w h = h

    pub joined_above : (q : ℕ → Bool) (cells : List ℕ) (vs vs' : List T) (w : T) → Pairwise (Below d) vs vs' → Pairwise (Below d) vs (joined_cells d q cells vs' w)
    unfolding joined_cells
    joined_above q [] vs vs' w h = h
    joined_above q (c ∷ cs) [] [] w h = tt
    joined_above q (c ∷ cs) [] (v' ∷ vs') w h = absurd h
    joined_above q (c ∷ cs) (v ∷ vs) [] w h = absurd h
    joined_above q (c ∷ cs) (v ∷ vs) (v' ∷ vs') w h = (keep_item (q c) v v' w h.0, joined_above q cs vs vs' w h.1)

    set_item : (b : Bool) (v' w w' : T) → b ≡ true → Below d w w' → Below d w (cond b (d.join v' w') v')
    set_item true v' w w' e k = laws.order.trans w w' (d.join v' w') k (laws.order.join_right v' w')
    set_item false v' w w' e k = absurd (false≢true e)

    -- one cell is set, where it is joined in the larger
    pub set_joined : (q : ℕ → Bool) (cells : List ℕ) (vs vs' : List T) (i : ℕ) (w w' : T) → hits q cells i ≡ true → Pairwise (Below d) vs vs' → Below d w w' → Pairwise (Below d) (set vs i w) (joined_cells d q cells vs' w')
    unfolding joined_cells
    set_joined q [] vs vs' i w w' e h k = absurd (false≢true e)
    set_joined q (c ∷ cs) [] [] i w w' e h k = tt
    set_joined q (c ∷ cs) [] (v' ∷ vs') i w w' e h k = absurd h
    set_joined q (c ∷ cs) (v ∷ vs) [] i w w' e h k = absurd h
    set_joined q (c ∷ cs) (v ∷ vs) (v' ∷ vs') zero w w' e h k = (set_item (q c) v' w w' e k, joined_above q cs vs vs' w' h.1)
    set_joined q (c ∷ cs) (v ∷ vs) (v' ∷ vs') (suc i) w w' e h k = (keep_item (q c) v v' w' h.0, set_joined q cs vs vs' i w w' e h.1 k)
