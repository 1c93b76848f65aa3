-- What holds of facts over any numeric domain.
use Rattle.std.specs.Prelude.{◌≡◌, ◌<◌, ◌↔◌, IsTrue, ℤ, Bool, true, false, List, length}
use Rattle.std.specs.Prelude.{Option, IfSome, IsSomeAnd}
use Rattle.num_domain.specs.Domain.{Domain}
use Rattle.flag_relation.specs.declared.atom.Atom.{Atom}
use Rattle.flag_relation.specs.declared.link.Link.{Link}
use Rattle.flag_relation.specs.Values.{Values, Regs}
use Rattle.flag_relation.specs.Facts.{FactOf, values, atom_holds, LinksHold, MeetsValues, Meets}
use Rattle.flag_relation.specs.Facts.{Covers, KeepsMet}
use Rattle.flag_relation.specs.Order.{LinksBelow, BelowValues, BelowFact, includes}
use Rattle.flag_relation.specs.Heights.{height}
use Rattle.flag_relation.specs.Joins.{join}
use Rattle.flag_relation.specs.Refining.{settle, refined, assume}
use Rattle.flag_relation.specs.Rounding.{round}
use Rattle.flag_relation.specs.Emptiness.{is_empty}

module _ {T : Type 0} (d : Domain T) where
  -- a function that leaves values or none loses no numbers that meet its condition
  abbrev pub Sound : (Values ℤ → Type 0) → (Values T → Option (Values T)) → Type 0
  Sound holds f = (v : Values T) (e : Values ℤ) → holds e → MeetsValues d v e
      → IsSomeAnd (f v) (λ w. MeetsValues d w e)

  -- what it leaves is included in the values
  abbrev pub Reduces : (Values T → Option (Values T)) → Type 0
  Reduces f = (v : Values T) → IfSome (f v) (λ w. BelowValues d w v)

  -- where the first leaves values, the second leaves larger ones
  abbrev pub BelowSome : Option (Values T) → Option (Values T) → Type 0
  BelowSome o o' = IfSome o (λ v. IsSomeAnd o' (λ w. BelowValues d v w))

  -- of larger values the second leaves more than the first of smaller ones
  abbrev pub Monotone : (f f' : Values T → Option (Values T)) → Type 0
  Monotone f f' = (v v' : Values T) → BelowValues d v v' → BelowSome (f v) (f' v')

  -- inclusion is an order, and what meets a fact meets each that includes it
  pub record FactOrder : Type 0 where
    pub test : (f g : FactOf T) → IsTrue (includes d g f) ↔ BelowFact d f g
    pub refl : (f : FactOf T) → BelowFact d f f
    pub trans : (f g h : FactOf T) → BelowFact d f g → BelowFact d g h → BelowFact d f h
    pub antisym : (f g : FactOf T) → BelowFact d f g → BelowFact d g f → f ≡ g
    pub meets : (f g : FactOf T) → BelowFact d f g → Covers d g f
    pub height_falls : (f g : FactOf T) → BelowFact d f g → includes d f g ≡ false
        → height d g < height d f

  -- the join is the least upper bound of facts with as many cells
  pub record FactJoins : Type 0 where
    pub left : (f g : FactOf T) → length f.cells ≡ length g.cells → BelowFact d f (join d f g)
    pub right : (f g : FactOf T) → length f.cells ≡ length g.cells → BelowFact d g (join d f g)
    pub least : (f g h : FactOf T) → BelowFact d f h → BelowFact d g h → BelowFact d (join d f g) h
    pub same : (f g : FactOf T) → includes d f g ≡ true → join d f g ≡ f

  -- settling and refining lose no state, only reduce, and are monotone
  pub record FactRefining : Type 0 where
    pub settle_sound : (links : Regs (Option Link)) → Sound (LinksHold links) (settle d links)
    pub settle_below : (links : Regs (Option Link)) → Reduces (settle d links)
    pub settle_mono : (links links' : Regs (Option Link)) → LinksBelow links links'
        → Monotone (settle d links) (settle d links')
    pub refine_sound : (links : Regs (Option Link)) (a : Atom)
        → Sound (λ e. LinksHold links e × (atom_holds e a ≡ true)) (refined d links a)
    pub refine_below : (links : Regs (Option Link)) (a : Atom) → Reduces (refined d links a)
    pub refine_mono : (links links' : Regs (Option Link)) (a : Atom) → LinksBelow links links'
        → Monotone (refined d links a) (refined d links' a)

  -- what is left where B is known: each state with that B, no larger values, the same links
  pub record FactAssume : Type 0 where
    pub sound : (f : FactOf T) (b : Bool) → KeepsMet d f b (assume d f b)
    pub below : (f : FactOf T) (b : Bool)
        → IfSome (assume d f b) (λ g. BelowValues d (values g) (values f) × (g.links ≡ f.links))
    pub mono : (f g : FactOf T) (b : Bool) → BelowFact d f g
        → IfSome (assume d f b) (λ f'. IsSomeAnd (assume d g b) (λ g'. BelowFact d f' g'))

  -- rounding includes the fact, and is monotone
  pub record FactRounding : Type 0 where
    pub above : (f : FactOf T) (t : List ℤ) → BelowFact d f (round d t f)
    pub mono : (f g : FactOf T) (t : List ℤ) → BelowFact d f g
        → BelowFact d (round d t f) (round d t g)

  -- a fact that some state meets isn't empty, nor is a larger one than one that isn't
  pub record FactEmptiness : Type 0 where
    pub met : (f : FactOf T) (e : Values ℤ) (b : Bool) → Meets d f e b → is_empty d f ≡ false
    pub larger : (f g : FactOf T) → BelowFact d f g → is_empty d f ≡ false
        → is_empty d g ≡ false

  pub record FactLaws : Type 0 where
    pub order : FactOrder
    pub joins : FactJoins
    pub refining : FactRefining
    pub assume : FactAssume
    pub rounding : FactRounding
    pub emptiness : FactEmptiness
