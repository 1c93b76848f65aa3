-- The links of results, and the atoms of comparisons, name cells that are there.
use Rattle.std.specs.Prelude.{◌≡◌, ℕ, ◌<◌, ℤ, neg_ℤ, ◌+ℤ◌, int_le, nat_lt, Bool, true, false, ◌&&◌, cond, List, [], ◌∷◌, ◌++◌, length, Option, Some, None, IfSome}
use Rattle.std.proofs.Common.{refl}
use Rattle.std.proofs.lemmas.Bool.{and_parts}
use Rattle.viper_word.proofs.Integers.{le_true}
use Rattle.flag_relation.specs.declared.link.Link.{Link}
use Rattle.flag_relation.specs.declared.link.TheConstants.{MOST_OFFSET}
use Rattle.flag_relation.specs.Limits.{IsLinkOf}
use Rattle.flag_relation.specs.declared.atom.Atom.{Atom}
use Rattle.flag_relation.specs.declared.atoms.TheConstants.{MOST_ATOMS}
use Rattle.flag_relation.specs.declared.flag.Flag.{Flag}
use Rattle.flag_relation.specs.declared.flag.Flag.TheVariants.{Any, One, Or}
use Rattle.flag_relation.specs.Limits.{IsRightOf, AreAtomsOf, IsFlagOf}
use Rattle.abs_step.specs.Origins.{link_if_small, moved_link, compared_flag}

pub small_limits : (c count : ℕ) (z : ℤ) → c < count → IfSome (link_if_small c z) (IsLinkOf count)
unfolding link_if_small
small_limits c count z h = by_test (int_le (neg_ℤ MOST_OFFSET) z && int_le z MOST_OFFSET) refl
  where
    by_test : (b : Bool) → (int_le (neg_ℤ MOST_OFFSET) z && int_le z MOST_OFFSET) ≡ b → IfSome (cond b (Some (record { cell = c; offset = z })) None) (IsLinkOf count)
    by_test true e = let p = and_parts (int_le (neg_ℤ MOST_OFFSET) z) (int_le z MOST_OFFSET) e in record { cell = h; low = le_true (neg_ℤ MOST_OFFSET) z p.0; high = le_true z MOST_OFFSET p.1 }
    by_test false e = tt

pub moved_limits : (count : ℕ) (n : ℤ) (l : Option Link) → IfSome l (IsLinkOf count) → IfSome (moved_link n l) (IsLinkOf count)
moved_limits count n None h = tt
moved_limits count n (Some l) h = small_limits l.cell count (l.offset +ℤ n) h.cell

appended_limits : (count : ℕ) (atoms : List Atom) (a : Atom) → AreAtomsOf count atoms → IsRightOf count a.right → AreAtomsOf count (atoms ++ (a ∷ []))
appended_limits count [] a h k = (k, tt)
appended_limits count (b ∷ atoms) a h k = (h.0, appended_limits count atoms a h.1 k)

pub compared_limits : (count : ℕ) (joins : Bool) (o : Option Atom) (old : Flag) → IfSome o (λ a. IsRightOf count a.right) → IsFlagOf count old → IsFlagOf count (compared_flag joins o old)
unfolding compared_flag
compared_limits count false None old h k = tt
compared_limits count false (Some a) old h k = (h, tt)
compared_limits count true None Any h k = tt
compared_limits count true None One h k = tt
compared_limits count true None (Or atoms) h k = tt
compared_limits count true (Some a) Any h k = tt
compared_limits count true (Some a) One h k = tt
compared_limits count true (Some a) (Or atoms) h k = by_room (nat_lt (length atoms) MOST_ATOMS)
  where
    by_room : (b : Bool) → IsFlagOf count (cond b (Or (atoms ++ (a ∷ []))) Any)
    by_room true = appended_limits count atoms a k h
    by_room false = tt
