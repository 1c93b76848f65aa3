-- The join of values is their least upper bound.
use Rattle.std.specs.Prelude.{◌≡◌, ℤ, List, [], ◌∷◌, length, Option, Some, None, IfSome, IsSomeAnd}
use Rattle.std.proofs.Common.{arith, sym, ◌∙◌}
use Rattle.num_domain.specs.Domain.{Domain, Below}
use Rattle.num_domain.specs.Laws.{DomainLaws}
use Rattle.flag_relation.specs.Values.{Values, Pairwise}
use Rattle.flag_relation.specs.Facts.{MeetsValues}
use Rattle.flag_relation.specs.Order.{BelowValues}
use Rattle.flag_relation.specs.Joins.{join_cells, join_values, or_join}
use Rattle.flag_relation.proofs.ValueLemmas.{pairwise_length}
use Rattle.flag_relation.specs.Laws.{BelowSome}
use Rattle.flag_relation.proofs.Refiners.{values_trans, values_has}

module _ {T : Type 0} (d : Domain T) (laws : DomainLaws d) where
  lists_left : (xs ys : List T) → length xs ≡ length ys → Pairwise (Below d) xs (join_cells d xs ys)
  unfolding join_cells
  lists_left [] ys e = tt
  lists_left (x ∷ xs) [] e = absurd (omega arith)
  lists_left (x ∷ xs) (y ∷ ys) e = (laws.order.join_left x y, lists_left xs ys (omega arith))

  lists_right : (xs ys : List T) → length xs ≡ length ys → Pairwise (Below d) ys (join_cells d xs ys)
  unfolding join_cells
  lists_right [] [] e = tt
  lists_right [] (y ∷ ys) e = absurd (omega arith)
  lists_right (x ∷ xs) [] e = absurd (omega arith)
  lists_right (x ∷ xs) (y ∷ ys) e = (laws.order.join_right x y, lists_right xs ys (omega arith))

  lists_least : (xs ys zs : List T) → Pairwise (Below d) xs zs → Pairwise (Below d) ys zs → Pairwise (Below d) (join_cells d xs ys) zs
  unfolding join_cells
  lists_least [] ys [] h k = tt
  lists_least [] ys (z ∷ zs) h k = h
  lists_least (x ∷ xs) [] [] h k = h
  lists_least (x ∷ xs) [] (z ∷ zs) h k = h
  lists_least (x ∷ xs) (y ∷ ys) [] h k = h
  lists_least (x ∷ xs) (y ∷ ys) (z ∷ zs) h k = (laws.order.join_least x y z h.0 k.0, lists_least xs ys zs h.1 k.1)

  pub join_left : (v w : Values T) → length v.cells ≡ length w.cells → BelowValues d v (join_values d v w)
  unfolding join_values
  join_left v w e = record { regs = record { a = laws.order.join_left v.regs.a w.regs.a; x = laws.order.join_left v.regs.x w.regs.x; y = laws.order.join_left v.regs.y w.regs.y }; cells = lists_left v.cells w.cells e }

  pub join_right : (v w : Values T) → length v.cells ≡ length w.cells → BelowValues d w (join_values d v w)
  unfolding join_values
  join_right v w e = record { regs = record { a = laws.order.join_right v.regs.a w.regs.a; x = laws.order.join_right v.regs.x w.regs.x; y = laws.order.join_right v.regs.y w.regs.y }; cells = lists_right v.cells w.cells e }

  pub join_least : (v w u : Values T) → BelowValues d v u → BelowValues d w u → BelowValues d (join_values d v w) u
  unfolding join_values
  join_least v w u h k = record { regs = record { a = laws.order.join_least v.regs.a w.regs.a u.regs.a h.regs.a k.regs.a; x = laws.order.join_least v.regs.x w.regs.x u.regs.x h.regs.x k.regs.x; y = laws.order.join_least v.regs.y w.regs.y u.regs.y h.regs.y k.regs.y }; cells = lists_least v.cells w.cells u.cells h.cells k.cells }

  -- two below one value have as many cells
  pub same_length : (v w u : Values T) → BelowValues d v u → BelowValues d w u → length v.cells ≡ length w.cells
  same_length v w u h k = pairwise_length (Below d) v.cells u.cells h.cells ∙ sym (pairwise_length (Below d) w.cells u.cells k.cells)

  abbrev pub UpTo : Option (Values T) → Values T → Type 0
  UpTo o u = IfSome o (λ v. BelowValues d v u)

  pub or_join_below : (o q : Option (Values T)) (u : Values T) → UpTo o u → UpTo q u → UpTo (or_join d o q) u
  or_join_below None q u h k = k
  or_join_below (Some v) None u h k = h
  or_join_below (Some v) (Some w) u h k = join_least v w u h k

  pub or_join_first : (o q : Option (Values T)) (u : Values T) (e : Values ℤ) → UpTo o u → UpTo q u → IsSomeAnd o (λ v. MeetsValues d v e) → IsSomeAnd (or_join d o q) (λ v. MeetsValues d v e)
  or_join_first None q u e h k m = absurd m
  or_join_first (Some v) None u e h k m = m
  or_join_first (Some v) (Some w) u e h k m = values_has d laws v (join_values d v w) e (join_left v w (same_length v w u h k)) m

  pub or_join_second : (o q : Option (Values T)) (u : Values T) (e : Values ℤ) → UpTo o u → UpTo q u → IsSomeAnd q (λ v. MeetsValues d v e) → IsSomeAnd (or_join d o q) (λ v. MeetsValues d v e)
  or_join_second None q u e h k m = m
  or_join_second (Some v) None u e h k m = absurd m
  or_join_second (Some v) (Some w) u e h k m = values_has d laws w (join_values d v w) e (join_right v w (same_length v w u h k)) m

  pub or_join_grows : (o q o' q' : Option (Values T)) (u : Values T) → UpTo o' u → UpTo q' u → BelowSome d o o' → BelowSome d q q' → BelowSome d (or_join d o q) (or_join d o' q')
  or_join_grows None None o' q' u ho hq h k = tt
  or_join_grows None (Some w) None q' u ho hq h k = k
  or_join_grows None (Some w) (Some v') None u ho hq h k = absurd k
  or_join_grows None (Some w) (Some v') (Some w') u ho hq h k = values_trans d laws w w' (join_values d v' w') k (join_right v' w' (same_length v' w' u ho hq))
  or_join_grows (Some v) q None q' u ho hq h k = absurd h
  or_join_grows (Some v) None (Some v') None u ho hq h k = h
  or_join_grows (Some v) None (Some v') (Some w') u ho hq h k = values_trans d laws v v' (join_values d v' w') h (join_left v' w' (same_length v' w' u ho hq))
  or_join_grows (Some v) (Some w) (Some v') None u ho hq h k = absurd k
  or_join_grows (Some v) (Some w) (Some v') (Some w') u ho hq h k =
      join_least v w (join_values d v' w') (values_trans d laws v v' (join_values d v' w') h (join_left v' w' (same_length v' w' u ho hq))) (values_trans d laws w w' (join_values d v' w') k (join_right v' w' (same_length v' w' u ho hq)))
