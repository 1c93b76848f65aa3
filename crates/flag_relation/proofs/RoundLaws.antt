-- Rounding includes the fact and is monotone.
use Rattle.std.specs.Prelude.{◌≡◌, ℤ, List, [], ◌∷◌, map, length, Option, Some, None, IfSome}
use Rattle.std.proofs.Common.{sym, ◌∙◌}
use Rattle.num_domain.specs.Domain.{Domain, Below}
use Rattle.num_domain.specs.Laws.{DomainLaws}
use Rattle.flag_relation.specs.Values.{Values, Pairwise}
use Rattle.flag_relation.specs.Facts.{FactOf, values}
use Rattle.flag_relation.specs.Order.{BelowValues, BelowFact}
use Rattle.flag_relation.specs.Joins.{join_values}
use Rattle.flag_relation.specs.Refining.{settle}
use Rattle.flag_relation.specs.Rounding.{round_values, or_before, round}
use Rattle.flag_relation.proofs.ValueLemmas.{pairwise_length}
use Rattle.flag_relation.specs.Laws.{BelowSome}
use Rattle.flag_relation.proofs.Refiners.{values_refl, values_trans}
use Rattle.flag_relation.proofs.SettleLaws.{settle_shrinks, settle_grows}
use Rattle.flag_relation.proofs.JoinLaws.{join_left, join_right, join_least}
use Rattle.flag_relation.proofs.FlagLaws.{flag_below_refl, links_below_refl}

module _ {T : Type 0} (d : Domain T) (t : List ℤ) (laws : DomainLaws d) where
  cells_above : (vs : List T) → Pairwise (Below d) vs (map (λ c. d.round c t) vs)
  cells_above [] = tt
  cells_above (v ∷ vs) = (laws.order.round_above v t, cells_above vs)

  cells_grow : (vs ws : List T) → Pairwise (Below d) vs ws → Pairwise (Below d) (map (λ c. d.round c t) vs) (map (λ c. d.round c t) ws)
  cells_grow [] [] h = tt
  cells_grow [] (w ∷ ws) h = h
  cells_grow (v ∷ vs) [] h = h
  cells_grow (v ∷ vs) (w ∷ ws) h = (laws.order.round_mono v w t h.0, cells_grow vs ws h.1)

  above : (v : Values T) → BelowValues d v (round_values d t v)
  unfolding round_values
  above v = record { regs = record { a = laws.order.round_above v.regs.a t; x = laws.order.round_above v.regs.x t; y = laws.order.round_above v.regs.y t }; cells = cells_above v.cells }

  grows : (v w : Values T) → BelowValues d v w → BelowValues d (round_values d t v) (round_values d t w)
  unfolding round_values
  grows v w h = record { regs = record { a = laws.order.round_mono v.regs.a w.regs.a t h.regs.a; x = laws.order.round_mono v.regs.x w.regs.x t h.regs.x; y = laws.order.round_mono v.regs.y w.regs.y t h.regs.y }; cells = cells_grow v.cells w.cells h.cells }

  same_count : (v w : Values T) → BelowValues d w (round_values d t v) → length w.cells ≡ length v.cells
  same_count v w h = pairwise_length (Below d) w.cells (round_values d t v).cells h.cells ∙ sym (pairwise_length (Below d) v.cells (round_values d t v).cells (above v).cells)

  or_above : (v : Values T) (o : Option (Values T)) → IfSome o (λ w. BelowValues d w (round_values d t v)) → BelowValues d v (or_before d v o)
  or_above v None h = values_refl d laws v
  or_above v (Some w) h = join_right d laws w v (same_count v w h)

  or_grows : (v v' : Values T) (o o' : Option (Values T)) → BelowValues d v v' → IfSome o' (λ w. BelowValues d w (round_values d t v')) → BelowSome d o o' → BelowValues d (or_before d v o) (or_before d v' o')
  or_grows v v' None o' h k m = values_trans d laws v v' (or_before d v' o') h (or_above v' o' k)
  or_grows v v' (Some w) None h k m = absurd m
  or_grows v v' (Some w) (Some w') h k m =
      join_least d laws w v (join_values d w' v') (values_trans d laws w w' (join_values d w' v') m (join_left d laws w' v' (same_count v' w' k))) (values_trans d laws v v' (join_values d w' v') h (join_right d laws w' v' (same_count v' w' k)))

  pub round_fact_grows : (f g : FactOf T) → BelowFact d f g → BelowFact d (round d t f) (round d t g)
  unfolding round
  round_fact_grows f g h = record {
    values = or_grows (values f) (values g) (settle d f.links (round_values d t (values f))) (settle d g.links (round_values d t (values g))) h.values ((settle_shrinks d laws g.links).below (round_values d t (values g))) ((settle_grows d laws f.links g.links h.links).mono (round_values d t (values f)) (round_values d t (values g)) (grows (values f) (values g) h.values));
    links = h.links;
    flag = h.flag;
  }

  pub round_fact_above : (f : FactOf T) → BelowFact d f (round d t f)
  unfolding round
  round_fact_above f = record {
    values = or_above (values f) (settle d f.links (round_values d t (values f))) ((settle_shrinks d laws f.links).below (round_values d t (values f)));
    links = links_below_refl f.links;
    flag = flag_below_refl f.flag;
  }
