-- A level on the numbers of what remains in a part.
use Rattle.std.proofs.Common.{◌≡◌, ℕ, List, [], ◌∷◌, ◌++◌, Some, None, true, refl, ap, ◌∙◌}
use Rattle.std.specs.Prelude.{ℤ, pos, ◌≤ℤ◌, ◌<ℤ◌}
use Rattle.std.specs.List.{Contains}
use Rattle.std.proofs.lemmas.List.{append_assoc}
use Rattle.std.proofs.lemmas.List.Elements.{All-contains}
use Rattle.strong_components.specs.declared.edge.Edge.{Edge}
use Rattle.rank_shape.specs.declared.moves.Moves.{Moves}
use Rattle.rank_shape.specs.Nests.{remaining, IsFirst}
use Rattle.rank_numbers.specs.declared.level.Level.{Level}
use Rattle.rank_numbers.specs.Forms.{Forms}
use Rattle.rank_numbers.specs.Levels.{part_level, levels_of}
use Rattle.rank_numbers.specs.Numbers.{leveled, within, local_form, greatest_value, IsLow, IsPart, limit}
use Rattle.rank_numbers.specs.Rows.{form_of, OthersStay, Passes}
use Rattle.rank_numbers.specs.Steps.{GraphDone, PartDone, IsRaised}

module _ (Form : Type 0) (o : Forms Form) (m : Moves) (part : List ℕ) (edges : List Edge) (first inner : List Form) (levels levels' : List Level)
    (c : ℕ) (is_first : IsFirst m edges c) where
  -- a number within is large
  pub part_within : GraphDone o m part (remaining m c edges) first inner levels levels' None → PartDone o m part edges first inner levels levels' None
  part_within d = record { new = d.new; made = d.made; numbers = within c is_first d.numbers; others = d.others }

  module _ (after : List Form) (levels'' : List Level) (weight low : ℤ) (d : GraphDone o m part (remaining m c edges) first inner levels levels' (Some weight))
      (lows : IsLow o part c low) (stay : OthersStay o part inner after) where
    leveled_made : (greatest : ℤ) → levels_of levels'' ≡ levels_of levels' ++ part_level part c low weight greatest ∷ []
        → levels_of levels'' ≡ levels_of levels ++ (d.new ++ part_level part c low weight greatest ∷ [])
    leveled_made greatest pushed = pushed ∙ ap (λ x. x ++ part_level part c low weight greatest ∷ []) d.made ∙ append_assoc (levels_of levels) d.new (part_level part c low weight greatest ∷ [])

    leveled_stay : OthersStay o part first after
    leveled_stay k away = stay k away ∙ d.others k away

    -- a local form is large
    pub part_form_large : Passes o (λ f. o.level weight c low f) part inner → levels_of levels'' ≡ levels_of levels' ++ part_level part c low weight (pos 0) ∷ []
        → PartDone o m part edges first after levels levels'' None
    part_form_large large pushed = record {
      new = d.new ++ part_level part c low weight (pos 0) ∷ [];
      made = leveled_made (pos 0) pushed;
      numbers = local_form c weight low (form_of o inner) (λ k. o.level weight c low (form_of o inner k)) d.new d.numbers
          (record { first = is_first; lowest = lows; forms = λ k ck. refl }) large;
      others = leveled_stay;
    }

    module _ (most : ℤ) (raised : IsRaised o (λ f. o.level weight c low f) part inner after most)
        (pushed : levels_of levels'' ≡ levels_of levels' ++ part_level part c low weight most ∷ []) where
      is_part : IsPart o m part edges (form_of o inner) weight c low (form_of o after)
      is_part = record {
        first = is_first;
        lowest = lows;
        forms = λ k ck. (All-contains (λ k. (form_of o after k ≡ o.level weight c low (form_of o inner k)) × (o.small (form_of o after k) ≡ true)) part k raised.became ck).0;
      }

      all_small : (k : ℕ) → Contains part k → o.small (form_of o after k) ≡ true
      all_small k ck = (All-contains (λ k. (form_of o after k ≡ o.level weight c low (form_of o inner k)) × (o.small (form_of o after k) ≡ true)) part k raised.became ck).1

      -- the greatest value is large
      pub part_value_large : limit <ℤ most → PartDone o m part edges first after levels levels'' None
      part_value_large large = record {
        new = d.new ++ part_level part c low weight most ∷ [];
        made = leveled_made most pushed;
        numbers = greatest_value c weight low most (form_of o inner) (form_of o after) d.new d.numbers is_part all_small raised.greatest_is large;
        others = leveled_stay;
      }

      -- nothing is
      pub part_small : most ≤ℤ limit → PartDone o m part edges first after levels levels'' (Some most)
      part_small small = record {
        new = d.new ++ part_level part c low weight most ∷ [];
        made = leveled_made most pushed;
        numbers = leveled c weight low (form_of o inner) d.new d.numbers is_part all_small raised.greatest_is small;
        others = leveled_stay;
      }
