-- What a store makes of a fact: at one address, or at one of several.
use Rattle.std.specs.Prelude.{ℕ, ℤ, pos, ◌+◌, ◌-◌, ◌^◌, ◌+ℤ◌, int_le, Bool, false, ◌&&◌, cond, nat_eq, nat_abs, List, [], ◌∷◌, ◌++◌, map, Option, Some, None}
use Rattle.std.specs.Ordering.{int_eq}
use Rattle.std.specs.List.{list_any}
use Rattle.num_domain.specs.Domain.{Domain}
use Rattle.num_domain.specs.Ends.{Ends, ends, is_point}
use Rattle.flag_relation.specs.declared.var.Var.TheVariants as var
use Rattle.flag_relation.specs.declared.link.Link.{Link}
use Rattle.flag_relation.specs.Values.{Values, reg, with_cell}
use Rattle.flag_relation.specs.Facts.{FactOf, values, with_link}
use Rattle.abs_step.specs.Addresses.{any_from, find_cell}
use Rattle.abs_step.specs.Writes.{put_cells, hits}
use Rattle.abs_step.specs.Results.{addressed, source_value}
use Rattle.abs_step.specs.declared.outcome.Post.{Post}
use Rattle.abs_step.specs.declared.outcome.Post.TheVariants.{Same, Plus, Within}
use Rattle.viper_decode.specs.declared.instructions.Source.{Source}
use Rattle.viper_decode.specs.declared.instructions.Source.TheVariants.{Of, AfterP}
use Rattle.viper_decode.specs.declared.instructions.Place.{Place}
use Rattle.viper_decode.specs.declared.instructions.Place.TheVariants.{At, Index}
use Rattle.abs_step.specs.OutcomeLists.{OutcomeOf, all_same, each, outcome}

-- an address, several, or none
pub record Spot : Type 0 where
  pub one : Option ℕ
  pub several : Bool

module _ {T : Type 0} (d : Domain T) where
  abbrev pub lawful_at : ℤ → Option ℕ
  lawful_at z = cond (int_le (pos 0) z && int_le z (pos (2 ^ 20 - 1))) (Some (nat_abs z)) None

  -- with equal ends there is one address, if they are a point
  abbrev pub index_spot : ℕ → Option Ends → (ℤ → Bool) → Bool → Spot
  index_spot a None point some = record { one = None; several = false }
  index_spot a (Some e) point some =
      cond (int_eq e.lo e.hi)
      (record { one = cond (point e.lo) (lawful_at (pos a +ℤ e.lo)) None; several = false })
      (record { one = None; several = some })

  -- the one address of a place, or that it has several; unlawful ones are left out
  unfoldable pub spot : Place → Values T → Spot
  spot (At a) v = record { one = Some a; several = false }
  spot (Index a r) v =
      index_spot a (ends d (reg v r)) (is_point d (reg v r))
      (any_from (addressed d (Index a r) v) 0 (2 ^ 20))

  abbrev pub source_link : FactOf T → Source → Option Link → FactOf T
  source_link f AfterP l = f
  source_link f (Of r) l = with_link f r l

  abbrev pub source_post : Source → Post
  source_post AfterP = Within
  source_post (Of r) = Plus (var.Reg r) (pos 0)

  -- a store at one address
  unfoldable pub store_one : ℕ → FactOf T → Source → Option ℕ → FactOf T
  store_one at f s None = f
  store_one at f s (Some i) =
      source_link (put_cells f (with_cell (values f) i (source_value d at (values f) s)).cells (nat_eq i))
      s (Some (record { cell = i; offset = pos 0 }))

  abbrev pub store_one_posts : List ℕ → Source → Option ℕ → Values Post
  store_one_posts cells s None = all_same cells
  store_one_posts cells s (Some i) = with_cell (all_same cells) i (source_post s)

  -- cells that may be written, joined with what is stored
  unfoldable pub joined_cells : (ℕ → Bool) → List ℕ → List T → T → List T
  joined_cells p [] vs w = vs
  joined_cells p (c ∷ cs) [] w = []
  joined_cells p (c ∷ cs) (v ∷ vs) w = cond (p c) (d.join v w) v ∷ joined_cells p cs vs w

  abbrev pub unlinked : Bool → FactOf T → Source → FactOf T
  unlinked b f s = cond b (source_link f s None) f

  -- a store at one of several addresses
  unfoldable pub store_several : (ℕ → Bool) → List ℕ → ℕ → FactOf T → Source → FactOf T
  store_several p cells at f s =
      unlinked (list_any p cells)
      (put_cells f (joined_cells p cells f.cells (source_value d at (values f) s)) (hits p cells)) s

  abbrev pub store_several_posts : (ℕ → Bool) → List ℕ → Values Post
  store_several_posts p cells = record {
    regs = record { a = Same; x = Same; y = Same };
    cells = map (λ c. cond (p c) Within Same) cells;
  }

  unfoldable pub stored : List ℕ → ℕ → FactOf T → Source → Place → Spot → List (OutcomeOf T)
  stored cells at f s p q =
      each q.one (λ n.
      outcome d (at + 1) f (store_one at f s (find_cell cells n))
      (store_one_posts cells s (find_cell cells n)))
      ++ cond q.several
      (outcome d (at + 1) f (store_several (addressed d p (values f)) cells at f s)
      (store_several_posts (addressed d p (values f)) cells)) []
