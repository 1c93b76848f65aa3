-- What is kept of a graph tells of its edges: their outcomes, and how candidates move along them.
use Rattle.std.specs.Prelude.{◌≡◌, ℕ, zero, suc, ◌+◌, ◌<◌, ◌/◌, ◌%◌, ◌^◌, Bool, nat_eq, List, [], ◌∷◌, map, length, get_or}
use Rattle.std.proofs.Common.{refl, arith, ap, subst, ◌∙◌}
use Rattle.std.proofs.lemmas.List.{length-map}
use Rattle.num_domain.specs.Domain.{Domain}
use Rattle.memory_plan.specs.Plans.{PlanLines}
use Rattle.flag_relation.specs.Facts.{FactOf}
use Rattle.abs_step.specs.OutcomeLists.{OutcomeOf}
use Rattle.abs_step.specs.Places.{HasCells, AllHaveCells}
use Rattle.fix_solver.specs.Solved.{NodeOf}
use Rattle.strong_components.specs.declared.edge.Edge.{Edge}
use Rattle.rank_shape.specs.declared.moves.Moves.{Moves}
use Rattle.rank_shape.specs.Moves.{may_grow, surely_falls}
use Rattle.rank_nest.specs.Bits.{bits}
use Rattle.rank_nest.specs.Building.{GraphOf, grow_mask, fall_mask}
use Rattle.rank_nest.specs.Candidates.{candidates, grows_by, falls_by}
use Rattle.rank_nest.specs.Forms.{no_step, step_at, AreMoves}
use Rattle.rank_nest.specs.Graph.{StepOf, steps}
use Rattle.rank_nest.specs.Ready.{IsGraphOf}
use Rattle.rank_nest.specs.evidence.Steps.{IsEdge, is_edge}
use Rattle.rank_nest.proofs.BitLaws.{bit_is, test_is}

map_get : {A B : Type 0} (f : A → B) (xs : List A) (i : ℕ) (x : A) (y : B) → i < length xs → get_or (map f xs) i y ≡ f (get_or xs i x)
map_get f [] i x y h = absurd (omega arith)
map_get f (z ∷ zs) zero x y h = refl
map_get f (z ∷ zs) (suc i) x y h = map_get f zs i x y (omega arith)

pub have_get : {T : Type 0} (n : ℕ) (os : List (OutcomeOf T)) (i : ℕ) (o : OutcomeOf T) → AllHaveCells n os → i < length os → HasCells n (get_or os i o)
have_get n [] i o h b = absurd (omega arith)
have_get n (p ∷ ps) zero o h b = h.0
have_get n (p ∷ ps) (suc i) o h b = have_get n ps i o h.1 (omega arith)

module _ {T : Type 0} (d : Domain T) (plan : PlanLines) (cells : List ℕ) (nodes : List (NodeOf (FactOf T))) (g : GraphOf) (built : IsGraphOf d plan cells nodes g) where
  pub named : (e : Edge) → IsEdge d plan cells nodes e → e.name < length g.ordinals
  named e is =
      let ss = steps d plan cells nodes in
      let lt = is.named in
      let long : length g.ordinals ≡ length ss = ap length built.ordinals ∙ length-map ss (λ (s : StepOf T). s.ordinal) in
      omega arith

  pub ordinal_is : (e : Edge) → IsEdge d plan cells nodes e → get_or g.ordinals e.name 0 ≡ (step_at d (steps d plan cells nodes) e.name).ordinal
  ordinal_is e is =
      ap (λ l. get_or l e.name 0) built.ordinals ∙ map_get (λ (s : StepOf T). s.ordinal) (steps d plan cells nodes) e.name (no_step d) 0 is.named

  -- a bit of a mask
  bit_of : (p : ℕ → Bool) (masks : List ℕ) (mask : StepOf T → ℕ) (count c : ℕ) (e : Edge) → IsEdge d plan cells nodes e → c < count
      → masks ≡ map mask (steps d plan cells nodes) → mask (step_at d (steps d plan cells nodes) e.name) ≡ bits p 0 count → nat_eq ((get_or masks e.name 0 / 2 ^ c) % 2) 1 ≡ p c
  bit_of p masks mask count c e is lt all one =
      let ss = steps d plan cells nodes in
      let read : get_or masks e.name 0 ≡ bits p 0 count = ap (λ l. get_or l e.name 0) all ∙ map_get mask ss e.name (no_step d) 0 is.named ∙ one in
      let place : c ≡ 0 + c = omega arith in
      ap (λ (n : ℕ). nat_eq ((n / 2 ^ c) % 2) 1) read ∙ ap (λ (n : ℕ). nat_eq n 1) (bit_is p 0 count c c lt place) ∙ test_is (p c)

  pub moves_are : (m : Moves) → m.count ≡ g.count → m.grow.items ≡ g.grow → m.fall.items ≡ g.fall → AreMoves d plan cells nodes m
  unfolding may_grow surely_falls
  moves_are m count grow fall =
      let n = candidates (length cells) in
      let few : m.count ≡ n = count ∙ built.count in
      let out = λ (e : Edge). (step_at d (steps d plan cells nodes) e.name).outcome in
      record {
        count = few;
        moves = record {
          grows = λ c e lt ce. bit_of (grows_by d (out e)) m.grow.items (grow_mask d n) n c e (is_edge d plan cells nodes e ce) (subst (λ k. c < k) few lt) (grow ∙ built.grow) refl;
          falls = λ c e lt ce. bit_of (falls_by d (out e)) m.fall.items (fall_mask d n) n c e (is_edge d plan cells nodes e ce) (subst (λ k. c < k) few lt) (fall ∙ built.fall) refl;
        };
      }
