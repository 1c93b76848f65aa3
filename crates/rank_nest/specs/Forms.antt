-- The forms of a solution: what a nest asks of them, over the facts of keys and the outcomes that
-- edges stand for.
use Rattle.std.specs.Prelude.{◌≡◌, ℕ, pos, Bool, ◌&&◌, cond, nat_le, List, [], length, slice_index_or, Option, Some, None}
use Rattle.std.specs.List.{list_all}
use Rattle.num_domain.specs.Domain.{Domain}
use Rattle.memory_plan.specs.Plans.{PlanLines}
use Rattle.flag_relation.specs.declared.fact.TheConstants.{MOST_CELLS}
use Rattle.flag_relation.specs.declared.form.TheConstants.{MOST_TERMS}
use Rattle.flag_relation.specs.Facts.{FactOf, unknown}
use Rattle.flag_relation.specs.Forms.{FormOf, is_within}
use Rattle.abs_step.specs.OutcomeLists.{OutcomeOf, all_same}
use Rattle.rank_form.specs.Bounds.{upper, lower, after, rise}
use Rattle.rank_form.specs.Levels.{constant_form, shift, level}
use Rattle.fix_solver.specs.Solved.{NodeOf}
use Rattle.strong_components.specs.declared.edge.Edge.{Edge}
use Rattle.rank_shape.specs.declared.moves.Moves.{Moves}
use Rattle.rank_numbers.specs.Forms.{Forms, MovesOf}
use Rattle.rank_nest.specs.declared.limits.TheConstants.{MOST_COEFFICIENT, MOST_CONSTANT}
use Rattle.rank_nest.specs.Candidates.{candidates, candidate_form}
use Rattle.rank_nest.specs.Graph.{StepOf, node_at, steps, graph}

-- the form passes no limit of a certificate: at most eight terms, with coefficients of at most 2^40
-- and a constant of at most 2^62 in size
unfoldable pub is_small : FormOf → Bool
is_small f = nat_le (length f.terms) MOST_TERMS
    && is_within MOST_CONSTANT f.constant
    && list_all (λ t. is_within MOST_COEFFICIENT t.1) f.terms

-- the form, if there is one, unless it passes a limit
abbrev pub if_small : Option FormOf → Option FormOf
if_small None = None
if_small (Some f) = cond (is_small f) (Some f) None

module _ {T : Type 0} (d : Domain T) where
  -- what stands past the last step
  abbrev pub no_step : StepOf T
  no_step = record {
    from = 0;
    to = 0;
    ordinal = 0;
    outcome = record { target = 0; pre = unknown d 0; after = unknown d 0; posts = all_same [] };
  }

  -- the step of a name
  abbrev pub step_at : List (StepOf T) → ℕ → StepOf T
  step_at ss name = slice_index_or ss name no_step

module _ {T : Type 0} (d : Domain T) (plan : PlanLines) (cells : List ℕ)
    (nodes : List (NodeOf (FactOf T))) where
  -- the outcome that an edge stands for
  abbrev pub outcome_of : Edge → OutcomeOf T
  outcome_of e = (step_at d (steps d plan cells nodes) e.name).outcome

  -- what a nest asks of forms
  abbrev pub forms_of : Forms FormOf
  forms_of = record {
    keys = length nodes;
    candidates = candidates MOST_CELLS;
    edges = graph d plan cells nodes;
    one = constant_form (pos 1);
    direction = candidate_form;
    level = λ t c low f. level t (candidate_form c) low f;
    shift = shift;
    small = is_small;
    lower = λ f k. lower d f (node_at d nodes k).fact;
    upper = λ f k. upper d f (node_at d nodes k).fact;
    before = λ f e. lower d f (outcome_of e).pre;
    after = λ f e. upper d (after d f (outcome_of e)) (outcome_of e).pre;
    rise = λ f g e. rise d f g (outcome_of e);
  }

  -- the moves of all candidates along the edges of the graph
  pub record AreMoves (m : Moves) : Type 0 where
    pub count : m.count ≡ candidates (length cells)
    pub moves : MovesOf forms_of m (graph d plan cells nodes)
