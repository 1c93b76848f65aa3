-- Solutions of rules: maps from keys to facts.
use Rattle.std.specs.Prelude.{◌≡◌, ℕ, ℤ, true, false, cond, nat_eq, nat_le, Option, Some, IfSome, IsSomeAnd, List, [], map, length, unwrap_or}
use Rattle.std.specs.List.{AllByRecursion, list_any}
use Rattle.viper_word.specs.Fields.{Fields, fields_of}
use Rattle.num_domain.specs.Domain.{Domain}
use Rattle.memory_plan.specs.Plans.{PlanLines, code_word}
use Rattle.memory_plan.specs.declared.start.Start.{Start}
use Rattle.flag_relation.specs.Facts.{FactOf, unknown}
use Rattle.flag_relation.specs.Order.{includes}
use Rattle.flag_relation.specs.Joins.{join}
use Rattle.flag_relation.specs.Heights.{height}
use Rattle.flag_relation.specs.Rounding.{round}
use Rattle.abs_step.specs.declared.outcome.Cond.{Cond}
use Rattle.abs_step.specs.Conditions.{keeps, fault, outcomes}
use Rattle.abs_step.specs.OutcomeLists.{OutcomeOf}
use Rattle.abs_step.specs.Starts.{start_fact}
use Rattle.flow_recover.specs.Cells.{cells_of}
use Rattle.flow_recover.specs.Contexts.{next_context}
use Rattle.flow_recover.specs.Thresholds.{thresholds_of}
use Rattle.flow_recover.specs.declared.key.Key.{Key}
use Rattle.flow_recover.specs.Keys.{same_key}
use Rattle.fix_solver.specs.declared.at.At.{At}
use Rattle.fix_solver.specs.Rules.{Rules, Included, MapBelow}

-- each key at which the map has a fact is in the list
abbrev pub HasKeys : {F : Type 0} → (Key → Option F) → List Key → Type 0
HasKeys m ks = (k : Key) → IsSomeAnd (m k) (λ f. Unit {0}) → list_any (same_key k) ks ≡ true

module _ {F : Type 0} (r : Rules F) where
  -- the map includes each start, and what follows from each of its facts
  pub record IsCandidate (m : Key → Option F) : Type 0 where
    pub starts : AllByRecursion (Included r m) r.starts
    pub outcomes : (k : Key) → IfSome (m k) (λ f. AllByRecursion (Included r m) (r.outcomes k f))

  -- a candidate that keeps all conditions at each key
  pub record IsSolution (m : Key → Option F) : Type 0 where
    pub candidate : IsCandidate m
    pub keeps : (k : Key) → IfSome (m k) (λ f. (c : Cond) → r.keeps k f c ≡ true)

  -- a solution that is included in every candidate
  pub record IsLeastSolution (m : Key → Option F) : Type 0 where
    pub solution : IsSolution m
    pub least : (n : Key → Option F) → IsCandidate n → MapBelow r m n

  -- the key stands in every candidate
  abbrev pub IsEverywhere : Key → Type 0
  IsEverywhere k = (n : Key → Option F) → IsCandidate n → IsSomeAnd (n k) (λ f. Unit {0})

  -- the condition fails at the key in every candidate
  abbrev pub FailsEverywhere : Key → Cond → Type 0
  FailsEverywhere k c =
      (n : Key → Option F) → IsCandidate n → IsSomeAnd (n k) (λ f. r.keeps k f c ≡ false)

-- ---- the rules of a plan, over cells and thresholds

-- the numbers of the word of code at the address; where there is none, no outcome has need of them
abbrev pub fields_at : PlanLines → ℕ → Fields
fields_at plan at = fields_of (unwrap_or (code_word plan at) 0)

module _ {T : Type 0} (d : Domain T) where
  -- what arrives at an outcome's target: the fact after the step, rounded where the target isn't
  -- above the address
  abbrev pub arriving : List ℤ → ℕ → OutcomeOf T → FactOf T
  arriving t at o = cond (nat_le o.target at) (round d t o.after) o.after

  -- where an outcome at a key leads, and what arrives there
  abbrev pub arrival : PlanLines → List ℤ → Key → OutcomeOf T → At (FactOf T)
  arrival plan t k o = record {
    key = next_context k (fields_at plan k.addr) o.target;
    fact = arriving t k.addr o;
  }

  -- the key of a start, without calls, and its fact
  abbrev pub start_at : PlanLines → List ℕ → Start → At (FactOf T)
  start_at plan cells s = record {
    key = record { addr = s.at; context = [] };
    fact = start_fact d plan cells s;
  }

  abbrev pub rules_over : PlanLines → List ℕ → List ℤ → Rules (FactOf T)
  rules_over plan cells t = record {
    fits = λ f. nat_eq (length f.cells) (length cells);
    includes = includes d;
    join = join d;
    height = height d;
    starts = map (start_at plan cells) plan.starts;
    outcomes = λ k f. map (arrival plan t k) (outcomes d plan cells k.addr f);
    keeps = λ k f c. keeps d plan cells k.addr c f;
    fault = λ k f. fault d plan cells k.addr f;
  }

  -- those of the plan's own cells and thresholds
  abbrev pub plan_rules : PlanLines → Rules (FactOf T)
  plan_rules plan = rules_over plan (cells_of plan) (thresholds_of plan)

  -- nothing is known at any key: a candidate of each plan
  abbrev pub all_unknown : PlanLines → Key → Option (FactOf T)
  all_unknown plan k = Some (unknown d (length (cells_of plan)))
