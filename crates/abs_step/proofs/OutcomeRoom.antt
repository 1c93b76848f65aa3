-- How many outcomes a side has at the most.
use Rattle.std.specs.Prelude.{ℕ, ◌≤◌, Bool, true, false, List, [], ◌∷◌, cond, length, Option, Some, None}
use Rattle.std.proofs.Common.{arith}
use Rattle.num_domain.specs.Domain.{Domain}
use Rattle.flag_relation.specs.Values.{Values}
use Rattle.flag_relation.specs.Facts.{FactOf}
use Rattle.abs_step.specs.declared.outcome.Post.{Post}
use Rattle.abs_step.specs.OutcomeLists.{each, is_live, outcome}

one_where : {U : Type 0} (b : Bool) (u : U) → length (cond b (u ∷ []) []) ≤ 1
one_where true u = omega (arith)
one_where false u = omega (arith)

pub one_outcome : {T : Type 0} (d : Domain T) (target : ℕ) (pre after : FactOf T) (posts : Values Post) → length (outcome d target pre after posts) ≤ 1
unfolding outcome
one_outcome d target pre after posts =
    one_where (is_live d after) (record { target = target; pre = pre; after = after; posts = posts })

pub one_of_each : {T U : Type 0} (o : Option T) (f : T → List U) → ((t : T) → length (f t) ≤ 1) → length (each o f) ≤ 1
one_of_each None f h = omega (arith)
one_of_each (Some t) f h = h t
