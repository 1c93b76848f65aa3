use Rattle.std.proofs.Common.{◌≡◌, ◌∙◌, ap, map, take_all, length, arith, Result, Ok, Err, IfOk}
use Rattle.std.specs.List.{list_any}
use Rattle.std.specs.List.Sorted.{IsStrictlySortedBy}
use Rattle.rank_nest.specs.Told.{ends_cmp, same_ends, ends_of, AreEnds}
use Rattle.rank_nest.proofs.EndLaws.{any_ends, ends_more}
use Rattle.rank_nest.proofs.telling.ends_of.Goals as goal

pub loop-edge-preserved : goal.loop-edge-preserved
loop-edge-preserved c = λ p.
    c.in_ok-insert.ensures.updates.0 p ∙ ends_more c.args.edges.now c.loop-edge.edge-index _ p _ c.loop-edge-test.true (c.loop-edge.invariant p)

both_ok : {T E : Type 0} (P Q R : T → Type 0) (r : Result T E) → ((v : T) → P v → Q v → R v) → IfOk r P → IfOk r Q → IfOk r R
both_ok P Q R (Ok v) f p q = f v p q
both_ok P Q R (Err e) f p q = tt

pub returns : goal.returns
returns c =
    let over : length c.args.edges.now ≡ c.loop-edge.edge-index = omega arith in
    both_ok (λ v. v.items ≡ c.loop-edge.found.keys) (λ v. IsStrictlySortedBy ends_cmp c.loop-edge.found.keys) (λ v. AreEnds c.args.edges.now v.items) c.listed.result
    (λ v e s. record {
      ascending = rw e s;
      same = λ p. rw e (any_ends c.loop-edge.found.keys p ∙ c.loop-edge.invariant p ∙ ap (λ l. list_any (same_ends p) (map ends_of l)) (take_all c.loop-edge.edge-index c.args.edges.now (omega arith)));
    })
    c.listed.ensures.keys c.listed.ensures.ascending
