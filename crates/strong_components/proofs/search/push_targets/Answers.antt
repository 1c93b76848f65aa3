-- Each turn pushes the target of one more edge of the key; all edges of the key stand in that piece.
use Rattle.std.proofs.Common.{◌≡◌, ◌-◌, ℕ, [], ◌∷◌, ◌++◌, get_or, take, drop, map, ltb, true, false, arith, refl, sym, ap, subst, ◌∙◌, zero-le, rules, inl, inr}
use Rattle.std.specs.List.Sorted.{IsPartitionPoint}
use Rattle.std.proofs.lemmas.Bool.{ltb-true, ltb-false, cases_lt}
use Rattle.std.proofs.lemmas.List.{append-nil}
use Rattle.std.proofs.lemmas.List.Sorted.{IsPartitionPoint-from_clause}
use Rattle.strong_components.specs.declared.edge.Edge.{Edge}
use Rattle.strong_components.proofs.Targets.{targets_of, by_source_parts, push_more, from_at}
use Rattle.strong_components.proofs.search.push_targets.Goals as goal

pub loop-i-init : goal.loop-i-init
loop-i-init c =
    let point : IsPartitionPoint (λ (e : Edge). ltb e.from c.args.key ≡ true) (λ (e : Edge). ltb e.from c.args.key ≡ false) c.args.edges.now c.partition_point-start.result
    = IsPartitionPoint-from_clause (λ (e : Edge). ltb e.from c.args.key) c.args.edges.now c.partition_point-start.result c.partition_point-start.ensures.partitioned (by_source_parts c.args.edges.now c.requires c.args.key) (λ a r f k. search rules) in
    record {
      before = λ k d lk. ltb-true (get_or c.args.edges.now k d).from c.args.key (point.0 k d (zero-le) lk);
      behind = λ k d le lk. ltb-false (get_or c.args.edges.now k d).from c.args.key (point.1 k d le lk);
      from_start = omega arith;
      in_edges = c.partition_point-start.ensures.bound;
      pushed = sym (append-nil c.args.waiting.now.items) ∙ ap (λ (n : ℕ). c.args.waiting.now.items ++ map (λ (e : Edge). e.to) (take n (drop c.partition_point-start.result c.args.edges.now))) (let z : 0 ≡ c.partition_point-start.result - c.partition_point-start.result = omega arith in z);
      of_key = λ k d le lk. absurd (omega arith);
    }

pub loop-i-preserved : goal.loop-i-preserved
loop-i-preserved c =
    let t = c.if-edges-i.true in
    let s = c.in_ok-push.ensures.items in
    record {
      before = c.loop-i.invariant.before;
      behind = c.loop-i.invariant.behind;
      from_start = omega arith;
      in_edges = omega arith;
      pushed = s ∙ ap (λ x. x ++ (get_or c.args.edges.now c.loop-i.i (record { from = 0; to = 0; name = 0 })).to ∷ []) c.loop-i.invariant.pushed
          ∙ push_more c.args.waiting.now.items c.args.edges.now c.partition_point-start.result c.loop-i.i (get_or c.args.edges.now c.loop-i.i (record { from = 0; to = 0; name = 0 })).to (record { from = 0; to = 0; name = 0 }) c.loop-i.invariant.from_start (omega arith) refl;
      of_key = λ k d le lk. elim (cases_lt k c.loop-i.i) [
        | inl lt ↦ c.loop-i.invariant.of_key k d le lt
        | inr ge ↦ let is : k ≡ c.loop-i.i = omega arith in subst (λ n. (get_or c.args.edges.now n d).from ≡ c.args.key) (sym is) (from_at c.args.edges.now c.loop-i.i d (record { from = 0; to = 0; name = 0 }) (omega arith) ∙ t)
      ];
    }

pub returns-else-edges-i : goal.returns-else-edges-i
returns-else-edges-i c =
    let t = c.if-edges-i.false in (
      map (λ (e : Edge). e.to) (take (c.loop-i.i - c.partition_point-start.result) (drop c.partition_point-start.result c.args.edges.now)),
      c.loop-i.invariant.pushed,
      targets_of c.args.edges.now c.args.key c.partition_point-start.result c.loop-i.i c.requires c.loop-i.invariant.from_start c.loop-i.invariant.in_edges c.loop-i.invariant.before c.loop-i.invariant.behind c.loop-i.invariant.of_key
          (λ lt d e. t (from_at c.args.edges.now c.loop-i.i (record { from = 0; to = 0; name = 0 }) d lt ∙ e)),
    )

pub returns-after-loop-i : goal.returns-after-loop-i
returns-after-loop-i c = (
  map (λ (e : Edge). e.to) (take (c.loop-i.i - c.partition_point-start.result) (drop c.partition_point-start.result c.args.edges.now)),
  c.loop-i.invariant.pushed,
  targets_of c.args.edges.now c.args.key c.partition_point-start.result c.loop-i.i c.requires c.loop-i.invariant.from_start c.loop-i.invariant.in_edges c.loop-i.invariant.before c.loop-i.invariant.behind c.loop-i.invariant.of_key
      (λ lt d e. omega arith),
)
