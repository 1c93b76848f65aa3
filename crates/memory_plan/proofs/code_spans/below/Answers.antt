use Rattle.std.proofs.Common.{ℕ, ltb, rules}
use Rattle.std.proofs.lemmas.List.Sorted.{IsPartitionPoint-from_clause}
use Rattle.memory_plan.proofs.SortedLemmas.{ends_partitioned}
use Rattle.memory_plan.proofs.code_spans.below.Goals as goal

pub returns-clause-place : goal.returns-clause-place
returns-clause-place c = IsPartitionPoint-from_clause (λ (s : ℕ × ℕ). ltb s.1 c.args.at) c.args.sorted.now c.partition_point.result c.partition_point.ensures.partitioned (ends_partitioned c.args.sorted.now c.args.at c.requires) (λ a r f k. search rules)
