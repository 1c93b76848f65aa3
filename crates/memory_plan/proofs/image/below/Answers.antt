use Rattle.std.proofs.Common.{ℕ, ltb, rules}
use Rattle.std.proofs.lemmas.List.Sorted.{IsPartitionPoint-from_clause}
use Rattle.viper_word.specs.declared.word.Word.{Word}
use Rattle.memory_plan.proofs.ImageLemmas.{partitioned}
use Rattle.memory_plan.proofs.image.below.Goals as goal

pub returns-clause-place : goal.returns-clause-place
returns-clause-place c = IsPartitionPoint-from_clause (λ (e : ℕ × Word). ltb e.0 c.args.at) c.args.words.now c.partition_point.result c.partition_point.ensures.partitioned (partitioned c.args.words.now c.args.at c.requires) (λ a r f k. search rules)
