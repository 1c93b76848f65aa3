use Rattle.std.proofs.Common.{◌∙◌}
use Rattle.field_asm.proofs.SourceLemmas.{label_found}
use Rattle.field_asm.proofs.so_far.label_at.Goals as goal

pub returns : goal.returns
returns c = c.copied.ensures ∙ c.get.ensures.value ∙ label_found c.args.labels.now.entries c.args.text.now
