use Rattle.field_asm.proofs.OneSource.{source_reading}
use Rattle.field_asm.proofs.laws.one_source.Goals as goal

pub returns : goal.returns
returns c = source_reading
