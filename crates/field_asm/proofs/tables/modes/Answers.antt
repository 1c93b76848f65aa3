use Rattle.std.proofs.Common.{refl, arith}
use Rattle.text_lines.specs.Parts.{parts_of}
use Rattle.field_asm.proofs.tables.modes.Goals as goal

pub of-requires : goal.of-requires
unfolding parts_of
of-requires c = (omega arith, (refl, refl))
