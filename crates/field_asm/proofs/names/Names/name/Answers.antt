use Rattle.std.proofs.Common.{◌∙◌, ℕ, List, ap, sym}
use Rattle.text_lines.specs.Parts.{tokens_of}
use Rattle.field_asm.specs.Names.{code_of}
use Rattle.field_asm.proofs.NameLemmas.{name_codes}
use Rattle.field_asm.proofs.names.Names.name.Goals as goal

pub returns-clause-code : goal.returns-clause-code
returns-clause-code g c =
    ap (λ (names : List (List ℕ)). code_of names c.name_at.result.now) (sym c.self.view_is)
    ∙ name_codes (tokens_of c.self.inside.text.now) c.args.code c.name_at.result.now c.self.invariant.1 c.name_at.ensures
