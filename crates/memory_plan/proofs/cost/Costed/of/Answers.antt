use Rattle.std.proofs.Common.{◌≡◌, ◌∙◌, slice_get, ap, sym, arith}
use Rattle.std.proofs.lemmas.Grind.{common_steps}
use Rattle.std.proofs.lemmas.Option.{gets}
use Rattle.viper_word.specs.Fields.{Fields}
use Rattle.memory_plan.specs.Costs.{kind_costed}
use Rattle.memory_plan.specs.declared.cost.TheConstants.{FUNCTIONS}
use Rattle.memory_plan.proofs.QueryLemmas.{function_costed}
use Rattle.memory_plan.proofs.cost.Costed.of.Goals as goal

pub returns-else-fields-eq-MEMORY : goal.returns-else-fields-eq-MEMORY
returns-else-fields-eq-MEMORY c =
    let got : c.copied.result ≡ slice_get FUNCTIONS c.fields.inside.f = grind (arith, common_steps, gets) in
    let fields : Fields = record { r = c.fields.inside.r; m = c.fields.inside.m; d = c.fields.inside.d; c = c.fields.inside.c; f = c.fields.inside.f; field = c.fields.inside.field } in
    got ∙ sym (ap kind_costed (sym c.fields.view_is) ∙ function_costed fields c.if-fields.false c.if-fields-eq-PERIPHERAL.false c.if-fields-eq-MEMORY.false)
