use Rattle.std.proofs.Common.{rules, ap, ◌∙◌, ◌∷◌, [], pos}
use Rattle.std.proofs.lemmas.Int.{to_z-of_z}
use mir.Val.{SFits}
use mir.Syntax.{w128}
use Rattle.flag_relation.specs.Forms.{form_of}
use Rattle.rank_form.specs.Levels.{direction}
use Rattle.rank_form.proofs.Ordering.{direction_form, some_is}
use Rattle.rank_form.proofs.levels.direction.Goals as goal

pub unwrap-requires : goal.unwrap-requires
unwrap-requires c =
    let f : SFits w128 c.sign.result = search rules in
    some_is c.new.result (direction c.args.var c.args.down) (c.new.ensures.form ∙ ap (λ z. form_of (pos 0) ((c.args.var, z) ∷ [])) (to_z-of_z w128 c.sign.result f ∙ c.sign.ensures) ∙ direction_form c.args.var c.args.down)
