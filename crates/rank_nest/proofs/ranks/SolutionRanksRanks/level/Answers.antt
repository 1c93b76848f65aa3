use Rattle.std.proofs.Common.{rules, ◌≡◌, ap, ◌∙◌}
use Rattle.std.proofs.Math.Path.{ap₂}
use Rattle.flag_relation.specs.declared.var.Var.{Var}
use Rattle.std.specs.Prelude.{Bool}
use Rattle.rank_form.specs.Levels.{direction, level, in_limits}
use Rattle.rank_nest.specs.Candidates.{candidate_form}
use Rattle.rank_nest.specs.Forms.{if_small}
use Rattle.rank_nest.proofs.SmallForms.{level_form, tested_twice}
use Rattle.rank_nest.proofs.ranks.SolutionRanksRanks.level.Goals as goal

pub returns : goal.returns
returns g c =
    let t = c.args.weight in
    let low = c.args.low in
    let f = c.args.form in
    let is : c.level.result ≡ in_limits (level t (direction c.variable.result c.is_down.result) low f) = search rules in
    let same : c.level.result ≡ in_limits (level t (candidate_form c.args.candidate) low f) =
    is ∙ ap₂ (λ (v : Var) (b : Bool). in_limits (level t (direction v b) low f)) c.variable.ensures c.is_down.ensures in
    c.if_small.ensures ∙ ap if_small same ∙ tested_twice (level t (candidate_form c.args.candidate) low f) (level_form t (candidate_form c.args.candidate) low f)
