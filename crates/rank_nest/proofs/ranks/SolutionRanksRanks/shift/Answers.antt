use Rattle.std.proofs.Common.{rules, ◌≡◌, ap, ◌∙◌}
use Rattle.rank_form.specs.Levels.{shift, in_limits}
use Rattle.rank_nest.specs.Forms.{if_small}
use Rattle.rank_nest.proofs.SmallForms.{shift_form, tested_twice}
use Rattle.rank_nest.proofs.ranks.SolutionRanksRanks.shift.Goals as goal

pub returns : goal.returns
returns g c =
    let f = c.args.form in
    let n = c.args.number in
    let is : c.shift.result ≡ in_limits (shift f n) = search rules in
    c.if_small.ensures ∙ ap if_small is ∙ tested_twice (shift f n) (shift_form f n c.keep_limits.ensures)
