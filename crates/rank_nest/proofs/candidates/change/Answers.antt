use Rattle.std.proofs.Common.{◌≡◌, ap, sym, ◌∙◌}
use Rattle.std.proofs.Math.Path.{ap₂}
use Rattle.abs_step.specs.declared.outcome.Post.TheVariants.{Same}
use Rattle.abs_step.specs.OutcomeLists.{OutcomeOf}
use Rattle.rank_form.specs.Bounds.{post_at}
use Rattle.rank_nest.specs.Candidates.{variable, is_down}
use Rattle.rank_nest.proofs.Staying.{still}
use Rattle.rank_nest.proofs.candidates.change.Goals as goal

pub returns-in-Same : goal.returns-in-Same
returns-in-Same g c =
    let posts : c.out.inside.posts ≡ c.args.out.now.posts = ap (λ (q : OutcomeOf g.row.D.Denot). q.posts) c.out.view_is in
    let same : post_at c.args.out.now.posts (variable c.args.candidate) ≡ Same = ap₂ post_at (sym posts) (sym c.variable.ensures) ∙ sym c.post_at.ensures ∙ c.in-Same.is in
    sym (still g.D.NumDomain.domain g.met.D.NumDomain.laws c.args.out.now (variable c.args.candidate) (is_down c.args.candidate) c.requires.count same)
