use Rattle.std.proofs.Common.{◌≡◌, ◌-◌}
use Rattle.flag_relation.specs.Facts.{values}
use Rattle.abs_step.specs.Results.{addressed, join_all, words_from}
use Rattle.abs_step.proofs.operands.join_words.Given as goal

abbrev pub invariant-loop-at : goal.invariant-loop-at
invariant-loop-at g l =
    join_all g.D.NumDomain.domain l.all (words_from g.D.NumDomain.domain l.plan (addressed g.D.NumDomain.domain l.place (values l.fact)) l.at (l.to - l.at)) ≡ join_all g.D.NumDomain.domain l.fn.so_far (words_from g.D.NumDomain.domain l.plan (addressed g.D.NumDomain.domain l.place (values l.fact)) l.fn.from (l.to - l.fn.from))

abbrev pub decreases-loop-at : goal.decreases-loop-at
decreases-loop-at g l = l.to - l.at
