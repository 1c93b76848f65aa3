use Rattle.std.proofs.Common.{arith, ◌<◌}
use Rattle.congruence_dom.specs.evidence.Solutions.{missing, lifted, lowered, lifted_least}
use Rattle.congruence_dom.proofs.divisors.+solve.Goals as goal

pub returns-in_err-part-clause-least : goal.returns-in_err-part-clause-least
unfolding missing
returns-in_err-part-clause-least t c k s =
    let h : 0 < c.args.a = let f = c.if-a-eq0.false in omega (arith, f) in
    let w = lowered c.args.a c.args.d c.args.n k h s in
    absurd (c.in_err-part.ensures.least s.steps w)

pub returns-clause-solution : goal.returns-clause-solution
unfolding missing
returns-clause-solution t c =
    let h : 0 < c.args.a = let f = c.if-a-eq0.false in omega (arith, f) in
    let l = lifted c.args.a c.args.d c.args.n c.in_ok-part.part h c.requires.remainder c.in_ok-part.ensures.below c.in_ok-part.ensures.solution in
    record { steps = c.in_ok-part.part; holds = l.exact }

pub returns-clause-least : goal.returns-clause-least
unfolding missing
returns-clause-least t c k s =
    let h : 0 < c.args.a = let f = c.if-a-eq0.false in omega (arith, f) in
    let l = lifted c.args.a c.args.d c.args.n c.in_ok-part.part h c.requires.remainder c.in_ok-part.ensures.below c.in_ok-part.ensures.solution in
    lifted_least c.args.a c.args.d c.args.n c.in_ok-part.part k h s l (c.in_ok-part.ensures.least s.steps (lowered c.args.a c.args.d c.args.n k h s))
