use Rattle.congruence_dom.proofs.divisors.+solve.Given as goal

abbrev pub decreases-solve : goal.decreases-solve
decreases-solve l = l.a
