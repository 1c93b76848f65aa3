-- The normal form of a pair of an interval and a congruence.
use Rattle.std.specs.Prelude.{◌≡◌, pos}
use Rattle.num_domain.specs.Domain.{Has}
use Rattle.num_domain.specs.declared.pair.Pair.{Pair}
use Rattle.interval_dom.specs.declared.interval.Interval.{Interval}
use Rattle.congruence_dom.specs.declared.congruence.Congruence.{Congruence}
use Rattle.congruence_dom.specs.Congruences.{congruences}

abbrev pub P : Type 0
P = Pair Interval Congruence

-- both ends are members, and a single value has the modulus 0
pub record IsNormal (p : P) : Type 0 where
  pub low_member : Has congruences p.right p.left.lo
  pub high_member : Has congruences p.right p.left.hi
  pub single : p.left.lo ≡ p.left.hi → p.right.modulus ≡ pos 0
