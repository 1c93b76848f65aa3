-- Values that are made of normal pairs.
use Rattle.std.specs.Prelude.{Option, Some, None, IfSome}
use Rattle.num_domain.specs.Domain.{Domain}
use Rattle.num_domain.specs.Pairs.{pairs}
use Rattle.interval_dom.specs.Intervals.{intervals}
use Rattle.congruence_dom.specs.Congruences.{congruences}
use Rattle.val_dom.specs.Normal.{P, IsNormal}
use Rattle.val_dom.specs.declared.val.Val.{Val}

-- the domain of the pairs
abbrev pub base : Domain P
base = pairs intervals congruences

abbrev pub val : (p : P) → IsNormal p → Val
val p h = record { pair = p; normal = h }

abbrev pub wrap : (o : Option P) → IfSome o IsNormal → Option Val
wrap None h = None
wrap (Some p) h = Some (val p h)
