use Rattle.std.proofs.Common.{◌≡◌, ◌<◌, ℕ, length, get_or}
use Rattle.rank_numbers.specs.Offsets.{IsBest, AreBounded, leads_at, number_at}
use Rattle.rank_numbers.proofs.offset.offsets.Given as goal

abbrev pub invariant-loop-p : goal.invariant-loop-p
invariant-loop-p l = record {
  len : length l.offset.items ≡ length l.leads;
  best : (k : ℕ) → k < l.p-index → IsBest (leads_at l.leads (get_or l.order k 0)) l.greatest l.offset.items (number_at l.offset.items (get_or l.order k 0));
  bounded : AreBounded l.greatest l.offset.items l.p-index;
}
