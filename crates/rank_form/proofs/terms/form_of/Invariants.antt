use Rattle.std.proofs.Common.{length, take, ◌≡◌, ◌≤◌, ◌-◌, ◌++◌}
use Rattle.rank_form.specs.declared.rates.TheConstants.{VARIABLES}
use Rattle.rank_form.specs.Weights.{terms_from}
use Rattle.rank_form.specs.Rates.{rate_at}
use Rattle.rank_form.proofs.terms.form_of.Given as goal

abbrev pub invariant-loop-number : goal.invariant-loop-number
invariant-loop-number l = record {
  in_range : l.number ≤ VARIABLES;
  room : l.count ≤ l.number;
  long : length l.items ≡ VARIABLES;
  made : take l.count l.items ++ terms_from (rate_at l.rates) l.number (VARIABLES - l.number) ≡ terms_from (rate_at l.rates) 0 VARIABLES;
}

abbrev pub decreases-loop-number : goal.decreases-loop-number
decreases-loop-number l = VARIABLES - l.number
