-- Lists that are searched from their front.
use Rattle.std.proofs.Common.{◌≡◌, ◌≢◌, ◌∙◌, slice_get, refl, arith, ℕ, ◌+◌, ◌<◌, ◌≤◌, Bool, false, cond, eqb, List, length, drop, get_or, Some, None, sym, ap}
use Rattle.std.proofs.lemmas.List.{at_drop_more, drop_all}
use Rattle.memory_plan.specs.Ranges.{Span}
use Rattle.std.proofs.lemmas.Bool.Decides.{nat_tests}
use Rattle.viper_word.specs.Fields.{Fields}
use Rattle.memory_plan.specs.declared.cost.TheConstants.{FUNCTIONS}
use Rattle.memory_plan.specs.Costs.{place_of, cost_of, kind_costed}
use Rattle.memory_plan.specs.Plans.{has_address, range_at}
use Rattle.memory_plan.specs.declared.cost.Costed.{Costed}

-- what the cost is where the line at a place is of the kind, and where it isn't
pub cost_found : (costs : List (Costed × ℕ)) (kind : Costed) (i : ℕ) (d : Costed × ℕ) (test : Bool) → i < length costs → test ≡ eqb (place_of (get_or costs i d).0) (place_of kind)
    → cost_of (drop i costs) kind ≡ cond test (get_or costs i d).1 (cost_of (drop (i + 1) costs) kind)
cost_found costs kind i d test lt e =
    at_drop_more (λ (cs : List (Costed × ℕ)). cost_of cs kind) costs i d lt
    ∙ ap (λ (b : Bool). cond b (get_or costs i d).1 (cost_of (drop (i + 1) costs) kind)) (sym e)

pub cost_plain : (costs : List (Costed × ℕ)) (kind : Costed) (i : ℕ) → length costs ≤ i → cost_of (drop i costs) kind ≡ 1
cost_plain costs kind i done = ap (λ (cs : List (Costed × ℕ)). cost_of cs kind) (drop_all i costs done)

-- what the range is where the span at a place has the address, and where it hasn't
pub range_found : (spans : List Span) (at i : ℕ) (d : Span) (test : Bool) → i < length spans → test ≡ has_address (get_or spans i d) at
    → range_at (drop i spans) at ≡ cond test (Some (get_or spans i d).2) (range_at (drop (i + 1) spans) at)
range_found spans at i d test lt e =
    at_drop_more (λ (ss : List Span). range_at ss at) spans i d lt
    ∙ ap (λ (b : Bool). cond b (Some (get_or spans i d).2) (range_at (drop (i + 1) spans) at)) (sym e)

pub no_range : (spans : List Span) (at i : ℕ) → length spans ≤ i → range_at (drop i spans) at ≡ None
no_range spans at i done = ap (λ (ss : List Span). range_at ss at) (drop_all i spans done)

-- an instruction that is no comparison, output or store is of its function's kind
pub function_costed : (i : Fields) → i.c ≡ false → i.d ≢ 6 → i.d ≢ 7 → kind_costed i ≡ slice_get FUNCTIONS i.f
function_costed i e out store =
    let first : eqb i.d 6 ≡ false = grind (arith, nat_tests) in
    let second : eqb i.d 7 ≡ false = grind (arith, nat_tests) in
    rw (e, first, second) refl
