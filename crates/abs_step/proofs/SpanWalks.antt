-- Walks over spans: each divides the addresses into those before it, those in it, and those behind it.
use Rattle.std.specs.Prelude.{◌≡◌, ℕ, ◌+◌, ◌-◌, ◌<◌, ◌≤◌, ◌^◌, max, min, take, drop, length, Bool, true, false, not, ◌&&◌, ◌||◌, cond, nat_eq, nat_le, nat_lt, List, [], ◌∷◌, Some, None, if◌then◌else◌}
use Rattle.std.proofs.Common.{refl, arith, zero, suc, sym, ◌∙◌, ap, get_or}
use Rattle.std.proofs.Math.Path.{ap₂}
use Rattle.std.proofs.lemmas.Bool.{false≢true, and_left, and_right}
use Rattle.std.proofs.lemmas.List.{take_all}
use Rattle.std.proofs.lemmas.Bool.Decides.{nat_tests}
use Rattle.viper_word.specs.Ranges.{NumberRange}
use Rattle.num_domain.specs.Domain.{Domain}
use Rattle.memory_plan.specs.Ranges.{Span}
use Rattle.memory_plan.specs.Plans.{PlanLines, has_address, has_code, range_at}
use Rattle.abs_step.specs.Addresses.{any_from, some_passes, passes_at, in_spans}
use Rattle.abs_step.specs.Walks.{first_from, all_pass, allows, fits, is_in_either}
use Rattle.abs_step.specs.Results.{addressed}
use Rattle.abs_step.specs.Conditions.{each_address}
use Rattle.abs_step.specs.declared.addresses.Use.{Use}
use Rattle.abs_step.specs.declared.addresses.Use.TheVariants.{Input}
use Rattle.flag_relation.specs.Values.{Values}
use Rattle.viper_decode.specs.declared.instructions.Place.{Place}
use Rattle.viper_decode.specs.declared.instructions.Place.TheVariants.{At}
use Rattle.abs_step.proofs.AddressLaws.{any_from_at}
use Rattle.abs_step.proofs.SearchLaws.{any_none, any_on, first_some, first_nothing, equal}

-- ---- tests over addresses

any_same : (p q : ℕ → Bool) (at n : ℕ) → ((k : ℕ) → at ≤ k → k < at + n → p k ≡ q k) → any_from p at n ≡ any_from q at n
unfolding any_from
any_same p q at zero f = refl
any_same p q at (suc n) f = ap₂ (λ (x y : Bool). x || y) (f at (omega arith) (omega arith)) (any_same p q (suc at) n (λ k i j. f k (omega arith) (omega arith)))

or_three : (x y z : Bool) → (x || (y || z)) ≡ ((x || y) || z)
or_three true y z = refl
or_three false y z = refl

any_split : (p : ℕ → Bool) (m at n : ℕ) → any_from p at (m + n) ≡ (any_from p at m || any_from p (at + m) n)
unfolding any_from
any_split p zero at n = ap₂ (any_from p) (omega arith) (omega arith)
any_split p (suc m) at n =
    let e : suc m + n ≡ suc (m + n) = omega arith in
    let g : suc at + m ≡ at + suc m = omega arith in
    ap (any_from p at) e
    ∙ ap (λ (b : Bool). p at || b) (any_split p m (suc at) n)
    ∙ or_three (p at) (any_from p (suc at) m) (any_from p (suc at + m) n)
    ∙ ap (λ (k : ℕ). (p at || any_from p (suc at) m) || any_from p k n) g

not_or : (x y : Bool) → not (x || y) ≡ (not x && not y)
not_or true y = refl
not_or false y = refl

-- ---- all pass

-- the addresses before one, and those from it on
pub pass_split : (p ok : ℕ → Bool) (from at to : ℕ) → from ≤ at → at ≤ to → all_pass p ok from to ≡ (all_pass p ok from at && all_pass p ok at to)
pass_split p ok from at to h h' =
    let e : to - from ≡ (at - from) + (to - at) = omega arith in
    let g : from + (at - from) ≡ at = omega arith in
    ap not (ap (any_from (λ k. p k && not (ok k)) from) e ∙ any_split (λ k. p k && not (ok k)) (at - from) from (to - at))
    ∙ not_or (any_from (λ k. p k && not (ok k)) from (at - from)) (any_from (λ k. p k && not (ok k)) (from + (at - from)) (to - at))
    ∙ ap (λ (k : ℕ). all_pass p ok from at && not (any_from (λ k. p k && not (ok k)) k (to - at))) g

pub pass_same : (p a b : ℕ → Bool) (from to : ℕ) → ((k : ℕ) → from ≤ k → k < to → a k ≡ b k) → all_pass p a from to ≡ all_pass p b from to
pass_same p a b from to f =
    ap not (any_same (λ k. p k && not (a k)) (λ k. p k && not (b k)) from (to - from) (λ k i j. ap (λ (x : Bool). p k && not x) (f k i (omega arith))))

pub pass_over : (p ok : ℕ → Bool) (from to : ℕ) → to ≤ from → all_pass p ok from to ≡ true
pass_over p ok from to h = ap not (any_none (λ k. p k && not (ok k)) from (to - from) (λ k i j. absurd (omega arith)))

any_nothing : (p : ℕ → Bool) (at n : ℕ) → any_from p at n ≡ false → (k : ℕ) → at ≤ k → k < at + n → p k ≡ false
any_nothing p at n e k i j = by_test (p k) refl
  where
    by_test : (b : Bool) → p k ≡ b → p k ≡ false
    by_test true t = absurd (false≢true (sym e ∙ any_from_at p at n k i j t))
    by_test false t = t

-- the place may be none of the addresses
pub pass_unmet : (p ok : ℕ → Bool) (from to : ℕ) → any_from p from (to - from) ≡ false → all_pass p ok from to ≡ true
pass_unmet p ok from to e =
    ap not (any_none (λ k. p k && not (ok k)) from (to - from) (λ k i j. and_left (p k) (not (ok k)) (any_nothing p from (to - from) e k i j)))

and_true : (x y : Bool) → y ≡ true → (x && y) ≡ x
and_true true y h = h
and_true false y h = refl

-- all the addresses pass alike
pub pass_alike : (p ok : ℕ → Bool) (b : Bool) (from to : ℕ) → ((k : ℕ) → from ≤ k → k < to → ok k ≡ b) → all_pass p ok from to ≡ not (not b && any_from p from (to - from))
pass_alike p ok true from to f =
    ap not (any_none (λ k. p k && not (ok k)) from (to - from) (λ k i j. and_right (p k) (not (ok k)) (ap not (f k i (omega arith)))))
pass_alike p ok false from to f =
    ap not (any_same (λ k. p k && not (ok k)) p from (to - from) (λ k i j. and_true (p k) (not (ok k)) (ap not (f k i (omega arith)))))

-- nothing passes where there are no spans
pub pass_nowhere : (p ok : ℕ → Bool) (from to : ℕ) → ((k : ℕ) → ok k ≡ false) → all_pass p ok from to ≡ not (any_from p from (to - from))
pass_nowhere p ok from to f = pass_alike p ok false from to (λ k i j. f k)

-- a search for the first address leaves none out
pub pass_first : (p ok : ℕ → Bool) (to m : ℕ) → first_from p 0 (to - 0) ≡ Some m → all_pass p ok 0 to ≡ all_pass p ok m to
pass_first p ok to m e =
    let f = first_some p 0 (to - 0) m e in
    let up = f.up in
    let below = f.below in
    ap not (any_on (λ k. p k && not (ok k)) 0 m to (omega arith) (omega arith) (λ k i j. and_left (p k) (not (ok k)) (f.before k i j)))

pub pass_none : (p ok : ℕ → Bool) (to : ℕ) → first_from p 0 (to - 0) ≡ None → all_pass p ok 0 to ≡ true
pass_none p ok to e =
    ap not (any_none (λ k. p k && not (ok k)) 0 (to - 0) (λ k i j. and_left (p k) (not (ok k)) (first_nothing p 0 (to - 0) e k i j)))

-- the one address
pub pass_one : (ok : ℕ → Bool) (a : ℕ) → all_pass (λ n. nat_eq a n) ok a (a + 1) ≡ ok a
unfolding any_from
pass_one ok a =
    let e : a + 1 - a ≡ suc 0 = omega arith in
    ap (λ (m : ℕ). not (any_from (λ n. nat_eq a n && not (ok n)) a m)) e ∙ ap (λ (b : Bool). not ((b && not (ok a)) || false)) (equal a) ∙ twice (ok a)
  where
    twice : (b : Bool) → not ((true && not b) || false) ≡ b
    twice true = refl
    twice false = refl

-- ---- spans

abbrev pub apart : ℕ → ℕ → ℕ → ℕ → Bool
apart lo hi from to = nat_lt hi lo || (nat_lt hi from || nat_le to lo)

-- what two ends that aren't apart say
record Meets (lo hi from to : ℕ) : Type 0 where
  order : lo ≤ hi
  low : from ≤ hi
  high : lo < to

meets : (lo hi from to : ℕ) → apart lo hi from to ≡ false → Meets lo hi from to
meets lo hi from to e = record { order = grind (arith, nat_tests); low = grind (arith, nat_tests); high = grind (arith, nat_tests) }

abbrev between : ℕ → ℕ → ℕ → Bool
between lo hi k = nat_le lo k && nat_le k hi

apart_out : (lo hi from to k : ℕ) → apart lo hi from to ≡ true → from ≤ k → k < to → between lo hi k ≡ false
apart_out lo hi from to k e i j = grind (arith, nat_tests)

before_out : (lo hi k : ℕ) → k < lo → between lo hi k ≡ false
before_out lo hi k h = grind (arith, nat_tests)

behind_out : (lo hi k : ℕ) → hi < k → between lo hi k ≡ false
behind_out lo hi k h = grind (arith, nat_tests)

within : (lo hi k : ℕ) → lo ≤ k → k ≤ hi → between lo hi k ≡ true
within lo hi k h h' = grind (arith, nat_tests)

-- the parts of the addresses that a span divides
pub record Parts (lo hi from low high to : ℕ) : Type 0 where
  pub up : from ≤ low
  pub on : low ≤ high
  pub end : high ≤ to
  pub before : (k : ℕ) → from ≤ k → k < low → k < lo
  pub first : lo ≤ low
  pub last : high ≤ hi + 1
  pub behind : (k : ℕ) → high ≤ k → k < to → hi < k

passes_out : (s : Span) (ss : List Span) (f : NumberRange → Bool) (k : ℕ) → between s.0 s.1 k ≡ false → passes_at (s ∷ ss) f k ≡ passes_at ss f k
passes_out s ss f k h = ap (λ (b : Bool). some_passes f (if b then Some s.2 else range_at ss k)) h

passes_in : (s : Span) (ss : List Span) (f : NumberRange → Bool) (k : ℕ) → between s.0 s.1 k ≡ true → passes_at (s ∷ ss) f k ≡ f s.2
passes_in s ss f k h = ap (λ (b : Bool). some_passes f (if b then Some s.2 else range_at ss k)) h

apart_span : (p : ℕ → Bool) (s : Span) (ss : List Span) (f : NumberRange → Bool) (from to : ℕ) → apart s.0 s.1 from to ≡ true → all_pass p (passes_at (s ∷ ss) f) from to ≡ all_pass p (passes_at ss f) from to
apart_span p s ss f from to h =
    pass_same p (passes_at (s ∷ ss) f) (passes_at ss f) from to (λ k i j. passes_out s ss f k (apart_out s.0 s.1 from to k h i j))

and_turn : (x y z : Bool) → (x && (y && z)) ≡ (y && (x && z))
and_turn true true z = refl
and_turn true false z = refl
and_turn false true z = refl
and_turn false false z = refl

span_divides : (p : ℕ → Bool) (s : Span) (ss : List Span) (f : NumberRange → Bool) (from low high to : ℕ) → Parts s.0 s.1 from low high to → all_pass p (passes_at (s ∷ ss) f) from to ≡ (not (not (f s.2) && any_from p low (high - low)) && (all_pass p (passes_at ss f) from low && all_pass p (passes_at ss f) high to))
span_divides p s ss f from low high to parts =
    let up = parts.up in
    let on = parts.on in
    let end = parts.end in
    let first = parts.first in
    let last = parts.last in
    let all = passes_at (s ∷ ss) f in
    let rest = passes_at ss f in
    let before = pass_same p all rest from low (λ k i j. passes_out s ss f k (before_out s.0 s.1 k (parts.before k i j))) in
    let inside = pass_alike p all (f s.2) low high (λ k i j. passes_in s ss f k (within s.0 s.1 k (omega arith) (omega arith))) in
    let behind = pass_same p all rest high to (λ k i j. passes_out s ss f k (behind_out s.0 s.1 k (parts.behind k i j))) in
    pass_split p all from low to up (omega arith)
    ∙ ap₂ (λ (x y : Bool). x && y) before (pass_split p all low high to on end ∙ ap₂ (λ (x y : Bool). x && y) inside behind)
    ∙ and_turn (all_pass p rest from low) (not (not (f s.2) && any_from p low (high - low))) (all_pass p rest high to)

-- ---- the walk, as code has it

-- those behind the first of a slice
abbrev pub others : {A : Type 0} → List A → List A
others xs = take (length xs - 1) (drop 1 xs)

first_and_others : {A : Type 0} (xs : List A) (x : A) → 1 ≤ length xs → x ≡ get_or xs 0 x → xs ≡ x ∷ others xs
first_and_others [] x h e = absurd (omega arith)
first_and_others {A = A} (y ∷ ys) x h e =
    ap₂ (λ (z : A) (zs : List A). z ∷ zs) (sym e) (sym (take_all (length (y ∷ ys) - 1) ys (omega arith)))

-- the ends of the parts, as code finds them
pub record Cuts (lo hi from to low high : ℕ) : Type 0 where
  pub meets : apart lo hi from to ≡ false
  pub order : from ≤ to
  pub before : low ≡ max from lo
  pub behind : high ≡ min to (hi + 1)

parts_of : (lo hi from to low high : ℕ) → Cuts lo hi from to low high → Parts lo hi from low high to
parts_of lo hi from to low high cuts =
    let m = meets lo hi from to cuts.meets in
    let order = m.order in
    let below = m.low in
    let above = m.high in
    let h = cuts.order in
    let b = cuts.before in
    let d = cuts.behind in
    record {
      up = omega arith;
      on = omega arith;
      end = omega arith;
      before = λ k i j. omega arith;
      first = omega arith;
      last = omega arith;
      behind = λ k i j. omega arith;
    }

pub walk_apart : (p : ℕ → Bool) (s : Span) (ss : List Span) (f : NumberRange → Bool) (from to : ℕ) → 1 ≤ length ss → s ≡ get_or ss 0 s → apart s.0 s.1 from to ≡ true → all_pass p (passes_at ss f) from to ≡ all_pass p (passes_at (others ss) f) from to
walk_apart p s ss f from to n e h =
    ap (λ (l : List Span). all_pass p (passes_at l f) from to) (first_and_others ss s n e)
    ∙ apart_span p s (others ss) f from to h

pub walk_on : (p : ℕ → Bool) (s : Span) (ss : List Span) (f : NumberRange → Bool) (from low high to : ℕ) → 1 ≤ length ss → s ≡ get_or ss 0 s → Cuts s.0 s.1 from to low high → all_pass p (passes_at ss f) from to ≡ (not (not (f s.2) && any_from p low (high - low)) && (all_pass p (passes_at (others ss) f) from low && all_pass p (passes_at (others ss) f) high to))
walk_on p s ss f from low high to n e cuts =
    ap (λ (l : List Span). all_pass p (passes_at l f) from to) (first_and_others ss s n e)
    ∙ span_divides p s (others ss) f from low high to (parts_of s.0 s.1 from to low high cuts)

-- the answer where the first parts pass, and where one doesn't
pub and_last : (x y z : Bool) → x ≡ false → y ≡ true → (not x && (y && z)) ≡ z
and_last true y z e f = absurd (cc)
and_last false true z e f = refl
and_last false false z e f = absurd (cc)

pub and_middle : (x y z : Bool) → x ≡ false → y ≡ false → (not x && (y && z)) ≡ y
and_middle true y z e f = absurd (cc)
and_middle false true z e f = absurd (cc)
and_middle false false z e f = refl

pub and_head : (x w : Bool) → x ≡ true → (not x && w) ≡ not x
and_head true w e = refl
and_head false w e = absurd (cc)

pub both_last : (y z : Bool) → y ≡ true → (y && z) ≡ z
both_last true z e = refl
both_last false z e = absurd (cc)

pub both_head : (y z : Bool) → y ≡ false → (y && z) ≡ y
both_head true z e = absurd (cc)
both_head false z e = refl

-- ---- code spans before data spans

either_out : (s : ℕ × ℕ) (code : List (ℕ × ℕ)) (ss : List Span) (k : ℕ) → between s.0 s.1 k ≡ false → is_in_either (s ∷ code) ss k ≡ is_in_either code ss k
either_out s code ss k h = ap (λ (b : Bool). cond (b || has_code code k) true (in_spans ss k)) h

either_in : (s : ℕ × ℕ) (code : List (ℕ × ℕ)) (ss : List Span) (k : ℕ) → between s.0 s.1 k ≡ true → is_in_either (s ∷ code) ss k ≡ true
either_in s code ss k h = ap (λ (b : Bool). cond (b || has_code code k) true (in_spans ss k)) h

apart_code : (p : ℕ → Bool) (s : ℕ × ℕ) (code : List (ℕ × ℕ)) (ss : List Span) (from to : ℕ) → apart s.0 s.1 from to ≡ true → all_pass p (is_in_either (s ∷ code) ss) from to ≡ all_pass p (is_in_either code ss) from to
apart_code p s code ss from to h =
    pass_same p (is_in_either (s ∷ code) ss) (is_in_either code ss) from to (λ k i j. either_out s code ss k (apart_out s.0 s.1 from to k h i j))

code_divides : (p : ℕ → Bool) (s : ℕ × ℕ) (code : List (ℕ × ℕ)) (ss : List Span) (from low high to : ℕ) → Parts s.0 s.1 from low high to → all_pass p (is_in_either (s ∷ code) ss) from to ≡ (all_pass p (is_in_either code ss) from low && all_pass p (is_in_either code ss) high to)
code_divides p s code ss from low high to parts =
    let up = parts.up in
    let on = parts.on in
    let end = parts.end in
    let first = parts.first in
    let last = parts.last in
    let all = is_in_either (s ∷ code) ss in
    let rest = is_in_either code ss in
    let before = pass_same p all rest from low (λ k i j. either_out s code ss k (before_out s.0 s.1 k (parts.before k i j))) in
    let inside = pass_alike p all true low high (λ k i j. either_in s code ss k (within s.0 s.1 k (omega arith) (omega arith))) in
    let behind = pass_same p all rest high to (λ k i j. either_out s code ss k (behind_out s.0 s.1 k (parts.behind k i j))) in
    pass_split p all from low to up (omega arith)
    ∙ ap₂ (λ (x y : Bool). x && y) before (pass_split p all low high to on end ∙ ap₂ (λ (x y : Bool). x && y) inside behind)

-- ---- a test of the range that each range passes

in_spans_fit : (ss : List Span) (f : NumberRange → Bool) (k : ℕ) → ((r : NumberRange) → f r ≡ true) → passes_at ss f k ≡ in_spans ss k
in_spans_fit [] f k h = refl
in_spans_fit (s ∷ ss) f k h = by_test (has_address s k) (in_spans_fit ss f k h)
  where
    by_test : (b : Bool) → passes_at ss f k ≡ in_spans ss k → some_passes f (if b then Some s.2 else range_at ss k) ≡ (b || in_spans ss k)
    by_test true i = h s.2
    by_test false i = i

-- data spans alone
pub spans_alone : (p : ℕ → Bool) (code : List (ℕ × ℕ)) (ss : List Span) (f : NumberRange → Bool) (from to : ℕ) → length code < 1 → ((r : NumberRange) → f r ≡ true) → all_pass p (passes_at ss f) from to ≡ all_pass p (is_in_either code ss) from to
spans_alone p [] ss f from to n h = pass_same p (passes_at ss f) (is_in_either [] ss) from to (λ k i j. in_spans_fit ss f k h)
spans_alone p (s ∷ code) ss f from to n h = absurd (omega arith)

pub code_apart : (p : ℕ → Bool) (s : ℕ × ℕ) (code : List (ℕ × ℕ)) (ss : List Span) (from to : ℕ) → 1 ≤ length code → s ≡ get_or code 0 s → apart s.0 s.1 from to ≡ true → all_pass p (is_in_either code ss) from to ≡ all_pass p (is_in_either (others code) ss) from to
code_apart p s code ss from to n e h =
    ap (λ (l : List (ℕ × ℕ)). all_pass p (is_in_either l ss) from to) (first_and_others code s n e)
    ∙ apart_code p s (others code) ss from to h

pub code_on : (p : ℕ → Bool) (s : ℕ × ℕ) (code : List (ℕ × ℕ)) (ss : List Span) (from low high to : ℕ) → 1 ≤ length code → s ≡ get_or code 0 s → Cuts s.0 s.1 from to low high → all_pass p (is_in_either code ss) from to ≡ (all_pass p (is_in_either (others code) ss) from low && all_pass p (is_in_either (others code) ss) high to)
code_on p s code ss from low high to n e cuts =
    ap (λ (l : List (ℕ × ℕ)). all_pass p (is_in_either l ss) from to) (first_and_others code s n e)
    ∙ code_divides p s (others code) ss from low high to (parts_of s.0 s.1 from to low high cuts)

-- an input, whose range doesn't matter
input_fits : {T : Type 0} (d : Domain T) (plan : PlanLines) (p : ℕ → Bool) (from to : ℕ) → all_pass p (passes_at plan.inputs (fits d Input)) from to ≡ all_pass p (allows d plan Input) from to
input_fits d plan p from to =
    pass_same p (passes_at plan.inputs (fits d Input)) (allows d plan Input) from to (λ k i j. in_spans_fit plan.inputs (fits d Input) k (λ r. refl))

pub input_allowed : {T : Type 0} (d : Domain T) (plan : PlanLines) (what : Use T) (ss : List Span) (p : ℕ → Bool) (from to : ℕ) → what ≡ Input → ss ≡ plan.inputs → all_pass p (passes_at ss (fits d what)) from to ≡ all_pass p (allows d plan what) from to
input_allowed {T = T} d plan what ss p from to e h =
    ap₂ (λ (l : List Span) (w : Use T). all_pass p (passes_at l (fits d w)) from to) h e
    ∙ input_fits d plan p from to
    ∙ ap (λ (w : Use T). all_pass p (allows d plan w) from to) (sym e)

-- a plain address
at_fits : {T : Type 0} (d : Domain T) (v : Values T) (ok : ℕ → Bool) (a : ℕ) → a < 2 ^ 20 → all_pass (addressed d (At a) v) ok a (a + 1) ≡ each_address d (At a) v ok
unfolding addressed each_address
at_fits d v ok a h =
    let small : nat_lt a (2 ^ 20) ≡ true = grind (arith, nat_tests) in
    pass_one ok a ∙ ap (λ (b : Bool). b && ok a) (sym small)

pub at_allowed : {T : Type 0} (d : Domain T) (place : Place) (v : Values T) (ok : ℕ → Bool) (a m n : ℕ) → place ≡ At a → a < 2 ^ 20 → m ≡ a → n ≡ a → all_pass (addressed d place v) ok m (n + 1) ≡ each_address d place v ok
at_allowed d place v ok a m n e h i j =
    ap₂ (λ (k l : ℕ). all_pass (addressed d place v) ok k (l + 1)) i j
    ∙ ap (λ (q : Place). all_pass (addressed d q v) ok a (a + 1)) e
    ∙ at_fits d v ok a h
    ∙ ap (λ (q : Place). each_address d q v ok) (sym e)
