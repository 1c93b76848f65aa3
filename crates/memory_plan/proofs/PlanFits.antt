-- What a line of right numbers declares fits: addresses are below 2^20, ranges normal, numbers in bounds.
use Rattle.std.proofs.Common.{sym, lit<, ◌≡◌, ℕ, ◌+◌, ◌*◌, ◌^◌, ◌<◌, ◌≤◌, Bool, true, false, cond, eqb, List, [], ◌∷◌, length, Option, Some, None, subst, arith}
use Rattle.std.specs.Prelude.{codes, ℤ, pos, ◌&&◌, int_le, unsigned_abs}
use Rattle.std.specs.Ordering.{int_eq}
use Rattle.std.proofs.lemmas.Int.{ints}
use Rattle.std.proofs.lemmas.Option.{none-some, same_Some, cond_some}
use Rattle.std.proofs.lemmas.Bool.Decides.{nat_tests}
use Rattle.std.specs.Str.{bytes_eq}
use Rattle.std.proofs.lemmas.Bool.{and_parts}
use native.Mathlib.Numerals.{unary_clauses}
use Rattle.hex.specs.Hex.{hex_digit_value}
use Rattle.viper_word.proofs.Booleans.{guard_some}
use Rattle.viper_word.proofs.Integers.{le_true, is_signed_true}
use Rattle.viper_word.specs.Words.{IsSigned, is_signed}
use Rattle.text_lines.specs.Parts.{one, two, three, five}
use Rattle.memory_plan.specs.Hex.{hex_behind, hex_number}
use Rattle.viper_word.specs.Ranges.{NumberRange, IsNormal, any_word}
use Rattle.memory_plan.specs.Numbers.{number, range_text, range_of, one_of, steps_of, one_number, several, is_rising, is_step, leads}
use Rattle.memory_plan.specs.Costs.{cost_name}
use Rattle.memory_plan.specs.PlanShapes.{profile_shape, code_shape, span_shape, marker_shape, start_shape, threshold_shape, cost_shape, flag_of, shape_by, shape_of, start_of, is_cost, value_of}
use Rattle.memory_plan.specs.WellFormed.{HasNormalRanges}
use Rattle.memory_plan.specs.declared.range_text.RangeText.{RangeText}
use Rattle.memory_plan.specs.declared.range_text.RangeText.TheVariants.{Any, One, Ends, Steps}
use Rattle.memory_plan.specs.declared.plan_line.Space.{Space}
use Rattle.memory_plan.specs.declared.plan_line.Space.TheVariants.{Data, Input, Output}
use Rattle.memory_plan.specs.declared.plan_line.WrittenLine.{WrittenLine}
use Rattle.memory_plan.specs.declared.plan_line.WrittenLine.TheVariants as written
use Rattle.memory_plan.specs.declared.plan_line.PlanLine.{PlanLine}
use Rattle.memory_plan.specs.declared.plan_line.PlanLine.TheVariants as lines
use Rattle.memory_plan.proofs.HexLemmas.{digit_bound}
use Rattle.memory_plan.proofs.RangeLemmas.{steps_normal, any_normal, single_normal}
use Rattle.viper_word.proofs.Options.{bind_was}

-- ---- numbers of digits

hex_bound : (text : List ℕ) (n m k : ℕ) → n < 16 ^ k → hex_behind n text ≡ Some m → m < 16 ^ (k + length text)
hex_bound [] n m k small h =
    let same : n ≡ m = same_Some n m h in
    let none : k + 0 ≡ k = omega arith in
    subst (λ (j : ℕ). m < 16 ^ j) (sym none) (subst (λ (j : ℕ). j < 16 ^ k) same small)
hex_bound (c ∷ cs) n m k small h =
    let digit = bind_was (hex_digit_value c) _ m h in
    let v = digit.first in
    let low = digit_bound c v digit.is in
    let power : 16 ^ (k + 1) ≡ 16 ^ k * 16 = simp unary_clauses in
    let next : n * 16 + v < 16 ^ (k + 1) = rw power (omega (arith, small, low)) in
    let more : k + 1 + length cs ≡ k + length (c ∷ cs) = omega arith in
    subst (λ (j : ℕ). m < 16 ^ j) more (hex_bound cs (n * 16 + v) m (k + 1) next digit.gives)

-- so many digits
pub hex_small : (count : ℕ) (text : List ℕ) (n : ℕ) → hex_number count text ≡ Some n → n < 16 ^ count
unfolding hex_number
hex_small count text n h =
    let there = guard_some (eqb (length text) count) (hex_behind 0 text) n h in
    let same : length text ≡ count = let e = there.0 in grind (arith, nat_tests) in
    let all : 0 + length text ≡ count = omega (arith, same) in
    subst (λ (j : ℕ). n < 16 ^ j) all (hex_bound text 0 n 0 (lit< tt) there.1)

pub address_small : (text : List ℕ) (n : ℕ) → hex_number 5 text ≡ Some n → n < 2 ^ 20
address_small text n h = hex_small 5 text n h

-- ---- shapes

-- the addresses of a written line
abbrev pub Placed : WrittenLine → Type 0
Placed (written.Profile p) = Unit {0}
Placed (written.Code lo hi) = hi < 2 ^ 20
Placed (written.Region space lo hi r) = hi < 2 ^ 20
Placed (written.Marker at) = Unit {0}
Placed (written.Start at a x y b) = at < 2 ^ 20
Placed (written.Threshold n) = Unit {0}
Placed (written.Cost kind n) = Unit {0}

-- what is there is placed
abbrev AllPlaced : Option WrittenLine → Type 0
AllPlaced shape = (w : WrittenLine) → shape ≡ Some w → Placed w

profile_placed : (tokens : List (List ℕ)) → AllPlaced (profile_shape tokens)
unfolding profile_shape
profile_placed tokens w e =
    let t = bind_was (one tokens) _ w e in
    let n = bind_was (number t.first) _ w t.gives in
    subst Placed (same_Some _ w n.gives) tt

code_placed : (tokens : List (List ℕ)) → AllPlaced (code_shape tokens)
unfolding code_shape
code_placed tokens w e =
    let t = bind_was (two tokens) _ w e in
    let lo = bind_was (hex_number 5 t.first.0) _ w t.gives in
    let hi = bind_was (hex_number 5 t.first.1) _ w lo.gives in
    subst Placed (same_Some _ w hi.gives) (address_small t.first.1 hi.first hi.is)

span_placed : (space : Space) (tokens : List (List ℕ)) → AllPlaced (span_shape space tokens)
unfolding span_shape
span_placed space tokens w e =
    let t = bind_was (three tokens) _ w e in
    let lo = bind_was (hex_number 5 t.first.0) _ w t.gives in
    let hi = bind_was (hex_number 5 t.first.1) _ w lo.gives in
    let range = bind_was (range_text t.first.2) _ w hi.gives in
    subst Placed (same_Some _ w range.gives) (address_small t.first.1 hi.first hi.is)

marker_placed : (tokens : List (List ℕ)) → AllPlaced (marker_shape tokens)
unfolding marker_shape
marker_placed tokens w e =
    let t = bind_was (one tokens) _ w e in
    let at = bind_was (hex_number 5 t.first) _ w t.gives in
    subst Placed (same_Some _ w at.gives) tt

start_placed : (tokens : List (List ℕ)) → AllPlaced (start_shape tokens)
unfolding start_shape
start_placed tokens w e =
    let t = bind_was (five tokens) _ w e in
    let at = bind_was (hex_number 5 t.first.0) _ w t.gives in
    let a = bind_was (range_text t.first.1) _ w at.gives in
    let x = bind_was (range_text t.first.2) _ w a.gives in
    let y = bind_was (range_text t.first.3) _ w x.gives in
    let b = bind_was (flag_of t.first.4) _ w y.gives in
    subst Placed (same_Some _ w b.gives) (address_small t.first.0 at.first at.is)

threshold_placed : (tokens : List (List ℕ)) → AllPlaced (threshold_shape tokens)
unfolding threshold_shape
threshold_placed tokens w e =
    let t = bind_was (one tokens) _ w e in
    let n = bind_was (number t.first) _ w t.gives in
    subst Placed (same_Some _ w n.gives) tt

cost_placed : (tokens : List (List ℕ)) → AllPlaced (cost_shape tokens)
unfolding cost_shape
cost_placed tokens w e =
    let t = bind_was (two tokens) _ w e in
    let kind = bind_was (cost_name t.first.0) _ w t.gives in
    let n = bind_was (number t.first.1) _ w kind.gives in
    subst Placed (same_Some _ w n.gives) tt

either_placed : (test : Bool) (here other : Option WrittenLine) → AllPlaced here → AllPlaced other → AllPlaced (cond test here other)
either_placed true here other h k = h
either_placed false here other h k = k

none_placed : AllPlaced None
none_placed w e = absurd (none-some w e)

by_placed : (kind : List ℕ) (tokens : List (List ℕ)) → AllPlaced (shape_by kind tokens)
by_placed kind tokens =
    either_placed (bytes_eq kind (codes "profile")) _ _ (profile_placed tokens)
    (either_placed (bytes_eq kind (codes "code")) _ _ (code_placed tokens)
    (either_placed (bytes_eq kind (codes "data")) _ _ (span_placed Data tokens)
    (either_placed (bytes_eq kind (codes "input")) _ _ (span_placed Input tokens)
    (either_placed (bytes_eq kind (codes "output")) _ _ (span_placed Output tokens)
    (either_placed (bytes_eq kind (codes "marker")) _ _ (marker_placed tokens)
    (either_placed (bytes_eq kind (codes "start")) _ _ (start_placed tokens)
    (either_placed (bytes_eq kind (codes "threshold")) _ _ (threshold_placed tokens)
    (either_placed (bytes_eq kind (codes "cost")) _ _ (cost_placed tokens) none_placed))))))))

pub shape_placed : (tokens : List (List ℕ)) → AllPlaced (shape_of tokens)
shape_placed [] = none_placed
shape_placed (kind ∷ tokens) = by_placed kind tokens

-- ---- numbers

one_normal : (n : ℤ) (r : NumberRange) → one_of n ≡ Some r → IsNormal r
one_normal n r h =
    let t = cond_some (is_signed n) (one_number n) r h in
    subst IsNormal t.1 (single_normal n (is_signed_true n t.0))

several_normal : (lo hi m : ℤ) (r : NumberRange) → steps_of lo hi m ≡ Some r → IsNormal r
unfolding steps_of
several_normal lo hi m r h =
    let t = cond_some (is_rising lo hi && is_step m && leads lo hi m) (several lo hi m) r h in
    let b = and_parts (is_rising lo hi && is_step m) (leads lo hi m) t.0 in
    let c = and_parts (is_rising lo hi) (is_step m) b.0 in
    subst IsNormal t.1 (steps_normal lo hi m c.0 c.1 b.1)

ends_normal : (lo hi : ℤ) (r : NumberRange) (same : Bool) → cond same (one_of lo) (steps_of lo hi (pos 1)) ≡ Some r → IsNormal r
ends_normal lo hi r true h = one_normal lo r h
ends_normal lo hi r false h = several_normal lo hi (pos 1) r h

pub range_normal : (text : RangeText) (r : NumberRange) → range_of text ≡ Some r → IsNormal r
range_normal Any r h = subst IsNormal (same_Some any_word r h) any_normal
range_normal (One n) r h = one_normal n r h
range_normal (Ends lo hi) r h = ends_normal lo hi r (int_eq lo hi) h
range_normal (Steps lo hi m) r h = several_normal lo hi m r h

-- ---- lines

-- a line that fits: its addresses are some, its ranges normal, and its numbers in bounds
abbrev pub LineFits : PlanLine → Type 0
LineFits (lines.Profile p) = Unit {0}
LineFits (lines.Code lo hi) = hi < 2 ^ 20
LineFits (lines.Region space lo hi r) = (hi < 2 ^ 20) × IsNormal r
LineFits (lines.Marker at) = Unit {0}
LineFits (lines.Start s) = (s.at < 2 ^ 20) × HasNormalRanges s
LineFits (lines.Threshold n) = IsSigned n
LineFits (lines.Cost kind n) = (1 ≤ n) × (n ≤ 1000)

start_fits : (at : ℕ) (b : Option Bool) (a x y : RangeText) (l : PlanLine) → at < 2 ^ 20 → start_of at b (range_of a) (range_of x) (range_of y) ≡ Some l → LineFits l
start_fits at b a x y l low h =
    let a' = bind_was (range_of a) _ l h in
    let x' = bind_was (range_of x) _ l a'.gives in
    let y' = bind_was (range_of y) _ l x'.gives in
    subst LineFits (same_Some _ l y'.gives) (low, record { a = range_normal a a'.first a'.is; x = range_normal x x'.first x'.is; y = range_normal y y'.first y'.is })

cost_bounds : (n : ℤ) → is_cost n ≡ true → (1 ≤ unsigned_abs n) × (unsigned_abs n ≤ 1000)
cost_bounds n h =
    let b = and_parts (int_le (pos 1) n) (int_le n (pos 1000)) h in
    let low = le_true (pos 1) n b.0 in
    let high = le_true n (pos 1000) b.1 in
    (omega (arith, ints, low, high), omega (arith, ints, low, high))

pub value_fits : (w : WrittenLine) (l : PlanLine) → Placed w → value_of w ≡ Some l → LineFits l
value_fits (written.Profile p) l h e = let q = bind_was p _ l e in subst LineFits (same_Some _ l q.gives) tt
value_fits (written.Code lo hi) l h e = subst LineFits (same_Some _ l e) h
value_fits (written.Region space lo hi r) l h e = let q = bind_was (range_of r) _ l e in subst LineFits (same_Some _ l q.gives) (h, range_normal r q.first q.is)
value_fits (written.Marker at) l h e = subst LineFits (same_Some _ l e) tt
value_fits (written.Start at a x y b) l h e = start_fits at b a x y l h e
value_fits (written.Threshold n) l h e = let t = cond_some (is_signed n) (lines.Threshold n) l e in subst LineFits t.1 (is_signed_true n t.0)
value_fits (written.Cost kind n) l h e = let t = cond_some (is_cost n) (lines.Cost kind (unsigned_abs n)) l e in subst LineFits t.1 (cost_bounds n t.0)
