-- The domain of normal pairs, by that of pairs.
use Rattle.std.specs.Prelude.{ℤ, int_le, Option, Some, None, cond}
use Rattle.num_domain.specs.Domain.{Domain}
use Rattle.val_dom.specs.Made.{base, val, wrap}
use Rattle.val_dom.specs.evidence.NormalForms.{top_normal, join_normal, add_normal, sub_normal, add_wrap_normal, sub_wrap_normal, xor_normal, bit_and_normal, nor_normal, and_not_normal, neg_normal, sar_normal, shl_normal, moved_normal, right_through_normal, left_through_normal, refine_normal, narrow_normal, constant_normal, span_normal, round_normal}
use Rattle.val_dom.specs.declared.val.Val.{Val}

-- the number of a single value
abbrev pub single : Val → Option ℤ
single v = cond (int_le v.pair.left.hi v.pair.left.lo) (Some v.pair.left.lo) None

-- each function is that of the pair
abbrev pub vals : Domain Val
vals = record {
  has = λ a n. base.has a.pair n;
  includes = λ a b. base.includes a.pair b.pair;
  height = λ a. base.height a.pair;
  constant = λ n. val (base.constant n) (constant_normal n);
  top = val base.top top_normal;
  span = λ lo hi m. val (base.span lo hi m) (span_normal lo hi m);
  join = λ a b. val (base.join a.pair b.pair) (join_normal a b);
  add = λ a b. wrap (base.add a.pair b.pair) (add_normal a b);
  sub = λ a b. wrap (base.sub a.pair b.pair) (sub_normal a b);
  add_wrap = λ a b. wrap (base.add_wrap a.pair b.pair) (add_wrap_normal a b);
  sub_wrap = λ a b. wrap (base.sub_wrap a.pair b.pair) (sub_wrap_normal a b);
  xor = λ a b. wrap (base.xor a.pair b.pair) (xor_normal a b);
  bit_and = λ a b. wrap (base.bit_and a.pair b.pair) (bit_and_normal a b);
  nor = λ a b. wrap (base.nor a.pair b.pair) (nor_normal a b);
  and_not = λ a b. wrap (base.and_not a.pair b.pair) (and_not_normal a b);
  neg = λ a. wrap (base.neg a.pair) (neg_normal a);
  sar = λ a. wrap (base.sar a.pair) (sar_normal a);
  shl = λ a. wrap (base.shl a.pair) (shl_normal a);
  moved = λ a k. wrap (base.moved a.pair k) (moved_normal a k);
  right_through = λ a b. wrap (base.right_through a.pair b) (right_through_normal a b);
  left_through = λ a b. wrap (base.left_through a.pair b) (left_through_normal a b);
  refine = λ a k b. wrap (base.refine a.pair k b.pair) (refine_normal a k b);
  narrow = λ a lo hi. wrap (base.narrow a.pair lo hi) (narrow_normal a lo hi);
  least_from = λ a n. base.least_from a.pair n;
  greatest_to = λ a n. base.greatest_to a.pair n;
  all_on = λ a q t. base.all_on a.pair q t;
  round = λ a ts. val (base.round a.pair ts) (round_normal a ts);
}
