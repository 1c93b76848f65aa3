-- The laws of normal pairs, by those of pairs.
use Rattle.std.specs.Prelude.{◌≡◌, ◌+ℤ◌, ◌-ℤ◌, neg_ℤ, ℤ, Option, Some, None, IsSomeAnd, IfSome}
use Rattle.std.proofs.Common.{subst}
use denote.Struct.Props.{props}
use Rattle.viper_word.specs.Signed.{wrapped, signed_xor, signed_and, signed_nor, signed_and_not, halved, shifted_right, shifted_left}
use Rattle.num_domain.specs.Domain.{Has, Below, BelowOption}
use Rattle.num_domain.specs.Laws.{OrderLaws, SoundLaws, MonoLaws, SpanLaws, DomainLaws}
use Rattle.val_dom.specs.Normal.{IsNormal}
use Rattle.val_dom.specs.Normal.{P}
use Rattle.val_dom.specs.Made.{base, val, wrap}
use Rattle.val_dom.specs.evidence.NormalForms.{base_laws, add_normal, sub_normal, add_wrap_normal, sub_wrap_normal, xor_normal, bit_and_normal, nor_normal, and_not_normal, neg_normal, sar_normal, shl_normal, moved_normal, right_through_normal, left_through_normal, refine_normal, narrow_normal}
use Rattle.val_dom.specs.Vals.{vals}
use Rattle.val_dom.specs.declared.val.Val.{Val}

pub normal_prop : (p : P) → IsProp (IsNormal p)
normal_prop p = hlevel props

pub val_from : (a : Val) (p : P) → a.pair ≡ p → (h : IsNormal p) → a ≡ val p h
val_from a p e = subst (λ (q : P). (h : IsNormal q) → a ≡ val q h) e (λ h i. val a.pair (normal_prop a.pair a.normal h i))

pub same_pair : (a b : Val) → a.pair ≡ b.pair → a ≡ b
same_pair a b e = val_from a b.pair e b.normal

pub wrap_has : (o : Option P) (h : IfSome o IsNormal) (n : ℤ) → IsSomeAnd o (λ p. Has base p n) → IsSomeAnd (wrap o h) (λ v. Has vals v n)
wrap_has None h n k = k
wrap_has (Some p) h n k = record { holds = k.holds }

pub wrap_mono : (o o' : Option P) (h : IfSome o IsNormal) (h' : IfSome o' IsNormal) → BelowOption base o o' → BelowOption vals (wrap o h) (wrap o' h')
wrap_mono None o' h h' k = tt
wrap_mono (Some p) None h h' k = k
wrap_mono (Some p) (Some p') h h' k = record { holds = k.holds }

pub wrap_below : (o : Option P) (h : IfSome o IsNormal) (v : Val) → BelowOption base o (Some v.pair) → BelowOption vals (wrap o h) (Some v)
wrap_below None h v k = tt
wrap_below (Some p) h v k = record { holds = k.holds }

down : (a b : Val) → Below vals a b → Below base a.pair b.pair
down a b h = record { holds = h.holds }

up : (a b : Val) → Below base a.pair b.pair → Below vals a b
up a b h = record { holds = h.holds }

member : (a : Val) (n : ℤ) → Has vals a n → Has base a.pair n
member a n h = record { holds = h.holds }

order_laws : OrderLaws vals
order_laws = record {
  in_w = λ a n h. base_laws.order.in_w a.pair n (member a n h);
  refl = λ a. up a a (base_laws.order.refl a.pair);
  trans = λ a b c h k. up a c (base_laws.order.trans a.pair b.pair c.pair (down a b h) (down b c k));
  antisym = λ a b h k. same_pair a b (base_laws.order.antisym a.pair b.pair (down a b h) (down b a k));
  has = λ a b n h k. record { holds = (base_laws.order.has a.pair b.pair n (down a b h) (member a n k)).holds };
  height_falls = λ a b h e. base_laws.order.height_falls a.pair b.pair (down a b h) e;
  constant_has = λ n h. record { holds = (base_laws.order.constant_has n h).holds };
  top_greatest = λ a. up a vals.top (base_laws.order.top_greatest a.pair);
  top_has = λ n h. record { holds = (base_laws.order.top_has n h).holds };
  join_left = λ a b. up a (vals.join a b) (base_laws.order.join_left a.pair b.pair);
  join_right = λ a b. up b (vals.join a b) (base_laws.order.join_right a.pair b.pair);
  join_least = λ a b c h k. up (vals.join a b) c (base_laws.order.join_least a.pair b.pair c.pair (down a c h) (down b c k));
  round_above = λ a ts. up a (vals.round a ts) (base_laws.order.round_above a.pair ts);
  round_mono = λ a a' ts h. up (vals.round a ts) (vals.round a' ts) (base_laws.order.round_mono a.pair a'.pair ts (down a a' h));
  all_on_mono = λ a a' q t h e. base_laws.order.all_on_mono a.pair a'.pair q t (down a a' h) e;
}

sound_laws : SoundLaws vals
sound_laws = record {
  add = λ a b x y h k w. wrap_has (base.add a.pair b.pair) (add_normal a b) (x +ℤ y) (base_laws.sound.add a.pair b.pair x y (member a x h) (member b y k) w);
  sub = λ a b x y h k w. wrap_has (base.sub a.pair b.pair) (sub_normal a b) (x -ℤ y) (base_laws.sound.sub a.pair b.pair x y (member a x h) (member b y k) w);
  add_wrap = λ a b x y h k w. wrap_has (base.add_wrap a.pair b.pair) (add_wrap_normal a b) (wrapped (x +ℤ y)) (base_laws.sound.add_wrap a.pair b.pair x y (member a x h) (member b y k) w);
  sub_wrap = λ a b x y h k w. wrap_has (base.sub_wrap a.pair b.pair) (sub_wrap_normal a b) (wrapped (x -ℤ y)) (base_laws.sound.sub_wrap a.pair b.pair x y (member a x h) (member b y k) w);
  xor = λ a b x y h k w. wrap_has (base.xor a.pair b.pair) (xor_normal a b) (signed_xor x y) (base_laws.sound.xor a.pair b.pair x y (member a x h) (member b y k) w);
  bit_and = λ a b x y h k w. wrap_has (base.bit_and a.pair b.pair) (bit_and_normal a b) (signed_and x y) (base_laws.sound.bit_and a.pair b.pair x y (member a x h) (member b y k) w);
  nor = λ a b x y h k w. wrap_has (base.nor a.pair b.pair) (nor_normal a b) (signed_nor x y) (base_laws.sound.nor a.pair b.pair x y (member a x h) (member b y k) w);
  and_not = λ a b x y h k w. wrap_has (base.and_not a.pair b.pair) (and_not_normal a b) (signed_and_not x y) (base_laws.sound.and_not a.pair b.pair x y (member a x h) (member b y k) w);
  neg = λ a x h w. wrap_has (base.neg a.pair) (neg_normal a) (wrapped (neg_ℤ x)) (base_laws.sound.neg a.pair x (member a x h) w);
  sar = λ a x h w. wrap_has (base.sar a.pair) (sar_normal a) (halved x) (base_laws.sound.sar a.pair x (member a x h) w);
  shl = λ a x h w. wrap_has (base.shl a.pair) (shl_normal a) (x +ℤ x) (base_laws.sound.shl a.pair x (member a x h) w);
  moved = λ k a x h w. wrap_has (base.moved a.pair k) (moved_normal a k) (x +ℤ k) (base_laws.sound.moved k a.pair x (member a x h) w);
  right_through = λ a b c x h m w. wrap_has (base.right_through a.pair b) (right_through_normal a b) (shifted_right c x) (base_laws.sound.right_through a.pair b c x (member a x h) m w);
  left_through = λ a b c x h m w. wrap_has (base.left_through a.pair b) (left_through_normal a b) (shifted_left c x) (base_laws.sound.left_through a.pair b c x (member a x h) m w);
  refine = λ a b k x y h i e. wrap_has (base.refine a.pair k b.pair) (refine_normal a k b) x (base_laws.sound.refine a.pair b.pair k x y (member a x h) (member b y i) e);
}

mono_laws : MonoLaws vals
mono_laws = record {
  add = λ a a' b b' h k. wrap_mono (base.add a.pair b.pair) (base.add a'.pair b'.pair) (add_normal a b) (add_normal a' b') (base_laws.mono.add a.pair a'.pair b.pair b'.pair (down a a' h) (down b b' k));
  sub = λ a a' b b' h k. wrap_mono (base.sub a.pair b.pair) (base.sub a'.pair b'.pair) (sub_normal a b) (sub_normal a' b') (base_laws.mono.sub a.pair a'.pair b.pair b'.pair (down a a' h) (down b b' k));
  add_wrap = λ a a' b b' h k. wrap_mono (base.add_wrap a.pair b.pair) (base.add_wrap a'.pair b'.pair) (add_wrap_normal a b) (add_wrap_normal a' b') (base_laws.mono.add_wrap a.pair a'.pair b.pair b'.pair (down a a' h) (down b b' k));
  sub_wrap = λ a a' b b' h k. wrap_mono (base.sub_wrap a.pair b.pair) (base.sub_wrap a'.pair b'.pair) (sub_wrap_normal a b) (sub_wrap_normal a' b') (base_laws.mono.sub_wrap a.pair a'.pair b.pair b'.pair (down a a' h) (down b b' k));
  xor = λ a a' b b' h k. wrap_mono (base.xor a.pair b.pair) (base.xor a'.pair b'.pair) (xor_normal a b) (xor_normal a' b') (base_laws.mono.xor a.pair a'.pair b.pair b'.pair (down a a' h) (down b b' k));
  bit_and = λ a a' b b' h k. wrap_mono (base.bit_and a.pair b.pair) (base.bit_and a'.pair b'.pair) (bit_and_normal a b) (bit_and_normal a' b') (base_laws.mono.bit_and a.pair a'.pair b.pair b'.pair (down a a' h) (down b b' k));
  nor = λ a a' b b' h k. wrap_mono (base.nor a.pair b.pair) (base.nor a'.pair b'.pair) (nor_normal a b) (nor_normal a' b') (base_laws.mono.nor a.pair a'.pair b.pair b'.pair (down a a' h) (down b b' k));
  and_not = λ a a' b b' h k. wrap_mono (base.and_not a.pair b.pair) (base.and_not a'.pair b'.pair) (and_not_normal a b) (and_not_normal a' b') (base_laws.mono.and_not a.pair a'.pair b.pair b'.pair (down a a' h) (down b b' k));
  neg = λ a a' h. wrap_mono (base.neg a.pair) (base.neg a'.pair) (neg_normal a) (neg_normal a') (base_laws.mono.neg a.pair a'.pair (down a a' h));
  sar = λ a a' h. wrap_mono (base.sar a.pair) (base.sar a'.pair) (sar_normal a) (sar_normal a') (base_laws.mono.sar a.pair a'.pair (down a a' h));
  shl = λ a a' h. wrap_mono (base.shl a.pair) (base.shl a'.pair) (shl_normal a) (shl_normal a') (base_laws.mono.shl a.pair a'.pair (down a a' h));
  moved = λ k a a' h. wrap_mono (base.moved a.pair k) (base.moved a'.pair k) (moved_normal a k) (moved_normal a' k) (base_laws.mono.moved k a.pair a'.pair (down a a' h));
  right_through = λ a a' b b' h l. wrap_mono (base.right_through a.pair b) (base.right_through a'.pair b') (right_through_normal a b) (right_through_normal a' b') (base_laws.mono.right_through a.pair a'.pair b b' (down a a' h) l);
  left_through = λ a a' b b' h l. wrap_mono (base.left_through a.pair b) (base.left_through a'.pair b') (left_through_normal a b) (left_through_normal a' b') (base_laws.mono.left_through a.pair a'.pair b b' (down a a' h) l);
  refine = λ k a a' b b' h i. wrap_mono (base.refine a.pair k b.pair) (base.refine a'.pair k b'.pair) (refine_normal a k b) (refine_normal a' k b') (base_laws.mono.refine k a.pair a'.pair b.pair b'.pair (down a a' h) (down b b' i));
  refine_below = λ a b k. wrap_below (base.refine a.pair k b.pair) (refine_normal a k b) a (base_laws.mono.refine_below a.pair b.pair k);
}

span_laws : SpanLaws vals
span_laws = record {
  span_has = λ lo hi m n r i. record { holds = (base_laws.spans.span_has lo hi m n r i).holds };
  all_on_sound = λ a q t n l h e. base_laws.spans.all_on_sound a.pair q t n l (member a n h) e;
  least_in_w = λ a n. base_laws.spans.least_in_w a.pair n;
  greatest_in_w = λ a n. base_laws.spans.greatest_in_w a.pair n;
  narrow_sound = λ a lo hi n h p q. wrap_has (base.narrow a.pair lo hi) (narrow_normal a lo hi) n (base_laws.spans.narrow_sound a.pair lo hi n (member a n h) p q);
  narrow_below = λ a lo hi. wrap_below (base.narrow a.pair lo hi) (narrow_normal a lo hi) a (base_laws.spans.narrow_below a.pair lo hi);
  narrow_mono = λ a a' lo lo' hi hi' h p q. wrap_mono (base.narrow a.pair lo hi) (base.narrow a'.pair lo' hi') (narrow_normal a lo hi) (narrow_normal a' lo' hi') (base_laws.spans.narrow_mono a.pair a'.pair lo lo' hi hi' (down a a' h) p q);
  least_above = λ a n. base_laws.spans.least_above a.pair n;
  least_first = λ a n m h p. base_laws.spans.least_first a.pair n m (member a m h) p;
  least_mono = λ a a' n n' h p. base_laws.spans.least_mono a.pair a'.pair n n' (down a a' h) p;
  greatest_below = λ a n. base_laws.spans.greatest_below a.pair n;
  greatest_first = λ a n m h p. base_laws.spans.greatest_first a.pair n m (member a m h) p;
  greatest_mono = λ a a' n n' h p. base_laws.spans.greatest_mono a.pair a'.pair n n' (down a a' h) p;
}

pub val_laws : DomainLaws vals
val_laws = record { order = order_laws; sound = sound_laws; mono = mono_laws; spans = span_laws }
