-- A start state meets the start fact of its line.
use Rattle.std.specs.Prelude.{◌≡◌, ℕ, ◌<◌, ◌≤◌, ℤ, Bool, true, false, ◌&&◌, nat_le, List, [], ◌∷◌, map, length, slice_index, Contains, Option, Some, None, IfSome, if◌then◌else◌}
use Rattle.std.specs.List.{All}
use Rattle.std.proofs.Common.{refl, arith, sym, subst, suc}
use Rattle.std.proofs.lemmas.Bool.{and_parts, leb-true}
use Rattle.std.proofs.lemmas.Option.{same_Some}
use Rattle.viper_word.specs.Words.{signed_value}
use Rattle.viper_word.specs.Machine.{State}
use Rattle.viper_word.specs.Ranges.{NumberRange, IsIn, IsNormal}
use Rattle.viper_word.proofs.RangeLemmas.{in_range, normal_range}
use Rattle.memory_plan.specs.Ranges.{Span}
use Rattle.memory_plan.specs.Plans.{PlanLines, word_at, range_at, IsStart}
use Rattle.memory_plan.specs.WellFormed.{IsWellFormed, HasNormalRanges}
use Rattle.num_domain.specs.Domain.{Domain, Has}
use Rattle.num_domain.specs.Laws.{DomainLaws}
use Rattle.flag_relation.specs.Values.{Values, Pairwise}
use Rattle.flag_relation.specs.Facts.{FlagSays}
use Rattle.abs_step.proofs.Performing.{numbers_of, env}
use Rattle.abs_step.specs.States.{IsKept, MeetsFact}
use Rattle.abs_step.specs.Starts.{start_flag, range_value, cell_value, start_fact}
use Rattle.abs_step.proofs.PlanFacts.{PlanFacts, plan_facts}
use Rattle.abs_step.proofs.StateCover.{in_code_of}
use Rattle.abs_step.proofs.FunctionSteps.{signed_in_w}

-- the span whose range is found
record SpanAt (ss : List Span) (n : ℕ) (r : NumberRange) : Type 0 where
  span : Span
  listed : Contains ss span
  low : span.0 ≤ n
  high : n ≤ span.1
  range : span.2 ≡ r

span_at : (ss : List Span) (n : ℕ) (r : NumberRange) → range_at ss n ≡ Some r → SpanAt ss n r
span_at [] n r h = absurd (cc)
span_at (s ∷ ss) n r h = by_test (nat_le s.0 n && nat_le n s.1) refl h (λ e. span_at ss n r e)
  where
    further : (n k : ℕ) → k < n → suc k < suc n
    further n k h = omega arith

    by_test : (b : Bool) → (nat_le s.0 n && nat_le n s.1) ≡ b → (if b then Some s.2 else range_at ss n) ≡ Some r → (range_at ss n ≡ Some r → SpanAt ss n r) → SpanAt (s ∷ ss) n r
    by_test true t e k =
        let p = and_parts (nat_le s.0 n) (nat_le n s.1) t in
        record { span = s; listed = (0, omega arith, refl); low = leb-true s.0 n p.0; high = leb-true n s.1 p.1; range = same_Some s.2 r e }
    by_test false t e k =
        let c = k e in
        record { span = c.span; listed = (suc c.listed.0, further (length ss) c.listed.0 c.listed.1, c.listed.2); low = c.low; high = c.high; range = c.range }

pub start_kept : (plan : PlanLines) (s : State) → PlanFacts plan → IsStart plan s → IsKept plan s
start_kept plan s f h = record {
  words = h.words;
  running = h.running;
  code = λ n w e. h.image n w (in_code_of plan n w e).1;
  ranges = λ n r e. by_image n r e (word_at plan.image n) refl;
}
  where
    by_image : (n : ℕ) (r : NumberRange) → range_at plan.«data» n ≡ Some r → (o : Option ℕ) → word_at plan.image n ≡ o → IsIn r (signed_value (slice_index s.memory n))
    by_image n r e (Some w) q = subst (λ (v : ℕ). IsIn r (signed_value v)) (sym (h.image n w q)) (f.fits n w r q e)
    by_image n r e None q = let t = span_at plan.«data» n r e in subst (λ (x : NumberRange). IsIn x (signed_value (slice_index s.memory n))) t.range (h.ranges n t.span q t.listed t.low t.high)

contained : {X : Type 0} (P : X → Type 0) (xs : List X) (x : X) → All P xs → Contains xs x → P x
contained P xs x h (k, l, e) = subst P e (h k x l)

flag_says : (b : Option Bool) (e : Values ℤ) (s : Bool) → IfSome b (λ b. s ≡ b) → FlagSays (start_flag b) e s
flag_says None e s h = tt
flag_says (Some true) e s h = h
flag_says (Some false) e s h = h

module _ {T : Type 0} (d : Domain T) (laws : DomainLaws d) (plan : PlanLines) (cells : List ℕ) where
  range_has : (r : NumberRange) (z : ℤ) → IsNormal r → IsIn r z → Has d (range_value d r) z
  range_has r z n h = laws.spans.span_has r.lo r.hi r.modulus z (normal_range r n) (in_range r z n h)

  cell_has : (s : State) (f : PlanFacts plan) (k : IsKept plan s) (h : IsStart plan s) (c : ℕ) (o : Option ℕ) (q : Option NumberRange) → word_at plan.image c ≡ o → range_at plan.«data» c ≡ q → Has d (cell_value d o q) (signed_value (slice_index s.memory c))
  cell_has s f k h c (Some w) q e i = subst (λ (v : ℕ). Has d (d.constant (signed_value v)) (signed_value (slice_index s.memory c))) (h.image c w e) (laws.order.constant_has (signed_value (slice_index s.memory c)) (signed_in_w (slice_index s.memory c) (k.words.memory c)))
  cell_has s f k h c None (Some r) e i = range_has r (signed_value (slice_index s.memory c)) (f.data_normal c r i) (k.ranges c r i)
  cell_has s f k h c None None e i = laws.order.top_has (signed_value (slice_index s.memory c)) (signed_in_w (slice_index s.memory c) (k.words.memory c))

  cells_have : (s : State) (f : PlanFacts plan) (k : IsKept plan s) (h : IsStart plan s) (cs : List ℕ) → Pairwise (Has d) (map (λ c. cell_value d (word_at plan.image c) (range_at plan.«data» c)) cs) (map (numbers_of s).mem cs)
  cells_have s f k h [] = tt
  cells_have s f k h (c ∷ cs) = (cell_has s f k h c (word_at plan.image c) (range_at plan.«data» c) refl refl, cells_have s f k h cs)

  pub start_met : IsWellFormed plan → (s : State) (h : IsStart plan s) → MeetsFact d plan cells (start_fact d plan cells h.line) s
  unfolding start_fact
  start_met w s h =
      let f = plan_facts plan w in
      let k = start_kept plan s f h in
      let n = contained HasNormalRanges plan.starts h.line w.starts.normal h.listed in
      record {
        kept = k;
        meets = record {
          values = record {
            regs = record {
              a = range_has h.line.a (signed_value s.a) n.a h.a;
              x = range_has h.line.x (signed_value s.x) n.x h.x;
              y = range_has h.line.y (signed_value s.y) n.y h.y;
            };
            cells = cells_have s f k h cells;
          };
          links = record { a = tt; x = tt; y = tt };
          flag = flag_says h.line.b (env cells (numbers_of s)) s.b h.b;
        };
      }
