-- Operands and results of larger values are larger.
use Rattle.std.specs.Prelude.{◌≡◌, ℕ, pos, ◌+◌, ◌-◌, ◌-ℤ◌, Bool, true, false, not, ◌&&◌, List, [], ◌∷◌, Option, Some, None}
use Rattle.std.proofs.Common.{refl, sym, subst, zero, suc}
use Rattle.std.proofs.lemmas.Bool.{false≢true}
use Rattle.viper_word.specs.Words.{signed_value}
use Rattle.num_domain.specs.Domain.{Domain, Below, BelowOption, LeFlag}
use Rattle.num_domain.specs.Laws.{DomainLaws}
use Rattle.viper_word.proofs.Options.{bind_mono}
use Rattle.num_domain.proofs.EndsLaws.{points_grow}
use Rattle.memory_plan.specs.Ranges.{Span}
use Rattle.memory_plan.specs.Plans.{PlanLines, word_at}
use Rattle.flag_relation.specs.declared.flag.Flag.{Flag}
use Rattle.flag_relation.specs.declared.flag.Flag.TheVariants.{Any, One, Or}
use Rattle.flag_relation.specs.Values.{Values, Pairwise, reg}
use Rattle.flag_relation.specs.Order.{FlagBelow, BelowValues}
use Rattle.flag_relation.proofs.ValueLemmas.{reg_related}
use Rattle.abs_step.specs.Addresses.{is_tracked}
use Rattle.abs_step.specs.Results.{known_bit, given, or_value, join_all, addressed, cell_sources, span_meets, span_sources, word_source, words_from, read_code, read_memory, read_input, source_value, operand_value, apply, move, result_value}
use Rattle.abs_step.proofs.AddressLaws.{and_grows, any_from_grows}
use Rattle.viper_decode.specs.declared.instructions.Source.{Source}
use Rattle.viper_decode.specs.declared.instructions.Source.TheVariants.{Of, AfterP}
use Rattle.viper_decode.specs.declared.instructions.Place.{Place}
use Rattle.viper_decode.specs.declared.instructions.Place.TheVariants.{At, Index}
use Rattle.viper_decode.specs.declared.instructions.Operand.{Operand}
use Rattle.viper_decode.specs.declared.instructions.Operand.TheVariants.{Literal, Memory, Peripheral}
use Rattle.viper_decode.specs.declared.instructions.Function.{Function}
use Rattle.viper_decode.specs.declared.instructions.Function.TheVariants.{Neg, Call, Inp, Read, Addb, Adds, Subb, Subs, Xor, And, Nor, Andn}
use Rattle.viper_decode.specs.declared.instructions.Shift.{Shift}
use Rattle.viper_decode.specs.declared.instructions.Shift.TheVariants as shift
use Rattle.viper_decode.specs.declared.instructions.Work.{Work}
use Rattle.viper_decode.specs.declared.instructions.Work.TheVariants.{Apply, Move}

le_flag_refl : (b : Option Bool) → LeFlag b b
le_flag_refl None = tt
le_flag_refl (Some b) = refl

pub known_below : (f g : Flag) → FlagBelow f g → LeFlag (known_bit f) (known_bit g)
known_below f Any h = tt
known_below f One h = subst (λ (w : Flag). LeFlag (known_bit w) (Some true)) (sym h) refl
known_below f (Or []) h = subst (λ (w : Flag). LeFlag (known_bit w) (Some false)) (sym h) refl
known_below f (Or (a ∷ atoms)) h = tt

module _ {T : Type 0} (d : Domain T) (laws : DomainLaws d) where
  or_value_grows : (o q o' q' : Option T) → BelowOption d o o' → BelowOption d q q' → BelowOption d (or_value d o q) (or_value d o' q')
  or_value_grows None None o' q' h k = tt
  or_value_grows None (Some w) None q' h k = k
  or_value_grows None (Some w) (Some v') None h k = absurd k
  or_value_grows None (Some w) (Some v') (Some w') h k = laws.order.trans w w' (d.join v' w') k (laws.order.join_right v' w')
  or_value_grows (Some v) q None q' h k = absurd h
  or_value_grows (Some v) None (Some v') None h k = h
  or_value_grows (Some v) None (Some v') (Some w') h k = laws.order.trans v v' (d.join v' w') h (laws.order.join_left v' w')
  or_value_grows (Some v) (Some w) (Some v') None h k = absurd k
  or_value_grows (Some v) (Some w) (Some v') (Some w') h k =
      laws.order.join_least v w (d.join v' w') (laws.order.trans v v' (d.join v' w') h (laws.order.join_left v' w')) (laws.order.trans w w' (d.join v' w') k (laws.order.join_right v' w'))

  pub join_all_grows : (acc acc' : Option T) (os os' : List (Option T)) → BelowOption d acc acc' → Pairwise (BelowOption d) os os' → BelowOption d (join_all d acc os) (join_all d acc' os')
  unfolding join_all
  join_all_grows acc acc' [] [] h k = h
  join_all_grows acc acc' [] (o' ∷ os') h k = absurd k
  join_all_grows acc acc' (o ∷ os) [] h k = absurd k
  join_all_grows acc acc' (o ∷ os) (o' ∷ os') h k = join_all_grows (or_value d acc o) (or_value d acc' o') os os' (or_value_grows acc o acc' o' h k.0) k.1

  pub addressed_grows : (p : Place) (v v' : Values T) → BelowValues d v v' → (n : ℕ) → addressed d p v n ≡ true → addressed d p v' n ≡ true
  unfolding addressed
  addressed_grows (At a) v v' h n e = e
  addressed_grows (Index a r) v v' h n e = points_grow d laws (reg v r) (reg v' r) (pos n -ℤ pos a) (reg_related (Below d) v v' h r) e

  given_grows : (b b' : Bool) (v v' : T) → (b ≡ true → b' ≡ true) → Below d v v' → BelowOption d (given b v) (given b' v')
  given_grows true true v v' f h = h
  given_grows true false v v' f h = absurd (false≢true (f refl))
  given_grows false b' v v' f h = tt

  cells_grow : (p q : ℕ → Bool) → ((n : ℕ) → p n ≡ true → q n ≡ true) → (cells : List ℕ) (vs vs' : List T) → Pairwise (Below d) vs vs' → Pairwise (BelowOption d) (cell_sources d p cells vs) (cell_sources d q cells vs')
  unfolding cell_sources
  cells_grow p q f [] vs vs' h = tt
  cells_grow p q f (c ∷ cs) [] [] h = tt
  cells_grow p q f (c ∷ cs) [] (v' ∷ vs') h = absurd h
  cells_grow p q f (c ∷ cs) (v ∷ vs) [] h = absurd h
  cells_grow p q f (c ∷ cs) (v ∷ vs) (v' ∷ vs') h = (given_grows (p c) (q c) v v' (f c) h.0, cells_grow p q f cs vs vs' h.1)

  spans_grow : (p q : ℕ → Bool) → ((n : ℕ) → p n ≡ true → q n ≡ true) → (ss : List Span) → Pairwise (BelowOption d) (span_sources d p ss) (span_sources d q ss)
  unfolding span_sources
  spans_grow p q f [] = tt
  spans_grow p q f (s ∷ ss) =
      let v = d.span s.2.lo s.2.hi s.2.modulus in
      (given_grows (span_meets d p s) (span_meets d q s) v v (any_from_grows p q s.0 ((s.1 + 1) - s.0) f) (laws.order.refl v), spans_grow p q f ss)

  word_grows : (b b' : Bool) (w : Option ℕ) → (b ≡ true → b' ≡ true) → BelowOption d (word_source d b w) (word_source d b' w)
  word_grows true true None f = tt
  word_grows true true (Some w) f = laws.order.refl (d.constant (signed_value w))
  word_grows true false w f = absurd (false≢true (f refl))
  word_grows false b' w f = tt

  words_grow : (plan : PlanLines) (p q : ℕ → Bool) → ((n : ℕ) → p n ≡ true → q n ≡ true) → (at n : ℕ) → Pairwise (BelowOption d) (words_from d plan p at n) (words_from d plan q at n)
  unfolding words_from
  words_grow plan p q f at zero = tt
  words_grow plan p q f at (suc n) = (word_grows (p at) (q at) (word_at plan.image at) (f at), words_grow plan p q f (suc at) n)

  code_grows : (plan : PlanLines) (p q : ℕ → Bool) → ((n : ℕ) → p n ≡ true → q n ≡ true) → (acc acc' : Option T) (ss : List (ℕ × ℕ)) → BelowOption d acc acc' → BelowOption d (read_code d plan p acc ss) (read_code d plan q acc' ss)
  unfolding read_code
  code_grows plan p q f acc acc' [] h = h
  code_grows plan p q f acc acc' (s ∷ ss) h =
      code_grows plan p q f (join_all d acc (words_from d plan p s.0 ((s.1 + 1) - s.0))) (join_all d acc' (words_from d plan q s.0 ((s.1 + 1) - s.0))) ss
      (join_all_grows acc acc' (words_from d plan p s.0 ((s.1 + 1) - s.0)) (words_from d plan q s.0 ((s.1 + 1) - s.0)) h (words_grow plan p q f s.0 ((s.1 + 1) - s.0)))

  pub read_memory_grows : (plan : PlanLines) (cells : List ℕ) (p q : ℕ → Bool) → ((n : ℕ) → p n ≡ true → q n ≡ true) → (vs vs' : List T) → Pairwise (Below d) vs vs' → BelowOption d (read_memory d plan cells p vs) (read_memory d plan cells q vs')
  unfolding read_memory
  read_memory_grows plan cells p q f vs vs' h =
      let t = λ (n : ℕ). not (is_tracked cells n) in
      code_grows plan p q f _ _ plan.code
      (join_all_grows _ _ (span_sources d (λ n. p n && t n) plan.«data») (span_sources d (λ n. q n && t n) plan.«data»)
      (join_all_grows None None (cell_sources d p cells vs) (cell_sources d q cells vs') tt (cells_grow p q f cells vs vs' h))
      (spans_grow (λ n. p n && t n) (λ n. q n && t n) (λ n. and_grows (p n) (t n) (q n) (t n) (f n) (λ e. e)) plan.«data»))

  read_input_grows : (plan : PlanLines) (p q : ℕ → Bool) → ((n : ℕ) → p n ≡ true → q n ≡ true) → BelowOption d (read_input d plan p) (read_input d plan q)
  unfolding read_input
  read_input_grows plan p q f = join_all_grows None None (span_sources d p plan.inputs) (span_sources d q plan.inputs) tt (spans_grow p q f plan.inputs)

  pub source_grows : (at : ℕ) (v v' : Values T) (s : Source) → BelowValues d v v' → Below d (source_value d at v s) (source_value d at v' s)
  unfolding source_value
  source_grows at v v' (Of r) h = reg_related (Below d) v v' h r
  source_grows at v v' AfterP h = laws.order.refl (d.constant (pos (at + 1)))

  pub operand_grows : (plan : PlanLines) (cells : List ℕ) (v v' : Values T) (o : Operand) → BelowValues d v v' → BelowOption d (operand_value d plan cells v o) (operand_value d plan cells v' o)
  unfolding operand_value
  operand_grows plan cells v v' (Literal n) h = laws.order.refl (d.constant (pos n))
  operand_grows plan cells v v' (Memory p) h = read_memory_grows plan cells (addressed d p v) (addressed d p v') (addressed_grows p v v' h) v.cells v'.cells h.cells
  operand_grows plan cells v v' (Peripheral p) h = read_input_grows plan (addressed d p v) (addressed d p v') (addressed_grows p v v' h)

  apply_grows : (f : Function) (r r' m m' : T) → Below d r r' → Below d m m' → BelowOption d (apply d f r m) (apply d f r' m')
  unfolding apply
  apply_grows Neg r r' m m' h k = laws.mono.neg m m' k
  apply_grows Call r r' m m' h k = k
  apply_grows Inp r r' m m' h k = k
  apply_grows Read r r' m m' h k = k
  apply_grows Addb r r' m m' h k = laws.mono.add_wrap r r' m m' h k
  apply_grows Adds r r' m m' h k = laws.mono.add r r' m m' h k
  apply_grows Subb r r' m m' h k = laws.mono.sub_wrap r r' m m' h k
  apply_grows Subs r r' m m' h k = laws.mono.sub r r' m m' h k
  apply_grows Xor r r' m m' h k = laws.mono.xor r r' m m' h k
  apply_grows And r r' m m' h k = laws.mono.bit_and r r' m m' h k
  apply_grows Nor r r' m m' h k = laws.mono.nor r r' m m' h k
  apply_grows Andn r r' m m' h k = laws.mono.and_not r r' m m' h k

  move_grows : (s : Shift) (r r' : T) (b b' : Option Bool) → Below d r r' → LeFlag b b' → BelowOption d (move d s r b) (move d s r' b')
  unfolding move
  move_grows shift.Right r r' b b' h k = laws.mono.sar r r' h
  move_grows shift.RightThroughB r r' b b' h k = laws.mono.right_through r r' b b' h k
  move_grows shift.Left r r' b b' h k = laws.mono.shl r r' h
  move_grows shift.LeftThroughB r r' b b' h k = laws.mono.left_through r r' b b' h k

  pub result_grows : (plan : PlanLines) (cells : List ℕ) (at : ℕ) (v v' : Values T) (f g : Flag) (w : Work) → BelowValues d v v' → FlagBelow f g → BelowOption d (result_value d plan cells at v f w) (result_value d plan cells at v' g w)
  unfolding result_value
  result_grows plan cells at v v' f g (Apply op s o) h k =
      bind_mono (Below d) (Below d) (operand_value d plan cells v o) (operand_value d plan cells v' o) _ _ (operand_grows plan cells v v' o h) (λ m m' e. apply_grows op (source_value d at v s) (source_value d at v' s) m m' (source_grows at v v' s h) e)
  result_grows plan cells at v v' f g (Move m s) h k = move_grows m (source_value d at v s) (source_value d at v' s) (known_bit f) (known_bit g) (source_grows at v v' s h) (known_below f g k)
