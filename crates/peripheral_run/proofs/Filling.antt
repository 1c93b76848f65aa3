-- Memory that is filled piece by piece.
use Rattle.std.proofs.Common.{◌≡◌, ◌≢◌, ◌∙◌, ℕ, ◌+◌, ◌<◌, ◌≤◌, ◌^◌, ◌&&◌, Bool, true, false, cond, List, ◌∷◌, length, get_or, drop, refl, sym, ap, subst, inl, inr, arith, get_or-set_same, get_or-set_other, nat_le, nat_lt}
use Rattle.std.specs.Prelude.{slice_index, slice_set, unwrap_or, Option, Some, ◌⊎◌, map}
use Rattle.std.specs.Int.{w32, cast_unsigned}
use Rattle.std.specs.List.{range_with_len}
use Rattle.std.proofs.lemmas.List.{length-set, drop_more, drop_all}
use Rattle.std.proofs.lemmas.List.FromFn.{fill_by_all}
use Rattle.std.proofs.lemmas.Bool.{eq-eqb, ne_eqb}
use Rattle.std.proofs.lemmas.Bool.Decides.{nat_tests}
use Rattle.std.proofs.lemmas.Bool.{cases_eq}
use Rattle.viper_word.specs.Machine.{State, IsState}
use Rattle.viper_word.specs.Ranges.{NumberRange}
use Rattle.viper_word.specs.declared.word.Word.{Word}
use Rattle.viper_next.specs.Fresh.{IsFresh, HasRegisters}
use Rattle.memory_plan.specs.Images.{ImageWords, entries, word_at}
use Rattle.memory_plan.specs.Ranges.{Span}
use Rattle.memory_plan.specs.Plans.{PlanLines, has_address, range_at}
use Rattle.memory_plan.proofs.QueryLemmas.{range_found, no_range}
use Rattle.peripheral_run.specs.Scripts.{Began}
use Rattle.viper_next.specs.Profiled.{stored}
use Rattle.peripheral_run.specs.Opening.{Fills, word_between, least_in, words_over, least_or, first_word, first_memory, opening}

-- nothing was written yet
pub unfilled : (s : State) → Fills s s (slice_index s.memory)
unfilled s = record { rest = refl; count = refl; words = λ at within. refl }

-- the word from lo to below another address, and else what was there
abbrev pub below_to : ℕ → ℕ → ℕ → State → ℕ → ℕ
below_to lo to w s at = cond (nat_le lo at && nat_lt at to) w (slice_index s.memory at)

-- one word more
pub loaded : (s t : State) (before after : ℕ → ℕ) (a w : ℕ) → IsState (stored t a w) → Fills s t before
    → ((at : ℕ) → at ≢ a → after at ≡ before at) → after a ≡ w → Fills s (stored t a w) after
loaded s t before after a w is h others here = record {
  rest = ap (λ (u : State). record u { memory = slice_set t.memory a w }) h.rest;
  count = length-set t.memory a w ∙ h.count;
  words = λ at within. by at within (cases_eq at a);
}
  where
    long : (at : ℕ) → at < 2 ^ 20 → at ≡ a → a < length t.memory
    long at within same = omega (arith, within, same, is.count, length-set t.memory a w)

    by : (at : ℕ) → at < 2 ^ 20 → (at ≡ a) ⊎ (at ≡ a → ⊥) → slice_index (slice_set t.memory a w) at ≡ after at
    by at within (inl same) = ap (slice_index (slice_set t.memory a w)) same ∙ get_or-set_same t.memory a w 0 (long at within same) ∙ sym here ∙ ap after (sym same)
    by at within (inr other) = get_or-set_other t.memory a at w 0 other ∙ h.words at within ∙ sym (others at other)

-- the same words otherwise written
pub filled_as : (s t : State) (word other : ℕ → ℕ) → Fills s t word → ((at : ℕ) → word at ≡ other at) → Fills s t other
filled_as s t word other h same = record { rest = h.rest; count = h.count; words = λ at within. h.words at within ∙ same at }

-- a filling of what was filled before
pub filled_over : (s t u : State) (before : ℕ → ℕ) (over : State → ℕ → ℕ) (after : ℕ → ℕ) → Fills s t before → Fills t u (over t)
    → ((at : ℕ) → slice_index t.memory at ≡ before at → over t at ≡ after at) → Fills s u after
filled_over s t u before over after h k same = record {
  rest = k.rest ∙ ap (λ (v : State). record v { memory = u.memory }) h.rest;
  count = k.count ∙ h.count;
  words = λ at within. k.words at within ∙ same at (h.words at within);
}

within_more : (lo next at : ℕ) → at ≢ next → (nat_le lo at && nat_lt at (next + 1)) ≡ (nat_le lo at && nat_lt at next)
within_more lo next at other = grind (arith, nat_tests)

within_last : (lo next : ℕ) → lo ≤ next → (nat_le lo next && nat_lt next (next + 1)) ≡ true
within_last lo next low = grind (arith, nat_tests)

within_all : (lo hi next at : ℕ) → hi < next → lo ≤ next → (next ≤ hi + 1) ⊎ (next ≡ lo) → (nat_le lo at && nat_lt at next) ≡ (nat_le lo at && nat_le at hi)
within_all lo hi next at past low (inl end) = grind (arith, nat_tests)
within_all lo hi next at past low (inr none) = grind (arith, nat_tests)

within_none : (lo at : ℕ) → (nat_le lo at && nat_lt at lo) ≡ false
within_none lo at = grind (arith, nat_tests)

-- no address yet
pub filled_none : (s : State) (lo w : ℕ) → Fills s s (below_to lo lo w s)
filled_none s lo w = filled_as s s (slice_index s.memory) (below_to lo lo w s) (unfilled s) (λ at. ap (λ (b : Bool). cond b w (slice_index s.memory at)) (sym (within_none lo at)))

-- one address more
pub filled_more : (s t : State) (lo next w : ℕ) → lo ≤ next → IsState (stored t next w) → Fills s t (below_to lo next w s) → Fills s (stored t next w) (below_to lo (next + 1) w s)
filled_more s t lo next w low is h =
    loaded s t (below_to lo next w s) (below_to lo (next + 1) w s) next w is h
    (λ at other. ap (λ (b : Bool). cond b w (slice_index s.memory at)) (within_more lo next at other))
    (ap (λ (b : Bool). cond b w (slice_index s.memory next)) (within_last lo next low))

-- all of them
pub filled_all : (s t : State) (lo hi next w : ℕ) → hi < next → lo ≤ next → (next ≤ hi + 1) ⊎ (next ≡ lo) → Fills s t (below_to lo next w s) → Fills s t (word_between lo hi w s)
filled_all s t lo hi next w past low place h =
    filled_as s t (below_to lo next w s) (word_between lo hi w s) h (λ at. ap (λ (b : Bool). cond b w (slice_index s.memory at)) (within_all lo hi next at past low place))

-- ---- spans, from the last to the first

chosen_least : (b : Bool) (r : NumberRange) (o : Option NumberRange) (v : ℕ) → cond b (least_or (Some r) v) (least_or o v) ≡ least_or (cond b (Some r) o) v
chosen_least true r o v = refl
chosen_least false r o v = refl

pub span_filled : (s t u : State) (spans : List Span) (i : ℕ) (span : Span) (w : ℕ) → i < length spans → span ≡ get_or spans i span → w ≡ cast_unsigned w32 span.2.lo → Fills s t (least_in (drop (i + 1) spans) s)
    → Fills t u (word_between span.0 span.1 w t) → Fills s u (least_in (drop i spans) s)
span_filled s t u spans i span w within is least h k =
    filled_over s t u (least_in (drop (i + 1) spans) s) (word_between span.0 span.1 w) (least_in (drop i spans) s) h k (λ at before.
    ap (λ (v : ℕ). cond (has_address span at) v (slice_index t.memory at)) least
    ∙ ap (λ (v : ℕ). cond (has_address span at) (cast_unsigned w32 span.2.lo) v) before
    ∙ chosen_least (has_address span at) span.2 (range_at (drop (i + 1) spans) at) (slice_index s.memory at)
    ∙ sym (ap (λ (o : Option NumberRange). least_or o (slice_index s.memory at)) (found at)))
  where
    found : (at : ℕ) → range_at (drop i spans) at ≡ cond (has_address span at) (Some span.2) (range_at (drop (i + 1) spans) at)
    found at =
        range_found spans at i span (has_address span at) within (ap (λ (x : Span). has_address x at) is)
        ∙ ap (λ (x : Span). cond (has_address span at) (Some x.2) (range_at (drop (i + 1) spans) at)) (sym is)

pub no_span_filled : (s : State) (spans : List Span) (i : ℕ) → length spans ≤ i → Fills s s (least_in (drop i spans) s)
no_span_filled s spans i past =
    filled_as s s (slice_index s.memory) (least_in (drop i spans) s) (unfilled s) (λ at. sym (ap (λ (o : Option NumberRange). least_or o (slice_index s.memory at)) (no_range spans at i past)))

-- ---- words, from the last to the first

entry_at : (words : List (ℕ × Word)) (i : ℕ) (entry : ℕ × Word) → i < length words → entry ≡ get_or words i entry → entries (drop i words) ≡ (entry.0, entry.1.0) ∷ entries (drop (i + 1) words)
entry_at words i entry within is = ap entries (drop_more words i entry within) ∙ ap (λ (e : ℕ × Word). (e.0, e.1.0) ∷ entries (drop (i + 1) words)) (sym is)

pub word_loaded : (s t : State) (words : List (ℕ × Word)) (i : ℕ) (entry : ℕ × Word) → i < length words → entry ≡ get_or words i entry → IsState (stored t entry.0 entry.1.0)
    → Fills s t (words_over (entries (drop (i + 1) words)) s) → Fills s (stored t entry.0 entry.1.0) (words_over (entries (drop i words)) s)
word_loaded s t words i entry within at_place is h =
    let a = entry.0 in
    let w = entry.1.0 in
    let rest = entries (drop (i + 1) words) in
    subst (λ (image : ImageWords). Fills s (stored t a w) (words_over image s)) (sym (entry_at words i entry within at_place))
    (loaded s t (words_over rest s) (words_over ((a, w) ∷ rest) s) a w is h
    (λ at other. ap (λ (b : Bool). unwrap_or (cond b (Some w) (word_at rest at)) (slice_index s.memory at)) (ne_eqb a at (λ same. other (sym same))))
    (ap (λ (b : Bool). unwrap_or (cond b (Some w) (word_at rest a)) (slice_index s.memory a)) (eq-eqb a a refl)))

pub no_word_loaded : (s : State) (words : List (ℕ × Word)) (i : ℕ) → length words ≤ i → Fills s s (words_over (entries (drop i words)) s)
no_word_loaded s words i past =
    subst (λ (ws : List (ℕ × Word)). Fills s s (words_over (entries ws) s)) (sym (drop_all i words past)) (record { rest = refl; count = refl; words = λ at within. refl })

-- ---- the state in which a script begins

pub opened : (plan : PlanLines) (start : Began) (s t u : State) → IsFresh s → HasRegisters s start.p start.a start.x start.y start.b → Fills s t (least_in plan.«data» s) → Fills t u (words_over plan.image t)
    → u ≡ opening plan start
unfolding first_memory
opened plan start s t u fresh has spans words =
    let over = filled_over s t u (least_in plan.«data» s) (words_over plan.image) (first_word plan) spans words (λ at before.
    ap (unwrap_or (word_at plan.image at)) (before ∙ ap (least_or (range_at plan.«data» at)) (fresh.zero_words at))) in
    let all : u.memory ≡ map (first_word plan) (range_with_len 0 (2 ^ 20)) = fill_by_all (first_word plan) u.memory (2 ^ 20) 0 (over.count ∙ fresh.state.count) (λ k within. over.words k within) in
    over.rest ∙ same (2 ^ 20) all
  where
    same : (n : ℕ) → u.memory ≡ map (first_word plan) (range_with_len 0 n) → record s { memory = u.memory } ≡ record { a = start.a; x = start.x; y = start.y; p = start.p; b = start.b; stop = false; memory = map (first_word plan) (range_with_len 0 n) }
    same n e = rw (e, has.a, has.x, has.y, has.p, has.b, fresh.runs) refl
