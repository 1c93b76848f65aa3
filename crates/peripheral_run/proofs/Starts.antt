-- The state in which a script begins is a start of its plan.
use Rattle.std.proofs.Common.{◌≡◌, ◌∙◌, ℕ, zero, suc, ◌<◌, ◌^◌, List, [], ◌∷◌, ◌++◌, map, length, slice_index, Option, Some, None, unwrap_or, Ok, refl, sym, ap, subst, inl, inr, arith}
use Rattle.std.specs.List.{AllByRecursion, range_with_len}
use Rattle.std.specs.Int.{w32, cast_unsigned}
use Rattle.std.proofs.lemmas.Int.{to_z-of_z}
use Rattle.std.proofs.lemmas.List.Elements.{recursion_from_All}
use Rattle.std.proofs.lemmas.List.FromFn.{length-map-range_with_len, get_or-map-range_with_len}
use Rattle.std.proofs.lemmas.Option.{none-some, same_Some}
use Rattle.std.specs.Str.{bytes_eq}
use Rattle.viper_word.proofs.Booleans.{chosen, guard_some}
use Rattle.viper_word.proofs.SignedLemmas.{signed_fits, unsigned_below}
use Rattle.viper_word.specs.Words.{IsWord, signed_value}
use Rattle.viper_word.specs.Machine.{IsState}
use Rattle.viper_word.specs.Ranges.{NumberRange, IsIn, IsNormal}
use Rattle.text_lines.specs.Lines.{NumberedLine, kept_lines}
use Rattle.text_lines.specs.Parts.{tokens_of, five, ◌>>=◌}
use Rattle.text_lines.specs.Reading.{Say}
use Rattle.memory_plan.specs.Hex.{hex_number}
use Rattle.memory_plan.specs.Images.{word_at}
use Rattle.memory_plan.specs.Ranges.{Span}
use Rattle.memory_plan.specs.Plans.{PlanLines, has_address, range_at, IsStart}
use Rattle.memory_plan.specs.WellFormed.{IsWellFormed}
use Rattle.memory_plan.proofs.PlanFits.{hex_small, address_small}
use Rattle.memory_plan.proofs.RangeIn.{low_is_in}
use Rattle.memory_plan.proofs.RunsExist.{entry_fits, range_of, span_small}
use Rattle.peripheral_run.specs.Scripts.{Began, Scripted, ScriptLine, State as StateLine, Answer, bit_of, state_shape, state_of_tokens, state_of_line, or_form, answer_of_line, script_grammar, script_lines, IsScript}
use Rattle.peripheral_run.specs.ScriptRuns.{RunsOfScript}
use Rattle.peripheral_run.proofs.ScriptRuns.{goes_over}
use Rattle.peripheral_run.specs.Opening.{least_or, first_word, first_memory, opening}
use Rattle.viper_word.proofs.Options.{bind_was}

-- ---- what a state's line says is in bounds

record Fits (s : Began) : Type 0 where
  p : s.p < 2 ^ 20
  a : s.a < 2 ^ 32
  x : s.x < 2 ^ 32
  y : s.y < 2 ^ 32

shape_fits : (tokens : List (List ℕ)) (s : Began) → state_shape tokens ≡ Some s → Fits s
unfolding state_shape
shape_fits tokens s h =
    let t = bind_was (five tokens) _ s h in
    let p = bind_was (hex_number 5 t.first.0) _ s t.gives in
    let a = bind_was (hex_number 8 t.first.1) _ s p.gives in
    let x = bind_was (hex_number 8 t.first.2) _ s a.gives in
    let y = bind_was (hex_number 8 t.first.3) _ s x.gives in
    let b = bind_was (bit_of t.first.4) _ s y.gives in
    subst Fits (same_Some _ s b.gives) (record {
      p = address_small t.first.0 p.first p.is;
      a = hex_small 8 t.first.1 a.first a.is;
      x = hex_small 8 t.first.2 x.first x.is;
      y = hex_small 8 t.first.3 y.first y.is;
    })

tokens_fit : (tokens : List (List ℕ)) (s : Began) → state_of_tokens tokens ≡ Some s → Fits s
tokens_fit [] s h = absurd (none-some s h)
tokens_fit (word ∷ tokens) s h = shape_fits tokens s (guard_some (bytes_eq word _) (state_shape tokens) s h).1

said_state : (o : Option Began) (s : Began) → or_form (o >>= λ t. Some (StateLine t)) ≡ Ok (StateLine s) → o ≡ Some s
said_state None s h = absurd cc
said_state (Some t) s h = let same : t ≡ s = cc in ap Some same

-- the state of a script
text_fits : (lines : List NumberedLine) (script : Scripted) → Say script_grammar [] lines (script_lines script) → Fits script.state
text_fits [] script h = absurd h
text_fits (l ∷ ls) script h = tokens_fit (tokens_of l.text) script.state (said_state (state_of_line l.text) script.state h.0)

said_answer : (o : Option ℕ) (w : ℕ) → or_form (o >>= λ v. Some (Answer v)) ≡ Ok (Answer w) → o ≡ Some w
said_answer None w h = absurd cc
said_answer (Some v) w h = let same : v ≡ w = cc in ap Some same

-- and its answers
answers_fit : (first : ScriptLine) (before : List ScriptLine) (lines : List NumberedLine) (ws : List ℕ) → Say script_grammar (first ∷ before) lines (map Answer ws) → AllByRecursion IsWord ws
answers_fit first before lines [] h = tt
answers_fit first before [] (w ∷ ws) h = absurd h
answers_fit first before (l ∷ ls) (w ∷ ws) h = (hex_small 8 l.text w (said_answer (answer_of_line l.text) w h.0), answers_fit first (before ++ Answer w ∷ []) ls ws h.1)

text_words : (lines : List NumberedLine) (script : Scripted) → Say script_grammar [] lines (script_lines script) → AllByRecursion IsWord script.answers
text_words [] script h = absurd h
text_words (l ∷ ls) script h = answers_fit (StateLine script.state) [] ls script.answers h.1

-- ---- memory

-- the list of a function's values
value_at : (f : ℕ → ℕ) (n at : ℕ) → at < n → slice_index (map f (range_with_len 0 n)) at ≡ f at
value_at f n at within = get_or-map-range_with_len f 0 n at at 0 within (omega arith)

values_count : (f : ℕ → ℕ) (n : ℕ) → length (map f (range_with_len 0 n)) ≡ n
values_count f n = length-map-range_with_len f 0 n

values_below : (f : ℕ → ℕ) (most : ℕ) → 0 < most → ((k : ℕ) → f k < most) → (xs : List ℕ) (at : ℕ) → slice_index (map f xs) at < most
values_below f most some each [] at = some
values_below f most some each (x ∷ xs) zero = each x
values_below f most some each (x ∷ xs) (suc at) = values_below f most some each xs at

-- the range that an address has is in the normal form
normal_at : (spans : List Span) (at : ℕ) (r : NumberRange) → AllByRecursion (λ (s : Span). IsNormal s.2) spans → range_at spans at ≡ Some r → IsNormal r
normal_at [] at r all h = absurd (none-some r h)
normal_at (s ∷ ss) at r all h = elim (chosen (has_address s at) (Some s.2) (range_at ss at) (Some r) h) [
  | inl here ↦ subst IsNormal (same_Some s.2 r here.1) all.0
  | inr later ↦ normal_at ss at r all.1 later.1
]

word_below : (o : Option ℕ) (r : Option NumberRange) → ((w : ℕ) → o ≡ Some w → w < 2 ^ 32) → ((n : NumberRange) → r ≡ Some n → IsNormal n) → unwrap_or o (least_or r 0) < 2 ^ 32
word_below (Some w) r image spans = image w refl
word_below None (Some n) image spans = unsigned_below n.lo (spans n refl).lo
word_below None None image spans = omega arith

first_below : (plan : PlanLines) → IsWellFormed plan → (at : ℕ) → first_word plan at < 2 ^ 32
first_below plan well at =
    word_below (word_at plan.image at) (range_at plan.«data» at) (λ w h. (entry_fits plan.image at w well.image.fit h).1)
    (λ n h. normal_at plan.«data» at n (recursion_from_All (λ (s : Span). IsNormal s.2) plan.«data» well.«data».normal) h)

-- the least number of a range is in it
least_in_range : (r : NumberRange) → IsNormal r → IsIn r (signed_value (cast_unsigned w32 r.lo))
least_in_range r normal = subst (IsIn r) (sym (to_z-of_z w32 r.lo (signed_fits r.lo normal.lo))) (low_is_in r normal)

memory_at : (plan : PlanLines) (at : ℕ) → at < 2 ^ 20 → slice_index (first_memory plan) at ≡ first_word plan at
unfolding first_memory
memory_at plan at within = value_at (first_word plan) (2 ^ 20) at within

opening_words : (plan : PlanLines) (s : Began) → IsWellFormed plan → Fits s → IsState (opening plan s)
unfolding first_memory
opening_words plan s well fits = record {
  a = fits.a;
  x = fits.x;
  y = fits.y;
  p = fits.p;
  count = values_count (first_word plan) (2 ^ 20);
  memory = values_below (first_word plan) (2 ^ 32) (omega arith) (first_below plan well) (range_with_len 0 (2 ^ 20));
}

-- ---- a script's opening is a start, and its run one of the plan's

pub script_starts : (plan : PlanLines) (text : List ℕ) (script : Scripted) → IsWellFormed plan → IsScript plan text script → IsStart plan (opening plan script.state)
script_starts plan text script well is =
    let allows = is.allowed.allows in
    record {
      line = is.allowed.line;
      listed = is.allowed.listed;
      words = opening_words plan script.state well (text_fits (kept_lines text) script is.said);
      p = allows.p;
      a = allows.a;
      x = allows.x;
      y = allows.y;
      b = allows.b;
      running = refl;
      image = λ at w h. memory_at plan at (entry_fits plan.image at w well.image.fit h).0 ∙ ap (λ (o : Option ℕ). unwrap_or o (least_or (range_at plan.«data» at) 0)) h;
      ranges = λ at span none listed from to.
          let within = span_small plan.«data» at span well.«data» listed to in
          let range = range_of plan.«data» at span well.«data» listed from to in
          let holds : slice_index (first_memory plan) at ≡ cast_unsigned w32 span.2.lo =
          memory_at plan at within ∙ ap (λ (o : Option ℕ). unwrap_or o (least_or (range_at plan.«data» at) 0)) none ∙ ap (λ (o : Option NumberRange). least_or o 0) range.0 in
          subst (λ (w : ℕ). IsIn span.2 (signed_value w)) (sym holds) (least_in_range span.2 range.1);
    }

pub runs_of_script : (plan : PlanLines) (text : List ℕ) (script : Scripted) (steps : ℕ) → RunsOfScript plan text script steps
runs_of_script plan text script steps well is =
    goes_over plan steps script.answers (opening plan script.state) well.inputs (text_words (kept_lines text) script is.said) (script_starts plan text script well is)
