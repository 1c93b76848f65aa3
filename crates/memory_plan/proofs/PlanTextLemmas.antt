-- Lines of a plan, and what their rules keep.
use Rattle.std.proofs.Common.{◌≡◌, ◌∙◌, ℕ, suc, ◌+◌, ◌-◌, ◌<◌, ◌≤◌, Bool, true, false, cond, List, [], ◌∷◌, length, Option, Some, None, Ok, refl, sym, ap, subst, arith}
use Rattle.std.specs.Prelude.{codes, is_some, nat_lt, nat_le, not, ◌&&◌, ◌||◌}
use Rattle.std.specs.List.{list_any}
use Rattle.std.specs.Str.{bytes_eq}
use Rattle.std.proofs.lemmas.Bool.{or_parts}
use Rattle.viper_word.specs.Words.{signed_value}
use Rattle.viper_word.specs.declared.word.Word.{Word}
use Rattle.memory_plan.specs.Images.{ImageWords, entries, word_at, words_between}
use Rattle.viper_word.specs.Ranges.{NumberRange}
use Rattle.memory_plan.specs.Numbers.{range_has}
use Rattle.memory_plan.specs.declared.plan_line.WrittenLine.{WrittenLine}
use Rattle.memory_plan.specs.declared.plan_line.PlanLine.{PlanLine}
use Rattle.memory_plan.specs.PlanShapes.{profile_shape, code_shape, span_shape, marker_shape, start_shape, threshold_shape, cost_shape, shape_by, shape_of, value_of, line_of}
use Rattle.memory_plan.specs.PlanRules.{kind_of, misfits, all_words, SoFar, nothing_yet, add_line, judge_line, judge_shape, judge_value, judge_kept, broken_rule, too_many_lines, too_many_words, breaks_span, breaks_image, breaks_code, breaks_marker}
use Rattle.memory_plan.specs.PlanText.{IsPlan, has_start, plan_grammar, has_some}
use Rattle.memory_plan.specs.declared.text_fault.PlanRule.{PlanRule}
use Rattle.text_lines.specs.Lines.{NumberedLine, kept_lines}
use Rattle.text_lines.specs.Parts.{tokens_of, ◌>>=◌}
use Rattle.text_lines.specs.Reading.{IsUnfinished}
use Rattle.text_lines.proofs.Readings.{HasMade, made_all}
use Rattle.memory_plan.proofs.PlanFits.{LineFits, value_fits, shape_placed}

none_of : (b : Bool) (rest : Option WrittenLine) → rest ≡ None → cond b None rest ≡ None
none_of true rest e = refl
none_of false rest e = e

-- a line of one token has no shape
pub no_tokens : (kind : List ℕ) → shape_by kind [] ≡ None
unfolding profile_shape code_shape span_shape marker_shape start_shape threshold_shape cost_shape
no_tokens kind =
    none_of (bytes_eq kind (codes "profile")) _ (none_of (bytes_eq kind (codes "code")) _ (none_of (bytes_eq kind (codes "data")) _
    (none_of (bytes_eq kind (codes "input")) _ (none_of (bytes_eq kind (codes "output")) _ (none_of (bytes_eq kind (codes "marker")) _
    (none_of (bytes_eq kind (codes "start")) _ (none_of (bytes_eq kind (codes "threshold")) _ (none_of (bytes_eq kind (codes "cost")) None refl))))))))

-- ---- words of the image

-- the words of a span that aren't in its range are among those between its ends
pub misfits_between : (lo hi : ℕ) (range : NumberRange) (image : ImageWords)
    → list_any (λ (e : ℕ × ℕ). not (range_has range (signed_value e.1))) (words_between image lo hi) ≡ misfits (lo, hi, range) image
misfits_between lo hi range [] = refl
misfits_between lo hi range (e ∷ es) =
    by_place e (nat_le lo e.0 && nat_le e.0 hi) (words_between es lo hi) (misfits (lo, hi, range) es) (misfits_between lo hi range es)
  where
    by_place : (e : ℕ × ℕ) (here : Bool) (between : ImageWords) (rest : Bool) → list_any (λ (e : ℕ × ℕ). not (range_has range (signed_value e.1))) between ≡ rest
        → list_any (λ (e : ℕ × ℕ). not (range_has range (signed_value e.1))) (cond here (e ∷ between) between) ≡ (here && not (range_has range (signed_value e.1)) || rest)
    by_place e true between rest h = ap (λ (b : Bool). not (range_has range (signed_value e.1)) || b) h
    by_place e false between rest h = h

pub outside_by : (range : NumberRange) (ws : List (ℕ × Word))
    → list_any (λ (e : ℕ × Word). not (range_has range (signed_value e.1.0))) ws ≡ list_any (λ (e : ℕ × ℕ). not (range_has range (signed_value e.1))) (entries ws)
outside_by range [] = refl
outside_by range (w ∷ ws) = ap (λ (b : Bool). not (range_has range (signed_value w.1.0)) || b) (outside_by range ws)

pub words_more : (image : ImageWords) (next end : ℕ) → next < end → all_words image next (end - next) ≡ (is_some (word_at image next) && all_words image (next + 1) (end - (next + 1)))
unfolding all_words
words_more image next end lt =
    let e : end - next ≡ suc (end - (next + 1)) = omega arith in
    rw e refl

pub words_done : (image : ImageWords) (next end : ℕ) → end ≤ next → all_words image next (end - next) ≡ true
unfolding all_words
words_done image next end le =
    let e : end - next ≡ 0 = omega arith in
    rw e refl

-- ---- reading

-- what was read of a plan
abbrev pub HasRead : ImageWords → List NumberedLine → SoFar → List NumberedLine → Type 0
HasRead image all s left = HasMade add_line (nothing_yet image) judge_line all s left

pub some_items : {A : Type 0} (xs : List A) → 0 < length xs → has_some xs ≡ true
some_items [] h = absurd (omega arith)
some_items (x ∷ xs) h = refl

pub no_items : {A : Type 0} (xs : List A) → length xs ≡ 0 → has_some xs ≡ false
no_items [] h = refl
no_items (x ∷ xs) h = absurd (omega arith)

pub plan_read : (image : ImageWords) (text : List ℕ) (s : SoFar) (left : List NumberedLine) → HasRead image (kept_lines text) s left → left ≡ [] → 0 < length s.plan.starts → IsPlan image text s.plan
plan_read image text s left h e some =
    let said = made_all add_line (nothing_yet image) judge_line (kept_lines text) s left h e in
    let is = ap (λ (t : SoFar). t.plan) said.2 in
    record { lines = said.0; whole = record { said = said.1; whole = ap (λ (t : SoFar). has_some t.plan.starts) (sym said.2) ∙ some_items s.plan.starts some }; is = is }

pub unstarted : (image : ImageWords) (text : List ℕ) (s : SoFar) (left : List NumberedLine) → HasRead image (kept_lines text) s left → left ≡ [] → length s.plan.starts ≡ 0
    → IsUnfinished (plan_grammar image) (has_start image) (kept_lines text)
unstarted image text s left h e none =
    let said = made_all add_line (nothing_yet image) judge_line (kept_lines text) s left h e in
    record { entries = said.0; said = said.1; short = ap (λ (t : SoFar). has_some t.plan.starts) (sym said.2) ∙ no_items s.plan.starts none }

-- a line that keeps all rules after those so far
pub record Keeps (s : SoFar) (l : PlanLine) : Type 0 where
  pub order : nat_lt (kind_of l) s.latest ≡ false
  pub lines : too_many_lines s l ≡ false
  pub words : too_many_words s.plan l ≡ false
  pub span : breaks_span s.plan l ≡ false
  pub image : breaks_image s.plan l ≡ false
  pub code : breaks_code s.plan l ≡ false
  pub marker : breaks_marker s.plan l ≡ false

unbroken : (b : Bool) (rule : PlanRule) (rest : Option PlanRule) → cond b (Some rule) rest ≡ None → (b ≡ false) × (rest ≡ None)
unbroken true rule rest e = cc
unbroken false rule rest e = (refl, e)

keeps_from : (s : SoFar) (l : PlanLine) → broken_rule s l ≡ None → Keeps s l
unfolding broken_rule
keeps_from s l e =
    let order = unbroken (nat_lt (kind_of l) s.latest) _ _ e in
    let limit = unbroken (too_many_lines s l || too_many_words s.plan l) _ _ order.1 in
    let limits = or_parts (too_many_lines s l) (too_many_words s.plan l) limit.0 in
    let span = unbroken (breaks_span s.plan l) _ _ limit.1 in
    let image = unbroken (breaks_image s.plan l) _ _ span.1 in
    let code = unbroken (breaks_code s.plan l) _ _ image.1 in
    let marker = unbroken (breaks_marker s.plan l) _ None code.1 in
    record { order = order.0; lines = limits.0; words = limits.1; span = span.0; image = image.0; code = code.0; marker = marker.0 }

-- what is judged right is what the line declares, and keeps all rules
pub record IsKept (s : SoFar) (line : List ℕ) (l : PlanLine) : Type 0 where
  pub says : line_of line ≡ Some l
  pub fits : LineFits l
  pub keeps : Keeps s l

kept_by : (s : SoFar) (m l : PlanLine) (rule : Option PlanRule) → broken_rule s m ≡ rule → judge_kept m rule ≡ Ok l → (m ≡ l) × Keeps s l
kept_by s m l (Some rule) f e = absurd cc
kept_by s m l None f e = let same : m ≡ l = cc in (same, subst (Keeps s) same (keeps_from s m f))

kept_value : (s : SoFar) (l : PlanLine) (value : Option PlanLine) → judge_value s value ≡ Ok l → (value ≡ Some l) × Keeps s l
kept_value s l None e = absurd cc
kept_value s l (Some m) e = let k = kept_by s m l (broken_rule s m) refl e in (ap Some k.0, k.1)

kept_shape : (s : SoFar) (line : List ℕ) (l : PlanLine) (shape : Option WrittenLine) → shape_of (tokens_of line) ≡ shape → judge_shape s shape ≡ Ok l → IsKept s line l
kept_shape s line l None is e = absurd cc
kept_shape s line l (Some w) is e = let k = kept_value s l (value_of w) e in record {
  says = ap (λ (o : Option WrittenLine). o >>= value_of) is ∙ k.0;
  fits = value_fits w l (shape_placed (tokens_of line) w is) k.0;
  keeps = k.1;
}

pub kept : (s : SoFar) (line : List ℕ) (l : PlanLine) → judge_line s line ≡ Ok l → IsKept s line l
kept s line l e = kept_shape s line l (shape_of (tokens_of line)) refl e
