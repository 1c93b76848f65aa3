-- Plans that are read are well-formed.
use Rattle.std.proofs.Common.{◌≡◌, ◌≢◌, ◌∙◌, ℕ, ◌+◌, ◌-◌, ◌^◌, ◌<◌, ◌≤◌, Bool, true, false, eqb, leb, ltb, append_assoc, append-nil, List, [], ◌∷◌, ◌++◌, length, get_or, refl, sym, ap, subst, inl, inr, arith}
use Rattle.std.specs.Prelude.{◌&&◌, ◌||◌, nat_le, nat_lt}
use Rattle.std.specs.List.{All, list_any}
use Rattle.std.proofs.lemmas.Bool.{cases_lt, ltb-false, or_parts, or_left, not-false}
use Rattle.std.proofs.lemmas.Bool.Decides.{nat_tests}
use Rattle.std.proofs.lemmas.List.{length_push}
use Rattle.std.proofs.lemmas.List.Sums.{sum_by_push}
use Rattle.std.proofs.lemmas.List.Elements.{All-push}
use Rattle.std.proofs.lemmas.List.Quantifiers.{all_pairs_push}
use Rattle.std.proofs.lemmas.List.Folds.{list_any-append}
use Rattle.viper_word.specs.Words.{IsSigned}
use Rattle.text_lines.specs.Lines.{NumberedLine, kept_lines}
use Rattle.text_lines.specs.Reading.{Say, made}
use Rattle.text_lines.proofs.Readings.{made_push}
use Rattle.memory_plan.specs.Images.{ImageWords, AreImageWords}
use Rattle.viper_word.specs.Ranges.{IsNormal}
use Rattle.memory_plan.specs.Ranges.{Span}
use Rattle.memory_plan.specs.Costs.{place_of}
use Rattle.memory_plan.specs.Plans.{PlanLines, has_code, has_marker, words_of}
use Rattle.memory_plan.specs.PlanRules.{SoFar, nothing_yet, add_line, empty_plan, add, all_words, misfits, meets, meets_code}
use Rattle.memory_plan.specs.PlanText.{plan_grammar, IsPlan}
use Rattle.memory_plan.specs.WellFormed.{Apart, AreCodeSpans, AreSpans, AreMarkers, AreStarts, AreThresholds, AreCosts, HasNormalRanges, IsWellFormed}
use Rattle.memory_plan.specs.declared.start.Start.{Start}
use Rattle.memory_plan.specs.declared.cost.Costed.{Costed}
use Rattle.memory_plan.specs.declared.plan_line.PlanLine.{PlanLine}
use Rattle.memory_plan.specs.declared.plan_line.PlanLine.TheVariants as lines
use Rattle.memory_plan.specs.declared.plan_line.Space.TheVariants.{Data, Input, Output}
use Rattle.memory_plan.proofs.PlanFits.{LineFits}
use Rattle.memory_plan.proofs.PlanTextLemmas.{Keeps, kept}
use Rattle.memory_plan.proofs.SortedLemmas.{none_passes}

-- ---- tests

apart_by : (lo hi low high : ℕ) → (leb lo high && leb low hi) ≡ false → Apart low high lo hi
apart_by lo hi low high e = elim (cases_lt high lo) [
  | inl before ↦ inl before
  | inr meets ↦ inr (elim (cases_lt hi low) [
    | inl behind ↦ behind
    | inr both ↦ absurd (grind (arith, nat_tests))
  ])
]

other_way : (lo hi low high : ℕ) → Apart lo hi low high → Apart low high lo hi
other_way lo hi low high (inl a) = inr a
other_way lo hi low high (inr b) = inl b

differs : (m n : ℕ) → eqb m n ≡ false → m ≢ n
differs m n e = λ same. grind (arith, nat_tests)

runs : (lo hi : ℕ) → ltb hi lo ≡ false → lo ≤ hi
runs lo hi e = ltb-false hi lo e

-- one item more, where there was room
room : {A : Type 0} (xs : List A) (x : A) (most : ℕ) → leb most (length xs) ≡ false → length (xs ++ x ∷ []) ≤ most
room xs x most e =
    let less : length xs < most = grind (arith, nat_tests) in
    omega (arith, less, length_push xs x)

-- what stays true when a span or a marker is added
still_any : {A : Type 0} (p : A → Bool) (xs : List A) (x : A) → list_any p xs ≡ true → list_any p (xs ++ x ∷ []) ≡ true
still_any p xs x e = list_any-append p xs (x ∷ []) ∙ or_left (list_any p xs) (list_any p (x ∷ [])) e

words_push : (code : List (ℕ × ℕ)) (lo hi : ℕ) → words_of (code ++ (lo, hi) ∷ []) ≡ words_of code + (hi + 1 - lo)
words_push code lo hi = sum_by_push (λ (s : ℕ × ℕ). s.1 + 1 - s.0) code (lo, hi)

-- ---- one line more

code_push : (image : ImageWords) (code : List (ℕ × ℕ)) (lo hi : ℕ) → AreCodeSpans image code → nat_le 256 (length code) ≡ false → nat_lt 16384 (words_of code + (hi + 1 - lo)) ≡ false → ltb hi lo ≡ false
    → hi < 2 ^ 20 → meets_code code lo hi ≡ false → all_words image lo (hi + 1 - lo) ≡ true → AreCodeSpans image (code ++ (lo, hi) ∷ [])
code_push image code lo hi h lines words some low apart there = record {
  few = room code (lo, hi) 256 lines;
  words = let within : words_of code + (hi + 1 - lo) ≤ 16384 = grind (arith, nat_tests) in omega (arith, within, words_push code lo hi);
  some = All-push (λ (c : ℕ × ℕ). c.0 ≤ c.1) code (lo, hi) h.some (runs lo hi some);
  placed = All-push (λ (c : ℕ × ℕ). c.1 < 2 ^ 20) code (lo, hi) h.placed low;
  apart = all_pairs_push (λ (c d : ℕ × ℕ). Apart c.0 c.1 d.0 d.1) code (lo, hi) h.apart
      (λ i d within. apart_by lo hi (get_or code i d).0 (get_or code i d).1 (none_passes (λ (c : ℕ × ℕ). leb lo c.1 && leb c.0 hi) code apart i d within));
  there = All-push (λ (c : ℕ × ℕ). all_words image c.0 (c.1 + 1 - c.0) ≡ true) code (lo, hi) h.there there;
}

spans_push : (spans : List Span) (s : Span) → AreSpans spans → nat_le 256 (length spans) ≡ false → ltb s.1 s.0 ≡ false → s.1 < 2 ^ 20 → IsNormal s.2 → meets spans s.0 s.1 ≡ false → AreSpans (spans ++ s ∷ [])
spans_push spans s h lines some low normal apart = record {
  few = room spans s 256 lines;
  some = All-push (λ (t : Span). t.0 ≤ t.1) spans s h.some (runs s.0 s.1 some);
  placed = All-push (λ (t : Span). t.1 < 2 ^ 20) spans s h.placed low;
  apart = all_pairs_push (λ (a b : Span). Apart a.0 a.1 b.0 b.1) spans s h.apart
      (λ i d within. apart_by s.0 s.1 (get_or spans i d).0 (get_or spans i d).1 (none_passes (λ (t : Span). leb s.0 t.1 && leb t.0 s.1) spans apart i d within));
  normal = All-push (λ (t : Span). IsNormal t.2) spans s h.normal normal;
}

-- markers and starts stay in code with a span more
markers_code : (code : List (ℕ × ℕ)) (s : ℕ × ℕ) (markers : List ℕ) → AreMarkers code markers → AreMarkers (code ++ s ∷ []) markers
markers_code code s markers h = record {
  few = h.few;
  differ = h.differ;
  in_code = λ i d within. still_any (λ (c : ℕ × ℕ). leb c.0 (get_or markers i d) && leb (get_or markers i d) c.1) code s (h.in_code i d within);
}

starts_code : (code : List (ℕ × ℕ)) (s : ℕ × ℕ) (markers : List ℕ) (starts : List Start) → AreStarts code markers starts → AreStarts (code ++ s ∷ []) markers starts
starts_code code s markers starts h = record {
  few = h.few;
  placed = h.placed;
  in_code = λ i d within. still_any (λ (c : ℕ × ℕ). leb c.0 (get_or starts i d).at && leb (get_or starts i d).at c.1) code s (h.in_code i d within);
  at_markers = h.at_markers;
  normal = h.normal;
}

starts_marker : (code : List (ℕ × ℕ)) (markers : List ℕ) (at : ℕ) (starts : List Start) → AreStarts code markers starts → AreStarts code (markers ++ at ∷ []) starts
starts_marker code markers at starts h = record {
  few = h.few;
  placed = h.placed;
  in_code = h.in_code;
  at_markers = λ i d within. still_any (λ (m : ℕ). eqb m (get_or starts i d).at) markers at (h.at_markers i d within);
  normal = h.normal;
}

add_code : (s : SoFar) (lo hi : ℕ) → IsWellFormed s.plan → Keeps s (lines.Code lo hi) → hi < 2 ^ 20 → IsWellFormed (add s.plan (lines.Code lo hi))
add_code s lo hi h k low =
    let plan = s.plan in
    let span = or_parts (ltb hi lo) (meets_code plan.code lo hi || meets plan.«data» lo hi) k.span in
    let apart = or_parts (meets_code plan.code lo hi) (meets plan.«data» lo hi) span.1 in
    record {
      image = h.image;
      code = code_push plan.image plan.code lo hi h.code k.lines k.words span.0 low apart.0 (not-false (all_words plan.image lo (hi + 1 - lo)) k.image);
      «data» = h.«data»;
      code_and_data = All-push (λ (c : ℕ × ℕ). All (λ (t : Span). Apart c.0 c.1 t.0 t.1) plan.«data») plan.code (lo, hi) h.code_and_data
          (λ i d within. other_way (get_or plan.«data» i d).0 (get_or plan.«data» i d).1 lo hi
          (apart_by lo hi (get_or plan.«data» i d).0 (get_or plan.«data» i d).1 (none_passes (λ (t : Span). leb lo t.1 && leb t.0 hi) plan.«data» apart.1 i d within)));
      fits = h.fits;
      inputs = h.inputs;
      outputs = h.outputs;
      markers = markers_code plan.code (lo, hi) plan.markers h.markers;
      starts = starts_code plan.code (lo, hi) plan.markers plan.starts h.starts;
      thresholds = h.thresholds;
      costs = h.costs;
    }

add_data : (s : SoFar) (t : Span) → IsWellFormed s.plan → Keeps s (lines.Region Data t.0 t.1 t.2) → t.1 < 2 ^ 20 → IsNormal t.2 → IsWellFormed (add s.plan (lines.Region Data t.0 t.1 t.2))
add_data s t h k low normal =
    let plan = s.plan in
    let span = or_parts (ltb t.1 t.0) (meets_code plan.code t.0 t.1 || meets plan.«data» t.0 t.1) k.span in
    let apart = or_parts (meets_code plan.code t.0 t.1) (meets plan.«data» t.0 t.1) span.1 in
    record {
      image = h.image;
      code = h.code;
      «data» = spans_push plan.«data» t h.«data» k.lines span.0 low normal apart.1;
      code_and_data = λ i d within. All-push (λ (u : Span). Apart (get_or plan.code i d).0 (get_or plan.code i d).1 u.0 u.1) plan.«data» t (h.code_and_data i d within)
          (apart_by t.0 t.1 (get_or plan.code i d).0 (get_or plan.code i d).1 (none_passes (λ (c : ℕ × ℕ). leb t.0 c.1 && leb c.0 t.1) plan.code apart.0 i d within));
      fits = All-push (λ (u : Span). misfits u plan.image ≡ false) plan.«data» t h.fits k.image;
      inputs = h.inputs;
      outputs = h.outputs;
      markers = h.markers;
      starts = h.starts;
      thresholds = h.thresholds;
      costs = h.costs;
    }

-- other parts in the place of those that code, data and the image leave free
with_parts : (plan after : PlanLines) → IsWellFormed plan → after.image ≡ plan.image → after.code ≡ plan.code → after.«data» ≡ plan.«data» → AreSpans after.inputs → AreSpans after.outputs
    → AreMarkers plan.code after.markers → AreStarts plan.code after.markers after.starts → AreThresholds after.thresholds → AreCosts after.costs → IsWellFormed after
with_parts plan after h image code «data» ins outs markers starts thresholds costs = record {
  image = rw image h.image;
  code = rw (image, code) h.code;
  «data» = rw «data» h.«data»;
  code_and_data = rw (code, «data») h.code_and_data;
  fits = rw (image, «data») h.fits;
  inputs = ins;
  outputs = outs;
  markers = rw code markers;
  starts = rw code starts;
  thresholds = thresholds;
  costs = costs;
}

-- and one span more among them
span_more : (spans : List Span) (t : Span) → AreSpans spans → nat_le 256 (length spans) ≡ false → (ltb t.1 t.0 || meets spans t.0 t.1) ≡ false → t.1 < 2 ^ 20 → IsNormal t.2 → AreSpans (spans ++ t ∷ [])
span_more spans t h lines breaks low normal =
    let span = or_parts (ltb t.1 t.0) (meets spans t.0 t.1) breaks in
    spans_push spans t h lines span.0 low normal span.1

add_marker : (s : SoFar) (at : ℕ) → IsWellFormed s.plan → Keeps s (lines.Marker at) → IsWellFormed (add s.plan (lines.Marker at))
add_marker s at h k =
    let plan = s.plan in
    let markers : AreMarkers plan.code (plan.markers ++ at ∷ []) = record {
      few = room plan.markers at 1024 k.lines;
      differ = all_pairs_push (λ (m n : ℕ). m ≢ n) plan.markers at h.markers.differ
          (λ i d within. differs (get_or plan.markers i d) at (none_passes (λ (m : ℕ). eqb m at) plan.markers k.marker i d within));
      in_code = All-push (λ (m : ℕ). has_code plan.code m ≡ true) plan.markers at h.markers.in_code (not-false (has_code plan.code at) k.code);
    } in
    with_parts plan (add plan (lines.Marker at)) h refl refl refl h.inputs h.outputs markers (starts_marker plan.code plan.markers at plan.starts h.starts) h.thresholds h.costs

add_start : (s : SoFar) (start : Start) → IsWellFormed s.plan → Keeps s (lines.Start start) → start.at < 2 ^ 20 → HasNormalRanges start → IsWellFormed (add s.plan (lines.Start start))
add_start s start h k low normal =
    let plan = s.plan in
    let starts : AreStarts plan.code plan.markers (plan.starts ++ start ∷ []) = record {
      few = room plan.starts start 16 k.lines;
      placed = All-push (λ (t : Start). t.at < 2 ^ 20) plan.starts start h.starts.placed low;
      in_code = All-push (λ (t : Start). has_code plan.code t.at ≡ true) plan.starts start h.starts.in_code (not-false (has_code plan.code start.at) k.code);
      at_markers = All-push (λ (t : Start). has_marker plan.markers t.at ≡ true) plan.starts start h.starts.at_markers (not-false (has_marker plan.markers start.at) k.marker);
      normal = All-push HasNormalRanges plan.starts start h.starts.normal normal;
    } in
    with_parts plan (add plan (lines.Start start)) h refl refl refl h.inputs h.outputs h.markers starts h.thresholds h.costs

other_kind : (a b : Costed) → eqb (place_of a) (place_of b) ≡ false → a ≢ b
other_kind a b e = λ same. differs (place_of a) (place_of b) e (ap place_of same)

add_cost : (s : SoFar) (kind : Costed) (n : ℕ) → IsWellFormed s.plan → Keeps s (lines.Cost kind n) → 1 ≤ n → n ≤ 1000 → IsWellFormed (add s.plan (lines.Cost kind n))
add_cost s kind n h k some small =
    let costs = s.plan.costs in
    let more : AreCosts (costs ++ (kind, n) ∷ []) = record {
      differ = all_pairs_push (λ (c d : Costed × ℕ). c.0 ≢ d.0) costs (kind, n) h.costs.differ
          (λ i d within. other_kind (get_or costs i d).0 kind (none_passes (λ (c : Costed × ℕ). eqb (place_of c.0) (place_of kind)) costs k.lines i d within));
      some = All-push (λ (c : Costed × ℕ). 1 ≤ c.1) costs (kind, n) h.costs.some some;
      small = All-push (λ (c : Costed × ℕ). c.1 ≤ 1000) costs (kind, n) h.costs.small small;
    } in
    with_parts s.plan (add s.plan (lines.Cost kind n)) h refl refl refl h.inputs h.outputs h.markers h.starts h.thresholds more

pub add_one : (s : SoFar) (l : PlanLine) → IsWellFormed s.plan → Keeps s l → LineFits l → IsWellFormed (add s.plan l)
add_one s (lines.Profile p) h k f = with_parts s.plan (add s.plan (lines.Profile p)) h refl refl refl h.inputs h.outputs h.markers h.starts h.thresholds h.costs
add_one s (lines.Code lo hi) h k f = add_code s lo hi h k f
add_one s (lines.Region Data lo hi r) h k f = add_data s (lo, hi, r) h k f.0 f.1
add_one s (lines.Region Input lo hi r) h k f =
    with_parts s.plan (add s.plan (lines.Region Input lo hi r)) h refl refl refl (span_more s.plan.inputs (lo, hi, r) h.inputs k.lines k.span f.0 f.1) h.outputs h.markers h.starts h.thresholds h.costs
add_one s (lines.Region Output lo hi r) h k f =
    with_parts s.plan (add s.plan (lines.Region Output lo hi r)) h refl refl refl h.inputs (span_more s.plan.outputs (lo, hi, r) h.outputs k.lines k.span f.0 f.1) h.markers h.starts h.thresholds h.costs
add_one s (lines.Marker at) h k f = add_marker s at h k
add_one s (lines.Start start) h k f = add_start s start h k f.0 f.1
add_one s (lines.Threshold n) h k f =
    let more : AreThresholds (s.plan.thresholds ++ n ∷ []) = record { few = room s.plan.thresholds n 1024 k.lines; signed = All-push IsSigned s.plan.thresholds n h.thresholds.signed f } in
    with_parts s.plan (add s.plan (lines.Threshold n)) h refl refl refl h.inputs h.outputs h.markers h.starts more h.costs
add_one s (lines.Cost kind n) h k f = add_cost s kind n h k f.0 f.1

-- ---- all lines

pub no_spans : AreSpans []
no_spans = record {
  few = omega arith;
  some = λ k d w. absurd (omega arith);
  placed = λ k d w. absurd (omega arith);
  apart = λ i j d lt w. absurd (omega arith);
  normal = λ k d w. absurd (omega arith);
}

pub empty_well : (image : ImageWords) → AreImageWords image → IsWellFormed (empty_plan image)
empty_well image is = record {
  image = is;
  code = record {
    few = omega arith;
    words = omega arith;
    some = λ k d w. absurd (omega arith);
    placed = λ k d w. absurd (omega arith);
    apart = λ i j d lt w. absurd (omega arith);
    there = λ k d w. absurd (omega arith);
  };
  «data» = no_spans;
  code_and_data = λ k d w. absurd (omega arith);
  fits = λ k d w. absurd (omega arith);
  inputs = no_spans;
  outputs = no_spans;
  markers = record { few = omega arith; differ = λ i j d lt w. absurd (omega arith); in_code = λ k d w. absurd (omega arith) };
  starts = record {
    few = omega arith;
    placed = λ k d w. absurd (omega arith);
    in_code = λ k d w. absurd (omega arith);
    at_markers = λ k d w. absurd (omega arith);
    normal = λ k d w. absurd (omega arith);
  };
  thresholds = record { few = omega arith; signed = λ k d w. absurd (omega arith) };
  costs = record { differ = λ i j d lt w. absurd (omega arith); some = λ k d w. absurd (omega arith); small = λ k d w. absurd (omega arith) };
}

-- what is said behind a well-formed plan makes one
said_well : (image : ImageWords) (before : List PlanLine) (text : List NumberedLine) (after : List PlanLine) → IsWellFormed (made add_line (nothing_yet image) before).plan → Say (plan_grammar image) before text after
    → IsWellFormed (made add_line (nothing_yet image) (before ++ after)).plan
said_well image before [] [] h say = subst (λ (ls : List PlanLine). IsWellFormed (made add_line (nothing_yet image) ls).plan) (sym (append-nil before)) h
said_well image before [] (x ∷ xs) h say = absurd say
said_well image before (l ∷ ls) [] h say = absurd say
said_well image before (l ∷ ls) (x ∷ xs) h say =
    let s = made add_line (nothing_yet image) before in
    let k = kept s l.text x say.0 in
    let one = add_one s x h k.keeps k.fits in
    let next = subst (λ (t : SoFar). IsWellFormed t.plan) (sym (made_push add_line (nothing_yet image) before x)) one in
    subst (λ (ms : List PlanLine). IsWellFormed (made add_line (nothing_yet image) ms).plan) (append_assoc before (x ∷ []) xs) (said_well image (before ++ x ∷ []) ls xs next say.1)

pub plan_well : (image : ImageWords) (text : List ℕ) (plan : PlanLines) → AreImageWords image → IsPlan image text plan → IsWellFormed plan
plan_well image text plan words is = subst IsWellFormed (sym is.is) (said_well image [] (kept_lines text) is.lines (empty_well image words) is.whole.said)
