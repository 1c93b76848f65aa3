-- The listing of an image is a source of it.
use Rattle.std.proofs.Common.{◌≡◌, ◌∙◌, ℕ, ◌+◌, ◌<◌, ◌^◌, Bool, true, false, cond, eqb, ltb, List, [], ◌∷◌, ◌++◌, Option, None, is_some, Result, refl, sym, ap, subst, append_assoc, append-nil, arith}
use Rattle.std.proofs.lemmas.Bool.Decides.{nat_tests}
use Rattle.std.proofs.lemmas.List.Splits.{slice_split_at}
use Rattle.text_lines.specs.Lines.{NumberedLine, lines_of, numbered, unless, kept_lines}
use Rattle.text_lines.specs.Parts.{parts_of}
use Rattle.text_lines.specs.Reading.{Say, made}
use Rattle.text_lines.proofs.Cuts.{lines_of_nothing, lines_of_cut}
use Rattle.text_lines.proofs.Readings.{made_push}
use Rattle.memory_plan.specs.Images.{ImageWords, word_at, with_word, Ascend, Fit, AreImageWords}
use Rattle.field_asm.specs.declared.fault.AsmRule.{AsmRule}
use Rattle.field_asm.specs.Sources.{SourceLine, Is, SoFar, Labels, nothing_yet, put_word, add_line, add_word, source_grammar, label_grammar, unless_unknown, labels_of, IsSource, ◌>>=◌}
use Rattle.disasm_view.specs.Listings.{source_line, listing}
use Rattle.disasm_view.proofs.Judged.{line_without, line_is_kept, line_says}

-- ---- its lines

-- the lines of a listing, of which the first has this number
abbrev listed : ℕ → ImageWords → List NumberedLine
listed n [] = []
listed n (e ∷ es) = record { number = n; text = source_line e.0 e.1 } ∷ listed (n + 1) es

line_there : (at word : ℕ) (rest : List ℕ) → word < 2 ^ 32 → lines_of (source_line at word ++ 10 ∷ rest) ≡ source_line at word ∷ lines_of rest
unfolding parts_of
line_there at word rest small =
    lines_of_cut (source_line at word ++ 10 ∷ rest) (source_line at word) rest
    (slice_split_at (λ (b : ℕ). eqb b 10) (source_line at word) 10 rest (line_without at word small) refl)

lines_there : (n : ℕ) (image : ImageWords) → Fit image → numbered true n (lines_of (listing image)) ≡ listed n image
lines_there n [] fit = ap (numbered true n) lines_of_nothing
lines_there n (e ∷ es) fit =
    ap (λ (text : List ℕ). numbered true n (lines_of text)) (append_assoc (source_line e.0 e.1) (10 ∷ []) (listing es))
    ∙ ap (numbered true n) (line_there e.0 e.1 (listing es) fit.1)
    ∙ ap (λ (b : Bool). unless b (record { number = n; text = source_line e.0 e.1 }) (numbered true (n + 1) (lines_of (listing es)))) (line_is_kept e.0 e.1)
    ∙ ap (λ (ls : List NumberedLine). record { number = n; text = source_line e.0 e.1 } ∷ ls) (lines_there (n + 1) es fit.2)

-- ---- what they say

-- each word at its address
abbrev said : ImageWords → List SourceLine
said [] = []
said (e ∷ es) = Is e.0 e.1 ∷ said es

-- all addresses are below this one
abbrev Below : ImageWords → ℕ → Type 0
Below [] at = Unit {0}
Below (e ∷ es) at = (e.0 < at) × Below es at

all_below : (done : ImageWords) (e : ℕ × ℕ) (rest : ImageWords) → Ascend (done ++ e ∷ rest) → Below done e.0
all_below [] e rest up = tt
all_below (d ∷ []) e rest up = (up.0, tt)
all_below (d ∷ f ∷ ds) e rest up =
    let behind : Below (f ∷ ds) e.0 = all_below (f ∷ ds) e rest up.1 in
    let first : d.0 < f.0 = up.0 in
    let second : f.0 < e.0 = behind.0 in
    (omega (arith, first, second), behind)

free_there : (done : ImageWords) (at : ℕ) → Below done at → word_at done at ≡ None
free_there [] at h = refl
free_there (d ∷ ds) at h =
    let first : d.0 < at = h.0 in
    let differs : eqb d.0 at ≡ false = grind (arith, nat_tests) in
    rw differs (free_there ds at h.1)

put_last : (done : ImageWords) (at word : ℕ) → Below done at → with_word done at word ≡ done ++ (at, word) ∷ []
put_last [] at word h = refl
put_last (d ∷ ds) at word h =
    let first : d.0 < at = h.0 in
    let less : ltb d.0 at ≡ true = grind (arith, nat_tests) in
    rw less (ap (λ (es : ImageWords). d ∷ es) (put_last ds at word h.1))

-- a word behind all others is put last
put_behind : (done : ImageWords) (e : ℕ × ℕ) (rest : ImageWords) → Ascend (done ++ e ∷ rest) → put_word done e.0 e.1 ≡ done ++ e ∷ []
put_behind done e rest up =
    let below = all_below done e rest up in
    ap (λ (o : Option ℕ). cond (is_some o) done (with_word done e.0 e.1)) (free_there done e.0 below) ∙ put_last done e.0 e.1 below

moved : (done : ImageWords) (e : ℕ × ℕ) (rest : ImageWords) → Ascend (done ++ e ∷ rest) → Ascend ((done ++ e ∷ []) ++ rest)
moved done e rest up = subst Ascend (sym (append_assoc done (e ∷ []) rest)) up

-- behind the lines of some words each line says its own
lines_say : (before : List SourceLine) (n : ℕ) (done rest : ImageWords) → (made add_line nothing_yet before).words ≡ done → Ascend (done ++ rest) → Fit rest
    → Say source_grammar before (listed n rest) (said rest)
lines_say before n done [] e up fit = tt
lines_say before n done (w ∷ ws) e up fit = (
  line_says (made add_line nothing_yet before) w.0 w.1 fit.0 fit.1 (ap (λ (words : ImageWords). word_at words w.0) e ∙ free_there done w.0 (all_below done w ws up)),
  lines_say (before ++ Is w.0 w.1 ∷ []) (n + 1) (done ++ w ∷ []) ws
      (ap (λ (s : SoFar). s.words) (made_push add_line nothing_yet before (Is w.0 w.1)) ∙ ap (λ (words : ImageWords). put_word words w.0 w.1) e ∙ put_behind done w ws up)
      (moved done w ws up) fit.2,
)

-- and has no label that could be unknown
labels_say : (first before : List SourceLine) (n : ℕ) (words : ImageWords) → Say source_grammar before (listed n words) (said words) → Say (label_grammar first) before (listed n words) (said words)
labels_say first before n [] h = tt
labels_say first before n (w ∷ ws) h =
    (ap (λ (r : Result SourceLine AsmRule). r >>= unless_unknown (labels_of first)) h.0, labels_say first (before ++ Is w.0 w.1 ∷ []) (n + 1) ws h.1)

-- ---- the image that they make

words_made : (labels : Labels) (done rest : ImageWords) → Ascend (done ++ rest) → made (add_word labels) done (said rest) ≡ done ++ rest
words_made labels done [] up = sym (append-nil done)
words_made labels done (w ∷ ws) up =
    ap (λ (words : ImageWords). made (add_word labels) words (said ws)) (put_behind done w ws up)
    ∙ words_made labels (done ++ w ∷ []) ws (moved done w ws up) ∙ append_assoc done (w ∷ []) ws

pub listing_is_source : (image : ImageWords) → AreImageWords image → IsSource (listing image) image
listing_is_source image are =
    let early = lines_say [] 1 [] image refl are.ascend are.fit in
    let kept : listed 1 image ≡ kept_lines (listing image) = sym (lines_there 1 image are.fit) in
    record {
      lines = said image;
      said = record {
        first = said image;
        said_early = subst (λ (ls : List NumberedLine). Say source_grammar [] ls (said image)) kept early;
        said = subst (λ (ls : List NumberedLine). Say (label_grammar (said image)) [] ls (said image)) kept (labels_say (said image) [] 1 image early);
      };
      is = sym (words_made (labels_of (said image)) [] image are.ascend);
    }
