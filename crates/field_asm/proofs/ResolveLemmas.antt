-- The second pass: labels once all lines are known.
use Rattle.std.proofs.Common.{◌≡◌, ◌∙◌, ℕ, Bool, true, false, cond, List, [], ◌∷◌, ◌++◌, Result, Ok, Err, refl, sym, ap, inr}
use Rattle.text_lines.specs.Lines.{NumberedLine, kept_lines}
use Rattle.text_lines.specs.Reading.{made}
use Rattle.text_lines.proofs.Readings.{IsReadTo, read_none, read_more, read_all, read_broken, made_push}
use Rattle.memory_plan.specs.Images.{ImageWords}
use Rattle.field_asm.specs.declared.fault.AsmFault.TheVariants.{At}
use Rattle.field_asm.specs.declared.fault.AsmRule.{AsmRule}
use Rattle.field_asm.specs.declared.fault.AsmRule.TheVariants.{Label}
use Rattle.field_asm.specs.Sources.{SourceLine, Names, Is, Refers, SoFar, Labels, nothing_yet, add_line, add_word, words_of, judge_line, labels_of, unless_unknown, label_grammar, ◌>>=◌, IsSource, IsSourceFault}
use Rattle.field_asm.specs.Resolving.{IsRead, is_known, IsAdded}

known_said : (labels : Labels) (line : SourceLine) → is_known labels line ≡ true → unless_unknown labels line ≡ Ok line
known_said labels (Names text at) e = refl
known_said labels (Is at word) e = refl
known_said labels (Refers at fields text) e = rw e refl

unknown_said : (labels : Labels) (line : SourceLine) → is_known labels line ≡ false → unless_unknown labels line ≡ Err Label
unknown_said labels (Names text at) e = absurd cc
unknown_said labels (Is at word) e = absurd cc
unknown_said labels (Refers at fields text) e = rw e refl

-- Some lines were read again, with these words, and those are still to come.
pub record IsResolvedTo (text : List ℕ) (state again : SoFar) (image : ImageWords) (left : List NumberedLine) : Type 0 where
  pub first : IsRead text state
  pub lines : List SourceLine
  pub so_far : IsReadTo (label_grammar first.lines) (kept_lines text) lines left
  pub again_is : again ≡ made add_line nothing_yet lines
  pub image_is : image ≡ words_of state.labels lines

pub resolved_none : (text : List ℕ) (state again : SoFar) (image : ImageWords) (left : List NumberedLine) → IsRead text state → again ≡ nothing_yet → image ≡ [] → left ≡ kept_lines text → IsResolvedTo text state again image left
resolved_none text state again image left first e f g = record {
  first = first;
  lines = [];
  so_far = rw g (read_none (label_grammar first.lines) (kept_lines text));
  again_is = e;
  image_is = f;
}

-- what the grammar of labels says of the next line
late_says : (text : List ℕ) (state again : SoFar) (image : ImageWords) (left : List NumberedLine) (h : IsResolvedTo text state again image left) (line : List ℕ) (r : Result SourceLine AsmRule)
    → r ≡ judge_line again line → label_grammar h.first.lines h.lines line ≡ (r >>= unless_unknown state.labels)
late_says text state again image left h line r e =
    ap (λ (s : SoFar). judge_line s line >>= unless_unknown (labels_of h.first.lines)) (sym h.again_is) ∙ ap (λ (x : Result SourceLine AsmRule). x >>= unless_unknown (labels_of h.first.lines)) (sym e)
    ∙ ap (λ (s : SoFar). r >>= unless_unknown s.labels) (sym h.first.is)

pub resolved_more : (text : List ℕ) (state again next : SoFar) (image after : ImageWords) (left rest : List NumberedLine) (number : ℕ) (line : List ℕ) (said : SourceLine) (known : Bool)
    → IsResolvedTo text state again image left → left ≡ record { number = number; text = line } ∷ rest → Ok said ≡ judge_line again line → IsAdded state.labels image said after known → known ≡ true → next ≡ add_line again said
    → IsResolvedTo text state next after rest
resolved_more text state again next image after left rest number line said known h is says added t goes = record {
  first = h.first;
  lines = h.lines ++ said ∷ [];
  so_far = read_more (label_grammar h.first.lines) (kept_lines text) h.lines left number line rest said h.so_far is
      (late_says text state again image left h line (Ok said) says ∙ known_said state.labels said (sym added.known_is ∙ t));
  again_is = goes ∙ ap (λ (s : SoFar). add_line s said) h.again_is ∙ sym (made_push add_line nothing_yet h.lines said);
  image_is = added.words ∙ ap (λ (b : Bool). cond b (add_word state.labels image said) image) t ∙ ap (λ (ws : ImageWords). add_word state.labels ws said) h.image_is ∙ sym (made_push (add_word state.labels) [] h.lines said);
}

pub resolved_unknown : (text : List ℕ) (state again : SoFar) (image after : ImageWords) (left rest : List NumberedLine) (number : ℕ) (line : List ℕ) (said : SourceLine) (known : Bool)
    → IsResolvedTo text state again image left → left ≡ record { number = number; text = line } ∷ rest → Ok said ≡ judge_line again line → IsAdded state.labels image said after known → known ≡ false
    → IsSourceFault text (At number Label)
resolved_unknown text state again image after left rest number line said known h is says added t =
    inr (record {
      first = h.first.lines;
      said_early = h.first.said;
      broken = read_broken (label_grammar h.first.lines) (kept_lines text) h.lines left number line rest Label h.so_far is
          (late_says text state again image left h line (Ok said) says ∙ unknown_said state.labels said (sym added.known_is ∙ t));
    })

pub resolved_broken : (text : List ℕ) (state again : SoFar) (image : ImageWords) (left rest : List NumberedLine) (number : ℕ) (line : List ℕ) (rule : AsmRule)
    → IsResolvedTo text state again image left → left ≡ record { number = number; text = line } ∷ rest → Err rule ≡ judge_line again line → IsSourceFault text (At number rule)
resolved_broken text state again image left rest number line rule h is says =
    inr (record {
      first = h.first.lines;
      said_early = h.first.said;
      broken = read_broken (label_grammar h.first.lines) (kept_lines text) h.lines left number line rest rule h.so_far is (late_says text state again image left h line (Err rule) says);
    })

pub resolved_all : (text : List ℕ) (state again : SoFar) (image : ImageWords) (left : List NumberedLine) → IsResolvedTo text state again image left → left ≡ [] → IsSource text image
resolved_all text state again image left h is = record {
  lines = h.lines;
  said = record { first = h.first.lines; said_early = h.first.said; said = read_all (label_grammar h.first.lines) (kept_lines text) h.lines left h.so_far is };
  is = h.image_is ∙ ap (λ (s : SoFar). words_of s.labels h.lines) h.first.is;
}
