-- A text is a source of one image, or has one first fault.
use Rattle.std.proofs.Common.{◌∙◌, ℕ, List, sym, ap}
use Rattle.text_lines.specs.Lines.{kept_lines}
use Rattle.text_lines.specs.Reading.{HasOneReading}
use Rattle.text_lines.proofs.Readings.{said_once, reading_after_once}
use Rattle.field_asm.specs.declared.fault.AsmRule.{AsmRule}
use Rattle.field_asm.specs.Sources.{SourceLine, words_of, source_grammar, labels_of, label_grammar, IsSource, source_fault}

pub source_reading : (text : List ℕ) → HasOneReading (IsSource text) (source_fault text)
source_reading text =
    let one = reading_after_once SourceLine SourceLine AsmRule source_grammar label_grammar (kept_lines text) in
    record {
      value = λ a b h k. h.is ∙ ap (words_of (labels_of h.said.first)) (one.value h.lines k.lines h.said k.said)
          ∙ ap (λ (first : List SourceLine). words_of (labels_of first) k.lines) (said_once source_grammar (kept_lines text) h.said.first k.said.first h.said.said_early k.said.said_early) ∙ sym k.is;
      no_fault = λ a line rule h b. one.no_fault h.lines line rule h.said b;
      fault = one.fault;
    }
