use Rattle.std.proofs.Common.{ℕ, ◌+◌, max, min, refl, ap, arith, sym, ◌∙◌}
use Rattle.flag_relation.specs.Facts.{values}
use Rattle.abs_step.specs.Results.{addressed}
use Rattle.abs_step.specs.Walks.{fits, is_in_either}
use Rattle.abs_step.specs.declared.addresses.Use.TheVariants.{Read}
use Rattle.abs_step.proofs.SpanWalks.{Cuts, both_head, both_last, code_apart, code_on, pass_over, pass_unmet, spans_alone}
use Rattle.abs_step.proofs.addresses.+memory.Goals as goal

pub are_in_memory-returns-then-are_apart : goal.are_in_memory-returns-then-are_apart
are_in_memory-returns-then-are_apart g t c =
    let p = addressed g.D.NumDomain.domain c.args.place.now (values c.args.fact.now) in
    let s = c.first-item.result in
    c.are_in_memory.ensures
    ∙ sym (code_apart p s c.args.code.now c.args.spans.now c.args.from c.args.to c.in-len1-up.len_at_least c.first-item.is (sym c.are_apart.ensures ∙ c.if-are_apart.true))

pub are_in_memory-returns-then-are_met_in_memory : goal.are_in_memory-returns-then-are_met_in_memory
are_in_memory-returns-then-are_met_in_memory g t c =
    let p = addressed g.D.NumDomain.domain c.args.place.now (values c.args.fact.now) in
    let s = c.first-item.result in
    let cuts : Cuts s.0 s.1 c.args.from c.args.to c.max-low.result c.min-high.result = record {
      meets = sym c.are_apart.ensures ∙ c.if-are_apart.false;
      order = c.requires.order;
      before = c.max-low.ensures ∙ ap (λ (n : ℕ). max c.args.from n) c.get.ensures.number;
      behind = c.min-high.ensures ∙ ap (λ (n : ℕ). min c.args.to (n + 1)) c.get-in-len1-up.ensures.number;
    } in
    c.are_met_in_memory-then-are_met_in_memory.ensures
    ∙ sym (both_last _ _ (sym c.are_met_in_memory.ensures ∙ c.if-are_met_in_memory.true))
    ∙ sym (code_on p s c.args.code.now c.args.spans.now c.args.from c.max-low.result c.min-high.result c.args.to c.in-len1-up.len_at_least c.first-item.is cuts)

pub are_in_memory-returns-else-are_met_in_memory : goal.are_in_memory-returns-else-are_met_in_memory
are_in_memory-returns-else-are_met_in_memory g t c =
    let p = addressed g.D.NumDomain.domain c.args.place.now (values c.args.fact.now) in
    let s = c.first-item.result in
    let cuts : Cuts s.0 s.1 c.args.from c.args.to c.max-low.result c.min-high.result = record {
      meets = sym c.are_apart.ensures ∙ c.if-are_apart.false;
      order = c.requires.order;
      before = c.max-low.ensures ∙ ap (λ (n : ℕ). max c.args.from n) c.get.ensures.number;
      behind = c.min-high.ensures ∙ ap (λ (n : ℕ). min c.args.to (n + 1)) c.get-in-len1-up.ensures.number;
    } in
    c.are_met_in_memory.ensures
    ∙ sym (both_head _ _ (sym c.are_met_in_memory.ensures ∙ c.if-are_met_in_memory.false))
    ∙ sym (code_on p s c.args.code.now c.args.spans.now c.args.from c.max-low.result c.min-high.result c.args.to c.in-len1-up.len_at_least c.first-item.is cuts)

pub are_in_memory-returns-in-empty : goal.are_in_memory-returns-in-empty
are_in_memory-returns-in-empty g t c =
    let d = g.D.NumDomain.domain in
    let p = addressed d c.args.place.now (values c.args.fact.now) in
    c.are_in_spans.ensures ∙ spans_alone p c.args.code.now c.args.spans.now (fits d Read) c.args.from c.args.to c.in-empty.len_below (λ r. refl)

pub are_met_in_memory-returns-then-from-to : goal.are_met_in_memory-returns-then-from-to
are_met_in_memory-returns-then-from-to g t c =
    let p = addressed g.D.NumDomain.domain c.args.place.now (values c.args.fact.now) in
    let same = c.if-from-to.true in
    sym (pass_over p (is_in_either c.args.code.now c.args.spans.now) c.args.from c.args.to (omega arith))

pub are_met_in_memory-returns-then-not-may_meet : goal.are_met_in_memory-returns-then-not-may_meet
are_met_in_memory-returns-then-not-may_meet g t c =
    let p = addressed g.D.NumDomain.domain c.args.place.now (values c.args.fact.now) in
    sym (pass_unmet p (is_in_either c.args.code.now c.args.spans.now) c.args.from c.args.to (sym c.may_meet.ensures ∙ c.if-not-may_meet.true))
