use Rattle.std.proofs.Common.{ℕ, ◌+◌, max, min, not, arith, ap, sym, ◌∙◌}
use Rattle.flag_relation.specs.Facts.{values}
use Rattle.abs_step.specs.Addresses.{passes_at}
use Rattle.abs_step.specs.Results.{addressed}
use Rattle.abs_step.specs.Walks.{fits}
use Rattle.abs_step.proofs.SpanWalks.{Cuts, and_last, and_middle, and_head, pass_over, pass_unmet, walk_apart, walk_on}
use Rattle.abs_step.proofs.addresses.+spans.Goals as goal

pub are_in_spans-returns-then-are_apart : goal.are_in_spans-returns-then-are_apart
are_in_spans-returns-then-are_apart g t c =
    let d = g.D.NumDomain.domain in
    let p = addressed d c.args.place.now (values c.args.fact.now) in
    let s = c.first-item.result in
    c.are_in_spans.ensures
    ∙ sym (walk_apart p s c.args.spans.now (fits d c.args.what.now) c.args.from c.args.to c.in-len1-up.len_at_least c.first-item.is (sym c.are_apart.ensures ∙ c.if-are_apart.true))

pub are_in_spans-returns-then-are_met_in_spans : goal.are_in_spans-returns-then-are_met_in_spans
are_in_spans-returns-then-are_met_in_spans g t c =
    let d = g.D.NumDomain.domain in
    let p = addressed d c.args.place.now (values c.args.fact.now) in
    let s = c.first-item.result in
    let cuts : Cuts s.0 s.1 c.args.from c.args.to c.max-low.result c.min-high.result = record {
      meets = sym c.are_apart.ensures ∙ c.if-are_apart.false;
      order = c.requires.order;
      before = c.max-low.ensures ∙ ap (λ (n : ℕ). max c.args.from n) c.get.ensures.number;
      behind = c.min-high.ensures ∙ ap (λ (n : ℕ). min c.args.to (n + 1)) c.get-in-len1-up.ensures.number;
    } in
    c.are_met_in_spans-then-are_met_in_spans.ensures
    ∙ sym (and_last _ _ _ (sym c.fails_in.ensures ∙ c.if-not-fails_in.true) (sym c.are_met_in_spans.ensures ∙ c.if-are_met_in_spans.true))
    ∙ sym (walk_on p s c.args.spans.now (fits d c.args.what.now) c.args.from c.max-low.result c.min-high.result c.args.to c.in-len1-up.len_at_least c.first-item.is cuts)

pub are_in_spans-returns-else-are_met_in_spans : goal.are_in_spans-returns-else-are_met_in_spans
are_in_spans-returns-else-are_met_in_spans g t c =
    let d = g.D.NumDomain.domain in
    let p = addressed d c.args.place.now (values c.args.fact.now) in
    let s = c.first-item.result in
    let cuts : Cuts s.0 s.1 c.args.from c.args.to c.max-low.result c.min-high.result = record {
      meets = sym c.are_apart.ensures ∙ c.if-are_apart.false;
      order = c.requires.order;
      before = c.max-low.ensures ∙ ap (λ (n : ℕ). max c.args.from n) c.get.ensures.number;
      behind = c.min-high.ensures ∙ ap (λ (n : ℕ). min c.args.to (n + 1)) c.get-in-len1-up.ensures.number;
    } in
    c.are_met_in_spans.ensures
    ∙ sym (and_middle _ _ _ (sym c.fails_in.ensures ∙ c.if-not-fails_in.true) (sym c.are_met_in_spans.ensures ∙ c.if-are_met_in_spans.false))
    ∙ sym (walk_on p s c.args.spans.now (fits d c.args.what.now) c.args.from c.max-low.result c.min-high.result c.args.to c.in-len1-up.len_at_least c.first-item.is cuts)

pub are_in_spans-returns-else-not-fails_in : goal.are_in_spans-returns-else-not-fails_in
are_in_spans-returns-else-not-fails_in g t c =
    let d = g.D.NumDomain.domain in
    let p = addressed d c.args.place.now (values c.args.fact.now) in
    let s = c.first-item.result in
    let cuts : Cuts s.0 s.1 c.args.from c.args.to c.max-low.result c.min-high.result = record {
      meets = sym c.are_apart.ensures ∙ c.if-are_apart.false;
      order = c.requires.order;
      before = c.max-low.ensures ∙ ap (λ (n : ℕ). max c.args.from n) c.get.ensures.number;
      behind = c.min-high.ensures ∙ ap (λ (n : ℕ). min c.args.to (n + 1)) c.get-in-len1-up.ensures.number;
    } in
    ap not c.fails_in.ensures
    ∙ sym (and_head _ _ (sym c.fails_in.ensures ∙ c.if-not-fails_in.false))
    ∙ sym (walk_on p s c.args.spans.now (fits d c.args.what.now) c.args.from c.max-low.result c.min-high.result c.args.to c.in-len1-up.len_at_least c.first-item.is cuts)

pub are_met_in_spans-returns-then-from-to : goal.are_met_in_spans-returns-then-from-to
are_met_in_spans-returns-then-from-to g t c =
    let d = g.D.NumDomain.domain in
    let p = addressed d c.args.place.now (values c.args.fact.now) in
    let same = c.if-from-to.true in
    sym (pass_over p (passes_at c.args.spans.now (fits d c.args.what.now)) c.args.from c.args.to (omega arith))

pub are_met_in_spans-returns-then-not-may_meet : goal.are_met_in_spans-returns-then-not-may_meet
are_met_in_spans-returns-then-not-may_meet g t c =
    let d = g.D.NumDomain.domain in
    let p = addressed d c.args.place.now (values c.args.fact.now) in
    sym (pass_unmet p (passes_at c.args.spans.now (fits d c.args.what.now)) c.args.from c.args.to (sym c.may_meet.ensures ∙ c.if-not-may_meet.true))
