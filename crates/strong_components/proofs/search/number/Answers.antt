-- Each key is searched from; what was seen is done in the end.
use Rattle.std.proofs.Common.{◌≡◌, length, get_or, false, arith, refl, sym, ap, subst, ◌∙◌, inl, inr}
use Rattle.std.proofs.lemmas.Bool.{cases_lt}
use Rattle.strong_components.specs.Search.{mark_of}
use Rattle.strong_components.specs.Steps.{is_unseen}
use Rattle.strong_components.specs.Numbers.{Numbered}
use Rattle.strong_components.proofs.Finishing.{none_met, all_numbered, none_held}
use Rattle.strong_components.proofs.search.number.Goals as goal

pub loop-key-init : goal.loop-key-init
loop-key-init c =
    let e = c.new-search.ensures in
    let n = none_met c.args.edges.now c.args.marks.now c.new-search.result c.requires.fresh e.trail e.waiting e.stages e.closed in
    record {
      idle = record { kept = n.0; placed = n.1; idle = ap length e.stages };
      len = refl;
      seen = λ k lk. absurd (omega arith);
    }

pub loop-key-preserved : goal.loop-key-preserved
loop-key-preserved c =
    let v = c.in_ok-visit.ensures in
    record {
      idle = v.idle;
      len = v.len ∙ c.loop-key.invariant.len;
      seen = λ k lk. elim (cases_lt k c.loop-key.key-index) [
        | inl lt ↦ v.seen (get_or c.args.keys.now k 0) (c.loop-key.invariant.seen k lt)
        | inr ge ↦ let is : c.loop-key.key-index ≡ k = omega arith in
            subst (λ n. is_unseen (mark_of c.visit.new.marks (get_or c.args.keys.now n 0)) ≡ false) is v.key_seen
      ];
    }

pub returns-clause-numbered : goal.returns-clause-numbered
returns-clause-numbered c =
    subst (λ n. Numbered c.args.edges.now c.args.keys.now c.loop-key.marks n) (sym c.loop-key.search.closed.ok.0)
    (all_numbered c.args.edges.now c.args.keys.now c.loop-key.marks c.loop-key.search c.loop-key.invariant.idle.kept c.loop-key.invariant.idle.idle
    (λ k lk. c.loop-key.invariant.seen k (omega arith)))

pub returns-clause-none_held : goal.returns-clause-none_held
returns-clause-none_held c = none_held c.args.edges.now c.loop-key.marks c.loop-key.search c.loop-key.invariant.idle.kept c.loop-key.invariant.idle.idle
