-- From step to step, and from the last one to numbers.
use Rattle.std.proofs.Common.{◌≡◌, ℕ, ◌-◌, ◌<◌, ◌≤◌, inl, inr, false, List, [], ◌∷◌, ◌++◌, Some, None, length, get_or, set, sym, ap, subst, ◌∙◌, arith}
use Rattle.std.proofs.lemmas.List.{get_or_default, get_or-set_same}
use Rattle.std.proofs.lemmas.Bool.{both_ways}
use Rattle.strong_components.specs.declared.edge.Edge.{Edge}
use Rattle.strong_components.specs.declared.search.Mark.{Mark}
use Rattle.strong_components.specs.declared.search.Mark.TheVariants.{Unseen, Held, Done}
use Rattle.strong_components.specs.declared.search.Search.{Search}
use Rattle.strong_components.specs.Paths.{Path}
use Rattle.strong_components.specs.Search.{mark_of}
use Rattle.strong_components.specs.Steps.{Targets, Placed, KeptBy, Stepped, is_unseen, work, EndsBelow}
use Rattle.strong_components.specs.Numbers.{Fresh, Numbered, number_of}
use Rattle.strong_components.proofs.Paths.{Path-keeps}
use Rattle.strong_components.proofs.SearchSteps.{mark_cases}
use Rattle.strong_components.proofs.Meeting.{meet_unseen}

pub stepped_more : (edges : List Edge) (a b c : List Mark) (s t : Search) (most : ℕ)
    → Stepped edges a b s most → Stepped edges b c t (work b s.waiting.items s.trail.items - 1) → Stepped edges a c t most
stepped_more edges a b c s t most h g = record {
  kept = g.kept;
  placed = g.placed;
  seen = λ v e. g.seen v (h.seen v e);
  len = g.len ∙ h.len;
  less = omega (arith, h.less, g.less);
}

-- where a stage is left there is work
pub work_left : (edges : List Edge) (marks : List Mark) (s : Search) → KeptBy edges None marks s → 0 < length s.stages.items → 0 < work marks s.waiting.items s.trail.items
work_left edges marks s h some = omega (arith, h.stage_first 0 some)

pub ends_at : (edges : List Edge) (m n : ℕ) → m ≡ n → EndsBelow m edges → EndsBelow n edges
ends_at edges m n e h = subst (λ x. EndsBelow x edges) e h

-- no key was met yet
pub none_met : (edges : List Edge) (marks : List Mark) (s : Search) → Fresh marks
    → s.trail.items ≡ [] → s.waiting.items ≡ [] → s.stages.items ≡ [] → s.closed.items ≡ []
    → KeptBy edges None marks s × Placed marks s.closed.items
none_met edges marks s fresh t w g c =
    let nt : length s.trail.items ≡ 0 = ap length t in
    let nw : length s.waiting.items ≡ 0 = ap length w in
    let ng : length s.stages.items ≡ 0 = ap length g in
    let nc : length s.closed.items ≡ 0 = ap length c in (
      record {
        trail_held = λ i ti. absurd (omega arith);
        held_trail = λ v i e. absurd (let f = fresh v in cc);
        done_below = λ v n e. absurd (let f = fresh v in cc);
        done_leads = λ u v n l e. absurd (let f = fresh u in cc);
        done_same = λ u v n e f'. absurd (let f = fresh u in cc);
        chain = λ i j le tj. absurd (omega arith);
        joined = λ i j le tj un. absurd (omega arith);
        stage_first = λ k lk. absurd (omega arith);
        stage_waits = λ k lk. absurd (omega arith);
        firsts_ascend = λ k l lt ll. absurd (omega arith);
        waits_ascend = λ k l le ll. absurd (omega arith);
        bottom_first = λ some. absurd (omega arith);
        bottom_waits = λ some. absurd (omega arith);
        none_trail = λ e. nt;
        none_waits = λ e. nw;
        settled = λ k i v lk li ti l. absurd (omega arith);
        sourced = λ e le. absurd (omega arith);
      },
      record {
        done_placed = λ v n e. absurd (let f = fresh v in cc);
        placed_done = λ k lk. absurd (omega arith);
      },
    )

-- a key may be owed that isn't
owe : (edges : List Edge) (marks : List Mark) (s : Search) (w : ℕ) → KeptBy edges None marks s → KeptBy edges (Some w) marks s
owe edges marks s w h = record {
  trail_held = h.trail_held;
  held_trail = h.held_trail;
  done_below = h.done_below;
  done_leads = h.done_leads;
  done_same = h.done_same;
  chain = h.chain;
  joined = h.joined;
  stage_first = h.stage_first;
  stage_waits = h.stage_waits;
  firsts_ascend = h.firsts_ascend;
  waits_ascend = h.waits_ascend;
  bottom_first = h.bottom_first;
  bottom_waits = h.bottom_waits;
  none_trail = h.none_trail;
  none_waits = h.none_waits;
  settled = λ k i v lk li ti l. elim (h.settled k i v lk li ti l) [
    | inl d ↦ inl d
    | inr r ↦ elim r [ inl t ↦ inr (inl t) | inr q ↦ elim q [ inl e ↦ inr (inr (inl e)) | inr o ↦ absurd (cc) ] ]
  ];
  sourced = h.sourced;
}

-- a key that was not seen begins a search
pub begun : (edges : List Edge) (marks after : List Mark) (s t : Search) (w : ℕ)
    → KeptBy edges None marks s → length s.stages.items ≡ 0 → Placed marks s.closed.items
    → w < length marks → mark_of marks w ≡ Unseen
    → after ≡ set marks w (Held (length s.trail.items))
    → t.trail.items ≡ s.trail.items ++ w ∷ []
    → (xs : List ℕ) → t.waiting.items ≡ s.waiting.items ++ xs → Targets edges w xs
    → t.stages.items ≡ s.stages.items ++ record { first = length s.trail.items; waits = length s.waiting.items } ∷ []
    → t.closed.items ≡ s.closed.items
    → Stepped edges marks after t (work marks s.waiting.items s.trail.items) × (is_unseen (mark_of after w) ≡ false)
begun edges marks after s t w h none placed within fresh is-after is-trail xs is-waiting targets is-stages is-closed = (
  meet_unseen edges marks after s t w (owe edges marks s w h) (λ i ti. absurd (omega (arith, h.none_trail none))) placed within fresh is-after is-trail xs is-waiting targets is-stages is-closed,
  ap is_unseen (subst (λ x. mark_of x w ≡ Held (length s.trail.items)) (sym is-after) (get_or-set_same marks w (Held (length s.trail.items)) Unseen within)),
)

-- what was seen is done, where no stage is left
seen_done : (edges : List Edge) (marks : List Mark) (s : Search) → KeptBy edges None marks s → length s.stages.items ≡ 0
    → (v : ℕ) → is_unseen (mark_of marks v) ≡ false → mark_of marks v ≡ Done (number_of (mark_of marks v))
seen_done edges marks s h none v seen = elim (mark_cases (mark_of marks v)) [
  | inl u ↦ absurd (both_ways (is_unseen (mark_of marks v)) seen (ap is_unseen u))
  | inr r ↦ elim r [
    | inl (i, u) ↦ absurd (omega (arith, h.none_trail none, (h.held_trail v i u).0))
    | inr (c, u) ↦ u ∙ ap Done (sym (ap number_of u))
  ]
]

pub none_held : (edges : List Edge) (marks : List Mark) (s : Search) → KeptBy edges None marks s → length s.stages.items ≡ 0
    → (v i : ℕ) → mark_of marks v ≡ Held i → ⊥
none_held edges marks s h none v i e = omega (arith, h.none_trail none, (h.held_trail v i e).0)

-- the number falls along a path
falls_along : (edges : List Edge) (marks : List Mark) (s : Search) → KeptBy edges None marks s
    → (u v c : ℕ) → Path edges u v → mark_of marks u ≡ Done c → (d : ℕ) × (mark_of marks v ≡ Done d) × (d ≤ c)
falls_along edges marks s h u v c p e =
    Path-keeps (λ x. (d : ℕ) × (mark_of marks x ≡ Done d) × (d ≤ c))
    (λ x y l m. let n = h.done_leads x y m.0 l m.1 in (n.0, n.1, omega (arith, n.2, m.2)))
    p (c, e, omega arith)

pub all_numbered : (edges : List Edge) (keys : List ℕ) (marks : List Mark) (s : Search) → KeptBy edges None marks s → length s.stages.items ≡ 0
    → ((k : ℕ) → k < length keys → is_unseen (mark_of marks (get_or keys k 0)) ≡ false)
    → Numbered edges keys marks (length s.closed.items)
all_numbered edges keys marks s h none seen =
    let falls : (u v c d : ℕ) → mark_of marks u ≡ Done c → mark_of marks v ≡ Done d → Path edges u v → d ≤ c =
    λ u v c d a b p. let n = falls_along edges marks s h u v c p a in let same : d ≡ n.0 = cc in omega (arith, n.2) in
    record {
      each = λ k d lk. let same : get_or keys k d ≡ get_or keys k 0 = get_or_default keys k d 0 lk in
          subst (λ v. mark_of marks v ≡ Done (number_of (mark_of marks v))) (sym same) (seen_done edges marks s h none (get_or keys k 0) (seen k lk));
      below = h.done_below;
      same = λ u v c d a b. (
        (λ e. (h.done_same u v c a (b ∙ ap Done (sym e)), h.done_same v u c (b ∙ ap Done (sym e)) a)),
        (λ m. let x = falls u v c d a b m.0 in let y = falls v u d c b a m.1 in omega arith),
      );
      falls = falls;
    }
