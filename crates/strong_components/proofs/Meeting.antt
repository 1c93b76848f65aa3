-- A whole step of the search, from the steps on its lists.
use Rattle.std.proofs.Common.{◌≡◌, ℕ, ◌+◌, ◌-◌, ◌^◌, ◌<◌, ◌≤◌, inl, inr, true, cond, List, [], ◌∷◌, ◌++◌, Option, Some, None, length, get_or, set, take, drop, refl, sym, ap, subst, ◌∙◌, arith, zero, suc}
use Rattle.std.specs.List.{count_by}
use Rattle.std.proofs.lemmas.List.{length_push, get_or_append_left, get_or-append-add, get_or-drop, length-append, length-drop, length-set, length-take, take_all, take-take, take_more, get_or-take, get_or_read, get_or-set_other, get_or-set_same}
use Rattle.std.proofs.lemmas.List.Sums.{sum_by-set, sum_by-cons}
use Rattle.std.proofs.lemmas.Bool.{cases_eq, cases_lt, false_from_ne_true, both_ways}
use Rattle.strong_components.specs.declared.edge.Edge.{Edge}
use Rattle.strong_components.specs.declared.search.Mark.{Mark}
use Rattle.strong_components.specs.declared.search.Mark.TheVariants.{Unseen, Held, Done}
use Rattle.strong_components.specs.declared.search.Stage.{Stage}
use Rattle.strong_components.specs.declared.search.Search.{Search}
use Rattle.strong_components.specs.Search.{mark_of, first_of, waits_of, Reached, Kept}
use Rattle.strong_components.specs.Steps.{Targets, Placed, StaySeen, KeptBy, Stepped, is_unseen, work}
use Rattle.strong_components.proofs.SearchSteps.{popped, popped_reached, opened, paid, merge, closed, closed_forth, closed_back, mark_cases, stage_last}

kept_at : (edges : List Edge) (owed : Option ℕ) {marks marks' : List Mark} {trail trail' waiting waiting' : List ℕ} {stages stages' : List Stage} {count count' : ℕ}
    → marks ≡ marks' → trail ≡ trail' → waiting ≡ waiting' → stages ≡ stages' → count ≡ count'
    → Kept edges owed marks trail waiting stages count → Kept edges owed marks' trail' waiting' stages' count'
kept_at edges owed {marks = marks} {marks' = marks'} {trail = trail} {trail' = trail'} {waiting = waiting} {waiting' = waiting'} {stages = stages} {stages' = stages'} {count = count} a b c d e h =
    subst (λ x. Kept edges owed marks' trail' waiting' stages' x) e
    (subst (λ x. Kept edges owed marks' trail' waiting' x count) d
    (subst (λ x. Kept edges owed marks' trail' x stages count) c
    (subst (λ x. Kept edges owed marks' x waiting stages count) b
    (subst (λ x. Kept edges owed x trail waiting stages count) a h))))

unseen_true : (m : Mark) → is_unseen m ≡ true → m ≡ Unseen
unseen_true Unseen e = refl
unseen_true (Held i) e = absurd (cc)
unseen_true (Done c) e = absurd (cc)

stay_seen : (before after : List Mark) → ((v : ℕ) → mark_of after v ≡ Unseen → mark_of before v ≡ Unseen) → StaySeen before after
stay_seen before after h v e = false_from_ne_true (is_unseen (mark_of after v)) (λ t. both_ways (is_unseen (mark_of before v)) e (ap is_unseen (h v (unseen_true (mark_of after v) t))))

-- 1 for a key that was not seen
abbrev weight : Mark → ℕ
weight m = cond (is_unseen m) 1 0

count_le : (xs ys : List Mark) → length xs ≡ length ys → ((k : ℕ) → mark_of ys k ≡ Unseen → mark_of xs k ≡ Unseen) → count_by is_unseen ys ≤ count_by is_unseen xs
count_le [] [] e h = omega arith
count_le [] (y ∷ ys) e h = absurd (omega arith)
count_le (x ∷ xs) [] e h = absurd (omega arith)
count_le (x ∷ xs) (y ∷ ys) e h =
    let more = count_le xs ys (omega arith) (λ k. h (suc k)) in
    let here : weight y ≤ weight x = elim (mark_cases y) [
      | inl u ↦
          let one : weight y ≡ 1 = ap weight u in
          let two : weight x ≡ 1 = ap weight (h 0 u) in
          omega arith
      | inr r ↦
          let none : weight y ≡ 0 = elim r [ inl (i, u) ↦ ap weight u | inr (c, u) ↦ ap weight u ] in
          omega arith
    ] in
    omega (arith, sum_by-cons weight x xs, sum_by-cons weight y ys)

count_opened : (marks : List Mark) (w i : ℕ) → w < length marks → mark_of marks w ≡ Unseen → count_by is_unseen (set marks w (Held i)) + 1 ≡ count_by is_unseen marks
count_opened marks w i within fresh =
    let s = sum_by-set weight marks w (Held i) Unseen within in
    let one : weight (get_or marks w Unseen) ≡ 1 = ap weight fresh in
    omega arith

-- a list of keys that are done, as keys are marked that weren't
placed_kept : (before after : List Mark) (closed : List ℕ)
    → ((v c : ℕ) → mark_of before v ≡ Done c → mark_of after v ≡ Done c) → ((v c : ℕ) → mark_of after v ≡ Done c → mark_of before v ≡ Done c)
    → Placed before closed → Placed after closed
placed_kept before after closed forth back h = record {
  done_placed = λ v c e. h.done_placed v c (back v c e);
  placed_done = λ k lk. let p = h.placed_done k lk in (p.0, p.1, forth (get_or closed k 0) p.0 p.2);
}

-- a key that was not seen begins a stage
pub meet_unseen : (edges : List Edge) (marks after : List Mark) (s t : Search) (w : ℕ)
    → KeptBy edges (Some w) marks s → Reached edges s.trail.items w → Placed marks s.closed.items
    → w < length marks → mark_of marks w ≡ Unseen
    → after ≡ set marks w (Held (length s.trail.items))
    → t.trail.items ≡ s.trail.items ++ w ∷ []
    → (xs : List ℕ) → t.waiting.items ≡ s.waiting.items ++ xs → Targets edges w xs
    → t.stages.items ≡ s.stages.items ++ record { first = length s.trail.items; waits = length s.waiting.items } ∷ []
    → t.closed.items ≡ s.closed.items
    → Stepped edges marks after t (work marks s.waiting.items s.trail.items)
meet_unseen edges marks after s t w h reached placed within fresh is-after is-trail xs is-waiting targets is-stages is-closed =
    let other : (v : ℕ) (m : Mark) → (m ≡ Unseen → ⊥) → mark_of marks v ≡ m → mark_of after v ≡ m =
    λ v m seen e. subst (λ x. mark_of x v ≡ m) (sym is-after)
    (get_or-set_other marks w v (Held (length s.trail.items)) Unseen (λ at. seen (sym e ∙ subst (λ x. mark_of marks x ≡ Unseen) (sym at) fresh)) ∙ e) in
    let back : (v : ℕ) → (v ≡ w → ⊥) → mark_of after v ≡ mark_of marks v =
    λ v ne. subst (λ x. mark_of x v ≡ mark_of marks v) (sym is-after) (get_or-set_other marks w v (Held (length s.trail.items)) Unseen ne) in
    let at-w : mark_of after w ≡ Held (length s.trail.items) =
    subst (λ x. mark_of x w ≡ Held (length s.trail.items)) (sym is-after) (get_or-set_same marks w (Held (length s.trail.items)) Unseen within) in
    let away : (v : ℕ) (m : Mark) → (m ≡ Held (length s.trail.items) → ⊥) → mark_of after v ≡ m → mark_of marks v ≡ m =
    λ v m ne e. elim (cases_eq v w) [
      | inl at ↦ absurd (ne (sym e ∙ subst (λ x. mark_of after x ≡ Held (length s.trail.items)) (sym at) at-w))
      | inr off ↦ sym (back v off) ∙ e
    ] in
    record {
      kept = kept_at edges None (sym is-after) (sym is-trail) (sym is-waiting) (sym is-stages) (ap length (sym is-closed))
          (opened edges (Some w) marks s.trail.items s.waiting.items s.stages.items (length s.closed.items) h w within fresh reached (λ v e. cc) xs targets.each targets.only);
      placed = subst (λ x. Placed after x) (sym is-closed)
          (placed_kept marks after s.closed.items (λ v c e. other v (Done c) (λ bad. cc) e) (λ v c e. away v (Done c) (λ bad. cc) e) placed);
      seen = stay_seen marks after (λ v e. away v Unseen (λ bad. cc) e);
      len = ap length is-after ∙ length-set marks w (Held (length s.trail.items));
      less =
          let n : count_by is_unseen after + 1 ≡ count_by is_unseen marks = subst (λ x. count_by is_unseen x + 1 ≡ count_by is_unseen marks) (sym is-after) (count_opened marks w (length s.trail.items) within fresh) in
          let short : length t.waiting.items < 2 ^ 63 = omega (arith, t.waiting.ok, t.waiting.small) in
          let one : length t.trail.items ≡ length s.trail.items + 1 = ap length is-trail ∙ length_push s.trail.items w in
          omega arith;
    }

-- a key of the trail joins the stages behind it
merge_to : (edges : List Edge) (marks : List Mark) (trail waiting : List ℕ) (count w p : ℕ) → Reached edges trail w → mark_of marks w ≡ Held p
    → (d : ℕ) (stages : List Stage) (n : ℕ) → length stages ≡ n + d → ((k : ℕ) → n ≤ k → k < length stages → p < first_of stages k)
    → Kept edges (Some w) marks trail waiting stages count → Kept edges (Some w) marks trail waiting (take n stages) count
merge_to edges marks trail waiting count w p reached held zero stages n len behind h =
    kept_at edges (Some w) refl refl refl (sym (take_all n stages (omega arith))) refl h
merge_to edges marks trail waiting count w p reached held (suc d) stages n len behind h =
    let m : ℕ = n + d in
    let dq : Stage = record { first = 0; waits = 0 } in
    let q : Stage = get_or stages m dq in
    let split : stages ≡ take m stages ++ q ∷ [] = sym (take_all (m + 1) stages (omega arith)) ∙ take_more stages m dq (omega arith) in
    let short : length (take m stages) ≡ m = omega (arith, length-take m stages) in
    let one = merge edges marks trail waiting (take m stages) q count w p (kept_at edges (Some w) refl refl refl split refl h) reached held (behind m (omega arith) (omega arith)) in
    kept_at edges (Some w) refl refl refl (take-take n m stages (omega arith)) refl
    (merge_to edges marks trail waiting count w p reached held d (take m stages) n short
    (λ k le lk. subst (λ x. p < x) (ap (λ (x : Stage). x.first) (sym (get_or-take m stages k dq (omega arith)))) (behind k le (omega arith))) one)

pub meet_held : (edges : List Edge) (marks : List Mark) (s t : Search) (w p n : ℕ)
    → KeptBy edges (Some w) marks s → Reached edges s.trail.items w → Placed marks s.closed.items
    → mark_of marks w ≡ Held p
    → t.stages.items ≡ take n s.stages.items → n ≤ length s.stages.items
    → ((k : ℕ) → n ≤ k → k < length s.stages.items → p < first_of s.stages.items k)
    → ((k : ℕ) → k + 1 ≡ n → first_of s.stages.items k ≤ p)
    → t.trail.items ≡ s.trail.items → t.waiting.items ≡ s.waiting.items → t.closed.items ≡ s.closed.items
    → Stepped edges marks marks t (work marks s.waiting.items s.trail.items)
meet_held edges marks s t w p n h reached placed held is-stages le behind last is-trail is-waiting is-closed =
    let dq : Stage = record { first = 0; waits = 0 } in
    let merged = merge_to edges marks s.trail.items s.waiting.items (length s.closed.items) w p reached held (length s.stages.items - n) s.stages.items n (omega arith) behind h in
    let short : length (take n s.stages.items) ≡ n = omega (arith, length-take n s.stages.items) in
    let low : (k : ℕ) → k < n → first_of s.stages.items k ≤ p = λ k lk. elim (cases_eq (k + 1) n) as (λ _. first_of s.stages.items k ≤ p) [
      | inl e ↦ last k e
      | inr ne ↦ omega (arith, h.firsts_ascend k (n - 1) (omega arith) (omega arith), last (n - 1) (omega arith))
    ] in
    record {
      kept = kept_at edges None refl (sym is-trail) (sym is-waiting) (sym is-stages) (ap length (sym is-closed))
          (paid edges marks s.trail.items s.waiting.items (take n s.stages.items) (length s.closed.items) w merged
          (λ k lk. inr (inl (p, subst (λ x. x ≤ p) (ap (λ (x : Stage). x.first) (sym (get_or-take n s.stages.items k dq (omega arith)))) (low k (omega arith)), held))));
      placed = subst (λ x. Placed marks x) (sym is-closed) placed;
      seen = λ v e. e;
      len = refl;
      less = omega (arith, ap length is-trail, ap length is-waiting);
    }

pub meet_done : (edges : List Edge) (marks : List Mark) (s : Search) (w c : ℕ)
    → KeptBy edges (Some w) marks s → Placed marks s.closed.items → mark_of marks w ≡ Done c
    → Stepped edges marks marks s (work marks s.waiting.items s.trail.items)
meet_done edges marks s w c h placed done = record {
  kept = paid edges marks s.trail.items s.waiting.items s.stages.items (length s.closed.items) w h (λ k lk. inl (c, done));
  placed = placed;
  seen = λ v e. e;
  len = refl;
  less = omega arith;
}

-- the last stage is done
pub step_closed : (edges : List Edge) (marks after : List Mark) (s t : Search) (ps : List Stage) (q : Stage)
    → KeptBy edges None marks s → Placed marks s.closed.items
    → s.stages.items ≡ ps ++ q ∷ [] → length s.waiting.items ≤ q.waits → length after ≡ length marks
    → ((i : ℕ) → q.first ≤ i → i < length s.trail.items → mark_of after (get_or s.trail.items i 0) ≡ Done (length s.closed.items))
    → ((v : ℕ) → ((i : ℕ) → q.first ≤ i → i < length s.trail.items → get_or s.trail.items i 0 ≡ v → ⊥) → mark_of after v ≡ mark_of marks v)
    → t.trail.items ≡ take q.first s.trail.items → t.closed.items ≡ s.closed.items ++ drop q.first s.trail.items
    → t.waiting.items ≡ s.waiting.items → t.stages.items ≡ ps
    → Stepped edges marks after t (work marks s.waiting.items s.trail.items - 1)
step_closed edges marks after s t ps q h placed is spent len new rest is-trail is-closed is-waiting is-stages =
    let trail : List ℕ = s.trail.items in
    let list : List ℕ = s.closed.items in
    let first : ℕ = q.first in
    let g : Kept edges None marks trail s.waiting.items (ps ++ q ∷ []) (length list) = kept_at edges None refl refl refl is refl h in
    let below : first < length trail = omega (arith, g.stage_first (length ps) (omega (arith, length_push ps q)), (stage_last ps q).0) in
    let tail : length (drop first trail) ≡ length trail - first = length-drop first trail in
    let more : length (list ++ drop first trail) ≡ length list + (length trail - first) = omega (arith, length-append list (drop first trail)) in
    let forth = closed_forth edges marks trail s.waiting.items ps q (length list) g spent after new rest (length (list ++ drop first trail)) (omega arith) in
    let back = closed_back edges marks trail s.waiting.items ps q (length list) g spent after new rest (length (list ++ drop first trail)) (omega arith) in
    let unseen : (v : ℕ) → mark_of after v ≡ Unseen → mark_of marks v ≡ Unseen =
    λ v e. elim (back v Unseen e) [ inl (a, _) ↦ a | inr (_, _, _, _, bad) ↦ absurd (cc) ] in
    let at : (i : ℕ) → first ≤ i → get_or (list ++ drop first trail) (length list + (i - first)) 0 ≡ get_or trail i 0 =
    λ i ge. let n : first + (i - first) ≡ i = omega arith in
    get_or-append-add list (drop first trail) (i - first) 0 ∙ get_or-drop first trail (i - first) 0 ∙ ap (λ k. get_or trail k 0) n in
    record {
      kept = kept_at edges None refl (sym is-trail) (sym is-waiting) (sym is-stages) (ap length (sym is-closed))
          (closed edges marks trail s.waiting.items ps q (length list) g spent after new rest (length (list ++ drop first trail)) (omega arith));
      placed = subst (λ x. Placed after x) (sym is-closed) (record {
        done_placed = λ v c e. elim (back v (Done c) e) [
          | inl (a, _) ↦ let p = placed.done_placed v c a in (p.0, p.1, omega (arith, p.2), get_or_append_left list (drop first trail) 0 p.0 p.2 ∙ p.3)
          | inr (i, ge, ti, is', eq) ↦ let same : c ≡ length list = cc in
              (length list + (i - first), omega arith, omega arith, at i ge ∙ is')
        ];
        placed_done = λ k lk. elim (cases_lt k (length list)) [
          | inl lt ↦ let p = placed.placed_done k lt in
              (p.0, p.1, subst (λ x. mark_of after x ≡ Done p.0) (sym (get_or_append_left list (drop first trail) 0 k lt)) (forth (get_or list k 0) (Done p.0) p.2 (λ i bad. absurd (cc))))
          | inr ge ↦
              let i : ℕ = first + (k - length list) in
              let same : length list + (i - first) ≡ k = omega arith in
              (length list, ge, subst (λ x. mark_of after x ≡ Done (length list)) (sym (sym (ap (λ n. get_or (list ++ drop first trail) n 0) same) ∙ at i (omega arith))) (new i (omega arith) (omega arith)))
        ];
      });
      seen = stay_seen marks after unseen;
      len = len;
      less = omega (arith, count_le marks after (sym len) unseen, ap length is-waiting, ap length is-trail, length-take first trail);
    }

-- the last stage, as it was read
pub stage_read : (stages : List Stage) (n : ℕ) (q : Stage) → n ≡ length stages → 0 < n → q ≡ get_or stages (n - 1) q
    → (first_of stages (length stages - 1) ≡ q.first) × (waits_of stages (length stages - 1) ≡ q.waits) × (stages ≡ take (length stages - 1) stages ++ q ∷ [])
stage_read stages n q is some e =
    let k : ℕ = length stages - 1 in
    let dq : Stage = record { first = 0; waits = 0 } in
    let at : n - 1 ≡ k = omega arith in
    let read : q ≡ get_or stages k dq = get_or_read stages k q (omega arith) (subst (λ x. q ≡ get_or stages x q) at e) dq in (
      ap (λ (x : Stage). x.first) (sym read),
      ap (λ (x : Stage). x.waits) (sym read),
      sym (take_all (k + 1) stages (omega arith)) ∙ take_more stages k dq (omega arith) ∙ ap (λ x. take k stages ++ x ∷ []) (sym read),
    )

pub step_popped : (edges : List Edge) (marks : List Mark) (s : Search) (ws : List ℕ) (w n : ℕ) (q : Stage)
    → KeptBy edges None marks s → s.waiting.items ≡ ws ++ w ∷ [] → n ≡ length s.stages.items → 0 < n → q ≡ get_or s.stages.items (n - 1) q
    → q.waits < length s.waiting.items
    → Kept edges (Some w) marks s.trail.items ws s.stages.items (length s.closed.items) × Reached edges s.trail.items w
step_popped edges marks s ws w n q h split is some e low =
    let g = kept_at edges None refl refl split refl refl h in
    let r = stage_read s.stages.items n q is some e in
    let low' : waits_of s.stages.items (length s.stages.items - 1) ≤ length ws = omega (arith, r.1, length_push ws w, ap length split) in (
      popped edges marks s.trail.items ws w s.stages.items (length s.closed.items) g (omega arith) low',
      popped_reached edges marks s.trail.items ws w s.stages.items (length s.closed.items) g (omega arith) low',
    )

pub placed_same : (marks : List Mark) (xs ys : List ℕ) → xs ≡ ys → Placed marks xs → Placed marks ys
placed_same marks xs ys e h = subst (λ x. Placed marks x) e h
