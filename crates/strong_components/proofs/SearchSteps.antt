-- Each step of the search keeps its state.
use Rattle.std.proofs.Common.{◌≡◌, ℕ, ◌+◌, ◌-◌, ◌<◌, ◌≤◌, ◌⊎◌, inl, inr, List, [], ◌∷◌, ◌++◌, Option, Some, None, length, get_or, set, take, refl, sym, ap, subst, ◌∙◌, arith}
use Rattle.std.proofs.lemmas.List.{length_push, get_or_push, get_or_append_left, get_or-append_right, get_or-set_same, get_or-set_other, length-append, get_or-append-add, length-take, get_or-take}
use Rattle.std.proofs.lemmas.Bool.{cases_eq, cases_lt}
use Rattle.strong_components.specs.declared.edge.Edge.{Edge}
use Rattle.strong_components.specs.declared.search.Mark.{Mark}
use Rattle.strong_components.specs.declared.search.Mark.TheVariants.{Unseen, Held, Done}
use Rattle.strong_components.specs.declared.search.Stage.{Stage}
use Rattle.strong_components.specs.Paths.{Leads, Path, here}
use Rattle.strong_components.specs.Search.{mark_of, first_of, waits_of, Unparted, Settled, Sourced, Reached, Kept}
use Rattle.strong_components.proofs.Paths.{Path-join, Path-then}

-- two places of one stage reach each other
same_stage : {edges : List Edge} {owed : Option ℕ} {marks : List Mark} {trail waiting : List ℕ} {stages : List Stage} {count : ℕ}
    → Kept edges owed marks trail waiting stages count → (i j : ℕ) → i < length trail → j < length trail
    → Unparted stages i j → Unparted stages j i → Path edges (get_or trail i 0) (get_or trail j 0)
same_stage h i j ti tj a b = elim (cases_lt i j) [ inl lt ↦ h.chain i j (omega arith) tj | inr ge ↦ h.joined j i ge ti b ]

-- every key of the trail reaches what a key of the last stage leads to
reached_from : {edges : List Edge} {owed : Option ℕ} {marks : List Mark} {trail waiting : List ℕ} {stages : List Stage} {count : ℕ}
    → Kept edges owed marks trail waiting stages count → 0 < length stages
    → (x w : ℕ) → x < length trail → first_of stages (length stages - 1) ≤ x → Leads edges (get_or trail x 0) w → Reached edges trail w
reached_from {stages = stages} h some x w tx low l i ti =
    Path-then
    (elim (cases_lt i x) [
      | inl lt ↦ h.chain i x (omega arith) tx
      | inr ge ↦ h.joined x i ge ti (λ k lk. inl (
          elim (cases_eq k (length stages - 1)) as (λ _. first_of stages k ≤ x) [
            | inl e ↦ subst (λ n. first_of stages n ≤ x) (sym e) low
            | inr ne ↦ omega (arith, h.firsts_ascend k (length stages - 1) (omega arith) (omega arith))
          ]))
    ])
    l

-- the last waiting key is taken
module _ (edges : List Edge) (marks : List Mark) (trail : List ℕ) (ws : List ℕ) (w : ℕ) (stages : List Stage) (count : ℕ)
    (h : Kept edges None marks trail (ws ++ w ∷ []) stages count) (some : 0 < length stages) (low : waits_of stages (length stages - 1) ≤ length ws) where
  waits_low : (k : ℕ) → k < length stages → waits_of stages k ≤ length ws
  waits_low k lk = omega (arith, h.waits_ascend k (length stages - 1) (omega arith) (omega arith))

  pub popped : Kept edges (Some w) marks trail ws stages count
  popped = record {
    trail_held = h.trail_held;
    held_trail = h.held_trail;
    done_below = h.done_below;
    done_leads = h.done_leads;
    done_same = h.done_same;
    chain = h.chain;
    joined = h.joined;
    stage_first = h.stage_first;
    stage_waits = waits_low;
    firsts_ascend = h.firsts_ascend;
    waits_ascend = h.waits_ascend;
    bottom_first = h.bottom_first;
    bottom_waits = h.bottom_waits;
    none_trail = h.none_trail;
    none_waits = λ none. absurd (omega arith);
    settled = λ k i v lk li ti l. elim (h.settled k i v lk li ti l) [
      | inl d ↦ inl d
      | inr r ↦ elim r [
        | inl t ↦ inr (inl t)
        | inr s ↦ elim s [
          | inl (e, le, lt, is) ↦ elim (cases_lt e (length ws)) [
            | inl below ↦ inr (inr (inl (e, le, below, sym (get_or_append_left ws (w ∷ []) 0 e below) ∙ is)))
            | inr above ↦ let at : e ≡ length ws = omega (arith, length_push ws w) in inr (inr (inr (ap Some (sym (get_or_push ws w 0 e (sym at)) ∙ is))))
          ]
          | inr none ↦ cc
        ]
      ]
    ];
    sourced = λ e le. let s = h.sourced e (omega (arith, length_push ws w)) in rw (get_or_append_left ws (w ∷ []) 0 e le) at s;
  }

  pub popped_reached : Reached edges trail w
  popped_reached =
      let s = h.sourced (length ws) (omega (arith, length_push ws w)) in
      let l : Leads edges (get_or trail s.0 0) w = rw (get_or_push ws w 0 (length ws) refl) at s.2 in
      reached_from h some s.0 w s.1 ((s.3 (length stages - 1) (omega arith)).0 low) l

path_at : {edges : List Edge} {u v u' v' : ℕ} → u ≡ u' → v ≡ v' → Path edges u v → Path edges u' v'
path_at {edges = edges} {u = u} {v' = v'} a b p = subst (λ x. Path edges x v') a (subst (λ y. Path edges u y) b p)

leads_at : (edges : List Edge) {u v u' v' : ℕ} → u ≡ u' → v ≡ v' → Leads edges u v → Leads edges u' v'
leads_at edges {u = u} {v' = v'} a b p = subst (λ x. Leads edges x v') a (subst (λ y. Leads edges u y) b p)

-- a place of a list with one more element
pub push_cases : {X : Type 0} (xs : List X) (y d : X) (i : ℕ) → i < length (xs ++ y ∷ [])
    → ((i < length xs) × (get_or (xs ++ y ∷ []) i d ≡ get_or xs i d)) ⊎ ((i ≡ length xs) × (get_or (xs ++ y ∷ []) i d ≡ y))
push_cases xs y d i li = elim (cases_lt i (length xs)) [
  | inl lt ↦ inl (lt, get_or_append_left xs (y ∷ []) d i lt)
  | inr ge ↦ let at : i ≡ length xs = omega (arith, length_push xs y) in inr (at, get_or_push xs y d i (sym at))
]

-- a stage of a list with one more
stage_cases : (stages : List Stage) (q : Stage) (k : ℕ) → k < length (stages ++ q ∷ [])
    → ((k < length stages) × (first_of (stages ++ q ∷ []) k ≡ first_of stages k) × (waits_of (stages ++ q ∷ []) k ≡ waits_of stages k))
    ⊎ ((k ≡ length stages) × (first_of (stages ++ q ∷ []) k ≡ q.first) × (waits_of (stages ++ q ∷ []) k ≡ q.waits))
stage_cases stages q k lk = elim (push_cases stages q (record { first = 0; waits = 0 }) k lk) [
  | inl (lt, e) ↦ inl (lt, ap (λ (s : Stage). s.first) e, ap (λ (s : Stage). s.waits) e)
  | inr (at, e) ↦ inr (at, ap (λ (s : Stage). s.first) e, ap (λ (s : Stage). s.waits) e)
]

-- a new key begins a stage
module _ (edges : List Edge) (owed : Option ℕ) (marks : List Mark) (trail : List ℕ) (ws : List ℕ) (stages : List Stage) (count : ℕ)
    (h : Kept edges owed marks trail ws stages count)
    (w : ℕ) (within : w < length marks) (fresh : mark_of marks w ≡ Unseen) (reached : Reached edges trail w)
    (only : (v : ℕ) → owed ≡ Some v → v ≡ w)
    (xs : List ℕ) (out : (v : ℕ) → Leads edges w v → (e : ℕ) × (e < length xs) × (get_or xs e 0 ≡ v))
    (from : (e : ℕ) → e < length xs → Leads edges w (get_or xs e 0)) where
  abbrev opened_marks : List Mark
  opened_marks = set marks w (Held (length trail))

  abbrev opened_stage : Stage
  opened_stage = record { first = length trail; waits = length ws }

  opened_back : (v : ℕ) (m : Mark) → mark_of opened_marks v ≡ m → (mark_of marks v ≡ m) ⊎ ((v ≡ w) × (m ≡ Held (length trail)))
  opened_back v m e = elim (cases_eq v w) [
    | inl at ↦ inr (at, sym e ∙ subst (λ x. mark_of opened_marks x ≡ Held (length trail)) (sym at) (get_or-set_same marks w (Held (length trail)) Unseen within))
    | inr ne ↦ inl (sym (get_or-set_other marks w v (Held (length trail)) Unseen ne) ∙ e)
  ]

  opened_forth : (v : ℕ) (m : Mark) → mark_of marks v ≡ m → (m ≡ Unseen → ⊥) → mark_of opened_marks v ≡ m
  opened_forth v m e seen = get_or-set_other marks w v (Held (length trail)) Unseen (λ at. seen (sym e ∙ subst (λ x. mark_of marks x ≡ Unseen) (sym at) fresh)) ∙ e

  opened_done : (v c : ℕ) → mark_of opened_marks v ≡ Done c → mark_of marks v ≡ Done c
  opened_done v c e = elim (opened_back v (Done c) e) [ inl a ↦ a | inr (_, b) ↦ absurd (cc) ]

  pub opened : Kept edges None opened_marks (trail ++ w ∷ []) (ws ++ xs) (stages ++ opened_stage ∷ []) count
  opened = record {
    trail_held = λ i ti. elim (push_cases trail w 0 i ti) [
      | inl (lt, e) ↦ subst (λ x. mark_of opened_marks x ≡ Held i) (sym e) (opened_forth (get_or trail i 0) (Held i) (h.trail_held i lt) (λ bad. cc))
      | inr (at, e) ↦ subst (λ x. mark_of opened_marks x ≡ Held i) (sym e) (get_or-set_same marks w (Held (length trail)) Unseen within ∙ ap Held (sym at))
    ];
    held_trail = λ v i e. elim (opened_back v (Held i) e) [
      | inl a ↦ let t = h.held_trail v i a in (omega (arith, length_push trail w, t.0), get_or_append_left trail (w ∷ []) 0 i t.0 ∙ t.1)
      | inr (at, b) ↦ let is : i ≡ length trail = cc in (omega (arith, length_push trail w), get_or_push trail w 0 i (sym is) ∙ sym at)
    ];
    done_below = λ v c e. h.done_below v c (opened_done v c e);
    done_leads = λ u v c l e. let d = h.done_leads u v c l (opened_done u c e) in (d.0, opened_forth v (Done d.0) d.1 (λ bad. cc), d.2);
    done_same = λ u v c e f. h.done_same u v c (opened_done u c e) (opened_done v c f);
    chain = λ i j le tj. elim (push_cases trail w 0 j tj) [
      | inl (lt, e) ↦ let ti : i < length trail = omega arith in path_at (sym (get_or_append_left trail (w ∷ []) 0 i ti)) (sym e) (h.chain i j le lt)
      | inr (at, e) ↦ elim (cases_lt i (length trail)) [
        | inl ti ↦ path_at (sym (get_or_append_left trail (w ∷ []) 0 i ti)) (sym e) (reached i ti)
        | inr ge ↦ let same : i ≡ length trail = omega arith in path_at (sym (get_or_push trail w 0 i (sym same))) (sym e) here
      ]
    ];
    joined = λ i j le tj un. elim (push_cases trail w 0 j tj) [
      | inl (lt, e) ↦ let ti : i < length trail = omega arith in
          path_at (sym e) (sym (get_or_append_left trail (w ∷ []) 0 i ti)) (h.joined i j le lt (λ k lk.
          let f : first_of (stages ++ opened_stage ∷ []) k ≡ first_of stages k = ap (λ (s : Stage). s.first) (get_or_append_left stages (opened_stage ∷ []) (record { first = 0; waits = 0 }) k lk) in
          elim (un k (omega (arith, length_push stages opened_stage))) [ inl a ↦ inl (omega arith) | inr b ↦ inr (omega arith) ]))
      | inr (at, e) ↦ elim (cases_lt i (length trail)) [
        | inl ti ↦
            let f : first_of (stages ++ opened_stage ∷ []) (length stages) ≡ length trail = ap (λ (s : Stage). s.first) (get_or_push stages opened_stage (record { first = 0; waits = 0 }) (length stages) refl) in
            elim (un (length stages) (omega (arith, length_push stages opened_stage))) [ inl a ↦ absurd (omega arith) | inr b ↦ absurd (omega arith) ]
        | inr ge ↦ let same : i ≡ length trail = omega arith in path_at (sym e) (sym (get_or_push trail w 0 i (sym same))) here
      ]
    ];
    stage_first = λ k lk. elim (stage_cases stages opened_stage k lk) [
      | inl (lt, f, _) ↦ omega (arith, h.stage_first k lt, length_push trail w)
      | inr (at, f, _) ↦ omega (arith, length_push trail w)
    ];
    stage_waits = λ k lk. elim (stage_cases stages opened_stage k lk) [
      | inl (lt, _, f) ↦ omega (arith, h.stage_waits k lt, length-append ws xs)
      | inr (at, _, f) ↦ omega (arith, length-append ws xs)
    ];
    firsts_ascend = λ k l lt ll. elim (stage_cases stages opened_stage l ll) [
      | inl (sl, f, _) ↦ elim (stage_cases stages opened_stage k (omega arith)) [
        | inl (sk, g, _) ↦ omega (arith, h.firsts_ascend k l lt sl)
        | inr (at, g, _) ↦ absurd (omega arith)
      ]
      | inr (at, f, _) ↦ elim (stage_cases stages opened_stage k (omega arith)) [
        | inl (sk, g, _) ↦ omega (arith, h.stage_first k sk)
        | inr (at', g, _) ↦ absurd (omega arith)
      ]
    ];
    waits_ascend = λ k l le ll. elim (stage_cases stages opened_stage l ll) [
      | inl (sl, _, f) ↦ elim (stage_cases stages opened_stage k (omega arith)) [
        | inl (sk, _, g) ↦ omega (arith, h.waits_ascend k l le sl)
        | inr (at, _, g) ↦ absurd (omega arith)
      ]
      | inr (at, _, f) ↦ elim (stage_cases stages opened_stage k (omega arith)) [
        | inl (sk, _, g) ↦ omega (arith, h.stage_waits k sk)
        | inr (at', _, g) ↦ omega arith
      ]
    ];
    bottom_first = λ some. elim (stage_cases stages opened_stage 0 some) [
      | inl (sk, f, _) ↦ f ∙ h.bottom_first sk
      | inr (at, f, _) ↦ f ∙ h.none_trail (sym at)
    ];
    bottom_waits = λ some. elim (stage_cases stages opened_stage 0 some) [
      | inl (sk, _, f) ↦ f ∙ h.bottom_waits sk
      | inr (at, _, f) ↦ f ∙ h.none_waits (sym at)
    ];
    none_trail = λ none. absurd (omega (arith, length_push stages opened_stage));
    none_waits = λ none. absurd (omega (arith, length_push stages opened_stage));
    settled = λ k i v lk li ti l. elim (push_cases trail w 0 i ti) [
      | inl (lt, e) ↦ elim (stage_cases stages opened_stage k lk) [
        | inl (sk, f, g) ↦ elim (h.settled k i v sk (omega arith) lt (leads_at edges e refl l)) [
          | inl (c, d) ↦ inl (c, opened_forth v (Done c) d (λ bad. cc))
          | inr r ↦ elim r [
            | inl (j, le, t) ↦ inr (inl (j, omega arith, opened_forth v (Held j) t (λ bad. cc)))
            | inr s ↦ elim s [
              | inl (p, le, lp, is) ↦ inr (inr (inl (p, omega arith, omega (arith, length-append ws xs), get_or_append_left ws xs 0 p lp ∙ is)))
              | inr o ↦ let at : v ≡ w = only v o in inr (inl (
                length trail,
                omega (arith, h.stage_first k sk),
                subst (λ x. mark_of opened_marks x ≡ Held (length trail)) (sym at) (get_or-set_same marks w (Held (length trail)) Unseen within),
              ))
            ]
          ]
        ]
        | inr (at, f, g) ↦ absurd (omega arith)
      ]
      | inr (at, e) ↦
          let x = out v (leads_at edges e refl l) in
          let low : waits_of (stages ++ opened_stage ∷ []) k ≤ length ws = elim (stage_cases stages opened_stage k lk) [
            | inl (sk, _, g) ↦ omega (arith, h.stage_waits k sk)
            | inr (_, _, g) ↦ omega arith
          ] in
          inr (inr (inl (length ws + x.0, omega arith, omega (arith, length-append ws xs, x.1), get_or-append-add ws xs x.0 0 ∙ x.2)))
    ];
    sourced = λ e le. elim (cases_lt e (length ws)) [
      | inl lt ↦
          let s = h.sourced e lt in (
            s.0,
            omega (arith, length_push trail w, s.1),
            leads_at edges (sym (get_or_append_left trail (w ∷ []) 0 s.0 s.1)) (sym (get_or_append_left ws xs 0 e lt)) s.2,
            λ k lk. elim (stage_cases stages opened_stage k lk) [
              | inl (sk, f, g) ↦ let t = s.3 k sk in
                  ((λ a. let b = t.0 (omega arith) in omega arith), (λ a. let b = t.1 (omega arith) in omega arith))
              | inr (at, f, g) ↦ ((λ a. absurd (omega arith)), (λ a. absurd (omega (arith, s.1))))
            ],
          )
      | inr ge ↦
          let n : ℕ = e - length ws in
          let ln : n < length xs = omega (arith, length-append ws xs) in (
            length trail,
            omega (arith, length_push trail w),
            leads_at edges (sym (get_or_push trail w 0 (length trail) refl)) (sym (get_or-append_right ws xs (length ws) e 0 refl ge)) (from n ln),
            λ k lk. elim (stage_cases stages opened_stage k lk) [
              | inl (sk, f, g) ↦ ((λ a. omega (arith, h.stage_first k sk)), (λ a. omega (arith, h.stage_waits k sk)))
              | inr (at, f, g) ↦ ((λ a. omega arith), (λ a. omega arith))
            ],
          )
    ];
  }

-- the owed key is settled for each stage
pub paid : (edges : List Edge) (marks : List Mark) (trail waiting : List ℕ) (stages : List Stage) (count w : ℕ)
    → Kept edges (Some w) marks trail waiting stages count
    → ((k : ℕ) → k < length stages → Settled None marks waiting (first_of stages k) (waits_of stages k) w)
    → Kept edges None marks trail waiting stages count
paid edges marks trail waiting stages count w h pay = record {
  trail_held = h.trail_held;
  held_trail = h.held_trail;
  done_below = h.done_below;
  done_leads = h.done_leads;
  done_same = h.done_same;
  chain = h.chain;
  joined = h.joined;
  stage_first = h.stage_first;
  stage_waits = h.stage_waits;
  firsts_ascend = h.firsts_ascend;
  waits_ascend = h.waits_ascend;
  bottom_first = h.bottom_first;
  bottom_waits = h.bottom_waits;
  none_trail = h.none_trail;
  none_waits = h.none_waits;
  settled = λ k i v lk li ti l. elim (h.settled k i v lk li ti l) [
    | inl d ↦ inl d
    | inr r ↦ elim r [
      | inl t ↦ inr (inl t)
      | inr s ↦ elim s [
        | inl e ↦ inr (inr (inl e))
        | inr o ↦ let is : w ≡ v = cc in subst (λ x. Settled None marks waiting (first_of stages k) (waits_of stages k) x) is (pay k lk)
      ]
    ]
  ];
  sourced = h.sourced;
}

-- a stage of the list without the last
pub stage_left : (stages : List Stage) (q : Stage) (k : ℕ) → k < length stages
    → (first_of (stages ++ q ∷ []) k ≡ first_of stages k) × (waits_of (stages ++ q ∷ []) k ≡ waits_of stages k)
stage_left stages q k lk =
    let e = get_or_append_left stages (q ∷ []) (record { first = 0; waits = 0 }) k lk in
    (ap (λ (s : Stage). s.first) e, ap (λ (s : Stage). s.waits) e)

pub stage_last : (stages : List Stage) (q : Stage)
    → (first_of (stages ++ q ∷ []) (length stages) ≡ q.first) × (waits_of (stages ++ q ∷ []) (length stages) ≡ q.waits)
stage_last stages q =
    let e = get_or_push stages q (record { first = 0; waits = 0 }) (length stages) refl in
    (ap (λ (s : Stage). s.first) e, ap (λ (s : Stage). s.waits) e)

-- the last stage joins the one before, where the owed key stands before it
pub merge : (edges : List Edge) (marks : List Mark) (trail waiting : List ℕ) (ps : List Stage) (q : Stage) (count w p : ℕ)
    → Kept edges (Some w) marks trail waiting (ps ++ q ∷ []) count → Reached edges trail w
    → mark_of marks w ≡ Held p → p < q.first
    → Kept edges (Some w) marks trail waiting ps count
merge edges marks trail waiting ps q count w p h reached held below =
    let more : length (ps ++ q ∷ []) ≡ length ps + 1 = length_push ps q in
    let last = stage_last ps q in
    let at = h.held_trail w p held in
    let whole : (i j : ℕ) → Unparted ps i j → (q.first ≤ i) ⊎ (j < q.first) → Unparted (ps ++ q ∷ []) i j =
    λ i j un c k lk. elim (cases_lt k (length ps)) [
      | inl lt ↦ elim (un k lt) [ inl a ↦ inl (omega (arith, (stage_left ps q k lt).0)) | inr b ↦ inr (omega (arith, (stage_left ps q k lt).0)) ]
      | inr ge ↦ let is : k ≡ length ps = omega arith in
          let f : first_of (ps ++ q ∷ []) k ≡ q.first = subst (λ n. first_of (ps ++ q ∷ []) n ≡ q.first) (sym is) last.0 in
          elim c [ inl a ↦ inl (omega arith) | inr b ↦ inr (omega arith) ]
    ] in
    record {
      trail_held = h.trail_held;
      held_trail = h.held_trail;
      done_below = h.done_below;
      done_leads = h.done_leads;
      done_same = h.done_same;
      chain = h.chain;
      joined = λ i j le tj un. elim (cases_lt i q.first) [
        | inr ge ↦ h.joined i j le tj (whole i j un (inl ge))
        | inl li ↦ elim (cases_lt j q.first) [
          | inl lj ↦ h.joined i j le tj (whole i j un (inr lj))
          | inr gj ↦ Path-join (reached j tj) (path_at at.1 refl (elim (cases_lt i p) [
            | inl lip ↦ h.joined i p (omega arith) at.0 (whole i p (λ k lk. elim (un k lk) [ inl a ↦ inl a | inr b ↦ inr (omega arith) ]) (inr below))
            | inr gip ↦ h.chain p i gip (omega arith)
          ]))
        ]
      ];
      stage_first = λ k lk. omega (arith, h.stage_first k (omega arith), (stage_left ps q k lk).0);
      stage_waits = λ k lk. omega (arith, h.stage_waits k (omega arith), (stage_left ps q k lk).1);
      firsts_ascend = λ k l lt ll. omega (arith, h.firsts_ascend k l lt (omega arith), (stage_left ps q k (omega arith)).0, (stage_left ps q l ll).0);
      waits_ascend = λ k l le ll. omega (arith, h.waits_ascend k l le (omega arith), (stage_left ps q k (omega arith)).1, (stage_left ps q l ll).1);
      bottom_first = λ some. sym (stage_left ps q 0 some).0 ∙ h.bottom_first (omega arith);
      bottom_waits = λ some. sym (stage_left ps q 0 some).1 ∙ h.bottom_waits (omega arith);
      none_trail = λ none. absurd (let f : first_of (ps ++ q ∷ []) 0 ≡ q.first = subst (λ n. first_of (ps ++ q ∷ []) n ≡ q.first) none last.0 in omega (arith, h.bottom_first (omega arith)));
      none_waits = λ none. absurd (let f : first_of (ps ++ q ∷ []) 0 ≡ q.first = subst (λ n. first_of (ps ++ q ∷ []) n ≡ q.first) none last.0 in omega (arith, h.bottom_first (omega arith)));
      settled = λ k i v lk li ti l.
          let e = stage_left ps q k lk in
          let s = h.settled k i v (omega arith) (omega arith) ti l in
          subst (λ n. Settled (Some w) marks waiting (first_of ps k) n v) e.1 (subst (λ n. Settled (Some w) marks waiting n (waits_of (ps ++ q ∷ []) k) v) e.0 s);
      sourced = λ e le.
          let s = h.sourced e le in (
            s.0,
            s.1,
            s.2,
            λ k lk. let t = s.3 k (omega arith) in let f = stage_left ps q k lk in
                ((λ a. let b = t.0 (omega arith) in omega arith), (λ a. let b = t.1 (omega arith) in omega arith)),
          );
    }

pub mark_cases : (m : Mark) → (m ≡ Unseen) ⊎ (((i : ℕ) × (m ≡ Held i)) ⊎ ((c : ℕ) × (m ≡ Done c)))
mark_cases Unseen = inl refl
mark_cases (Held i) = inr (inl (i, refl))
mark_cases (Done c) = inr (inr (c, refl))

-- the last stage, in which no key waits, is a component
module _ (edges : List Edge) (marks : List Mark) (trail ws : List ℕ) (ps : List Stage) (q : Stage) (count : ℕ)
    (h : Kept edges None marks trail ws (ps ++ q ∷ []) count) (spent : length ws ≤ q.waits)
    (after : List Mark)
    (new : (i : ℕ) → q.first ≤ i → i < length trail → mark_of after (get_or trail i 0) ≡ Done count)
    (rest : (v : ℕ) → ((i : ℕ) → q.first ≤ i → i < length trail → get_or trail i 0 ≡ v → ⊥) → mark_of after v ≡ mark_of marks v)
    (next : ℕ) (more : count < next) where
  pub closed_forth : (v : ℕ) (m : Mark) → mark_of marks v ≡ m → ((i : ℕ) → m ≡ Held i → i < q.first) → mark_of after v ≡ m
  closed_forth v m e before = rest v (λ i ge ti at.
      let g : mark_of marks v ≡ Held i = subst (λ x. mark_of marks x ≡ Held i) at (h.trail_held i ti) in
      let b = before i (sym e ∙ g) in omega arith) ∙ e

  closed_held : (v j : ℕ) → q.first ≤ j → mark_of marks v ≡ Held j → mark_of after v ≡ Done count
  closed_held v j ge e = let t = h.held_trail v j e in subst (λ x. mark_of after x ≡ Done count) t.1 (new j ge t.0)

  pub closed_back : (v : ℕ) (m : Mark) → mark_of after v ≡ m
      → ((mark_of marks v ≡ m) × ((i : ℕ) → m ≡ Held i → i < q.first)) ⊎ ((i : ℕ) × (q.first ≤ i) × (i < length trail) × (get_or trail i 0 ≡ v) × (m ≡ Done count))
  closed_back v m e = elim (mark_cases (mark_of marks v)) [
    | inl u ↦ let f = closed_forth v Unseen u (λ i bad. absurd (cc)) in inl (u ∙ sym f ∙ e, λ i bad. absurd (cc))
    | inr r ↦ elim r [
      | inl (i, u) ↦ elim (cases_lt i q.first) [
        | inl lt ↦ let f = closed_forth v (Held i) u (λ k is. let eq : i ≡ k = cc in omega arith) in inl (u ∙ sym f ∙ e, λ k is. let eq : i ≡ k = cc in omega arith)
        | inr ge ↦ let t = h.held_trail v i u in inr (i, ge, t.0, t.1, sym e ∙ closed_held v i ge u)
      ]
      | inr (c, u) ↦ let f = closed_forth v (Done c) u (λ i bad. absurd (cc)) in inl (u ∙ sym f ∙ e, λ i bad. absurd (cc))
    ]
  ]

  closed_first : q.first < length trail
  closed_first = omega (arith, h.stage_first (length ps) (omega (arith, length_push ps q)), (stage_last ps q).0)

  closed_length : length (take q.first trail) ≡ q.first
  closed_length = omega (arith, length-take q.first trail, closed_first)

  closed_same : (u v c : ℕ) → mark_of after u ≡ Done c → mark_of after v ≡ Done c → Path edges u v
  closed_same u v c e f = elim (closed_back u (Done c) e) [
    | inl (a, _) ↦ elim (closed_back v (Done c) f) [
      | inl (b, _) ↦ h.done_same u v c a b
      | inr (i, ge, ti, at, is) ↦ let eq : c ≡ count = cc in absurd (omega (arith, h.done_below u c a))
    ]
    | inr (i, ge, ti, at, is) ↦ let eq : c ≡ count = cc in elim (closed_back v (Done c) f) [
      | inl (b, _) ↦ absurd (omega (arith, h.done_below v c b))
      | inr (j, gj, tj, at', _) ↦
          let low : (k : ℕ) → k < length (ps ++ q ∷ []) → first_of (ps ++ q ∷ []) k ≤ q.first = λ k lk. elim (stage_cases ps q k lk) [
            | inl (sk, _, _) ↦ omega (arith, h.firsts_ascend k (length ps) sk (omega (arith, length_push ps q)), (stage_last ps q).0)
            | inr (_, g, _) ↦ omega arith
          ] in
          path_at at at' (same_stage h i j ti tj (λ k lk. inl (omega (arith, low k lk))) (λ k lk. inl (omega (arith, low k lk))))
    ]
  ]

  closed_leads : (u v c : ℕ) → Leads edges u v → mark_of after u ≡ Done c → (d : ℕ) × (mark_of after v ≡ Done d) × (d ≤ c)
  closed_leads u v c l e = elim (closed_back u (Done c) e) [
    | inl (a, _) ↦ let d = h.done_leads u v c l a in (d.0, closed_forth v (Done d.0) d.1 (λ i bad. absurd (cc)), d.2)
    | inr (i, ge, ti, at, is) ↦
        let eq : c ≡ count = cc in
        let last = stage_last ps q in
        elim (h.settled (length ps) i v (omega (arith, length_push ps q)) (omega arith) ti (leads_at edges (sym at) refl l)) [
          | inl (d, a) ↦ (d, closed_forth v (Done d) a (λ j bad. absurd (cc)), omega (arith, h.done_below v d a))
          | inr r ↦ elim r [
            | inl (j, gj, a) ↦ (count, closed_held v j (omega arith) a, omega arith)
            | inr s ↦ elim s [
              | inl (p, gp, lp, _) ↦ absurd (omega arith)
              | inr bad ↦ absurd (cc)
            ]
          ]
        ]
  ]

  closed_settled : (k i v : ℕ) → k < length ps → first_of ps k ≤ i → i < length (take q.first trail)
      → Leads edges (get_or (take q.first trail) i 0) v → Settled None after ws (first_of ps k) (waits_of ps k) v
  closed_settled k i v lk li ti l =
      let e = stage_left ps q k lk in
      let below : i < q.first = omega (arith, closed_length) in
      elim (h.settled k i v (omega (arith, length_push ps q)) (omega arith) (omega (arith, closed_first)) (leads_at edges (get_or-take q.first trail i 0 below) refl l)) [
        | inl (d, a) ↦ inl (d, closed_forth v (Done d) a (λ j bad. absurd (cc)))
        | inr r ↦ elim r [
          | inl (j, gj, a) ↦ elim (cases_lt j q.first) [
            | inl lj ↦ inr (inl (j, omega arith, closed_forth v (Held j) a (λ n is. let eq : j ≡ n = cc in omega arith)))
            | inr ge ↦ inl (count, closed_held v j ge a)
          ]
          | inr s ↦ elim s [
            | inl (p, gp, lp, is) ↦ inr (inr (inl (p, omega arith, lp, is)))
            | inr bad ↦ absurd (cc)
          ]
        ]
      ]

  closed_sourced : (e : ℕ) → e < length ws → Sourced edges (take q.first trail) ps e (get_or ws e 0)
  closed_sourced e le =
      let s = h.sourced e le in
      let last = stage_last ps q in
      let below : s.0 < q.first = elim (cases_lt s.0 q.first) as (λ _. s.0 < q.first) [
        | inl lt ↦ lt
        | inr ge ↦ absurd (omega (arith, (s.3 (length ps) (omega (arith, length_push ps q))).1 (omega arith)))
      ] in (
        s.0,
        omega (arith, closed_length),
        leads_at edges (sym (get_or-take q.first trail s.0 0 below)) refl s.2,
        λ k lk. let t = s.3 k (omega (arith, length_push ps q)) in let f = stage_left ps q k lk in
            ((λ a. let b = t.0 (omega arith) in omega arith), (λ a. let b = t.1 (omega arith) in omega arith)),
      )

  pub closed : Kept edges None after (take q.first trail) ws ps next
  closed =
      let more' : length (ps ++ q ∷ []) ≡ length ps + 1 = length_push ps q in
      let last = stage_last ps q in
      record {
        trail_held = λ i ti. let below : i < q.first = omega (arith, closed_length) in
            subst (λ x. mark_of after x ≡ Held i) (sym (get_or-take q.first trail i 0 below))
            (closed_forth (get_or trail i 0) (Held i) (h.trail_held i (omega (arith, closed_first))) (λ k is. let eq : i ≡ k = cc in omega arith));
        held_trail = λ v i e. elim (closed_back v (Held i) e) [
          | inl (a, lt) ↦ let below = lt i refl in let t = h.held_trail v i a in (omega (arith, closed_length), get_or-take q.first trail i 0 below ∙ t.1)
          | inr (_, _, _, _, bad) ↦ absurd (cc)
        ];
        done_below = λ v c e. elim (closed_back v (Done c) e) [
          | inl (a, _) ↦ omega (arith, h.done_below v c a)
          | inr (_, _, _, _, is) ↦ let eq : c ≡ count = cc in omega arith
        ];
        done_leads = closed_leads;
        done_same = closed_same;
        chain = λ i j le tj.
            path_at (sym (get_or-take q.first trail i 0 (omega (arith, closed_length)))) (sym (get_or-take q.first trail j 0 (omega (arith, closed_length))))
            (h.chain i j le (omega (arith, closed_length, closed_first)));
        joined = λ i j le tj un.
            path_at (sym (get_or-take q.first trail j 0 (omega (arith, closed_length)))) (sym (get_or-take q.first trail i 0 (omega (arith, closed_length))))
            (h.joined i j le (omega (arith, closed_length, closed_first)) (λ k lk. elim (stage_cases ps q k lk) [
              | inl (sk, f, _) ↦ elim (un k sk) [ inl a ↦ inl (omega arith) | inr b ↦ inr (omega arith) ]
              | inr (_, f, _) ↦ inr (omega (arith, closed_length))
            ]));
        stage_first = λ k lk. omega (arith, h.firsts_ascend k (length ps) lk (omega arith), (stage_left ps q k lk).0, closed_length);
        stage_waits = λ k lk. omega (arith, h.stage_waits k (omega arith), (stage_left ps q k lk).1);
        firsts_ascend = λ k l lt ll. omega (arith, h.firsts_ascend k l lt (omega arith), (stage_left ps q k (omega arith)).0, (stage_left ps q l ll).0);
        waits_ascend = λ k l le ll. omega (arith, h.waits_ascend k l le (omega arith), (stage_left ps q k (omega arith)).1, (stage_left ps q l ll).1);
        bottom_first = λ some. sym (stage_left ps q 0 some).0 ∙ h.bottom_first (omega arith);
        bottom_waits = λ some. sym (stage_left ps q 0 some).1 ∙ h.bottom_waits (omega arith);
        none_trail = λ none. let f : first_of (ps ++ q ∷ []) 0 ≡ q.first = subst (λ n. first_of (ps ++ q ∷ []) n ≡ q.first) none last.0 in omega (arith, h.bottom_first (omega arith), closed_length);
        none_waits = λ none. let f : waits_of (ps ++ q ∷ []) 0 ≡ q.waits = subst (λ n. waits_of (ps ++ q ∷ []) n ≡ q.waits) none last.1 in omega (arith, h.bottom_waits (omega arith));
        settled = closed_settled;
        sourced = closed_sourced;
      }
