-- Words at ascending addresses.
use Rattle.std.proofs.Common.{◌≡◌, ◌∙◌, ℕ, zero, suc, ◌+◌, ◌-◌, ◌<◌, ◌≤◌, ◌^◌, List, [], ◌∷◌, ◌++◌, length, get_or, slice_get, insert, Option, Some, None, Bool, true, false, eqb, ltb, leb, take, drop, cond, map, refl, sym, ap, subst, append_assoc, append-nil, Ok, Err, arith, inl, inr}
use Rattle.std.specs.List.Sorted.{IsPartitionedBy, IsPartitionPoint}
use Rattle.std.proofs.lemmas.Bool.{ltb-true, ltb-false, cases_lt}
use Rattle.std.proofs.lemmas.Bool.Decides.{nat_tests}
use Rattle.std.proofs.lemmas.Option.{none-some}
use Rattle.std.specs.Prelude.{is_some, option_map}
use Rattle.std.proofs.lemmas.List.{get_or-drop, length-drop}
use Rattle.viper_word.specs.declared.word.Word.{Word}
use Rattle.text_lines.specs.Lines.{lines_of, numbered, every_line}
use Rattle.text_lines.specs.Reading.{Say}
use Rattle.memory_plan.specs.declared.text_fault.ImageRule.TheVariants.{Order}
use Rattle.memory_plan.specs.Images.{entries, word_at, words_between, Ascend, Fit, AreImageWords, with_word, found_at, is_above, word_of_line, in_order, image_grammar, IsImage}

-- a word's address is below those of all words behind it
later_above : (e : ℕ × Word) (ws : List (ℕ × Word)) → Ascend (entries (e ∷ ws)) → (j : ℕ) (d : ℕ × Word) → j < length ws → e.0 < (get_or ws j d).0
later_above e [] up j d h = absurd (omega arith)
later_above e (f ∷ fs) up zero d h = up.0
later_above e (f ∷ fs) up (suc j) d h = omega (arith, up.0, later_above f fs up.1 j d (omega arith))

ascends_behind : (e : ℕ × Word) (ws : List (ℕ × Word)) → Ascend (entries (e ∷ ws)) → Ascend (entries ws)
ascends_behind e [] up = tt
ascends_behind e (f ∷ fs) up = up.1

-- the words below an address stand in front
pub partitioned : (ws : List (ℕ × Word)) (at : ℕ) → Ascend (entries ws) → IsPartitionedBy (λ e. ltb e.0 at) ws
partitioned [] at up i j d le h t = absurd (omega arith)
partitioned (e ∷ es) at up zero zero d le h t = t
partitioned (e ∷ es) at up zero (suc j) d le h t =
    let later : e.0 < (get_or es j d).0 = later_above e es up j d (omega arith) in
    let below : (get_or es j d).0 < at = ltb-true (get_or es j d).0 at t in
    let lt : e.0 < at = omega arith in
    grind (arith, nat_tests)
partitioned (e ∷ es) at up (suc i) zero d le h t = absurd (omega arith)
partitioned (e ∷ es) at up (suc i) (suc j) d le h t = partitioned es at (ascends_behind e es up) i j d (omega arith) (omega arith) t

-- where all addresses are above one, none has it
none_there : (ws : List (ℕ × Word)) (at : ℕ) → ((j : ℕ) (d : ℕ × Word) → j < length ws → at < (get_or ws j d).0) → word_at (entries ws) at ≡ None
none_there [] at above = refl
none_there (e ∷ es) at above =
    let here : at < e.0 = above 0 e (omega arith) in
    let differs : eqb e.0 at ≡ false = grind (arith, nat_tests) in
    rw differs (none_there es at (λ j d h. above (suc j) d (omega arith)))

-- the first word that isn't below an address tells whether it is there
pub found_there : (ws : List (ℕ × Word)) (at k : ℕ) → Ascend (entries ws) → ((i : ℕ) (d : ℕ × Word) → i < k → i < length ws → (get_or ws i d).0 < at) → ((i : ℕ) (d : ℕ × Word) → k ≤ i → i < length ws → at ≤ (get_or ws i d).0)
    → found_at at (slice_get ws k) ≡ word_at (entries ws) at
found_there [] at k up below above = refl
found_there (e ∷ es) at zero up below above = elim (cases_lt at e.0) [
  | inl less ↦
      let differs : eqb e.0 at ≡ false = grind (arith, nat_tests) in
      rw differs (sym (none_there es at (λ j d h. omega (arith, less, later_above e es up j d h))))
  | inr le ↦
      let ge : at ≤ e.0 = above 0 e (omega arith) (omega arith) in
      let same : eqb e.0 at ≡ true = grind (arith, nat_tests) in
      rw same refl
]
found_there (e ∷ es) at (suc k) up below above =
    let less : e.0 < at = below 0 e (omega arith) (omega arith) in
    let differs : eqb e.0 at ≡ false = grind (arith, nat_tests) in
    rw differs (found_there es at k (ascends_behind e es up) (λ i d h g. below (suc i) d (omega arith) (omega arith)) (λ i d h g. above (suc i) d (omega arith) (omega arith)))

-- ---- one word more

abbrev pub last_below : ℕ → Option (ℕ × Word) → Bool
last_below at None = true
last_below at (Some e) = ltb e.0 at

pub last_tells : (ws : List (ℕ × Word)) (at : ℕ) → last_below at (slice_get ws (length ws - 1)) ≡ is_above (entries ws) at
last_tells [] at = refl
last_tells (e ∷ []) at = refl
last_tells (e ∷ f ∷ fs) at =
    let place : length (e ∷ f ∷ fs) - 1 ≡ suc (length (f ∷ fs) - 1) = omega arith in
    ap (λ (k : ℕ). last_below at (slice_get (e ∷ f ∷ fs) k)) place ∙ last_tells (f ∷ fs) at

pub ascends_on : (ws : List (ℕ × ℕ)) (at w : ℕ) → Ascend ws → is_above ws at ≡ true → Ascend (ws ++ (at, w) ∷ [])
ascends_on [] at w up h = tt
ascends_on (e ∷ []) at w up h = (ltb-true e.0 at h, tt)
ascends_on (e ∷ f ∷ fs) at w up h = (up.0, ascends_on (f ∷ fs) at w up.1 h)

-- the same, from what tells the place
pub found_by : (ws : List (ℕ × Word)) (at k : ℕ) → Ascend (entries ws) → IsPartitionPoint (λ (e : ℕ × Word). ltb e.0 at ≡ true) (λ (e : ℕ × Word). ltb e.0 at ≡ false) ws k → found_at at (slice_get ws k) ≡ word_at (entries ws) at
found_by ws at k up place = found_there ws at k up (λ i d h g. ltb-true (get_or ws i d).0 at (place.0 i d (omega arith) h)) (λ i d h g. ltb-false (get_or ws i d).0 at (place.1 i d h g))

-- ---- the whole text

-- what lines say is words at ascending addresses
lines_said : (first : ℕ) (before : List (ℕ × ℕ)) (lines : List (List ℕ)) (words : List (ℕ × ℕ)) → Ascend before → Say image_grammar before (numbered false first lines) words
    → (map word_of_line lines ≡ map Some words) × Ascend (before ++ words)
lines_said first before [] [] up h = (refl, subst Ascend (sym (append-nil before)) up)
lines_said first before [] (x ∷ xs) up h = absurd h
lines_said first before (l ∷ ls) [] up h = absurd h
lines_said first before (l ∷ ls) (x ∷ xs) up h =
    let says = judged before l x h.0 in
    let rest = lines_said (first + 1) (before ++ x ∷ []) ls xs (ascends_on before x.0 x.1 up says.1) h.1 in
    (rw says.0 (ap (λ (others : List (Option (ℕ × ℕ))). Some x ∷ others) rest.0), subst Ascend (append_assoc before (x ∷ []) xs) rest.1)
  where
    ordered : (before : List (ℕ × ℕ)) (e x : ℕ × ℕ) (above : Bool) → is_above before e.0 ≡ above → cond above (Ok e) (Err Order) ≡ Ok x → (e ≡ x) × (is_above before x.0 ≡ true)
    ordered before e x true f g = (cc, cc)
    ordered before e x false f g = cc

    judged_by : (before : List (ℕ × ℕ)) (said : Option (ℕ × ℕ)) (x : ℕ × ℕ) → in_order before said ≡ Ok x → (said ≡ Some x) × (is_above before x.0 ≡ true)
    judged_by before None x g = cc
    judged_by before (Some e) x g = let o = ordered before e x (is_above before e.0) refl g in (ap Some o.0, o.1)

    judged : (before : List (ℕ × ℕ)) (line : List ℕ) (x : ℕ × ℕ) → image_grammar before line ≡ Ok x → (word_of_line line ≡ Some x) × (is_above before x.0 ≡ true)
    judged before line x g = judged_by before (word_of_line line) x g

pub image_said : (text : List ℕ) (words : List (ℕ × ℕ)) → Say image_grammar [] (every_line text) words → IsImage text words
image_said text words h = let both = lines_said 1 [] (lines_of text) words tt h in record { lines = both.0; ascending = both.1 }

pub fits_on : (ws : List (ℕ × ℕ)) (at w : ℕ) → Fit ws → at < 2 ^ 20 → w < 2 ^ 32 → Fit (ws ++ (at, w) ∷ [])
fits_on [] at w fit h k = (h, k, tt)
fits_on (e ∷ es) at w fit h k = (fit.0, fit.1, fits_on es at w fit.2 h k)

-- ---- a word in its place

pub inserted : (ws : List (ℕ × Word)) (at k : ℕ) (w : Word) → k ≤ length ws → ((i : ℕ) (d : ℕ × Word) → i < k → i < length ws → (get_or ws i d).0 < at) → ((i : ℕ) (d : ℕ × Word) → k ≤ i → i < length ws → at ≤ (get_or ws i d).0)
    → entries (insert ws k (at, w)) ≡ with_word (entries ws) at w.0
inserted [] at zero w le below above = refl
inserted [] at (suc k) w le below above = absurd (omega arith)
inserted (e ∷ es) at zero w le below above =
    let ge : at ≤ e.0 = above 0 e (omega arith) (omega arith) in
    let not_below : ltb e.0 at ≡ false = grind (arith, nat_tests) in
    rw not_below refl
inserted (e ∷ es) at (suc k) w le below above =
    let less : e.0 < at = below 0 e (omega arith) (omega arith) in
    let is_below : ltb e.0 at ≡ true = grind (arith, nat_tests) in
    rw is_below (ap (λ (rest : List (ℕ × ℕ)). (e.0, e.1.0) ∷ rest) (inserted es at k w (omega (arith, le)) (λ i d h g. below (suc i) d (omega arith) (omega arith)) (λ i d h g. above (suc i) d (omega arith) (omega arith))))

pub inserted_by : (ws : List (ℕ × Word)) (at k : ℕ) (w : Word) → k ≤ length ws → IsPartitionPoint (λ (e : ℕ × Word). ltb e.0 at ≡ true) (λ (e : ℕ × Word). ltb e.0 at ≡ false) ws k → entries (insert ws k (at, w)) ≡ with_word (entries ws) at w.0
inserted_by ws at k w le place = inserted ws at k w le (λ i d h g. ltb-true (get_or ws i d).0 at (place.0 i d (omega arith) h)) (λ i d h g. ltb-false (get_or ws i d).0 at (place.1 i d h g))

-- the words still ascend with one more at an address that had none
abbrev pub head_below : ℕ → List (ℕ × ℕ) → Type 0
head_below n [] = Unit {0}
head_below n (e ∷ es) = n < e.0

tail_ascends : (e : ℕ × ℕ) (es : List (ℕ × ℕ)) → Ascend (e ∷ es) → head_below e.0 es × Ascend es
tail_ascends e [] up = (tt, tt)
tail_ascends e (f ∷ fs) up = (up.0, up.1)

joined : (e : ℕ × ℕ) (es : List (ℕ × ℕ)) → head_below e.0 es → Ascend es → Ascend (e ∷ es)
joined e [] low up = tt
joined e (f ∷ fs) low up = (low, up)

-- an address below no word that isn't there is below it
above_absent : (e : ℕ × ℕ) (es : List (ℕ × ℕ)) (at : ℕ) → word_at (e ∷ es) at ≡ None → at ≤ e.0 → at < e.0
above_absent e es at none le = elim (cases_lt at e.0) as (λ _. at < e.0) [
  | inl less ↦ less
  | inr ge ↦
      let same : eqb e.0 at ≡ true = grind (arith, nat_tests) in
      absurd (none-some e.1 (sym (rw same at none)))
]

pub ascends_with : (es : List (ℕ × ℕ)) (n at w : ℕ) → head_below n es → Ascend es → n < at → word_at es at ≡ None → head_below n (with_word es at w) × Ascend (with_word es at w)
ascends_with [] n at w low up lt none = (lt, tt)
ascends_with (e ∷ es) n at w low up lt none = elim (cases_lt e.0 at) [
  | inl less ↦
      let is_below : ltb e.0 at ≡ true = grind (arith, nat_tests) in
      let differs : eqb e.0 at ≡ false = grind (arith, nat_tests) in
      let parts = tail_ascends e es up in
      let rest = ascends_with es e.0 at w parts.0 parts.1 less (rw differs at none) in
      rw is_below (low, joined e (with_word es at w) rest.0 rest.1)
  | inr le ↦
      let not_below : ltb e.0 at ≡ false = grind (arith, nat_tests) in
      rw not_below (lt, (above_absent e es at none le, up))
]

pub image_with : (image : List (ℕ × ℕ)) (at w : ℕ) → AreImageWords image → at < 2 ^ 20 → w < 2 ^ 32 → word_at image at ≡ None → AreImageWords (with_word image at w)
image_with image at w is low small none = record { ascend = ascends image is.ascend none; fit = fits image is.fit }
  where
    fits : (es : List (ℕ × ℕ)) → Fit es → Fit (with_word es at w)
    fits [] fit = (low, small, tt)
    fits (e ∷ es) fit = elim (ltb e.0 at) as (λ b. Fit (cond b (e ∷ with_word es at w) ((at, w) ∷ e ∷ es))) [
      | true ↦ (fit.0, fit.1, fits es fit.2)
      | false ↦ (low, small, fit)
    ]

    ascends : (es : List (ℕ × ℕ)) → Ascend es → word_at es at ≡ None → Ascend (with_word es at w)
    ascends [] up there = tt
    ascends (e ∷ es) up there = elim (cases_lt e.0 at) [
      | inl less ↦
          let is_below : ltb e.0 at ≡ true = grind (arith, nat_tests) in
          let differs : eqb e.0 at ≡ false = grind (arith, nat_tests) in
          let parts = tail_ascends e es up in
          let rest = ascends_with es e.0 at w parts.0 parts.1 less (rw differs at there) in
          rw is_below (joined e (with_word es at w) rest.0 rest.1)
      | inr le ↦
          let not_below : ltb e.0 at ≡ false = grind (arith, nat_tests) in
          rw not_below (above_absent e es at there le, up)
    ]

-- whether an address has a word
pub is_there : (o : Option Word) (found : Option ℕ) → option_map (λ (w : Word). w.0) o ≡ found → is_some o ≡ is_some found
is_there None found e = ap is_some e
is_there (Some w) found e = ap is_some e

pub some_there : (b : Bool) (o : Option ℕ) → b ≡ is_some o → b ≡ false → o ≡ None
some_there b None e f = refl
some_there b (Some w) e f = absurd cc

-- ---- the words between two addresses

-- the words up to an address stand in front
pub partitioned_to : (ws : List (ℕ × Word)) (at : ℕ) → Ascend (entries ws) → IsPartitionedBy (λ e. leb e.0 at) ws
partitioned_to [] at up i j d le h t = absurd (omega arith)
partitioned_to (e ∷ es) at up zero zero d le h t = t
partitioned_to (e ∷ es) at up zero (suc j) d le h t =
    let later : e.0 < (get_or es j d).0 = later_above e es up j d (omega arith) in
    grind (arith, nat_tests)
partitioned_to (e ∷ es) at up (suc i) zero d le h t = absurd (omega arith)
partitioned_to (e ∷ es) at up (suc i) (suc j) d le h t = partitioned_to es at (ascends_behind e es up) i j d (omega arith) (omega arith) t

pub drop_ascends : (k : ℕ) (ws : List (ℕ × Word)) → Ascend (entries ws) → Ascend (entries (drop k ws))
drop_ascends zero ws up = up
drop_ascends (suc k) [] up = up
drop_ascends (suc k) (w ∷ ws) up = drop_ascends k ws (ascends_behind w ws up)

-- words below the lower address aren't between
pub front_out : (ws : List (ℕ × Word)) (lo hi k : ℕ) → ((i : ℕ) (d : ℕ × Word) → i < k → i < length ws → (get_or ws i d).0 < lo) → words_between (entries (drop k ws)) lo hi ≡ words_between (entries ws) lo hi
front_out [] lo hi zero below = refl
front_out [] lo hi (suc k) below = refl
front_out (w ∷ ws) lo hi zero below = refl
front_out (w ∷ ws) lo hi (suc k) below =
    let less : w.0 < lo = below 0 w (omega arith) (omega arith) in
    let out : leb lo w.0 ≡ false = grind (arith, nat_tests) in
    rw out (front_out ws lo hi k (λ i d h g. below (suc i) d (omega arith) (omega arith)))

-- of words from the lower address on, those up to the upper one are between
pub back_out : (ws : List (ℕ × Word)) (lo hi k : ℕ) → ((i : ℕ) (d : ℕ × Word) → i < length ws → lo ≤ (get_or ws i d).0) → ((i : ℕ) (d : ℕ × Word) → i < k → i < length ws → (get_or ws i d).0 ≤ hi)
    → ((i : ℕ) (d : ℕ × Word) → k ≤ i → i < length ws → hi < (get_or ws i d).0) → entries (take k ws) ≡ words_between (entries ws) lo hi
back_out [] lo hi zero from upto above = refl
back_out [] lo hi (suc k) from upto above = refl
back_out (w ∷ ws) lo hi zero from upto above =
    let more : hi < w.0 = above 0 w (omega arith) (omega arith) in
    let out : leb w.0 hi ≡ false = grind (arith, nat_tests) in
    let here : leb lo w.0 ≡ true = let low = from 0 w (omega arith) in grind (arith, nat_tests) in
    rw (here, out) (back_out ws lo hi zero (λ i d h. from (suc i) d (omega arith)) (λ i d h g. absurd (omega arith)) (λ i d h g. above (suc i) d (omega arith) (omega arith)))
back_out (w ∷ ws) lo hi (suc k) from upto above =
    let low : lo ≤ w.0 = from 0 w (omega arith) in
    let high : w.0 ≤ hi = upto 0 w (omega arith) (omega arith) in
    let here : leb lo w.0 ≡ true = grind (arith, nat_tests) in
    let there : leb w.0 hi ≡ true = grind (arith, nat_tests) in
    rw (here, there) (ap (λ (rest : List (ℕ × ℕ)). (w.0, w.1.0) ∷ rest)
    (back_out ws lo hi k (λ i d h. from (suc i) d (omega arith)) (λ i d h g. upto (suc i) d (omega arith) (omega arith)) (λ i d h g. above (suc i) d (omega arith) (omega arith))))

-- ---- how many words there are

pub length-entries : (ws : List (ℕ × Word)) → length (entries ws) ≡ length ws
length-entries [] = refl
length-entries (w ∷ ws) = ap suc (length-entries ws)

longest : (e : ℕ × ℕ) (es : List (ℕ × ℕ)) → Ascend (e ∷ es) → Fit (e ∷ es) → e.0 + length es < 2 ^ 20
longest e [] up fit = omega (arith, fit.0)
longest e (f ∷ fs) up fit = omega (arith, up.0, longest f fs up.1 fit.2)

pub few_entries : (image : List (ℕ × ℕ)) → AreImageWords image → length image ≤ 2 ^ 20
few_entries [] is = omega arith
few_entries (e ∷ es) is = omega (arith, longest e es is.ascend is.fit)

-- what both places give
pub between_by : (ws : List (ℕ × Word)) (lo hi k j : ℕ) → IsPartitionPoint (λ (e : ℕ × Word). ltb e.0 lo ≡ true) (λ (e : ℕ × Word). ltb e.0 lo ≡ false) ws k
    → IsPartitionPoint (λ (e : ℕ × Word). leb e.0 hi ≡ true) (λ (e : ℕ × Word). leb e.0 hi ≡ false) (drop k ws) j → entries (take j (drop k ws)) ≡ words_between (entries ws) lo hi
between_by ws lo hi k j first last =
    back_out (drop k ws) lo hi j
    (λ i d h. let low = first.1 (k + i) d (omega arith) (within i h) in let same = get_or-drop k ws i d in grind (arith, nat_tests))
    (λ i d h g. let upto = last.0 i d (omega arith) h in grind (arith, nat_tests))
    (λ i d h g. let above = last.1 i d h g in grind (arith, nat_tests))
    ∙ front_out ws lo hi k (λ i d h g. ltb-true (get_or ws i d).0 lo (first.0 i d (omega arith) h))
  where
    within : (i : ℕ) → i < length (drop k ws) → k + i < length ws
    within i h = omega (arith, h, length-drop k ws)
