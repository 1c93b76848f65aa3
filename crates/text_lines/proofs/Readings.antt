-- Reading line after line, and what it says of the whole text.
use Rattle.std.proofs.Common.{◌≡◌, ◌∙◌, ℕ, Bool, true, false, List, [], ◌∷◌, ◌++◌, Result, Ok, Err, refl, sym, ap, append_assoc, append-nil, subst, inl, inr}
use Rattle.text_lines.specs.Lines.{NumberedLine}
use Rattle.text_lines.specs.Reading.{Grammar, Say, IsFirstBroken, IsWhole, Breaks, SayAfter, BreaksAfter, HasOneReading, made, grammar_by}

-- what comes of a line: its entry is carried on, and a broken rule stands with the line's number
abbrev pub carry : {E R A : Type 0} → ℕ → Result E R → (E → Result A (ℕ × R)) → Result A (ℕ × R)
carry n (Ok e) f = f e
carry n (Err r) f = Err (n, r)

-- the entries of the lines behind these, or the first line that breaks a rule
abbrev pub read : {E R : Type 0} → Grammar E R → List E → List NumberedLine → Result (List E) (ℕ × R)
read judge es [] = Ok es
read judge es (l ∷ ls) = carry l.number (judge es l.text) (λ e. read judge (es ++ e ∷ []) ls)

ok_same : {A B : Type 0} (x y : A) → ◌≡◌ {A = Result A B} (Ok x) (Ok y) → x ≡ y
ok_same x y e = cc

err_same : {A B : Type 0} (x y : B) → ◌≡◌ {A = Result A B} (Err x) (Err y) → x ≡ y
err_same x y e = cc

ok_err : {A B : Type 0} (x : A) (y : B) → ◌≡◌ {A = Result A B} (Ok x) (Err y) → ⊥
ok_err x y e = cc

-- ---- what is read is said, and what is said is read

-- the entries that are read behind these, which the lines say
abbrev SaidFrom : {E R : Type 0} → Grammar E R → List E → List NumberedLine → List E → Type 0
SaidFrom {E} judge before lines all = (entries : List E) × (all ≡ before ++ entries) × Say judge before lines entries

says_line : {E R : Type 0} (judge : Grammar E R) (before : List E) (l : NumberedLine) (ls : List NumberedLine) (all : List E)
    → ((x : E) → read judge (before ++ x ∷ []) ls ≡ Ok all → SaidFrom judge (before ++ x ∷ []) ls all)
    → (said : Result E R) → judge before l.text ≡ said → carry l.number said (λ e. read judge (before ++ e ∷ []) ls) ≡ Ok all → SaidFrom judge before (l ∷ ls) all
says_line judge before l ls all next (Ok x) j h =
    let rest = next x h in
    (x ∷ rest.0, rest.1 ∙ append_assoc before (x ∷ []) rest.0, (j, rest.2))
says_line judge before l ls all next (Err r) j h = absurd (ok_err all (l.number, r) (sym h))

pub read_says : {E R : Type 0} (judge : Grammar E R) (before : List E) (lines : List NumberedLine) (all : List E) → read judge before lines ≡ Ok all → SaidFrom judge before lines all
read_says judge before [] all e = ([], sym (append-nil before ∙ ok_same before all e), tt)
read_says judge before (l ∷ ls) all e = says_line judge before l ls all (λ x h. read_says judge (before ++ x ∷ []) ls all h) (judge before l.text) refl e

pub say_reads : {E R : Type 0} (judge : Grammar E R) (before : List E) (lines : List NumberedLine) (entries : List E) → Say judge before lines entries → read judge before lines ≡ Ok (before ++ entries)
say_reads judge before [] [] h = ap Ok (sym (append-nil before))
say_reads judge before [] (x ∷ xs) h = absurd h
say_reads judge before (l ∷ ls) [] h = absurd h
say_reads {E} {R} judge before (l ∷ ls) (x ∷ xs) h =
    ap (λ (said : Result E R). carry l.number said (λ e. read judge (before ++ e ∷ []) ls)) h.0
    ∙ say_reads judge (before ++ x ∷ []) ls xs h.1 ∙ ap Ok (append_assoc before (x ∷ []) xs)

-- ---- the first line that breaks a rule

-- a line behind these that is the first to break a rule
record BrokenFrom {E R : Type 0} (judge : Grammar E R) (start : List E) (lines : List NumberedLine) (number : ℕ) (rule : R) : Type 0 where
  pub before : List NumberedLine
  pub line : List ℕ
  pub after : List NumberedLine
  pub lines_are : lines ≡ before ++ record { number = number; text = line } ∷ after
  pub entries : List E
  pub said : Say judge start before entries
  pub broken : judge (start ++ entries) line ≡ Err rule

broken_line : {E R : Type 0} (judge : Grammar E R) (start : List E) (l : NumberedLine) (ls : List NumberedLine) (number : ℕ) (rule : R)
    → ((x : E) → read judge (start ++ x ∷ []) ls ≡ Err (number, rule) → BrokenFrom judge (start ++ x ∷ []) ls number rule)
    → (said : Result E R) → judge start l.text ≡ said → carry l.number said (λ e. read judge (start ++ e ∷ []) ls) ≡ Err (number, rule) → BrokenFrom judge start (l ∷ ls) number rule
broken_line {E} {R} judge start l ls number rule next (Ok x) j h =
    let rest = next x h in
    record {
      before = l ∷ rest.before;
      line = rest.line;
      after = rest.after;
      lines_are = ap (λ (others : List NumberedLine). l ∷ others) rest.lines_are;
      entries = x ∷ rest.entries;
      said = (j, rest.said);
      broken = ap (λ (es : List E). judge es rest.line) (sym (append_assoc start (x ∷ []) rest.entries)) ∙ rest.broken;
    }
broken_line {E} {R} judge start l ls number rule next (Err r) j h =
    let same = err_same {A = List E} (l.number, r) (number, rule) h in
    record {
      before = [];
      line = l.text;
      after = ls;
      lines_are = ap (λ (n : ℕ). record { number = n; text = l.text } ∷ ls) (ap (λ (p : ℕ × R). p.0) same);
      entries = [];
      said = tt;
      broken = ap (λ (es : List E). judge es l.text) (append-nil start) ∙ j ∙ ap (λ (p : ℕ × R). Err p.1) same;
    }

broken_from : {E R : Type 0} (judge : Grammar E R) (start : List E) (lines : List NumberedLine) (number : ℕ) (rule : R) → read judge start lines ≡ Err (number, rule) → BrokenFrom judge start lines number rule
broken_from judge start [] number rule e = absurd (ok_err start (number, rule) e)
broken_from judge start (l ∷ ls) number rule e = broken_line judge start l ls number rule (λ x h. broken_from judge (start ++ x ∷ []) ls number rule h) (judge start l.text) refl e

pub read_breaks : {E R : Type 0} (judge : Grammar E R) (lines : List NumberedLine) (number : ℕ) (rule : R) → read judge [] lines ≡ Err (number, rule) → IsFirstBroken judge lines number rule
read_breaks judge lines number rule e =
    let b = broken_from judge [] lines number rule e in
    record { before = b.before; line = b.line; after = b.after; lines_are = b.lines_are; entries = b.entries; said = b.said; broken = b.broken }

-- lines that say entries are read, and what stands behind them is read on
read_on : {E R : Type 0} (judge : Grammar E R) (start : List E) (before after : List NumberedLine) (entries : List E) → Say judge start before entries → read judge start (before ++ after) ≡ read judge (start ++ entries) after
read_on {E} judge start [] after [] h = ap (λ (es : List E). read judge es after) (sym (append-nil start))
read_on judge start [] after (x ∷ xs) h = absurd h
read_on judge start (l ∷ ls) after [] h = absurd h
read_on {E} {R} judge start (l ∷ ls) after (x ∷ xs) h =
    ap (λ (said : Result E R). carry l.number said (λ e. read judge (start ++ e ∷ []) (ls ++ after))) h.0
    ∙ read_on judge (start ++ x ∷ []) ls after xs h.1 ∙ ap (λ (es : List E). read judge es after) (append_assoc start (x ∷ []) xs)

pub breaks_read : {E R : Type 0} (judge : Grammar E R) (lines : List NumberedLine) (number : ℕ) (rule : R) → IsFirstBroken judge lines number rule → read judge [] lines ≡ Err (number, rule)
breaks_read {E} {R} judge lines number rule b =
    ap (read judge []) b.lines_are ∙ read_on judge [] b.before (record { number = number; text = b.line } ∷ b.after) b.entries b.said
    ∙ ap (λ (said : Result E R). carry number said (λ e. read judge (b.entries ++ e ∷ []) b.after)) b.broken

-- ---- in a loop

-- Some of the lines were read, with these entries, and these lines are still to come.
pub record IsReadTo {E R : Type 0} (judge : Grammar E R) (lines : List NumberedLine) (entries : List E) (left : List NumberedLine) : Type 0 where
  pub same : read judge [] lines ≡ read judge entries left

pub read_none : {E R : Type 0} (judge : Grammar E R) (lines : List NumberedLine) → IsReadTo judge lines [] lines
read_none judge lines = record { same = refl }

pub read_more : {E R : Type 0} (judge : Grammar E R) (lines : List NumberedLine) (entries : List E) (left : List NumberedLine) (number : ℕ) (line : List ℕ) (rest : List NumberedLine) (entry : E)
    → IsReadTo judge lines entries left → left ≡ record { number = number; text = line } ∷ rest → judge entries line ≡ Ok entry → IsReadTo judge lines (entries ++ entry ∷ []) rest
read_more {E} {R} judge lines entries left number line rest entry h is says = record {
  same = h.same ∙ ap (read judge entries) is ∙ ap (λ (said : Result E R). carry number said (λ e. read judge (entries ++ e ∷ []) rest)) says;
}

pub read_all : {E R : Type 0} (judge : Grammar E R) (lines : List NumberedLine) (entries : List E) (left : List NumberedLine) → IsReadTo judge lines entries left → left ≡ [] → Say judge [] lines entries
read_all {E} {R} judge lines entries left h is =
    let said = read_says judge [] lines entries (h.same ∙ ap (read judge entries) is) in
    subst (Say judge [] lines) (sym said.1) said.2

pub read_broken : {E R : Type 0} (judge : Grammar E R) (lines : List NumberedLine) (entries : List E) (left : List NumberedLine) (number : ℕ) (line : List ℕ) (rest : List NumberedLine) (rule : R)
    → IsReadTo judge lines entries left → left ≡ record { number = number; text = line } ∷ rest → judge entries line ≡ Err rule → IsFirstBroken judge lines number rule
read_broken {E} {R} judge lines entries left number line rest rule h is breaks =
    read_breaks judge lines number rule (h.same ∙ ap (read judge entries) is ∙ ap (λ (said : Result E R). carry number said (λ e. read judge (entries ++ e ∷ []) rest)) breaks)

-- ---- a text says one thing

pub said_once : {E R : Type 0} (judge : Grammar E R) (lines : List NumberedLine) (xs ys : List E) → Say judge [] lines xs → Say judge [] lines ys → xs ≡ ys
said_once judge lines xs ys h k = ok_same xs ys (sym (say_reads judge [] lines xs h) ∙ say_reads judge [] lines ys k)

pub said_unbroken : {E R : Type 0} (judge : Grammar E R) (lines : List NumberedLine) (xs : List E) (number : ℕ) (rule : R) → Say judge [] lines xs → IsFirstBroken judge lines number rule → ⊥
said_unbroken judge lines xs number rule h b = ok_err xs (number, rule) (sym (say_reads judge [] lines xs h) ∙ breaks_read judge lines number rule b)

pub broken_once : {E R : Type 0} (judge : Grammar E R) (lines : List NumberedLine) (n m : ℕ) (r s : R) → IsFirstBroken judge lines n r → IsFirstBroken judge lines m s → (n ≡ m) × (r ≡ s)
broken_once {E} {R} judge lines n m r s h k =
    let same = err_same {A = List E} (n, r) (m, s) (sym (breaks_read judge lines n r h) ∙ breaks_read judge lines m s k) in
    (ap (λ (p : ℕ × R). p.0) same, ap (λ (p : ℕ × R). p.1) same)

-- ---- in a loop that keeps what the entries made

pub made_push : {S E : Type 0} (add : S → E → S) (state : S) (es : List E) (e : E) → made add state (es ++ e ∷ []) ≡ add (made add state es) e
made_push add state [] e = refl
made_push add state (x ∷ xs) e = made_push add (add state x) xs e

-- Some of the lines were read, their entries made this state, and these lines are still to come.
pub record HasMade {S E R : Type 0} (add : S → E → S) (start : S) (judge : S → List ℕ → Result E R) (lines : List NumberedLine) (state : S) (left : List NumberedLine) : Type 0 where
  pub entries : List E
  pub so_far : IsReadTo (grammar_by add start judge) lines entries left
  pub is : state ≡ made add start entries

pub made_none : {S E R : Type 0} (add : S → E → S) (start : S) (judge : S → List ℕ → Result E R) (lines : List NumberedLine) (state : S) (left : List NumberedLine) → state ≡ start → left ≡ lines → HasMade add start judge lines state left
made_none add start judge lines state left e f = record { entries = []; so_far = rw f (read_none (grammar_by add start judge) lines); is = e }

pub made_more : {S E R : Type 0} (add : S → E → S) (start : S) (judge : S → List ℕ → Result E R) (lines : List NumberedLine) (state : S) (left : List NumberedLine) (number : ℕ) (line : List ℕ) (rest : List NumberedLine) (entry : E) (next : S)
    → HasMade add start judge lines state left → left ≡ record { number = number; text = line } ∷ rest → judge state line ≡ Ok entry → next ≡ add state entry → HasMade add start judge lines next rest
made_more {S} add start judge lines state left number line rest entry next h e says n = record {
  entries = h.entries ++ entry ∷ [];
  so_far = read_more (grammar_by add start judge) lines h.entries left number line rest entry h.so_far e (ap (λ (s : S). judge s line) (sym h.is) ∙ says);
  is = n ∙ ap (λ (s : S). add s entry) h.is ∙ sym (made_push add start h.entries entry);
}

-- the lines say what made the state
pub made_all : {S E R : Type 0} (add : S → E → S) (start : S) (judge : S → List ℕ → Result E R) (lines : List NumberedLine) (state : S) (left : List NumberedLine) → HasMade add start judge lines state left → left ≡ []
    → (entries : List E) × Say (grammar_by add start judge) [] lines entries × (state ≡ made add start entries)
made_all add start judge lines state left h e = (h.entries, read_all (grammar_by add start judge) lines h.entries left h.so_far e, h.is)

pub made_broken : {S E R : Type 0} (add : S → E → S) (start : S) (judge : S → List ℕ → Result E R) (lines : List NumberedLine) (state : S) (left : List NumberedLine) (number : ℕ) (line : List ℕ) (rest : List NumberedLine) (rule : R)
    → HasMade add start judge lines state left → left ≡ record { number = number; text = line } ∷ rest → judge state line ≡ Err rule → IsFirstBroken (grammar_by add start judge) lines number rule
made_broken {S} add start judge lines state left number line rest rule h e breaks =
    read_broken (grammar_by add start judge) lines h.entries left number line rest rule h.so_far e (ap (λ (s : S). judge s line) (sym h.is) ∙ breaks)

-- ---- one reading of a text, for every format

whole_once : {E R : Type 0} (judge : Grammar E R) (is_whole : List E → Bool) (lines : List NumberedLine) (a b : List E) → IsWhole judge is_whole lines a → IsWhole judge is_whole lines b → a ≡ b
whole_once judge is_whole lines a b h k = said_once judge lines a b h.said k.said

whole_unbroken : {E R : Type 0} (judge : Grammar E R) (is_whole : List E → Bool) (last : R) (lines : List NumberedLine) (past : ℕ) (a : List E) (number : ℕ) (rule : R)
    → IsWhole judge is_whole lines a → Breaks judge is_whole last lines past number rule → ⊥
whole_unbroken judge is_whole last lines past a number rule h (inl b) = said_unbroken judge lines a number rule h.said b
whole_unbroken {E} judge is_whole last lines past a number rule h (inr (n, r, u)) =
    let same = said_once judge lines u.entries a u.said h.said in
    true-false (sym h.whole ∙ ap is_whole (sym same) ∙ u.short)
  where
    true-false : true ≡ false → ⊥
    true-false e = cc

breaks_once : {E R : Type 0} (judge : Grammar E R) (is_whole : List E → Bool) (last : R) (lines : List NumberedLine) (past n m : ℕ) (r s : R)
    → Breaks judge is_whole last lines past n r → Breaks judge is_whole last lines past m s → (n ≡ m) × (r ≡ s)
breaks_once judge is_whole last lines past n m r s (inl b) (inl c) = broken_once judge lines n m r s b c
breaks_once judge is_whole last lines past n m r s (inl b) (inr (e, f, u)) = absurd (said_unbroken judge lines u.entries n r u.said b)
breaks_once judge is_whole last lines past n m r s (inr (e, f, u)) (inl c) = absurd (said_unbroken judge lines u.entries m s u.said c)
breaks_once judge is_whole last lines past n m r s (inr (e, f, u)) (inr (g, h, v)) = (e ∙ sym g, f ∙ sym h)

pub reading_once : (E R : Type 0) (judge : Grammar E R) (is_whole : List E → Bool) (last : R) (lines : List NumberedLine) (past : ℕ) → HasOneReading (IsWhole judge is_whole lines) (Breaks judge is_whole last lines past)
reading_once E R judge is_whole last lines past = record {
  value = whole_once judge is_whole lines;
  no_fault = whole_unbroken judge is_whole last lines past;
  fault = breaks_once judge is_whole last lines past;
}

-- ---- and where some rules come first in the whole text

after_once : {E F R : Type 0} (early : Grammar E R) (late : List E → Grammar F R) (lines : List NumberedLine) (a b : List F) → SayAfter early late lines a → SayAfter early late lines b → a ≡ b
after_once {E} {F} early late lines a b h k =
    let same = said_once early lines k.first h.first k.said_early h.said_early in
    said_once (late h.first) lines a b h.said (subst (λ (es : List E). Say (late es) [] lines b) same k.said)

after_unbroken : {E F R : Type 0} (early : Grammar E R) (late : List E → Grammar F R) (lines : List NumberedLine) (a : List F) (number : ℕ) (rule : R)
    → SayAfter early late lines a → BreaksAfter early late lines number rule → ⊥
after_unbroken early late lines a number rule h (inl b) = said_unbroken early lines h.first number rule h.said_early b
after_unbroken {E} early late lines a number rule h (inr b) =
    let same = said_once early lines b.first h.first b.said_early h.said_early in
    said_unbroken (late h.first) lines a number rule h.said (subst (λ (es : List E). IsFirstBroken (late es) lines number rule) same b.broken)

breaks_after_once : {E F R : Type 0} (early : Grammar E R) (late : List E → Grammar F R) (lines : List NumberedLine) (n m : ℕ) (r s : R)
    → BreaksAfter early late lines n r → BreaksAfter early late lines m s → (n ≡ m) × (r ≡ s)
breaks_after_once early late lines n m r s (inl b) (inl c) = broken_once early lines n m r s b c
breaks_after_once early late lines n m r s (inl b) (inr c) = absurd (said_unbroken early lines c.first n r c.said_early b)
breaks_after_once early late lines n m r s (inr b) (inl c) = absurd (said_unbroken early lines b.first m s b.said_early c)
breaks_after_once {E} early late lines n m r s (inr b) (inr c) =
    let same = said_once early lines c.first b.first c.said_early b.said_early in
    broken_once (late b.first) lines n m r s b.broken (subst (λ (es : List E). IsFirstBroken (late es) lines m s) same c.broken)

pub reading_after_once : (E F R : Type 0) (early : Grammar E R) (late : List E → Grammar F R) (lines : List NumberedLine) → HasOneReading (SayAfter early late lines) (BreaksAfter early late lines)
reading_after_once E F R early late lines = record { value = after_once early late lines; no_fault = after_unbroken early late lines; fault = breaks_after_once early late lines }
