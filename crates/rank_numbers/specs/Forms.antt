-- Forms, by what a nest asks of them.
use Rattle.std.specs.Prelude.{◌≡◌, ℕ, ◌<◌, Bool, cond, List, Option, Some, None, ℤ, pos, negsuc, ◌+ℤ◌, ◌-ℤ◌, ◌≤ℤ◌, int_le}
use Rattle.std.specs.List.{Contains}
use Rattle.strong_components.specs.declared.edge.Edge.{Edge}
use Rattle.rank_shape.specs.declared.moves.Moves.{Moves}
use Rattle.rank_shape.specs.Moves.{may_grow, surely_falls}

-- Operations on forms, and their bounds: over the fact of a key, and along an edge.
pub record Forms (Form : Type 0) : Type 0 where
  -- the keys are the numbers below it, and so are the candidates
  pub keys : ℕ
  pub candidates : ℕ
  -- the edges of the whole graph
  pub edges : List Edge
  -- the form 1
  pub one : Form
  -- the form of a candidate: its variable, or the negative of it
  pub direction : ℕ → Form
  -- weight times (candidate less low end) plus a form
  pub level : ℤ → ℕ → ℤ → Form → Form
  -- a form plus a number
  pub shift : Form → ℤ → Form
  -- the form passes no limit: its number of terms, its coefficients and its constant
  pub small : Form → Bool
  -- the least and the greatest value over the fact of a key
  pub lower : Form → ℕ → ℤ
  pub upper : Form → ℕ → ℤ
  -- the least value over what is known as an edge is taken
  pub before : Form → Edge → ℤ
  -- the greatest value of the form after an edge, over what is known as it is taken
  pub after : Form → Edge → ℤ
  -- the greatest value of the second form after an edge less the first before it
  pub rise : Form → Form → Edge → ℤ

-- the form, unless it passes a limit
abbrev pub in_limits : {Form : Type 0} → Forms Form → Form → Option Form
in_limits o f = cond (o.small f) (Some f) None

-- What the forms give, and no more is used of them.
pub record FormLaws {Form : Type 0} (o : Forms Form) : Type 0 where
  pub ordered : (f : Form) (k : ℕ) → k < o.keys → o.lower f k ≤ℤ o.upper f k
  -- what is known as an edge is taken is more than the key's fact
  pub before_lower : (f : Form) (e : Edge) → Contains o.edges e → o.lower f e.from ≤ℤ o.before f e
  pub rise_bound : (f g : Form) (e : Edge) → Contains o.edges e
      → (o.rise f g e) ≤ℤ (o.after g e -ℤ o.before f e)
  pub one_lower : (k : ℕ) → k < o.keys → pos 1 ≤ℤ o.lower o.one k
  pub one_upper : (k : ℕ) → k < o.keys → o.upper o.one k ≤ℤ pos 1
  pub one_after : (e : Edge) → Contains o.edges e → o.after o.one e ≤ℤ pos 1
  -- a number that is added is added to each bound
  pub shift_lower : (f : Form) (n : ℤ) (k : ℕ) → k < o.keys
      → (o.lower f k +ℤ n) ≤ℤ o.lower (o.shift f n) k
  pub shift_upper : (f : Form) (n : ℤ) (k : ℕ) → k < o.keys
      → o.upper (o.shift f n) k ≤ℤ (o.upper f k +ℤ n)
  pub shift_after : (f : Form) (n : ℤ) (e : Edge) → Contains o.edges e
      → o.after (o.shift f n) e ≤ℤ (o.after f e +ℤ n)
  pub shift_rise : (f g : Form) (m n : ℤ) (e : Edge) → Contains o.edges e
      → o.rise (o.shift f m) (o.shift g n) e ≤ℤ ((o.rise f g e +ℤ n) -ℤ m)
  -- a level above its low end adds nothing negative
  pub level_lower : (t : ℤ) (c : ℕ) (low : ℤ) (f : Form) (k : ℕ) → k < o.keys → pos 0 ≤ℤ t
      → low ≤ℤ o.lower (o.direction c) k → o.lower f k ≤ℤ o.lower (o.level t c low f) k
  -- a level rises by no more than its inner form where its own doesn't grow
  pub level_keeps : (t : ℤ) (c : ℕ) (low : ℤ) (f g : Form) (e : Edge) → Contains o.edges e
      → pos 0 ≤ℤ t → o.rise (o.direction c) (o.direction c) e ≤ℤ pos 0
      → o.rise (o.level t c low f) (o.level t c low g) e ≤ℤ o.rise f g e
  -- and by the weight less where its own surely falls
  pub level_falls : (t : ℤ) (c : ℕ) (low : ℤ) (f g : Form) (e : Edge) → Contains o.edges e
      → pos 0 ≤ℤ t → o.rise (o.direction c) (o.direction c) e ≤ℤ negsuc 0
      → o.rise (o.level t c low f) (o.level t c low g) e ≤ℤ (o.rise f g e -ℤ t)

-- A candidate may grow along an edge where its rise is at least 1, and surely falls where that is
-- at most -1.
pub record MovesOf {Form : Type 0} (o : Forms Form) (m : Moves) (all : List Edge) : Type 0 where
  pub grows : (c : ℕ) (e : Edge) → c < m.count → Contains all e
      → may_grow m c e ≡ int_le (pos 1) (o.rise (o.direction c) (o.direction c) e)
  pub falls : (c : ℕ) (e : Edge) → c < m.count → Contains all e
      → surely_falls m c e ≡ int_le (o.rise (o.direction c) (o.direction c) e) (negsuc 0)
