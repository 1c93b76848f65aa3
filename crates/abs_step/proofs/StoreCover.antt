-- The outcomes cover the machine's step: comparisons, outputs, stores, and the whole by instruction.
use Rattle.flag_relation.specs.declared.atoms.TheConstants.{MOST_ATOMS}
use Rattle.std.specs.Prelude.{◌≡◌, ◌≢◌, ℕ, ◌+◌, ◌%◌, ◌^◌, ◌<◌, ℤ, pos, ◌+ℤ◌, Bool, true, false, ◌||◌, cond, nat_eq, nat_lt, List, [], ◌∷◌, ◌++◌, map, length, Option, Some, None, IfSome}
use Rattle.std.specs.List.{list_any}
use Rattle.std.proofs.Common.{refl, arith, sym, subst, ◌∙◌, ap, suc, zero, set, get_or}
use Rattle.std.proofs.Math.Path.{ap₂}
use Rattle.std.proofs.lemmas.Int.{ints}
use Rattle.std.proofs.lemmas.Bool.{false≢true, eqb-true, eq-eqb}
use Rattle.std.proofs.lemmas.Bool.Decides.{nat_tests}
use Rattle.viper_word.specs.Words.{signed_value}
use Rattle.viper_word.specs.Signed.{signed_compares}
use Rattle.viper_word.specs.declared.kind.Kind.{Kind}
use Rattle.num_domain.specs.Domain.{Domain, Has}
use Rattle.num_domain.specs.Laws.{DomainLaws}
use Rattle.viper_word.specs.Options.{bind}
use Rattle.memory_plan.specs.Plans.{PlanLines, in_code, code_word, word_at}
use Rattle.viper_word.specs.declared.reg.Reg.{Reg}
use Rattle.viper_word.specs.declared.reg.Reg.TheVariants.{A, X, Y}
use Rattle.flag_relation.specs.declared.link.Link.{Link}
use Rattle.flag_relation.specs.declared.atom.Atom.{Atom}
use Rattle.flag_relation.specs.declared.atom.Right.{Right}
use Rattle.flag_relation.specs.declared.atom.Right.TheVariants as right
use Rattle.flag_relation.specs.declared.flag.Flag.{Flag}
use Rattle.flag_relation.specs.declared.flag.Flag.TheVariants.{Any, One, Or}
use Rattle.flag_relation.specs.Values.{Values, Regs, Pairwise, reg, at_reg, set_reg}
use Rattle.flag_relation.specs.Facts.{FactOf, values, Meets, FlagSays, LinkHolds, LinksHold, atom_holds, right_number, constant_number}
use Rattle.abs_step.specs.Results.{source_value}
use Rattle.abs_step.specs.declared.outcome.Post.{Post}
use Rattle.abs_step.specs.declared.outcome.Post.TheVariants as post
use Rattle.std.proofs.lemmas.List.{get_or-set_other, get_or-set_same}
use Rattle.std.specs.Prelude.{if◌then◌else◌}
use Rattle.std.proofs.lemmas.Option.{same_Some}
use Rattle.flag_relation.proofs.ValueLemmas.{put_related}
use Rattle.abs_step.specs.Addresses.{find_cell, is_tracked}
use Rattle.abs_step.specs.Writes.{is_among, drop_link, hits, put_cells}
use Rattle.abs_step.specs.Results.{source_value}
use Rattle.abs_step.specs.Origins.{cell_right, word_right, first_of, right_of, atom_with, atom_of, compared_flag}
use Rattle.abs_step.specs.OutcomeLists.{outcome}
use Rattle.abs_step.specs.Stores.{source_link, source_post, store_one, store_one_posts, joined_cells, unlinked, store_several, store_several_posts}
use Rattle.abs_step.specs.Posts.{PostHolds, CellPosts, PostsHold}
use Rattle.abs_step.proofs.Performing.{Numbers, env, source_number, operand_number, put_at, IsPlanOf, IsKeptBy, SomeCovers}
use Rattle.abs_step.proofs.ResultCover.{IsOperand, source_has}
use Rattle.abs_step.proofs.StepCover.{drop_says, found_at, cells_same, same_posts, outcome_covers, at_read, plus_zero}
use Rattle.viper_decode.specs.declared.instructions.Source.{Source}
use Rattle.viper_decode.specs.declared.instructions.Source.TheVariants.{Of, AfterP}
use Rattle.viper_decode.specs.declared.instructions.Place.TheVariants.{At, Index}
use Rattle.viper_decode.specs.declared.instructions.Operand.{Operand}
use Rattle.viper_decode.specs.declared.instructions.Operand.TheVariants.{Literal, Memory, Peripheral}

-- ---- comparisons

or_false : (x y : Bool) → x ≡ y → y ≡ (x || false)
or_false true y h = sym h
or_false false y h = sym h

any_append : {S : Type 0} (p : S → Bool) (l : List S) (a : S) → list_any p (l ++ (a ∷ [])) ≡ (list_any p l || p a)
any_append p [] a = or_none (p a)
  where
    or_none : (x : Bool) → (x || false) ≡ x
    or_none true = refl
    or_none false = refl
any_append p (s ∷ l) a = or_more (p s) (list_any p (l ++ (a ∷ []))) (list_any p l) (p a) (any_append p l a)
  where
    or_more : (x y z w : Bool) → y ≡ (z || w) → (x || y) ≡ ((x || z) || w)
    or_more true y z w h = refl
    or_more false y z w h = h

pub compared_says : (joined : Bool) (a : Option Atom) (old : Flag) (e : Values ℤ) (b h : Bool) → IfSome a (λ a. atom_holds e a ≡ h) → FlagSays old e b → FlagSays (compared_flag joined a old) e (cond joined (b || h) h)
unfolding compared_flag
compared_says false None old e b h k m = tt
compared_says false (Some a) old e b h k m = or_false (atom_holds e a) h k
compared_says true None Any e b h k m = tt
compared_says true (Some a) Any e b h k m = tt
compared_says true None One e b h k m = ap (λ (x : Bool). x || h) m
compared_says true (Some a) One e b h k m = ap (λ (x : Bool). x || h) m
compared_says true None (Or l) e b h k m = tt
compared_says true (Some a) (Or l) e b h k m = by_test (nat_lt (length l) MOST_ATOMS)
  where
    by_test : (t : Bool) → FlagSays (cond t (Or (l ++ (a ∷ []))) Any) e (b || h)
    by_test true = ap₂ (λ (x : Bool) (y : Bool). x || y) m (sym k) ∙ sym (any_append (λ w. atom_holds e w) l a)
    by_test false = tt

small_constant : (n : ℕ) (m : ℤ) → n < 2 ^ 20 → m ≡ pos n → constant_number (record { 0 = n }) ≡ m
small_constant n m h e = omega (arith, ints)

whole_word : (w : ℕ) → w < 2 ^ 32 → w % 2 ^ 32 ≡ w
whole_word w h = omega arith

module _ (plan : PlanLines) (mem : ℕ → ℤ) (a : ℕ) where
  word_is : IsKeptBy plan mem → in_code plan a ≡ true → (o : Option ℕ) → word_at plan.image a ≡ o → IfSome o (λ w. constant_number (record { 0 = w }) ≡ mem a)
  word_is kept c None e = tt
  word_is kept c (Some w) e = let h = kept.code a w c e in ap signed_value (whole_word w h.1) ∙ sym h.0

  code_is : IsKeptBy plan mem → IfSome (code_word plan a) (λ w. constant_number (record { 0 = w }) ≡ mem a)
  code_is kept = by_test (in_code plan a) refl
    where
      by_test : (b : Bool) → in_code plan a ≡ b → IfSome (if b then word_at plan.image a else None) (λ w. constant_number (record { 0 = w }) ≡ mem a)
      by_test true e = word_is kept e (word_at plan.image a) refl
      by_test false e = tt

module _ (plan : PlanLines) (cells : List ℕ) (s : Numbers) where
  first_is : (y : ℤ) (o q : Option ℕ) → IfSome o (λ i. (get_or (map s.mem cells) i (pos 0) ≡ y) × (i < length (map s.mem cells))) → IfSome q (λ w. constant_number (record { 0 = w }) ≡ y) → IfSome (first_of (cell_right o) (word_right q)) (λ w. right_number (env cells s) w ≡ y)
  first_is y (Some i) q h k = h.0
  first_is y None None h k = tt
  first_is y None (Some w) h k = k

  pub right_of_is : {T : Type 0} (d : Domain T) (laws : DomainLaws d) (answer : ℤ) (o : Operand) (m : ℤ) → IsOperand d laws o → IsPlanOf plan → IsKeptBy plan s.mem → operand_number s answer o ≡ Some m → IfSome (right_of plan cells o) (λ w. right_number (env cells s) w ≡ m)
  unfolding operand_number
  right_of_is d laws answer (Literal n) m i fits kept h = small_constant n m i (sym (same_Some (pos n) m h))
  right_of_is d laws answer (Memory (At a)) m i fits kept h =
      subst (λ (y : ℤ). IfSome (first_of (cell_right (find_cell cells a)) (word_right (code_word plan a))) (λ w. right_number (env cells s) w ≡ y)) (sym (at_read s a m h))
      (first_is (s.mem a) (find_cell cells a) (code_word plan a) (found_at s.mem cells a) (code_is plan s.mem a kept))
  right_of_is d laws answer (Memory (Index a r)) m i fits kept h = tt
  right_of_is d laws answer (Peripheral p) m i fits kept h = tt

  pub atom_is : (k : Kind) (l : Source) (o : Operand) (m : ℤ) → IfSome (right_of plan cells o) (λ w. right_number (env cells s) w ≡ m) → IfSome (atom_of plan cells k l o) (λ a. atom_holds (env cells s) a ≡ signed_compares k (source_number s l) m)
  unfolding atom_holds
  atom_is k AfterP o m h = tt
  atom_is k (Of r) o m h = with_right (right_of plan cells o) h
    where
      with_right : (w : Option Right) → IfSome w (λ w. right_number (env cells s) w ≡ m) → IfSome (atom_with k r w) (λ a. signed_compares a.kind (reg (env cells s) a.left) (right_number (env cells s) a.right) ≡ signed_compares k (at_reg s.regs r) m)
      with_right None h = tt
      with_right (Some w) h = ap (signed_compares k (at_reg s.regs r)) h

-- ---- stores

abbrev pub Distinct : List ℕ → Type 0
Distinct [] = Unit {0}
Distinct (c ∷ cs) = (is_tracked cs c ≡ false) × Distinct cs

eq_false : (m n : ℕ) → nat_eq m n ≡ false → m ≢ n
eq_false m n h = grind (arith, nat_tests)

back_false : (c a : ℕ) → nat_eq c a ≡ false → nat_eq a c ≡ false
back_false c a e = let n = eq_false c a e in grind (arith, nat_tests)

untouched : (mem : ℕ → ℤ) (a : ℕ) (z : ℤ) (cells : List ℕ) → is_tracked cells a ≡ false → map (put_at mem a z) cells ≡ map mem cells
untouched mem a z [] h = refl
untouched mem a z (c ∷ cs) h = by_test (nat_eq c a) refl h (λ k. untouched mem a z cs k)
  where
    by_test : (t : Bool) → nat_eq c a ≡ t → (t || is_tracked cs a) ≡ false → (is_tracked cs a ≡ false → map (put_at mem a z) cs ≡ map mem cs) → (put_at mem a z c ∷ map (put_at mem a z) cs) ≡ (mem c ∷ map mem cs)
    by_test true e k f = absurd (false≢true (sym k))
    by_test false e k f = ap₂ (λ (x : ℤ) (xs : List ℤ). x ∷ xs) (ap (λ (b : Bool). cond b z (mem c)) (back_false c a e)) (f k)

abbrev pub after_store : List ℤ → Option ℕ → ℤ → List ℤ
after_store ns None z = ns
after_store ns (Some i) z = set ns i z

stored_cells : (mem : ℕ → ℤ) (a : ℕ) (z : ℤ) (cells : List ℕ) → Distinct cells → map (put_at mem a z) cells ≡ after_store (map mem cells) (find_cell cells a) z
stored_cells mem a z [] h = refl
stored_cells mem a z (c ∷ cs) h = by_test (nat_eq c a) refl (find_cell cs a) (stored_cells mem a z cs h.1)
  where
    by_test : (t : Bool) → nat_eq c a ≡ t → (o : Option ℕ) → map (put_at mem a z) cs ≡ after_store (map mem cs) o z → (put_at mem a z c ∷ map (put_at mem a z) cs) ≡ after_store (mem c ∷ map mem cs) (cond t (Some 0) (bind o (λ i. Some (suc i)))) z
    by_test true e o k =
        let p : a ≡ c = sym (eqb-true c a e) in
        ap₂ (λ (x : ℤ) (xs : List ℤ). x ∷ xs) (ap (λ (b : Bool). cond b z (mem c)) (eq-eqb a c p)) (untouched mem a z cs (subst (λ (n : ℕ). is_tracked cs n ≡ false) (eqb-true c a e) h.0))
    by_test false e None k = ap₂ (λ (x : ℤ) (xs : List ℤ). x ∷ xs) (ap (λ (b : Bool). cond b z (mem c)) (back_false c a e)) k
    by_test false e (Some i) k = ap₂ (λ (x : ℤ) (xs : List ℤ). x ∷ xs) (ap (λ (b : Bool). cond b z (mem c)) (back_false c a e)) k

cells_put : (e : Values ℤ) (p : Post) (z : ℤ) (ps : List Post) (os ns : List ℤ) (i : ℕ) → CellPosts e ps os ns → PostHolds e p (get_or os i (pos 0)) z → CellPosts e (set ps i p) os (set ns i z)
cells_put e p z [] [] [] i h k = tt
cells_put e p z [] [] (n ∷ ns) i h k = absurd h
cells_put e p z [] (o ∷ os) ns i h k = absurd h
cells_put e p z (q ∷ ps) [] ns i h k = absurd h
cells_put e p z (q ∷ ps) (o ∷ os) [] i h k = absurd h
cells_put e p z (q ∷ ps) (o ∷ os) (n ∷ ns) zero h k = (k, h.1)
cells_put e p z (q ∷ ps) (o ∷ os) (n ∷ ns) (suc i) h k = (h.0, cells_put e p z ps os ns i h.1 k)

-- a cell that doesn't pass stays where the address passes
unhit : (p : ℕ → Bool) (mem : ℕ → ℤ) (n : ℕ) (z : ℤ) (cells : List ℕ) (j : ℕ) → p n ≡ true → hits p cells j ≡ false → get_or (map (put_at mem n z) cells) j (pos 0) ≡ get_or (map mem cells) j (pos 0)
unhit p mem n z [] j t h = refl
unhit p mem n z (c ∷ cs) zero t h = by_test (nat_eq n c) refl
  where
    by_test : (b : Bool) → nat_eq n c ≡ b → cond b z (mem c) ≡ mem c
    by_test true e = absurd (false≢true (sym h ∙ subst (λ (k : ℕ). p k ≡ true) (eqb-true n c e) t))
    by_test false e = refl
unhit p mem n z (c ∷ cs) (suc j) t h = unhit p mem n z cs j t h

several_posts : (e : Values ℤ) (p : ℕ → Bool) (mem : ℕ → ℤ) (n : ℕ) (z : ℤ) (cells : List ℕ) → p n ≡ true → CellPosts e (map (λ c. cond (p c) post.Within post.Same) cells) (map mem cells) (map (put_at mem n z) cells)
several_posts e p mem n z [] t = tt
several_posts e p mem n z (c ∷ cs) t = (by_tests (p c) refl (nat_eq n c) refl, several_posts e p mem n z cs t)
  where
    by_tests : (b : Bool) → p c ≡ b → (w : Bool) → nat_eq n c ≡ w → PostHolds e (cond b post.Within post.Same) (mem c) (cond w z (mem c))
    by_tests true i w j = tt
    by_tests false i true j = absurd (false≢true (sym i ∙ subst (λ (k : ℕ). p k ≡ true) (eqb-true n c j) t))
    by_tests false i false j = refl

set_links : (links : Regs (Option Link)) (e : Values ℤ) → LinksHold links e → (r : Reg) (o : Option Link) → LinkHolds e r o → LinksHold (set_reg links r o) e
set_links links e h A o k = record { a = k; x = h.x; y = h.y }
set_links links e h X o k = record { a = h.a; x = k; y = h.y }
set_links links e h Y o k = record { a = h.a; x = h.x; y = k }

module _ {T : Type 0} (d : Domain T) (laws : DomainLaws d) where
  kept_link : (e : Values ℤ) (ns : List ℤ) (s : Reg) (l : Link) (hit : ℕ → Bool) (t : Bool) → hit l.cell ≡ t → ((j : ℕ) → hit j ≡ false → get_or ns j (pos 0) ≡ get_or e.cells j (pos 0)) → LinkHolds e s (Some l) → LinkHolds (record { regs = e.regs; cells = ns }) s (cond t None (Some l))
  kept_link e ns s l hit true h f k = tt
  kept_link e ns s l hit false h f k = k ∙ ap (λ (z : ℤ). z +ℤ l.offset) (sym (f l.cell h))

  dropped_link : (e : Values ℤ) (ns : List ℤ) (s : Reg) (o : Option Link) (hit : ℕ → Bool) → ((j : ℕ) → hit j ≡ false → get_or ns j (pos 0) ≡ get_or e.cells j (pos 0)) → LinkHolds e s o → LinkHolds (record { regs = e.regs; cells = ns }) s (drop_link hit o)
  dropped_link e ns s None hit f h = tt
  dropped_link e ns s (Some l) hit f h = kept_link e ns s l hit (hit l.cell) refl f h

  right_same : (e : Values ℤ) (ns : List ℤ) (hit : ℕ → Bool) (w : Right) → ((j : ℕ) → hit j ≡ false → get_or ns j (pos 0) ≡ get_or e.cells j (pos 0)) → is_among hit w ≡ false → right_number (record { regs = e.regs; cells = ns }) w ≡ right_number e w
  right_same e ns hit (right.Cell j) f h = f j h
  right_same e ns hit (right.Const w) f h = refl

  atom_same : (e : Values ℤ) (ns : List ℤ) (hit : ℕ → Bool) (a : Atom) → ((j : ℕ) → hit j ≡ false → get_or ns j (pos 0) ≡ get_or e.cells j (pos 0)) → is_among hit a.right ≡ false → atom_holds (record { regs = e.regs; cells = ns }) a ≡ atom_holds e a
  unfolding atom_holds
  atom_same e ns hit a f h = ap (signed_compares a.kind (reg e a.left)) (right_same e ns hit a.right f h)

  -- cells change only where the test passes
  put_cells_meets : (f : FactOf T) (e : Values ℤ) (b : Bool) (vs : List T) (ns : List ℤ) (hit : ℕ → Bool) → Meets d f e b → Pairwise (Has d) vs ns → ((j : ℕ) → hit j ≡ false → get_or ns j (pos 0) ≡ get_or e.cells j (pos 0)) → Meets d (put_cells f vs hit) (record { regs = e.regs; cells = ns }) b
  unfolding put_cells
  put_cells_meets f e b vs ns hit h k t = record {
    values = record { regs = h.values.regs; cells = k };
    links = record { a = dropped_link e ns A f.links.a hit t h.links.a; x = dropped_link e ns X f.links.x hit t h.links.x; y = dropped_link e ns Y f.links.y hit t h.links.y };
    flag = drop_says (λ a. is_among hit a.right) e (record { regs = e.regs; cells = ns }) b (λ a i. atom_same e ns hit a t i) f.flag h.flag;
  }

  source_link_meets : (f : FactOf T) (e : Values ℤ) (b : Bool) (s : Source) (l : Option Link) → Meets d f e b → ((r : Reg) → s ≡ Of r → LinkHolds e r l) → Meets d (source_link d f s l) e b
  source_link_meets f e b AfterP l h k = h
  source_link_meets f e b (Of r) l h k = record { values = h.values; links = set_links f.links e h.links r l (k r refl); flag = h.flag }

  unlinked_meets : (t : Bool) (f : FactOf T) (e : Values ℤ) (b : Bool) (s : Source) → Meets d f e b → Meets d (unlinked d t f s) e b
  unlinked_meets true f e b s h = source_link_meets f e b s None h (λ r i. tt)
  unlinked_meets false f e b s h = h

  joined_has : (p : ℕ → Bool) (mem : ℕ → ℤ) (n : ℕ) (z : ℤ) (cells : List ℕ) (vs : List T) (w : T) → p n ≡ true → Has d w z → Pairwise (Has d) vs (map mem cells) → Pairwise (Has d) (joined_cells d p cells vs w) (map (put_at mem n z) cells)
  unfolding joined_cells
  joined_has p mem n z [] vs w t k h = h
  joined_has p mem n z (c ∷ cs) [] w t k h = absurd h
  joined_has p mem n z (c ∷ cs) (v ∷ vs) w t k h = (by_tests (p c) refl (nat_eq n c) refl, joined_has p mem n z cs vs w t k h.1)
    where
      by_tests : (b : Bool) → p c ≡ b → (e : Bool) → nat_eq n c ≡ e → Has d (cond b (d.join v w) v) (cond e z (mem c))
      by_tests true i true j = laws.order.has w (d.join v w) z (laws.order.join_right v w) k
      by_tests true i false j = laws.order.has v (d.join v w) (mem c) (laws.order.join_left v w) h.0
      by_tests false i true j = absurd (false≢true (sym i ∙ subst (λ (q : ℕ). p q ≡ true) (eqb-true n c j) t))
      by_tests false i false j = h.0

  abbrev pub after_put : Numbers → ℕ → ℤ → Numbers
  after_put s n z = record { regs = s.regs; mem = put_at s.mem n z; b = s.b; p = s.p + 1 }

  link_there : (cells : List ℕ) (s : Numbers) (ns : List ℤ) (i : ℕ) (l : Source) (r : Reg) → l ≡ Of r → i < length ns → LinkHolds (record { regs = s.regs; cells = set ns i (source_number s l) }) r (Some (record { cell = i; offset = pos 0 }))
  link_there cells s ns i l r e h = subst (λ (w : Source). at_reg s.regs r ≡ (get_or (set ns i (source_number s w)) i (pos 0) +ℤ pos 0)) (sym e)
      (plus_zero (at_reg s.regs r) ∙ ap (λ (w : ℤ). w +ℤ pos 0) (sym (get_or-set_same ns i (at_reg s.regs r) (pos 0) h)))

  one_meets : (cells : List ℕ) (f : FactOf T) (s : Numbers) (l : Source) (y : ℤ) (o : Option ℕ) → s.p < 2 ^ 20 → IfSome o (λ i. (get_or (map s.mem cells) i (pos 0) ≡ y) × (i < length (map s.mem cells))) → Meets d f (env cells s) s.b → Meets d (store_one d s.p f l o) (record { regs = s.regs; cells = after_store (map s.mem cells) o (source_number s l) }) s.b
  unfolding store_one
  one_meets cells f s l y None at h m = m
  one_meets cells f s l y (Some i) at h m =
      let z = source_number s l in
      let w = source_value d s.p (values f) l in
      source_link_meets (put_cells f (set f.cells i w) (nat_eq i)) (record { regs = s.regs; cells = set (map s.mem cells) i z }) s.b l (Some (record { cell = i; offset = pos 0 }))
      (put_cells_meets f (env cells s) s.b (set f.cells i w) (set (map s.mem cells) i z) (nat_eq i) m (put_related (Has d) f.cells (map s.mem cells) m.values.cells i w z (source_has d laws (values f) s cells l at m.values))
      (λ j e. get_or-set_other (map s.mem cells) i j z (pos 0) (apart i j e)))
      (λ r e. link_there cells s (map s.mem cells) i l r e h.1)
    where
      apart : (i j : ℕ) → nat_eq i j ≡ false → j ≢ i
      apart i j h = grind (arith, nat_tests)

  source_post_holds : (cells : List ℕ) (s : Numbers) (l : Source) (old : ℤ) → PostHolds (env cells s) (source_post d l) old (source_number s l)
  source_post_holds cells s AfterP old = tt
  source_post_holds cells s (Of r) old = plus_zero (at_reg s.regs r)

  one_posts : (cells : List ℕ) (s : Numbers) (l : Source) (o : Option ℕ) → PostsHold (store_one_posts d cells l o) (env cells s) (record { regs = s.regs; cells = after_store (map s.mem cells) o (source_number s l) })
  one_posts cells s l None = same_posts cells s
  one_posts cells s l (Some i) = record { a = refl; x = refl; y = refl; cells = cells_put (env cells s) (source_post d l) (source_number s l) (map (λ _. post.Same) cells) (map s.mem cells) (map s.mem cells) i (cells_same (env cells s) s.mem cells) (source_post_holds cells s l (get_or (map s.mem cells) i (pos 0))) }

  pub one_covers : (cells : List ℕ) (f : FactOf T) (s : Numbers) (l : Source) (n : ℕ) → s.p < 2 ^ 20 → Distinct cells → Meets d f (env cells s) s.b → SomeCovers d cells s (after_put s n (source_number s l)) (outcome d (s.p + 1) f (store_one d s.p f l (find_cell cells n)) (store_one_posts d cells l (find_cell cells n)))
  one_covers cells f s l n at apart m =
      let e = stored_cells s.mem n (source_number s l) cells apart in
      let o = find_cell cells n in
      outcome_covers d laws cells s (after_put s n (source_number s l)) f (store_one d s.p f l o) (store_one_posts d cells l o) m
      (subst (λ (cs : List ℤ). Meets d (store_one d s.p f l o) (record { regs = s.regs; cells = cs }) s.b) (sym e) (one_meets cells f s l (s.mem n) o at (found_at s.mem cells n) m))
      (subst (λ (cs : List ℤ). PostsHold (store_one_posts d cells l o) (env cells s) (record { regs = s.regs; cells = cs })) (sym e) (one_posts cells s l o))

  pub several_covers : (p : ℕ → Bool) (cells : List ℕ) (f : FactOf T) (s : Numbers) (l : Source) (n : ℕ) → p n ≡ true → s.p < 2 ^ 20 → Meets d f (env cells s) s.b → SomeCovers d cells s (after_put s n (source_number s l)) (outcome d (s.p + 1) f (store_several d p cells s.p f l) (store_several_posts d p cells))
  unfolding store_several
  several_covers p cells f s l n t at m =
      let z = source_number s l in
      let w = source_value d s.p (values f) l in
      outcome_covers d laws cells s (after_put s n z) f _ (store_several_posts d p cells) m
      (unlinked_meets (list_any p cells) (put_cells f (joined_cells d p cells f.cells w) (hits p cells)) (env cells (after_put s n z)) s.b l
      (put_cells_meets f (env cells s) s.b (joined_cells d p cells f.cells w) (map (put_at s.mem n z) cells) (hits p cells) m (joined_has p s.mem n z cells f.cells w t (source_has d laws (values f) s cells l at m.values) m.values.cells) (λ j e. unhit p s.mem n z cells j t e)))
      (record { a = refl; x = refl; y = refl; cells = several_posts (env cells s) p s.mem n z cells t })
