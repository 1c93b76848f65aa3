-- The outcomes cover the machine's step, kind of instruction by kind.
use Rattle.std.specs.Prelude.{◌≡◌, ℕ, ◌+◌, ◌-◌, ◌^◌, ◌<◌, ◌≤◌, ℤ, pos, neg_ℤ, nat_abs, ◌+ℤ◌, ◌-ℤ◌, ◌≤ℤ◌, int_le, Bool, true, false, not, ◌&&◌, ◌||◌, cond, nat_eq, List, [], ◌∷◌, ◌++◌, map, length, Option, Some, None, IfSome, IsSomeAnd}
use Rattle.std.specs.List.{list_any, flat_map}
use Rattle.std.proofs.Common.{refl, arith, sym, subst, ◌∙◌, ap, ⊎_elim, inl, inr, suc, zero, get_or}
use Rattle.std.proofs.Math.Path.{ap₂}
use Rattle.std.proofs.Math.Nat.{eq-or-lt_of_le}
use Rattle.std.proofs.lemmas.Int.{ints}
use Rattle.std.proofs.lemmas.Bool.{and_parts, and_from, or_parts, false≢true, eqb-true}
use Rattle.std.proofs.lemmas.Option.{same_Some}
use Rattle.viper_word.specs.Signed.{signed_compares}
use Rattle.num_domain.specs.Domain.{Domain, Has}
use Rattle.num_domain.specs.Laws.{DomainLaws}
use Rattle.viper_word.specs.Options.{bind}
use Rattle.num_domain.specs.Ends.{ends, is_point}
use Rattle.num_domain.proofs.EndsLaws.{ends_has, point_has}
use Rattle.memory_plan.specs.Plans.{PlanLines, in_code}
use Rattle.viper_word.specs.declared.reg.Reg.{Reg}
use Rattle.viper_word.specs.declared.reg.Reg.TheVariants.{A, X, Y}
use Rattle.flag_relation.specs.declared.var.Var.TheVariants as var
use Rattle.flag_relation.specs.declared.link.Link.{Link}
use Rattle.flag_relation.specs.declared.atom.Atom.{Atom}
use Rattle.flag_relation.specs.declared.atom.Right.{Right}
use Rattle.flag_relation.specs.declared.atom.Right.TheVariants as right
use Rattle.flag_relation.specs.declared.flag.Flag.{Flag}
use Rattle.flag_relation.specs.declared.flag.Flag.TheVariants.{Any, One, Or}
use Rattle.flag_relation.specs.Values.{Values, Regs, reg, at_reg, set_reg, cell, with_reg}
use Rattle.flag_relation.specs.Equality.{reg_number}
use Rattle.flag_relation.specs.Facts.{FactOf, values, Meets, FlagSays, LinkHolds, LinksHold, atom_holds, right_number}
use Rattle.flag_relation.proofs.ValueLemmas.{with_reg_related}
use Rattle.flag_relation.proofs.AllLaws.{fact_laws}
use Rattle.abs_step.specs.Addresses.{any_from, passing, find_cell}
use Rattle.abs_step.specs.Writes.{is_on_reg, drop_flag, put_reg}
use Rattle.abs_step.specs.Results.{ends_within, result_value, source_value}
use Rattle.abs_step.specs.Origins.{sets_bit, link_if_small, moved_link, cell_post, origin, link_of}
use Rattle.abs_step.specs.OutcomeLists.{OutcomeOf, all_same, each, is_live, live, outcome}
use Rattle.abs_step.specs.Outcomes.{flag_set, assigned, linked, linked_posts, is_target, jumps, performed}
use Rattle.abs_step.specs.Conditions.{work_lawful, work_exact, targets_lawful}
use Rattle.abs_step.specs.Posts.{PostHolds, CellPosts, PostsHold}
use Rattle.abs_step.proofs.Performing.{Numbers, env, lawful, operand_number, exactly, function_number, result_number, function_bit, shift_bit, bit_after, perform, IsPlanOf, IsKeptBy, Covered, SomeCovers}
use Rattle.viper_word.specs.declared.profile.Profile.{Profile}
use Rattle.viper_word.specs.declared.profile.Profile.TheVariants as profile
use Rattle.abs_step.specs.declared.outcome.Post.{Post}
use Rattle.abs_step.specs.declared.outcome.Post.TheVariants as post
use Rattle.abs_step.proofs.ResultCover.{none_at, lawful_some, within_from, IsWork, IsFairWork, source_has, result_has}
use Rattle.viper_decode.specs.declared.instructions.Source.TheVariants.{Of, AfterP}
use Rattle.viper_decode.specs.declared.instructions.Place.TheVariants.{At, Index}
use Rattle.viper_decode.specs.declared.instructions.Operand.TheVariants.{Literal, Memory, Peripheral}
use Rattle.viper_decode.specs.declared.instructions.Function.TheVariants.{Neg, Call, Inp, Read, Addb, Adds, Subb, Subs, Xor, And, Nor, Andn}
use Rattle.viper_decode.specs.declared.instructions.Shift.TheVariants as shift
use Rattle.viper_decode.specs.declared.instructions.Work.{Work}
use Rattle.viper_decode.specs.declared.instructions.Work.TheVariants.{Apply, Move}
use Rattle.viper_decode.specs.declared.instructions.Instruction.TheVariants.{Assign}
use Rattle.viper_word.proofs.Options.{some_bind_is}

-- ---- a write to a register

at_other : {T : Type 0} (v : Regs T) (r s : Reg) (t : T) → nat_eq (reg_number r) (reg_number s) ≡ false → at_reg (set_reg v r t) s ≡ at_reg v s
at_other v A A t h = absurd (false≢true (sym h))
at_other v A X t h = refl
at_other v A Y t h = refl
at_other v X A t h = refl
at_other v X X t h = absurd (false≢true (sym h))
at_other v X Y t h = refl
at_other v Y A t h = refl
at_other v Y X t h = refl
at_other v Y Y t h = absurd (false≢true (sym h))

at_set : {S : Type 0} (v : Regs S) (r : Reg) (t : S) → at_reg (set_reg v r t) r ≡ t
at_set v A t = refl
at_set v X t = refl
at_set v Y t = refl

right_with_reg : (e : Values ℤ) (r : Reg) (n : ℤ) (w : Right) → right_number (with_reg e r n) w ≡ right_number e w
right_with_reg e r n (right.Cell i) = refl
right_with_reg e r n (right.Const w) = refl

atom_with_reg : (e : Values ℤ) (r : Reg) (n : ℤ) (a : Atom) → is_on_reg r a ≡ false → atom_holds (with_reg e r n) a ≡ atom_holds e a
unfolding atom_holds
atom_with_reg e r n a h = ap₂ (signed_compares a.kind) (at_other e.regs r a.left n h) (right_with_reg e r n a.right)

atoms_same : (p : Atom → Bool) (e e' : Values ℤ) → ((a : Atom) → p a ≡ false → atom_holds e' a ≡ atom_holds e a) → (l : List Atom) → list_any p l ≡ false → list_any (λ a. atom_holds e' a) l ≡ list_any (λ a. atom_holds e a) l
atoms_same p e e' f [] h = refl
atoms_same p e e' f (a ∷ l) h = let k = or_parts (p a) (list_any p l) h in ap₂ (λ (x : Bool) (y : Bool). x || y) (f a k.0) (atoms_same p e e' f l k.1)

kept_says : (l : List Atom) (e e' : Values ℤ) (b t : Bool) → (t ≡ false → list_any (λ a. atom_holds e' a) l ≡ list_any (λ a. atom_holds e a) l) → b ≡ list_any (λ a. atom_holds e a) l → FlagSays (cond t Any (Or l)) e' b
kept_says l e e' b true f h = tt
kept_says l e e' b false f h = h ∙ sym (f refl)

pub drop_says : (p : Atom → Bool) (e e' : Values ℤ) (b : Bool) → ((a : Atom) → p a ≡ false → atom_holds e' a ≡ atom_holds e a) → (g : Flag) → FlagSays g e b → FlagSays (drop_flag p g) e' b
drop_says p e e' b f Any h = tt
drop_says p e e' b f One h = h
drop_says p e e' b f (Or l) h = kept_says l e e' b (list_any p l) (atoms_same p e e' f l) h

link_moves : (e e' : Values ℤ) (s : Reg) (o : Option Link) → reg e' s ≡ reg e s → e'.cells ≡ e.cells → LinkHolds e s o → LinkHolds e' s o
link_moves e e' s None h k m = tt
link_moves e e' s (Some l) h k m = h ∙ m ∙ ap (λ (cs : List ℤ). (get_or cs l.cell (pos 0)) +ℤ l.offset) (sym k)

links_after_reg : (links : Regs (Option Link)) (e : Values ℤ) (r : Reg) (n : ℤ) (o : Option Link) → LinksHold links e → LinkHolds (with_reg e r n) r o → LinksHold (set_reg links r o) (with_reg e r n)
links_after_reg links e A n o h k = record { a = k; x = link_moves e (with_reg e A n) X links.x refl refl h.x; y = link_moves e (with_reg e A n) Y links.y refl refl h.y }
links_after_reg links e X n o h k = record { a = link_moves e (with_reg e X n) A links.a refl refl h.a; x = k; y = link_moves e (with_reg e X n) Y links.y refl refl h.y }
links_after_reg links e Y n o h k = record { a = link_moves e (with_reg e Y n) A links.a refl refl h.a; x = link_moves e (with_reg e Y n) X links.x refl refl h.x; y = k }

at_links : (links : Regs (Option Link)) (e : Values ℤ) → LinksHold links e → (r : Reg) → LinkHolds e r (at_reg links r)
at_links links e h A = h.a
at_links links e h X = h.x
at_links links e h Y = h.y

-- ---- where a result comes from

small_link : (e : Values ℤ) (r : Reg) (i : ℕ) (n z : ℤ) → z ≡ cell (pos 0) e i +ℤ n → LinkHolds (with_reg e r z) r (link_if_small i n)
unfolding link_if_small
small_link e r i n z h = by_test (int_le (neg_ℤ (pos (2 ^ 32 - 1))) n && int_le n (pos (2 ^ 32 - 1)))
  where
    by_test : (t : Bool) → LinkHolds (with_reg e r z) r (cond t (Some (record { cell = i; offset = n })) None)
    by_test true = at_set e.regs r z ∙ h
    by_test false = tt

sums : (x c o n z : ℤ) → x ≡ c +ℤ o → z ≡ x +ℤ n → z ≡ c +ℤ (o +ℤ n)
sums x c o n z p q = omega (arith, ints)

moved_holds : (e : Values ℤ) (r l : Reg) (n z : ℤ) (o : Option Link) → LinkHolds e l o → z ≡ reg e l +ℤ n → LinkHolds (with_reg e r z) r (moved_link n o)
moved_holds e r l n z None h k = tt
moved_holds e r l n z (Some w) h k = small_link e r w.cell (w.offset +ℤ n) z (sums (reg e l) (cell (pos 0) e w.cell) w.offset n z h k)

link_of_holds : (links : Regs (Option Link)) (e : Values ℤ) (r : Reg) (z old : ℤ) (p : Post) → LinksHold links e → PostHolds e p old z → LinkHolds (with_reg e r z) r (link_of links p)
unfolding link_of
link_of_holds links e r z old post.Same h k = tt
link_of_holds links e r z old (post.Plus (var.Cell i) n) h k = small_link e r i n z k
link_of_holds links e r z old (post.Plus (var.Reg l) n) h k = moved_holds e r l n z (at_reg links l) (at_links links e h l) k
link_of_holds links e r z old post.Within h k = tt

-- the cell that was found, at its place
pub found_at : (mem : ℕ → ℤ) (cells : List ℕ) (a : ℕ) → IfSome (find_cell cells a) (λ i. (get_or (map mem cells) i (pos 0) ≡ mem a) × (i < length (map mem cells)))
found_at mem [] a = tt
found_at mem (c ∷ cs) a = by_test (nat_eq c a) refl (find_cell cs a) (found_at mem cs a)
  where
    by_test : (t : Bool) → nat_eq c a ≡ t → (o : Option ℕ) → IfSome o (λ i. (get_or (map mem cs) i (pos 0) ≡ mem a) × (i < length (map mem cs))) → IfSome (cond t (Some 0) (bind o (λ i. Some (suc i)))) (λ i. (get_or (mem c ∷ map mem cs) i (pos 0) ≡ mem a) × (i < length (mem c ∷ map mem cs)))
    by_test true e o h = (ap mem (eqb-true c a e), omega arith)
    by_test false e None h = tt
    by_test false e (Some i) h = (h.0, let k = h.1 in omega arith)

pub plus_zero : (x : ℤ) → x ≡ x +ℤ pos 0
plus_zero x = omega (arith, ints)

cell_post_holds : (cells : List ℕ) (s : Numbers) (old z y : ℤ) (o : Option ℕ) → IfSome o (λ i. (get_or (map s.mem cells) i (pos 0) ≡ y) × (i < length (map s.mem cells))) → z ≡ y → PostHolds (env cells s) (cell_post o) old z
cell_post_holds cells s old z y None h k = tt
cell_post_holds cells s old z y (Some i) h k = k ∙ sym h.0 ∙ plus_zero (get_or (map s.mem cells) i (pos 0))

-- what is read at an address that is given
pub at_read : (s : Numbers) (a : ℕ) (m : ℤ) → bind (lawful (pos a)) (λ n. Some (s.mem n)) ≡ Some m → m ≡ s.mem a
at_read s a m h = by_test (int_le (pos 0) (pos a) && int_le (pos a) (pos (2 ^ 20 - 1))) h
  where
    by_test : (b : Bool) → bind (cond b (Some a) None) (λ n. Some (s.mem n)) ≡ Some m → m ≡ s.mem a
    by_test true e = sym (same_Some (s.mem a) m e)
    by_test false e = absurd (cc)

exactly_is : (x z : ℤ) → exactly x ≡ Some z → z ≡ x
exactly_is x z h = by_test _ h
  where
    by_test : (b : Bool) → cond b (Some x) None ≡ Some z → z ≡ x
    by_test true e = sym (same_Some x z e)
    by_test false e = absurd (cc)

bound : {S U : Type 0} (o : Option S) (f : S → Option U) (z : U) → bind o f ≡ Some z → IsSomeAnd o (λ x. f x ≡ Some z)
bound None f z h = absurd (cc)
bound (Some x) f z h = h

take_is : (s : Numbers) (a : ℕ) (z : ℤ) (o : Option ℤ) → o ≡ bind (lawful (pos a)) (λ n. Some (s.mem n)) → bind o (λ m. Some m) ≡ Some z → z ≡ s.mem a
take_is s a z None e h = absurd (cc)
take_is s a z (Some m) e h = sym (same_Some m z h) ∙ at_read s a m (sym e)

less_is : (x n z : ℤ) → z ≡ x -ℤ n → z ≡ x +ℤ neg_ℤ n
less_is x n z h = omega (arith, ints)

pub origin_is : (pr : Profile) (cells : List ℕ) (s : Numbers) (answer old z : ℤ) (w : Work) → result_number pr s answer w ≡ Some z → PostHolds (env cells s) (origin cells w) old z
unfolding origin result_number operand_number function_number
origin_is pr cells s answer old z (Apply Read l (Memory (At a))) h = cell_post_holds cells s old z (s.mem a) (find_cell cells a) (found_at s.mem cells a) (take_is s a z _ refl h)
origin_is pr cells s answer old z (Apply Read l (Memory (Index a r))) h = tt
origin_is pr cells s answer old z (Apply Read l (Literal n)) h = tt
origin_is pr cells s answer old z (Apply Read l (Peripheral p)) h = tt
origin_is pr cells s answer old z (Apply Adds (Of l) (Literal n)) h = exactly_is (at_reg s.regs l +ℤ pos n) z h
origin_is pr cells s answer old z (Apply Adds (Of l) (Memory p)) h = tt
origin_is pr cells s answer old z (Apply Adds (Of l) (Peripheral p)) h = tt
origin_is pr cells s answer old z (Apply Adds AfterP o) h = tt
origin_is pr cells s answer old z (Apply Subs (Of l) (Literal n)) h = less_is (at_reg s.regs l) (pos n) z (exactly_is (at_reg s.regs l -ℤ pos n) z h)
origin_is pr cells s answer old z (Apply Subs (Of l) (Memory p)) h = tt
origin_is pr cells s answer old z (Apply Subs (Of l) (Peripheral p)) h = tt
origin_is pr cells s answer old z (Apply Subs AfterP o) h = tt
origin_is pr cells s answer old z (Apply Neg l o) h = tt
origin_is pr cells s answer old z (Apply Call l o) h = tt
origin_is pr cells s answer old z (Apply Inp l o) h = tt
origin_is pr cells s answer old z (Apply Addb l o) h = tt
origin_is pr cells s answer old z (Apply Subb l o) h = tt
origin_is pr cells s answer old z (Apply Xor l o) h = tt
origin_is pr cells s answer old z (Apply And l o) h = tt
origin_is pr cells s answer old z (Apply Nor l o) h = tt
origin_is pr cells s answer old z (Apply Andn l o) h = tt
origin_is pr cells s answer old z (Move k l) h = tt

-- B stays where the flag isn't dropped
bit_stays : (pr : Profile) (s : Numbers) (answer : ℤ) (w : Work) → sets_bit pr w ≡ false → bit_after pr s answer w ≡ s.b
unfolding sets_bit bit_after function_bit shift_bit
bit_stays pr s answer (Apply Addb l o) h = absurd (false≢true (sym h))
bit_stays pr s answer (Apply Subb l o) h = absurd (false≢true (sym h))
bit_stays pr s answer (Apply Neg l o) h = refl
bit_stays pr s answer (Apply Call l o) h = refl
bit_stays pr s answer (Apply Inp l o) h = refl
bit_stays pr s answer (Apply Read l o) h = refl
bit_stays pr s answer (Apply Adds l o) h = refl
bit_stays pr s answer (Apply Subs l o) h = refl
bit_stays pr s answer (Apply Xor l o) h = refl
bit_stays pr s answer (Apply And l o) h = refl
bit_stays pr s answer (Apply Nor l o) h = refl
bit_stays pr s answer (Apply Andn l o) h = refl
bit_stays profile.One s answer (Move shift.Right l) h = refl
bit_stays profile.Two s answer (Move shift.Right l) h = absurd (false≢true (sym h))
bit_stays pr s answer (Move shift.RightThroughB l) h = absurd (false≢true (sym h))
bit_stays pr s answer (Move shift.Left l) h = refl
bit_stays pr s answer (Move shift.LeftThroughB l) h = absurd (false≢true (sym h))

-- ---- posts

pub cells_same : (e : Values ℤ) (f : ℕ → ℤ) (cells : List ℕ) → CellPosts e (map (λ _. post.Same) cells) (map f cells) (map f cells)
cells_same e f [] = tt
cells_same e f (c ∷ cs) = (refl, cells_same e f cs)

pub same_posts : (cells : List ℕ) (s : Numbers) → PostsHold (all_same cells) (env cells s) (env cells s)
same_posts cells s = record { a = refl; x = refl; y = refl; cells = cells_same (env cells s) s.mem cells }

reg_posts : (cells : List ℕ) (s : Numbers) (r : Reg) (z : ℤ) (p : Post) → PostHolds (env cells s) p (at_reg s.regs r) z → PostsHold (with_reg (all_same cells) r p) (env cells s) (with_reg (env cells s) r z)
reg_posts cells s A z p h = record { a = h; x = refl; y = refl; cells = cells_same (env cells s) s.mem cells }
reg_posts cells s X z p h = record { a = refl; x = h; y = refl; cells = cells_same (env cells s) s.mem cells }
reg_posts cells s Y z p h = record { a = refl; x = refl; y = h; cells = cells_same (env cells s) s.mem cells }

module _ {T : Type 0} (d : Domain T) (laws : DomainLaws d) where
  -- ---- facts that are met aren't empty

  pub live_met : (f : FactOf T) (e : Values ℤ) (b : Bool) → Meets d f e b → is_live d f ≡ true
  live_met f e b h = ap not ((fact_laws d laws).emptiness.met f e b h)

  live_is : (f : FactOf T) (P : FactOf T → Type 0) → is_live d f ≡ true → P f → IsSomeAnd (live d f) P
  live_is f P h k = by_test (is_live d f) h
    where
      by_test : (b : Bool) → b ≡ true → IsSomeAnd (cond b (Some f) None) P
      by_test true e = k
      by_test false e = absurd (false≢true e)

  -- ---- lists

  pub in_second : (cells : List ℕ) (s s' : Numbers) (os qs : List (OutcomeOf T)) → SomeCovers d cells s s' qs → SomeCovers d cells s s' (os ++ qs)
  in_second cells s s' [] qs h = h
  in_second cells s s' (o ∷ os) qs h = inr (in_second cells s s' os qs h)

  pub in_first : (cells : List ℕ) (s s' : Numbers) (os qs : List (OutcomeOf T)) → SomeCovers d cells s s' os → SomeCovers d cells s s' (os ++ qs)
  in_first cells s s' [] qs h = absurd h
  in_first cells s s' (o ∷ os) qs h = ⊎_elim (λ (k : Covered d cells s s' o). inl k) (λ (k : SomeCovers d cells s s' os). inr (in_first cells s s' os qs k)) h

  each_covers : {S : Type 0} (cells : List ℕ) (s s' : Numbers) (P : S → Type 0) (o : Option S) (f : S → List (OutcomeOf T)) → IsSomeAnd o P → ((v : S) → P v → SomeCovers d cells s s' (f v)) → SomeCovers d cells s s' (each o f)
  each_covers cells s s' P None f h k = absurd h
  each_covers cells s s' P (Some v) f h k = k v h

  -- an outcome whose fact the next state meets isn't left out
  pub outcome_covers : (cells : List ℕ) (s s' : Numbers) (f g : FactOf T) (ps : Values Post) → Meets d f (env cells s) s.b → Meets d g (env cells s') s'.b → PostsHold ps (env cells s) (env cells s') → SomeCovers d cells s s' (outcome d s'.p f g ps)
  unfolding outcome
  outcome_covers cells s s' f g ps h k m = by_test (is_live d g) (live_met g (env cells s') s'.b k)
    where
      by_test : (b : Bool) → b ≡ true → SomeCovers d cells s s' (cond b (record { target = s'.p; pre = f; after = g; posts = ps } ∷ []) [])
      by_test true e = inl (record { target = refl; pre = h; after = k; posts = m })
      by_test false e = absurd (false≢true e)

  flat_covers : (cells : List ℕ) (s s' : Numbers) (F : ℕ → List (OutcomeOf T)) (p : ℕ → Bool) (at n : ℕ) → at ≤ s'.p → s'.p < at + n → p s'.p ≡ true → SomeCovers d cells s s' (F s'.p) → SomeCovers d cells s s' (flat_map F (passing p at n))
  unfolding passing
  flat_covers cells s s' F p at zero h k e c = absurd (omega arith)
  flat_covers cells s s' F p at (suc n) h k e c =
      ⊎_elim (λ (i : at ≡ s'.p). here (p at) (subst (λ (j : ℕ). p j ≡ true) (sym i) e) (subst (λ (j : ℕ). SomeCovers d cells s s' (F j)) (sym i) c))
      (λ (i : at < s'.p). there (p at) (flat_covers cells s s' F p (suc at) n (omega arith) (omega arith) e c)) (eq-or-lt_of_le h)
    where
      here : (b : Bool) → b ≡ true → SomeCovers d cells s s' (F at) → SomeCovers d cells s s' (flat_map F (cond b (at ∷ passing p (suc at) n) (passing p (suc at) n)))
      here true i m = in_first cells s s' (F at) (flat_map F (passing p (suc at) n)) m
      here false i m = absurd (false≢true i)

      there : (b : Bool) → SomeCovers d cells s s' (flat_map F (passing p (suc at) n)) → SomeCovers d cells s s' (flat_map F (cond b (at ∷ passing p (suc at) n) (passing p (suc at) n)))
      there true m = in_second cells s s' (F at) (flat_map F (passing p (suc at) n)) m
      there false m = m

  -- ---- results to a register

  pub put_reg_meets : (f : FactOf T) (e : Values ℤ) (b : Bool) (r : Reg) (v : T) (n : ℤ) (l : Option Link) → Meets d f e b → Has d v n → LinkHolds (with_reg e r n) r l → Meets d (put_reg f r v l) (with_reg e r n) b
  unfolding put_reg
  put_reg_meets f e b r v n l h k m = record {
    values = with_reg_related (Has d) (values f) e h.values r v n k;
    links = links_after_reg f.links e r n l h.links m;
    flag = drop_says (is_on_reg r) e (with_reg e r n) b (atom_with_reg e r n) f.flag h.flag;
  }

  flag_set_meets : (t : Bool) (f : FactOf T) (e : Values ℤ) (b c : Bool) → (t ≡ false → c ≡ b) → Meets d f e b → Meets d (flag_set d t f) e c
  flag_set_meets true f e b c k h = record { values = h.values; links = h.links; flag = tt }
  flag_set_meets false f e b c k h = subst (λ (x : Bool). Meets d f e x) (sym (k refl)) h

  pub assign_covers : (plan : PlanLines) (cells : List ℕ) (f : FactOf T) (s : Numbers) (answer : ℤ) (r : Reg) (w : Work) → IsWork d laws w → s.p < 2 ^ 20 → IsPlanOf plan → IsKeptBy plan s.mem → IsFairWork d laws plan answer s w → Meets d f (env cells s) s.b → work_lawful d plan (values f) w ≡ true → work_exact d plan cells s.p (values f) w ≡ true → IsSomeAnd (perform plan.profile (Assign r w) answer s) (λ s'. SomeCovers d cells s s' (performed d plan cells s.p (Assign r w) f))
  unfolding perform performed assigned
  assign_covers plan cells f s answer r w i at fits kept fair m c3 c4 =
      some_bind_is (λ z. IsSomeAnd (result_value d plan cells s.p (values f) f.flag w) (λ u. Has d u z)) _ (result_number plan.profile s answer w) _ (result_has d laws plan cells (values f) f.flag s answer w i at fits kept fair m.values m.flag c3 c4)
      (λ z e n.
      let s' : Numbers = record { regs = set_reg s.regs r z; mem = s.mem; b = bit_after plan.profile s answer w; p = s.p + 1 } in
      each_covers cells s s' (λ u. Has d u z) (result_value d plan cells s.p (values f) f.flag w) _ n
      (λ u hu. outcome_covers cells s s' f _ (with_reg (all_same cells) r (origin cells w)) m
      (flag_set_meets (sets_bit plan.profile w) (put_reg f r u (link_of f.links (origin cells w))) (with_reg (env cells s) r z) s.b (bit_after plan.profile s answer w) (bit_stays plan.profile s answer w)
      (put_reg_meets f (env cells s) s.b r u z (link_of f.links (origin cells w)) m hu (link_of_holds f.links (env cells s) r z (at_reg s.regs r) (origin cells w) m.links (origin_is plan.profile cells s answer (at_reg s.regs r) z w e))))
      (reg_posts cells s r z (origin cells w) (origin_is plan.profile cells s answer (at_reg s.regs r) z w e))))

  -- ---- jumps

  linked_meets : (call : Bool) (f : FactOf T) (cells : List ℕ) (s : Numbers) → s.p < 2 ^ 20 → Meets d f (env cells s) s.b → Meets d (linked d call s.p f) (record { regs = cond call (set_reg s.regs Y (pos (s.p + 1))) s.regs; cells = map s.mem cells }) s.b
  unfolding source_value
  linked_meets true f cells s at m = put_reg_meets f (env cells s) s.b Y (d.constant (pos (s.p + 1))) (pos (s.p + 1)) None m (source_has d laws (values f) s cells AfterP at m.values) tt
  linked_meets false f cells s at m = m

  linked_hold : (call : Bool) (cells : List ℕ) (s : Numbers) → PostsHold (linked_posts d call cells) (env cells s) (record { regs = cond call (set_reg s.regs Y (pos (s.p + 1))) s.regs; cells = map s.mem cells })
  linked_hold true cells s = reg_posts cells s Y (pos (s.p + 1)) post.Within tt
  linked_hold false cells s = same_posts cells s

  abbrev pub jumped : Bool → Numbers → ℕ → Numbers
  jumped call s n = record { regs = cond call (set_reg s.regs Y (pos (s.p + 1))) s.regs; mem = s.mem; b = s.b; p = n }

  pub target_covers : (plan : PlanLines) (cells : List ℕ) (call : Bool) (s : Numbers) (g : FactOf T) (z : ℤ) (q : Option T) → s.p < 2 ^ 20 → Meets d g (env cells s) s.b → IsSomeAnd q (λ v. Has d v z) → targets_lawful d plan q ≡ true → IsSomeAnd (bind (lawful z) (λ n. Some (jumped call s n))) (λ s'. SomeCovers d cells s s' (each q (λ v. jumps d plan cells s.p call g v)))
  unfolding is_target jumps targets_lawful
  target_covers plan cells call s g z None at m h c = absurd h
  target_covers plan cells call s g z (Some v) at m h c =
      let q = and_parts (ends_within (ends d v) (pos 0) (pos 0) (pos (2 ^ 20 - 1))) _ c in
      let q1 = and_parts _ (not (any_from (λ n. is_point d v (pos n) && not (in_code plan n)) 0 (2 ^ 20))) q.1 in
      let b = within_from (ends d v) (pos 0) (pos 0) (pos (2 ^ 20 - 1)) z q.0 (ends_has d laws v z h) in
      let b0 : pos 0 ≤ℤ (pos 0 +ℤ z) = b.0 in
      let b1 : (pos 0 +ℤ z) ≤ℤ pos (2 ^ 20 - 1) = b.1 in
      let low : pos 0 ≤ℤ z = omega (arith, ints) in
      let high : z ≤ℤ pos (2 ^ 20 - 1) = omega (arith, ints) in
      let e : pos (nat_abs z) ≡ z = omega (arith, ints) in
      let small : nat_abs z < 2 ^ 20 = omega (arith, ints) in
      let point : is_point d v (pos (nat_abs z)) ≡ true = subst (λ (y : ℤ). is_point d v y ≡ true) (sym e) (point_has d laws v z h) in
      some_bind_is (λ n. n ≡ nat_abs z) _ (lawful z) _ (lawful_some z (λ n. n ≡ nat_abs z) low high refl)
      (λ n _ i. subst (λ (k : ℕ). SomeCovers d cells s (jumped call s k) (flat_map (λ j. outcome d j g (linked d call s.p g) (linked_posts d call cells)) (passing (λ j. is_point d v (pos j) && in_code plan j) 0 (2 ^ 20)))) (sym i)
      (flat_covers cells s (jumped call s (nat_abs z)) (λ j. outcome d j g (linked d call s.p g) (linked_posts d call cells)) (λ j. is_point d v (pos j) && in_code plan j) 0 (2 ^ 20) (omega arith) (omega arith)
      (and_from _ _ point (none_at (λ j. is_point d v (pos j)) (λ j. in_code plan j) (nat_abs z) small q1.1 point))
      (outcome_covers cells s (jumped call s (nat_abs z)) g (linked d call s.p g) (linked_posts d call cells) m (linked_meets call g cells s at m) (linked_hold call cells s))))
