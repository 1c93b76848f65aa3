-- Each rank of a solution is within the limits of certificates.
use Rattle.std.proofs.Common.{◌≡◌, ℕ, ◌+◌, ◌<◌, ◌≤◌, Bool, true, false, ◌&&◌, nat_le, List, [], ◌∷◌, length, refl, arith}
use Rattle.std.specs.Prelude.{ℤ, pos, int_le, neg_ℤ}
use Rattle.std.specs.List.{Contains, list_all}
use Rattle.std.proofs.lemmas.Bool.{and_parts, false≢true}
use Rattle.std.proofs.lemmas.Bool.Decides.{nat_tests}
use Rattle.std.proofs.lemmas.Int.{ints}
use Rattle.std.proofs.lemmas.List.FromFn.{length-range_with_len, get_or-range_with_len}
use Rattle.num_domain.specs.Domain.{Domain}
use Rattle.memory_plan.specs.Plans.{PlanLines}
use Rattle.flag_relation.specs.declared.var.Var.{Var}
use Rattle.flag_relation.specs.Facts.{FactOf}
use Rattle.flag_relation.specs.Forms.{FormOf, var_number, is_within}
use Rattle.fix_solver.specs.Solved.{NodeOf}
use Rattle.strong_components.specs.declared.edge.Edge.{Edge}
use Rattle.rank_shape.specs.declared.moves.Moves.{Moves}
use Rattle.rank_numbers.specs.Forms.{Forms}
use Rattle.rank_numbers.specs.Levels.{LevelOf}
use Rattle.rank_nest.specs.Graph.{graph}
use Rattle.rank_nest.specs.Forms.{is_small, forms_of}
use Rattle.rank_nest.specs.Ranks.{keys_below, AreOfNest}
use Rattle.rank_numbers.specs.Numbers.{HasNumbers, of_parts}
use Rattle.cert_format.specs.Limits.{IsWithin, AreTerms, IsRank}
use Rattle.certifier.specs.Made.{rank_of}
use Rattle.certifier.proofs.TermOrder.{AreOrdered, graph_ordered}

-- ---- ranks

within_of : (most n : ℤ) → is_within most n ≡ true → IsWithin most n
within_of most n h =
    let p = and_parts (int_le (neg_ℤ most) n) (int_le n most) h in
    record { low = grind (arith, ints, p.0); high = grind (arith, ints, p.1) }

terms_of : (count i : ℕ) (ts : List (Var × ℤ)) → AreOrdered count i ts → list_all (λ t. is_within (pos 1099511627776) t.1) ts ≡ true → AreTerms count i ts
terms_of count i [] h k = tt
terms_of count i (t ∷ ts) h k =
    let p = and_parts (is_within (pos 1099511627776) t.1) (list_all (λ t. is_within (pos 1099511627776) t.1) ts) k in
    (h.0, h.1, h.2, within_of (pos 1099511627776) t.1 p.0, terms_of count (var_number t.0 + 1) ts h.3 p.1)

three : (a b c : Bool) → (a && b && c) ≡ true → (a ≡ true) × (b ≡ true) × (c ≡ true)
three true true true h = (refl, refl, refl)
three true true false h = absurd (false≢true h)
three true false c h = absurd (false≢true h)
three false b c h = absurd (false≢true h)

rank_in : (count : ℕ) (f : FormOf) → is_small f ≡ true → AreOrdered count 0 f.terms → IsRank count f
unfolding is_small
rank_in count f s h =
    let p = three (nat_le (length f.terms) 8) (is_within (pos 4611686018427387904) f.constant) (list_all (λ t. is_within (pos 1099511627776) t.1) f.terms) s in
    record {
      constant = within_of (pos 4611686018427387904) f.constant p.1;
      few = few (length f.terms) p.0;
      terms = terms_of count 0 f.terms h p.2;
    }
  where
    few : (n : ℕ) → nat_le n 8 ≡ true → n ≤ 8
    few n e = grind (arith, nat_tests)

key_below : (n k : ℕ) → k < n → Contains (keys_below n) k
key_below n k l =
    let long = length-range_with_len 0 n in
    let at = get_or-range_with_len 0 n k k l in
    (k, omega (arith, long), omega (arith, at))

small_from : (o : Forms FormOf) (m : Moves) (keys : List ℕ) (edges : List Edge) (form : ℕ → FormOf) (total : ℤ) (ls : List LevelOf)
    → HasNumbers FormOf o m keys edges form total ls → (k : ℕ) → Contains keys k → o.small (form k) ≡ true
small_from o m keys edges form total _ (of_parts parts local greatest offset levels comps len have is small lim) k c = small k c

module _ {T : Type 0} (d : Domain T) (plan : PlanLines) (cells : List ℕ) (nodes : List (NodeOf (FactOf T))) (ranks : List FormOf) where
  -- each rank is within the limits of a certificate over the cells
  pub ranks_in : AreOfNest d plan cells nodes ranks → (k : ℕ) → k < length nodes → IsRank (length cells) (rank_of ranks k)
  ranks_in nest k l =
      let o = forms_of d plan cells nodes in
      let edges = graph d plan cells nodes in
      let keys = keys_below (length nodes) in
      let there = key_below (length nodes) k l in
      rank_in (length cells) (rank_of ranks k) (small_from o nest.moves keys edges (rank_of ranks) nest.total nest.numbers.levels nest.numbers.numbers k there)
      (graph_ordered o nest.moves (length cells) nest.are.count refl (λ t c low f. refl) (λ f n. refl) keys edges (rank_of ranks) nest.total nest.numbers.levels nest.numbers.numbers k there)
