-- Nodes of a certificate, one key after the other.
use Rattle.std.proofs.Common.{◌≡◌, ℕ, zero, suc, ◌+◌, ◌<◌, List, [], ◌∷◌, ◌++◌, take, length, get_or, refl, sym, ap, ◌∙◌, arith}
use Rattle.std.specs.Prelude.{slice_get, Some, pos}
use Rattle.std.proofs.lemmas.List.{length-take-le}
use Rattle.num_domain.specs.Domain.{Domain}
use Rattle.flag_relation.specs.Facts.{FactOf}
use Rattle.flag_relation.specs.Forms.{FormOf}
use Rattle.rank_form.specs.Levels.{constant_form}
use Rattle.fix_solver.specs.Solved.{NodeOf}
use Rattle.rank_nest.specs.Graph.{no_node, node_at}
use Rattle.cert_checker.proofs.Listing.{take_more}
use Rattle.certifier.specs.Made.{rank_of, cert_node, cert_nodes}

module _ {T : Type 0} (ranks : List FormOf) where
  pub nodes_length : (i : ℕ) (ns : List (NodeOf (FactOf T))) → length (cert_nodes ranks i ns) ≡ length ns
  nodes_length i [] = refl
  nodes_length i (n ∷ ns) = ap suc (nodes_length (suc i) ns)

  one_more : (i : ℕ) (ns : List (NodeOf (FactOf T))) (n : NodeOf (FactOf T)) → cert_nodes ranks i (ns ++ n ∷ []) ≡ cert_nodes ranks i ns ++ cert_node n (rank_of ranks (i + length ns)) ∷ []
  one_more i [] n = ap (λ (k : ℕ). cert_node n (rank_of ranks k) ∷ []) (omega arith)
  one_more i (m ∷ ns) n =
      ap (λ ms. cert_node m (rank_of ranks i) ∷ ms)
      (one_more (suc i) ns n ∙ ap (λ (k : ℕ). cert_nodes ranks (suc i) ns ++ cert_node n (rank_of ranks k) ∷ []) (omega arith))

  -- the nodes of so many keys, and the next one
  pub next_node : (d : Domain T) (ns : List (NodeOf (FactOf T))) (i next : ℕ) → i < length ns → next ≡ suc i
      → cert_nodes ranks 0 (take i ns) ++ cert_node (node_at d ns i) (rank_of ranks i) ∷ [] ≡ cert_nodes ranks 0 (take next ns)
  next_node d ns i next l e =
      let len : length (take i ns) ≡ i = length-take-le i ns (omega arith) in
      let at : 0 + length (take i ns) ≡ i = omega arith in
      ap (λ (k : ℕ). cert_nodes ranks 0 (take i ns) ++ cert_node (node_at d ns i) (rank_of ranks k) ∷ []) (sym at)
      ∙ sym (one_more 0 (take i ns) (node_at d ns i))
      ∙ ap (cert_nodes ranks 0) (sym (take_more ns (no_node d) i l))
      ∙ ap (λ (k : ℕ). cert_nodes ranks 0 (take k ns)) (sym e)

  -- the node of a number
  pub node_there : (d : Domain T) (i j : ℕ) (ns : List (NodeOf (FactOf T))) → j < length ns → slice_get (cert_nodes ranks i ns) j ≡ Some (cert_node (node_at d ns j) (rank_of ranks (i + j)))
  node_there d i j [] l = absurd (omega arith)
  node_there d i zero (n ∷ ns) l = ap (λ (k : ℕ). Some (cert_node n (rank_of ranks k))) (omega arith)
  node_there d i (suc j) (n ∷ ns) l = node_there d (suc i) j ns (omega arith) ∙ ap (λ (k : ℕ). Some (cert_node (node_at d ns j) (rank_of ranks k))) (omega arith)

-- the rank that is read at a place
pub own_rank : (ranks : List FormOf) (i : ℕ) (f : FormOf) → i < length ranks → f ≡ get_or ranks i f → f ≡ rank_of ranks i
own_rank ranks i f l e = e ∙ any_default ranks i f (constant_form (pos 1)) l
  where
    any_default : (rs : List FormOf) (j : ℕ) (x y : FormOf) → j < length rs → get_or rs j x ≡ get_or rs j y
    any_default [] j x y l = absurd (omega arith)
    any_default (r ∷ rs) zero x y l = refl
    any_default (r ∷ rs) (suc j) x y l = any_default rs j x y (omega arith)
