-- Certificates within the limits are written whole.
use Rattle.std.proofs.Common.{◌≡◌, ℕ, ◌+◌, ◌≤◌, ℤ, List, [], ◌∷◌, ◌++◌, length, refl, ap, ◌∙◌, arith}
use Rattle.std.specs.List.{flat_map, AllByRecursion}
use Rattle.val_dom.specs.declared.val.Val.{Val}
use Rattle.flag_relation.specs.declared.var.Var.{Var}
use Rattle.flag_relation.specs.Facts.{FactOf}
use Rattle.flag_relation.specs.Forms.{var_number}
use Rattle.cert_format.specs.declared.limits.TheConstants.{VALUE}
use Rattle.cert_format.specs.Certificates.{NodeOf, CertificateOf}
use Rattle.cert_format.specs.Limits.{AreTerms, IsNode, IsWithinLimits, IsShortTerm, IsShortNode}
use Rattle.cert_format.specs.Values.{word_bytes, value_bytes, val_spelled}
use Rattle.cert_format.specs.Spelling.{front, fact_bytes}

-- ---- facts

front_is : (v : Val) → front VALUE val_spelled v ≡ value_bytes v
unfolding val_spelled value_bytes word_bytes
front_is v = refl

fronts_are : (vs : List Val) → flat_map (front VALUE val_spelled) vs ≡ flat_map value_bytes vs
fronts_are [] = refl
fronts_are (v ∷ vs) = ap (λ (t : List ℕ). t ++ flat_map (front VALUE val_spelled) vs) (front_is v) ∙ ap (λ (t : List ℕ). value_bytes v ++ t) (fronts_are vs)

pub fact_front : (f : FactOf Val) → fact_bytes (front VALUE val_spelled) f ≡ fact_bytes value_bytes f
unfolding fact_bytes
fact_front f = rw (front_is f.a, front_is f.x, front_is f.y, fronts_are f.cells) refl

-- ---- limits

short_terms : (cells from : ℕ) (ts : List (Var × ℤ)) → cells ≤ 32 → AreTerms cells from ts → AllByRecursion IsShortTerm ts
short_terms cells from [] few h = tt
short_terms cells from (t ∷ ts) few h = let high = h.1 in (record { number = omega arith; size = h.3 }, short_terms cells (var_number t.0 + 1) ts few h.4)

short_node : (cells count : ℕ) (n : NodeOf Val) → cells ≤ 32 → IsNode cells count n → IsShortNode n
short_node cells count n few h = record { few = h.few; constant = h.rank.constant; terms = short_terms cells 0 n.rank.terms few h.rank.terms }

short_nodes : (cells count : ℕ) (ns : List (NodeOf Val)) → cells ≤ 32 → AllByRecursion (IsNode cells count) ns → AllByRecursion IsShortNode ns
short_nodes cells count [] few h = tt
short_nodes cells count (n ∷ ns) few h = (short_node cells count n few h.0, short_nodes cells count ns few h.1)

pub nodes_are_short : (c : CertificateOf Val) → IsWithinLimits c → AllByRecursion IsShortNode c.nodes
nodes_are_short c h = short_nodes (length c.cells) (length c.nodes) c.nodes h.few_cells h.nodes
