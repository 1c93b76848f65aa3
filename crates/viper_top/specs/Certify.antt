-- certify: the certificate of a plan, or why it has none.
use Rattle.std.specs.Prelude.{◌≡◌, ◌≢◌, ◌≤◌, ◌⊎◌, ℕ, Option, List, [], ◌∷◌, ◌++◌, length, codes, decimal}
use Rattle.std.specs.List.{flat_map}
use Rattle.viper_word.specs.Digits.{address_digits}
use Rattle.memory_plan.specs.Plans.{PlanLines}
use Rattle.abs_step.specs.declared.outcome.Cond.{Cond}
use Rattle.flow_recover.specs.declared.key.Key.{Key}
use Rattle.val_dom.specs.Vals.{vals}
use Rattle.rank_nest.specs.declared.fault.Edge.{Edge}
use Rattle.cert_format.specs.declared.version.Version.TheVariants.{Two}
use Rattle.cert_format.specs.Spelling.{IsCert, cert_bytes}
use Rattle.cert_checker.specs.declared.verdict.Bound.{Bound}
use Rattle.certifier.specs.declared.fault.CertifyFault.{CertifyFault}
use Rattle.certifier.specs.declared.fault.CertifyFault.TheVariants as fault
use Rattle.certifier.specs.Faults.{IsCertifyFault, IsPastSolving}
use Rattle.cert_format.specs.declared.limits.TheConstants.{MOST_NODES}
use Rattle.fix_solver.specs.Solutions.{IsSolution, HasKeys, plan_rules}
use Rattle.flag_relation.specs.Facts.{FactOf}
use Rattle.val_dom.specs.declared.val.Val.{Val}
use Rattle.certifier.specs.Made.{IsMade}
use Rattle.viper_top.specs.Certificates.{Certificate, Local, bounds_of}
use Rattle.viper_top.specs.Endings.{Ending, made, refused}
use Rattle.viper_top.specs.Texts.{marker_line, cond_text}

-- ---- what is printed

-- `certified`, how many nodes there are, and a line for each marker
unfoldable pub certified_text : ℕ → List (ℕ × Bound) → List ℕ
certified_text nodes bounds =
    codes "certified\nnodes " ++ decimal nodes ++ codes "\n" ++ flat_map marker_line bounds

-- addresses, each behind a comma
unfoldable pub more_text : List ℕ → List ℕ
more_text addrs = flat_map (λ at. codes "," ++ address_digits at) addrs

-- the calls of a key, oldest first, or `-`
abbrev pub context_text : List ℕ → List ℕ
context_text [] = codes "-"
context_text (at ∷ others) = address_digits at ++ more_text others

unfoldable pub key_text : Key → List ℕ
key_text k = address_digits k.addr ++ codes " " ++ context_text k.context

unfoldable pub undischarged_text : Key → Cond → List ℕ
undischarged_text k c = codes "undischarged " ++ key_text k ++ codes " " ++ cond_text c ++ codes "\n"

unfoldable pub edge_line : Edge → List ℕ
edge_line e = codes "edge " ++ key_text e.from ++ codes " to " ++ key_text e.to ++ codes "\n"

-- how many edges there are, and a line for each
unfoldable pub unranked_text : List Edge → List ℕ
unranked_text edges = codes "unranked " ++ decimal (length edges) ++ codes "\n" ++ flat_map edge_line edges

unfoldable pub nodes_text : ℕ → List ℕ
nodes_text count = codes "nodes " ++ decimal count ++ codes "\n"

-- the text of a refusal; want of memory has none
abbrev pub refusal_text : CertifyFault → List ℕ
refusal_text (fault.Undischarged k c) = undischarged_text k c
refusal_text (fault.Nodes keys) = nodes_text (length keys.items)
refusal_text (fault.Unranked edges) = unranked_text edges.items
refusal_text (fault.Large nest) = codes "large\n"
refusal_text fault.Memory = []

-- ---- how it ends

-- the certificate is that of the plan, and what is placed and put are its own
pub record EndsMade (plan : PlanLines) (e : Ending) : Type 0 where
  pub certificate : Certificate
  pub made_of : IsMade vals plan certificate
  pub local : Local plan certificate
  pub spelled : IsCert Two (cert_bytes Two certificate) certificate
  pub is : e ≡ made (cert_bytes Two certificate)
      (certified_text (length certificate.nodes) (bounds_of plan certificate))

-- A cause that is true of the plan, and its text. Where there is a solution of at most 65,536 keys, it is
-- that the solution has no ranks.
pub record EndsRefused (plan : PlanLines) (e : Ending) : Type 0 where
  pub cause : CertifyFault
  pub is_true : IsCertifyFault vals plan cause
  pub not_memory : cause ≢ fault.Memory
  pub solvable : (m : Key → Option (FactOf Val)) (ks : List Key) → IsSolution (plan_rules vals plan) m → HasKeys m ks
      → length ks ≤ MOST_NODES → IsPastSolving cause
  pub is : e ≡ refused (refusal_text cause)

-- how a certification may end: with the certificate of the plan, or with a true cause
abbrev pub Certifies : PlanLines → Ending → Type 0
Certifies plan e = EndsMade plan e ⊎ EndsRefused plan e
