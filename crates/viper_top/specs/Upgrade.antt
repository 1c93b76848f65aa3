-- upgrade: the certificate of the same verdict, in version 2, with each node bare whose fact follows.
use Rattle.std.specs.Prelude.{◌≡◌, ℕ, List, ◌++◌, length, count_by, codes, decimal}
use Rattle.val_dom.specs.Vals.{vals}
use Rattle.memory_plan.specs.Plans.{PlanLines}
use Rattle.cert_format.specs.declared.version.Version.TheVariants.{Two}
use Rattle.cert_format.specs.Certificates.{is_bare}
use Rattle.cert_format.specs.Spelling.{IsCert, cert_bytes}
use Rattle.cert_checker.specs.Packing.{packed}
use Rattle.viper_top.specs.Certificates.{Certificate, full}
use Rattle.viper_top.specs.Endings.{Ending, made}

-- the certificate that is filled, and then packed
abbrev pub packed_again : PlanLines → Certificate → Certificate
packed_again plan c = packed vals plan (full plan c)

-- how many nodes it has, and how many bare ones
unfoldable pub upgrade_text : Certificate → List ℕ
upgrade_text c =
    codes "upgraded\nnodes " ++ decimal (length c.nodes) ++ codes "\nbare " ++ decimal (count_by is_bare c.nodes) ++ codes "\n"

-- its bytes are placed
abbrev pub made_of : Certificate → Ending
made_of c = made (cert_bytes Two c) (upgrade_text c)

abbrev pub upgraded : PlanLines → Certificate → Ending
upgraded plan c = made_of (packed_again plan c)

-- that ending, whose bytes spell the certificate
pub record EndsUpgraded (plan : PlanLines) (c : Certificate) (e : Ending) : Type 0 where
  pub is : e ≡ upgraded plan c
  pub spelled : IsCert Two (cert_bytes Two (packed_again plan c)) (packed_again plan c)
