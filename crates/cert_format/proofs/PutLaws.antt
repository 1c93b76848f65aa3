-- What is appended part after part.
use Rattle.std.proofs.Common.{◌≡◌, ℕ, List, ◌++◌, Option, ◌∙◌, append_assoc}
use Rattle.std.specs.List.{flat_map}
use Rattle.flag_relation.specs.declared.link.Link.{Link}
use Rattle.flag_relation.specs.Facts.{FactOf}
use Rattle.cert_format.specs.Spelling.{link_bytes, flag_bytes, fact_bytes}

pub fact_appended : {T : Type 0} (bytes : T → List ℕ) (f : FactOf T) (a x y : T) (cells : List T) (k l m : Option Link) (o p q r s t u v w : List ℕ)
    → a ≡ f.a → x ≡ f.x → y ≡ f.y → cells ≡ f.cells → k ≡ f.links.a → l ≡ f.links.x → m ≡ f.links.y
    → p ≡ o ++ bytes a → q ≡ p ++ bytes x → r ≡ q ++ bytes y → s ≡ r ++ flat_map bytes cells
    → t ≡ s ++ link_bytes k → u ≡ t ++ link_bytes l → v ≡ u ++ link_bytes m → w ≡ v ++ flag_bytes f.flag → w ≡ o ++ fact_bytes bytes f
unfolding fact_bytes
fact_appended bytes f a x y cells k l m o p q r s t u v w ea ex ey ec ek el em e1 e2 e3 e4 e5 e6 e7 e8 =
    e8 ∙ rw (e7, e6, e5, e4, e3, e2, e1, ea, ex, ey, ec, ek, el, em) (simp append_assoc)
