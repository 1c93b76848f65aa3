-- sample: the program of so many loops, its certificate, or why it has none.
use Rattle.std.specs.Prelude.{◌≡◌, ◌⊎◌, ℕ, List, ◌++◌, length, codes, decimal}
use Rattle.std.specs.List.{flat_map}
use Rattle.val_dom.specs.Vals.{vals}
use Rattle.cert_checker.specs.declared.verdict.Bound.{Bound}
use Rattle.certifier.specs.Made.{IsMade}
use Rattle.sample_program.specs.Samples.{sample_plan}
use Rattle.viper_top.specs.Certificates.{Certificate, Local, bounds_of}
use Rattle.viper_top.specs.Certify.{EndsRefused}
use Rattle.viper_top.specs.Endings.{Ending, done}
use Rattle.viper_top.specs.Texts.{marker_line}

-- how many loops, words and nodes there are, and a line for each marker
unfoldable pub sample_text : ℕ → ℕ → ℕ → List (ℕ × Bound) → List ℕ
sample_text loops words nodes bounds =
    codes "sample " ++ decimal loops ++ codes "\nwords " ++ decimal words ++ codes "\nnodes " ++ decimal nodes
    ++ codes "\n" ++ flat_map marker_line bounds

-- the numbers that are put of a certificate of the sample
abbrev pub numbers_text : ℕ → Certificate → List ℕ
numbers_text loops c =
    sample_text loops (length (sample_plan loops).image) (length c.nodes) (bounds_of (sample_plan loops) c)

-- the certificate is that of the sample's plan, and holds; its numbers are put
pub record EndsSampled (loops : ℕ) (e : Ending) : Type 0 where
  pub certificate : Certificate
  pub made_of : IsMade vals (sample_plan loops) certificate
  pub local : Local (sample_plan loops) certificate
  pub is : e ≡ done (numbers_text loops certificate)

-- how a sample may end: so, or with a cause that is true of its plan
abbrev pub Samples : ℕ → Ending → Type 0
Samples loops e = EndsSampled loops e ⊎ EndsRefused (sample_plan loops) e
