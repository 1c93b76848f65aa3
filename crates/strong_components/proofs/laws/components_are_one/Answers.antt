use Rattle.strong_components.proofs.Unique.{same_components}
use Rattle.strong_components.proofs.laws.components_are_one.Goals as goal

pub returns : goal.returns
returns c = λ edges keys. same_components edges keys
