use Rattle.memory_plan.proofs.OneValue.{image_reading}
use Rattle.memory_plan.proofs.laws.one_image.Goals as goal

pub returns : goal.returns
returns c = image_reading
