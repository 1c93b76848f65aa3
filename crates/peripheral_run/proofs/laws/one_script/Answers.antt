use Rattle.peripheral_run.proofs.OneScript.{script_reading}
use Rattle.peripheral_run.proofs.laws.one_script.Goals as goal

pub returns : goal.returns
returns c = script_reading
