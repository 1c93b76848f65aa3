use Rattle.peripheral_run.proofs.ScriptRuns.{runs_from_start}
use Rattle.peripheral_run.proofs.Starts.{runs_of_script}
use Rattle.peripheral_run.proofs.laws.runs_are_the_plans.Goals as goal

pub returns-clause-from_a_start : goal.returns-clause-from_a_start
returns-clause-from_a_start c = runs_from_start

pub returns-clause-of_a_script : goal.returns-clause-of_a_script
returns-clause-of_a_script c = runs_of_script
