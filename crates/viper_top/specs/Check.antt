-- check: the verdict of a certificate over its plan.
use Rattle.std.specs.Prelude.{ℕ, List, Result, Ok, Err}
use Rattle.memory_plan.specs.Plans.{PlanLines}
use Rattle.cert_checker.specs.declared.verdict.Bound.{Bound}
use Rattle.cert_checker.specs.declared.verdict.Refusal.{Refusal}
use Rattle.viper_top.specs.Certificates.{Certificate, verdict_of}
use Rattle.viper_top.specs.Texts.{yes_text, no_text}
use Rattle.viper_top.specs.Endings.{Ending, done, refused}

-- a yes is done, a no refused, each with its text
abbrev pub verdict_ending : Result (List (ℕ × Bound)) Refusal → Ending
verdict_ending (Ok bounds) = done (yes_text bounds)
verdict_ending (Err refusal) = refused (no_text refusal)

-- how a check ends
unfoldable pub checked : PlanLines → Certificate → Ending
checked plan cert = verdict_ending (verdict_of plan cert)
