-- The first frame with a landing pad, kept on the way.
use Rattle.std.specs.Prelude.{Bool, Option, Some, None, if◌then◌else◌}
use Rattle.table_forms.specs.declared.found.Verdict.TheVariants as verdicts
use Rattle.table_forms.specs.declared.found.Verdict.{Verdict}
use Rattle.rv64_isa.specs.State.{State}
use Rattle.raise_core.specs.declared.asked.Target.{Target}
use Rattle.raise_core.specs.declared.found.Landing.{Landing}
use Rattle.raise_core.specs.declared.found.Stop.{Stop}
use Rattle.raise_core.specs.declared.raised.Raised.TheVariants as answers
use Rattle.raise_core.specs.Finds.{landing_of}
use Rattle.raise_core.specs.Raise.{Outcome, lost, enters}

-- the first is kept
abbrev pub kept_or : Option Landing → Bool → Landing → Option Landing
kept_or (Some kept) b landing = Some kept
kept_or None b landing = if b then Some landing else None

-- control enters the frame where it lands, on the way to a target
abbrev pub lands : State → Landing → Option Target → Outcome
lands s landing None = lost s
lands s landing (Some target) = enters s landing.frame target landing.verdict

-- phase two from what the search has come to, unless that ends the program
abbrev pub cleaned : State → Stop → Verdict → Outcome
cleaned s stop verdicts.Terminate = (answers.Terminate, s)
cleaned s stop _ = lands s (landing_of stop) stop.target
