-- What is printed of a run and of its end.
use Rattle.std.specs.Prelude.{◌≡◌, ℕ, Bool, true, false, List, [], ◌∷◌, ◌++◌, codes}
use Rattle.run_items.specs.Line.{lines_of}
use Rattle.cxa_runtime.specs.declared.effect.End.{End}
use Rattle.cxa_runtime.specs.declared.effect.End.TheVariants as ends
use Rattle.cxa_runtime.specs.Run.{Ran}
use Rattle.run_ends.specs.EndLine.{end_line}
use Rattle.eh_outer.specs.Sink.{SinkView}
use Rattle.run_items.specs.Output.{TakesAll, FailsAmong}
use Rattle.eh_commands.specs.declared.status.Status.{Status}
use Rattle.eh_commands.specs.declared.status.Status.TheVariants.{Done, WriteFault, Aborted, Budget, Stack, MachineFault}
use Rattle.eh_commands.specs.Output.{number_line}

-- the line of how many steps were counted
abbrev pub count_line : ℕ → List ℕ
count_line n = number_line (codes "= count ") n

-- it stands where it is asked for
abbrev pub count_lines : Bool → ℕ → List (List ℕ)
count_lines true n = count_line n ∷ []
count_lines false n = []

-- the last lines: that of the end, and that of the count
abbrev pub last_lines : Bool → End → ℕ → List (List ℕ)
last_lines count end n = end_line end ∷ count_lines count n

-- the lines of a run: those of its items, and the last ones
abbrev pub run_lines : (trace count : Bool) → Ran → List (List ℕ)
run_lines trace count r = lines_of trace r.items ++ last_lines count r.end r.world.count

-- the status of an end
abbrev pub status_of_run : End → Status
status_of_run (ends.Exit n) = Done
status_of_run ends.Aborted = Aborted
status_of_run ends.Budget = Budget
status_of_run ends.Stack = Stack
status_of_run (ends.Fault kind place) = MachineFault kind place
status_of_run ends.WriteFault = WriteFault

-- the last lines go out, and the status is that of the end; or a line fails
abbrev pub LastEnds : Bool → End → ℕ → SinkView → SinkView → Status → Type 0
LastEnds count end n old new WriteFault = FailsAmong (last_lines count end n) old new
LastEnds count end n old new status = (status ≡ status_of_run end) × TakesAll (last_lines count end n) old new

-- a run whose lines failed has no last lines
abbrev pub Ends : End → Bool → ℕ → SinkView → SinkView → Status → Type 0
Ends ends.WriteFault count n old new status = (status ≡ WriteFault) × (new ≡ old)
Ends end count n old new status = LastEnds count end n old new status
