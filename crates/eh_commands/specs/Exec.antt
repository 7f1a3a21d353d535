-- When `exec FILE` gives each status, and what it prints.
use Rattle.std.specs.Prelude.{◌≡◌, ℕ, List, Ok, IsErrAnd}
use Rattle.eh_outer.specs.Store.{StoreView}
use Rattle.eh_outer.specs.Sink.{SinkView}
use Rattle.run_items.specs.Output.{TakesAll, FailsAmong}
use Rattle.elf_image.specs.Clean.{CleanImage}
use Rattle.elf_image.specs.Reports.{reported}
use Rattle.elf_image.specs.Runnable.{runnable}
use Rattle.cxa_runtime.specs.Run.{Ran}
use Rattle.eh_run.specs.Program.{Program, program_of}
use Rattle.eh_run.specs.Runs.{IsRun}
use Rattle.eh_commands.specs.declared.status.Status.{Status}
use Rattle.eh_commands.specs.declared.status.Status.TheVariants.{ImageRefused, ReadFault, TooLong, WriteFault, NoMemory}
use Rattle.eh_commands.specs.File.{Asked, ToldBoth, UnreadEither}
use Rattle.eh_commands.specs.Image.{image_limit, status_of}
use Rattle.eh_commands.specs.RunEnd.{run_lines, status_of_run}

-- the file is a runnable image, and this is a run of it with the input and the modules, of at most so many steps
abbrev pub RunsThis : Asked → Ran → List ℕ → List ℕ → Type 0
RunsThis a r file input = (i : CleanImage) × (runnable file ≡ Ok i) × IsRun (program_of i) input a.modules a.turns r

-- the file is no runnable image, and this is the status of its first refusal
abbrev pub RefusesToRun : Status → List ℕ → Type 0
RefusesToRun status file = IsErrAnd (runnable file) (λ fault. status ≡ status_of (reported fault))

-- the lines of a run go out, and the status is that of its end; or a line fails
abbrev pub RunEnds : Asked → Ran → SinkView → SinkView → Status → Type 0
RunEnds a r old new WriteFault = FailsAmong (run_lines a.trace a.count r) old new
RunEnds a r old new status = (status ≡ status_of_run r.end) × TakesAll (run_lines a.trace a.count r) old new

-- what becomes of a program that is ready, with an input
abbrev pub ProgramRuns : Asked → Program → List ℕ → SinkView → SinkView → Status → Type 0
ProgramRuns a program input old new status = (r : Ran) × IsRun program input a.modules a.turns r × RunEnds a r old new status

-- what becomes of an image with an input
abbrev pub ImageRuns : Asked → List ℕ → List ℕ → SinkView → SinkView → Status → Type 0
ImageRuns a file input old new (ImageRefused number place location other) = RefusesToRun (ImageRefused number place location other) file × (new ≡ old)
ImageRuns a file input old new NoMemory = new ≡ old
ImageRuns a file input old new status = (r : Ran) × RunsThis a r file input × RunEnds a r old new status

-- when `exec` gives each status, what it leaves of the store's refusals, and of `out`
abbrev pub ExecCause : Asked → StoreView → StoreView → SinkView → SinkView → Status → Type 0
ExecCause a old new out out' ReadFault = UnreadEither image_limit a old new ReadFault × (out' ≡ out)
ExecCause a old new out out' TooLong = UnreadEither image_limit a old new TooLong × (out' ≡ out)
ExecCause a old new out out' (ImageRefused number place location other) =
    ToldBoth image_limit a old (λ file input. RefusesToRun (ImageRefused number place location other) file) × (out' ≡ out)
ExecCause a old new out out' NoMemory = out' ≡ out
ExecCause a old new out out' status = (r : Ran) × ToldBoth image_limit a old (RunsThis a r) × RunEnds a r out out' status
