-- When `run FILE` gives each status, and what it prints.
use Rattle.std.specs.Prelude.{◌≡◌, ℕ, List, Ok}
use Rattle.cxx_ast.specs.Plain.{Program, Checked}
use Rattle.cxx_ast.specs.Checked.{checked}
use Rattle.cxx_front.specs.Fate.{HasOnly, refused, valid}
use Rattle.cxx_image.specs.Image.{image_for}
use Rattle.source_bounds.specs.Compiled.{emitted_for}
use Rattle.image_link.specs.Runs.{RunsUnit}
use Rattle.eh_outer.specs.Store.{StoreView}
use Rattle.eh_outer.specs.Sink.{SinkView}
use Rattle.elf_image.specs.Runnable.{runnable}
use Rattle.cxa_runtime.specs.Run.{Ran}
use Rattle.eh_run.specs.Loads.{Loads}
use Rattle.eh_run.specs.Program.{Program as ReadyProgram}
use Rattle.eh_commands.specs.declared.status.Status.{Status}
use Rattle.eh_commands.specs.declared.status.Status.TheVariants.{SourceRefused, ReadFault, TooLong, NoMemory}
use Rattle.eh_commands.specs.Exec.{RunsThis, RunEnds}
use Rattle.eh_commands.specs.File.{Asked, ToldBoth, UnreadEither, source_limit}

-- the image of a checked program is one to run and stands for what is emitted for the program, and this is a run of it with the input
abbrev pub CompiledRunsThis : Asked → Ran → Checked → List ℕ → Type 0
CompiledRunsThis a r p input = RunsUnit (emitted_for p) (image_for p) × RunsThis a r (image_for p) input

-- so of a source, which is a valid program
abbrev pub SourceRunsThis : Asked → Ran → List ℕ → List ℕ → Type 0
SourceRunsThis a r source input = (p : Program) × HasOnly a.std source (valid p) × CompiledRunsThis a r (checked a.std p) input

-- a program that is ready to run is that of a checked program's image, which stands for what is emitted for it
abbrev pub IsReady : Checked → ReadyProgram → Type 0
IsReady p program = RunsUnit (emitted_for p) (image_for p) × Loads (Ok program) (runnable (image_for p))

-- what becomes of a checked program with an input
abbrev pub CompiledRuns : Asked → Checked → List ℕ → SinkView → SinkView → Status → Type 0
CompiledRuns a p input old new NoMemory = new ≡ old
CompiledRuns a p input old new status = (r : Ran) × CompiledRunsThis a r p input × RunEnds a r old new status

-- what becomes of a source with an input
abbrev pub SourceRuns : Asked → List ℕ → List ℕ → SinkView → SinkView → Status → Type 0
SourceRuns a source input old new (SourceRefused number place) = HasOnly a.std source (refused number place) × (new ≡ old)
SourceRuns a source input old new NoMemory = new ≡ old
SourceRuns a source input old new status = (r : Ran) × SourceRunsThis a r source input × RunEnds a r old new status

-- when `run` gives each status, what it leaves of the store's refusals, and of `out`
abbrev pub RunCause : Asked → StoreView → StoreView → SinkView → SinkView → Status → Type 0
RunCause a old new out out' ReadFault = UnreadEither source_limit a old new ReadFault × (out' ≡ out)
RunCause a old new out out' TooLong = UnreadEither source_limit a old new TooLong × (out' ≡ out)
RunCause a old new out out' (SourceRefused number place) = ToldBoth source_limit a old (λ source input. HasOnly a.std source (refused number place)) × (out' ≡ out)
RunCause a old new out out' NoMemory = out' ≡ out
RunCause a old new out out' status = (r : Ran) × ToldBoth source_limit a old (SourceRunsThis a r) × RunEnds a r out out' status
