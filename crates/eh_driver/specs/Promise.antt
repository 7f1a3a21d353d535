-- What the commands promise where nothing fails.
use Rattle.std.specs.Prelude.{◌≡◌, ◌≤◌, ◌+◌, ◌*◌, ◌⊎◌, ⊤, ℕ, Bool, List, [], length, Option, Some, None, Ok, Err}
use Rattle.std.specs.FinMap.{get, insert}
use Rattle.eh_outer.specs.Store.{Files, StoreView, Rose, Stores}
use Rattle.eh_outer.specs.Sink.{SinkView, Gains}
use Rattle.eh_commands.specs.declared.status.Status.{Status}
use Rattle.eh_commands.specs.declared.status.Status.TheVariants.{Done, SourceRefused, ReadFault, TooLong, WriteFault, NoMemory}
use Rattle.command_line.specs.declared.command.Verb.{Verb}
use Rattle.command_line.specs.declared.command.Verb.TheVariants.{Compile, Run, Exec, Harts, Mean, Check, Dump, Frames, At, Doubts, Pack, Gen}
use Rattle.command_line.specs.Command.{CommandView, source_size}
use Rattle.eh_outer.specs.Module.{ModuleView}
use Rattle.meaning_forms.specs.declared.ending.MeanEnd.TheVariants.{Undefined, OutOfTurns}
use Rattle.meaning_forms.specs.Meaning.{Meaning, program_meaning}
use Rattle.scope_meaning.specs.Mean.{meant}
use Rattle.eh_commands.specs.Words.{asked}
use Rattle.eh_commands.specs.Mean.{MeaningEnds, mean_lines, status_of_end}
use Rattle.cxx_ast.specs.declared.standard.Std.{Std}
use Rattle.cxx_ast.specs.declared.standard.Std.TheVariants.{Cxx03}
use Rattle.cxx_ast.specs.Plain.{Program}
use Rattle.cxx_ast.specs.Broken.{Valid}
use Rattle.cxx_ast.specs.Checked.{checked}
use Rattle.cxx_front.specs.Source.{IsProgram, IsRefused}
use Rattle.cxx_image.specs.Image.{image_for}
use Rattle.gen_source.specs.Source.{generated}
use Rattle.eh_commands.specs.Exec.{RunsThis, RunEnds}
use Rattle.eh_commands.specs.Generate.{RunsAlone, gen_lines}
use Rattle.run_items.specs.Output.{FailsAmong, bytes_of}
use Rattle.eh_commands.specs.File.{Asked, Told, ToldBoth, input_limit, source_limit}
use Rattle.table_forms.specs.Fault.{Fault}
use Rattle.elf_image.specs.Clean.{CleanImage}
use Rattle.elf_image.specs.Reports.{reported}
use Rattle.elf_image.specs.Runnable.{runnable}
use Rattle.cxa_runtime.specs.Kept.{replies_of}
use Rattle.cxa_runtime.specs.Run.{Ran}
use Rattle.cxa_runtime.specs.declared.effect.End.TheVariants as ends
use Rattle.linear_simulation.specs.ProgramRuns.{BeginsWith}
use Rattle.compiled_runs.specs.Compiled.{EndsAs, IsCut, RunMeans}
use Rattle.compiled_runs.specs.Enough.{HasEnd, enough_for}
use Rattle.eh_run.specs.Program.{program_of}
use Rattle.eh_run.specs.Runs.{IsRun}
use Rattle.eh_commands.specs.Image.{ImagePromise, check_lines, doubt_lines, dump_lines, image_limit, status_of}
use Rattle.eh_commands.specs.Frames.{FramesPromise}
use Rattle.eh_commands.specs.At.{AtPromise}
use Rattle.eh_commands.specs.HartFiles.{harts_asked}
use Rattle.eh_commands.specs.RunEnd.{run_lines, status_of_run}
use Rattle.eh_driver.specs.Compiled.{AreBytes, AreCompiled}
use Rattle.eh_driver.specs.Events.{EventsHold}
use Rattle.eh_driver.specs.Exec.{RunsOn}
use Rattle.eh_driver.specs.Harts.{HartsPromise}
use Rattle.eh_driver.specs.Pack.{PackPromise}

-- a told file of a name within a limit, where neither the store nor the sink fails
pub record Undisturbed (limit : ℕ) (name source : List ℕ) (old new : StoreView) (out out' : SinkView) : Type 0 where
  pub files : Files
  pub told : old.files ≡ Some files
  pub there : get files name ≡ Some source
  pub short : length source ≤ limit
  pub store : Rose old.faults new.faults → ⊥
  pub sink : Rose out.faults out'.faults → ⊥

-- the source is a valid program, and the bytes are its image, which is the compiled program
abbrev pub IsCompiled : Std → List ℕ → List ℕ → Type 0
IsCompiled std source bytes = (p : Program) × IsProgram source p × Valid std p × (bytes ≡ image_for (checked std p)) × AreCompiled (checked std p) bytes

-- Where nothing disturbs: the image of a valid source, which is the compiled program, is stored under its name, and the told files are else as before; a
-- source that is refused is refused by its number and place, and nothing is stored. Or memory ran out, and nothing is stored either. Where the status is Done,
-- what is stored of a told source is the compiled program, whatever the store and the sink refused besides.
pub record CompilePromise (a : Asked) (old new : StoreView) (out out' : SinkView) (status : Status) : Type 0 where
  pub stores : (source : List ℕ) (p : Program) (u : Undisturbed source_limit a.source source old new out out') → IsProgram source p → Valid a.std p →
      ((status ≡ NoMemory) × (new.files ≡ old.files)) ⊎ ((status ≡ Done) × (new.files ≡ Some (insert u.files a.image (image_for (checked a.std p)))) × AreCompiled (checked a.std p) (image_for (checked a.std p)))
  pub refuses : (source : List ℕ) (number place : ℕ) → Undisturbed source_limit a.source source old new out out' → IsRefused a.std source number place →
      ((status ≡ NoMemory) ⊎ (status ≡ SourceRefused number place)) × (new.files ≡ old.files)
  pub keeps : status ≡ Done → (bytes : List ℕ) × Told source_limit old a.source (λ source. IsCompiled a.std source bytes) × Stores a.image bytes old new

-- the input is that of the file, or empty where none is named
abbrev pub InputIs : Option (List ℕ) → Files → List ℕ → Type 0
InputIs None files input = input ≡ []
InputIs (Some name) files input = (get files name ≡ Some input) × (length input ≤ input_limit)

-- a told source and its told input, where neither the store nor the sink fails
pub record MeanUndisturbed (a : Asked) (source input : List ℕ) (old new : StoreView) (out out' : SinkView) : Type 0 where
  pub calm : Undisturbed source_limit a.source source old new out out'
  pub given : InputIs a.input calm.files input

-- a told source and its told input, whatever the store and the sink refuse
pub record MeanTold (a : Asked) (source input : List ℕ) (old : StoreView) : Type 0 where
  pub files : Files
  pub told : old.files ≡ Some files
  pub there : get files a.source ≡ Some source
  pub given : InputIs a.input files input

-- the program's image is the compiled program, the lines of a run of it went out, and the status is that of its end
abbrev pub ShowsImage : Asked → Program → List ℕ → SinkView → SinkView → Status → Type 0
ShowsImage a p input out out' status =
    AreCompiled (checked a.std p) (image_for (checked a.std p)) × (r : Ran) × RunsThis a r (image_for (checked a.std p)) input × (status ≡ status_of_run r.end) × Gains (bytes_of (run_lines a.trace a.count r)) out out'

-- what the program means with the input and the modules, and with as many turns as its run may have steps
abbrev pub meaning_for : Asked → Program → List ℕ → Meaning
meaning_for a p input = program_meaning (checked a.std p) input (replies_of a.modules) a.turns (a.turns + 1)

-- so that this run is what the program means, and what it tells of exceptions is as promised
abbrev pub ShowsMeant : Asked → Program → List ℕ → SinkView → SinkView → Status → Type 0
ShowsMeant a p input out out' status =
    (r : Ran) × RunsThis a r (image_for (checked a.std p)) input × RunMeans (meaning_for a p input) r × EventsHold (meaning_for a p input) r.items (IsCut r.end → ⊥) × (status ≡ status_of_run r.end) ×
    Gains (bytes_of (run_lines a.trace a.count r)) out out'

-- what it means with fewer turns
abbrev pub shorter_meaning : Asked → Program → (turns : ℕ) → List ℕ → Meaning
shorter_meaning a p turns input = program_meaning (checked a.std p) input (replies_of a.modules) turns (turns + 1)

-- so that this run comes to the end of that, or the stack is used up, where 4,096 calls were open
abbrev pub ShowsEnd : Asked → Program → (turns : ℕ) → List ℕ → SinkView → SinkView → Status → Type 0
ShowsEnd a p turns input out out' status =
    (r : Ran) × RunsThis a r (image_for (checked a.std p)) input ×
    (((r.items ≡ (shorter_meaning a p turns input).items) × EndsAs (shorter_meaning a p turns input).end r.end) ⊎ ((r.end ≡ ends.Stack) × (4096 ≤ (shorter_meaning a p turns input).deepest))) ×
    (status ≡ status_of_run r.end) × Gains (bytes_of (run_lines a.trace a.count r)) out out'

-- or so that it has shown all that this shows
abbrev pub ShowsAll : Asked → Program → (turns : ℕ) → List ℕ → SinkView → SinkView → Status → Type 0
ShowsAll a p turns input out out' status =
    (r : Ran) × RunsThis a r (image_for (checked a.std p)) input ×
    (BeginsWith (shorter_meaning a p turns input).items r.items ⊎ ((r.end ≡ ends.Stack) × (4096 ≤ (meaning_for a p input).deepest))) ×
    (status ≡ status_of_run r.end) × Gains (bytes_of (run_lines a.trace a.count r)) out out'

-- a run that is what the program means, where that is defined and the input is one of bytes, and what it tells of exceptions is as promised
abbrev pub IsMeant : Asked → Program → List ℕ → Ran → Type 0
IsMeant a p input r = AreBytes input → ((meaning_for a p input).end ≡ Undefined → ⊥) → RunMeans (meaning_for a p input) r × EventsHold (meaning_for a p input) r.items (IsCut r.end → ⊥)

-- the program's image is the compiled program, and the lines of a run of it went out up to one that failed
abbrev pub BreaksOff : Asked → Program → List ℕ → SinkView → SinkView → Type 0
BreaksOff a p input out out' =
    AreCompiled (checked a.std p) (image_for (checked a.std p)) × (r : Ran) × RunsThis a r (image_for (checked a.std p)) input × IsMeant a p input r × FailsAmong (run_lines a.trace a.count r) out out'

-- the status is one of what was read: no file was refused, no source was, and memory did not run out
abbrev pub IsOfWhatWasRead : Status → Type 0
IsOfWhatWasRead ReadFault = ⊥
IsOfWhatWasRead TooLong = ⊥
IsOfWhatWasRead (SourceRefused number place) = ⊥
IsOfWhatWasRead NoMemory = ⊥
IsOfWhatWasRead status = ⊤

-- The source is a valid program, whose image is the compiled program. A run of it with the input answered, which is what the program means where that is
-- defined: its lines went out and the status is that of its end, or they went out up to one that failed.
abbrev pub RunAnswers : Asked → SinkView → SinkView → Status → List ℕ → List ℕ → Type 0
RunAnswers a out out' status source input =
    (p : Program) × IsProgram source p × Valid a.std p × AreCompiled (checked a.std p) (image_for (checked a.std p)) ×
    (r : Ran) × RunsThis a r (image_for (checked a.std p)) input × IsMeant a p input r × RunEnds a r out out' status

-- Where nothing disturbs: the image of a valid source is the compiled program, the lines of a run of it go out, and the status is that of its end. While what the program means is
-- defined, these are the lines of a front of its items, and unless the run is cut short they are all, and it ends as the meaning does. Where the run may have
-- enough steps for a meaning with fewer turns, it is not cut short before that ends, or before it runs out of its turns. One that is refused is refused by its
-- number and place. Or memory ran out. Where a line fails, those before it are a front of the lines of such a run. Over any store, also one that tells nothing of
-- its files, each other status and each line is that of such a run of some one source with some one input.
pub record RunPromise (a : Asked) (old new : StoreView) (out out' : SinkView) (status : Status) : Type 0 where
  pub shows : (source input : List ℕ) (p : Program) → MeanUndisturbed a source input old new out out' → IsProgram source p → Valid a.std p →
      (status ≡ NoMemory) ⊎ ShowsImage a p input out out' status
  pub means : (source input : List ℕ) (p : Program) → MeanUndisturbed a source input old new out out' → IsProgram source p → Valid a.std p → AreBytes input → ((meaning_for a p input).end ≡ Undefined → ⊥) →
      (status ≡ NoMemory) ⊎ ShowsMeant a p input out out' status
  pub ends : (source input : List ℕ) (p : Program) (turns : ℕ) → MeanUndisturbed a source input old new out out' → IsProgram source p → Valid a.std p → AreBytes input → enough_for (checked a.std p) turns ≤ a.turns →
      HasEnd (shorter_meaning a p turns input).end → (status ≡ NoMemory) ⊎ ShowsEnd a p turns input out out' status
  pub goes_on : (source input : List ℕ) (p : Program) (turns : ℕ) → MeanUndisturbed a source input old new out out' → IsProgram source p → Valid a.std p → AreBytes input → enough_for (checked a.std p) turns ≤ a.turns →
      (shorter_meaning a p turns input).end ≡ OutOfTurns → ((meaning_for a p input).end ≡ Undefined → ⊥) → (status ≡ NoMemory) ⊎ ShowsAll a p turns input out out' status
  pub refuses : (source input : List ℕ) (number place : ℕ) → MeanUndisturbed a source input old new out out' → IsRefused a.std source number place →
      (status ≡ NoMemory) ⊎ (status ≡ SourceRefused number place)
  pub breaks : (source input : List ℕ) (p : Program) → MeanTold a source input old → IsProgram source p → Valid a.std p → status ≡ WriteFault → BreaksOff a p input out out'
  pub answers : IsOfWhatWasRead status → ToldBoth source_limit a old (RunAnswers a out out' status)

-- the lines of a meaning went out, and the status is that of its end; and what it tells of exceptions is as promised
abbrev pub Shows : Bool → Meaning → SinkView → SinkView → Status → Type 0
Shows trace m out out' status = (status ≡ status_of_end m.end) × Gains (bytes_of (mean_lines trace m.items m.end)) out out' × EventsHold m m.items ⊤

-- so up to a line that failed
abbrev pub MeansUpTo : Bool → Meaning → SinkView → SinkView → Type 0
MeansUpTo trace m out out' = FailsAmong (mean_lines trace m.items m.end) out out' × EventsHold m m.items ⊤

-- The source is a valid program, and what it means with the input answered: its lines went out and the status is that of its end, or they went out up to one that
-- failed. What it tells of exceptions is as promised.
abbrev pub MeanAnswers : Asked → SinkView → SinkView → Status → List ℕ → List ℕ → Type 0
MeanAnswers a out out' status source input =
    (p : Program) × IsProgram source p × Valid a.std p × let m = meant (checked a.std p) input a.modules a.turns in MeaningEnds a.trace m out out' status × EventsHold m m.items ⊤

-- Where nothing disturbs: what a valid source means goes out, and the status is that of its end; one that is refused is refused by
-- its number and place. Or memory ran out. Where a line fails, those before it are a front of the lines of what the source means. Over any store each other
-- status and each line is that of what some one source means with some one input.
pub record MeanPromise (a : Asked) (old new : StoreView) (out out' : SinkView) (status : Status) : Type 0 where
  pub shows : (source input : List ℕ) (p : Program) → MeanUndisturbed a source input old new out out' → IsProgram source p → Valid a.std p →
      (status ≡ NoMemory) ⊎ Shows a.trace (meant (checked a.std p) input a.modules a.turns) out out' status
  pub refuses : (source input : List ℕ) (number place : ℕ) → MeanUndisturbed a source input old new out out' → IsRefused a.std source number place →
      (status ≡ NoMemory) ⊎ (status ≡ SourceRefused number place)
  pub breaks : (source input : List ℕ) (p : Program) → MeanTold a source input old → IsProgram source p → Valid a.std p → status ≡ WriteFault →
      MeansUpTo a.trace (meant (checked a.std p) input a.modules a.turns) out out'
  pub answers : IsOfWhatWasRead status → ToldBoth source_limit a old (MeanAnswers a out out' status)

-- a told image and its told input, where neither the store nor the sink fails
pub record ExecUndisturbed (a : Asked) (file input : List ℕ) (old new : StoreView) (out out' : SinkView) : Type 0 where
  pub calm : Undisturbed image_limit a.source file old new out out'
  pub given : InputIs a.input calm.files input

-- The lines of a run of the program went out, and the status is that of its end. In it each foreign exception is cleaned at most once, and a run of more steps
-- goes on where it stopped.
abbrev pub ShowsRun : Asked → CleanImage → List ℕ → SinkView → SinkView → Status → Type 0
ShowsRun a i input out out' status =
    (r : Ran) × IsRun (program_of i) input a.modules a.turns r × RunsOn (program_of i) input a.modules a.turns r × (status ≡ status_of_run r.end) × Gains (bytes_of (run_lines a.trace a.count r)) out out'

-- Where nothing disturbs: the lines of a run of a runnable image go out, and the status is that of its end; any other image is refused by
-- its first refusal, and nothing is written. Or memory ran out.
pub record ExecPromise (a : Asked) (old new : StoreView) (out out' : SinkView) (status : Status) : Type 0 where
  pub shows : (file input : List ℕ) (i : CleanImage) → ExecUndisturbed a file input old new out out' → runnable file ≡ Ok i →
      (status ≡ NoMemory) ⊎ ShowsRun a i input out out' status
  pub refuses : (file input : List ℕ) (fault : Fault) → ExecUndisturbed a file input old new out out' → runnable file ≡ Err fault →
      (status ≡ NoMemory) ⊎ ((status ≡ status_of (reported fault)) × (out' ≡ out))

-- The source of a size is a valid program, whose image is the compiled program. How many tokens it has, how many ints a run of it without input and modules wrote,
-- how many exception objects that made, and the line of its end went out, and the status is that of the end.
abbrev pub ShowsCounts : Asked → ℕ → SinkView → SinkView → Status → Type 0
ShowsCounts a n out out' status =
    (p : Program) × IsProgram (generated n) p × Valid Cxx03 p × AreCompiled (checked Cxx03 p) (image_for (checked Cxx03 p)) ×
    (r : Ran) × RunsAlone a.turns (checked Cxx03 p) r × (status ≡ status_of_run r.end) × Gains (bytes_of (gen_lines (31 * n + 73) r)) out out'

-- where `out` does not fail, of the size that the operand is; or memory ran out
abbrev pub GenPromise : Asked → SinkView → SinkView → Status → Type 0
GenPromise a out out' status = (n : ℕ) → source_size a.source ≡ Some n → (Rose out.faults out'.faults → ⊥) → (status ≡ NoMemory) ⊎ ShowsCounts a n out out' status

-- what each command promises
abbrev pub CommandPromise : Verb → Asked → StoreView → StoreView → SinkView → SinkView → Status → Type 0
CommandPromise Compile a old new out out' status = CompilePromise a old new out out' status
CommandPromise Run a old new out out' status = RunPromise a old new out out' status
CommandPromise Exec a old new out out' status = ExecPromise a old new out out' status
CommandPromise Harts a old new out out' status = HartsPromise (harts_asked a) old new out out' status
CommandPromise Mean a old new out out' status = MeanPromise a old new out out' status
CommandPromise Check a old new out out' status = ImagePromise check_lines a.source old new out out' status
CommandPromise Dump a old new out out' status = ImagePromise dump_lines a.source old new out out' status
CommandPromise Frames a old new out out' status = FramesPromise a.source old new out out' status
CommandPromise At a old new out out' status = AtPromise a old new out out' status
CommandPromise Doubts a old new out out' status = ImagePromise doubt_lines a.source old new out out' status
CommandPromise Pack a old new out out' status = PackPromise a old new out out' status
CommandPromise Gen a old new out out' status = GenPromise a out out' status

-- what words promise
abbrev pub Promise : List ModuleView → Option CommandView → StoreView → StoreView → SinkView → SinkView → Status → Type 0
Promise modules None old new out out' status = ⊤
Promise modules (Some command) old new out out' status = CommandPromise command.verb (asked modules command) old new out out' status
