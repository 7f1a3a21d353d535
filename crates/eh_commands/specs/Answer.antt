-- When each status comes, and what it leaves.
use Rattle.std.specs.Prelude.{◌≡◌, ◌⊎◌, ⊤, ℕ, List, Option, Some, None}
use Rattle.eh_outer.specs.Store.{StoreView, Rose}
use Rattle.eh_outer.specs.Sink.{SinkView, Gains}
use Rattle.eh_commands.specs.declared.status.Status.{Status}
use Rattle.eh_commands.specs.declared.status.Status.TheVariants.{Done, Usage, SourceRefused, WriteFault, NoMemory}
use Rattle.command_line.specs.declared.command.Verb.{Verb}
use Rattle.command_line.specs.declared.command.Verb.TheVariants.{Compile, Run, Exec, Harts, Mean, Check, Dump, Frames, At, Doubts, Pack, Gen}
use Rattle.command_line.specs.declared.error.WordsError.{WordsError}
use Rattle.command_line.specs.declared.error.WordsError.TheVariants as words
use Rattle.command_line.specs.Command.{CommandView}
use Rattle.eh_outer.specs.Module.{ModuleView}
use Rattle.eh_commands.specs.Words.{asked}
use Rattle.eh_commands.specs.File.{Asked}
use Rattle.eh_commands.specs.Mean.{MeanCause}
use Rattle.eh_commands.specs.Exec.{ExecCause}
use Rattle.eh_commands.specs.Compile.{CompileCause}
use Rattle.eh_commands.specs.RunSource.{RunCause}
use Rattle.eh_commands.specs.Generate.{GenCause}
use Rattle.eh_commands.specs.HartFiles.{harts_asked}
use Rattle.eh_commands.specs.Harts.{HartsCause}
use Rattle.cxx_front.specs.declared.error.SourceError.{SourceError}
use Rattle.cxx_front.specs.declared.error.SourceError.TheVariants as errors
use Rattle.eh_commands.specs.Image.{ImageCause, check_lines, doubt_lines, dump_lines}
use Rattle.eh_commands.specs.Frames.{FramesCause}
use Rattle.eh_commands.specs.At.{AtCause}
use Rattle.eh_commands.specs.Pack.{PackCause}

-- the status of a source that the front end refuses
abbrev pub status_of_refusal : SourceError → Status
status_of_refusal (errors.Refused number place) = SourceRefused number place
status_of_refusal errors.NoMemory = NoMemory

-- when each command gives each status
abbrev pub CommandCause : Verb → Asked → StoreView → StoreView → SinkView → SinkView → Status → Type 0
CommandCause Compile a old new out out' status = CompileCause a old new status × (out' ≡ out)
CommandCause Run a old new out out' status = RunCause a old new out out' status
CommandCause Exec a old new out out' status = ExecCause a old new out out' status
CommandCause Harts a old new out out' status = HartsCause (harts_asked a) old new out out' status
CommandCause Mean a old new out out' status = MeanCause a old new out out' status
CommandCause Check a old new out out' status = ImageCause check_lines a.source old new out out' status
CommandCause Dump a old new out out' status = ImageCause dump_lines a.source old new out out' status
CommandCause Frames a old new out out' status = FramesCause a.source old new out out' status
CommandCause At a old new out out' status = AtCause a old new out out' status
CommandCause Doubts a old new out out' status = ImageCause doubt_lines a.source old new out out' status
CommandCause Pack a old new out out' status = PackCause a old new out out' status
CommandCause Gen a old new out out' status = GenCause a out out' status × (new ≡ old)

-- the told files that a command leaves with a status; what `compile` and `pack` store, their causes say
abbrev pub KeptBy : Verb → Status → StoreView → StoreView → Type 0
KeptBy Compile Done old new = ⊤
KeptBy Pack Done old new = ⊤
KeptBy Pack WriteFault old new = ⊤
KeptBy verb status old new = new.files ≡ old.files

-- the status of words that are read as no command
abbrev pub status_of_words : WordsError → Status
status_of_words words.Usage = Usage
status_of_words words.NoMemory = NoMemory

-- when any words give each status: Usage where they are no command, and nowhere else
abbrev pub Cause : List ModuleView → Option CommandView → StoreView → StoreView → SinkView → SinkView → Status → Type 0
Cause modules None old new out out' status = ((status ≡ Usage) ⊎ (status ≡ NoMemory)) × (new ≡ old) × (out' ≡ out)
Cause modules (Some command) old new out out' status = CommandCause command.verb (asked modules command) old new out out' status

-- no told file changes, but for the image that `compile` or `pack` stores
abbrev pub KeepsFiles : Option CommandView → StoreView → StoreView → Status → Type 0
KeepsFiles None old new status = new.files ≡ old.files
KeepsFiles (Some command) old new status = KeptBy command.verb status old new

-- a told sink gained exactly the text, or the sink's count of faults rose
abbrev pub Reports : List ℕ → SinkView → SinkView → Type 0
Reports text old new = Rose old.faults new.faults ⊎ Gains text old new
