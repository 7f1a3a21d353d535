-- When `gen N` gives each status, and what it prints.
use Rattle.std.specs.Prelude.{◌≡◌, ⊤, ℕ, true, List, [], ◌∷◌, count_by, codes, Some, Ok}
use Rattle.cxx_ast.specs.declared.standard.Std.TheVariants.{Cxx03}
use Rattle.cxx_ast.specs.Plain.{Program, Checked}
use Rattle.cxx_ast.specs.Checked.{checked}
use Rattle.cxx_front.specs.Fate.{HasOnly, valid}
use Rattle.cxx_image.specs.Image.{image_for}
use Rattle.source_bounds.specs.Compiled.{emitted_for}
use Rattle.image_link.specs.Runs.{RunsUnit}
use Rattle.gen_source.specs.Source.{generated}
use Rattle.eh_outer.specs.Sink.{SinkView}
use Rattle.run_items.specs.Line.{is_written}
use Rattle.run_items.specs.Output.{TakesAll, FailsAmong}
use Rattle.elf_image.specs.Clean.{CleanImage}
use Rattle.elf_image.specs.Runnable.{runnable}
use Rattle.cxa_runtime.specs.declared.effect.End.{End}
use Rattle.cxa_runtime.specs.Run.{Ran}
use Rattle.eh_run.specs.Counts.{is_make}
use Rattle.eh_run.specs.Program.{Program as ReadyProgram, program_of}
use Rattle.eh_run.specs.Runs.{IsRun}
use Rattle.command_line.specs.declared.command.Verb.{Verb}
use Rattle.command_line.specs.declared.command.Verb.TheVariants.{Gen}
use Rattle.command_line.specs.Command.{is_size, source_size}
use Rattle.eh_commands.specs.declared.status.Status.{Status}
use Rattle.eh_commands.specs.declared.status.Status.TheVariants.{SourceRefused, ImageRefused, WriteFault, NoMemory}
use Rattle.eh_commands.specs.File.{Asked}
use Rattle.eh_commands.specs.Output.{number_line}
use Rattle.run_ends.specs.EndLine.{end_line}
use Rattle.eh_commands.specs.RunEnd.{status_of_run}

-- what is printed: how many tokens a source has, how many ints a run of it wrote, how many exception objects it made, and how it ended
abbrev pub counted_lines : (tokens lines makes : ℕ) → End → List (List ℕ)
counted_lines tokens lines makes end =
    number_line (codes "tokens ") tokens ∷ number_line (codes "lines ") lines ∷ number_line (codes "makes ") makes ∷ end_line end ∷ []

-- so of a run
abbrev pub gen_lines : ℕ → Ran → List (List ℕ)
gen_lines tokens r = counted_lines tokens (count_by is_written r.items) (count_by is_make r.items) r.end

-- How a run ends of which this holds, with the number of tokens of its source: its lines go out, and the status is that of its end; or a line fails.
abbrev pub CountEnds : (ℕ → Ran → Type 0) → SinkView → SinkView → Status → Type 0
CountEnds P old new WriteFault = (tokens : ℕ) × (r : Ran) × P tokens r × FailsAmong (gen_lines tokens r) old new
CountEnds P old new status = (tokens : ℕ) × (r : Ran) × P tokens r × (status ≡ status_of_run r.end) × TakesAll (gen_lines tokens r) old new

-- Or memory ran out before the run, and nothing is written. There is no refusal.
abbrev pub GenEnds : (ℕ → Ran → Type 0) → SinkView → SinkView → Status → Type 0
GenEnds P old new (SourceRefused number place) = ⊥
GenEnds P old new (ImageRefused number place location other) = ⊥
GenEnds P old new NoMemory = new ≡ old
GenEnds P old new status = CountEnds P old new status

-- a run of a program that is ready, without input and modules, of at most so many steps
abbrev pub ReadyRuns : ℕ → ReadyProgram → ℕ → ℕ → Ran → Type 0
ReadyRuns turns program count tokens r = (tokens ≡ count) × IsRun program [] [] turns r

-- so of the image of a checked program, which stands for what is emitted for it
abbrev pub RunsAlone : ℕ → Checked → Ran → Type 0
RunsAlone turns p r = RunsUnit (emitted_for p) (image_for p) × (i : CleanImage) × (runnable (image_for p) ≡ Ok i) × IsRun (program_of i) [] [] turns r

abbrev pub CheckedRuns : ℕ → Checked → ℕ → Ran → Type 0
CheckedRuns turns p tokens r = (tokens ≡ p.program.tokens) × RunsAlone turns p r

-- so of the source of a size, which is a valid program
abbrev pub SizeRuns : ℕ → ℕ → ℕ → Ran → Type 0
SizeRuns turns n tokens r = (p : Program) × HasOnly Cxx03 (generated n) (valid p) × (tokens ≡ p.tokens) × RunsAlone turns (checked Cxx03 p) r

-- so of the size that the operand is
abbrev pub GeneratedRuns : Asked → ℕ → Ran → Type 0
GeneratedRuns a tokens r = (n : ℕ) × (source_size a.source ≡ Some n) × SizeRuns a.turns n tokens r

-- when `gen` gives each status, and what it leaves of `out`
abbrev pub GenCause : Asked → SinkView → SinkView → Status → Type 0
GenCause a old new status = GenEnds (GeneratedRuns a) old new status

-- where a source is generated, the operand is its size
abbrev pub IsSized : Verb → List ℕ → Type 0
IsSized Gen operand = is_size operand ≡ true
IsSized verb operand = ⊤
