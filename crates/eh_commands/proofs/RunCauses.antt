-- From what the parts of `run` say to the cause of a status.
use Rattle.std.proofs.Common.{◌≡◌, ℕ, List, Ok, Err, refl}
use Rattle.std.specs.Prelude.{Result, IsOkAnd, IsErrAnd}
use Rattle.eh_outer.specs.Store.{StoreView}
use Rattle.eh_outer.specs.Sink.{SinkView}
use Rattle.cxx_ast.specs.Plain.{Program, Checked}
use Rattle.cxx_ast.specs.Checked.{checked}
use Rattle.cxx_front.specs.Answer.{Answers as FrontAnswers}
use Rattle.cxx_front.specs.Fate.{HasOnly, refused, valid}
use Rattle.cxx_front.specs.declared.error.SourceError.{SourceError}
use Rattle.cxx_front.specs.declared.error.SourceError.TheVariants as errors
use Rattle.cxx_image.specs.Image.{image_for}
use Rattle.eh_bytes.specs.Listed.{ListedUnit}
use Rattle.table_forms.specs.declared.reason.Reason.{Reason}
use Rattle.table_forms.specs.Fault.{Fault}
use Rattle.elf_image.specs.declared.error.ImageError.TheVariants as image_errors
use Rattle.elf_image.specs.Clean.{CleanImage}
use Rattle.elf_image.specs.Reports.{reported}
use Rattle.elf_image.specs.Runnable.{runnable}
use Rattle.image_link.specs.Runs.{UnitStands, RunsUnit}
use Rattle.table_check.specs.Checks.{IsReported}
use Rattle.cxa_runtime.specs.declared.effect.End.{End}
use Rattle.cxa_runtime.specs.declared.effect.End.TheVariants as ends
use Rattle.cxa_runtime.specs.Run.{Ran}
use Rattle.eh_run.specs.Program.{Program as ReadyProgram}
use Rattle.eh_run.specs.Runs.{IsRun}
use Rattle.eh_commands.specs.declared.status.Status.{Status}
use Rattle.eh_commands.specs.declared.status.Status.TheVariants.{Done, Usage, SourceRefused, ImageRefused, ScheduleRefused, ReadFault, TooLong, WriteFault, NoMemory, Aborted, Budget, Stack, MachineFault, Undefined, Differs}
use Rattle.eh_commands.specs.Answer.{status_of_refusal}
use Rattle.eh_commands.specs.Exec.{ProgramRuns}
use Rattle.eh_commands.specs.File.{Asked, NamesRefusal, ToldBoth, UnreadEither, IsFile, IsInput, source_limit}
use Rattle.eh_commands.specs.RunEnd.{status_of_run}
use Rattle.eh_commands.specs.RunSource.{CompiledRunsThis, SourceRunsThis, IsReady, CompiledRuns, SourceRuns, RunCause}
use Rattle.eh_commands.proofs.Causes.{told_both, unread_either}
use Rattle.eh_commands.proofs.ExecCauses.{no_memory, no_run_fault, no_run_length, runs_this}

pub no_run_refusal : (end : End) (number place : ℕ) → SourceRefused number place ≡ status_of_run end → ⊥
no_run_refusal (ends.Exit n) number place e = cc
no_run_refusal ends.Aborted number place e = cc
no_run_refusal ends.Budget number place e = cc
no_run_refusal ends.Stack number place e = cc
no_run_refusal (ends.Fault kind at) number place e = cc
no_run_refusal ends.WriteFault number place e = cc

-- an image that can be run is not refused
pub not_refused : (u : ListedUnit) (image : List ℕ) (reason : Reason) (place location other : ℕ) → RunsUnit u image → IsReported (image_errors.Refused reason place location other) (runnable image) → ⊥
not_refused u image reason place location other runs is = go (runnable image) runs is
  where
    go : (read : Result CleanImage Fault) → IsOkAnd read (UnitStands u) → IsErrAnd read (λ fault. image_errors.Refused reason place location other ≡ reported fault) → ⊥
    go (Ok i) stands never = never
    go (Err fault) never is = never

-- a program that is ready, from its image
module _ (a : Asked) (p : Checked) (input : List ℕ) (program : ReadyProgram) (old new : SinkView) (is_ready : IsReady p program) where
  runs : (r : Ran) → IsRun program input a.modules a.turns r → CompiledRunsThis a r p input
  runs r is = (is_ready.0, runs_this a (image_for p) input program old new is_ready.1 r is)

  pub compiled_runs : (status : Status) → ProgramRuns a program input old new status → CompiledRuns a p input old new status
  compiled_runs Done (r, is, h) = (r, runs r is, h)
  compiled_runs Usage (r, is, h) = (r, runs r is, h)
  compiled_runs (SourceRefused number place) (r, is, h) = (r, runs r is, h)
  compiled_runs (ImageRefused number place location other) (r, is, h) = (r, runs r is, h)
  compiled_runs ReadFault (r, is, h) = (r, runs r is, h)
  compiled_runs TooLong (r, is, h) = (r, runs r is, h)
  compiled_runs WriteFault (r, is, h) = (r, runs r is, h)
  compiled_runs NoMemory (r, is, h) = absurd (no_memory r.end h.0)
  compiled_runs Aborted (r, is, h) = (r, runs r is, h)
  compiled_runs Budget (r, is, h) = (r, runs r is, h)
  compiled_runs Stack (r, is, h) = (r, runs r is, h)
  compiled_runs (MachineFault kind place) (r, is, h) = (r, runs r is, h)
  compiled_runs (ScheduleRefused number place) (r, is, h) = (r, runs r is, h)
  compiled_runs Undefined (r, is, h) = (r, runs r is, h)
  compiled_runs Differs (r, is, h) = (r, runs r is, h)

-- what the front end answers decides what becomes of the source
pub refused_source : (a : Asked) (source input : List ℕ) (old : SinkView) (e : SourceError) → FrontAnswers a.std source (Err e) → SourceRuns a source input old old (status_of_refusal e)
refused_source a source input old (errors.Refused number place) h = (h, refl)
refused_source a source input old errors.NoMemory h = refl

pub source_runs : (a : Asked) (source input : List ℕ) (p : Program) (only : HasOnly a.std source (valid p)) (old new : SinkView) (status : Status) → CompiledRuns a (checked a.std p) input old new status →
    SourceRuns a source input old new status
source_runs a source input p only old new Done (r, this, h) = (r, (p, only, this), h)
source_runs a source input p only old new Usage (r, this, h) = (r, (p, only, this), h)
source_runs a source input p only old new (SourceRefused number place) (r, this, h) = absurd (no_run_refusal r.end number place h.0)
source_runs a source input p only old new (ImageRefused number place location other) (r, this, h) = (r, (p, only, this), h)
source_runs a source input p only old new ReadFault (r, this, h) = (r, (p, only, this), h)
source_runs a source input p only old new TooLong (r, this, h) = (r, (p, only, this), h)
source_runs a source input p only old new WriteFault (r, this, h) = (r, (p, only, this), h)
source_runs a source input p only old new NoMemory h = h
source_runs a source input p only old new Aborted (r, this, h) = (r, (p, only, this), h)
source_runs a source input p only old new Budget (r, this, h) = (r, (p, only, this), h)
source_runs a source input p only old new Stack (r, this, h) = (r, (p, only, this), h)
source_runs a source input p only old new (MachineFault kind place) (r, this, h) = (r, (p, only, this), h)
source_runs a source input p only old new (ScheduleRefused number place) (r, this, h) = (r, (p, only, this), h)
source_runs a source input p only old new Undefined (r, this, h) = (r, (p, only, this), h)
source_runs a source input p only old new Differs (r, this, h) = (r, (p, only, this), h)

-- a source that is not read, or whose input is not
pub unread_run : (a : Asked) (old new : StoreView) (out : SinkView) (status : Status) → UnreadEither source_limit a old new status → RunCause a old new out out status
unread_run a old new out status why = unread_either source_limit a old new (RunCause a old new out out) (λ h. (h, refl)) (λ h. (h, refl)) refl status why

-- what was read, and what became of it
module _ (a : Asked) (source input : List ℕ) (old new : StoreView) (out out' : SinkView) (source_is : IsFile source_limit old a.source source) (input_is : IsInput old a.input input) where
  told : (P : List ℕ → List ℕ → Type 0) → P source input → ToldBoth source_limit a old P
  told P holds = told_both source_limit a old source input P source_is input_is holds

  pub source_run : (status : Status) → SourceRuns a source input out out' status → RunCause a old new out out' status
  source_run Done (r, this, h) = (r, told (SourceRunsThis a r) this, h)
  source_run Usage (r, this, h) = (r, told (SourceRunsThis a r) this, h)
  source_run (SourceRefused number place) (is, same) = (told (λ s i. HasOnly a.std s (refused number place)) is, same)
  source_run (ImageRefused number place location other) (r, this, h) = (r, told (SourceRunsThis a r) this, h)
  source_run ReadFault (r, this, h) = absurd (no_run_fault r.end h.0)
  source_run TooLong (r, this, h) = absurd (no_run_length r.end h.0)
  source_run WriteFault (r, this, h) = (r, told (SourceRunsThis a r) this, h)
  source_run NoMemory h = h
  source_run Aborted (r, this, h) = (r, told (SourceRunsThis a r) this, h)
  source_run Budget (r, this, h) = (r, told (SourceRunsThis a r) this, h)
  source_run Stack (r, this, h) = (r, told (SourceRunsThis a r) this, h)
  source_run (MachineFault kind place) (r, this, h) = (r, told (SourceRunsThis a r) this, h)
  source_run (ScheduleRefused number place) (r, this, h) = (r, told (SourceRunsThis a r) this, h)
  source_run Undefined (r, this, h) = (r, told (SourceRunsThis a r) this, h)
  source_run Differs (r, this, h) = (r, told (SourceRunsThis a r) this, h)

-- a source that was read, and its input, name no file
pub source_runs_named : (a : Asked) (source input name : List ℕ) (store : StoreView) (old new : SinkView) (status : Status) → SourceRuns a source input old new status → NamesRefusal status name store
source_runs_named a source input name store old new Done h = tt
source_runs_named a source input name store old new Usage h = tt
source_runs_named a source input name store old new (SourceRefused number place) h = tt
source_runs_named a source input name store old new (ImageRefused number place location other) h = tt
source_runs_named a source input name store old new ReadFault (r, this, h) = absurd (no_run_fault r.end h.0)
source_runs_named a source input name store old new TooLong (r, this, h) = absurd (no_run_length r.end h.0)
source_runs_named a source input name store old new WriteFault h = tt
source_runs_named a source input name store old new NoMemory h = tt
source_runs_named a source input name store old new Aborted h = tt
source_runs_named a source input name store old new Budget h = tt
source_runs_named a source input name store old new Stack h = tt
source_runs_named a source input name store old new (MachineFault kind place) h = tt
source_runs_named a source input name store old new (ScheduleRefused number place) h = tt
source_runs_named a source input name store old new Undefined h = tt
source_runs_named a source input name store old new Differs h = tt
