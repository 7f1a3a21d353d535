-- What `harts` promises where nothing fails.
use Rattle.std.specs.Prelude.{◌≡◌, ◌≤◌, ◌⊎◌, ⊤, ℕ, List, [], ◌∷◌, length, Some, Ok, Err}
use Rattle.std.specs.FinMap.{get}
use Rattle.eh_outer.specs.Store.{Files, StoreView, Rose}
use Rattle.eh_outer.specs.Sink.{SinkView, Gains}
use Rattle.run_items.specs.Output.{bytes_of}
use Rattle.table_forms.specs.Fault.{Fault}
use Rattle.elf_image.specs.Clean.{CleanImage}
use Rattle.elf_image.specs.Reports.{reported}
use Rattle.elf_image.specs.Runnable.{runnable}
use Rattle.eh_run.specs.Program.{program_of}
use Rattle.hart_sched.specs.Schedule.{Refusal, Slice, schedule}
use Rattle.hart_sched.specs.Run.{Ran}
use Rattle.hart_sched.specs.Harts.{IsRun}
use Rattle.hart_sched.specs.Laws.{RunsApart}
use Rattle.hart_sched.specs.Text.{pieces_of}
use Rattle.eh_commands.specs.declared.status.Status.{Status}
use Rattle.eh_commands.specs.declared.status.Status.TheVariants.{Done, ScheduleRefused, NoMemory}
use Rattle.eh_commands.specs.File.{input_limit}
use Rattle.eh_commands.specs.HartFiles.{HartsAsked, schedule_limit}
use Rattle.eh_commands.specs.Image.{image_limit, status_of}

-- the inputs are those of these files, each within its limit
abbrev pub InputsAre : Files → List (List ℕ) → List (List ℕ) → Type 0
InputsAre files [] [] = ⊤
InputsAre files (name ∷ names) (input ∷ inputs) = (get files name ≡ Some input) × (length input ≤ input_limit) × InputsAre files names inputs
InputsAre files _ _ = ⊥

-- a told image, a told schedule and told inputs, where neither the store nor the sink fails
pub record HartsUndisturbed (a : HartsAsked) (file text : List ℕ) (inputs : List (List ℕ)) (old new : StoreView) (out out' : SinkView) : Type 0 where
  pub files : Files
  pub told : old.files ≡ Some files
  pub image_there : get files a.image ≡ Some file
  pub image_short : length file ≤ image_limit
  pub schedule_there : get files a.schedule ≡ Some text
  pub schedule_short : length text ≤ schedule_limit
  pub given : InputsAre files a.inputs inputs
  pub store : Rose old.faults new.faults → ⊥
  pub sink : Rose out.faults out'.faults → ⊥

-- the lines of a run of the harts went out, each of which runs as it would alone
abbrev pub ShowsHarts : HartsAsked → CleanImage → List Slice → List (List ℕ) → SinkView → SinkView → Status → Type 0
ShowsHarts a i slices inputs out out' status =
    (r : Ran) × IsRun (program_of i).image (program_of i).hart inputs slices r × RunsApart (program_of i).image (program_of i).hart inputs a.trace r × (status ≡ Done) ×
    Gains (bytes_of (pieces_of a.trace r)) out out'

-- Where nothing disturbs: of a runnable image and a schedule for as many harts as there are inputs the lines of a run go out, and the status is Done. Any other
-- image is refused by its first refusal, and of a runnable one any other schedule by its own; then nothing is written. Or memory ran out.
pub record HartsPromise (a : HartsAsked) (old new : StoreView) (out out' : SinkView) (status : Status) : Type 0 where
  pub shows : (file text : List ℕ) (inputs : List (List ℕ)) (i : CleanImage) (slices : List Slice) → HartsUndisturbed a file text inputs old new out out' →
      runnable file ≡ Ok i → schedule (length inputs) text ≡ Ok slices → (status ≡ NoMemory) ⊎ ShowsHarts a i slices inputs out out' status
  pub refuses : (file text : List ℕ) (inputs : List (List ℕ)) (fault : Fault) → HartsUndisturbed a file text inputs old new out out' →
      runnable file ≡ Err fault → (status ≡ NoMemory) ⊎ ((status ≡ status_of (reported fault)) × (out' ≡ out))
  pub refuses_schedule : (file text : List ℕ) (inputs : List (List ℕ)) (i : CleanImage) (refusal : Refusal) → HartsUndisturbed a file text inputs old new out out' →
      runnable file ≡ Ok i → schedule (length inputs) text ≡ Err refusal → (status ≡ NoMemory) ⊎ ((status ≡ ScheduleRefused refusal.number refusal.place) × (out' ≡ out))
