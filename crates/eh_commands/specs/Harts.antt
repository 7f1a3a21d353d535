-- When `harts IMAGE SCHEDULE` gives each status, and what it prints.
use Rattle.std.specs.Prelude.{Vec, ◌≡◌, ℕ, Bool, List, map, length, Result, Ok, Err, IsErrAnd}
use Rattle.std.specs.Global.{Global}
use Rattle.eh_outer.specs.Store.{StoreView}
use Rattle.eh_outer.specs.Sink.{SinkView}
use Rattle.run_items.specs.Output.{TakesAll, FailsAmong}
use Rattle.elf_image.specs.Clean.{CleanImage}
use Rattle.elf_image.specs.Runnable.{runnable}
use Rattle.elf_image.specs.declared.error.ImageError.{ImageError}
use Rattle.table_check.specs.Checks.{IsReported}
use Rattle.rv64_isa.specs.State.{State}
use Rattle.cxa_runtime.specs.Raising.{Image}
use Rattle.eh_run.specs.Program.{program_of}
use Rattle.hart_sched.specs.declared.hart.Hart.{Hart}
use Rattle.hart_sched.specs.declared.schedule.ScheduleError.{ScheduleError}
use Rattle.hart_sched.specs.declared.schedule.ScheduleError.TheVariants as errors
use Rattle.hart_sched.specs.declared.seat.Seat.{Seat}
use Rattle.hart_sched.specs.Schedule.{Slice, schedule}
use Rattle.hart_sched.specs.Run.{Ran}
use Rattle.hart_sched.specs.Harts.{IsRun}
use Rattle.hart_sched.specs.Text.{pieces_of}
use Rattle.hart_sched.specs.Whole.{AreReady, IsReady, seat_of}
use Rattle.eh_commands.specs.declared.status.Status.{Status}
use Rattle.eh_commands.specs.declared.status.Status.TheVariants.{Done, ImageRefused, ScheduleRefused, ReadFault, TooLong, WriteFault, NoMemory}
use Rattle.eh_commands.specs.Exec.{RefusesToRun}
use Rattle.eh_commands.specs.HartFiles.{HartsAsked, ToldHarts, UnreadAmong, files_of}

-- the status of a schedule that is not read
abbrev pub status_of_schedule : ScheduleError → Status
status_of_schedule (errors.Refused number place) = ScheduleRefused number place
status_of_schedule errors.NoMemory = NoMemory

-- the file is an image that can be run
abbrev pub IsRunnable : List ℕ → Type 0
IsRunnable file = (i : CleanImage) × (runnable file ≡ Ok i)

-- and the text is a schedule for as many harts as there are inputs, and this is a run of them
abbrev pub RunsHarts : Ran → List ℕ → List ℕ → List (List ℕ) → Type 0
RunsHarts r file text inputs =
    (i : CleanImage) × (slices : List Slice) × (runnable file ≡ Ok i) × (schedule (length inputs) text ≡ Ok slices) × IsRun (program_of i).image (program_of i).hart inputs slices r

-- or the text is none, and this is the status of its refusal
abbrev pub RefusesSchedule : Status → List ℕ → List ℕ → List (List ℕ) → Type 0
RefusesSchedule status file text inputs = IsRunnable file × IsErrAnd (schedule (length inputs) text) (λ refusal. status ≡ ScheduleRefused refusal.number refusal.place)

-- ---- from layer to layer
-- a hart of the image at its start, or why there is none
abbrev pub Readies : List ℕ → List ℕ → Result Hart ImageError → Type 0
Readies file input (Ok hart) = (i : CleanImage) × (runnable file ≡ Ok i) × IsReady (program_of i).image (program_of i).hart input (seat_of hart)
Readies file input (Err e) = IsReported e (runnable file)

-- one for each input
abbrev pub AllReady : List ℕ → List (List ℕ) → List Hart → Type 0
AllReady file inputs harts = (i : CleanImage) × (runnable file ≡ Ok i) × AreReady (program_of i).image (program_of i).hart inputs (map seat_of harts)

abbrev pub ReadiesAll : List ℕ → List (List ℕ) → Result (Vec Hart Global) ImageError → Type 0
ReadiesAll file inputs (Ok harts) = AllReady file inputs harts.items
ReadiesAll file inputs (Err e) = IsReported e (runnable file)

-- what becomes of harts that are ready
abbrev pub ReadyRun : Bool → List Slice → Image → State → List (List ℕ) → SinkView → SinkView → Status → Type 0
ReadyRun trace slices image s inputs old new Done = (r : Ran) × IsRun image s inputs slices r × TakesAll (pieces_of trace r) old new
ReadyRun trace slices image s inputs old new WriteFault = (r : Ran) × IsRun image s inputs slices r × FailsAmong (pieces_of trace r) old new
ReadyRun trace slices image s inputs old new NoMemory = new ≡ old
ReadyRun trace slices image s inputs old new status = ⊥

abbrev pub SeatsRun : Bool → List Slice → List Seat → SinkView → SinkView → Status → Type 0
SeatsRun trace slices seats old new status = (image : Image) (s : State) (inputs : List (List ℕ)) → AreReady image s inputs seats → ReadyRun trace slices image s inputs old new status

-- what becomes of an image with a schedule and inputs
abbrev pub HartsRun : Bool → List ℕ → List ℕ → List (List ℕ) → SinkView → SinkView → Status → Type 0
HartsRun trace file text inputs old new Done = (r : Ran) × RunsHarts r file text inputs × TakesAll (pieces_of trace r) old new
HartsRun trace file text inputs old new WriteFault = (r : Ran) × RunsHarts r file text inputs × FailsAmong (pieces_of trace r) old new
HartsRun trace file text inputs old new (ImageRefused number place location other) = RefusesToRun (ImageRefused number place location other) file × (new ≡ old)
HartsRun trace file text inputs old new (ScheduleRefused number place) = RefusesSchedule (ScheduleRefused number place) file text inputs × (new ≡ old)
HartsRun trace file text inputs old new NoMemory = new ≡ old
HartsRun trace file text inputs old new status = ⊥

-- when `harts` gives each status, what it leaves of the store's refusals, and of `out`
abbrev pub HartsCause : HartsAsked → StoreView → StoreView → SinkView → SinkView → Status → Type 0
HartsCause a old new out out' Done = (r : Ran) × ToldHarts a old (RunsHarts r) × TakesAll (pieces_of a.trace r) out out'
HartsCause a old new out out' WriteFault = (r : Ran) × ToldHarts a old (RunsHarts r) × FailsAmong (pieces_of a.trace r) out out'
HartsCause a old new out out' ReadFault = UnreadAmong (files_of a) old new ReadFault × (out' ≡ out)
HartsCause a old new out out' TooLong = UnreadAmong (files_of a) old new TooLong × (out' ≡ out)
HartsCause a old new out out' (ImageRefused number place location other) =
    ToldHarts a old (λ file text inputs. RefusesToRun (ImageRefused number place location other) file) × (out' ≡ out)
HartsCause a old new out out' (ScheduleRefused number place) = ToldHarts a old (RefusesSchedule (ScheduleRefused number place)) × (out' ≡ out)
HartsCause a old new out out' NoMemory = out' ≡ out
HartsCause a old new out out' status = ⊥
