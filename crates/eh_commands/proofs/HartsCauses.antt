-- From what the parts of `harts` say to the cause of a status.
use Rattle.std.proofs.Common.{◌≡◌, ◌≤◌, ◌∙◌, ℕ, Bool, List, [], ◌∷◌, ◌++◌, map, length, Result, Ok, Err, refl, sym, subst, arith}
use Rattle.std.specs.Prelude.{⊤, IsErrAnd}
use Rattle.std.proofs.lemmas.List.{map-append, length-map}
use Rattle.eh_outer.specs.Store.{StoreView}
use Rattle.eh_outer.specs.Sink.{SinkView}
use Rattle.table_forms.specs.Fault.{Fault}
use Rattle.elf_image.specs.Clean.{CleanImage}
use Rattle.elf_image.specs.Runnable.{runnable}
use Rattle.elf_image.specs.declared.error.ImageError.{ImageError}
use Rattle.elf_image.specs.declared.error.ImageError.TheVariants as image_errors
use Rattle.table_check.specs.Checks.{IsReported}
use Rattle.rv64_isa.specs.State.{State}
use Rattle.cxa_runtime.specs.Raising.{Image}
use Rattle.eh_run.specs.Loads.{Loads}
use Rattle.eh_run.specs.Program.{Program, program_of}
use Rattle.eh_run.specs.Ready as loaded
use Rattle.hart_sched.specs.declared.hart.Hart.{Hart}
use Rattle.hart_sched.specs.declared.schedule.ScheduleError.{ScheduleError}
use Rattle.hart_sched.specs.declared.schedule.ScheduleError.TheVariants as errors
use Rattle.hart_sched.specs.declared.seat.Seat.{Seat}
use Rattle.hart_sched.specs.Reads.{Reads}
use Rattle.hart_sched.specs.Schedule.{Refusal, Slice, schedule}
use Rattle.hart_sched.specs.Starts.{LoadedIsReady, ReadyIsFresh}
use Rattle.hart_sched.specs.Turns.{AreFresh}
use Rattle.hart_sched.specs.Whole.{AreReady, IsReady, seat_of}
use Rattle.eh_commands.specs.declared.status.Status.{Status}
use Rattle.eh_commands.specs.declared.status.Status.TheVariants.{Done, Usage, SourceRefused, ImageRefused, ScheduleRefused, ReadFault, TooLong, WriteFault, NoMemory, Aborted, Budget, Stack, MachineFault, Undefined, Differs}
use Rattle.eh_commands.specs.Exec.{RefusesToRun}
use Rattle.eh_commands.specs.File.{NamesRefusal}
use Rattle.eh_commands.specs.HartFiles.{AreFiles, HartsAsked, UnreadAmong, files_of}
use Rattle.eh_commands.specs.Harts.{AllReady, HartsCause, HartsRun, Readies, ReadyRun, RefusesSchedule, RunsHarts, SeatsRun, status_of_schedule}
use Rattle.eh_commands.specs.Image.{status_of}
use Rattle.eh_commands.proofs.ExecCauses.{refuses}
use Rattle.eh_commands.proofs.HartReading.{among_one, told_harts}

-- ---- harts
ok_same : {i j : CleanImage} → ◌≡◌ {A = Result CleanImage Fault} (Ok i) (Ok j) → i ≡ j
ok_same e = cc

-- what was loaded, as a hart with its input
pub hart_is_ready : LoadedIsReady → (file : List ℕ) (program : Program) (hart : Hart) (header : ℕ) → Loads (Ok program) (runnable file) → loaded.IsReady hart.runtime header →
    loaded.program_in hart.runtime header ≡ program → Readies file hart.input.items (Ok hart)
hart_is_ready law file program hart header loads ready is = by (runnable file) refl loads
  where
    by : (read : Result CleanImage Fault) → runnable file ≡ read → Loads (Ok program) read → Readies file hart.input.items (Ok hart)
    by (Ok i) read loads = (
      i,
      read,
      subst (λ (p : Program). IsReady p.image p.hart hart.input.items (seat_of hart)) (is ∙ loads) (law header (seat_of hart) ready refl refl),
    )
    by (Err fault) read loads = absurd loads

-- those of the inputs so far
abbrev pub ReadySoFar : List ℕ → List (List ℕ) → List Hart → Type 0
ReadySoFar file [] [] = ⊤
ReadySoFar file inputs harts = AllReady file inputs harts

snoc_ready : (image : Image) (s : State) (inputs : List (List ℕ)) (seats : List Seat) (input : List ℕ) (seat : Seat) → AreReady image s inputs seats → IsReady image s input seat →
    AreReady image s (inputs ++ input ∷ []) (seats ++ seat ∷ [])
snoc_ready image s [] [] input seat are is = (is, tt)
snoc_ready image s [] (t ∷ seats) input seat are is = absurd are
snoc_ready image s (i ∷ inputs) [] input seat are is = absurd are
snoc_ready image s (i ∷ inputs) (t ∷ seats) input seat are is = (are.0, snoc_ready image s inputs seats input seat are.1 is)

pub ready_next : (file : List ℕ) (inputs : List (List ℕ)) (harts : List Hart) (input : List ℕ) (hart : Hart) → ReadySoFar file inputs harts → Readies file input (Ok hart) →
    ReadySoFar file (inputs ++ input ∷ []) (harts ++ hart ∷ [])
ready_next file [] [] input hart so_far (i, read, is) = (i, read, (is, tt))
ready_next file [] (h ∷ harts) input hart (j, read_before, are) ready = absurd are
ready_next file (x ∷ inputs) [] input hart (j, read_before, are) ready = absurd are
ready_next file (x ∷ inputs) (h ∷ harts) input hart (j, read_before, are) (i, read, is) =
    let same : i ≡ j = ok_same (sym read ∙ read_before) in
    let next = subst (λ (k : CleanImage). IsReady (program_of k).image (program_of k).hart input (seat_of hart)) same is in
    let image = (program_of j).image in
    let s = (program_of j).hart in (
      j,
      read_before,
      subst (λ (seats : List Seat). AreReady image s ((x ∷ inputs) ++ input ∷ []) seats) (sym (map-append seat_of (h ∷ harts) (hart ∷ [])))
          (snoc_ready image s (x ∷ inputs) (map seat_of (h ∷ harts)) input (seat_of hart) are next),
    )

-- those of all inputs
pub all_ready : (file : List ℕ) (inputs : List (List ℕ)) (harts : List Hart) → 1 ≤ length inputs → ReadySoFar file inputs harts → AllReady file inputs harts
all_ready file [] harts some so_far = absurd (omega (arith, some))
all_ready file (x ∷ inputs) harts some so_far = so_far

as_many_ready : (image : Image) (s : State) (inputs : List (List ℕ)) (seats : List Seat) → AreReady image s inputs seats → length seats ≡ length inputs
as_many_ready image s [] [] are = refl
as_many_ready image s [] (t ∷ seats) are = absurd are
as_many_ready image s (i ∷ inputs) [] are = absurd are
as_many_ready image s (i ∷ inputs) (t ∷ seats) are = let more = as_many_ready image s inputs seats are.1 in omega (arith, more)

-- as many as inputs
pub as_many_harts : (file : List ℕ) (inputs : List (List ℕ)) (harts : List Hart) → AllReady file inputs harts → length harts ≡ length inputs
as_many_harts file inputs harts (i, read, are) = sym (length-map harts seat_of) ∙ as_many_ready (program_of i).image (program_of i).hart inputs (map seat_of harts) are

-- which have done nothing yet
pub harts_are_fresh : ReadyIsFresh → (file : List ℕ) (inputs : List (List ℕ)) (harts : List Hart) → AllReady file inputs harts → AreFresh (map seat_of harts)
harts_are_fresh law file inputs harts (i, read, are) = law (program_of i).image (program_of i).hart inputs (map seat_of harts) are

-- ---- an image with a schedule and inputs
err_and : (read : Result (List Slice) Refusal) (number place : ℕ) → read ≡ Err (record { number = number; place = place }) →
    IsErrAnd read (λ refusal. ScheduleRefused number place ≡ ScheduleRefused refusal.number refusal.place)
err_and read number place is = subst (λ (r : Result (List Slice) Refusal). IsErrAnd r (λ refusal. ScheduleRefused number place ≡ ScheduleRefused refusal.number refusal.place)) (sym is) refl

module _ (trace : Bool) (file text : List ℕ) (inputs : List (List ℕ)) where
  -- harts that are ready are run
  pub harts_run : (harts : List Hart) (slices : List Slice) (old new : SinkView) → AllReady file inputs harts → schedule (length inputs) text ≡ Ok slices → (status : Status) →
      SeatsRun trace slices (map seat_of harts) old new status → HartsRun trace file text inputs old new status
  harts_run harts slices old new (i, read, are) scheduled status runs = by status (runs (program_of i).image (program_of i).hart inputs are)
    where
      by : (status : Status) → ReadyRun trace slices (program_of i).image (program_of i).hart inputs old new status → HartsRun trace file text inputs old new status
      by Done (r, is, takes) = (r, (i, slices, read, scheduled, is), takes)
      by WriteFault (r, is, fails) = (r, (i, slices, read, scheduled, is), fails)
      by NoMemory same = same
      by Usage h = absurd h
      by (SourceRefused number place) h = absurd h
      by (ImageRefused number place location other) h = absurd h
      by (ScheduleRefused number place) h = absurd h
      by ReadFault h = absurd h
      by TooLong h = absurd h
      by Aborted h = absurd h
      by Budget h = absurd h
      by Stack h = absurd h
      by (MachineFault kind place) h = absurd h
      by Undefined h = absurd h
      by Differs h = absurd h

  -- the image is refused
  pub image_refused : (old : SinkView) (e : ImageError) → IsReported e (runnable file) → HartsRun trace file text inputs old old (status_of e)
  image_refused old (image_errors.Refused reason place location other) h = (refuses (runnable file) (image_errors.Refused reason place location other) h, refl)
  image_refused old image_errors.NoMemory h = refl

  -- the schedule is refused
  pub schedule_refused : (harts : List Hart) (old : SinkView) (e : ScheduleError) → AllReady file inputs harts → Reads (length inputs) text (Err e) → HartsRun trace file text inputs old old (status_of_schedule e)
  schedule_refused harts old (errors.Refused number place) (i, read, are) refused = (((i, read), err_and (schedule (length inputs) text) number place refused), refl)
  schedule_refused harts old errors.NoMemory ready refused = refl

-- ---- the command
-- what was read, and what became of it
pub harts_execute : (a : HartsAsked) (file text : List ℕ) (inputs : List (List ℕ)) (old new : StoreView) (out out' : SinkView) → AreFiles (files_of a) old (file ∷ (text ∷ inputs)) → (status : Status) →
    HartsRun a.trace file text inputs out out' status → HartsCause a old new out out' status
harts_execute a file text inputs old new out out' are Done (r, runs, takes) = (r, told_harts a old file text inputs (RunsHarts r) are runs, takes)
harts_execute a file text inputs old new out out' are WriteFault (r, runs, fails) = (r, told_harts a old file text inputs (RunsHarts r) are runs, fails)
harts_execute a file text inputs old new out out' are (ImageRefused number place location other) (refused, same) =
    (told_harts a old file text inputs (λ f t i. RefusesToRun (ImageRefused number place location other) f) are refused, same)
harts_execute a file text inputs old new out out' are (ScheduleRefused number place) (refused, same) = (told_harts a old file text inputs (RefusesSchedule (ScheduleRefused number place)) are refused, same)
harts_execute a file text inputs old new out out' are NoMemory same = same
harts_execute a file text inputs old new out out' are Usage h = absurd h
harts_execute a file text inputs old new out out' are (SourceRefused number place) h = absurd h
harts_execute a file text inputs old new out out' are ReadFault h = absurd h
harts_execute a file text inputs old new out out' are TooLong h = absurd h
harts_execute a file text inputs old new out out' are Aborted h = absurd h
harts_execute a file text inputs old new out out' are Budget h = absurd h
harts_execute a file text inputs old new out out' are Stack h = absurd h
harts_execute a file text inputs old new out out' are (MachineFault kind place) h = absurd h
harts_execute a file text inputs old new out out' are Undefined h = absurd h
harts_execute a file text inputs old new out out' are Differs h = absurd h

-- a file was not read
pub harts_unread : (a : HartsAsked) (old new : StoreView) (out : SinkView) (status : Status) → UnreadAmong (files_of a) old new status → HartsCause a old new out out status
harts_unread a old new out status why =
    among_one (λ s. UnreadAmong (files_of a) old new s → HartsCause a old new out out s) (λ h. (h, refl)) (λ h. (h, refl)) (λ h. refl) (files_of a) old new status why why

-- files that were read are not named
pub harts_named : (trace : Bool) (file text : List ℕ) (inputs : List (List ℕ)) (old new : SinkView) (name : List ℕ) (store : StoreView) (status : Status) → HartsRun trace file text inputs old new status →
    NamesRefusal status name store
harts_named trace file text inputs old new name store ReadFault h = absurd h
harts_named trace file text inputs old new name store TooLong h = absurd h
harts_named trace file text inputs old new name store Done h = tt
harts_named trace file text inputs old new name store Usage h = tt
harts_named trace file text inputs old new name store (SourceRefused number place) h = tt
harts_named trace file text inputs old new name store (ImageRefused number place location other) h = tt
harts_named trace file text inputs old new name store (ScheduleRefused number place) h = tt
harts_named trace file text inputs old new name store WriteFault h = tt
harts_named trace file text inputs old new name store NoMemory h = tt
harts_named trace file text inputs old new name store Aborted h = tt
harts_named trace file text inputs old new name store Budget h = tt
harts_named trace file text inputs old new name store Stack h = tt
harts_named trace file text inputs old new name store (MachineFault kind place) h = tt
harts_named trace file text inputs old new name store Undefined h = tt
harts_named trace file text inputs old new name store Differs h = tt
