-- From what the parts of `exec` say to the cause of a status.
use Rattle.std.proofs.Common.{◌≡◌, ◌≤◌, ◌+◌, ◌++◌, ◌∙◌, ℕ, zero, suc, Bool, List, [], Ok, Err, refl, sym, ap, subst, arith, append_assoc, append-nil}
use Rattle.std.specs.Prelude.{Result, IsErrAnd}
use Rattle.eh_outer.specs.Module.{ModuleView}
use Rattle.eh_outer.specs.Store.{StoreView}
use Rattle.eh_outer.specs.Sink.{SinkView}
use Rattle.run_items.specs.declared.item.Item.{Item}
use Rattle.run_items.specs.Line.{lines_of}
use Rattle.run_items.specs.Output.{TakesAll, FailsAmong}
use Rattle.run_items.proofs.Puts.{takes_more, fails_more, fails_before}
use Rattle.table_forms.specs.Fault.{Fault}
use Rattle.elf_image.specs.declared.error.ImageError.{ImageError}
use Rattle.elf_image.specs.declared.error.ImageError.TheVariants as errors
use Rattle.elf_image.specs.Clean.{CleanImage}
use Rattle.elf_image.specs.Reports.{reported}
use Rattle.elf_image.specs.Runnable.{runnable}
use Rattle.table_check.specs.Checks.{IsReported}
use Rattle.cxa_runtime.specs.declared.effect.End.{End}
use Rattle.cxa_runtime.specs.declared.effect.End.TheVariants as ends
use Rattle.cxa_runtime.specs.declared.effect.Turn.TheVariants.{On, Ended}
use Rattle.cxa_runtime.specs.World.{World, begins}
use Rattle.cxa_runtime.specs.Kept.{replies_of}
use Rattle.cxa_runtime.specs.Raising.{Image}
use Rattle.cxa_runtime.specs.Run.{Ran, Turned, and_more, run, turn}
use Rattle.eh_run.specs.declared.running.Ran.{Ran as Counted}
use Rattle.eh_run.specs.Program.{Program, program_of}
use Rattle.eh_run.specs.Loads.{Loads}
use Rattle.eh_run.specs.Runs.{IsRun, RunsToEnd, RunsToFault, RunsBy}
use Rattle.eh_commands.specs.declared.status.Status.{Status}
use Rattle.eh_commands.specs.declared.status.Status.TheVariants.{Done, Usage, SourceRefused, ImageRefused, ScheduleRefused, ReadFault, TooLong, WriteFault, NoMemory, Aborted, Budget, Stack, MachineFault, Undefined, Differs}
use Rattle.eh_commands.specs.File.{Asked, ToldBoth, UnreadEither, IsFile, IsInput}
use Rattle.eh_commands.specs.Image.{image_limit, status_of}
use Rattle.eh_commands.specs.RunEnd.{LastEnds, Ends, last_lines, run_lines, status_of_run}
use Rattle.eh_commands.specs.Exec.{RunsThis, RefusesToRun, ProgramRuns, ImageRuns, ExecCause}
use Rattle.eh_commands.proofs.Causes.{told_both, unread_either}
use Rattle.eh_commands.proofs.Meanings.{lines_more}

-- a list begins with another
abbrev Begins : List Item → List Item → Type 0
Begins xs ys = (more : List Item) × (ys ≡ xs ++ more)

-- a run of more steps shows what one of fewer does, and then more
further : (image : Image) (pick : ℕ → ℕ) (k n : ℕ) (w : World) → k ≤ n → Begins (run image pick k w).items (run image pick n w).items
unfolding run
further image pick zero n w h = ((run image pick n w).items, refl)
further image pick (suc k) zero w h = absurd (omega (arith, h))
further image pick (suc k) (suc n) w h = go (turn image (pick (w.last_number + 1)) w) (λ v. further image pick k n v (omega (arith, h)))
  where
    go : (t : Turned) → ((v : World) → Begins (run image pick k v).items (run image pick n v).items) →
        Begins (and_more (run image pick k) t).items (and_more (run image pick n) t).items
    go (On, v) rest =
        let (more, e) = rest v in
        (more, ap (λ x. v.shown ++ x) e ∙ sym (append_assoc v.shown (run image pick k v).items more))
    go (Ended end, v) rest = ([], sym (append-nil v.shown))

-- the sink failed among the first lines of a run
fails_early : (trace : Bool) (front more : List Item) (others : List (List ℕ)) (all : List Item) (old new : SinkView) → all ≡ front ++ more →
    FailsAmong (lines_of trace front) old new → FailsAmong (lines_of trace all ++ others) old new
fails_early trace front more others all old new e h =
    let split : lines_of trace all ≡ lines_of trace front ++ lines_of trace more = ap (lines_of trace) e ∙ lines_more trace front more in
    fails_before (lines_of trace all) others old new
    (subst (λ lines. FailsAmong lines old new) (sym split) (fails_before (lines_of trace front) (lines_of trace more) old new h))

-- the lines of a run that came to its end
module _ (a : Asked) (program : Program) (input : List ℕ) (after : List ModuleView) (old now new : SinkView) (ran : Counted) where
  -- with its last lines
  module _ (r : RunsToEnd program input a.turns a.trace a.modules after old now ran) where
    same_last : last_lines a.count ran.end ran.count ≡ last_lines a.count r.whole.end r.whole.world.count
    same_last = ap (λ e. last_lines a.count e ran.count) (sym r.end) ∙ ap (λ n. last_lines a.count r.whole.end n) (sym r.count)

    all_taken : (status : Status) → (status ≡ status_of_run ran.end) × TakesAll (last_lines a.count ran.end ran.count) now new →
        (status ≡ status_of_run r.whole.end) × TakesAll (run_lines a.trace a.count r.whole) old new
    all_taken status (is, last) = (
      is ∙ ap status_of_run (sym r.end),
      takes_more (lines_of a.trace r.whole.items) (last_lines a.count r.whole.end r.whole.world.count) old now new r.writes
          (subst (λ lines. TakesAll lines now new) same_last last),
    )

    whole_runs : (status : Status) → LastEnds a.count ran.end ran.count now new status → ProgramRuns a program input old new status
    whole_runs Done h = (r.whole, r.runs, all_taken Done h)
    whole_runs Usage h = (r.whole, r.runs, all_taken Usage h)
    whole_runs (SourceRefused number place) h = (r.whole, r.runs, all_taken (SourceRefused number place) h)
    whole_runs (ImageRefused number place location other) h = (r.whole, r.runs, all_taken (ImageRefused number place location other) h)
    whole_runs ReadFault h = (r.whole, r.runs, all_taken ReadFault h)
    whole_runs TooLong h = (r.whole, r.runs, all_taken TooLong h)
    whole_runs WriteFault h = (r.whole, r.runs, fails_more (lines_of a.trace r.whole.items) (last_lines a.count r.whole.end r.whole.world.count) old now new r.writes (subst (λ lines. FailsAmong lines now new) same_last h))
    whole_runs NoMemory h = (r.whole, r.runs, all_taken NoMemory h)
    whole_runs Aborted h = (r.whole, r.runs, all_taken Aborted h)
    whole_runs Budget h = (r.whole, r.runs, all_taken Budget h)
    whole_runs Stack h = (r.whole, r.runs, all_taken Stack h)
    whole_runs (MachineFault kind place) h = (r.whole, r.runs, all_taken (MachineFault kind place) h)
    whole_runs (ScheduleRefused number place) h = (r.whole, r.runs, all_taken (ScheduleRefused number place) h)
    whole_runs Undefined h = (r.whole, r.runs, all_taken Undefined h)
    whole_runs Differs h = (r.whole, r.runs, all_taken Differs h)

  -- a run whose lines failed
  fault_runs : RunsToFault program input a.turns a.trace a.modules after old now ran → (status : Status) → status ≡ WriteFault → new ≡ now →
      ProgramRuns a program input old new status
  fault_runs h status e same =
      let world = begins program.hart input (replies_of a.modules) in
      let budget = h.budget in
      let pick = h.runs.0 in
      let whole = run program.image pick a.turns world in
      let (more, shown) = further program.image pick (ran.count + 1) a.turns world (omega (arith, budget)) in
      let split : whole.items ≡ h.front.items ++ more = shown ∙ ap (λ (r : Ran). r.items ++ more) h.runs.1 in
      let failed = fails_early a.trace h.front.items more (last_lines a.count whole.end whole.world.count) whole.items old now split h.writes in
      subst (ProgramRuns a program input old new) (sym e) (whole, (pick, refl), subst (λ x. FailsAmong (run_lines a.trace a.count whole) old x) (sym same) failed)

  pub ended_runs : RunsBy ran.end program input a.turns a.trace a.modules after old now ran → (status : Status) → Ends ran.end a.count ran.count now new status →
      ProgramRuns a program input old new status
  ended_runs by status h = go ran.end refl by h
    where
      go : (end : End) → ran.end ≡ end → RunsBy end program input a.turns a.trace a.modules after old now ran → Ends end a.count ran.count now new status →
          ProgramRuns a program input old new status
      go ends.WriteFault is by h = fault_runs by status h.0 h.1
      go (ends.Exit n) is by h = whole_runs by status (subst (λ e. LastEnds a.count e ran.count now new status) (sym is) h)
      go ends.Aborted is by h = whole_runs by status (subst (λ e. LastEnds a.count e ran.count now new status) (sym is) h)
      go ends.Budget is by h = whole_runs by status (subst (λ e. LastEnds a.count e ran.count now new status) (sym is) h)
      go ends.Stack is by h = whole_runs by status (subst (λ e. LastEnds a.count e ran.count now new status) (sym is) h)
      go (ends.Fault kind place) is by h = whole_runs by status (subst (λ e. LastEnds a.count e ran.count now new status) (sym is) h)

-- a run ends with no status but these
no_refusal : (end : End) (number place location other : ℕ) → ImageRefused number place location other ≡ status_of_run end → ⊥
no_refusal (ends.Exit n) number place location other e = cc
no_refusal ends.Aborted number place location other e = cc
no_refusal ends.Budget number place location other e = cc
no_refusal ends.Stack number place location other e = cc
no_refusal (ends.Fault kind at) number place location other e = cc
no_refusal ends.WriteFault number place location other e = cc

pub no_memory : (end : End) → NoMemory ≡ status_of_run end → ⊥
no_memory (ends.Exit n) e = cc
no_memory ends.Aborted e = cc
no_memory ends.Budget e = cc
no_memory ends.Stack e = cc
no_memory (ends.Fault kind at) e = cc
no_memory ends.WriteFault e = cc

pub no_run_fault : (end : End) → ReadFault ≡ status_of_run end → ⊥
no_run_fault (ends.Exit n) e = cc
no_run_fault ends.Aborted e = cc
no_run_fault ends.Budget e = cc
no_run_fault ends.Stack e = cc
no_run_fault (ends.Fault kind at) e = cc
no_run_fault ends.WriteFault e = cc

pub no_run_length : (end : End) → TooLong ≡ status_of_run end → ⊥
no_run_length (ends.Exit n) e = cc
no_run_length ends.Aborted e = cc
no_run_length ends.Budget e = cc
no_run_length ends.Stack e = cc
no_run_length (ends.Fault kind at) e = cc
no_run_length ends.WriteFault e = cc

-- a program that is that of a runnable image
image_of : (read : Result CleanImage Fault) (program : Program) → Loads (Ok program) read → (i : CleanImage) × (read ≡ Ok i) × (program ≡ program_of i)
image_of (Ok i) program h = (i, refl, h)
image_of (Err fault) program h = absurd h

module _ (a : Asked) (file input : List ℕ) (program : Program) (old new : SinkView) (loads : Loads (Ok program) (runnable file)) where
  pub runs_this : (r : Ran) → IsRun program input a.modules a.turns r → RunsThis a r file input
  runs_this r is = let (i, read, same) = image_of (runnable file) program loads in (i, read, subst (λ p. IsRun p input a.modules a.turns r) same is)

  pub image_runs : (status : Status) → ProgramRuns a program input old new status → ImageRuns a file input old new status
  image_runs Done (r, is, h) = (r, runs_this r is, h)
  image_runs Usage (r, is, h) = (r, runs_this r is, h)
  image_runs (SourceRefused number place) (r, is, h) = (r, runs_this r is, h)
  image_runs (ImageRefused number place location other) (r, is, h) = absurd (no_refusal r.end number place location other h.0)
  image_runs ReadFault (r, is, h) = (r, runs_this r is, h)
  image_runs TooLong (r, is, h) = (r, runs_this r is, h)
  image_runs WriteFault (r, is, h) = (r, runs_this r is, h)
  image_runs NoMemory (r, is, h) = absurd (no_memory r.end h.0)
  image_runs Aborted (r, is, h) = (r, runs_this r is, h)
  image_runs Budget (r, is, h) = (r, runs_this r is, h)
  image_runs Stack (r, is, h) = (r, runs_this r is, h)
  image_runs (MachineFault kind place) (r, is, h) = (r, runs_this r is, h)
  image_runs (ScheduleRefused number place) (r, is, h) = (r, runs_this r is, h)
  image_runs Undefined (r, is, h) = (r, runs_this r is, h)
  image_runs Differs (r, is, h) = (r, runs_this r is, h)

-- a refusal
pub refuses : (read : Result CleanImage Fault) (e : ImageError) → IsErrAnd read (λ f. e ≡ reported f) → IsErrAnd read (λ fault. status_of e ≡ status_of (reported fault))
refuses (Ok i) e h = absurd h
refuses (Err fault) e h = ap status_of h

pub refused_runs : (a : Asked) (file input : List ℕ) (old : SinkView) (e : ImageError) → IsReported e (runnable file) → ImageRuns a file input old old (status_of e)
refused_runs a file input old (errors.Refused reason place location other) h = (refuses (runnable file) (errors.Refused reason place location other) h, refl)
refused_runs a file input old errors.NoMemory h = refl

-- an image that is not read, or whose input is not
pub unread_image : (a : Asked) (old new : StoreView) (out : SinkView) (status : Status) → UnreadEither image_limit a old new status → ExecCause a old new out out status
unread_image a old new out status why = unread_either image_limit a old new (ExecCause a old new out out) (λ h. (h, refl)) (λ h. (h, refl)) refl status why

-- what was read, and what became of it
module _ (a : Asked) (file input : List ℕ) (old new : StoreView) (out out' : SinkView) (file_is : IsFile image_limit old a.source file) (input_is : IsInput old a.input input) where
  told : (P : List ℕ → List ℕ → Type 0) → P file input → ToldBoth image_limit a old P
  told P holds = told_both image_limit a old file input P file_is input_is holds

  pub image_executes : (status : Status) → ImageRuns a file input out out' status → ExecCause a old new out out' status
  image_executes Done (r, this, h) = (r, told (RunsThis a r) this, h)
  image_executes Usage (r, this, h) = (r, told (RunsThis a r) this, h)
  image_executes (SourceRefused number place) (r, this, h) = (r, told (RunsThis a r) this, h)
  image_executes (ImageRefused number place location other) (is, same) = (told (λ f i. RefusesToRun (ImageRefused number place location other) f) is, same)
  image_executes ReadFault (r, this, h) = absurd (no_run_fault r.end h.0)
  image_executes TooLong (r, this, h) = absurd (no_run_length r.end h.0)
  image_executes WriteFault (r, this, h) = (r, told (RunsThis a r) this, h)
  image_executes NoMemory h = h
  image_executes Aborted (r, this, h) = (r, told (RunsThis a r) this, h)
  image_executes Budget (r, this, h) = (r, told (RunsThis a r) this, h)
  image_executes Stack (r, this, h) = (r, told (RunsThis a r) this, h)
  image_executes (MachineFault kind place) (r, this, h) = (r, told (RunsThis a r) this, h)
  image_executes (ScheduleRefused number place) (r, this, h) = (r, told (RunsThis a r) this, h)
  image_executes Undefined (r, this, h) = (r, told (RunsThis a r) this, h)
  image_executes Differs (r, this, h) = (r, told (RunsThis a r) this, h)
