-- What the causes of `harts` promise.
use Rattle.std.proofs.Common.{◌≡◌, ◌⊎◌, ◌∙◌, inl, inr, ℕ, List, [], ◌∷◌, length, Some, Result, Ok, Err, refl, sym, subst}
use Rattle.std.specs.Prelude.{IsErrAnd}
use Rattle.eh_outer.specs.Store.{Files, StoreView, Rose}
use Rattle.eh_outer.specs.Sink.{SinkView}
use Rattle.run_items.specs.Output.{TakesAll}
use Rattle.table_forms.specs.Fault.{Fault}
use Rattle.elf_image.specs.Clean.{CleanImage}
use Rattle.elf_image.specs.Reports.{reported}
use Rattle.elf_image.specs.Runnable.{runnable}
use Rattle.eh_run.specs.Program.{program_of}
use Rattle.hart_sched.specs.Schedule.{Refusal, Slice, schedule}
use Rattle.hart_sched.specs.Run.{Ran}
use Rattle.hart_sched.specs.Harts.{IsRun}
use Rattle.hart_sched.specs.Laws.{EachRunsAlone}
use Rattle.hart_sched.specs.Text.{pieces_of}
use Rattle.eh_commands.specs.declared.status.Status.{Status}
use Rattle.eh_commands.specs.declared.status.Status.TheVariants.{Done, Usage, SourceRefused, ImageRefused, ScheduleRefused, ReadFault, TooLong, WriteFault, NoMemory, Aborted, Budget, Stack, MachineFault, Undefined, Differs}
use Rattle.eh_commands.specs.Exec.{RefusesToRun}
use Rattle.eh_commands.specs.File.{Told, input_limit}
use Rattle.eh_commands.specs.HartFiles.{HartsAsked, Named, ToldAll, ToldHarts, UnreadAmong, files_of, schedule_limit}
use Rattle.eh_commands.specs.Harts.{HartsCause, RefusesSchedule, RunsHarts}
use Rattle.eh_commands.specs.Image.{image_limit, status_of}
use Rattle.eh_commands.proofs.Sources.{told_of}
use Rattle.eh_driver.specs.Harts.{HartsPromise, HartsUndisturbed, InputsAre, ShowsHarts}
use Rattle.eh_driver.proofs.ExecPromised.{ok_same, not_both, refused_is, refused_not}

-- what is told of all inputs
all_of : (store : StoreView) (files : Files) (names inputs : List (List ℕ)) (P : List (List ℕ) → Type 0) → store.files ≡ Some files → InputsAre files names inputs → ToldAll store names P → P inputs
all_of store files [] [] P is given told = told
all_of store files [] (i ∷ inputs) P is given told = absurd given
all_of store files (name ∷ names) [] P is given told = absurd given
all_of store files (name ∷ names) (input ∷ inputs) P is given told =
    all_of store files names inputs (λ is. P (input ∷ is)) is given.2 (told_of input_limit store name input files (λ i. ToldAll store names (λ is. P (i ∷ is))) is given.0 told)

-- the store refused nothing
none_failed : (files : List Named) (old new : StoreView) → (Rose old.faults new.faults → ⊥) → UnreadAmong files old new ReadFault → ⊥
none_failed [] old new calm why = why
none_failed ((limit, name) ∷ files) old new calm (inl why) = calm why.rose
none_failed ((limit, name) ∷ files) old new calm (inr (told, why)) = none_failed files old new calm why

none_long : (files : List Named) (old new : StoreView) → (Rose old.faults new.faults → ⊥) → UnreadAmong files old new TooLong → ⊥
none_long [] old new calm why = why
none_long ((limit, name) ∷ files) old new calm (inl (n, above, why, long)) = calm why.rose
none_long ((limit, name) ∷ files) old new calm (inr (told, why)) = none_long files old new calm why

slices_same : {x y : List Slice} → ◌≡◌ {A = Result (List Slice) Refusal} (Ok x) (Ok y) → x ≡ y
slices_same e = cc

refusal_not : {x : List Slice} {f : Refusal} → ◌≡◌ {A = Result (List Slice) Refusal} (Ok x) (Err f) → ⊥
refusal_not e = cc

-- a schedule is not refused, and a refusal is its own
not_refused : (read : Result (List Slice) Refusal) (slices : List Slice) (P : Refusal → Type 0) → read ≡ Ok slices → IsErrAnd read P → ⊥
not_refused (Ok other) slices P e h = h
not_refused (Err f) slices P e h = refusal_not (sym e)

own_refusal : (read : Result (List Slice) Refusal) (f : Refusal) (P : Refusal → Type 0) → read ≡ Err f → IsErrAnd read P → P f
own_refusal (Ok other) f P e h = absurd h
own_refusal (Err g) f P e h = let same : g ≡ f = cc e in subst P same h

module _ (law : EachRunsAlone) (a : HartsAsked) (file text : List ℕ) (inputs : List (List ℕ)) (old new : StoreView) (out out' : SinkView) (u : HartsUndisturbed a file text inputs old new out out') where
  -- what holds of the told files
  told_so : (P : List ℕ → List ℕ → List (List ℕ) → Type 0) → ToldHarts a old P → P file text inputs
  told_so P told =
      all_of old u.files a.inputs inputs (P file text) u.told u.given
      (told_of schedule_limit old a.schedule text u.files (λ t. ToldAll old a.inputs (P file t)) u.told u.schedule_there
      (told_of image_limit old a.image file u.files (λ f. Told schedule_limit old a.schedule (λ t. ToldAll old a.inputs (P f t))) u.told u.image_there told))

  image_refused : (status : Status) → ToldHarts a old (λ f t i. RefusesToRun status f) → RefusesToRun status file
  image_refused status told = told_so (λ f t i. RefusesToRun status f) told

  module _ (i : CleanImage) (is : runnable file ≡ Ok i) (slices : List Slice) (scheduled : schedule (length inputs) text ≡ Ok slices) where
    run_so : (r : Ran) → RunsHarts r file text inputs → IsRun (program_of i).image (program_of i).hart inputs slices r
    run_so r (j, others, read, read_so, runs) =
        subst (λ x. IsRun (program_of x).image (program_of x).hart inputs slices r) (ok_same (sym read ∙ is))
        (subst (λ s. IsRun (program_of j).image (program_of j).hart inputs s r) (slices_same (sym read_so ∙ scheduled)) runs)

    shown : (r : Ran) → RunsHarts r file text inputs → TakesAll (pieces_of a.trace r) out out' → ShowsHarts a i slices inputs out out' Done
    shown r runs took = let run = run_so r runs in (r, run, law (program_of i).image (program_of i).hart inputs slices a.trace r run, refl, took.gains)

    shows_so : (status : Status) → HartsCause a old new out out' status → (status ≡ NoMemory) ⊎ ShowsHarts a i slices inputs out out' status
    shows_so Done (r, told, took) = inr (shown r (told_so (RunsHarts r) told) took)
    shows_so WriteFault (r, told, fails) = absurd (u.sink fails.rose)
    shows_so (ImageRefused number place location other) (told, same) = absurd (refused_not (runnable file) i (ImageRefused number place location other) is (image_refused (ImageRefused number place location other) told))
    shows_so (ScheduleRefused number place) (told, same) =
        absurd (not_refused (schedule (length inputs) text) slices (λ f. ScheduleRefused number place ≡ ScheduleRefused f.number f.place) scheduled (told_so (RefusesSchedule (ScheduleRefused number place)) told).1)
    shows_so ReadFault (why, same) = absurd (none_failed (files_of a) old new u.store why)
    shows_so TooLong (why, same) = absurd (none_long (files_of a) old new u.store why)
    shows_so NoMemory h = inl refl
    shows_so Usage h = absurd h
    shows_so (SourceRefused number place) h = absurd h
    shows_so Aborted h = absurd h
    shows_so Budget h = absurd h
    shows_so Stack h = absurd h
    shows_so (MachineFault kind place) h = absurd h
    shows_so Undefined h = absurd h
    shows_so Differs h = absurd h

  module _ (fault : Fault) (is : runnable file ≡ Err fault) where
    no_run : (r : Ran) → RunsHarts r file text inputs → ⊥
    no_run r (j, others, read, read_so, runs) = not_both (sym read ∙ is)

    refuses_so : (status : Status) → HartsCause a old new out out' status → (status ≡ NoMemory) ⊎ ((status ≡ status_of (reported fault)) × (out' ≡ out))
    refuses_so Done (r, told, took) = absurd (no_run r (told_so (RunsHarts r) told))
    refuses_so WriteFault (r, told, fails) = absurd (u.sink fails.rose)
    refuses_so (ImageRefused number place location other) (told, same) =
        inr (refused_is (runnable file) fault (ImageRefused number place location other) is (image_refused (ImageRefused number place location other) told), same)
    refuses_so (ScheduleRefused number place) (told, same) =
        let runs = (told_so (RefusesSchedule (ScheduleRefused number place)) told).0 in absurd (not_both (sym runs.1 ∙ is))
    refuses_so ReadFault (why, same) = absurd (none_failed (files_of a) old new u.store why)
    refuses_so TooLong (why, same) = absurd (none_long (files_of a) old new u.store why)
    refuses_so NoMemory h = inl refl
    refuses_so Usage h = absurd h
    refuses_so (SourceRefused number place) h = absurd h
    refuses_so Aborted h = absurd h
    refuses_so Budget h = absurd h
    refuses_so Stack h = absurd h
    refuses_so (MachineFault kind place) h = absurd h
    refuses_so Undefined h = absurd h
    refuses_so Differs h = absurd h

  module _ (i : CleanImage) (is : runnable file ≡ Ok i) (refusal : Refusal) (refused : schedule (length inputs) text ≡ Err refusal) where
    no_slices : (r : Ran) → RunsHarts r file text inputs → ⊥
    no_slices r (j, others, read, read_so, runs) = refusal_not (sym read_so ∙ refused)

    refuses_schedule_so : (status : Status) → HartsCause a old new out out' status → (status ≡ NoMemory) ⊎ ((status ≡ ScheduleRefused refusal.number refusal.place) × (out' ≡ out))
    refuses_schedule_so Done (r, told, took) = absurd (no_slices r (told_so (RunsHarts r) told))
    refuses_schedule_so WriteFault (r, told, fails) = absurd (u.sink fails.rose)
    refuses_schedule_so (ImageRefused number place location other) (told, same) =
        absurd (refused_not (runnable file) i (ImageRefused number place location other) is (image_refused (ImageRefused number place location other) told))
    refuses_schedule_so (ScheduleRefused number place) (told, same) =
        let own = (told_so (RefusesSchedule (ScheduleRefused number place)) told).1 in
        inr (own_refusal (schedule (length inputs) text) refusal (λ f. ScheduleRefused number place ≡ ScheduleRefused f.number f.place) refused own, same)
    refuses_schedule_so ReadFault (why, same) = absurd (none_failed (files_of a) old new u.store why)
    refuses_schedule_so TooLong (why, same) = absurd (none_long (files_of a) old new u.store why)
    refuses_schedule_so NoMemory h = inl refl
    refuses_schedule_so Usage h = absurd h
    refuses_schedule_so (SourceRefused number place) h = absurd h
    refuses_schedule_so Aborted h = absurd h
    refuses_schedule_so Budget h = absurd h
    refuses_schedule_so Stack h = absurd h
    refuses_schedule_so (MachineFault kind place) h = absurd h
    refuses_schedule_so Undefined h = absurd h
    refuses_schedule_so Differs h = absurd h

pub harts_promised : EachRunsAlone → (a : HartsAsked) (old new : StoreView) (out out' : SinkView) (status : Status) → HartsCause a old new out out' status → HartsPromise a old new out out' status
harts_promised law a old new out out' status cause = record {
  shows = λ file text inputs i slices u is scheduled. shows_so law a file text inputs old new out out' u i is slices scheduled status cause;
  refuses = λ file text inputs fault u is. refuses_so law a file text inputs old new out out' u fault is status cause;
  refuses_schedule = λ file text inputs i refusal u is refused. refuses_schedule_so law a file text inputs old new out out' u i is refusal refused status cause;
}
