-- What the causes of `exec` promise.
use Rattle.std.proofs.Common.{◌≡◌, ◌⊎◌, ◌∙◌, inl, inr, ℕ, List, Ok, Err, refl, sym, subst}
use Rattle.std.specs.Prelude.{Result, IsErrAnd}
use Rattle.eh_outer.specs.Store.{StoreView}
use Rattle.eh_outer.specs.Sink.{SinkView}
use Rattle.run_items.specs.Output.{TakesAll}
use Rattle.table_forms.specs.Fault.{Fault}
use Rattle.elf_image.specs.Clean.{CleanImage}
use Rattle.elf_image.specs.Reports.{reported}
use Rattle.elf_image.specs.Runnable.{runnable}
use Rattle.cxa_runtime.specs.Run.{Ran}
use Rattle.eh_run.specs.Program.{program_of}
use Rattle.eh_run.specs.Runs.{IsRun}
use Rattle.eh_commands.specs.declared.status.Status.{Status}
use Rattle.eh_commands.specs.declared.status.Status.TheVariants.{Done, Usage, SourceRefused, ImageRefused, ScheduleRefused, ReadFault, TooLong, WriteFault, NoMemory, Aborted, Budget, Stack, MachineFault, Undefined, Differs}
use Rattle.eh_commands.specs.Image.{image_limit, status_of}
use Rattle.eh_commands.specs.File.{Asked, ToldBoth}
use Rattle.eh_commands.specs.RunEnd.{run_lines, status_of_run}
use Rattle.eh_commands.specs.Exec.{RunsThis, RefusesToRun, ExecCause}
use Rattle.eh_driver.specs.Promise.{ExecUndisturbed, ShowsRun, ExecPromise}
use Rattle.eh_driver.proofs.MeanPromised.{both_of, both_read, both_short}
use Rattle.eh_driver.proofs.RunsOn.{RunLaws, runs_on}

-- an image that was read is one image
pub ok_same : {i j : CleanImage} → ◌≡◌ {A = Result CleanImage Fault} (Ok i) (Ok j) → i ≡ j
ok_same e = cc

pub not_both : {i : CleanImage} {f : Fault} → ◌≡◌ {A = Result CleanImage Fault} (Ok i) (Err f) → ⊥
not_both e = cc

-- a refusal is not that of a runnable image, and that of any other is its first
pub refused_not : (read : Result CleanImage Fault) (i : CleanImage) (status : Status) → read ≡ Ok i → IsErrAnd read (λ fault. status ≡ status_of (reported fault)) → ⊥
refused_not (Ok j) i status e h = h
refused_not (Err f) i status e h = not_both (sym e)

pub refused_is : (read : Result CleanImage Fault) (f : Fault) (status : Status) → read ≡ Err f → IsErrAnd read (λ fault. status ≡ status_of (reported fault)) → status ≡ status_of (reported f)
refused_is (Ok j) f status e h = absurd h
refused_is (Err k) f status e h = let same : k ≡ f = cc e in subst (λ x. status ≡ status_of (reported x)) same h

module _ (laws : RunLaws) (a : Asked) (file input : List ℕ) (old new : StoreView) (out out' : SinkView) (u : ExecUndisturbed a file input old new out out') where
  -- what holds of the told image and the told input
  told_so : (P : List ℕ → List ℕ → Type 0) → ToldBoth image_limit a old P → P file input
  told_so P told = both_of image_limit a old u.calm.files file input P u.calm.told u.calm.there u.given told

  refusal_so : (status : Status) → ToldBoth image_limit a old (λ f i. RefusesToRun status f) → RefusesToRun status file
  refusal_so status told = told_so (λ f i. RefusesToRun status f) told

  module _ (i : CleanImage) (is : runnable file ≡ Ok i) where
    run_so : (r : Ran) → RunsThis a r file input → IsRun (program_of i) input a.modules a.turns r
    run_so r (j, read, runs) = subst (λ x. IsRun (program_of x) input a.modules a.turns r) (ok_same (sym read ∙ is)) runs

    shown : (status : Status) (r : Ran) → ToldBoth image_limit a old (RunsThis a r) → (status ≡ status_of_run r.end) × TakesAll (run_lines a.trace a.count r) out out' →
        (status ≡ NoMemory) ⊎ ShowsRun a i input out out' status
    shown status r told (ended, took) =
        let run = run_so r (told_so (RunsThis a r) told) in inr (r, run, runs_on laws (program_of i) input a.modules a.turns r run, ended, took.gains)

    shows_so : (status : Status) → ExecCause a old new out out' status → (status ≡ NoMemory) ⊎ ShowsRun a i input out out' status
    shows_so Done (r, told, h) = shown Done r told h
    shows_so Usage (r, told, h) = shown Usage r told h
    shows_so (SourceRefused number place) (r, told, h) = shown (SourceRefused number place) r told h
    shows_so (ImageRefused number place location other) (told, same) = absurd (refused_not (runnable file) i (ImageRefused number place location other) is (refusal_so (ImageRefused number place location other) told))
    shows_so ReadFault (why, same) = absurd (both_read image_limit a old new u.calm.store why)
    shows_so TooLong (why, same) = absurd (both_short image_limit a old new u.calm.store why)
    shows_so WriteFault (r, told, fails) = absurd (u.calm.sink fails.rose)
    shows_so NoMemory h = inl refl
    shows_so Aborted (r, told, h) = shown Aborted r told h
    shows_so Budget (r, told, h) = shown Budget r told h
    shows_so Stack (r, told, h) = shown Stack r told h
    shows_so (MachineFault kind place) (r, told, h) = shown (MachineFault kind place) r told h
    shows_so (ScheduleRefused number place) (r, told, h) = shown (ScheduleRefused number place) r told h
    shows_so Undefined (r, told, h) = shown Undefined r told h
    shows_so Differs (r, told, h) = shown Differs r told h

  module _ (fault : Fault) (is : runnable file ≡ Err fault) where
    no_run : (r : Ran) → ToldBoth image_limit a old (RunsThis a r) → ⊥
    no_run r told = let (j, read, runs) = told_so (RunsThis a r) told in not_both (sym read ∙ is)

    refuses_so : (status : Status) → ExecCause a old new out out' status → (status ≡ NoMemory) ⊎ ((status ≡ status_of (reported fault)) × (out' ≡ out))
    refuses_so Done (r, told, h) = absurd (no_run r told)
    refuses_so Usage (r, told, h) = absurd (no_run r told)
    refuses_so (SourceRefused number place) (r, told, h) = absurd (no_run r told)
    refuses_so (ImageRefused number place location other) (told, same) = inr (refused_is (runnable file) fault (ImageRefused number place location other) is (refusal_so (ImageRefused number place location other) told), same)
    refuses_so ReadFault (why, same) = absurd (both_read image_limit a old new u.calm.store why)
    refuses_so TooLong (why, same) = absurd (both_short image_limit a old new u.calm.store why)
    refuses_so WriteFault (r, told, h) = absurd (no_run r told)
    refuses_so NoMemory h = inl refl
    refuses_so Aborted (r, told, h) = absurd (no_run r told)
    refuses_so Budget (r, told, h) = absurd (no_run r told)
    refuses_so Stack (r, told, h) = absurd (no_run r told)
    refuses_so (MachineFault kind place) (r, told, h) = absurd (no_run r told)
    refuses_so (ScheduleRefused number place) (r, told, h) = absurd (no_run r told)
    refuses_so Undefined (r, told, h) = absurd (no_run r told)
    refuses_so Differs (r, told, h) = absurd (no_run r told)

pub exec_promised : RunLaws → (a : Asked) (old new : StoreView) (out out' : SinkView) (status : Status) → ExecCause a old new out out' status → ExecPromise a old new out out' status
exec_promised laws a old new out out' status cause = record {
  shows = λ file input i u is. shows_so laws a file input old new out out' u i is status cause;
  refuses = λ file input fault u is. refuses_so laws a file input old new out out' u fault is status cause;
}
