-- What the causes of `run` promise.
use Rattle.std.proofs.Common.{◌≡◌, ◌⊎◌, inl, inr, ℕ, List, refl, subst}
use Rattle.eh_outer.specs.Store.{StoreView}
use Rattle.eh_outer.specs.Sink.{SinkView}
use Rattle.cxx_ast.specs.Plain.{Program}
use Rattle.cxx_ast.specs.Broken.{Valid}
use Rattle.cxx_ast.specs.Checked.{checked}
use Rattle.cxx_front.specs.Source.{IsProgram, IsRefused}
use Rattle.cxx_front.specs.Fate.{HasOnly, refused, valid}
use Rattle.cxa_runtime.specs.Run.{Ran}
use Rattle.run_items.specs.Output.{TakesAll}
use Rattle.eh_commands.specs.declared.status.Status.{Status}
use Rattle.eh_commands.specs.declared.status.Status.TheVariants.{Done, Usage, SourceRefused, ImageRefused, ScheduleRefused, ReadFault, TooLong, WriteFault, NoMemory, Aborted, Budget, Stack, MachineFault, Undefined, Differs}
use Rattle.eh_commands.specs.File.{Asked, ToldBoth, source_limit}
use Rattle.eh_commands.specs.RunEnd.{run_lines, status_of_run}
use Rattle.eh_commands.specs.Exec.{RunEnds}
use Rattle.eh_commands.specs.RunSource.{CompiledRunsThis, SourceRunsThis, RunCause}
use Rattle.eh_driver.specs.Promise.{MeanTold, MeanUndisturbed, BreaksOff, IsOfWhatWasRead, RunAnswers, ShowsImage, ShowsMeant, ShowsEnd, ShowsAll, RunPromise}
use Rattle.eh_driver.proofs.MeantShown.{CompilerLaws, IsAsked, are_compiled, is_meant, meant_shown, end_shown, all_shown}
use Rattle.eh_commands.proofs.Sources.{valid_same, not_refused, same_refusal}
use Rattle.eh_driver.proofs.ToldThen.{both_then}
use Rattle.eh_driver.proofs.MeanPromised.{both_of, both_read, both_short}

-- the run of a source is one of its valid program
runs_of : (a : Asked) (source input : List ℕ) (p : Program) → IsProgram source p → Valid a.std p → (r : Ran) → SourceRunsThis a r source input → CompiledRunsThis a r (checked a.std p) input
runs_of a source input p program holds r (q, only, runs) = subst (λ x. CompiledRunsThis a r (checked a.std x) input) (valid_same (only.only (valid p) (program, holds))) runs

module _ (a : Asked) (source input : List ℕ) (old new : StoreView) (out out' : SinkView) (u : MeanUndisturbed a source input old new out out') where
  -- what holds of the told source and the told input
  told_so : (P : List ℕ → List ℕ → Type 0) → ToldBoth source_limit a old P → P source input
  told_so P told = both_of source_limit a old u.calm.files source input P u.calm.told u.calm.there u.given told

  refused_so : (number place : ℕ) → RunCause a old new out out' (SourceRefused number place) → HasOnly a.std source (refused number place)
  refused_so number place (told, rest) = told_so (λ s i. HasOnly a.std s (refused number place)) told

  module _ (p : Program) (program : IsProgram source p) (holds : Valid a.std p) where
    -- the run is one of the valid program
    program_so : (r : Ran) → ToldBoth source_limit a old (SourceRunsThis a r) → CompiledRunsThis a r (checked a.std p) input
    program_so r told = runs_of a source input p program holds r (told_so (SourceRunsThis a r) told)

    -- a valid source is not refused
    not_refused_so : (number place : ℕ) → RunCause a old new out out' (SourceRefused number place) → ⊥
    not_refused_so number place h = let same : refused number place ≡ valid p = (refused_so number place h).only (valid p) (program, holds) in cc

    -- what the run shows, whatever that means
    module _ (P : Status → Type 0) (shown : (status : Status) (r : Ran) → CompiledRunsThis a r (checked a.std p) input → status ≡ status_of_run r.end → TakesAll (run_lines a.trace a.count r) out out' → P status) where
      taken : (status : Status) (r : Ran) → ToldBoth source_limit a old (SourceRunsThis a r) → (status ≡ status_of_run r.end) × TakesAll (run_lines a.trace a.count r) out out' → (status ≡ NoMemory) ⊎ P status
      taken status r told (ended, took) = inr (shown status r (program_so r told) ended took)

      printed_so : (status : Status) → RunCause a old new out out' status → (status ≡ NoMemory) ⊎ P status
      printed_so Done (r, told, h) = taken Done r told h
      printed_so Usage (r, told, h) = taken Usage r told h
      printed_so (SourceRefused number place) h = absurd (not_refused_so number place h)
      printed_so (ImageRefused number place location other) (r, told, h) = taken (ImageRefused number place location other) r told h
      printed_so ReadFault (why, same) = absurd (both_read source_limit a old new u.calm.store why)
      printed_so TooLong (why, same) = absurd (both_short source_limit a old new u.calm.store why)
      printed_so WriteFault (r, told, fails) = absurd (u.calm.sink fails.rose)
      printed_so NoMemory h = inl refl
      printed_so Aborted (r, told, h) = taken Aborted r told h
      printed_so Budget (r, told, h) = taken Budget r told h
      printed_so Stack (r, told, h) = taken Stack r told h
      printed_so (MachineFault kind place) (r, told, h) = taken (MachineFault kind place) r told h
      printed_so (ScheduleRefused number place) (r, told, h) = taken (ScheduleRefused number place) r told h
      printed_so Undefined (r, told, h) = taken Undefined r told h
      printed_so Differs (r, told, h) = taken Differs r told h

  -- what is valid is not refused
  valid_not : (number place : ℕ) (r : Ran) → ToldBoth source_limit a old (SourceRunsThis a r) → IsRefused a.std source number place → ⊥
  valid_not number place r told is = go (told_so (SourceRunsThis a r) told)
    where
      go : SourceRunsThis a r source input → ⊥
      go (q, only, runs) = not_refused a.std source q number place only is

  module _ (number place : ℕ) (is : IsRefused a.std source number place) where
    refuses_so : (status : Status) → RunCause a old new out out' status → (status ≡ NoMemory) ⊎ (status ≡ SourceRefused number place)
    refuses_so Done (r, told, h) = absurd (valid_not number place r told is)
    refuses_so Usage (r, told, h) = absurd (valid_not number place r told is)
    refuses_so (SourceRefused n at) h = inr (same_refusal ((refused_so n at h).only (refused number place) is))
    refuses_so (ImageRefused n at location other) (r, told, h) = absurd (valid_not number place r told is)
    refuses_so ReadFault (why, same) = absurd (both_read source_limit a old new u.calm.store why)
    refuses_so TooLong (why, same) = absurd (both_short source_limit a old new u.calm.store why)
    refuses_so WriteFault (r, told, fails) = absurd (u.calm.sink fails.rose)
    refuses_so NoMemory h = inl refl
    refuses_so Aborted (r, told, h) = absurd (valid_not number place r told is)
    refuses_so Budget (r, told, h) = absurd (valid_not number place r told is)
    refuses_so Stack (r, told, h) = absurd (valid_not number place r told is)
    refuses_so (MachineFault kind at) (r, told, h) = absurd (valid_not number place r told is)
    refuses_so (ScheduleRefused n at) (r, told, h) = absurd (valid_not number place r told is)
    refuses_so Undefined (r, told, h) = absurd (valid_not number place r told is)
    refuses_so Differs (r, told, h) = absurd (valid_not number place r told is)

module _ (laws : CompilerLaws) (a : Asked) (source input : List ℕ) (p : Program) (program : IsProgram source p) (holds : Valid a.std p) where
  -- what a run of a program's image shows
  image_shown : (out out' : SinkView) (status : Status) (r : Ran) → CompiledRunsThis a r (checked a.std p) input → status ≡ status_of_run r.end →
      TakesAll (run_lines a.trace a.count r) out out' → ShowsImage a p input out out' status
  image_shown out out' status r (stands, this) ended took = (are_compiled laws a.std source p program holds stands, r, this, ended, took.gains)

  -- and up to a line that fails
  broken_off : IsAsked a → (old new : StoreView) (out out' : SinkView) → MeanTold a source input old → RunCause a old new out out' WriteFault → BreaksOff a p input out out'
  broken_off asked old new out out' u (r, told, fails) =
      let this = runs_of a source input p program holds r (both_of source_limit a old u.files source input (SourceRunsThis a r) u.told u.there u.given told) in
      (are_compiled laws a.std source p program holds this.0, r, this.1, is_meant laws a source p program holds asked input r this, fails)

-- ---- over any store
module _ (laws : CompilerLaws) (a : Asked) (asked : IsAsked a) (old new : StoreView) (out out' : SinkView) where
  -- the source that was read
  answered_by : (status : Status) (r : Ran) → RunEnds a r out out' status → (source input : List ℕ) → SourceRunsThis a r source input → RunAnswers a out out' status source input
  answered_by status r end source input (p, only, runs) =
      (p, only.is.0, only.is.1, are_compiled laws a.std source p only.is.0 only.is.1 runs.0, r, runs.1, is_meant laws a source p only.is.0 only.is.1 asked input r runs, end)

  answered_so : (status : Status) → (r : Ran) × ToldBoth source_limit a old (SourceRunsThis a r) × RunEnds a r out out' status → ToldBoth source_limit a old (RunAnswers a out out' status)
  answered_so status (r, told, end) = both_then source_limit a old (SourceRunsThis a r) (RunAnswers a out out' status) (answered_by status r end) told

  run_answers : (status : Status) → RunCause a old new out out' status → IsOfWhatWasRead status → ToldBoth source_limit a old (RunAnswers a out out' status)
  run_answers ReadFault h is = absurd is
  run_answers TooLong h is = absurd is
  run_answers (SourceRefused number place) h is = absurd is
  run_answers NoMemory h is = absurd is
  run_answers Done h is = answered_so Done h
  run_answers Usage h is = answered_so Usage h
  run_answers (ImageRefused number place location other) h is = answered_so (ImageRefused number place location other) h
  run_answers WriteFault h is = answered_so WriteFault h
  run_answers Aborted h is = answered_so Aborted h
  run_answers Budget h is = answered_so Budget h
  run_answers Stack h is = answered_so Stack h
  run_answers (MachineFault kind place) h is = answered_so (MachineFault kind place) h
  run_answers (ScheduleRefused number place) h is = answered_so (ScheduleRefused number place) h
  run_answers Undefined h is = answered_so Undefined h
  run_answers Differs h is = answered_so Differs h

pub run_promised : CompilerLaws → (a : Asked) → IsAsked a → (old new : StoreView) (out out' : SinkView) (status : Status) → RunCause a old new out out' status → RunPromise a old new out out' status
run_promised laws a asked old new out out' status cause = record {
  shows = λ source input p u program holds.
      printed_so a source input old new out out' u p program holds (ShowsImage a p input out out') (image_shown laws a source input p program holds out out') status cause;
  means = λ source input p u program holds ints defined.
      printed_so a source input old new out out' u p program holds (ShowsMeant a p input out out') (meant_shown laws a source p program holds asked input ints defined out out') status cause;
  ends = λ source input p turns u program holds ints many some.
      printed_so a source input old new out out' u p program holds (ShowsEnd a p turns input out out')
      (λ status r this end took. end_shown laws a source p program holds asked input ints turns many out out' status r this end took some) status cause;
  goes_on = λ source input p turns u program holds ints many gone defined.
      printed_so a source input old new out out' u p program holds (ShowsAll a p turns input out out')
      (λ status r this end took. all_shown laws a source p program holds asked input ints turns many out out' status r this end took gone defined) status cause;
  refuses = λ source input number place u is. refuses_so a source input old new out out' u number place is status cause;
  breaks = λ source input p u program holds is. broken_off laws a source input p program holds asked old new out out' u (subst (λ s. RunCause a old new out out' s) is cause);
  answers = run_answers laws a asked old new out out' status cause;
}
