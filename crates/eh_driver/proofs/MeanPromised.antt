-- What the causes of `mean` promise.
use Rattle.std.proofs.Common.{◌≡◌, ◌⊎◌, ◌∙◌, inl, inr, ℕ, List, Option, Some, None, refl, sym, ap, subst}
use Rattle.std.specs.FinMap.{get}
use Rattle.eh_outer.specs.Store.{Files, StoreView, Rose}
use Rattle.eh_outer.specs.Sink.{SinkView, Gains}
use Rattle.cxx_ast.specs.Plain.{Program}
use Rattle.cxx_ast.specs.Broken.{Valid}
use Rattle.cxx_ast.specs.Checked.{checked}
use Rattle.cxx_front.specs.Source.{IsProgram, IsRefused}
use Rattle.cxx_front.specs.Fate.{HasOnly, refused, valid}
use Rattle.run_items.specs.Output.{FailsAmong, TakesAll, bytes_of}
use Rattle.scope_meaning.specs.Modules.{rests_of}
use Rattle.meaning_forms.specs.Meaning.{Meaning}
use Rattle.scope_meaning.specs.Mean.{meant}
use Rattle.eh_commands.specs.declared.status.Status.{Status}
use Rattle.eh_commands.specs.declared.status.Status.TheVariants.{Done, Usage, SourceRefused, ImageRefused, ScheduleRefused, ReadFault, TooLong, WriteFault, NoMemory, Aborted, Budget, Stack, MachineFault, Undefined, Differs}
use Rattle.eh_commands.specs.File.{Asked, ToldInput, ToldBoth, UnreadInput, UnreadEither, input_limit, source_limit}
use Rattle.eh_commands.specs.Mean.{MeanCause, MeaningEnds, MeansThis, mean_lines, status_of_end}
use Rattle.eh_driver.proofs.ToldThen.{both_then}
use Rattle.eh_driver.proofs.EventsHeld.{LawsOfEvents, meaning_holds}
use Rattle.eh_driver.specs.Promise.{MeanTold, MeanUndisturbed, InputIs, IsOfWhatWasRead, MeanAnswers, MeanPromise, MeansUpTo, Shows}
use Rattle.eh_commands.proofs.Sources.{told_of, valid_same, not_refused, same_refusal}

-- the input of which something is told
input_of : (i : Option (List ℕ)) (store : StoreView) (files : Files) (input : List ℕ) (P : List ℕ → Type 0) → store.files ≡ Some files → InputIs i files input → ToldInput store i P → P input
input_of None store files input P is e told = subst P (sym e) told
input_of (Some name) store files input P is there told = told_of input_limit store name input files P is there.0 told

-- so the file and its input
pub both_of : (limit : ℕ) (a : Asked) (store : StoreView) (files : Files) (file input : List ℕ) (P : List ℕ → List ℕ → Type 0) → store.files ≡ Some files → get files a.source ≡ Some file → InputIs a.input files input →
    ToldBoth limit a store P → P file input
both_of limit a store files file input P is there given told =
    input_of a.input store files input (P file) is given (told_of limit store a.source file files (λ f. ToldInput store a.input (P f)) is there told)

-- the store refused nothing
not_unread : (i : Option (List ℕ)) (old new : StoreView) → (Rose old.faults new.faults → ⊥) → UnreadInput i old new ReadFault → ⊥
not_unread None old new calm why = why
not_unread (Some name) old new calm why = calm why.rose

not_long : (i : Option (List ℕ)) (old new : StoreView) → (Rose old.faults new.faults → ⊥) → UnreadInput i old new TooLong → ⊥
not_long None old new calm why = why
not_long (Some name) old new calm (n, above, why, long) = calm why.rose

pub both_read : (limit : ℕ) (a : Asked) (old new : StoreView) → (Rose old.faults new.faults → ⊥) → UnreadEither limit a old new ReadFault → ⊥
both_read limit a old new calm (inl why) = calm why.rose
both_read limit a old new calm (inr (told, why)) = not_unread a.input old new calm why

pub both_short : (limit : ℕ) (a : Asked) (old new : StoreView) → (Rose old.faults new.faults → ⊥) → UnreadEither limit a old new TooLong → ⊥
both_short limit a old new calm (inl (n, above, why, long)) = calm why.rose
both_short limit a old new calm (inr (told, why)) = not_long a.input old new calm why

-- what a source means is the meaning of its valid program
meaning_of : (a : Asked) (source input : List ℕ) (m : Meaning) (p : Program) → MeansThis a m source input → IsProgram source p → Valid a.std p → m ≡ meant (checked a.std p) input a.modules a.turns
meaning_of a source input m p (q, only, is) program holds = is ∙ ap (λ x. meant (checked a.std x) input a.modules a.turns) (valid_same (only.only (valid p) (program, holds)))

-- and up to a line that fails
broken_off : LawsOfEvents → (a : Asked) (source input : List ℕ) (p : Program) → IsProgram source p → Valid a.std p → (old new : StoreView) (out out' : SinkView) → MeanTold a source input old →
    MeanCause a old new out out' WriteFault → MeansUpTo a.trace (meant (checked a.std p) input a.modules a.turns) out out'
broken_off laws a source input p program holds old new out out' u (m, told, fails) =
    let is = meaning_of a source input m p (both_of source_limit a old u.files source input (MeansThis a m) u.told u.there u.given told) program holds in
    (subst (λ x. FailsAmong (mean_lines a.trace x.items x.end) out out') is fails, meaning_holds laws (checked a.std p) input (rests_of a.modules) a.turns 128)

module _ (laws : LawsOfEvents) (a : Asked) (source input : List ℕ) (old new : StoreView) (out out' : SinkView) (u : MeanUndisturbed a source input old new out out') where
  -- what holds of the told source and the told input
  told_so : (P : List ℕ → List ℕ → Type 0) → ToldBoth source_limit a old P → P source input
  told_so P told = both_of source_limit a old u.calm.files source input P u.calm.told u.calm.there u.given told

  -- what it means is the meaning of the valid program
  meaning_so : (m : Meaning) (p : Program) → ToldBoth source_limit a old (MeansThis a m) → IsProgram source p → Valid a.std p → m ≡ meant (checked a.std p) input a.modules a.turns
  meaning_so m p told program holds = meaning_of a source input m p (told_so (MeansThis a m) told) program holds

  shown : (m : Meaning) (p : Program) (status : Status) → ToldBoth source_limit a old (MeansThis a m) → IsProgram source p → Valid a.std p → status ≡ status_of_end m.end → TakesAll (mean_lines a.trace m.items m.end) out out' →
      (status ≡ NoMemory) ⊎ Shows a.trace (meant (checked a.std p) input a.modules a.turns) out out' status
  shown m p status told program holds is puts =
      let went = subst (λ x. (status ≡ status_of_end x.end) × Gains (bytes_of (mean_lines a.trace x.items x.end)) out out') (meaning_so m p told program holds) (is, puts.gains) in
      inr (went.0, went.1, meaning_holds laws (checked a.std p) input (rests_of a.modules) a.turns 128)

  -- a valid source is not refused
  refused_valid : (p : Program) (number place : ℕ) → HasOnly a.std source (refused number place) → IsProgram source p → Valid a.std p → ⊥
  refused_valid p number place only program holds = let same : refused number place ≡ valid p = only.only (valid p) (program, holds) in cc

  shows_so : (p : Program) (status : Status) → IsProgram source p → Valid a.std p → MeanCause a old new out out' status →
      (status ≡ NoMemory) ⊎ Shows a.trace (meant (checked a.std p) input a.modules a.turns) out out' status
  shows_so p ReadFault program holds (why, rest) = absurd (both_read source_limit a old new u.calm.store why)
  shows_so p TooLong program holds (why, rest) = absurd (both_short source_limit a old new u.calm.store why)
  shows_so p (SourceRefused number place) program holds (told, rest) = absurd (refused_valid p number place (told_so (λ s i. HasOnly a.std s (refused number place)) told) program holds)
  shows_so p NoMemory program holds h = inl refl
  shows_so p WriteFault program holds (m, told, fails) = absurd (u.calm.sink fails.rose)
  shows_so p Done program holds (m, told, (is, puts)) = shown m p Done told program holds is puts
  shows_so p Usage program holds (m, told, (is, puts)) = shown m p Usage told program holds is puts
  shows_so p (ImageRefused number place location other) program holds (m, told, (is, puts)) = shown m p (ImageRefused number place location other) told program holds is puts
  shows_so p Aborted program holds (m, told, (is, puts)) = shown m p Aborted told program holds is puts
  shows_so p Budget program holds (m, told, (is, puts)) = shown m p Budget told program holds is puts
  shows_so p Stack program holds (m, told, (is, puts)) = shown m p Stack told program holds is puts
  shows_so p (MachineFault kind place) program holds (m, told, (is, puts)) = shown m p (MachineFault kind place) told program holds is puts
  shows_so p (ScheduleRefused number place) program holds (m, told, (is, puts)) = shown m p (ScheduleRefused number place) told program holds is puts
  shows_so p Undefined program holds (m, told, (is, puts)) = shown m p Undefined told program holds is puts
  shows_so p Differs program holds (m, told, (is, puts)) = shown m p Differs told program holds is puts

  -- what is valid is not refused
  means_valid : (m : Meaning) (number place : ℕ) → ToldBoth source_limit a old (MeansThis a m) → IsRefused a.std source number place → ⊥
  means_valid m number place told is = go (told_so (MeansThis a m) told)
    where
      go : MeansThis a m source input → ⊥
      go (q, only, same) = not_refused a.std source q number place only is

  refuses_so : (number place : ℕ) (status : Status) → IsRefused a.std source number place → MeanCause a old new out out' status → (status ≡ NoMemory) ⊎ (status ≡ SourceRefused number place)
  refuses_so number place ReadFault is (why, rest) = absurd (both_read source_limit a old new u.calm.store why)
  refuses_so number place TooLong is (why, rest) = absurd (both_short source_limit a old new u.calm.store why)
  refuses_so number place (SourceRefused n at) is (told, rest) = inr (same_refusal ((told_so (λ s i. HasOnly a.std s (refused n at)) told).only (refused number place) is))
  refuses_so number place NoMemory is h = inl refl
  refuses_so number place WriteFault is (m, told, fails) = absurd (u.calm.sink fails.rose)
  refuses_so number place Done is (m, told, h) = absurd (means_valid m number place told is)
  refuses_so number place Usage is (m, told, h) = absurd (means_valid m number place told is)
  refuses_so number place (ImageRefused other at location second) is (m, told, h) = absurd (means_valid m number place told is)
  refuses_so number place Aborted is (m, told, h) = absurd (means_valid m number place told is)
  refuses_so number place Budget is (m, told, h) = absurd (means_valid m number place told is)
  refuses_so number place Stack is (m, told, h) = absurd (means_valid m number place told is)
  refuses_so number place (MachineFault kind at) is (m, told, h) = absurd (means_valid m number place told is)
  refuses_so number place (ScheduleRefused n at) is (m, told, h) = absurd (means_valid m number place told is)
  refuses_so number place Undefined is (m, told, h) = absurd (means_valid m number place told is)
  refuses_so number place Differs is (m, told, h) = absurd (means_valid m number place told is)

-- ---- over any store
module _ (laws : LawsOfEvents) (a : Asked) (old new : StoreView) (out out' : SinkView) where
  -- the source that was read
  answered_by : (status : Status) (m : Meaning) → MeaningEnds a.trace m out out' status → (source input : List ℕ) → MeansThis a m source input → MeanAnswers a out out' status source input
  answered_by status m end source input (p, only, is) =
      (p, only.is.0, only.is.1, (subst (λ x. MeaningEnds a.trace x out out' status) is end, meaning_holds laws (checked a.std p) input (rests_of a.modules) a.turns 128))

  answered_so : (status : Status) → (m : Meaning) × ToldBoth source_limit a old (MeansThis a m) × MeaningEnds a.trace m out out' status → ToldBoth source_limit a old (MeanAnswers a out out' status)
  answered_so status (m, told, end) = both_then source_limit a old (MeansThis a m) (MeanAnswers a out out' status) (answered_by status m end) told

  mean_answers : (status : Status) → MeanCause a old new out out' status → IsOfWhatWasRead status → ToldBoth source_limit a old (MeanAnswers a out out' status)
  mean_answers ReadFault h is = absurd is
  mean_answers TooLong h is = absurd is
  mean_answers (SourceRefused number place) h is = absurd is
  mean_answers NoMemory h is = absurd is
  mean_answers Done h is = answered_so Done h
  mean_answers Usage h is = answered_so Usage h
  mean_answers (ImageRefused number place location other) h is = answered_so (ImageRefused number place location other) h
  mean_answers WriteFault h is = answered_so WriteFault h
  mean_answers Aborted h is = answered_so Aborted h
  mean_answers Budget h is = answered_so Budget h
  mean_answers Stack h is = answered_so Stack h
  mean_answers (MachineFault kind place) h is = answered_so (MachineFault kind place) h
  mean_answers (ScheduleRefused number place) h is = answered_so (ScheduleRefused number place) h
  mean_answers Undefined h is = answered_so Undefined h
  mean_answers Differs h is = answered_so Differs h

pub mean_promised : LawsOfEvents → (a : Asked) (old new : StoreView) (out out' : SinkView) (status : Status) → MeanCause a old new out out' status → MeanPromise a old new out out' status
mean_promised laws a old new out out' status cause = record {
  shows = λ source input p u program holds. shows_so laws a source input old new out out' u p status program holds cause;
  refuses = λ source input number place u is. refuses_so laws a source input old new out out' u number place status is cause;
  breaks = λ source input p u program holds is. broken_off laws a source input p program holds old new out out' u (subst (λ s. MeanCause a old new out out' s) is cause);
  answers = mean_answers laws a old new out out' status cause;
}
