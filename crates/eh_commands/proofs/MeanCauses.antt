-- From what the parts of `mean` say to the cause of a status.
use Rattle.std.proofs.Common.{◌≡◌, ℕ, List, Err, refl, ap}
use Rattle.eh_outer.specs.Store.{StoreView}
use Rattle.eh_outer.specs.Sink.{SinkView}
use Rattle.cxx_ast.specs.Plain.{Program, Checked}
use Rattle.cxx_ast.specs.Checked.{Resolves}
use Rattle.cxx_front.specs.Fate.{HasOnly, refused, valid}
use Rattle.cxx_front.specs.Answer.{Answers as FrontAnswers}
use Rattle.cxx_front.specs.declared.error.SourceError.{SourceError}
use Rattle.cxx_front.specs.declared.error.SourceError.TheVariants as errors
use Rattle.meaning_forms.specs.declared.ending.MeanEnd.{MeanEnd}
use Rattle.meaning_forms.specs.declared.ending.MeanEnd.TheVariants as ends
use Rattle.scope_meaning.specs.Mean.{meant}
use Rattle.eh_commands.specs.declared.status.Status.{Status}
use Rattle.eh_commands.specs.declared.status.Status.TheVariants.{Done, Usage, SourceRefused, ImageRefused, ScheduleRefused, ReadFault, TooLong, WriteFault, NoMemory, Aborted, Budget, Stack, MachineFault, Undefined, Differs}
use Rattle.eh_commands.specs.Answer.{status_of_refusal}
use Rattle.eh_commands.specs.File.{Asked, ToldBoth, UnreadEither, IsFile, IsInput, source_limit}
use Rattle.eh_commands.specs.Mean.{MeanCause, MeansThis, MeaningEnds, SourceMeans, status_of_end}
use Rattle.eh_commands.proofs.Causes.{told_both, unread_either}

-- what the front end answers decides what becomes of the source
pub refused_means : (a : Asked) (source input : List ℕ) (old : SinkView) (e : SourceError) → FrontAnswers a.std source (Err e) → SourceMeans a source input old old (status_of_refusal e)
refused_means a source input old (errors.Refused number place) h = (h, refl)
refused_means a source input old errors.NoMemory h = refl

-- a meaning ends with no status but these
no_refusal : (end : MeanEnd) (number place : ℕ) → SourceRefused number place ≡ status_of_end end → ⊥
no_refusal (ends.Exit n) number place e = cc
no_refusal ends.Aborted number place e = cc
no_refusal ends.Undefined number place e = cc
no_refusal ends.OutOfTurns number place e = cc
no_refusal ends.Deep number place e = cc

pub no_fault : (end : MeanEnd) → ReadFault ≡ status_of_end end → ⊥
no_fault (ends.Exit n) e = cc
no_fault ends.Aborted e = cc
no_fault ends.Undefined e = cc
no_fault ends.OutOfTurns e = cc
no_fault ends.Deep e = cc

pub no_length : (end : MeanEnd) → TooLong ≡ status_of_end end → ⊥
no_length (ends.Exit n) e = cc
no_length ends.Aborted e = cc
no_length ends.Undefined e = cc
no_length ends.OutOfTurns e = cc
no_length ends.Deep e = cc

-- a meaning's end is what becomes of its source
pub program_means : (a : Asked) (source input : List ℕ) (p : Program) (c : Checked) (old new : SinkView) (status : Status) → HasOnly a.std source (valid p) → Resolves a.std p c →
    MeaningEnds a.trace (meant c input a.modules a.turns) old new status → SourceMeans a source input old new status
program_means a source input p c old new (SourceRefused number place) only is h = absurd (no_refusal (meant c input a.modules a.turns).end number place h.0)
program_means a source input p c old new NoMemory only is h = h
program_means a source input p c old new Done only is h = (meant c input a.modules a.turns, (p, only, ap (λ x. meant x input a.modules a.turns) is), h)
program_means a source input p c old new WriteFault only is h = (meant c input a.modules a.turns, (p, only, ap (λ x. meant x input a.modules a.turns) is), h)
program_means a source input p c old new Usage only is h = (meant c input a.modules a.turns, (p, only, ap (λ x. meant x input a.modules a.turns) is), h)
program_means a source input p c old new (ImageRefused number place location other) only is h = (meant c input a.modules a.turns, (p, only, ap (λ x. meant x input a.modules a.turns) is), h)
program_means a source input p c old new ReadFault only is h = (meant c input a.modules a.turns, (p, only, ap (λ x. meant x input a.modules a.turns) is), h)
program_means a source input p c old new TooLong only is h = (meant c input a.modules a.turns, (p, only, ap (λ x. meant x input a.modules a.turns) is), h)
program_means a source input p c old new Aborted only is h = (meant c input a.modules a.turns, (p, only, ap (λ x. meant x input a.modules a.turns) is), h)
program_means a source input p c old new Budget only is h = (meant c input a.modules a.turns, (p, only, ap (λ x. meant x input a.modules a.turns) is), h)
program_means a source input p c old new Stack only is h = (meant c input a.modules a.turns, (p, only, ap (λ x. meant x input a.modules a.turns) is), h)
program_means a source input p c old new (MachineFault kind place) only is h = (meant c input a.modules a.turns, (p, only, ap (λ x. meant x input a.modules a.turns) is), h)
program_means a source input p c old new (ScheduleRefused number place) only is h = (meant c input a.modules a.turns, (p, only, ap (λ x. meant x input a.modules a.turns) is), h)
program_means a source input p c old new Undefined only is h = (meant c input a.modules a.turns, (p, only, ap (λ x. meant x input a.modules a.turns) is), h)
program_means a source input p c old new Differs only is h = (meant c input a.modules a.turns, (p, only, ap (λ x. meant x input a.modules a.turns) is), h)

-- a source that is not read, or whose input is not
pub unread_means : (a : Asked) (old new : StoreView) (out : SinkView) (status : Status) → UnreadEither source_limit a old new status → MeanCause a old new out out status
unread_means a old new out status why = unread_either source_limit a old new (MeanCause a old new out out) (λ h. (h, refl)) (λ h. (h, refl)) refl status why

-- what was read, and what became of it
module _ (a : Asked) (source input : List ℕ) (old new : StoreView) (out out' : SinkView) (source_is : IsFile source_limit old a.source source) (input_is : IsInput old a.input input) where
  told : (P : List ℕ → List ℕ → Type 0) → P source input → ToldBoth source_limit a old P
  told P holds = told_both source_limit a old source input P source_is input_is holds

  pub source_means : (status : Status) → SourceMeans a source input out out' status → MeanCause a old new out out' status
  source_means Done (m, means, h) = (m, told (MeansThis a m) means, h)
  source_means Usage (m, means, h) = (m, told (MeansThis a m) means, h)
  source_means (SourceRefused number place) (is, same) = (told (λ s i. HasOnly a.std s (refused number place)) is, same)
  source_means (ImageRefused number place location other) (m, means, h) = (m, told (MeansThis a m) means, h)
  source_means ReadFault (m, means, h) = absurd (no_fault m.end h.0)
  source_means TooLong (m, means, h) = absurd (no_length m.end h.0)
  source_means WriteFault (m, means, h) = (m, told (MeansThis a m) means, h)
  source_means NoMemory h = h
  source_means Aborted (m, means, h) = (m, told (MeansThis a m) means, h)
  source_means Budget (m, means, h) = (m, told (MeansThis a m) means, h)
  source_means Stack (m, means, h) = (m, told (MeansThis a m) means, h)
  source_means (MachineFault kind place) (m, means, h) = (m, told (MeansThis a m) means, h)
  source_means (ScheduleRefused number place) (m, means, h) = (m, told (MeansThis a m) means, h)
  source_means Undefined (m, means, h) = (m, told (MeansThis a m) means, h)
  source_means Differs (m, means, h) = (m, told (MeansThis a m) means, h)
