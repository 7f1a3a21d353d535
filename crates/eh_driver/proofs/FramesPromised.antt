-- What `frames` promises.
use Rattle.std.proofs.Common.{◌≡◌, inl, inr, ℕ, List, Result, Ok, Err, refl, sym, subst}
use Rattle.std.specs.Prelude.{◌⊎◌, IsErrAnd}
use Rattle.eh_outer.specs.Store.{StoreView}
use Rattle.eh_outer.specs.Sink.{SinkView}
use Rattle.run_items.specs.Output.{TakesAll}
use Rattle.table_forms.specs.Fault.{Fault}
use Rattle.elf_image.specs.Reports.{reported}
use Rattle.debug_frames.specs.Agreement.{Agreement}
use Rattle.debug_frames.specs.Compared.{Forms, forms_in}
use Rattle.debug_frames.specs.Compares.{Compares}
use Rattle.eh_commands.specs.declared.status.Status.{Status}
use Rattle.eh_commands.specs.declared.status.Status.TheVariants.{Done, Usage, SourceRefused, ImageRefused, ScheduleRefused, ReadFault, TooLong, WriteFault, NoMemory, Aborted, Budget, Stack, MachineFault, Undefined, Differs}
use Rattle.eh_commands.specs.File.{Told}
use Rattle.eh_commands.specs.Frames.{agreement_lines, FormsJudged, FramesCause, FramesPromise, RefusesForms, agreement_status}
use Rattle.eh_commands.specs.Image.{image_limit, status_of}
use Rattle.eh_commands.proofs.Sources.{told_of}

-- a refusal that was answered is the one of the file
refused_judged : (file : List ℕ) (forms : Result Forms Fault) (out out' : SinkView) (status : Status) → IsErrAnd forms (λ fault. status ≡ status_of (reported fault)) → out' ≡ out → FormsJudged file forms out out' status
refused_judged file (Ok forms) out out' status is kept = absurd is
refused_judged file (Err r) out out' status is kept = (is, kept)

-- so is an agreement that was put
compared_judged : (file : List ℕ) (a : Agreement) (out out' : SinkView) (status : Status) → Compares file a → status ≡ agreement_status a → TakesAll (agreement_lines a) out out' →
    FormsJudged file (forms_in file) out out' status
compared_judged file a out out' status c is puts = subst (λ r. FormsJudged file r out out' status) (sym c.there) (a, c, is, puts.gains)

pub frames_promised : (name : List ℕ) (old new : StoreView) (out out' : SinkView) (status : Status) → FramesCause name old new out out' status → FramesPromise name old new out out' status
frames_promised name old new out out' status cause files file is there short store sink = by status cause
  where
    compares : (a : Agreement) → Told image_limit old name (λ f. Compares f a) → Compares file a
    compares a told = told_of image_limit old name file files (λ f. Compares f a) is there told

    by : (s : Status) → FramesCause name old new out out' s → (s ≡ NoMemory) ⊎ FormsJudged file (forms_in file) out out' s
    by Done (a, told, (one, puts)) = inr (compared_judged file a out out' Done (compares a told) one puts)
    by Usage (a, told, (one, puts)) = inr (compared_judged file a out out' Usage (compares a told) one puts)
    by (SourceRefused number place) (a, told, (one, puts)) = inr (compared_judged file a out out' (SourceRefused number place) (compares a told) one puts)
    by (ImageRefused number place location other) (told, kept) =
        inr (refused_judged file (forms_in file) out out' (ImageRefused number place location other) (told_of image_limit old name file files (RefusesForms (ImageRefused number place location other)) is there told) kept)
    by ReadFault (why, kept) = absurd (store why.rose)
    by TooLong ((n, above, why, long), kept) = absurd (store why.rose)
    by WriteFault (a, told, fails) = absurd (sink fails.rose)
    by NoMemory h = inl refl
    by Aborted (a, told, (one, puts)) = inr (compared_judged file a out out' Aborted (compares a told) one puts)
    by Budget (a, told, (one, puts)) = inr (compared_judged file a out out' Budget (compares a told) one puts)
    by Stack (a, told, (one, puts)) = inr (compared_judged file a out out' Stack (compares a told) one puts)
    by (MachineFault kind place) (a, told, (one, puts)) = inr (compared_judged file a out out' (MachineFault kind place) (compares a told) one puts)
    by (ScheduleRefused number place) (a, told, (one, puts)) = inr (compared_judged file a out out' (ScheduleRefused number place) (compares a told) one puts)
    by Undefined (a, told, (one, puts)) = inr (compared_judged file a out out' Undefined (compares a told) one puts)
    by Differs (a, told, (one, puts)) = inr (compared_judged file a out out' Differs (compares a told) one puts)
