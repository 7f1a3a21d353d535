-- What the causes promise.
use Rattle.std.proofs.Common.{◌≡◌, ◌≤◌, inl, inr, ℕ, List, length, Option, Some, None, Result, Ok, Err, refl, sym, subst}
use Rattle.std.specs.Prelude.{IsErrAnd}
use Rattle.eh_outer.specs.Store.{StoreView}
use Rattle.eh_outer.specs.Sink.{SinkView}
use Rattle.eh_commands.specs.declared.status.Status.{Status}
use Rattle.eh_commands.specs.declared.status.Status.TheVariants.{Done, Usage, SourceRefused, ImageRefused, ScheduleRefused, ReadFault, TooLong, WriteFault, NoMemory, Aborted, Budget, Stack, MachineFault, Undefined, Differs}
use Rattle.table_forms.specs.Fault.{Fault}
use Rattle.elf_image.specs.Clean.{CleanImage, clean}
use Rattle.elf_image.specs.Reports.{reported}
use Rattle.command_line.specs.declared.command.Verb.{Verb}
use Rattle.command_line.specs.declared.command.Verb.TheVariants.{Compile, Run, Exec, Harts, Mean, Check, Dump, Frames, At, Doubts, Pack, Gen}
use Rattle.command_line.specs.Command.{CommandView, command_of}
use Rattle.command_line.proofs.Turns.{turns_are_bounded}
use Rattle.eh_outer.specs.Module.{ModuleView}
use Rattle.foreign_host.specs.Host.{GuestsAreInts}
use Rattle.eh_commands.specs.Words.{asked}
use Rattle.eh_commands.specs.File.{Asked}
use Rattle.eh_commands.specs.HartFiles.{harts_asked}
use Rattle.eh_commands.proofs.Sources.{told_of}
use Rattle.eh_driver.proofs.MeanPromised.{mean_promised}
use Rattle.eh_driver.proofs.ExecPromised.{exec_promised}
use Rattle.eh_driver.proofs.CompilePromised.{compile_promised}
use Rattle.eh_driver.proofs.RunPromised.{run_promised}
use Rattle.eh_driver.proofs.FramesPromised.{frames_promised}
use Rattle.eh_driver.proofs.AtPromised.{at_promised}
use Rattle.eh_driver.proofs.GenPromised.{gen_promised}
use Rattle.eh_driver.proofs.HartsPromised.{harts_promised}
use Rattle.eh_driver.proofs.PackPromised.{pack_promised}
use Rattle.eh_commands.specs.Image.{ImageCause, ImagePromise, Judged, check_lines, doubt_lines, dump_lines, image_limit, status_of}
use Rattle.eh_commands.specs.Answer.{CommandCause, Cause}
use Rattle.eh_driver.specs.Promise.{CommandPromise, Promise}
use Rattle.eh_driver.proofs.MeantShown.{CompilerLaws, IsAsked}

-- a refusal that was answered is the one of the file
refused_judged : (lines : CleanImage → List (List ℕ)) (read : Result CleanImage Fault) (out out' : SinkView) (status : Status) → IsErrAnd read (λ fault. status ≡ status_of (reported fault)) → out' ≡ out → Judged lines read out out' status
refused_judged lines (Ok image) out out' status is same = absurd is
refused_judged lines (Err fault) out out' status is same = (is, same)

image_kept : (lines : CleanImage → List (List ℕ)) (name : List ℕ) (old new : StoreView) (out out' : SinkView) (status : Status) → ImageCause lines name old new out out' status → ImagePromise lines name old new out out' status
image_kept lines name old new out out' Done (image, told, puts) files file is there short store sink =
    let clean_file = told_of image_limit old name file files (λ f. clean f ≡ Ok image) is there told in
    inr (subst (λ r. Judged lines r out out' Done) (sym clean_file) (refl, puts.gains))
image_kept lines name old new out out' (ImageRefused number place location other) (told, same) files file is there short store sink =
    let P : List ℕ → Type 0 = λ f. IsErrAnd (clean f) (λ fault. ImageRefused number place location other ≡ status_of (reported fault)) in
    inr (refused_judged lines (clean file) out out' (ImageRefused number place location other) (told_of image_limit old name file files P is there told) same)
image_kept lines name old new out out' ReadFault (why, same) files file is there short store sink = absurd (store why.rose)
image_kept lines name old new out out' TooLong ((n, above, why, long), same) files file is there short store sink = absurd (store why.rose)
image_kept lines name old new out out' WriteFault (image, told, fails) files file is there short store sink = absurd (sink fails.rose)
image_kept lines name old new out out' NoMemory h files file is there short store sink = inl refl
image_kept lines name old new out out' Usage h files file is there short store sink = absurd h
image_kept lines name old new out out' (SourceRefused number place) h files file is there short store sink = absurd h
image_kept lines name old new out out' Aborted h files file is there short store sink = absurd h
image_kept lines name old new out out' Budget h files file is there short store sink = absurd h
image_kept lines name old new out out' Stack h files file is there short store sink = absurd h
image_kept lines name old new out out' (MachineFault kind place) h files file is there short store sink = absurd h
image_kept lines name old new out out' (ScheduleRefused number place) h files file is there short store sink = absurd h
image_kept lines name old new out out' Undefined h files file is there short store sink = absurd h
image_kept lines name old new out out' Differs h files file is there short store sink = absurd h

module _ (laws : CompilerLaws) where
  command_promised : (verb : Verb) (a : Asked) → IsAsked a → (old new : StoreView) (out out' : SinkView) (status : Status) → CommandCause verb a old new out out' status → CommandPromise verb a old new out out' status
  command_promised Compile a is old new out out' status cause = compile_promised laws a old new out out' status cause.0
  command_promised Run a is old new out out' status cause = run_promised laws a is old new out out' status cause
  command_promised Exec a is old new out out' status cause = exec_promised laws.runs a old new out out' status cause
  command_promised Harts a is old new out out' status cause = harts_promised laws.images.apart (harts_asked a) old new out out' status cause
  command_promised Mean a is old new out out' status cause = mean_promised laws.images.events a old new out out' status cause
  command_promised Check a is old new out out' status cause = image_kept check_lines a.source old new out out' status cause
  command_promised Dump a is old new out out' status cause = image_kept dump_lines a.source old new out out' status cause
  command_promised Frames a is old new out out' status cause = frames_promised a.source old new out out' status cause
  command_promised At a is old new out out' status cause = at_promised a old new out out' status cause
  command_promised Doubts a is old new out out' status cause = image_kept doubt_lines a.source old new out out' status cause
  command_promised Pack a is old new out out' status cause = pack_promised laws.packing_keeps laws.packs_once a old new out out' status cause
  command_promised Gen a is old new out out' status cause = gen_promised laws a out out' status cause.0

  pub promised : (modules : List ModuleView) → length modules ≤ 64 → GuestsAreInts modules → (words : List (List ℕ)) (old new : StoreView) (out out' : SinkView) (status : Status) → Cause modules (command_of words) old new out out' status →
      Promise modules (command_of words) old new out out' status
  promised modules few ints words old new out out' status cause = by (command_of words) refl cause
    where
      by : (command : Option CommandView) → command_of words ≡ command → Cause modules command old new out out' status → Promise modules command old new out out' status
      by None is cause = tt
      by (Some command) is cause =
          command_promised command.verb (asked modules command) (record { turns = (turns_are_bounded words command is).most; few = few; ints = ints }) old new out out' status cause
