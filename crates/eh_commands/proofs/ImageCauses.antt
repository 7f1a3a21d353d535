-- From what the parts of `check` and `dump` say to the cause of a status.
use Rattle.std.proofs.Common.{Err, ◌≡◌, ◌≤◌, ℕ, List, length, [], ◌∷◌, Some, IfSome, Ok, subst}
use Rattle.std.specs.FinMap.{get}
use Rattle.eh_outer.specs.Store.{StoreView}
use Rattle.eh_outer.specs.Sink.{SinkView, Fails, Puts}
use Rattle.eh_outer.specs.declared.sink.SinkError.{SinkError}
use Rattle.eh_outer.specs.declared.sink.SinkError.TheVariants.{Failed}
use Rattle.table_check.specs.Checks.{ChecksImage}
use Rattle.table_check.specs.declared.summary.Summary.{Summary}
use Rattle.elf_image.specs.Clean.{CleanImage, clean}
use Rattle.eh_commands.specs.declared.status.Status.{Status}
use Rattle.eh_commands.specs.declared.status.Status.TheVariants.{Done, Usage, SourceRefused, ImageRefused, ScheduleRefused, ReadFault, TooLong, WriteFault, NoMemory, Aborted, Budget, Stack, MachineFault, Undefined, Differs}
use Rattle.eh_commands.specs.File.{Unread}
use Rattle.eh_commands.specs.Image.{ImageEnds, ImageCause, check_lines, image_limit, summary_line}
use Rattle.run_items.specs.Output.{FailsAmong}
use Rattle.run_items.proofs.Puts.{fails_first}

-- a sink has one error
pub failed_put : (piece : List ℕ) (old new : SinkView) (e : SinkError) → Puts piece old new (Err e) → Fails piece old new
failed_put piece old new Failed h = h

pub image_caused : (lines : CleanImage → List (List ℕ)) (name file : List ℕ) (old new : StoreView) (out out' : SinkView) (status : Status) → length file ≤ image_limit →
    IfSome old.files (λ m. get m name ≡ Some file) → ImageEnds lines file out out' status → ImageCause lines name old new out out' status
image_caused lines name file old new out out' Done short there (image, is, puts) = (image, (file, (short, there), is), puts)
image_caused lines name file old new out out' WriteFault short there (image, is, puts) = (image, (file, (short, there), is), puts)
image_caused lines name file old new out out' (ImageRefused number place location other) short there (is, same) =
    ((file, (short, there), is), same)
image_caused lines name file old new out out' NoMemory short there h = h
image_caused lines name file old new out out' Usage short there h = absurd h
image_caused lines name file old new out out' (SourceRefused number place) short there h = absurd h
image_caused lines name file old new out out' ReadFault short there h = absurd h
image_caused lines name file old new out out' TooLong short there h = absurd h
image_caused lines name file old new out out' Aborted short there h = absurd h
image_caused lines name file old new out out' Budget short there h = absurd h
image_caused lines name file old new out out' Stack short there h = absurd h
image_caused lines name file old new out out' (MachineFault kind place) short there h = absurd h
image_caused lines name file old new out out' (ScheduleRefused number place) short there h = absurd h
image_caused lines name file old new out out' Undefined short there h = absurd h
image_caused lines name file old new out out' Differs short there h = absurd h

pub unread_image : (lines : CleanImage → List (List ℕ)) (name : List ℕ) (old new : StoreView) (out out' : SinkView) (status : Status) → Unread image_limit name old new status → out' ≡ out →
    ImageCause lines name old new out out' status
unread_image lines name old new out out' ReadFault why same = (why, same)
unread_image lines name old new out out' TooLong why same = (why, same)
unread_image lines name old new out out' NoMemory why same = same
unread_image lines name old new out out' Done why same = absurd why
unread_image lines name old new out out' Usage why same = absurd why
unread_image lines name old new out out' (SourceRefused number place) why same = absurd why
unread_image lines name old new out out' (ImageRefused number place location other) why same = absurd why
unread_image lines name old new out out' WriteFault why same = absurd why
unread_image lines name old new out out' Aborted why same = absurd why
unread_image lines name old new out out' Budget why same = absurd why
unread_image lines name old new out out' Stack why same = absurd why
unread_image lines name old new out out' (MachineFault kind place) why same = absurd why
unread_image lines name old new out out' (ScheduleRefused number place) why same = absurd why
unread_image lines name old new out out' Undefined why same = absurd why
unread_image lines name old new out out' Differs why same = absurd why

-- the line of the counts failed
pub summary_failed : (file : List ℕ) (summary : Summary) (old new : SinkView) → ChecksImage (Ok summary) (clean file) → Fails (summary_line summary) old new → ImageEnds check_lines file old new WriteFault
summary_failed file summary old new (image, is, same) failed =
    (image, is, subst (λ s. FailsAmong (summary_line s ∷ []) old new) same (fails_first (summary_line summary) [] old new failed))
