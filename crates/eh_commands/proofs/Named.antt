-- The file that a status names.
use Rattle.std.proofs.Common.{◌≡◌, ℕ, List, [], Some, None, refl, sym, ap}
use Rattle.eh_outer.specs.Store.{StoreView, Refuses}
use Rattle.eh_outer.specs.declared.store.RefusalKind.{RefusalKind}
use Rattle.eh_outer.specs.Sink.{SinkView}
use Rattle.elf_image.specs.Clean.{CleanImage}
use Rattle.eh_commands.specs.declared.status.Status.{Status}
use Rattle.eh_commands.specs.declared.status.Status.TheVariants.{Done, Usage, SourceRefused, ImageRefused, ScheduleRefused, ReadFault, TooLong, WriteFault, NoMemory, Aborted, Budget, Stack, MachineFault, Undefined, Differs}
use Rattle.eh_commands.specs.File.{Asked, NamesRefusal, Unread, refused_name}
use Rattle.eh_commands.specs.Image.{ImageCause}
use Rattle.eh_commands.specs.Mean.{SourceMeans}
use Rattle.eh_commands.specs.Status.{text_of_status}
use Rattle.eh_commands.specs.Exec.{ImageRuns}
use Rattle.eh_commands.proofs.MeanCauses.{no_fault, no_length}
use Rattle.eh_commands.proofs.ExecCauses.{no_run_fault, no_run_length}

-- the text of a status names the file that the store refused last
pub text_named : (status : Status) (name : List ℕ) (store : StoreView) → NamesRefusal status name store → text_of_status name status ≡ text_of_status (refused_name store) status
text_named ReadFault name store is = ap (λ n. text_of_status n ReadFault) (sym is)
text_named TooLong name store is = ap (λ n. text_of_status n TooLong) (sym is)
text_named Done name store is = refl
text_named Usage name store is = refl
text_named (SourceRefused number place) name store is = refl
text_named (ImageRefused number place location other) name store is = refl
text_named WriteFault name store is = refl
text_named NoMemory name store is = refl
text_named Aborted name store is = refl
text_named Budget name store is = refl
text_named Stack name store is = refl
text_named (MachineFault kind place) name store is = refl
text_named (ScheduleRefused number place) name store is = refl
text_named Undefined name store is = refl
text_named Differs name store is = refl

last_name : (old new : StoreView) (kind : RefusalKind) (name : List ℕ) → Refuses old new kind name → refused_name new ≡ name
last_name old new kind name why = ap (λ l. elim l [ None ↦ [] | Some refusal ↦ refusal.name ]) why.last

pub unread_named : (limit : ℕ) (name : List ℕ) (old new : StoreView) (status : Status) → Unread limit name old new status → NamesRefusal status name new
unread_named limit name old new ReadFault why = last_name old new _ name why
unread_named limit name old new TooLong (n, above, why, long) = last_name old new _ name why
unread_named limit name old new Done why = tt
unread_named limit name old new Usage why = tt
unread_named limit name old new (SourceRefused number place) why = tt
unread_named limit name old new (ImageRefused number place location other) why = tt
unread_named limit name old new WriteFault why = tt
unread_named limit name old new NoMemory why = tt
unread_named limit name old new Aborted why = tt
unread_named limit name old new Budget why = tt
unread_named limit name old new Stack why = tt
unread_named limit name old new (MachineFault kind place) why = tt
unread_named limit name old new (ScheduleRefused number place) why = tt
unread_named limit name old new Undefined why = tt
unread_named limit name old new Differs why = tt

pub image_named : (lines : CleanImage → List (List ℕ)) (name : List ℕ) (old new : StoreView) (out out' : SinkView) (status : Status) → ImageCause lines name old new out out' status → NamesRefusal status name new
image_named lines name old new out out' ReadFault (why, rest) = last_name old new _ name why
image_named lines name old new out out' TooLong ((n, above, why, long), rest) = last_name old new _ name why
image_named lines name old new out out' Done h = tt
image_named lines name old new out out' Usage h = tt
image_named lines name old new out out' (SourceRefused number place) h = tt
image_named lines name old new out out' (ImageRefused number place location other) h = tt
image_named lines name old new out out' WriteFault h = tt
image_named lines name old new out out' NoMemory h = tt
image_named lines name old new out out' Aborted h = tt
image_named lines name old new out out' Budget h = tt
image_named lines name old new out out' Stack h = tt
image_named lines name old new out out' (MachineFault kind place) h = tt
image_named lines name old new out out' (ScheduleRefused number place) h = tt
image_named lines name old new out out' Undefined h = tt
image_named lines name old new out out' Differs h = tt

-- a source that was read, and its input, name none
pub source_named : (a : Asked) (source input name : List ℕ) (store : StoreView) (old new : SinkView) (status : Status) → SourceMeans a source input old new status → NamesRefusal status name store
source_named a source input name store old new ReadFault (m, means, h) = absurd (no_fault m.end h.0)
source_named a source input name store old new TooLong (m, means, h) = absurd (no_length m.end h.0)
source_named a source input name store old new Done h = tt
source_named a source input name store old new Usage h = tt
source_named a source input name store old new (SourceRefused number place) h = tt
source_named a source input name store old new (ImageRefused number place location other) h = tt
source_named a source input name store old new WriteFault h = tt
source_named a source input name store old new NoMemory h = tt
source_named a source input name store old new Aborted h = tt
source_named a source input name store old new Budget h = tt
source_named a source input name store old new Stack h = tt
source_named a source input name store old new (MachineFault kind place) h = tt
source_named a source input name store old new (ScheduleRefused number place) h = tt
source_named a source input name store old new Undefined h = tt
source_named a source input name store old new Differs h = tt

-- nor do an image that was read, and its input
pub image_runs_named : (a : Asked) (file input name : List ℕ) (store : StoreView) (old new : SinkView) (status : Status) → ImageRuns a file input old new status → NamesRefusal status name store
image_runs_named a file input name store old new ReadFault (r, this, h) = absurd (no_run_fault r.end h.0)
image_runs_named a file input name store old new TooLong (r, this, h) = absurd (no_run_length r.end h.0)
image_runs_named a file input name store old new Done h = tt
image_runs_named a file input name store old new Usage h = tt
image_runs_named a file input name store old new (SourceRefused number place) h = tt
image_runs_named a file input name store old new (ImageRefused number place location other) h = tt
image_runs_named a file input name store old new WriteFault h = tt
image_runs_named a file input name store old new NoMemory h = tt
image_runs_named a file input name store old new Aborted h = tt
image_runs_named a file input name store old new Budget h = tt
image_runs_named a file input name store old new Stack h = tt
image_runs_named a file input name store old new (MachineFault kind place) h = tt
image_runs_named a file input name store old new (ScheduleRefused number place) h = tt
image_runs_named a file input name store old new Undefined h = tt
image_runs_named a file input name store old new Differs h = tt
