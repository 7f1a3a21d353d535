-- From what the parts of `at` say to the cause of a status.
use Rattle.std.proofs.Common.{◌≡◌, ◌∙◌, ◌≤◌, ℕ, List, length, Some, None, IfSome, Ok, Err, refl, sym, ap}
use Rattle.std.specs.Prelude.{Vec, Result}
use Rattle.std.specs.FinMap.{get}
use Rattle.std.specs.Global.{Global}
use Rattle.eh_outer.specs.Store.{StoreView}
use Rattle.eh_outer.specs.Sink.{SinkView}
use Rattle.table_forms.specs.Fault.{Fault}
use Rattle.elf_image.specs.declared.error.ImageError.TheVariants as images
use Rattle.elf_image.specs.Clean.{CleanImage, clean}
use Rattle.table_check.specs.Checks.{IsReported}
use Rattle.place_verdicts.specs.declared.asked.Asked.TheVariants as places
use Rattle.place_verdicts.specs.declared.error.PlaceError.{PlaceError}
use Rattle.place_verdicts.specs.declared.error.PlaceError.TheVariants as errors
use Rattle.place_verdicts.specs.Types.{thrown_asked, type_chain}
use Rattle.place_verdicts.specs.Image.{PlacesImage}
use Rattle.plain_text.specs.Lines.{lines_of}
use Rattle.command_line.specs.declared.command.Raised.{Raised}
use Rattle.command_line.specs.declared.command.Raised.TheVariants.{Untyped, Typed, Foreign, Forced}
use Rattle.eh_commands.specs.declared.status.Status.{Status}
use Rattle.eh_commands.specs.declared.status.Status.TheVariants.{Done, Usage, SourceRefused, ImageRefused, ScheduleRefused, ReadFault, TooLong, WriteFault, NoMemory, Aborted, Budget, Stack, MachineFault, Undefined, Differs}
use Rattle.eh_commands.specs.At.{AtCause, AtEnds, comes_by, lines_in, lines_with, place_lines, status_at}
use Rattle.eh_commands.specs.File.{Asked, NamesRefusal, Unread}
use Rattle.eh_commands.specs.Image.{image_limit, status_of}
use Rattle.eh_commands.proofs.Named.{unread_named}

-- ---- what was read
pub places_printed : (a : Asked) (file : List ℕ) (text : Vec ℕ Global) → PlacesImage (Ok text) (clean file) (comes_by a.raised) a.places → place_lines a file ≡ Ok (lines_of text.items)
places_printed a file text (image, is, thrown, asked, same) =
    ap (lines_in a) is ∙ ap (lines_with image a.places a.raised) asked ∙ ap (λ t. Ok (lines_of t)) (sym same)

-- a type without a record
no_record : (image : CleanImage) (pcs : List ℕ) (raised : Raised) (address : ℕ) → comes_by raised ≡ places.Typed address → type_chain image.image.memory address ≡ None →
    lines_with image pcs raised (thrown_asked image.image.memory (comes_by raised)) ≡ Err (ImageRefused 89 address 0 0)
no_record image pcs Untyped address is none = absurd (cc is)
no_record image pcs Foreign address is none = absurd (cc is)
no_record image pcs Forced address is none = absurd (cc is)
no_record image pcs (Typed a) address is none =
    let same : a ≡ address = cc is in
    rw (same, none) refl

pub places_refused : (a : Asked) (file : List ℕ) (error : PlaceError) (out : SinkView) → PlacesImage (Err error) (clean file) (comes_by a.raised) a.places → AtEnds a file out out (status_at error)
places_refused a file (errors.NoType address) out (image, is, asked, none) = (ap (lines_in a) is ∙ no_record image a.places a.raised address asked none, refl)
places_refused a file (errors.Image images.NoMemory) out h = refl
places_refused a file (errors.Image (images.Refused reason place location other)) out h = (by (clean file) h, refl)
  where
    by : (read : Result CleanImage Fault) → IsReported (images.Refused reason place location other) read → lines_in a read ≡ Err (status_of (images.Refused reason place location other))
    by (Ok image) h = absurd h
    by (Err fault) h = ap (λ e. Err (status_of e)) (sym h)

-- ---- what was read, and what became of it
pub at_caused : (a : Asked) (file : List ℕ) (old new : StoreView) (out out' : SinkView) (status : Status) → length file ≤ image_limit → IfSome old.files (λ m. get m a.source ≡ Some file) →
    AtEnds a file out out' status → AtCause a old new out out' status
at_caused a file old new out out' Done short there (lines, is, puts) = (lines, (file, (short, there), is), puts)
at_caused a file old new out out' Usage short there h = absurd h
at_caused a file old new out out' (SourceRefused number place) short there h = absurd h
at_caused a file old new out out' (ImageRefused number place location other) short there (is, same) = ((file, (short, there), is), same)
at_caused a file old new out out' (ScheduleRefused number place) short there h = absurd h
at_caused a file old new out out' ReadFault short there h = absurd h
at_caused a file old new out out' TooLong short there h = absurd h
at_caused a file old new out out' WriteFault short there (lines, is, puts) = (lines, (file, (short, there), is), puts)
at_caused a file old new out out' NoMemory short there h = h
at_caused a file old new out out' Aborted short there h = absurd h
at_caused a file old new out out' Budget short there h = absurd h
at_caused a file old new out out' Stack short there h = absurd h
at_caused a file old new out out' (MachineFault kind place) short there h = absurd h
at_caused a file old new out out' Undefined short there h = absurd h
at_caused a file old new out out' Differs short there h = absurd h

pub unread_at : (a : Asked) (old new : StoreView) (out out' : SinkView) (status : Status) → Unread image_limit a.source old new status → out' ≡ out → AtCause a old new out out' status
unread_at a old new out out' Done why same = absurd why
unread_at a old new out out' Usage why same = absurd why
unread_at a old new out out' (SourceRefused number place) why same = absurd why
unread_at a old new out out' (ImageRefused number place location other) why same = absurd why
unread_at a old new out out' (ScheduleRefused number place) why same = absurd why
unread_at a old new out out' ReadFault why same = (why, same)
unread_at a old new out out' TooLong why same = (why, same)
unread_at a old new out out' WriteFault why same = absurd why
unread_at a old new out out' NoMemory why same = same
unread_at a old new out out' Aborted why same = absurd why
unread_at a old new out out' Budget why same = absurd why
unread_at a old new out out' Stack why same = absurd why
unread_at a old new out out' (MachineFault kind place) why same = absurd why
unread_at a old new out out' Undefined why same = absurd why
unread_at a old new out out' Differs why same = absurd why

pub at_named : (a : Asked) (old new : StoreView) (out out' : SinkView) (status : Status) → AtCause a old new out out' status → NamesRefusal status a.source new
at_named a old new out out' Done h = tt
at_named a old new out out' Usage h = tt
at_named a old new out out' (SourceRefused number place) h = tt
at_named a old new out out' (ImageRefused number place location other) h = tt
at_named a old new out out' (ScheduleRefused number place) h = tt
at_named a old new out out' ReadFault (why, same) = unread_named image_limit a.source old new ReadFault why
at_named a old new out out' TooLong (why, same) = unread_named image_limit a.source old new TooLong why
at_named a old new out out' WriteFault h = tt
at_named a old new out out' NoMemory h = tt
at_named a old new out out' Aborted h = tt
at_named a old new out out' Budget h = tt
at_named a old new out out' Stack h = tt
at_named a old new out out' (MachineFault kind place) h = tt
at_named a old new out out' Undefined h = tt
at_named a old new out out' Differs h = tt
