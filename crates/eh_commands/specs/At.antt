-- When `at IMAGE PC..` gives each status, and what it writes.
use Rattle.std.specs.Prelude.{◌≡◌, ◌≤◌, ◌⊎◌, ℕ, List, length, Option, Some, None, Result, Ok, Err}
use Rattle.std.specs.FinMap.{get}
use Rattle.eh_outer.specs.Store.{Files, StoreView, Rose}
use Rattle.eh_outer.specs.Sink.{SinkView, Gains}
use Rattle.table_forms.specs.Fault.{Fault}
use Rattle.table_forms.specs.Verdict.{Thrown}
use Rattle.elf_image.specs.Clean.{CleanImage, clean}
use Rattle.elf_image.specs.Reports.{reported}
use Rattle.place_verdicts.specs.declared.asked.Asked as found
use Rattle.place_verdicts.specs.declared.asked.Asked.TheVariants as places
use Rattle.place_verdicts.specs.declared.error.PlaceError.{PlaceError}
use Rattle.place_verdicts.specs.declared.error.PlaceError.TheVariants as errors
use Rattle.place_verdicts.specs.Types.{thrown_asked}
use Rattle.place_verdicts.specs.Places.{at_places}
use Rattle.plain_text.specs.Lines.{lines_of}
use Rattle.command_line.specs.declared.command.Raised.{Raised}
use Rattle.command_line.specs.declared.command.Raised.TheVariants.{Untyped, Typed, Foreign, Forced}
use Rattle.run_items.specs.Output.{TakesAll, FailsAmong, bytes_of}
use Rattle.eh_commands.specs.declared.status.Status.{Status}
use Rattle.eh_commands.specs.declared.status.Status.TheVariants.{Done, ImageRefused, ReadFault, TooLong, WriteFault, NoMemory}
use Rattle.eh_commands.specs.File.{Asked, Told, Unread}
use Rattle.eh_commands.specs.Image.{image_limit, status_of}

-- what comes by, as it is asked for
abbrev pub comes_by : Raised → found.Asked
comes_by Untyped = places.Untyped
comes_by (Typed a) = places.Typed a
comes_by Foreign = places.Foreign
comes_by Forced = places.Forced

-- the status where no record of a type, or of one of its bases, stands in memory
abbrev pub no_type : Raised → Status
no_type (Typed a) = ImageRefused 89 a 0 0
no_type raised = ImageRefused 89 0 0 0

-- the status of a refusal
abbrev pub status_at : PlaceError → Status
status_at (errors.Image error) = status_of error
status_at (errors.NoType a) = no_type (Typed a)

-- the lines of the places of a clean image, where what comes by is in it
abbrev pub lines_with : CleanImage → List ℕ → Raised → Option Thrown → Result (List (List ℕ)) Status
lines_with image pcs raised None = Err (no_type raised)
lines_with image pcs raised (Some thrown) = Ok (lines_of (at_places image thrown pcs))

-- the lines of the places of an image, or the status of its refusal
abbrev pub lines_in : Asked → Result CleanImage Fault → Result (List (List ℕ)) Status
lines_in a (Err fault) = Err (status_of (reported fault))
lines_in a (Ok image) = lines_with image a.places a.raised (thrown_asked image.image.memory (comes_by a.raised))

-- so of a file
abbrev pub place_lines : Asked → List ℕ → Result (List (List ℕ)) Status
place_lines a file = lines_in a (clean file)

-- when it gives each status for the bytes of a file, and what it leaves of the sink
abbrev pub AtEnds : Asked → List ℕ → SinkView → SinkView → Status → Type 0
AtEnds a file old new Done = (lines : List (List ℕ)) × (place_lines a file ≡ Ok lines) × TakesAll lines old new
AtEnds a file old new (ImageRefused number place location other) = (place_lines a file ≡ Err (ImageRefused number place location other)) × (new ≡ old)
AtEnds a file old new WriteFault = (lines : List (List ℕ)) × (place_lines a file ≡ Ok lines) × FailsAmong lines old new
AtEnds a file old new NoMemory = new ≡ old
AtEnds a file old new status = ⊥

-- when it gives each status for a name, what it leaves of the store's refusals, and of `out`
abbrev pub AtCause : Asked → StoreView → StoreView → SinkView → SinkView → Status → Type 0
AtCause a old new out out' Done = (lines : List (List ℕ)) × Told image_limit old a.source (λ file. place_lines a file ≡ Ok lines) × TakesAll lines out out'
AtCause a old new out out' (ImageRefused number place location other) =
    Told image_limit old a.source (λ file. place_lines a file ≡ Err (ImageRefused number place location other)) × (out' ≡ out)
AtCause a old new out out' ReadFault = Unread image_limit a.source old new ReadFault × (out' ≡ out)
AtCause a old new out out' TooLong = Unread image_limit a.source old new TooLong × (out' ≡ out)
AtCause a old new out out' WriteFault = (lines : List (List ℕ)) × Told image_limit old a.source (λ file. place_lines a file ≡ Ok lines) × FailsAmong lines out out'
AtCause a old new out out' NoMemory = out' ≡ out
AtCause a old new out out' status = ⊥

-- the lines went out and the status is Done, or the status is the refusal and nothing was written
abbrev pub Placed : Result (List (List ℕ)) Status → SinkView → SinkView → Status → Type 0
Placed (Ok lines) out out' status = (status ≡ Done) × Gains (bytes_of lines) out out'
Placed (Err refusal) out out' status = (status ≡ refusal) × (out' ≡ out)

-- where the store tells a file of that name within the limit, and neither the store nor the sink fails, its places are printed, or memory ran out
abbrev pub AtPromise : Asked → StoreView → StoreView → SinkView → SinkView → Status → Type 0
AtPromise a old new out out' status =
    (files : Files) (file : List ℕ) → old.files ≡ Some files → get files a.source ≡ Some file → length file ≤ image_limit
    → (Rose old.faults new.faults → ⊥) → (Rose out.faults out'.faults → ⊥) → (status ≡ NoMemory) ⊎ Placed (place_lines a file) out out' status
