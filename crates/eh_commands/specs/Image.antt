-- When `check FILE`, `dump FILE` and `doubts FILE` give each status, and what they write.
use Rattle.std.specs.Prelude.{◌≡◌, ◌≤◌, ◌⊎◌, ℕ, ◌^◌, List, [], ◌∷◌, ◌++◌, length, codes, Some, Result, Ok, Err, IsErrAnd}
use Rattle.std.specs.FinMap.{get}
use Rattle.std.specs.Fmt.{decimal}
use Rattle.eh_outer.specs.Store.{Files, StoreView, Rose}
use Rattle.eh_outer.specs.Sink.{SinkView, Gains}
use Rattle.table_forms.specs.Fault.{Fault}
use Rattle.table_forms.specs.Numbered.{number_of}
use Rattle.elf_image.specs.declared.error.ImageError.{ImageError}
use Rattle.elf_image.specs.declared.error.ImageError.TheVariants as errors
use Rattle.elf_image.specs.Reports.{reported}
use Rattle.elf_image.specs.Clean.{CleanImage, clean}
use Rattle.table_check.specs.Counts.{counts}
use Rattle.table_check.specs.declared.summary.Summary.{Summary}
use Rattle.table_dump.specs.Dump.{dump}
use Rattle.image_doubts.specs.Doubts.{doubts}
use Rattle.plain_text.specs.Lines.{lines_of}
use Rattle.eh_commands.specs.declared.status.Status.{Status}
use Rattle.eh_commands.specs.declared.status.Status.TheVariants.{Done, ImageRefused, ReadFault, TooLong, WriteFault, NoMemory}
use Rattle.eh_commands.specs.File.{Told, Unread}
use Rattle.run_items.specs.Output.{TakesAll, FailsAmong, bytes_of}

-- the largest image file: 64 MiB
abbrev pub image_limit : ℕ
image_limit = 2 ^ 26

-- a text with a count behind it, and what is counted
abbrev pub counted : List ℕ → ℕ → List ℕ → List ℕ
counted text number what = (text ++ decimal number) ++ what

-- how much a clean image has
abbrev pub summary_line : Summary → List ℕ
summary_line s =
    counted (counted (counted (counted (codes "clean: ") s.cies (codes " cies, ")) s.frames (codes " frames, ")) s.tables (codes " tables, ")) s.sites (codes " sites\n")

-- what `check` prints of a clean image
abbrev pub check_lines : CleanImage → List (List ℕ)
check_lines image = summary_line (counts image) ∷ []

-- what `dump` prints of a clean image
abbrev pub dump_lines : CleanImage → List (List ℕ)
dump_lines image = lines_of (dump image)

-- what `doubts` prints of a clean image
abbrev pub doubt_lines : CleanImage → List (List ℕ)
doubt_lines image = lines_of (doubts image)

-- the status of a refusal
abbrev pub status_of : ImageError → Status
status_of (errors.Refused reason place location other) = ImageRefused (number_of reason) place location other
status_of errors.NoMemory = NoMemory

-- when a command that prints such lines of a clean image gives each status for the bytes of a file, and what it leaves of the sink
abbrev pub ImageEnds : (CleanImage → List (List ℕ)) → List ℕ → SinkView → SinkView → Status → Type 0
ImageEnds lines file old new Done = (image : CleanImage) × (clean file ≡ Ok image) × TakesAll (lines image) old new
ImageEnds lines file old new (ImageRefused number place location other) =
    IsErrAnd (clean file) (λ fault. ImageRefused number place location other ≡ status_of (reported fault)) × (new ≡ old)
ImageEnds lines file old new WriteFault = (image : CleanImage) × (clean file ≡ Ok image) × FailsAmong (lines image) old new
ImageEnds lines file old new NoMemory = new ≡ old
ImageEnds lines file old new status = ⊥

-- when it gives each status for a name, what it leaves of the store's refusals, and of `out`
abbrev pub ImageCause : (CleanImage → List (List ℕ)) → List ℕ → StoreView → StoreView → SinkView → SinkView → Status → Type 0
ImageCause lines name old new out out' Done =
    (image : CleanImage) × Told image_limit old name (λ file. clean file ≡ Ok image) × TakesAll (lines image) out out'
ImageCause lines name old new out out' (ImageRefused number place location other) =
    Told image_limit old name (λ file. IsErrAnd (clean file) (λ fault. ImageRefused number place location other ≡ status_of (reported fault))) × (out' ≡ out)
ImageCause lines name old new out out' ReadFault = Unread image_limit name old new ReadFault × (out' ≡ out)
ImageCause lines name old new out out' TooLong = Unread image_limit name old new TooLong × (out' ≡ out)
ImageCause lines name old new out out' WriteFault =
    (image : CleanImage) × Told image_limit old name (λ file. clean file ≡ Ok image) × FailsAmong (lines image) out out'
ImageCause lines name old new out out' NoMemory = out' ≡ out
ImageCause lines name old new out out' status = ⊥

-- a clean image's lines went out and the status is Done, or the status is the refusal and nothing was written
abbrev pub Judged : (CleanImage → List (List ℕ)) → Result CleanImage Fault → SinkView → SinkView → Status → Type 0
Judged lines (Ok image) out out' status = (status ≡ Done) × Gains (bytes_of (lines image)) out out'
Judged lines (Err fault) out out' status = (status ≡ status_of (reported fault)) × (out' ≡ out)

-- where the store tells a file of that name within the limit, and neither the store nor the sink fails, it is judged, or memory ran out
abbrev pub ImagePromise : (CleanImage → List (List ℕ)) → List ℕ → StoreView → StoreView → SinkView → SinkView → Status → Type 0
ImagePromise lines name old new out out' status =
    (files : Files) (file : List ℕ) → old.files ≡ Some files → get files name ≡ Some file → length file ≤ image_limit
    → (Rose old.faults new.faults → ⊥) → (Rose out.faults out'.faults → ⊥) → (status ≡ NoMemory) ⊎ Judged lines (clean file) out out' status
