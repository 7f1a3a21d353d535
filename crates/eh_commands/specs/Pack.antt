-- When `pack IMAGE OUT` gives each status, what it stores, and what it writes.
use Rattle.std.specs.Prelude.{◌≡◌, ◌≤◌, ◌⊎◌, ℕ, List, length, Some, Result, Ok, Err, IsErrAnd}
use Rattle.std.specs.FinMap.{get}
use Rattle.eh_outer.specs.Store.{Files, StoreView, Rose, Refuses, Stores}
use Rattle.eh_outer.specs.declared.store.RefusalKind.TheVariants.{FailedWrite}
use Rattle.eh_outer.specs.Sink.{SinkView, Gains, Takes, Fails}
use Rattle.table_forms.specs.Fault.{Fault}
use Rattle.elf_image.specs.Reports.{reported}
use Rattle.lsda_pack.specs.PackedImage.{Packing, packing}
use Rattle.lsda_pack.specs.Line.{packing_line}
use Rattle.eh_commands.specs.declared.status.Status.{Status}
use Rattle.eh_commands.specs.declared.status.Status.TheVariants.{Done, ImageRefused, ReadFault, TooLong, WriteFault, NoMemory}
use Rattle.eh_commands.specs.File.{Asked, Told, Unread}
use Rattle.eh_commands.specs.Image.{image_limit, status_of}

-- the file is an image that packing makes this of
abbrev pub PacksTo : Packing → List ℕ → Type 0
PacksTo p file = packing file ≡ Ok p

-- this is the status of the file's first refusal
abbrev pub RefusesPacking : Status → List ℕ → Type 0
RefusesPacking status file = IsErrAnd (packing file) (λ fault. status ≡ status_of (reported fault))

-- nothing is stored, and nothing is written
abbrev pub Untouched : StoreView → StoreView → SinkView → SinkView → Type 0
Untouched old new out out' = (new.files ≡ old.files) × (out' ≡ out)

-- How the storing of a packed image under a name ends, behind which its line is put: where the line fails, the image stays stored.
abbrev pub PackedEnds : Packing → List ℕ → StoreView → StoreView → SinkView → SinkView → Status → Type 0
PackedEnds p name old new out out' Done = Stores name p.bytes old new × Takes (packing_line p) out out'
PackedEnds p name old new out out' WriteFault =
    (Refuses old new FailedWrite name × Untouched old new out out') ⊎ (Stores name p.bytes old new × Fails (packing_line p) out out')
PackedEnds p name old new out out' NoMemory = Untouched old new out out'
PackedEnds p name old new out out' status = ⊥

-- what becomes of the bytes of a file that was read
abbrev pub PackEnds : List ℕ → List ℕ → StoreView → StoreView → SinkView → SinkView → Status → Type 0
PackEnds file name old new out out' Done = (p : Packing) × PacksTo p file × PackedEnds p name old new out out' Done
PackEnds file name old new out out' (ImageRefused number place location other) =
    RefusesPacking (ImageRefused number place location other) file × Untouched old new out out'
PackEnds file name old new out out' WriteFault = (p : Packing) × PacksTo p file × PackedEnds p name old new out out' WriteFault
PackEnds file name old new out out' NoMemory = Untouched old new out out'
PackEnds file name old new out out' status = ⊥

-- when it gives each status for its names, what it leaves of the store's refusals and files, and of `out`
abbrev pub PackCause : Asked → StoreView → StoreView → SinkView → SinkView → Status → Type 0
PackCause a old new out out' Done = (p : Packing) × Told image_limit old a.source (PacksTo p) × PackedEnds p a.image old new out out' Done
PackCause a old new out out' (ImageRefused number place location other) =
    Told image_limit old a.source (RefusesPacking (ImageRefused number place location other)) × Untouched old new out out'
PackCause a old new out out' ReadFault = Unread image_limit a.source old new ReadFault × Untouched old new out out'
PackCause a old new out out' TooLong = Unread image_limit a.source old new TooLong × Untouched old new out out'
PackCause a old new out out' WriteFault = (p : Packing) × Told image_limit old a.source (PacksTo p) × PackedEnds p a.image old new out out' WriteFault
PackCause a old new out out' NoMemory = Untouched old new out out'
PackCause a old new out out' status = ⊥

-- the packed image stands under the name, its line went out, and the status is Done; or the status is the refusal, and nothing was stored or written
abbrev pub PackJudged : List ℕ → Result Packing Fault → StoreView → StoreView → SinkView → SinkView → Status → Type 0
PackJudged name (Ok p) old new out out' status = (status ≡ Done) × Stores name p.bytes old new × Gains (packing_line p) out out'
PackJudged name (Err fault) old new out out' status = (status ≡ status_of (reported fault)) × Untouched old new out out'

-- where the store tells a file of that name within the limit, and neither the store nor the sink fails, it is packed, or refused; or memory ran out
abbrev pub PackGives : Asked → StoreView → StoreView → SinkView → SinkView → Status → Type 0
PackGives a old new out out' status =
    (files : Files) (file : List ℕ) → old.files ≡ Some files → get files a.source ≡ Some file → length file ≤ image_limit
    → (Rose old.faults new.faults → ⊥) → (Rose out.faults out'.faults → ⊥) → (status ≡ NoMemory) ⊎ PackJudged a.image (packing file) old new out out' status
