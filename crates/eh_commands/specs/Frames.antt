-- When `frames FILE` gives each status, and what it writes.
use Rattle.std.specs.Prelude.{◌≡◌, ◌≤◌, ◌⊎◌, ℕ, List, [], ◌∷◌, ◌++◌, length, codes, Some, Result, Ok, Err, IsErrAnd}
use Rattle.std.specs.FinMap.{get}
use Rattle.std.specs.Fmt.{decimal}
use Rattle.eh_outer.specs.Store.{Files, StoreView, Rose}
use Rattle.eh_outer.specs.Sink.{SinkView, Gains}
use Rattle.table_forms.specs.Fault.{Fault}
use Rattle.table_forms.specs.declared.found.Row.{Row}
use Rattle.elf_image.specs.Reports.{reported}
use Rattle.table_dump.specs.Texts.{hex, register, signed}
use Rattle.table_dump.specs.Rows.{rules_text}
use Rattle.debug_frames.specs.Agreement.{Agreement, same, differ}
use Rattle.debug_frames.specs.Compared.{Forms, forms_in}
use Rattle.debug_frames.specs.Compares.{Compares}
use Rattle.run_items.specs.Output.{TakesAll, FailsAmong, bytes_of}
use Rattle.eh_commands.specs.declared.status.Status.{Status}
use Rattle.eh_commands.specs.declared.status.Status.TheVariants.{Done, Differs, ImageRefused, ReadFault, TooLong, WriteFault, NoMemory}
use Rattle.eh_commands.specs.File.{Told, Unread}
use Rattle.eh_commands.specs.Image.{image_limit, status_of}

-- a row: the CFA, and the rules of registers that have one
abbrev pub row_text : Row → List ℕ
row_text row = codes "cfa " ++ register row.cfa_register ++ signed row.cfa_offset ++ rules_text 0 row.rules

-- what is printed of an agreement
abbrev pub agreement_lines : Agreement → List (List ℕ)
agreement_lines (same both first second) =
    (codes "agree: " ++ decimal both ++ codes " locations, " ++ decimal first ++ codes " only in eh, " ++ decimal second ++ codes " only in debug\n") ∷ []
agreement_lines (differ pc row other) =
    (codes "differ at " ++ hex pc ++ codes "\n") ∷ (codes "eh: " ++ row_text row ++ codes "\n") ∷ (codes "debug: " ++ row_text other ++ codes "\n") ∷ []

-- the status of an agreement
abbrev pub agreement_status : Agreement → Status
agreement_status (same both first second) = Done
agreement_status (differ pc row other) = Differs

-- this is the status of the file's first refusal
abbrev pub RefusesForms : Status → List ℕ → Type 0
RefusesForms status file = IsErrAnd (forms_in file) (λ fault. status ≡ status_of (reported fault))

-- the lines of an agreement go out, and the status is its own
abbrev pub AgreementEnds : Agreement → SinkView → SinkView → Status → Type 0
AgreementEnds a old new WriteFault = FailsAmong (agreement_lines a) old new
AgreementEnds a old new NoMemory = new ≡ old
AgreementEnds a old new status = (status ≡ agreement_status a) × TakesAll (agreement_lines a) old new

-- when it gives each status for the bytes of a file, and what it leaves of the sink
abbrev pub FramesEnds : List ℕ → SinkView → SinkView → Status → Type 0
FramesEnds file old new (ImageRefused number place location other) = RefusesForms (ImageRefused number place location other) file × (new ≡ old)
FramesEnds file old new NoMemory = new ≡ old
FramesEnds file old new status = (a : Agreement) × Compares file a × AgreementEnds a old new status

-- when it gives each status for a name, what it leaves of the store's refusals, and of `out`
abbrev pub FramesCause : List ℕ → StoreView → StoreView → SinkView → SinkView → Status → Type 0
FramesCause name old new out out' ReadFault = Unread image_limit name old new ReadFault × (out' ≡ out)
FramesCause name old new out out' TooLong = Unread image_limit name old new TooLong × (out' ≡ out)
FramesCause name old new out out' (ImageRefused number place location other) =
    Told image_limit old name (RefusesForms (ImageRefused number place location other)) × (out' ≡ out)
FramesCause name old new out out' NoMemory = out' ≡ out
FramesCause name old new out out' status = (a : Agreement) × Told image_limit old name (λ file. Compares file a) × AgreementEnds a out out' status

-- what both forms say went out and the status is its own, or the status is the refusal and nothing was written
abbrev pub FormsJudged : List ℕ → Result Forms Fault → SinkView → SinkView → Status → Type 0
FormsJudged file (Ok forms) out out' status = (a : Agreement) × Compares file a × (status ≡ agreement_status a) × Gains (bytes_of (agreement_lines a)) out out'
FormsJudged file (Err fault) out out' status = (status ≡ status_of (reported fault)) × (out' ≡ out)

-- where the store tells a file of that name within the limit, and neither the store nor the sink fails, both forms are judged, or memory ran out
abbrev pub FramesPromise : List ℕ → StoreView → StoreView → SinkView → SinkView → Status → Type 0
FramesPromise name old new out out' status =
    (files : Files) (file : List ℕ) → old.files ≡ Some files → get files name ≡ Some file → length file ≤ image_limit
    → (Rose old.faults new.faults → ⊥) → (Rose out.faults out'.faults → ⊥) → (status ≡ NoMemory) ⊎ FormsJudged file (forms_in file) out out' status
