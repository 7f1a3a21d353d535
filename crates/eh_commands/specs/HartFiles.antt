-- The files of several harts.
use Rattle.std.specs.Prelude.{Vec, ◌≡◌, ⊤, ℕ, ◌^◌, ◌⊎◌, Bool, List, [], ◌∷◌, ◌++◌, map, Result, Ok, Err}
use Rattle.std.specs.Global.{Global}
use Rattle.eh_outer.specs.Store.{StoreView}
use Rattle.eh_commands.specs.declared.file.Ended.{Ended}
use Rattle.eh_commands.specs.declared.hart_files.HartFiles.{HartFiles}
use Rattle.eh_commands.specs.declared.status.Status.{Status}
use Rattle.eh_commands.specs.File.{Asked, IsFile, Told, Unread, input_limit}
use Rattle.eh_commands.specs.Image.{image_limit}

-- the longest schedule: 1 MiB
abbrev pub schedule_limit : ℕ
schedule_limit = 2 ^ 20

-- what is asked of several harts: the names of their image, of their schedule and of an input for each, and whether events are printed
pub record HartsAsked : Type 0 where
  pub image : List ℕ
  pub schedule : List ℕ
  pub inputs : List (List ℕ)
  pub trace : Bool

abbrev pub harts_asked : Asked → HartsAsked
harts_asked a = record { image = a.source; schedule = a.image; inputs = a.inputs; trace = a.trace }

-- ---- by a list of files
-- a file by its limit and its name
abbrev pub Named : Type 0
Named = ℕ × List ℕ

abbrev pub input_files : List (List ℕ) → List Named
input_files names = map (λ name. (input_limit, name)) names

-- in the order in which they are read
abbrev pub files_of : HartsAsked → List Named
files_of a = (image_limit, a.image) ∷ ((schedule_limit, a.schedule) ∷ input_files a.inputs)

-- one of the files is not read, and those before it are told
abbrev pub UnreadAmong : List Named → StoreView → StoreView → Status → Type 0
UnreadAmong [] old new status = ⊥
UnreadAmong ((limit, name) ∷ files) old new status = Unread limit name old new status ⊎ (Told limit old name (λ file. ⊤) × UnreadAmong files old new status)

-- these bytes are within their limits, and where the store tells its files, they are those
abbrev pub AreFiles : List Named → StoreView → List (List ℕ) → Type 0
AreFiles [] store [] = ⊤
AreFiles ((limit, name) ∷ files) store (bytes ∷ more) = IsFile limit store name bytes × AreFiles files store more
AreFiles _ store _ = ⊥

-- ---- what is told
-- this holds of the told inputs, in order
abbrev pub ToldAll : StoreView → List (List ℕ) → (List (List ℕ) → Type 0) → Type 0
ToldAll store [] P = P []
ToldAll store (name ∷ names) P = Told input_limit store name (λ input. ToldAll store names (λ inputs. P (input ∷ inputs)))

-- and of the told image, schedule and inputs
abbrev pub ToldHarts : HartsAsked → StoreView → (List ℕ → List ℕ → List (List ℕ) → Type 0) → Type 0
ToldHarts a store P = Told image_limit store a.image (λ image. Told schedule_limit store a.schedule (λ text. ToldAll store a.inputs (P image text)))

-- ---- what reading answers
-- the bytes of files that are kept
abbrev pub kept_bytes : List (Vec ℕ Global) → List (List ℕ)
kept_bytes files = map (λ (file : Vec ℕ Global). file.items) files

-- one input more, or why it is not read
abbrev pub ReadsOne : List ℕ → StoreView → StoreView → List (Vec ℕ Global) → List (Vec ℕ Global) → Result Unit Ended → Type 0
ReadsOne name old new before after (Ok done) = (input : List ℕ) × IsFile input_limit old name input × (kept_bytes after ≡ kept_bytes before ++ input ∷ [])
ReadsOne name old new before after (Err ended) = Unread input_limit name old new ended.status

-- the inputs, or why one of them is not read
abbrev pub ReadsInputs : List (List ℕ) → StoreView → StoreView → Result (Vec (Vec ℕ Global) Global) Ended → Type 0
ReadsInputs names old new (Ok inputs) = AreFiles (input_files names) old (kept_bytes inputs.items)
ReadsInputs names old new (Err ended) = UnreadAmong (input_files names) old new ended.status

-- the schedule and the inputs
abbrev pub ReadsBehind : HartsAsked → StoreView → StoreView → Result (Vec ℕ Global × Vec (Vec ℕ Global) Global) Ended → Type 0
ReadsBehind a old new (Ok both) = AreFiles ((schedule_limit, a.schedule) ∷ input_files a.inputs) old (both.0.items ∷ kept_bytes both.1.items)
ReadsBehind a old new (Err ended) = UnreadAmong ((schedule_limit, a.schedule) ∷ input_files a.inputs) old new ended.status

-- all files
abbrev pub ReadsHarts : HartsAsked → StoreView → StoreView → Result HartFiles Ended → Type 0
ReadsHarts a old new (Ok files) = AreFiles (files_of a) old (files.image.items ∷ (files.schedule.items ∷ kept_bytes files.inputs.items))
ReadsHarts a old new (Err ended) = UnreadAmong (files_of a) old new ended.status
