-- Reading the files of a command.
use Rattle.std.specs.Prelude.{Vec, ◌≡◌, ◌⊎◌, ◌<◌, ◌≤◌, ⊤, ℕ, ◌^◌, Bool, List, [], length, Option, Some, None, IfSome, IsSomeAnd, Result, Ok, Err}
use Rattle.std.specs.FinMap.{get}
use Rattle.std.specs.Global.{Global}
use Rattle.cxx_ast.specs.declared.standard.Std.{Std}
use Rattle.command_line.specs.declared.command.Raised.{Raised}
use Rattle.eh_outer.specs.Module.{ModuleView}
use Rattle.eh_outer.specs.Store.{StoreView, Refuses}
use Rattle.eh_outer.specs.declared.store.RefusalKind.TheVariants.{FailedRead, LongRead}
use Rattle.eh_commands.specs.declared.file.Ended.{Ended}
use Rattle.eh_commands.specs.declared.status.Status.{Status}
use Rattle.eh_commands.specs.declared.status.Status.TheVariants.{ReadFault, TooLong, NoMemory}

-- the longest source: 1 MiB
abbrev pub source_limit : ℕ
source_limit = 2 ^ 20

-- the longest input: 1 MiB
abbrev pub input_limit : ℕ
input_limit = 2 ^ 20

-- what a command asks of a file: its name, that of the image to be stored or of the schedule, places of it and what comes by there, that of its input if it has one, those of
-- all inputs, the most turns or steps, the standard, whether events are printed, whether steps are counted, and the modules
pub record Asked : Type 0 where
  pub source : List ℕ
  pub image : List ℕ
  pub places : List ℕ
  pub raised : Raised
  pub input : Option (List ℕ)
  pub inputs : List (List ℕ)
  pub turns : ℕ
  pub std : Std
  pub trace : Bool
  pub count : Bool
  pub modules : List ModuleView

-- these bytes are within the limit, and where the store tells its files, they are the file of that name
abbrev pub IsFile : ℕ → StoreView → List ℕ → List ℕ → Type 0
IsFile limit store name bytes = (length bytes ≤ limit) × IfSome store.files (λ files. get files name ≡ Some bytes)

-- there is such a file, of which this holds
abbrev pub Told : ℕ → StoreView → List ℕ → (List ℕ → Type 0) → Type 0
Told limit store name P = (file : List ℕ) × IsFile limit store name file × P file

-- so of the input, which is empty where no file is named
abbrev pub ToldInput : StoreView → Option (List ℕ) → (List ℕ → Type 0) → Type 0
ToldInput store None P = P []
ToldInput store (Some name) P = Told input_limit store name P

-- so of the file within its limit and its input
abbrev pub ToldBoth : ℕ → Asked → StoreView → (List ℕ → List ℕ → Type 0) → Type 0
ToldBoth limit a store P = Told limit store a.source (λ file. ToldInput store a.input (P file))

-- when a file is not read: the store refused, or a told file is too long; want of memory is free
abbrev pub Unread : ℕ → List ℕ → StoreView → StoreView → Status → Type 0
Unread limit name old new ReadFault = Refuses old new FailedRead name
Unread limit name old new TooLong =
    (n : ℕ) × (limit < n) × Refuses old new (LongRead n) name × IfSome old.files (λ files. IsSomeAnd (get files name) (λ file. limit < length file))
Unread limit name old new NoMemory = ⊤
Unread limit name old new status = ⊥

-- so of an input, for which a file is named
abbrev pub UnreadInput : Option (List ℕ) → StoreView → StoreView → Status → Type 0
UnreadInput None old new status = ⊥
UnreadInput (Some name) old new status = Unread input_limit name old new status

-- the file is not read within its limit; or it is, and its input, which is read behind it, is not
abbrev pub UnreadEither : ℕ → Asked → StoreView → StoreView → Status → Type 0
UnreadEither limit a old new status = Unread limit a.source old new status ⊎ (Told limit old a.source (λ file. ⊤) × UnreadInput a.input old new status)

-- so of the input, which is empty where no file is named
abbrev pub IsInput : StoreView → Option (List ℕ) → List ℕ → Type 0
IsInput store None bytes = bytes ≡ []
IsInput store (Some name) bytes = IsFile input_limit store name bytes

-- the file whole, or why it is not read
abbrev pub ReadsFile : ℕ → List ℕ → StoreView → StoreView → Result (Vec ℕ Global) Status → Type 0
ReadsFile limit name old new (Ok bytes) = IsFile limit old name bytes.items
ReadsFile limit name old new (Err status) = Unread limit name old new status

-- the input, or why it is not read
abbrev pub ReadsInput : Option (List ℕ) → StoreView → StoreView → Result (Vec ℕ Global) Status → Type 0
ReadsInput name old new (Ok bytes) = IsInput old name bytes.items
ReadsInput name old new (Err status) = UnreadInput name old new status

-- the file and its input, or why one of them is not read
abbrev pub ReadsBoth : ℕ → Asked → StoreView → StoreView → Result (Vec ℕ Global × Vec ℕ Global) Ended → Type 0
ReadsBoth limit a old new (Ok both) = IsFile limit old a.source both.0.items × IsInput old a.input both.1.items
ReadsBoth limit a old new (Err ended) = UnreadEither limit a old new ended.status

-- the name of the file that a store refused last
abbrev pub refused_name : StoreView → List ℕ
refused_name store = elim store.last [ None ↦ [] | Some refusal ↦ refusal.name ]

-- where a file was not read, it is the one that the store refused last
abbrev pub NamesRefusal : Status → List ℕ → StoreView → Type 0
NamesRefusal ReadFault name store = refused_name store ≡ name
NamesRefusal TooLong name store = refused_name store ≡ name
NamesRefusal status name store = ⊤
