-- When `compile FILE IMAGE` gives each status, and what it stores.
use Rattle.std.specs.Prelude.{◌≡◌, ℕ, List}
use Rattle.cxx_ast.specs.declared.standard.Std.{Std}
use Rattle.cxx_ast.specs.Plain.{Program, Checked}
use Rattle.cxx_ast.specs.Checked.{checked}
use Rattle.cxx_front.specs.Fate.{HasOnly, refused, valid}
use Rattle.cxx_image.specs.Image.{image_for}
use Rattle.source_bounds.specs.Compiled.{emitted_for}
use Rattle.image_link.specs.Runs.{RunsUnit}
use Rattle.eh_outer.specs.Store.{StoreView, Refuses, Stores}
use Rattle.eh_outer.specs.declared.store.RefusalKind.TheVariants.{FailedWrite}
use Rattle.eh_commands.specs.declared.status.Status.{Status}
use Rattle.eh_commands.specs.declared.status.Status.TheVariants.{Done, SourceRefused, ReadFault, TooLong, WriteFault, NoMemory}
use Rattle.eh_commands.specs.File.{Asked, Told, Unread, source_limit}

-- by a standard the source is a valid program, whose image these bytes are, which can be run
abbrev pub CompilesTo : Std → List ℕ → List ℕ → Type 0
CompilesTo std bytes source =
    (p : Program) × HasOnly std source (valid p) × (bytes ≡ image_for (checked std p)) × RunsUnit (emitted_for (checked std p)) (image_for (checked std p))

-- how the storing of a program's image ends
abbrev pub ImageStored : List ℕ → Checked → StoreView → StoreView → Status → Type 0
ImageStored name p old new Done = RunsUnit (emitted_for p) (image_for p) × Stores name (image_for p) old new
ImageStored name p old new WriteFault = RunsUnit (emitted_for p) (image_for p) × Refuses old new FailedWrite name × (new.files ≡ old.files)
ImageStored name p old new NoMemory = new.files ≡ old.files
ImageStored name p old new status = ⊥

-- what becomes of a source that was read
abbrev pub SourceCompiles : Std → List ℕ → List ℕ → StoreView → StoreView → Status → Type 0
SourceCompiles std name source old new Done = (bytes : List ℕ) × CompilesTo std bytes source × Stores name bytes old new
SourceCompiles std name source old new (SourceRefused number place) = HasOnly std source (refused number place) × (new.files ≡ old.files)
SourceCompiles std name source old new WriteFault = (bytes : List ℕ) × CompilesTo std bytes source × Refuses old new FailedWrite name × (new.files ≡ old.files)
SourceCompiles std name source old new NoMemory = new.files ≡ old.files
SourceCompiles std name source old new status = ⊥

-- when `compile` gives each status, what it leaves of the store's refusals, and of its files
abbrev pub CompileCause : Asked → StoreView → StoreView → Status → Type 0
CompileCause a old new Done = (bytes : List ℕ) × Told source_limit old a.source (CompilesTo a.std bytes) × Stores a.image bytes old new
CompileCause a old new (SourceRefused number place) = Told source_limit old a.source (λ source. HasOnly a.std source (refused number place)) × (new.files ≡ old.files)
CompileCause a old new ReadFault = Unread source_limit a.source old new ReadFault × (new.files ≡ old.files)
CompileCause a old new TooLong = Unread source_limit a.source old new TooLong × (new.files ≡ old.files)
CompileCause a old new WriteFault =
    (bytes : List ℕ) × Told source_limit old a.source (CompilesTo a.std bytes) × Refuses old new FailedWrite a.image × (new.files ≡ old.files)
CompileCause a old new NoMemory = new.files ≡ old.files
CompileCause a old new status = ⊥
