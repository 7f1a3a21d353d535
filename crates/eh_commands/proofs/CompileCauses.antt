-- From what the parts of `compile` say to the cause of a status.
use Rattle.std.proofs.Common.{◌≡◌, ◌≤◌, ◌∙◌, ℕ, List, length, Some, IfSome, Ok, Err, refl, ap, subst}
use Rattle.std.specs.FinMap.{get}
use Rattle.cxx_ast.specs.declared.program.Checked.{Checked as CheckedValue}
use Rattle.cxx_ast.specs.declared.standard.Std.{Std}
use Rattle.cxx_ast.specs.Checked.{IsChecked}
use Rattle.cxx_ast.specs.View.{checked_of}
use Rattle.cxx_front.specs.Fate.{HasOnly, refused}
use Rattle.cxx_front.specs.Answer.{Answers as FrontAnswers}
use Rattle.cxx_front.specs.declared.error.SourceError.{SourceError}
use Rattle.cxx_front.specs.declared.error.SourceError.TheVariants as errors
use Rattle.cxx_image.specs.Image.{image_for}
use Rattle.source_bounds.specs.Compiled.{emitted_for}
use Rattle.image_link.specs.Runs.{RunsUnit}
use Rattle.eh_outer.specs.Store.{StoreView}
use Rattle.eh_commands.specs.declared.status.Status.{Status}
use Rattle.eh_commands.specs.declared.status.Status.TheVariants.{Done, Usage, SourceRefused, ImageRefused, ScheduleRefused, ReadFault, TooLong, WriteFault, NoMemory, Aborted, Budget, Stack, MachineFault, Undefined, Differs}
use Rattle.eh_commands.specs.Answer.{status_of_refusal}
use Rattle.eh_commands.specs.File.{Told, Asked, NamesRefusal, Unread, source_limit}
use Rattle.eh_commands.specs.Compile.{CompilesTo, ImageStored, SourceCompiles, CompileCause}
use Rattle.eh_commands.proofs.Causes.{refused_since, stored_since}

-- what the front end answers for a source is checked
pub is_checked : (std : Std) (source : List ℕ) (c : CheckedValue) → FrontAnswers std source (Ok c) → IsChecked (checked_of c)
is_checked std source c a =
    let program = a.1.is.0 in
    record {
      source = source;
      tokens = program.tokens;
      std = std;
      program = a.0;
      lexed = program.lexed;
      tree = program.tree;
      valid = a.1.is.1;
      resolved = a.2;
    }

-- what the front end answers decides what becomes of the source
pub refused_compiles : (std : Std) (name source : List ℕ) (old : StoreView) (e : SourceError) → FrontAnswers std source (Err e) → SourceCompiles std name source old old (status_of_refusal e)
refused_compiles std name source old (errors.Refused number place) h = (h, refl)
refused_compiles std name source old errors.NoMemory h = refl

module _ (std : Std) (name source : List ℕ) (c : CheckedValue) (a : FrontAnswers std source (Ok c)) where
  compiles : RunsUnit (emitted_for (checked_of c)) (image_for (checked_of c)) → CompilesTo std (image_for (checked_of c)) source
  compiles runs = (a.0, a.1, ap image_for a.2, subst (λ p. RunsUnit (emitted_for p) (image_for p)) a.2 runs)

  pub stored_compiles : (old new : StoreView) (status : Status) → ImageStored name (checked_of c) old new status → SourceCompiles std name source old new status
  stored_compiles old new Done (runs, stores) = (image_for (checked_of c), compiles runs, stores)
  stored_compiles old new Usage h = absurd h
  stored_compiles old new (SourceRefused number place) h = absurd h
  stored_compiles old new (ImageRefused number place location other) h = absurd h
  stored_compiles old new ReadFault h = absurd h
  stored_compiles old new TooLong h = absurd h
  stored_compiles old new WriteFault (runs, why, kept) = (image_for (checked_of c), compiles runs, why, kept)
  stored_compiles old new NoMemory h = h
  stored_compiles old new Aborted h = absurd h
  stored_compiles old new Budget h = absurd h
  stored_compiles old new Stack h = absurd h
  stored_compiles old new (MachineFault kind place) h = absurd h
  stored_compiles old new (ScheduleRefused number place) h = absurd h
  stored_compiles old new Undefined h = absurd h
  stored_compiles old new Differs h = absurd h

-- a source that was read names no file
pub source_compiles_named : (std : Std) (name source file : List ℕ) (old new store : StoreView) (status : Status) → SourceCompiles std name source old new status → NamesRefusal status file store
source_compiles_named std name source file old new store Done h = tt
source_compiles_named std name source file old new store Usage h = tt
source_compiles_named std name source file old new store (SourceRefused number place) h = tt
source_compiles_named std name source file old new store (ImageRefused number place location other) h = tt
source_compiles_named std name source file old new store ReadFault h = absurd h
source_compiles_named std name source file old new store TooLong h = absurd h
source_compiles_named std name source file old new store WriteFault h = tt
source_compiles_named std name source file old new store NoMemory h = tt
source_compiles_named std name source file old new store Aborted h = tt
source_compiles_named std name source file old new store Budget h = tt
source_compiles_named std name source file old new store Stack h = tt
source_compiles_named std name source file old new store (MachineFault kind place) h = tt
source_compiles_named std name source file old new store (ScheduleRefused number place) h = tt
source_compiles_named std name source file old new store Undefined h = tt
source_compiles_named std name source file old new store Differs h = tt

pub unread_compiles : (a : Asked) (old new : StoreView) (status : Status) → Unread source_limit a.source old new status → new.files ≡ old.files → CompileCause a old new status
unread_compiles a old new Done why same = absurd why
unread_compiles a old new Usage why same = absurd why
unread_compiles a old new (SourceRefused number place) why same = absurd why
unread_compiles a old new (ImageRefused number place location other) why same = absurd why
unread_compiles a old new ReadFault why same = (why, same)
unread_compiles a old new TooLong why same = (why, same)
unread_compiles a old new WriteFault why same = absurd why
unread_compiles a old new NoMemory why same = same
unread_compiles a old new Aborted why same = absurd why
unread_compiles a old new Budget why same = absurd why
unread_compiles a old new Stack why same = absurd why
unread_compiles a old new (MachineFault kind place) why same = absurd why
unread_compiles a old new (ScheduleRefused number place) why same = absurd why
unread_compiles a old new Undefined why same = absurd why
unread_compiles a old new Differs why same = absurd why

module _ (a : Asked) (source : List ℕ) (old mid new : StoreView) (short : length source ≤ source_limit) (there : IfSome old.files (λ m. get m a.source ≡ Some source)) (later : old.faults ≤ mid.faults) (same : mid.files ≡ old.files) where
  told : (P : List ℕ → Type 0) → P source → Told source_limit old a.source P
  told P holds = (source, (short, there), holds)

  pub source_compiled : (status : Status) → SourceCompiles a.std a.image source mid new status → CompileCause a old new status
  source_compiled Done (bytes, is, stores) = (bytes, told (CompilesTo a.std bytes) is, stored_since a.image bytes old.files mid.files new.files same stores)
  source_compiled Usage h = absurd h
  source_compiled (SourceRefused number place) (is, kept) = (told (λ s. HasOnly a.std s (refused number place)) is, kept ∙ same)
  source_compiled (ImageRefused number place location other) h = absurd h
  source_compiled ReadFault h = absurd h
  source_compiled TooLong h = absurd h
  source_compiled WriteFault (bytes, is, why, kept) = (bytes, told (CompilesTo a.std bytes) is, refused_since _ a.image old mid new later why, kept ∙ same)
  source_compiled NoMemory kept = kept ∙ same
  source_compiled Aborted h = absurd h
  source_compiled Budget h = absurd h
  source_compiled Stack h = absurd h
  source_compiled (MachineFault kind place) h = absurd h
  source_compiled (ScheduleRefused number place) h = absurd h
  source_compiled Undefined h = absurd h
  source_compiled Differs h = absurd h
