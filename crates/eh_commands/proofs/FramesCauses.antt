-- From what the parts of `frames` say to the cause of a status.
use Rattle.std.proofs.Common.{◌≡◌, ◌≤◌, ℕ, List, length, Some, IfSome}
use Rattle.std.specs.FinMap.{get}
use Rattle.eh_outer.specs.Store.{StoreView}
use Rattle.eh_outer.specs.Sink.{SinkView}
use Rattle.debug_frames.specs.Agreement.{Agreement, same, differ}
use Rattle.debug_frames.specs.Compares.{Compares}
use Rattle.eh_commands.specs.declared.status.Status.{Status}
use Rattle.eh_commands.specs.declared.status.Status.TheVariants.{Done, Usage, SourceRefused, ImageRefused, ScheduleRefused, ReadFault, TooLong, WriteFault, NoMemory, Aborted, Budget, Stack, MachineFault, Undefined, Differs}
use Rattle.eh_commands.specs.File.{Told, Unread, NamesRefusal}
use Rattle.eh_commands.specs.Frames.{AgreementEnds, FramesEnds, FramesCause, RefusesForms, agreement_status}
use Rattle.eh_commands.specs.Image.{image_limit}
use Rattle.eh_commands.proofs.Named.{unread_named}

-- an agreement has no status but these
no_refusal : (a : Agreement) (number place location other : ℕ) → ImageRefused number place location other ≡ agreement_status a → ⊥
no_refusal (same both first second) number place location other e = cc
no_refusal (differ pc row others) number place location other e = cc

no_fault : (a : Agreement) → ReadFault ≡ agreement_status a → ⊥
no_fault (same both first second) e = cc
no_fault (differ pc row other) e = cc

no_length : (a : Agreement) → TooLong ≡ agreement_status a → ⊥
no_length (same both first second) e = cc
no_length (differ pc row other) e = cc

-- what is put of an agreement is what becomes of its file
pub agreement_ends : (file : List ℕ) (a : Agreement) (old new : SinkView) (status : Status) → Compares file a → AgreementEnds a old new status → FramesEnds file old new status
agreement_ends file a old new Done is h = (a, is, h)
agreement_ends file a old new Usage is h = (a, is, h)
agreement_ends file a old new (SourceRefused number place) is h = (a, is, h)
agreement_ends file a old new (ImageRefused number place location other) is h = absurd (no_refusal a number place location other h.0)
agreement_ends file a old new ReadFault is h = (a, is, h)
agreement_ends file a old new TooLong is h = (a, is, h)
agreement_ends file a old new WriteFault is h = (a, is, h)
agreement_ends file a old new NoMemory is h = h
agreement_ends file a old new Aborted is h = (a, is, h)
agreement_ends file a old new Budget is h = (a, is, h)
agreement_ends file a old new Stack is h = (a, is, h)
agreement_ends file a old new (MachineFault kind place) is h = (a, is, h)
agreement_ends file a old new (ScheduleRefused number place) is h = (a, is, h)
agreement_ends file a old new Undefined is h = (a, is, h)
agreement_ends file a old new Differs is h = (a, is, h)

-- what was read, and what became of it
module _ (name file : List ℕ) (old new : StoreView) (out out' : SinkView) (short : length file ≤ image_limit) (there : IfSome old.files (λ m. get m name ≡ Some file)) where
  told : (P : List ℕ → Type 0) → P file → Told image_limit old name P
  told P holds = (file, (short, there), holds)

  pub frames_caused : (status : Status) → FramesEnds file out out' status → FramesCause name old new out out' status
  frames_caused Done (a, is, h) = (a, told (λ f. Compares f a) is, h)
  frames_caused Usage (a, is, h) = (a, told (λ f. Compares f a) is, h)
  frames_caused (SourceRefused number place) (a, is, h) = (a, told (λ f. Compares f a) is, h)
  frames_caused (ImageRefused number place location other) (is, kept) = (told (RefusesForms (ImageRefused number place location other)) is, kept)
  frames_caused ReadFault (a, is, h) = absurd (no_fault a h.0)
  frames_caused TooLong (a, is, h) = absurd (no_length a h.0)
  frames_caused WriteFault (a, is, h) = (a, told (λ f. Compares f a) is, h)
  frames_caused NoMemory h = h
  frames_caused Aborted (a, is, h) = (a, told (λ f. Compares f a) is, h)
  frames_caused Budget (a, is, h) = (a, told (λ f. Compares f a) is, h)
  frames_caused Stack (a, is, h) = (a, told (λ f. Compares f a) is, h)
  frames_caused (MachineFault kind place) (a, is, h) = (a, told (λ f. Compares f a) is, h)
  frames_caused (ScheduleRefused number place) (a, is, h) = (a, told (λ f. Compares f a) is, h)
  frames_caused Undefined (a, is, h) = (a, told (λ f. Compares f a) is, h)
  frames_caused Differs (a, is, h) = (a, told (λ f. Compares f a) is, h)

pub unread_frames : (name : List ℕ) (old new : StoreView) (out out' : SinkView) (status : Status) → Unread image_limit name old new status → out' ≡ out → FramesCause name old new out out' status
unread_frames name old new out out' Done why kept = absurd why
unread_frames name old new out out' Usage why kept = absurd why
unread_frames name old new out out' (SourceRefused number place) why kept = absurd why
unread_frames name old new out out' (ImageRefused number place location other) why kept = absurd why
unread_frames name old new out out' ReadFault why kept = (why, kept)
unread_frames name old new out out' TooLong why kept = (why, kept)
unread_frames name old new out out' WriteFault why kept = absurd why
unread_frames name old new out out' NoMemory why kept = kept
unread_frames name old new out out' Aborted why kept = absurd why
unread_frames name old new out out' Budget why kept = absurd why
unread_frames name old new out out' Stack why kept = absurd why
unread_frames name old new out out' (MachineFault kind place) why kept = absurd why
unread_frames name old new out out' (ScheduleRefused number place) why kept = absurd why
unread_frames name old new out out' Undefined why kept = absurd why
unread_frames name old new out out' Differs why kept = absurd why

pub frames_named : (name : List ℕ) (old new : StoreView) (out out' : SinkView) (status : Status) → FramesCause name old new out out' status → NamesRefusal status name new
frames_named name old new out out' Done h = tt
frames_named name old new out out' Usage h = tt
frames_named name old new out out' (SourceRefused number place) h = tt
frames_named name old new out out' (ImageRefused number place location other) h = tt
frames_named name old new out out' ReadFault (why, kept) = unread_named image_limit name old new ReadFault why
frames_named name old new out out' TooLong (why, kept) = unread_named image_limit name old new TooLong why
frames_named name old new out out' WriteFault h = tt
frames_named name old new out out' NoMemory h = tt
frames_named name old new out out' Aborted h = tt
frames_named name old new out out' Budget h = tt
frames_named name old new out out' Stack h = tt
frames_named name old new out out' (MachineFault kind place) h = tt
frames_named name old new out out' (ScheduleRefused number place) h = tt
frames_named name old new out out' Undefined h = tt
frames_named name old new out out' Differs h = tt
