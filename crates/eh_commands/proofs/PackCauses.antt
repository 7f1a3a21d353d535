-- From what the parts of `pack` say to the cause of a status.
use Rattle.std.proofs.Common.{◌≡◌, ◌≤◌, ◌∙◌, ℕ, List, length, Some, IfSome, Result, Ok, Err, inl, inr, refl, subst}
use Rattle.std.specs.Prelude.{IsErrAnd}
use Rattle.std.specs.FinMap.{get}
use Rattle.eh_outer.specs.Store.{StoreView, Stores}
use Rattle.eh_outer.specs.declared.store.RefusalKind.TheVariants.{FailedWrite}
use Rattle.eh_outer.specs.Sink.{SinkView}
use Rattle.elf_image.specs.declared.error.ImageError.{ImageError}
use Rattle.elf_image.specs.declared.error.ImageError.TheVariants as errors
use Rattle.elf_image.specs.Reports.{reported}
use Rattle.table_forms.specs.Fault.{Fault}
use Rattle.lsda_pack.specs.PackedImage.{Packing, packing}
use Rattle.lsda_pack.specs.Packs.{PacksImage}
use Rattle.command_line.specs.declared.command.Verb.TheVariants.{Pack}
use Rattle.eh_commands.specs.declared.status.Status.{Status}
use Rattle.eh_commands.specs.declared.status.Status.TheVariants.{Done, Usage, SourceRefused, ImageRefused, ScheduleRefused, ReadFault, TooLong, WriteFault, NoMemory, Aborted, Budget, Stack, MachineFault, Undefined, Differs}
use Rattle.eh_commands.specs.Answer.{KeptBy}
use Rattle.eh_commands.specs.File.{Asked, NamesRefusal, Told, Unread}
use Rattle.eh_commands.specs.Image.{image_limit, status_of}
use Rattle.eh_commands.specs.Pack.{PacksTo, RefusesPacking, Untouched, PackedEnds, PackEnds, PackCause}
use Rattle.eh_commands.proofs.Causes.{refused_since, stored_since}

-- what packing refuses decides the status
refuses : (read : Result Packing Fault) (e : ImageError) → IsErrAnd read (λ fault. e ≡ reported fault) → IsErrAnd read (λ fault. status_of e ≡ status_of (reported fault))
refuses (Ok p) e is = absurd is
refuses (Err fault) e is = subst (λ x. status_of e ≡ status_of x) is refl

pub refused_packs : (file name : List ℕ) (old : StoreView) (out : SinkView) (e : ImageError) → PacksImage (Err e) (packing file) → PackEnds file name old old out out (status_of e)
refused_packs file name old out (errors.Refused reason place location other) is = (refuses (packing file) (errors.Refused reason place location other) is, (refl, refl))
refused_packs file name old out errors.NoMemory is = (refl, refl)

-- what becomes of a packed image is what becomes of its file
module _ (file name : List ℕ) (p : Packing) (is : packing file ≡ Ok p) (old new : StoreView) (out out' : SinkView) where
  pub packed_ends : (status : Status) → PackedEnds p name old new out out' status → PackEnds file name old new out out' status
  packed_ends Done h = (p, is, h)
  packed_ends Usage h = absurd h
  packed_ends (SourceRefused number place) h = absurd h
  packed_ends (ImageRefused number place location other) h = absurd h
  packed_ends ReadFault h = absurd h
  packed_ends TooLong h = absurd h
  packed_ends WriteFault h = (p, is, h)
  packed_ends NoMemory h = h
  packed_ends Aborted h = absurd h
  packed_ends Budget h = absurd h
  packed_ends Stack h = absurd h
  packed_ends (MachineFault kind place) h = absurd h
  packed_ends (ScheduleRefused number place) h = absurd h
  packed_ends Undefined h = absurd h
  packed_ends Differs h = absurd h

-- what was stored and refused behind the reading, since before it
module _ (name : List ℕ) (p : Packing) (old mid new : StoreView) (out out' : SinkView) (later : old.faults ≤ mid.faults) (same : mid.files ≡ old.files) where
  untouched_since : Untouched mid new out out' → Untouched old new out out'
  untouched_since (kept, silent) = (kept ∙ same, silent)

  stores_since : Stores name p.bytes mid new → Stores name p.bytes old new
  stores_since stores = stored_since name p.bytes old.files mid.files new.files same stores

  fails_since : PackedEnds p name mid new out out' WriteFault → PackedEnds p name old new out out' WriteFault
  fails_since (inl (why, kept)) = inl (refused_since FailedWrite name old mid new later why, untouched_since kept)
  fails_since (inr (stores, fails)) = inr (stores_since stores, fails)

module _ (a : Asked) (file : List ℕ) (old mid new : StoreView) (out out' : SinkView) (short : length file ≤ image_limit) (there : IfSome old.files (λ m. get m a.source ≡ Some file)) (later : old.faults ≤ mid.faults) (same : mid.files ≡ old.files) where
  told : (P : List ℕ → Type 0) → P file → Told image_limit old a.source P
  told P holds = (file, (short, there), holds)

  pub pack_caused : (status : Status) → PackEnds file a.image mid new out out' status → PackCause a old new out out' status
  pack_caused Done (p, is, (stores, puts)) = (p, told (PacksTo p) is, (stores_since a.image p old mid new out out' later same stores, puts))
  pack_caused Usage h = absurd h
  pack_caused (SourceRefused number place) h = absurd h
  pack_caused (ImageRefused number place location other) (is, (kept, silent)) = (told (RefusesPacking (ImageRefused number place location other)) is, (kept ∙ same, silent))
  pack_caused ReadFault h = absurd h
  pack_caused TooLong h = absurd h
  pack_caused WriteFault (p, is, h) = (p, told (PacksTo p) is, fails_since a.image p old mid new out out' later same h)
  pack_caused NoMemory (kept, silent) = (kept ∙ same, silent)
  pack_caused Aborted h = absurd h
  pack_caused Budget h = absurd h
  pack_caused Stack h = absurd h
  pack_caused (MachineFault kind place) h = absurd h
  pack_caused (ScheduleRefused number place) h = absurd h
  pack_caused Undefined h = absurd h
  pack_caused Differs h = absurd h

pub unread_packs : (a : Asked) (old new : StoreView) (out out' : SinkView) (status : Status) → Unread image_limit a.source old new status → new.files ≡ old.files → out' ≡ out → PackCause a old new out out' status
unread_packs a old new out out' Done why same silent = absurd why
unread_packs a old new out out' Usage why same silent = absurd why
unread_packs a old new out out' (SourceRefused number place) why same silent = absurd why
unread_packs a old new out out' (ImageRefused number place location other) why same silent = absurd why
unread_packs a old new out out' ReadFault why same silent = (why, (same, silent))
unread_packs a old new out out' TooLong why same silent = (why, (same, silent))
unread_packs a old new out out' WriteFault why same silent = absurd why
unread_packs a old new out out' NoMemory why same silent = (same, silent)
unread_packs a old new out out' Aborted why same silent = absurd why
unread_packs a old new out out' Budget why same silent = absurd why
unread_packs a old new out out' Stack why same silent = absurd why
unread_packs a old new out out' (MachineFault kind place) why same silent = absurd why
unread_packs a old new out out' (ScheduleRefused number place) why same silent = absurd why
unread_packs a old new out out' Undefined why same silent = absurd why
unread_packs a old new out out' Differs why same silent = absurd why

-- an image that was read names no file
pub pack_ends_named : (file name other_name : List ℕ) (old new store : StoreView) (out out' : SinkView) (status : Status) → PackEnds file name old new out out' status → NamesRefusal status other_name store
pack_ends_named file name other_name old new store out out' Done h = tt
pack_ends_named file name other_name old new store out out' Usage h = tt
pack_ends_named file name other_name old new store out out' (SourceRefused number place) h = tt
pack_ends_named file name other_name old new store out out' (ImageRefused number place location other) h = tt
pack_ends_named file name other_name old new store out out' ReadFault h = absurd h
pack_ends_named file name other_name old new store out out' TooLong h = absurd h
pack_ends_named file name other_name old new store out out' WriteFault h = tt
pack_ends_named file name other_name old new store out out' NoMemory h = tt
pack_ends_named file name other_name old new store out out' Aborted h = tt
pack_ends_named file name other_name old new store out out' Budget h = tt
pack_ends_named file name other_name old new store out out' Stack h = tt
pack_ends_named file name other_name old new store out out' (MachineFault kind place) h = tt
pack_ends_named file name other_name old new store out out' (ScheduleRefused number place) h = tt
pack_ends_named file name other_name old new store out out' Undefined h = tt
pack_ends_named file name other_name old new store out out' Differs h = tt

-- no told file changes, unless the image was stored
pub pack_keeps : (a : Asked) (old new : StoreView) (out out' : SinkView) (status : Status) → PackCause a old new out out' status → KeptBy Pack status old new
pack_keeps a old new out out' Done h = tt
pack_keeps a old new out out' Usage h = absurd h
pack_keeps a old new out out' (SourceRefused number place) h = absurd h
pack_keeps a old new out out' (ImageRefused number place location other) (why, (kept, silent)) = kept
pack_keeps a old new out out' ReadFault (why, (kept, silent)) = kept
pack_keeps a old new out out' TooLong (why, (kept, silent)) = kept
pack_keeps a old new out out' WriteFault h = tt
pack_keeps a old new out out' NoMemory (kept, silent) = kept
pack_keeps a old new out out' Aborted h = absurd h
pack_keeps a old new out out' Budget h = absurd h
pack_keeps a old new out out' Stack h = absurd h
pack_keeps a old new out out' (MachineFault kind place) h = absurd h
pack_keeps a old new out out' (ScheduleRefused number place) h = absurd h
pack_keeps a old new out out' Undefined h = absurd h
pack_keeps a old new out out' Differs h = absurd h
