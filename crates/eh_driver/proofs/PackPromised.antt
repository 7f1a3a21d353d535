-- What `pack` promises.
use Rattle.std.proofs.Common.{◌≡◌, ◌∙◌, inl, inr, ℕ, List, Result, Ok, Err, refl, sym, subst}
use Rattle.std.specs.Prelude.{◌⊎◌, IsErrAnd}
use Rattle.eh_outer.specs.Store.{StoreView, Stores}
use Rattle.eh_outer.specs.Sink.{SinkView}
use Rattle.table_forms.specs.Fault.{Fault}
use Rattle.elf_image.specs.Clean.{clean}
use Rattle.elf_image.specs.Reports.{reported}
use Rattle.lsda_pack.specs.Laws.{PackingKeeps, PacksNoMore}
use Rattle.lsda_pack.specs.PackedImage.{Packing, packing}
use Rattle.lsda_pack.proofs.HeadFrame.{bind_ok}
use Rattle.lsda_pack.proofs.PackingKept.{when_clean, packing_steps}
use Rattle.eh_commands.specs.declared.status.Status.{Status}
use Rattle.eh_commands.specs.declared.status.Status.TheVariants.{Done, Usage, SourceRefused, ImageRefused, ScheduleRefused, ReadFault, TooLong, WriteFault, NoMemory, Aborted, Budget, Stack, MachineFault, Undefined, Differs}
use Rattle.eh_commands.specs.File.{Asked, Told}
use Rattle.eh_driver.proofs.ToldThen.{told_then}
use Rattle.eh_commands.specs.Image.{image_limit, status_of}
use Rattle.eh_commands.specs.Pack.{PackCause, PackGives, PackJudged, PacksTo, RefusesPacking, Untouched}
use Rattle.eh_commands.proofs.Sources.{told_of}
use Rattle.eh_driver.specs.Pack.{IsPacked, PackPromise}

-- a refusal that was answered is the one of the file
refused_judged : (name : List ℕ) (read : Result Packing Fault) (old new : StoreView) (out out' : SinkView) (status : Status) → IsErrAnd read (λ fault. status ≡ status_of (reported fault)) →
    Untouched old new out out' → PackJudged name read old new out out' status
refused_judged name (Ok p) old new out out' status is kept = absurd is
refused_judged name (Err fault) old new out out' status is kept = (is, kept)

pack_gives : (a : Asked) (old new : StoreView) (out out' : SinkView) (status : Status) → PackCause a old new out out' status → PackGives a old new out out' status
pack_gives a old new out out' status cause files file is there short store sink = by status cause
  where
    told : (P : List ℕ → Type 0) → Told image_limit old a.source P → P file
    told P = told_of image_limit old a.source file files P is there

    by : (s : Status) → PackCause a old new out out' s → (s ≡ NoMemory) ⊎ PackJudged a.image (packing file) old new out out' s
    by Done (p, packs, (stores, puts)) = inr (subst (λ r. PackJudged a.image r old new out out' Done) (sym (told (PacksTo p) packs)) (refl, stores, puts.gains))
    by Usage h = absurd h
    by (SourceRefused number place) h = absurd h
    by (ImageRefused number place location other) (why, kept) =
        inr (refused_judged a.image (packing file) old new out out' (ImageRefused number place location other) (told (RefusesPacking (ImageRefused number place location other)) why) kept)
    by ReadFault (why, kept) = absurd (store why.rose)
    by TooLong ((n, above, why, long), kept) = absurd (store why.rose)
    by WriteFault (p, packs, (inl (why, kept))) = absurd (store why.rose)
    by WriteFault (p, packs, (inr (stores, fails))) = absurd (sink fails.rose)
    by NoMemory h = inl refl
    by Aborted h = absurd h
    by Budget h = absurd h
    by Stack h = absurd h
    by (MachineFault kind place) h = absurd h
    by (ScheduleRefused number place) h = absurd h
    by Undefined h = absurd h
    by Differs h = absurd h

module _ (keeps : PackingKeeps) (once : PacksNoMore) where
  packed_well : (file : List ℕ) (p : Packing) → PacksTo p file → IsPacked file p
  packed_well file p is =
      let read = bind_ok (clean file) (when_clean file) p (sym (packing_steps file) ∙ is) in
      let kept = keeps file read.0 p read.1 is in
      record { image = read.0; read = read.1; packs = is; others = kept.0; stays = kept.1; again = once file read.0 p read.1 is }

  stored_well : (a : Asked) (old new : StoreView) (out out' : SinkView) → PackCause a old new out out' Done → (p : Packing) × Told image_limit old a.source (λ file. IsPacked file p) × Stores a.image p.bytes old new
  stored_well a old new out out' (p, told, (stores, puts)) = (p, told_then image_limit old a.source (PacksTo p) (λ file. IsPacked file p) (λ file is. packed_well file p is) told, stores)

  pub pack_promised : (a : Asked) (old new : StoreView) (out out' : SinkView) (status : Status) → PackCause a old new out out' status → PackPromise a old new out out' status
  pack_promised a old new out out' status cause = record {
    gives = pack_gives a old new out out' status cause;
    keeps = λ is. stored_well a old new out out' (subst (λ s. PackCause a old new out out' s) is cause);
  }
