-- What the causes of `compile` promise.
use Rattle.std.proofs.Common.{◌≡◌, ◌⊎◌, ◌∙◌, inl, inr, ℕ, List, Some, IfSome, refl, ap, sym, subst}
use Rattle.std.specs.FinMap.{insert}
use Rattle.eh_outer.specs.Store.{StoreView, Stores}
use Rattle.eh_outer.specs.Sink.{SinkView}
use Rattle.cxx_ast.specs.Plain.{Program}
use Rattle.cxx_ast.specs.Broken.{Valid}
use Rattle.cxx_ast.specs.Checked.{checked}
use Rattle.cxx_front.specs.Source.{IsProgram, IsRefused}
use Rattle.cxx_front.specs.Fate.{HasOnly, refused, valid}
use Rattle.cxx_image.specs.Image.{image_for}
use Rattle.source_bounds.specs.Compiled.{emitted_for}
use Rattle.image_link.specs.Runs.{RunsUnit}
use Rattle.eh_commands.specs.declared.status.Status.{Status}
use Rattle.eh_commands.specs.declared.status.Status.TheVariants.{Done, Usage, SourceRefused, ImageRefused, ScheduleRefused, ReadFault, TooLong, WriteFault, NoMemory, Aborted, Budget, Stack, MachineFault, Undefined, Differs}
use Rattle.eh_commands.specs.File.{Asked, Told, source_limit}
use Rattle.eh_driver.proofs.ToldThen.{told_then}
use Rattle.eh_commands.specs.Compile.{CompilesTo, CompileCause}
use Rattle.eh_driver.specs.Compiled.{AreCompiled}
use Rattle.eh_driver.specs.Promise.{Undisturbed, IsCompiled, CompilePromise}
use Rattle.eh_driver.proofs.MeantShown.{CompilerLaws, are_compiled}
use Rattle.eh_commands.proofs.Sources.{told_of, valid_same, not_refused, same_refusal}

module _ (laws : CompilerLaws) (a : Asked) (source : List ℕ) (old new : StoreView) (out out' : SinkView) (u : Undisturbed source_limit a.source source old new out out') where
  told : (P : List ℕ → Type 0) → Told source_limit old a.source P → P source
  told P = told_of source_limit old a.source source u.files P u.told u.there

  module _ (p : Program) (program : IsProgram source p) (holds : Valid a.std p) where
    -- the bytes are those of the program's image
    bytes_so : (bytes : List ℕ) → CompilesTo a.std bytes source → bytes ≡ image_for (checked a.std p)
    bytes_so bytes (q, only, is, runs) = is ∙ ap (λ x. image_for (checked a.std x)) (valid_same (only.only (valid p) (program, holds)))

    -- they are the compiled program
    compiled_so : (bytes : List ℕ) → CompilesTo a.std bytes source → AreCompiled (checked a.std p) (image_for (checked a.std p))
    compiled_so bytes (q, only, is, runs) =
        are_compiled laws a.std source p program holds (subst (λ x. RunsUnit (emitted_for (checked a.std x)) (image_for (checked a.std x))) (valid_same (only.only (valid p) (program, holds))) runs)

    stored_so : (bytes : List ℕ) → CompilesTo a.std bytes source → IfSome old.files (λ files. new.files ≡ Some (insert files a.image bytes)) →
        new.files ≡ Some (insert u.files a.image (image_for (checked a.std p)))
    stored_so bytes is stores =
        let at : new.files ≡ Some (insert u.files a.image bytes) = subst (λ f. IfSome f (λ files. new.files ≡ Some (insert files a.image bytes))) u.told stores in
        at ∙ ap (λ b. Some (insert u.files a.image b)) (bytes_so bytes is)

    not_refused_so : (number place : ℕ) → HasOnly a.std source (refused number place) → ⊥
    not_refused_so number place only = let same : refused number place ≡ valid p = only.only (valid p) (program, holds) in cc

    stores_so : (status : Status) → CompileCause a old new status →
        ((status ≡ NoMemory) × (new.files ≡ old.files)) ⊎ ((status ≡ Done) × (new.files ≡ Some (insert u.files a.image (image_for (checked a.std p)))) × AreCompiled (checked a.std p) (image_for (checked a.std p)))
    stores_so Done (bytes, is, stores) = let this = told (CompilesTo a.std bytes) is in inr (refl, stored_so bytes this stores, compiled_so bytes this)
    stores_so Usage h = absurd h
    stores_so (SourceRefused number place) (is, kept) = absurd (not_refused_so number place (told (λ s. HasOnly a.std s (refused number place)) is))
    stores_so (ImageRefused number place location other) h = absurd h
    stores_so ReadFault (why, kept) = absurd (u.store why.rose)
    stores_so TooLong ((n, above, why, long), kept) = absurd (u.store why.rose)
    stores_so WriteFault (bytes, is, why, kept) = absurd (u.store why.rose)
    stores_so NoMemory kept = inl (refl, kept)
    stores_so Aborted h = absurd h
    stores_so Budget h = absurd h
    stores_so Stack h = absurd h
    stores_so (MachineFault kind place) h = absurd h
    stores_so (ScheduleRefused number place) h = absurd h
    stores_so Undefined h = absurd h
    stores_so Differs h = absurd h

  module _ (number place : ℕ) (is : IsRefused a.std source number place) where
    compiles_not : (bytes : List ℕ) → CompilesTo a.std bytes source → ⊥
    compiles_not bytes (q, only, e, runs) = not_refused a.std source q number place only is

    refuses_so : (status : Status) → CompileCause a old new status → ((status ≡ NoMemory) ⊎ (status ≡ SourceRefused number place)) × (new.files ≡ old.files)
    refuses_so Done (bytes, by, stores) = absurd (compiles_not bytes (told (CompilesTo a.std bytes) by))
    refuses_so Usage h = absurd h
    refuses_so (SourceRefused n at) (by, kept) = (inr (same_refusal ((told (λ s. HasOnly a.std s (refused n at)) by).only (refused number place) is)), kept)
    refuses_so (ImageRefused n at location other) h = absurd h
    refuses_so ReadFault (why, kept) = absurd (u.store why.rose)
    refuses_so TooLong ((n, above, why, long), kept) = absurd (u.store why.rose)
    refuses_so WriteFault (bytes, by, why, kept) = absurd (u.store why.rose)
    refuses_so NoMemory kept = (inl refl, kept)
    refuses_so Aborted h = absurd h
    refuses_so Budget h = absurd h
    refuses_so Stack h = absurd h
    refuses_so (MachineFault kind at) h = absurd h
    refuses_so (ScheduleRefused number place) h = absurd h
    refuses_so Undefined h = absurd h
    refuses_so Differs h = absurd h

-- ---- what is stored, whatever was refused besides
source_compiled : CompilerLaws → (a : Asked) (bytes source : List ℕ) → CompilesTo a.std bytes source → IsCompiled a.std source bytes
source_compiled laws a bytes source (p, only, is, runs) =
    (p, only.is.0, only.is.1, is, subst (AreCompiled (checked a.std p)) (sym is) (are_compiled laws a.std source p only.is.0 only.is.1 runs))

stored_compiled : CompilerLaws → (a : Asked) (old new : StoreView) → CompileCause a old new Done →
    (bytes : List ℕ) × Told source_limit old a.source (λ source. IsCompiled a.std source bytes) × Stores a.image bytes old new
stored_compiled laws a old new (bytes, told, stores) =
    (bytes, told_then source_limit old a.source (CompilesTo a.std bytes) (λ source. IsCompiled a.std source bytes) (source_compiled laws a bytes) told, stores)

pub compile_promised : CompilerLaws → (a : Asked) (old new : StoreView) (out out' : SinkView) (status : Status) → CompileCause a old new status → CompilePromise a old new out out' status
compile_promised laws a old new out out' status cause = record {
  stores = λ source p u program holds. stores_so laws a source old new out out' u p program holds status cause;
  refuses = λ source number place u is. refuses_so laws a source old new out out' u number place is status cause;
  keeps = λ is. stored_compiled laws a old new (subst (λ s. CompileCause a old new s) is cause);
}
