-- What `pack` promises.
use Rattle.std.specs.Prelude.{◌≡◌, ℕ, List, Ok, IsOkAnd}
use Rattle.eh_outer.specs.Store.{StoreView, Stores}
use Rattle.eh_outer.specs.Sink.{SinkView}
use Rattle.elf_image.specs.Clean.{CleanImage, clean}
use Rattle.lsda_pack.specs.Laws.{ImageStays, KeepsOthers}
use Rattle.lsda_pack.specs.PackedImage.{Packing, packing}
use Rattle.eh_commands.specs.declared.status.Status.{Status}
use Rattle.eh_commands.specs.declared.status.Status.TheVariants.{Done}
use Rattle.eh_commands.specs.File.{Asked, Told}
use Rattle.eh_commands.specs.Image.{image_limit}
use Rattle.eh_commands.specs.Pack.{PackGives, PacksTo}

-- The file is a clean image, and this is what packing makes of it: as many bytes, those outside of packed tables as before, which are clean again. Each
-- function has its frame and, at each place of its region and for whatever is thrown, the verdict that it had. Packed again, it stays, and nothing is packed.
pub record IsPacked (file : List ℕ) (p : Packing) : Type 0 where
  pub image : CleanImage
  pub read : clean file ≡ Ok image
  pub packs : PacksTo p file
  pub others : KeepsOthers file image p
  pub stays : IsOkAnd (clean p.bytes) (ImageStays image)
  pub again : packing p.bytes ≡ Ok (record { bytes = p.bytes; tables = p.tables; packed = 0; saved = 0 })

-- Where nothing disturbs a told image is packed, its bytes are stored and its line goes out, or it is refused. Where the status is Done, what is stored of a told
-- image is packed.
pub record PackPromise (a : Asked) (old new : StoreView) (out out' : SinkView) (status : Status) : Type 0 where
  pub gives : PackGives a old new out out' status
  pub keeps : status ≡ Done → (p : Packing) × Told image_limit old a.source (λ file. IsPacked file p) × Stores a.image p.bytes old new
