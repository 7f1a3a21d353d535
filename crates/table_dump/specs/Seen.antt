-- Functions by their FDEs as they are listed.
use Rattle.std.specs.Prelude.{◌≡◌, ◌<◌, ◌+◌, ◌^◌, ⊤, List, [], ◌∷◌, Ok}
use Rattle.eh_bytes.specs.Memory.{Memory}
use Rattle.elf_image.specs.Clean.{Function, table_named}
use Rattle.frame_read.specs.ReadsFrames.{Listing}
use Rattle.frame_read.specs.declared.listed.Fde.{Fde}
use Rattle.table_dump.specs.Entry.{IsEntry}

pub record IsFunction (memory : Memory) (list : Listing) (fde : Fde) (g : Function) : Type 0 where
  pub entry : IsEntry memory list fde g.fde
  pub ends : fde.region.start + fde.region.length < 2 ^ 64
  pub table : table_named memory fde.lsda fde.region ≡ Ok g.table

-- one by one
abbrev pub AreFunctions : Memory → Listing → List Fde → List Function → Type 0
AreFunctions memory list [] [] = ⊤
AreFunctions memory list (f ∷ fs) (g ∷ gs) = IsFunction memory list f g × AreFunctions memory list fs gs
AreFunctions memory list [] (g ∷ gs) = ⊥
AreFunctions memory list (f ∷ fs) [] = ⊥
