-- What code keeps of the tables of an image.
use Rattle.std.specs.Prelude.{◌≡◌, ◌<◌, ◌+◌, ◌^◌, ⊤, List, [], ◌∷◌, map, flat_map, option_map, Option, Some, None, Ok}
use Rattle.std.specs.List.{AllZip}
use Rattle.eh_bytes.specs.Encoded.{encoding_format, format_size}
use Rattle.eh_bytes.specs.Memory.{Memory}
use Rattle.table_forms.specs.LsdaHead.{Types}
use Rattle.elf_image.specs.declared.program.ProgramHeader.{ProgramHeader}
use Rattle.elf_image.specs.Clean.{Function, table_named}
use Rattle.frame_read.specs.declared.listed.Fde.{Fde}
use Rattle.lsda_read.specs.declared.shape.Shape.{Shape}
use Rattle.lsda_read.specs.Shapes.{encoding_of}
use Rattle.lsda_pack.specs.declared.placing.Placing.{Placing}
use Rattle.lsda_pack.specs.MayPack.{packed_for}
use Rattle.lsda_pack.specs.Placed.{Placed, placed_of}
use Rattle.lsda_pack.specs.Reaches.{table_taken, extent_taken}
use Rattle.lsda_pack.specs.SharedTables.{words_of}

-- types have the encoding of the form, which has a size
abbrev pub AreSized : Option Types → Type 0
AreSized None = ⊤
AreSized (Some types) = format_size (encoding_format types.encoding) ≡ Some types.size

pub record HasTypes (shape : Shape) (types : Option Types) : Type 0 where
  pub formed : shape.ttype ≡ encoding_of types
  pub sized : AreSized types

-- a table as it is placed
pub record IsPlacing (memory : Memory) (p : Placing) (t : Placed) : Type 0 where
  pub taken : p.taken ≡ table_taken t
  pub words : p.words.items ≡ map extent_taken (words_of memory t.part t.head.types t.table.types)
  pub packed : option_map (λ b. b.items) p.packed ≡ packed_for t

-- there is one exactly where a table is placed
abbrev pub IsPlaced : Memory → Option Placing → List Placed → Type 0
IsPlaced memory None ts = ts ≡ []
IsPlaced memory (Some p) ts = (t : Placed) × (ts ≡ t ∷ []) × IsPlacing memory p t

abbrev pub those_of : Option Placing → List Placing
those_of None = []
those_of (Some p) = p ∷ []

abbrev pub ArePlacings : Memory → List Placing → List Placed → Type 0
ArePlacings memory = AllZip (IsPlacing memory)

-- an FDE and its function, whose table is read if it names one
pub record IsFunction (memory : Memory) (fde : Fde) (g : Function) : Type 0 where
  pub lsda : fde.lsda ≡ g.fde.lsda
  pub region : fde.region ≡ g.fde.region
  pub ends : fde.region.start + fde.region.length < 2 ^ 64
  pub table : table_named memory fde.lsda fde.region ≡ Ok g.table

abbrev pub AreFunctions : Memory → List Fde → List Function → Type 0
AreFunctions memory = AllZip (IsFunction memory)

abbrev pub placed_all : Memory → List ProgramHeader → List Function → List Placed
placed_all memory loads gs = flat_map (λ g. placed_of memory loads g.fde.lsda g.fde.region g.table) gs
