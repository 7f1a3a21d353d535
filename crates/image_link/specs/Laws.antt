-- What the calls of laws state of linked images.
use Rattle.std.specs.Prelude.{⊤, ℕ, ◌+◌, ◌*◌, ◌≤◌, List, [], ◌∷◌, length}
use Rattle.eh_bytes.specs.Listed.{ListedUnit}
use Rattle.eh_write.specs.CanWrite.{CanWrite}
use Rattle.eh_write.specs.CanWriteFrames.{CanWriteFrames}
use Rattle.eh_write.specs.WrittenHeader.{CanWriteHeader}
use Rattle.image_forms.specs.Placed.{code_at, all_code, PlacedFunction, all_functions}
use Rattle.image_forms.specs.Tables.{linked_table, placed_table, with_tables, header_rows}
use Rattle.image_forms.specs.Linked.{tables_at, unit_frames, frames_at, header_at, linked}
use Rattle.image_forms.specs.Linkable.{IsLinkable}
use Rattle.image_forms.specs.Symbols.{Names, named}
use Rattle.image_link.specs.Names.{AreShort}

-- The words and bytes of an image are few for its source.
pub record ImagesAreSmall : Type 0 where
  pub words : (u : ListedUnit) → IsLinkable u → length (all_code u) ≤ 128 * u.tokens + 4096
  pub bytes : (u : ListedUnit) → IsLinkable u → length (linked u) ≤ 768 * u.tokens + 131072

-- So are those of an image with sections and symbols.
abbrev pub NamedImagesAreSmall : Type 0
NamedImagesAreSmall = (names : Names) (u : ListedUnit) → IsLinkable u → AreShort names u → length (named names u) ≤ 768 * u.tokens + 131072

-- the tables of functions can be written from an address on, where records end at another
abbrev pub TablesCanBeWritten : (end address : ℕ) → List PlacedFunction → Type 0
TablesCanBeWritten end a [] = ⊤
TablesCanBeWritten end a (f ∷ fs) =
    CanWrite (linked_table end f.function.table) a × TablesCanBeWritten end (a + length (placed_table end a f)) fs

-- The lists that writers are handed meet what they need, also in their addresses. So the tables, frames and header of an image stand for
-- these lists, in each memory that has them.
pub record WritersAreMet : Type 0 where
  pub tables : (u : ListedUnit) → IsLinkable u → TablesCanBeWritten (code_at u) (tables_at u) (all_functions u)
  pub frames : (u : ListedUnit) → IsLinkable u → CanWriteFrames (with_tables (unit_frames u)) (frames_at u)
  pub header : (u : ListedUnit) → IsLinkable u → CanWriteHeader (header_rows (frames_at u) (unit_frames u)) (frames_at u) (header_at u)
