-- The head of a written table is read as what was written.
use Rattle.std.proofs.Common.{◌≡◌, ◌+◌, ◌<◌, ◌^◌, ℕ, List, ◌∷◌, ◌++◌, length, drop, Ok, refl, ap, ◌∙◌}
use Rattle.std.specs.Prelude.{Some}
use Rattle.eh_bytes.specs.declared.frames.Region64.{Region64}
use Rattle.eh_bytes.specs.Memory.{Part}
use Rattle.eh_bytes.specs.Field.{byte}
use Rattle.eh_bytes.specs.Leb128.{uleb}
use Rattle.eh_bytes.specs.Spelling.{uleb_spelling}
use Rattle.eh_bytes.specs.Listed.{ListedTable}
use Rattle.table_forms.specs.Fault.{◌>>=◌, with_reason, table_reason}
use Rattle.table_forms.specs.LsdaHead.{Head, Types, in_table, pads_start, sized_types, type_table, head_at}
use Rattle.eh_write.specs.Written.{sites_bytes}
use Rattle.eh_write.proofs.Reading.{byte_stands, uleb_stands}
use Rattle.eh_write.proofs.Shape.{IsLaid, offset_of, offset_bytes, size_bytes, from_sites, from_encoding, encoding_place, sites_place, actions_place, base_place}

abbrev pub types_of : ListedTable → ℕ → Types
types_of list p = record { base = base_place list p; encoding = 27; size = 4 }

abbrev pub head_of : ListedTable → Region64 → ℕ → Head
head_of list region p = record {
  pads_from = region.start;
  types = Some (types_of list p);
  site_encoding = 1;
  sites_at = sites_place list p;
  actions_at = actions_place list p;
}

pub byte_in : (part : Part) (p b : ℕ) (rest : List ℕ) → drop p part.bytes ≡ b ∷ rest → in_table byte part p ≡ Ok (b, p + 1)
byte_in part p b rest here = ap (with_reason table_reason (part.file_at + p)) (byte_stands part.bytes p b rest here)

pub uleb_in : (part : Part) (p n : ℕ) (rest : List ℕ) → n < 2 ^ 64 → drop p part.bytes ≡ uleb_spelling n ++ rest →
    in_table uleb part p ≡ Ok (n, p + length (uleb_spelling n))
uleb_in part p n rest fits here = ap (with_reason table_reason (part.file_at + p)) (uleb_stands part.bytes p n rest fits here)

pub pads_omitted : (part : Part) (region : Region64) (p : ℕ) → pads_start part region 255 p ≡ Ok (region.start, p + 1)
unfolding pads_start
pads_omitted part region p = refl

pub types_sized : (part : Part) (p : ℕ) → type_table part 27 p ≡ sized_types (Some 4) part 27 p
unfolding type_table
types_sized part p = refl

types_read : (list : ListedTable) (entries_at : ℕ) (part : Part) (p : ℕ) (rest : List ℕ) → IsLaid list entries_at part.bytes p rest → offset_of list < 2 ^ 64 →
    type_table part 27 (p + 1) ≡ Ok (Some (types_of list p), encoding_place list p)
types_read list entries_at part p rest laid fits =
    types_sized part (p + 1) ∙
    ap (λ r. r >>= (λ offset. Ok (Some (record { base = offset.1 + offset.0; encoding = 27; size = 4 }), offset.1)))
    (uleb_in part (p + 1 + 1) (offset_of list) (from_encoding list entries_at rest) fits laid.offset)

pub head_read : (list : ListedTable) (entries_at : ℕ) (part : Part) (region : Region64) (p : ℕ) (rest : List ℕ) → IsLaid list entries_at part.bytes p rest →
    offset_of list < 2 ^ 64 → length (sites_bytes list) < 2 ^ 64 → head_at part region p ≡ Ok (head_of list region p)
unfolding head_at
head_read list entries_at part region p rest laid offset size =
    rw (byte_in part p 255 (27 ∷ (offset_bytes list ++ from_encoding list entries_at rest)) laid.omitted)
    (rw (pads_omitted part region p)
    (rw (byte_in part (p + 1) 27 (offset_bytes list ++ from_encoding list entries_at rest) laid.relative)
    (rw (types_read list entries_at part p rest laid offset)
    (rw (byte_in part (encoding_place list p) 1 (size_bytes list ++ from_sites list entries_at rest) laid.encoding)
    (rw (uleb_in part (encoding_place list p + 1) (length (sites_bytes list)) (from_sites list entries_at rest) size laid.size) refl)))))
