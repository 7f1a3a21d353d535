-- What the parts of .debug_frame say, or the first refusal (DWARF 5, 6.4.1). An FDE may stand before its CIE.
use Rattle.std.specs.Prelude.{ℕ, ◌+◌, ◌==◌, Bool, List, [], ◌++◌, map, flat_map, find, filter_map, Option, Some, None, option_map, Result, Ok, Err, if◌then◌else◌}
use Rattle.eh_bytes.specs.declared.frames.Region64.{Region64}
use Rattle.eh_bytes.specs.Memory.{Part}
use Rattle.table_forms.specs.declared.reason.Reason.TheVariants.{CieLink}
use Rattle.table_forms.specs.Fault.{Fault, fault, least, answer}
use Rattle.table_forms.specs.Cie.{Cie}
use Rattle.table_forms.specs.Frames.{Frames}
use Rattle.table_forms.specs.Parts.{Said, refused, unread, cie_said, fde_said, overlaps, refusal_said, cie_in, fde_in}
use Rattle.table_forms.specs.Spans.{Span}
use Rattle.debug_frames.specs.DebugSpans.{section_part, debug_spans, link_at}
use Rattle.debug_frames.specs.DebugCie.{debug_cie_at}
use Rattle.debug_frames.specs.DebugFde.{debug_region_at, debug_fde_at, orphan_at}

abbrev pub is_cie : ℕ → Bool
is_cie link = link == 0xffffffff

-- the CIEs that can be read and those that can't, by where they begin in the section
abbrev pub cie_of : Part → Span → Result (ℕ × ℕ) Fault → Option (ℕ × Result Cie Fault)
cie_of part s (Err f) = None
cie_of part s (Ok (link, next)) = if is_cie link then Some (s.at, debug_cie_at part s.at s.stop next) else None

unfoldable pub debug_cies : Part → List Span → List (ℕ × Result Cie Fault)
debug_cies part spans = filter_map (λ s. cie_of part s (link_at part s)) spans

abbrev pub cie_at_link : List (ℕ × Result Cie Fault) → ℕ → Option (Result Cie Fault)
cie_at_link cies link = option_map (λ c. c.1) (find (λ c. c.0 == link) cies)

abbrev pub orphan_said : Result Bool Fault → Said
orphan_said (Ok read) = unread
orphan_said (Err f) = refused f

-- refused at the link, where no CIE begins there. The FDE of a refused CIE is read as far as it does not depend on it
abbrev pub fde_linked : Part → Span → ℕ → Option (Result Cie Fault) → Said
fde_linked part s next None = refused (fault CieLink (part.file_at + s.at + 4))
fde_linked part s next (Some (Err f)) = orphan_said (orphan_at part s.stop next)
fde_linked part s next (Some (Ok cie)) = fde_said (debug_fde_at cie part s.at s.stop next)

abbrev pub part_said : Part → List (ℕ × Result Cie Fault) → Span → Result (ℕ × ℕ) Fault → Said
part_said part cies s (Err f) = refused f
part_said part cies s (Ok (link, next)) =
    if is_cie link then cie_said (debug_cie_at part s.at s.stop next) else fde_linked part s next (cie_at_link cies link)

unfoldable pub debug_says : Part → List (ℕ × Result Cie Fault) → Span → Said
debug_says part cies s = part_said part cies s (link_at part s)

-- the region of an FDE that leads to a CIE, also to a refused one, as soon as it was read
abbrev pub region_read : ℕ → Result (Region64 × ℕ) Fault → Option (ℕ × Region64)
region_read at (Ok (region, next)) = Some (at, region)
region_read at (Err f) = None

abbrev pub region_linked : Part → Span → ℕ → Option (Result Cie Fault) → Option (ℕ × Region64)
region_linked part s next None = None
region_linked part s next (Some cie) = region_read s.at (debug_region_at part s.stop next)

abbrev pub region_of : Part → List (ℕ × Result Cie Fault) → Span → Result (ℕ × ℕ) Fault → Option (ℕ × Region64)
region_of part cies s (Err f) = None
region_of part cies s (Ok (link, next)) = if is_cie link then None else region_linked part s next (cie_at_link cies link)

unfoldable pub debug_regions : Part → List (ℕ × Result Cie Fault) → List Span → List (ℕ × Region64)
debug_regions part cies spans = filter_map (λ s. region_of part cies s (link_at part s)) spans

-- the CIEs and FDEs of a section whose bytes begin at a place of the file, in the order of their places
unfoldable pub debug_frames_in : Part → Result Frames Fault
debug_frames_in part =
    let spans = debug_spans part in
    let cies = debug_cies part spans.list in
    let said = map (debug_says part cies) spans.list in
    answer (least (spans.cut ++ flat_map refusal_said said ++ overlaps part [] (debug_regions part cies spans.list)))
    (record { cies = filter_map cie_in said; fdes = filter_map fde_in said })

abbrev pub debug_frames : List ℕ → ℕ → Result Frames Fault
debug_frames bytes at = debug_frames_in (section_part bytes at)
