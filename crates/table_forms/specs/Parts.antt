-- What the parts of .eh_frame say (LSB Core, "The .eh_frame section"): behind its length a part has 0 for a CIE, or the distance back to one.
use Rattle.std.specs.Prelude.{ℕ, zero, suc, ◌+◌, ◌==◌, List, [], ◌∷◌, ◌++◌, length, map, flat_map, find, filter_map, Option, Some, None, option_map, Result, Ok, Err, if◌then◌else◌}
use Rattle.std.specs.List.{list_any}
use Rattle.eh_bytes.specs.declared.frames.Region64.{Region64}
use Rattle.eh_bytes.specs.Memory.{Part}
use Rattle.table_forms.specs.declared.reason.Reason.TheVariants.{CieLink, Overlap}
use Rattle.table_forms.specs.Fault.{Fault, fault}
use Rattle.table_forms.specs.Cie.{Cie, cie_at}
use Rattle.table_forms.specs.Fde.{Fde, fde_at, region_at, overlap}
use Rattle.table_forms.specs.Spans.{Span, spans_within, distance_at}

-- the CIEs that can be read and those that can't, by where they stand
abbrev pub cie_of : Part → Span → Result (ℕ × ℕ) Fault → Option (ℕ × Result Cie Fault)
cie_of part s (Err f) = None
cie_of part s (Ok (zero, next)) = Some (s.at, cie_at part s.at s.stop next)
cie_of part s (Ok (suc d, next)) = None

unfoldable pub cies_of : Part → List Span → List (ℕ × Result Cie Fault)
cies_of part spans = filter_map (λ s. cie_of part s (distance_at part s)) spans

-- the CIE from which the distance leads to the field at s + 4
abbrev pub cie_behind : List (ℕ × Result Cie Fault) → ℕ → ℕ → Option (Result Cie Fault)
cie_behind cies at distance = option_map (λ c. c.1) (find (λ c. c.0 + distance == at + 4) cies)

-- what a part says
pub data Said : Type 0 where
  refused : Fault → Said
  said_cie : Cie → Said
  said_fde : Fde → Said
  unread : Said

abbrev pub cie_said : Result Cie Fault → Said
cie_said (Ok cie) = said_cie cie
cie_said (Err f) = refused f

abbrev pub fde_said : Result Fde Fault → Said
fde_said (Ok f) = said_fde f
fde_said (Err f) = refused f

-- refused at the distance, where it leads to no CIE. The FDEs of a refused CIE stay unread
abbrev pub said_behind : Part → Span → ℕ → Option (Result Cie Fault) → Said
said_behind part s next None = refused (fault CieLink (part.file_at + s.at + 4))
said_behind part s next (Some (Err f)) = unread
said_behind part s next (Some (Ok cie)) = fde_said (fde_at cie part s.at s.stop next)

abbrev pub said_of : Part → List (ℕ × Result Cie Fault) → Span → Result (ℕ × ℕ) Fault → Said
said_of part cies s (Err f) = refused f
said_of part cies s (Ok (zero, next)) = cie_said (cie_at part s.at s.stop next)
said_of part cies s (Ok (suc d, next)) = said_behind part s next (cie_behind cies s.at (suc d))

unfoldable pub says : Part → List (ℕ × Result Cie Fault) → Span → Said
says part cies s = said_of part cies s (distance_at part s)

-- the region of an FDE's part, as soon as it was read
abbrev pub region_behind : Part → Span → ℕ → Option (Result Cie Fault) → Option Region64
region_behind part s next (Some (Ok cie)) = region_read (region_at cie part s.stop next)
  where
    region_read : Result (Region64 × ℕ) Fault → Option Region64
    region_read (Ok (region, behind)) = Some region
    region_read (Err f) = None
region_behind part s next _ = None

abbrev pub region_of : Part → List (ℕ × Result Cie Fault) → Span → Result (ℕ × ℕ) Fault → Option (ℕ × Region64)
region_of part cies s (Ok (suc d, next)) = option_map (λ r. (s.at, r)) (region_behind part s next (cie_behind cies s.at (suc d)))
region_of part cies s _ = None

unfoldable pub regions_of : Part → List (ℕ × Result Cie Fault) → List Span → List (ℕ × Region64)
regions_of part cies spans = filter_map (λ s. region_of part cies s (distance_at part s)) spans

-- a region that overlaps an earlier one is refused at the later part
abbrev pub overlaps : Part → List Region64 → List (ℕ × Region64) → List Fault
overlaps part earlier [] = []
overlaps part earlier ((at, region) ∷ rest) =
    (if list_any (overlap region) earlier then fault Overlap (part.file_at + at) ∷ [] else []) ++
    overlaps part (region ∷ earlier) rest

abbrev pub refusal_said : Said → List Fault
refusal_said (refused f) = f ∷ []
refusal_said _ = []

abbrev pub cie_in : Said → Option Cie
cie_in (said_cie c) = Some c
cie_in _ = None

abbrev pub fde_in : Said → Option Fde
fde_in (said_fde f) = Some f
fde_in _ = None

-- the CIEs and FDEs in the order of their places, and all that is refused
pub record Parts : Type 0 where
  pub cies : List Cie
  pub fdes : List Fde
  pub faults : List Fault

-- the parts from a place of the segment on
unfoldable pub parts_at : Part → ℕ → Parts
parts_at part p =
    let spans = spans_within (length part.bytes) part p in
    let cies = cies_of part spans.list in
    let said = map (says part cies) spans.list in
    record {
      cies = filter_map cie_in said;
      fdes = filter_map fde_in said;
      faults = spans.cut ++ flat_map refusal_said said ++ overlaps part [] (regions_of part cies spans.list);
    }
