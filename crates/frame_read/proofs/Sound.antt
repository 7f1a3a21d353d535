-- The FDEs of a reading of .eh_frame have regions that are apart and end in the address space.
use Rattle.std.proofs.Common.{◌≡◌, ◌<◌, ℕ, zero, suc, Bool, true, false, List, [], ◌∷◌, ◌++◌, map, refl, ap, sym, ◌∙◌, arith, subst, ◌+◌, ◌-◌, ◌%◌, ◌^◌, if◌then◌else◌}
use Rattle.std.specs.Prelude.{Option, Some, None, Result, Ok, Err, IfSome, option_map, filter_map, flat_map, nat_lt, length}
use Rattle.std.specs.List.{AllByRecursion, cons_option, list_any}
use Rattle.std.proofs.lemmas.Bool.Decides.{nat_tests}
use Rattle.eh_bytes.specs.declared.frames.Region64.{Region64}
use Rattle.eh_bytes.specs.declared.encoded.Pointer.{Pointer}
use Rattle.eh_bytes.specs.Encoded.{encoded}
use Rattle.eh_bytes.specs.Memory.{Part, Memory, part_with}
use Rattle.table_forms.specs.declared.reason.Reason.TheVariants.{FrameTruncated, Overlap}
use Rattle.table_forms.specs.Cie.{Cie, cie_at}
use Rattle.table_forms.specs.Fault.{Fault, fault, ◌>>=◌, demand, least, answer}
use Rattle.table_forms.specs.Fde.{Fde, overlap, region_at, lsda_at, fde_at}
use Rattle.table_forms.specs.Frames.{Frames, table_disagreement, parts_in, parts_behind, frames_in, frames_from, frames}
use Rattle.table_forms.specs.Header.{Header, header_at}
use Rattle.table_forms.specs.Instruction.{in_frames}
use Rattle.table_forms.specs.Instructions.{Instructions, instructions_at}
use Rattle.table_forms.specs.Parts.{Parts, cie_said, fde_said, said_behind, said_of, says, cie_behind, region_behind, region_of, regions_of, cies_of, fde_in, overlaps, refusal_said, parts_at}
use Rattle.table_forms.specs.Spans.{Span, spans_within, distance_at}
use Rattle.table_forms.proofs.Least.{none_second}
use Rattle.frame_read.specs.Sound.{IsSound}
use Rattle.frame_read.proofs.Spread.{none_refused, nil_right, fewer, IsRegion, AreSpread}

abbrev region_as : ℕ → ℕ → ℕ → Result (Region64 × ℕ) Fault
region_as a l m = Ok (record { start = a; length = l }, m)

abbrev with_len : Part → Pointer × ℕ → Pointer × ℕ → Result (Region64 × ℕ) Fault
with_len part start len = demand (nat_lt (start.0.value + len.0.value) (2 ^ 64)) FrameTruncated (part.file_at + start.1) >>= λ ends. region_as start.0.value len.0.value len.1

region_ends : (cie : Cie) (part : Part) (stop p : ℕ) (r : Region64) (n : ℕ) → region_at cie part stop p ≡ Ok (r, n) → r.start + r.length < 2 ^ 64
unfolding region_at
region_ends cie part stop p r n e = by_start (in_frames (encoded cie.coding.encoding (part.address + p)) part stop p) e
  where
    by_test : (a l m place : ℕ) (b : Bool) → nat_lt (a + l) (2 ^ 64) ≡ b → ((if b then Ok b else Err (fault FrameTruncated place)) >>= λ ends. region_as a l m) ≡ Ok (r, n) → r.start + r.length < 2 ^ 64
    by_test a l m place true t e' =
        let whole : region_as a l m ≡ Ok (r, n) = e' in
        let same : record { start = a; length = l } ≡ r = ap (λ x. first x) whole in
        subst (λ x. x.start + x.length < 2 ^ 64) same (grind (arith, nat_tests, t))
      where
        first : Result (Region64 × ℕ) Fault → Region64
        first (Ok x) = x.0
        first (Err f) = r
    by_test a l m place false t e' = cc

    by_len : (start : Pointer × ℕ) (x : Result (Pointer × ℕ) Fault) → (x >>= λ len. with_len part start len) ≡ Ok (r, n) → r.start + r.length < 2 ^ 64
    by_len start (Err f) e' = cc
    by_len start (Ok len) e' = by_test start.0.value len.0.value len.1 (part.file_at + start.1) (nat_lt (start.0.value + len.0.value) (2 ^ 64)) refl e'

    by_start : (x : Result (Pointer × ℕ) Fault) → (x >>= λ start. in_frames (encoded (cie.coding.encoding % 16) 0) part stop start.1 >>= λ len. with_len part start len) ≡ Ok (r, n) → r.start + r.length < 2 ^ 64
    by_start (Err f) e' = cc
    by_start (Ok start) e' = by_len start (in_frames (encoded (cie.coding.encoding % 16) 0) part stop start.1) e'

-- an FDE has the region that its part has
abbrev HasRegion : Cie → Part → ℕ → ℕ → Fde → Type 0
HasRegion cie part stop p f = (n : ℕ) × (region_at cie part stop p ≡ Ok (f.region, n))

abbrev fde_with : Cie → Part → ℕ → Region64 → ℕ → Instructions → Result Fde Fault
fde_with cie part at region lsda is = Ok (record { address = part.address + at; place = part.file_at + at; region = region; lsda = lsda; cie = cie; instructions = is.list })

fde_region : (cie : Cie) (part : Part) (at stop p : ℕ) (f : Fde) → fde_at cie part at stop p ≡ Ok f → HasRegion cie part stop p f
unfolding fde_at
fde_region cie part at stop p f e = by_region (region_at cie part stop p) refl e
  where
    region_in : Region64 → Result Fde Fault → Region64
    region_in region (Ok h) = h.region
    region_in region (Err g) = region

    by_instructions : (region : Region64) (lsda : ℕ) (y : Result Instructions Fault) → (y >>= λ is'. fde_with cie part at region lsda is') ≡ Ok f → region ≡ f.region
    by_instructions region lsda (Err g) e' = cc
    by_instructions region lsda (Ok is') e' = ap (region_in region) e'

    by_lsda : (region : Region64) (y : Result (ℕ × ℕ) Fault) → (y >>= λ lsda. instructions_at cie.coding part stop lsda.1 cie.states >>= λ is'. fde_with cie part at region lsda.0 is') ≡ Ok f → region ≡ f.region
    by_lsda region (Err g) e' = cc
    by_lsda region (Ok lsda) e' = by_instructions region lsda.0 (instructions_at cie.coding part stop lsda.1 cie.states) e'

    by_region : (r : Result (Region64 × ℕ) Fault) → region_at cie part stop p ≡ r →
        (r >>= λ region. lsda_at cie.augmentation cie part stop region.1 >>= λ lsda. instructions_at cie.coding part stop lsda.1 cie.states >>= λ is'. fde_with cie part at region.0 lsda.0 is') ≡ Ok f →
        HasRegion cie part stop p f
    by_region (Err g) at' e' = cc
    by_region (Ok (region, n)) at' e' =
        let same = by_lsda region (lsda_at cie.augmentation cie part stop n) e' in
        (n, at' ∙ ap (λ (r : Region64). Ok (r, n)) same)

said_region : (part : Part) (cies : List (ℕ × Result Cie Fault)) (s : Span) → IfSome (fde_in (says part cies s)) (IsRegion s.at (region_of part cies s (distance_at part s)))
unfolding says
said_region part cies s = by_distance (distance_at part s)
  where
    by_cie : (o : Option (ℕ × Region64)) (x : Result Cie Fault) → IfSome (fde_in (cie_said x)) (IsRegion s.at o)
    by_cie o (Ok c) = tt
    by_cie o (Err f) = tt

    by_fde : (next d : ℕ) (cie : Cie) (x : Result Fde Fault) → fde_at cie part s.at s.stop next ≡ x →
        IfSome (fde_in (fde_said x)) (IsRegion s.at (option_map (λ r. (s.at, r)) (region_behind part s next (Some (Ok cie)))))
    by_fde next d cie (Err f) is = tt
    by_fde next d cie (Ok f) is =
        let has = fde_region cie part s.at s.stop next f is in
        (rw (has.1) refl, region_ends cie part s.stop next f.region has.0 has.1)

    by_found : (next d : ℕ) (o : Option (Result Cie Fault)) → IfSome (fde_in (said_behind part s next o)) (IsRegion s.at (option_map (λ r. (s.at, r)) (region_behind part s next o)))
    by_found next d None = tt
    by_found next d (Some (Err f)) = tt
    by_found next d (Some (Ok cie)) = by_fde next d cie (fde_at cie part s.at s.stop next) refl

    by_distance : (r : Result (ℕ × ℕ) Fault) → IfSome (fde_in (said_of part cies s r)) (IsRegion s.at (region_of part cies s r))
    by_distance (Err f) = tt
    by_distance (Ok (zero, next)) = by_cie None (cie_at part s.at s.stop next)
    by_distance (Ok (suc d, next)) = by_found next d (cie_behind cies s.at (suc d))

spread : (part : Part) (cies : List (ℕ × Result Cie Fault)) (spans : List Span) (earlier : List Region64) →
    overlaps part earlier (filter_map (λ s. region_of part cies s (distance_at part s)) spans) ≡ [] → AreSpread earlier (filter_map fde_in (map (says part cies) spans))
spread part cies [] earlier e = record { own = tt; apart = tt; ends = tt }
spread part cies (s ∷ ss) earlier e =
    step (fde_in (says part cies s)) (region_of part cies s (distance_at part s)) (said_region part cies s) e (λ earlier' e'. spread part cies ss earlier' e')
  where
    rest_fdes : List Fde
    rest_fdes = filter_map fde_in (map (says part cies) ss)

    regions : List (ℕ × Region64)
    regions = filter_map (λ t. region_of part cies t (distance_at part t)) ss

    none_here : (b : Bool) (place : ℕ) (rest : List Fault) → (if b then fault Overlap place ∷ [] else []) ++ rest ≡ [] → b ≡ false
    none_here true place rest e' = cc
    none_here false place rest e' = refl

    step : (o : Option Fde) (r : Option (ℕ × Region64)) → IfSome o (IsRegion s.at r) → overlaps part earlier (cons_option r regions) ≡ [] →
        ((earlier' : List Region64) → overlaps part earlier' regions ≡ [] → AreSpread earlier' rest_fdes) → AreSpread earlier (cons_option o rest_fdes)
    step None None is e' more = more earlier e'
    step None (Some (at, region)) is e' more =
        let rest = more (region ∷ earlier) (nil_right (if list_any (overlap region) earlier then fault Overlap (part.file_at + at) ∷ [] else []) (overlaps part (region ∷ earlier) regions) e') in
        record { own = (fewer region earlier rest_fdes rest.own).0; apart = rest.apart; ends = rest.ends }
    step (Some f) None is e' more = cc
    step (Some f) (Some (at, region)) is e' more =
        let same : region ≡ f.region = ap (λ o. second o) is.0 in
        let rest = more (region ∷ earlier) (nil_right (if list_any (overlap region) earlier then fault Overlap (part.file_at + at) ∷ [] else []) (overlaps part (region ∷ earlier) regions) e') in
        let both = fewer region earlier rest_fdes rest.own in
        let none = none_here (list_any (overlap region) earlier) (part.file_at + at) (overlaps part (region ∷ earlier) regions) e' in
        record {
          own = (ap (λ r. list_any (overlap r) earlier) (sym same) ∙ none, both.0);
          apart = (subst (λ r. AllByRecursion (λ g. overlap r g.region ≡ false) rest_fdes) same both.1, rest.apart);
          ends = (is.1, rest.ends);
        }
      where
        second : Option (ℕ × Region64) → Region64
        second (Some x) = x.1
        second None = region

parts_sound : (part : Part) (p : ℕ) → least (parts_at part p).faults ≡ None → IsSound (parts_at part p).fdes
unfolding parts_at regions_of
parts_sound part p none =
    let spans = spans_within (length part.bytes) part p in
    let cies = cies_of part spans.list in
    let said = map (says part cies) spans.list in
    let behind = overlaps part [] (regions_of part cies spans.list) in
    let whole = spread part cies spans.list [] (none_refused behind (none_second (spans.cut ++ flat_map refusal_said said) behind none)) in
    record { apart = whole.apart; ends = whole.ends }

pub behind_sound : (memory : Memory) (place : ℕ) (o : Option ℕ) → least (parts_behind memory place o).faults ≡ None → IsSound (parts_behind memory place o).fdes
behind_sound memory place None none = record { apart = tt; ends = tt }
behind_sound memory place (Some a) none = by (part_with memory a) none
  where
    by : (found : Option Part) → least (parts_in place found a).faults ≡ None → IsSound (parts_in place found a).fdes
    by None e = record { apart = tt; ends = tt }
    by (Some part) e = parts_sound part (a - part.address) e

in_sound : (memory : Memory) (p : ℕ) (part : Part) (read : Frames) → frames_in memory p part ≡ Ok read → IsSound read.fdes
unfolding frames_in
in_sound memory p part read e = by_first (least (header.faults ++ parts.faults)) refl e
  where
    header : Header
    header = header_at part p

    parts : Parts
    parts = parts_behind memory (part.file_at + (p + 4)) header.frames_at

    table : Option Fault
    table = table_disagreement (part.file_at + (p + 12)) header.rows parts.fdes

    fdes_of : Result Frames Fault → List Fde
    fdes_of (Ok x) = x.fdes
    fdes_of (Err f) = parts.fdes

    by_table : (o : Option Fault) → least (header.faults ++ parts.faults) ≡ None → answer o (record { cies = parts.cies; fdes = parts.fdes }) ≡ Ok read → IsSound read.fdes
    by_table (Some f) none e' = cc
    by_table None none e' =
        let same : parts.fdes ≡ read.fdes = ap fdes_of e' in
        subst IsSound same (behind_sound memory (part.file_at + (p + 4)) header.frames_at (none_second header.faults parts.faults none))

    by_first : (o : Option Fault) → least (header.faults ++ parts.faults) ≡ o → (answer o true >>= λ whole. answer table (record { cies = parts.cies; fdes = parts.fdes })) ≡ Ok read → IsSound read.fdes
    by_first (Some f) is e' = cc
    by_first None is e' = by_table table is e'

-- the FDEs of a reading are sound
pub frames_sound : (memory : Memory) (header : ℕ) (read : Frames) → frames memory header ≡ Ok read → IsSound read.fdes
unfolding frames
frames_sound memory header read e = by (part_with memory header) e
  where
    by : (o : Option Part) → frames_from memory header o ≡ Ok read → IsSound read.fdes
    by None e' = cc
    by (Some part) e' = in_sound memory (header - part.address) part read e'
