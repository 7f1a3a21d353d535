-- The FDEs of a reading have regions that are apart and end in the address space.
use Rattle.std.proofs.Common.{◌≡◌, ◌<◌, ℕ, Bool, true, false, List, [], ◌∷◌, ◌++◌, map, refl, ap, sym, ◌∙◌, arith, subst, ◌+◌, ◌^◌, if◌then◌else◌}
use Rattle.std.specs.Prelude.{Option, Some, None, Result, Ok, Err, IfSome, filter_map, flat_map, nat_lt}
use Rattle.std.specs.Int.{w64}
use Rattle.std.specs.List.{AllByRecursion, cons_option, list_any}
use Rattle.std.proofs.lemmas.Bool.Decides.{nat_tests}
use Rattle.eh_bytes.specs.declared.frames.Region64.{Region64}
use Rattle.eh_bytes.specs.Field.{fixed}
use Rattle.eh_bytes.specs.Memory.{Part}
use Rattle.table_forms.specs.declared.reason.Reason.TheVariants.{FrameTruncated, Overlap}
use Rattle.table_forms.specs.Cie.{Cie}
use Rattle.table_forms.specs.Fault.{Fault, fault, ◌>>=◌, demand, least, answer}
use Rattle.table_forms.specs.Fde.{Fde, overlap}
use Rattle.table_forms.specs.Frames.{Frames}
use Rattle.table_forms.specs.Instruction.{in_frames}
use Rattle.table_forms.specs.Instructions.{Instructions, instructions_at}
use Rattle.table_forms.specs.Parts.{Said, cie_said, fde_said, cie_in, fde_in, overlaps, refusal_said}
use Rattle.table_forms.specs.Spans.{Span}
use Rattle.debug_frames.specs.DebugFde.{debug_region_at, debug_fde_at, orphan_at}
use Rattle.debug_frames.specs.DebugCie.{debug_cie_at}
use Rattle.debug_frames.specs.DebugParts.{is_cie, debug_cies, cie_at_link, orphan_said, fde_linked, part_said, debug_says, region_read, region_linked, region_of, debug_regions, debug_frames_in}
use Rattle.debug_frames.specs.DebugSpans.{section_part, debug_spans, link_at}
use Rattle.frame_read.specs.Sound.{IsSound}
use Rattle.debug_frames.specs.Laws.{ReadingIsSound}
use Rattle.table_forms.proofs.Least.{none_second}
use Rattle.frame_read.proofs.Spread.{none_refused, nil_right, fewer, IsRegion, AreSpread}

abbrev region_read_as : ℕ → ℕ → ℕ → Result (Region64 × ℕ) Fault
region_read_as a l m = Ok (record { start = a; length = l }, m)

abbrev with_len : Part → ℕ × ℕ → ℕ × ℕ → Result (Region64 × ℕ) Fault
with_len part start len = demand (nat_lt (start.0 + len.0) (2 ^ 64)) FrameTruncated (part.file_at + start.1) >>= λ ends. region_read_as start.0 len.0 len.1

region_ends : (part : Part) (stop p : ℕ) (r : Region64) (n : ℕ) → debug_region_at part stop p ≡ Ok (r, n) → r.start + r.length < 2 ^ 64
unfolding debug_region_at
region_ends part stop p r n e = by_start (in_frames (fixed w64) part stop p) e
  where
    by_test : (a l m place : ℕ) (b : Bool) → nat_lt (a + l) (2 ^ 64) ≡ b → ((if b then Ok b else Err (fault FrameTruncated place)) >>= λ ends. region_read_as a l m) ≡ Ok (r, n) → r.start + r.length < 2 ^ 64
    by_test a l m place true t e' =
        let whole : region_read_as a l m ≡ Ok (r, n) = e' in
        let same : record { start = a; length = l } ≡ r = ap (λ x. first x) whole in
        subst (λ x. x.start + x.length < 2 ^ 64) same (grind (arith, nat_tests, t))
      where
        first : Result (Region64 × ℕ) Fault → Region64
        first (Ok x) = x.0
        first (Err f) = r
    by_test a l m place false t e' = cc

    by_len : (start : ℕ × ℕ) (x : Result (ℕ × ℕ) Fault) → (x >>= λ len. with_len part start len) ≡ Ok (r, n) → r.start + r.length < 2 ^ 64
    by_len start (Err f) e' = cc
    by_len start (Ok len) e' = by_test start.0 len.0 len.1 (part.file_at + start.1) (nat_lt (start.0 + len.0) (2 ^ 64)) refl e'

    by_start : (x : Result (ℕ × ℕ) Fault) → (x >>= λ start. in_frames (fixed w64) part stop start.1 >>= λ len. with_len part start len) ≡ Ok (r, n) → r.start + r.length < 2 ^ 64
    by_start (Err f) e' = cc
    by_start (Ok start) e' = by_len start (in_frames (fixed w64) part stop start.1) e'

-- an FDE has the region that its part has
abbrev HasRegion : Part → ℕ → ℕ → Fde → Type 0
HasRegion part stop p f = (n : ℕ) × (debug_region_at part stop p ≡ Ok (f.region, n))

abbrev fde_with : Cie → Part → ℕ → Region64 → Instructions → Result Fde Fault
fde_with cie part at region is = Ok (record { address = part.address + at; place = part.file_at + at; region = region; lsda = 0; cie = cie; instructions = is.list })

fde_region : (cie : Cie) (part : Part) (at stop p : ℕ) → (x : Result Fde Fault) → debug_fde_at cie part at stop p ≡ x → (f : Fde) → x ≡ Ok f → HasRegion part stop p f
unfolding debug_fde_at
fde_region cie part at stop p x is f e = by_region (debug_region_at part stop p) refl (is ∙ e)
  where
    by_instructions : (region : Region64) (n : ℕ) (y : Result Instructions Fault) → (y >>= λ is'. fde_with cie part at region is') ≡ Ok f → region ≡ f.region
    by_instructions region n (Err g) e' = cc
    by_instructions region n (Ok is') e' = ap region_in e'
      where
        region_in : Result Fde Fault → Region64
        region_in (Ok h) = h.region
        region_in (Err g) = region

    by_region : (r : Result (Region64 × ℕ) Fault) → debug_region_at part stop p ≡ r →
        (r >>= λ region. instructions_at cie.coding part stop region.1 cie.states >>= λ is'. fde_with cie part at region.0 is') ≡ Ok f → HasRegion part stop p f
    by_region (Err g) at' e' = cc
    by_region (Ok (region, n)) at' e' =
        let same = by_instructions region n (instructions_at cie.coding part stop n cie.states) e' in
        (n, at' ∙ ap (λ (r : Region64). Ok (r, n)) same)

-- what a part gives as an FDE it gives as a region
said_region : (part : Part) (cies : List (ℕ × Result Cie Fault)) (s : Span) → IfSome (fde_in (debug_says part cies s)) (IsRegion s.at (region_of part cies s (link_at part s)))
unfolding debug_says
said_region part cies s = by_link (link_at part s)
  where
    by_cie : (x : Result Cie Fault) → IfSome (fde_in (cie_said x)) (IsRegion s.at None)
    by_cie (Ok c) = tt
    by_cie (Err f) = tt

    by_orphan : (o : Option (ℕ × Region64)) (x : Result Bool Fault) → IfSome (fde_in (orphan_said x)) (IsRegion s.at o)
    by_orphan o (Ok b) = tt
    by_orphan o (Err f) = tt

    by_fde : (next : ℕ) (cie : Cie) (x : Result Fde Fault) → debug_fde_at cie part s.at s.stop next ≡ x →
        IfSome (fde_in (fde_said x)) (IsRegion s.at (region_read s.at (debug_region_at part s.stop next)))
    by_fde next cie (Err f) is = tt
    by_fde next cie (Ok f) is =
        let has = fde_region cie part s.at s.stop next (Ok f) is f refl in
        (ap (region_read s.at) has.1, region_ends part s.stop next f.region has.0 has.1)

    by_found : (next : ℕ) (o : Option (Result Cie Fault)) → IfSome (fde_in (fde_linked part s next o)) (IsRegion s.at (region_linked part s next o))
    by_found next None = tt
    by_found next (Some (Err f)) = by_orphan (region_read s.at (debug_region_at part s.stop next)) (orphan_at part s.stop next)
    by_found next (Some (Ok cie)) = by_fde next cie (debug_fde_at cie part s.at s.stop next) refl

    by_kind : (link next : ℕ) (b : Bool) →
        IfSome (fde_in (if b then cie_said (debug_cie_at part s.at s.stop next) else fde_linked part s next (cie_at_link cies link)))
        (IsRegion s.at (if b then None else region_linked part s next (cie_at_link cies link)))
    by_kind link next true = by_cie (debug_cie_at part s.at s.stop next)
    by_kind link next false = by_found next (cie_at_link cies link)

    by_link : (r : Result (ℕ × ℕ) Fault) → IfSome (fde_in (part_said part cies s r)) (IsRegion s.at (region_of part cies s r))
    by_link (Err f) = tt
    by_link (Ok (link, next)) = by_kind link next (is_cie link)

spread : (part : Part) (cies : List (ℕ × Result Cie Fault)) (spans : List Span) (earlier : List Region64) →
    overlaps part earlier (filter_map (λ s. region_of part cies s (link_at part s)) spans) ≡ [] → AreSpread earlier (filter_map fde_in (map (debug_says part cies) spans))
spread part cies [] earlier e = record { own = tt; apart = tt; ends = tt }
spread part cies (s ∷ ss) earlier e =
    step (fde_in (debug_says part cies s)) (region_of part cies s (link_at part s)) (said_region part cies s) e (λ earlier' e'. spread part cies ss earlier' e')
  where
    rest_fdes : List Fde
    rest_fdes = filter_map fde_in (map (debug_says part cies) ss)

    regions : List (ℕ × Region64)
    regions = filter_map (λ t. region_of part cies t (link_at part t)) ss

    none_here : (b : Bool) (place : ℕ) (rest : List Fault) → (if b then fault Overlap place ∷ [] else []) ++ rest ≡ [] → b ≡ false
    none_here true place rest e' = cc
    none_here false place rest e' = refl

    step : (o : Option Fde) (r : Option (ℕ × Region64)) → IfSome o (IsRegion s.at r) → overlaps part earlier (cons_option r regions) ≡ [] →
        ((earlier' : List Region64) → overlaps part earlier' regions ≡ [] → AreSpread earlier' rest_fdes) → AreSpread earlier (cons_option o rest_fdes)
    step None None is e' more = more earlier e'
    step None (Some (at, region)) is e' more =
        let rest = more (region ∷ earlier) (nil_right (if list_any (overlap region) earlier then fault Overlap (part.file_at + at) ∷ [] else []) (overlaps part (region ∷ earlier) regions) e') in
        record { own = (fewer region earlier rest_fdes rest.own).0; apart = rest.apart; ends = rest.ends }
    step (Some f) None is e' more = cc
    step (Some f) (Some (at, region)) is e' more =
        let same : region ≡ f.region = ap (λ o. second o) is.0 in
        let rest = more (region ∷ earlier) (nil_right (if list_any (overlap region) earlier then fault Overlap (part.file_at + at) ∷ [] else []) (overlaps part (region ∷ earlier) regions) e') in
        let both = fewer region earlier rest_fdes rest.own in
        let none = none_here (list_any (overlap region) earlier) (part.file_at + at) (overlaps part (region ∷ earlier) regions) e' in
        record {
          own = (ap (λ r. list_any (overlap r) earlier) (sym same) ∙ none, both.0);
          apart = (subst (λ r. AllByRecursion (λ g. overlap r g.region ≡ false) rest_fdes) same both.1, rest.apart);
          ends = (is.1, rest.ends);
        }
      where
        second : Option (ℕ × Region64) → Region64
        second (Some x) = x.1
        second None = region

pub reading_is_sound : ReadingIsSound
unfolding debug_frames_in debug_regions
reading_is_sound bytes at frames read = by_fault (least faults) refl read
  where
    part : Part
    part = section_part bytes at

    cies : List (ℕ × Result Cie Fault)
    cies = debug_cies part (debug_spans part).list

    said : List Said
    said = map (debug_says part cies) (debug_spans part).list

    front : List Fault
    front = (debug_spans part).cut ++ flat_map refusal_said said

    behind : List Fault
    behind = overlaps part [] (debug_regions part cies (debug_spans part).list)

    faults : List Fault
    faults = front ++ behind

    of_frames : Result Frames Fault → List Fde
    of_frames (Ok x) = x.fdes
    of_frames (Err f) = []

    by_fault : (o : Option Fault) → least faults ≡ o → answer o (record { cies = filter_map cie_in said; fdes = filter_map fde_in said }) ≡ Ok frames → IsSound frames.fdes
    by_fault (Some f) none e = cc
    by_fault None none e =
        let whole = spread part cies (debug_spans part).list [] (none_refused behind (none_second front behind none)) in
        let same : filter_map fde_in said ≡ frames.fdes = ap of_frames e in
        subst IsSound same (record { apart = whole.apart; ends = whole.ends })
