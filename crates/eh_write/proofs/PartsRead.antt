-- The parts of a written list are read as its frames.
use Rattle.std.proofs.Common.{◌≡◌, ◌+◌, ◌-◌, ◌%◌, ◌<◌, ◌==◌, ℕ, zero, suc, Bool, true, false, List, [], ◌∷◌, ◌++◌, length, map, Ok, Err, Result, Some, refl, ap, sym, subst, ◌∙◌, arith, if◌then◌else◌}
use Rattle.std.specs.Prelude.{Option, ⊤, None, flat_map, filter_map, option_map, ◌||◌}
use Rattle.std.specs.Int.{w32}
use Rattle.std.specs.List.{AllByRecursion, AllZip, list_any, cons_option}
use Rattle.std.proofs.lemmas.Bool.Decides.{nat_tests}
use Rattle.eh_bytes.specs.declared.frames.Region64.{Region64}
use Rattle.eh_bytes.specs.Memory.{Part}
use Rattle.eh_bytes.specs.Field.{fixed}
use Rattle.eh_bytes.specs.Listed.{ListedFrame, ListedFrames}
use Rattle.table_forms.specs.declared.reason.Reason.TheVariants.{Overlap}
use Rattle.table_forms.specs.Fault.{Fault, fault}
use Rattle.table_forms.specs.Instruction.{in_frames}
use Rattle.table_forms.specs.Spans.{Span, Spans, spans_within, distance_at}
use Rattle.table_forms.specs.Cie.{Cie, cie_at}
use Rattle.table_forms.specs.Fde.{Fde, fde_at, region_at, overlap}
use Rattle.table_forms.specs.Parts.{cie_of, cies_of, cie_behind, said_cie, said_fde, said_behind, said_of, fde_said, cie_said, says, region_behind, region_of, regions_of, overlaps, refusal_said, cie_in, fde_in, Parts, parts_at}
use Rattle.table_forms.specs.WrittenFrames.{FdeStands, FramesStand}
use Rattle.eh_write.specs.WrittenFrames.{fde_body, fde_bytes}
use Rattle.eh_write.specs.CanWriteFrames.{FrameIsGood, AreApart}
use Rattle.eh_write.proofs.CieRead as read
use Rattle.eh_write.proofs.FdeRead.{fde_of, fde_stands}
use Rattle.eh_write.proofs.SpansRead.{body_size, spans_of}

-- what is read of an FDE at a place, whose CIE stands at another
pub record FdeAt (tables : Bool) (part : Part) (c p stop k : ℕ) (f : ListedFrame) : Type 0 where
  pub back : ℕ
  pub some : 0 < back
  pub leads : c + back ≡ p + 4
  pub distance : in_frames (fixed w32) part stop (p + 4) ≡ Ok (back, p + 4 + 4)
  pub region : region_at (read.cie_of tables part c) part stop (p + 4 + 4) ≡ Ok (f.region, p + 4 + 4 + 4 + 4)
  pub fde : fde_at (read.cie_of tables part c) part p stop (p + 4 + 4) ≡ Ok (fde_of tables part c p k f)

-- how many nops end the FDE of a frame
abbrev pub nops_in : Bool → ℕ → ℕ → ListedFrame → ℕ
nops_in tables cie address f = (4 - length (fde_body tables cie address f) % 4) % 4

-- what is read of FDEs in a row
abbrev pub AllFdes : Bool → Part → ℕ → ℕ → ℕ → ℕ → List ListedFrame → Type 0
AllFdes tables part c cie address p [] = ⊤
AllFdes tables part c cie address p (f ∷ fs) =
    let size = body_size tables cie address f in
    FdeAt tables part c p (p + 4 + size) (nops_in tables cie address f) f × AllFdes tables part c cie (address + length (fde_bytes tables cie address f)) (p + 4 + size) fs

abbrev pub fdes_of : Bool → Part → ℕ → ℕ → ℕ → ℕ → List ListedFrame → List Fde
fdes_of tables part c cie address p [] = []
fdes_of tables part c cie address p (f ∷ fs) =
    fde_of tables part c p (nops_in tables cie address f) f ∷
    fdes_of tables part c cie (address + length (fde_bytes tables cie address f)) (p + 4 + body_size tables cie address f) fs

abbrev places : Bool → ℕ → ℕ → ℕ → List ListedFrame → List (ℕ × Region64)
places tables cie address p [] = []
places tables cie address p (f ∷ fs) =
    (p, f.region) ∷ places tables cie (address + length (fde_bytes tables cie address f)) (p + 4 + body_size tables cie address f) fs

abbrev Cies : Type 0
Cies = List (ℕ × Result Cie Fault)

abbrev one_cie : Bool → Part → ℕ → Cies
one_cie tables part c = (c, Ok (read.cie_of tables part c)) ∷ []

-- the distance leads to the one CIE
back_to : (tables : Bool) (part : Part) (c p back : ℕ) → c + back ≡ p + 4 → cie_behind (one_cie tables part c) p back ≡ Some (Ok (read.cie_of tables part c))
back_to tables part c p back leads =
    let test : (c + back == p + 4) ≡ true = grind (arith, nat_tests, leads) in
    ap (λ b. option_map (λ (x : ℕ × Result Cie Fault). x.1) (if b then Some (c, Ok (read.cie_of tables part c)) else None)) test

-- a part with a distance is no CIE
no_cie : (part : Part) (s : Span) (back next : ℕ) → 0 < back → cie_of part s (Ok (back, next)) ≡ None
no_cie part s zero next some = absurd (omega (arith, some))
no_cie part s (suc d) next some = refl

an_fde : (part : Part) (cies : Cies) (s : Span) (back next : ℕ) → 0 < back → said_of part cies s (Ok (back, next)) ≡ said_behind part s next (cie_behind cies s.at back)
an_fde part cies s zero next some = absurd (omega (arith, some))
an_fde part cies s (suc d) next some = refl

its_region : (part : Part) (cies : Cies) (s : Span) (back next : ℕ) → 0 < back →
    region_of part cies s (Ok (back, next)) ≡ option_map (λ r. (s.at, r)) (region_behind part s next (cie_behind cies s.at back))
its_region part cies s zero next some = absurd (omega (arith, some))
its_region part cies s (suc d) next some = refl

fde_says : (tables : Bool) (part : Part) (c p stop k : ℕ) (f : ListedFrame) → FdeAt tables part c p stop k f →
    says part (one_cie tables part c) (record { at = p; stop = stop }) ≡ said_fde (fde_of tables part c p k f)
unfolding says
fde_says tables part c p stop k f at =
    let s : Span = record { at = p; stop = stop } in
    ap (said_of part (one_cie tables part c) s) at.distance ∙ an_fde part (one_cie tables part c) s at.back (p + 4 + 4) at.some ∙
    ap (said_behind part s (p + 4 + 4)) (back_to tables part c p at.back at.leads) ∙ ap fde_said at.fde

region_said : (tables : Bool) (part : Part) (c p stop k : ℕ) (f : ListedFrame) → FdeAt tables part c p stop k f →
    region_of part (one_cie tables part c) (record { at = p; stop = stop }) (distance_at part (record { at = p; stop = stop })) ≡ Some (p, f.region)
region_said tables part c p stop k f at =
    let s : Span = record { at = p; stop = stop } in
    ap (region_of part (one_cie tables part c) s) at.distance ∙ its_region part (one_cie tables part c) s at.back (p + 4 + 4) at.some ∙
    ap (λ x. option_map (λ r. (p, r)) (region_behind part s (p + 4 + 4) x)) (back_to tables part c p at.back at.leads) ∙
    ap (λ r. option_map (λ x. (p, x)) (region_got r)) at.region
  where
    region_got : Result (Region64 × ℕ) Fault → Option Region64
    region_got (Ok (region, behind)) = Some region
    region_got (Err f') = None

-- the CIEs, sayings and regions of FDEs in a row
fdes_no_cies : (tables : Bool) (part : Part) (c cie address p : ℕ) (frames : List ListedFrame) → AllFdes tables part c cie address p frames →
    filter_map (λ s. cie_of part s (distance_at part s)) (spans_of tables cie address p frames) ≡ []
fdes_no_cies tables part c cie address p [] all = refl
fdes_no_cies tables part c cie address p (f ∷ fs) all =
    let size = body_size tables cie address f in
    let s : Span = record { at = p; stop = p + 4 + size } in
    let others = spans_of tables cie (address + length (fde_bytes tables cie address f)) (p + 4 + size) fs in
    let none : cie_of part s (distance_at part s) ≡ None = ap (cie_of part s) all.0.distance ∙ no_cie part s all.0.back (p + 4 + 4) all.0.some in
    ap (λ x. cons_option x (filter_map (λ s. cie_of part s (distance_at part s)) others)) none ∙
    fdes_no_cies tables part c cie (address + length (fde_bytes tables cie address f)) (p + 4 + size) fs all.1

fdes_say : (tables : Bool) (part : Part) (c cie address p : ℕ) (frames : List ListedFrame) → AllFdes tables part c cie address p frames →
    map (says part (one_cie tables part c)) (spans_of tables cie address p frames) ≡ map said_fde (fdes_of tables part c cie address p frames)
fdes_say tables part c cie address p [] all = refl
fdes_say tables part c cie address p (f ∷ fs) all =
    let size = body_size tables cie address f in
    let others = spans_of tables cie (address + length (fde_bytes tables cie address f)) (p + 4 + size) fs in
    let k = nops_in tables cie address f in
    ap (λ x. x ∷ map (says part (one_cie tables part c)) others) (fde_says tables part c p (p + 4 + size) k f all.0) ∙
    ap (λ xs. said_fde (fde_of tables part c p k f) ∷ xs) (fdes_say tables part c cie (address + length (fde_bytes tables cie address f)) (p + 4 + size) fs all.1)

fdes_regions : (tables : Bool) (part : Part) (c cie address p : ℕ) (frames : List ListedFrame) → AllFdes tables part c cie address p frames →
    filter_map (λ s. region_of part (one_cie tables part c) s (distance_at part s)) (spans_of tables cie address p frames) ≡ places tables cie address p frames
fdes_regions tables part c cie address p [] all = refl
fdes_regions tables part c cie address p (f ∷ fs) all =
    let size = body_size tables cie address f in
    let others = spans_of tables cie (address + length (fde_bytes tables cie address f)) (p + 4 + size) fs in
    ap (λ x. cons_option x (filter_map (λ s. region_of part (one_cie tables part c) s (distance_at part s)) others)) (region_said tables part c p (p + 4 + size) (nops_in tables cie address f) f all.0) ∙
    ap (λ xs. (p, f.region) ∷ xs) (fdes_regions tables part c cie (address + length (fde_bytes tables cie address f)) (p + 4 + size) fs all.1)

-- nothing overlaps
none_overlaps : (region : Region64) (earlier : List Region64) → AllByRecursion (λ r. overlap region r ≡ false) earlier → list_any (overlap region) earlier ≡ false
none_overlaps region [] apart = refl
none_overlaps region (r ∷ rs) apart = ap (λ b. b || list_any (overlap region) rs) apart.0 ∙ none_overlaps region rs apart.1

regions_apart : (tables : Bool) (part : Part) (cie address p : ℕ) (earlier : List Region64) (frames : List ListedFrame) → AreApart earlier frames →
    overlaps part earlier (places tables cie address p frames) ≡ []
regions_apart tables part cie address p earlier [] apart = refl
regions_apart tables part cie address p earlier (f ∷ fs) apart =
    let address2 = address + length (fde_bytes tables cie address f) in
    let p2 = p + 4 + body_size tables cie address f in
    let others = overlaps part (f.region ∷ earlier) (places tables cie address2 p2 fs) in
    ap (λ b. (if b then fault Overlap (part.file_at + p) ∷ [] else []) ++ others) (none_overlaps f.region earlier apart.0) ∙
    regions_apart tables part cie address2 p2 (f.region ∷ earlier) fs apart.1

says_is : (part : Part) (cies : Cies) (s : Span) → says part cies s ≡ said_of part cies s (distance_at part s)
unfolding says
says_is part cies s = refl

-- FDEs alone refuse nothing
fdes_alone : (fdes : List Fde) → flat_map refusal_said (map said_fde fdes) ≡ []
fdes_alone [] = refl
fdes_alone (f ∷ fs) = fdes_alone fs

fdes_back : (fdes : List Fde) → filter_map fde_in (map said_fde fdes) ≡ fdes
fdes_back [] = refl
fdes_back (f ∷ fs) = ap (λ x. f ∷ x) (fdes_back fs)

all_stand : (tables : Bool) (part : Part) (c cie address p first end : ℕ) (frames : List ListedFrame) → AllByRecursion (FrameIsGood tables first end) frames →
    AllZip FdeStands frames (fdes_of tables part c cie address p frames)
all_stand tables part c cie address p first end [] good = tt
all_stand tables part c cie address p first end (f ∷ fs) good = (
  fde_stands tables c part p first end (nops_in tables cie address f) f good.0,
  all_stand tables part c cie (address + length (fde_bytes tables cie address f)) (p + 4 + body_size tables cie address f) first end fs good.1,
)

-- the CIE and the FDEs of a list from a place on
pub parts_read : (tables : Bool) (part : Part) (c stop cie address first end : ℕ) (frames : List ListedFrame) →
    spans_within (length part.bytes) part c ≡ record { list = record { at = c; stop = stop } ∷ spans_of tables cie address stop frames; cut = [] } →
    in_frames (fixed w32) part stop (c + 4) ≡ Ok (0, c + 4 + 4) → cie_at part c stop (c + 4 + 4) ≡ Ok (read.cie_of tables part c) →
    AllFdes tables part c cie address stop frames → AllByRecursion (FrameIsGood tables first end) frames → AreApart [] frames →
    (list : ListedFrames) → list.frames ≡ frames → FramesStand list (parts_at part c)
unfolding parts_at cies_of regions_of
parts_read tables part c stop cie address first end frames spans none first_cie all good apart list same =
    subst (λ s. FramesStand list (from_spans s)) (sym spans) (record { whole = whole; fdes = subst (λ fs. AllZip FdeStands fs (from_spans read_spans).fdes) (sym same) stand })
  where
    s0 : Span
    s0 = record { at = c; stop = stop }

    tail : List Span
    tail = spans_of tables cie address stop frames

    read_spans : Spans
    read_spans = record { list = s0 ∷ tail; cut = [] }

    from_spans : Spans → Parts
    from_spans s =
        let cies = filter_map (λ x. cie_of part x (distance_at part x)) s.list in
        let said = map (says part cies) s.list in
        record {
          cies = filter_map cie_in said;
          fdes = filter_map fde_in said;
          faults = s.cut ++ flat_map refusal_said said ++ overlaps part [] (filter_map (λ x. region_of part cies x (distance_at part x)) s.list);
        }

    cies_are : filter_map (λ x. cie_of part x (distance_at part x)) (s0 ∷ tail) ≡ one_cie tables part c
    cies_are =
        ap (λ r. cons_option (cie_of part s0 r) (filter_map (λ x. cie_of part x (distance_at part x)) tail)) none ∙
        ap (λ r. (c, r) ∷ filter_map (λ x. cie_of part x (distance_at part x)) tail) first_cie ∙
        ap (λ xs. (c, Ok (read.cie_of tables part c)) ∷ xs) (fdes_no_cies tables part c cie address stop frames all)

    fdes : List Fde
    fdes = fdes_of tables part c cie address stop frames

    cie_says : says part (one_cie tables part c) s0 ≡ said_cie (read.cie_of tables part c)
    cie_says = says_is part (one_cie tables part c) s0 ∙ ap (said_of part (one_cie tables part c) s0) none ∙ ap cie_said first_cie

    said_are : map (says part (one_cie tables part c)) (s0 ∷ tail) ≡ said_cie (read.cie_of tables part c) ∷ map said_fde fdes
    said_are = ap (λ x. x ∷ map (says part (one_cie tables part c)) tail) cie_says ∙ ap (λ xs. said_cie (read.cie_of tables part c) ∷ xs) (fdes_say tables part c cie address stop frames all)

    regions_are : filter_map (λ x. region_of part (one_cie tables part c) x (distance_at part x)) (s0 ∷ tail) ≡ places tables cie address stop frames
    regions_are =
        ap (λ r. cons_option (region_of part (one_cie tables part c) s0 r) (filter_map (λ x. region_of part (one_cie tables part c) x (distance_at part x)) tail)) none ∙
        fdes_regions tables part c cie address stop frames all

    whole : (from_spans read_spans).faults ≡ []
    whole =
        ap (λ cies. flat_map refusal_said (map (says part cies) (s0 ∷ tail)) ++ overlaps part [] (filter_map (λ x. region_of part cies x (distance_at part x)) (s0 ∷ tail))) cies_are ∙
        ap (λ said. flat_map refusal_said said ++ overlaps part [] (filter_map (λ x. region_of part (one_cie tables part c) x (distance_at part x)) (s0 ∷ tail))) said_are ∙
        ap (λ xs. xs ++ overlaps part [] (filter_map (λ x. region_of part (one_cie tables part c) x (distance_at part x)) (s0 ∷ tail))) (fdes_alone fdes) ∙
        ap (overlaps part []) regions_are ∙ regions_apart tables part cie address stop [] frames apart

    fdes_are : (from_spans read_spans).fdes ≡ fdes
    fdes_are =
        ap (λ cies. filter_map fde_in (map (says part cies) (s0 ∷ tail))) cies_are ∙ ap (filter_map fde_in) said_are ∙ fdes_back fdes

    stand : AllZip FdeStands frames (from_spans read_spans).fdes
    stand = subst (AllZip FdeStands frames) (sym fdes_are) (all_stand tables part c cie address stop first end frames good)
