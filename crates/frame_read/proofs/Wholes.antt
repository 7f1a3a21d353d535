-- What is read of the parts is what the definition makes of them.
use Rattle.std.proofs.Common.{◌≡◌, ℕ, List, [], ◌++◌, map, flat_map, filter_map, length, Option, option_map, Result, ap, sym, subst, ◌∙◌, IsPermutation}
use Rattle.eh_bytes.specs.declared.frames.Region64.{Region64}
use Rattle.eh_bytes.specs.Memory.{Part}
use Rattle.table_forms.specs.Fault.{Fault, least, joined}
use Rattle.table_forms.specs.Cie as cies
use Rattle.table_forms.specs.Spans.{Span, Spans, spans_within}
use Rattle.table_forms.specs.Parts.{Parts, says, regions_of, cies_of, refusal_said, cie_in, fde_in, overlaps, parts_at}
use Rattle.frame_read.specs.Listed.{cie_listed, fde_listed}
use Rattle.frame_read.specs.Gathered.{Gathered, nothing, gathered}
use Rattle.frame_read.specs.Sweep.{first_overlap, meets_at}
use Rattle.frame_read.specs.Whole.{whole}
use Rattle.frame_read.proofs.Joined.{three}
use Rattle.frame_read.proofs.Gathers.{closed, gathers}
use Rattle.frame_read.proofs.Rises.{Rise, spans_rise, regions_rise}
use Rattle.frame_read.proofs.Sweeps.{From}
use Rattle.frame_read.proofs.Overlaps.{overlaps_swept}

abbrev parts_from : Part → Spans → Parts
parts_from part spans =
    let cies = cies_of part spans.list in
    let said = map (says part cies) spans.list in
    record {
      cies = filter_map cie_in said;
      fdes = filter_map fde_in said;
      faults = spans.cut ++ flat_map refusal_said said ++ overlaps part [] (regions_of part cies spans.list);
    }

-- with the refusal of the part that leaves its segment, and the first overlap
pub read_whole : (part : Part) (p : ℕ) (spans : List Span) (cut : List Fault) (entries : List (ℕ × Result cies.Cie Fault)) (g : Gathered) (sorted : List (ℕ × Region64)) →
    spans_within (length part.bytes) part p ≡ record { list = spans; cut = cut } → entries ≡ cies_of part spans → g ≡ gathered part entries nothing spans →
    IsPermutation g.regions sorted → From 0 sorted →
    record { cies = g.cies; fdes = g.fdes; least = joined (joined (least cut) g.least) (option_map (meets_at part) (first_overlap sorted)) } ≡ whole (parts_at part p)
unfolding parts_at
read_whole part p spans cut entries g sorted walked read made moved from =
    let said = map (says part (cies_of part spans)) spans in
    let flat = flat_map refusal_said said in
    let regions = regions_of part (cies_of part spans) spans in
    let listed = map cie_listed (filter_map cie_in said) in
    let fdes = map fde_listed (filter_map fde_in said) in
    let e : g ≡ closed nothing said regions =
    made ∙ gathers part entries nothing spans ∙ ap (λ (x : List (ℕ × Result cies.Cie Fault)). closed nothing (map (says part x) spans) (regions_of part x spans)) read in
    let moved' : IsPermutation regions sorted = subst (λ (x : Gathered). IsPermutation x.regions sorted) e moved in
    let rise : Rise p spans = subst (λ (x : Spans). Rise p x.list) walked (spans_rise (length part.bytes) part p) in
    let swept = overlaps_swept part p regions sorted (regions_rise part (cies_of part spans) p spans rise) moved' from in
    ap (λ (x : Gathered). record { cies = x.cies; fdes = x.fdes; least = joined (joined (least cut) x.least) (option_map (meets_at part) (first_overlap sorted)) }) e ∙
    ap (λ (o : Option Fault). record { cies = listed; fdes = fdes; least = joined (joined (least cut) (least flat)) o }) (sym swept) ∙
    ap (λ (o : Option Fault). record { cies = listed; fdes = fdes; least = o }) (sym (three cut flat (overlaps part [] regions))) ∙
    ap (λ (x : Spans). whole (parts_from part x)) (sym walked)
