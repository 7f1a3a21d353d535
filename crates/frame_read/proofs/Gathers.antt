-- What is gathered of the parts is what the definition makes of them.
use Rattle.std.proofs.Common.{◌≡◌, ℕ, List, [], ◌∷◌, ◌++◌, map, flat_map, filter_map, Option, Some, None, Result, refl, ap, sym, ◌∙◌, append_assoc, append-nil}
use Rattle.std.specs.List.{cons_option}
use Rattle.eh_bytes.specs.declared.frames.Region64.{Region64}
use Rattle.eh_bytes.specs.Memory.{Part}
use Rattle.table_forms.specs.Fault.{Fault, least, joined}
use Rattle.table_forms.specs.Cie as cies
use Rattle.table_forms.specs.Spans.{Span, distance_at}
use Rattle.table_forms.specs.Parts.{Said, refused, said_cie, said_fde, unread, says, region_of, regions_of, refusal_said, cie_in, fde_in}
use Rattle.table_forms.proofs.Least.{joined_none, joined_joined}
use Rattle.frame_read.specs.Listed.{cie_listed, fde_listed}
use Rattle.frame_read.specs.Gathered.{Gathered, and_said, and_region, and_part, gathered}

-- behind what is gathered, what more parts say
abbrev pub closed : Gathered → List Said → List (ℕ × Region64) → Gathered
closed g said regions = record {
  cies = g.cies ++ map cie_listed (filter_map cie_in said);
  fdes = g.fdes ++ map fde_listed (filter_map fde_in said);
  regions = g.regions ++ regions;
  least = joined g.least (least (flat_map refusal_said said));
}

with_said : (g : Gathered) (x : Said) (said : List Said) (regions : List (ℕ × Region64)) → closed (and_said g x) said regions ≡ closed g (x ∷ said) regions
unfolding least
with_said g (refused f) said regions =
    ap (λ o. record { cies = g.cies ++ map cie_listed (filter_map cie_in said); fdes = g.fdes ++ map fde_listed (filter_map fde_in said); regions = g.regions ++ regions; least = o })
    (sym (joined_joined g.least (Some f) (least (flat_map refusal_said said))))
with_said g (said_cie c) said regions =
    ap (λ xs. record { cies = xs; fdes = g.fdes ++ map fde_listed (filter_map fde_in said); regions = g.regions ++ regions; least = joined g.least (least (flat_map refusal_said said)) })
    (append_assoc g.cies (cie_listed c ∷ []) (map cie_listed (filter_map cie_in said)))
with_said g (said_fde f) said regions =
    ap (λ xs. record { cies = g.cies ++ map cie_listed (filter_map cie_in said); fdes = xs; regions = g.regions ++ regions; least = joined g.least (least (flat_map refusal_said said)) })
    (append_assoc g.fdes (fde_listed f ∷ []) (map fde_listed (filter_map fde_in said)))
with_said g unread said regions = refl

with_region : (g : Gathered) (o : Option (ℕ × Region64)) (said : List Said) (regions : List (ℕ × Region64)) → closed (and_region g o) said regions ≡ closed g said (cons_option o regions)
with_region g None said regions = refl
with_region g (Some r) said regions =
    ap (λ xs. record { cies = g.cies ++ map cie_listed (filter_map cie_in said); fdes = g.fdes ++ map fde_listed (filter_map fde_in said); regions = xs; least = joined g.least (least (flat_map refusal_said said)) })
    (append_assoc g.regions (r ∷ []) regions)

pub gathers : (part : Part) (entries : List (ℕ × Result cies.Cie Fault)) (g : Gathered) (spans : List Span) →
    gathered part entries g spans ≡ closed g (map (says part entries) spans) (regions_of part entries spans)
unfolding regions_of least
gathers part entries g [] =
    ap (λ xs. record { cies = xs; fdes = g.fdes; regions = g.regions; least = g.least }) (sym (append-nil g.cies)) ∙
    ap (λ xs. record { cies = g.cies ++ []; fdes = xs; regions = g.regions; least = g.least }) (sym (append-nil g.fdes)) ∙
    ap (λ xs. record { cies = g.cies ++ []; fdes = g.fdes ++ []; regions = xs; least = g.least }) (sym (append-nil g.regions)) ∙
    ap (λ o. record { cies = g.cies ++ []; fdes = g.fdes ++ []; regions = g.regions ++ []; least = o }) (joined_none g.least)
gathers part entries g (s ∷ spans) =
    let said = map (says part entries) spans in let regions = regions_of part entries spans in
    let here = region_of part entries s (distance_at part s) in
    gathers part entries (and_part part entries g s) spans ∙
    with_region (and_said g (says part entries s)) here said regions ∙
    with_said g (says part entries s) said (cons_option here regions)
