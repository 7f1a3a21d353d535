-- Where nothing is refused, the addresses of sites are those of 64 bits.
use Rattle.std.proofs.Common.{◌≡◌, ◌<◌, ◌+◌, ◌^◌, ◌==◌, ◌&&◌, ◌||◌, ℕ, suc, Bool, true, false, nat_le, List, [], ◌∷◌, ◌++◌, map, None, refl, ap, ◌∙◌, arith}
use Rattle.std.specs.List.{list_all}
use Rattle.std.proofs.lemmas.Bool.Decides.{nat_tests}
use Rattle.eh_bytes.specs.declared.frames.Region64.{Region64}
use Rattle.eh_bytes.specs.declared.segment.Segment.{Segment}
use Rattle.eh_bytes.specs.Extent.{AreInRange, extents_of, extent_of}
use Rattle.eh_bytes.specs.Memory.{Part, part_of, covers, is_code}
use Rattle.table_forms.specs.declared.reason.Reason.TheVariants.{SiteOrder, SiteOutside, PadOutside}
use Rattle.table_forms.specs.Fault.{least, unless}
use Rattle.table_forms.specs.LsdaHead.{Head}
use Rattle.table_forms.specs.LsdaSites.{SiteRecord, site_of, site_faults, site_records}
use Rattle.table_forms.specs.declared.found.Site.{Site}
use Rattle.table_forms.specs.Lsda.{records_faults, action_faults, table_faults}
use Rattle.table_forms.proofs.Least.{none_first, none_second, holds}
use Rattle.lsda_read.specs.Names.{site_fits}

-- the first of two tests that both hold
pub first_holds : (x y : Bool) → (x && y) ≡ true → x ≡ true
first_holds true y e = refl
first_holds false y e = absurd cc

-- code lies below the end of the address space
pub code_below : (parts : List Segment) (a : ℕ) → AreInRange (extents_of parts) → is_code (map part_of parts) a ≡ true → a < 2 ^ 64
code_below [] a range code = absurd cc
code_below (s ∷ parts) a range code =
    by_first (s.exec && covers (part_of s) a) refl code (code_below parts a (λ i t at. range (suc i) t at))
  where
    second : (x y : Bool) → (x && y) ≡ true → y ≡ true
    second true y e = e
    second false y e = absurd cc

    by_first : (b : Bool) → (s.exec && covers (part_of s) a) ≡ b → (b || is_code (map part_of parts) a) ≡ true →
        (is_code (map part_of parts) a ≡ true → a < 2 ^ 64) → a < 2 ^ 64
    by_first true here any later =
        let r = range 0 (extent_of s) refl in
        let c : covers (part_of s) a ≡ true = second s.exec (covers (part_of s) a) here in
        grind (arith, nat_tests, c, r.0)
    by_first false here any later = later any

site_is_fit : (parts : List Segment) (place before : ℕ) (region : Region64) (s : Site) → AreInRange (extents_of parts) →
    region.start + region.length < 2 ^ 64 → least (site_faults (map part_of parts) place region before s) ≡ None → site_fits s ≡ true
site_is_fit parts place before region s range short clean =
    let memory = map part_of parts in
    let order = unless (nat_le before s.start) SiteOrder place in
    let inside = unless (nat_le s.end (region.start + region.length)) SiteOutside place in
    let code = unless (s.pad == 0 || is_code memory s.pad) PadOutside place in
    let e = holds (nat_le s.end (region.start + region.length)) SiteOutside place (none_second order inside (none_first (order ++ inside) code clean)) in
    let pad : s.pad < 2 ^ 64 = pad_below (s.pad == 0) refl (holds (s.pad == 0 || is_code memory s.pad) PadOutside place (none_second (order ++ inside) code clean)) in
    grind (arith, nat_tests, e, pad, short)
  where
    pad_below : (b : Bool) → (s.pad == 0) ≡ b → (b || is_code (map part_of parts) s.pad) ≡ true → s.pad < 2 ^ 64
    pad_below true z any = grind (arith, nat_tests, z)
    pad_below false z any = code_below parts s.pad range any

records_fit : (parts : List Segment) (part : Part) (region : Region64) (h : Head) (before : ℕ) (rs : List SiteRecord) → AreInRange (extents_of parts) →
    region.start + region.length < 2 ^ 64 → least (records_faults (map part_of parts) part region h before rs) ≡ None → list_all site_fits (map (site_of h region) rs) ≡ true
records_fit parts part region h before [] range short clean = refl
records_fit parts part region h before (r ∷ rs) range short clean =
    let s = site_of h region r in
    let A = site_faults (map part_of parts) (part.file_at + r.at) region before s in
    let B = action_faults (map part_of parts) part h r in
    let C = records_faults (map part_of parts) part region h s.end rs in
    both (site_fits s) (list_all site_fits (map (site_of h region) rs))
    (site_is_fit parts (part.file_at + r.at) before region s range short (none_first A B (none_first (A ++ B) C clean)))
    (records_fit parts part region h s.end rs range short (none_second (A ++ B) C clean))
  where
    both : (x y : Bool) → x ≡ true → y ≡ true → (x && y) ≡ true
    both x y e f = ap (λ z. z && y) e ∙ f

pub sites_fit : (parts : List Segment) (part : Part) (region : Region64) (h : Head) → AreInRange (extents_of parts) →
    region.start + region.length < 2 ^ 64 → least (table_faults (map part_of parts) part region h) ≡ None →
    list_all site_fits (map (site_of h region) (site_records part h).records) ≡ true
unfolding table_faults
sites_fit parts part region h range short clean =
    records_fit parts part region h 0 (site_records part h).records range short
    (none_first (records_faults (map part_of parts) part region h 0 (site_records part h).records) (site_records part h).cut clean)
