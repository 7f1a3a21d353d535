-- What the parts of the frames say depends only on their bytes.
use Rattle.std.proofs.Common.{◌≡◌, ◌+◌, ◌≤◌, ℕ, zero, suc, List, [], ◌∷◌, ◌++◌, length, map, Result, Ok, Err, refl, ap, sym, ◌∙◌, arith}
use Rattle.std.specs.Prelude.{Option, Some, None, option_map, flat_map, filter_map, if◌then◌else◌}
use Rattle.std.specs.Int.{w32}
use Rattle.std.specs.List.{AllByRecursion, cons_option, list_any}
use Rattle.eh_bytes.specs.declared.frames.Region64.{Region64}
use Rattle.eh_bytes.specs.Memory.{Part}
use Rattle.eh_bytes.specs.Field.{fixed}
use Rattle.table_forms.specs.declared.reason.Reason.TheVariants.{Overlap}
use Rattle.table_forms.specs.Fault.{Fault, fault}
use Rattle.table_forms.specs.Cie.{Cie}
use Rattle.table_forms.specs.Fde.{region_at, overlap}
use Rattle.table_forms.specs.Spans.{Span, spans_within, distance_at}
use Rattle.table_forms.specs.Parts.{Said, Parts, cie_of, cies_of, cie_behind, cie_said, fde_said, said_behind, said_of, says, region_behind, region_of, regions_of, overlaps, refusal_said, cie_in, fde_in, parts_at}
use Rattle.table_forms.proofs.Alls.{all_more}
use Rattle.lsda_pack.specs.SharedTables.{frames_end}
use Rattle.lsda_pack.proofs.Fronts.{Same}
use Rattle.lsda_pack.proofs.HeadFrame.{with_bytes}
use Rattle.lsda_pack.proofs.Alike.{Alike, alike_same, field_local}
use Rattle.lsda_pack.proofs.CieFrame.{cie_same}
use Rattle.lsda_pack.proofs.FdeFrame.{region_local, fde_same}
use Rattle.lsda_pack.proofs.SpansFrame.{StandsFrom, behind_four, parts_stand, spans_same, parts_before}

-- the parts stand between a place and an end
abbrev Between : ℕ → ℕ → Span → Type 0
Between from end s = (from ≤ s.at) × (s.stop ≤ end)

both_between : (from end : ℕ) (spans : List Span) → AllByRecursion (StandsFrom from) spans → AllByRecursion (λ s. s.stop ≤ end) spans → AllByRecursion (Between from end) spans
both_between from end [] low high = tt
both_between from end (s ∷ ss) low high = ((low.0.0, high.0), both_between from end ss low.1 high.1)

map_same : {X Y : Type 0} (f g : X → Y) (xs : List X) → AllByRecursion (λ x. f x ≡ g x) xs → map f xs ≡ map g xs
map_same f g [] same = refl
map_same f g (x ∷ xs) same = ap (λ y. y ∷ map f xs) same.0 ∙ ap (λ ys. g x ∷ ys) (map_same f g xs same.1)

filter_same : {X Y : Type 0} (f g : X → Option Y) (xs : List X) → AllByRecursion (λ x. f x ≡ g x) xs → filter_map f xs ≡ filter_map g xs
filter_same f g [] same = refl
filter_same f g (x ∷ xs) same = ap (λ o. cons_option o (filter_map f xs)) same.0 ∙ ap (cons_option (g x)) (filter_same f g xs same.1)

-- a region that is read, or none
region_is : (part : Part) (s : Span) (next : ℕ) (cie : Cie) (r : Region64) (behind : ℕ) → region_at cie part s.stop next ≡ Ok (r, behind) → region_behind part s next (Some (Ok cie)) ≡ Some r
region_is part s next cie r behind e = rw e refl

region_is_not : (part : Part) (s : Span) (next : ℕ) (cie : Cie) (f : Fault) → region_at cie part s.stop next ≡ Err f → region_behind part s next (Some (Ok cie)) ≡ None
region_is_not part s next cie f e = rw e refl

module _ (part : Part) (ys : List ℕ) (from end : ℕ) (alike : Alike from end part.bytes ys) where
  distance_same : (s : Span) → Between from end s → distance_at (with_bytes part ys) s ≡ distance_at part s
  distance_same s inside =
      let low = inside.0 in
      (field_local (λ a. fixed w32)).same part ys from end s.stop (s.at + 4) alike (omega (arith, low)) inside.1

  -- the place behind a distance
  behind_low : (s : Span) → Between from end s → (n next : ℕ) → distance_at part s ≡ Ok (n, next) → from ≤ next
  behind_low s inside n next e = let four = behind_four part s.stop (s.at + 4) n next e in let low = inside.0 in omega (arith, low, four)

  one_cie : (s : Span) → Between from end s → cie_of (with_bytes part ys) s (distance_at (with_bytes part ys) s) ≡ cie_of part s (distance_at part s)
  one_cie s inside = ap (cie_of (with_bytes part ys) s) (distance_same s inside) ∙ by (distance_at part s) refl
    where
      by : (r : Result (ℕ × ℕ) Fault) → distance_at part s ≡ r → cie_of (with_bytes part ys) s r ≡ cie_of part s r
      by (Err f) e = refl
      by (Ok (suc d, next)) e = refl
      by (Ok (zero, next)) e = ap (λ c. Some (s.at, c)) (cie_same part ys from end s.at s.stop alike inside.1 next (behind_low s inside zero next e))

  cies_same : (spans : List Span) → AllByRecursion (Between from end) spans → cies_of (with_bytes part ys) spans ≡ cies_of part spans
  unfolding cies_of
  cies_same spans inside =
      filter_same (λ s. cie_of (with_bytes part ys) s (distance_at (with_bytes part ys) s)) (λ s. cie_of part s (distance_at part s)) spans
      (all_more (Between from end) (λ s. cie_of (with_bytes part ys) s (distance_at (with_bytes part ys) s) ≡ cie_of part s (distance_at part s)) one_cie spans inside)

  -- what a part says
  behind_same : (s : Span) → Between from end s → (next : ℕ) → from ≤ next → (o : Option (Result Cie Fault)) → said_behind (with_bytes part ys) s next o ≡ said_behind part s next o
  behind_same s inside next low None = refl
  behind_same s inside next low (Some (Err f)) = refl
  behind_same s inside next low (Some (Ok cie)) = ap fde_said (fde_same cie part ys from end s.at s.stop alike inside.1 next low)

  one_said : (cies : List (ℕ × Result Cie Fault)) (s : Span) → Between from end s → says (with_bytes part ys) cies s ≡ says part cies s
  unfolding says
  one_said cies s inside = ap (said_of (with_bytes part ys) cies s) (distance_same s inside) ∙ by (distance_at part s) refl
    where
      by : (r : Result (ℕ × ℕ) Fault) → distance_at part s ≡ r → said_of (with_bytes part ys) cies s r ≡ said_of part cies s r
      by (Err f) e = refl
      by (Ok (zero, next)) e = ap cie_said (cie_same part ys from end s.at s.stop alike inside.1 next (behind_low s inside zero next e))
      by (Ok (suc d, next)) e = behind_same s inside next (behind_low s inside (suc d) next e) (cie_behind cies s.at (suc d))

  says_same : (cies : List (ℕ × Result Cie Fault)) (spans : List Span) → AllByRecursion (Between from end) spans → map (says (with_bytes part ys) cies) spans ≡ map (says part cies) spans
  says_same cies spans inside =
      map_same (says (with_bytes part ys) cies) (says part cies) spans
      (all_more (Between from end) (λ s. says (with_bytes part ys) cies s ≡ says part cies s) (one_said cies) spans inside)

  -- the region of a part
  region_same : (s : Span) → Between from end s → (next : ℕ) → from ≤ next → (o : Option (Result Cie Fault)) → region_behind (with_bytes part ys) s next o ≡ region_behind part s next o
  region_same s inside next low None = refl
  region_same s inside next low (Some (Err f)) = refl
  region_same s inside next low (Some (Ok cie)) =
      by (region_at cie part s.stop next) refl ((region_local cie).same part ys from end s.stop next alike low inside.1)
    where
      by : (r : Result (Region64 × ℕ) Fault) → region_at cie part s.stop next ≡ r → region_at cie (with_bytes part ys) s.stop next ≡ r →
          region_behind (with_bytes part ys) s next (Some (Ok cie)) ≡ region_behind part s next (Some (Ok cie))
      by (Ok (r, behind)) e e' = region_is (with_bytes part ys) s next cie r behind e' ∙ sym (region_is part s next cie r behind e)
      by (Err f) e e' = region_is_not (with_bytes part ys) s next cie f e' ∙ sym (region_is_not part s next cie f e)

  one_region : (cies : List (ℕ × Result Cie Fault)) (s : Span) → Between from end s →
      region_of (with_bytes part ys) cies s (distance_at (with_bytes part ys) s) ≡ region_of part cies s (distance_at part s)
  one_region cies s inside = ap (region_of (with_bytes part ys) cies s) (distance_same s inside) ∙ by (distance_at part s) refl
    where
      by : (r : Result (ℕ × ℕ) Fault) → distance_at part s ≡ r → region_of (with_bytes part ys) cies s r ≡ region_of part cies s r
      by (Err f) e = refl
      by (Ok (zero, next)) e = refl
      by (Ok (suc d, next)) e =
          ap (option_map (λ (r : Region64). (s.at, r))) (region_same s inside next (behind_low s inside (suc d) next e) (cie_behind cies s.at (suc d)))

  regions_same : (cies : List (ℕ × Result Cie Fault)) (spans : List Span) → AllByRecursion (Between from end) spans → regions_of (with_bytes part ys) cies spans ≡ regions_of part cies spans
  unfolding regions_of
  regions_same cies spans inside =
      filter_same (λ s. region_of (with_bytes part ys) cies s (distance_at (with_bytes part ys) s)) (λ s. region_of part cies s (distance_at part s)) spans
      (all_more (Between from end) (λ s. region_of (with_bytes part ys) cies s (distance_at (with_bytes part ys) s) ≡ region_of part cies s (distance_at part s)) (one_region cies) spans inside)

overlaps_same : (part : Part) (ys : List ℕ) (earlier : List Region64) (rs : List (ℕ × Region64)) → overlaps (with_bytes part ys) earlier rs ≡ overlaps part earlier rs
overlaps_same part ys earlier [] = refl
overlaps_same part ys earlier ((at, region) ∷ rest) =
    let own : List Fault = if list_any (overlap region) earlier then fault Overlap (part.file_at + at) ∷ [] else [] in
    ap (λ fs. own ++ fs) (overlaps_same part ys (region ∷ earlier) rest)

-- the parts by where they stand, what they are read as, and their regions
abbrev parts_by : Part → List Span → List Fault → List (ℕ × Result Cie Fault) → Parts
parts_by part spans cut cies =
    let said = map (says part cies) spans in
    record { cies = filter_map cie_in said; fdes = filter_map fde_in said; faults = cut ++ flat_map refusal_said said ++ overlaps part [] (regions_of part cies spans) }

parts_are : (part : Part) (p : ℕ) →
    parts_at part p ≡ (let spans = spans_within (length part.bytes) part p in parts_by part spans.list spans.cut (cies_of part spans.list))
unfolding parts_at
parts_are part p = refl

abbrev made : List Said → List Fault → List Fault → Parts
made said cut overlapping = record { cies = filter_map cie_in said; fdes = filter_map fde_in said; faults = cut ++ flat_map refusal_said said ++ overlapping }

-- the parts of the frames, of which none leaves its segment
pub parts_same : (part : Part) (ys : List ℕ) (p : ℕ) → length ys ≡ length part.bytes → (spans_within (length part.bytes) part p).cut ≡ [] → Same p (frames_end part p) part.bytes ys →
    parts_at (with_bytes part ys) p ≡ parts_at part p
parts_same part ys p long cut same =
    let other = with_bytes part ys in
    let spans = spans_within (length part.bytes) part p in
    let end = frames_end part p in
    let alike = alike_same p end part.bytes ys same in
    let inside = both_between p end spans.list (parts_stand part p) (parts_before part p) in
    let cies = cies_of part spans.list in
    let regions = regions_of part cies spans.list in
    parts_are other p ∙
    ap (λ x. parts_by other x.list x.cut (cies_of other x.list)) (spans_same part ys p long cut same) ∙
    ap (parts_by other spans.list spans.cut) (cies_same part ys p end alike spans.list inside) ∙
    ap (λ said. made said spans.cut (overlaps other [] (regions_of other cies spans.list))) (says_same part ys p end alike cies spans.list inside) ∙
    ap (λ rs. made (map (says part cies) spans.list) spans.cut (overlaps other [] rs)) (regions_same part ys p end alike cies spans.list inside) ∙
    ap (made (map (says part cies) spans.list) spans.cut) (overlaps_same part ys [] regions) ∙
    sym (parts_are part p)
