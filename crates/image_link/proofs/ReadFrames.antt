-- Frames that are read behind their header: nothing is refused, and their header leads to them.
use Rattle.std.proofs.Common.{◌≡◌, ◌≤◌, ℕ, ◌+◌, ◌-◌, ◌*◌, ◌==◌, true, ◌&&◌, List, [], ◌∷◌, ◌++◌, length, map, Option, Some, None, Result, refl, sym, ◌∙◌, ap, subst, arith, if◌then◌else◌}
use Rattle.std.specs.Prelude.{⊤, IsSomeAnd, IsOkAnd}
use Rattle.std.specs.List.{AllZip, AllByRecursion}
use Rattle.std.proofs.lemmas.Bool.Decides.{nat_tests}
use Rattle.eh_bytes.specs.declared.frames.HdrRow.{HdrRow}
use Rattle.eh_bytes.specs.Memory.{Part, Memory, part_with}
use Rattle.eh_bytes.specs.Listed.{ListedFrame}
use Rattle.table_forms.specs.Fault.{Fault, ◌>>=◌, least, answer}
use Rattle.table_forms.specs.Fde.{Fde}
use Rattle.table_forms.specs.Header.{Header, header_at}
use Rattle.table_forms.specs.Parts.{Parts, parts_at}
use Rattle.table_forms.specs.Frames.{Frames, is_earlier, put_in, sorted, differs, disagreement, table_disagreement, parts_in, parts_behind, frames_in, frames_from, frames}
use Rattle.table_forms.specs.WrittenFrames.{FdeStands}
use Rattle.eh_write.specs.WrittenFrames.{fde_bytes}
use Rattle.image_forms.specs.Function.{FunctionFits}
use Rattle.image_forms.specs.Placed.{PlacedFunction}
use Rattle.image_forms.specs.Tables.{placed_table, linked_frames, rows_from}
use Rattle.image_link.proofs.Row.{InRow}

-- ---- in rising order
-- the first of the frames begins at or behind an address, and each begins behind the one before
abbrev AreFrom : ℕ → List Fde → Type 0
AreFrom before [] = ⊤
AreFrom before (f ∷ fs) = (before ≤ f.region.start) × AreFrom (f.region.start + 1) fs

later : (before after : ℕ) (fs : List Fde) → before ≤ after → AreFrom after fs → AreFrom before fs
later before after [] le from = tt
later before after (f ∷ fs) le (first, rest) = (omega (arith, le, first), rest)

put_first : (f : Fde) (fs : List Fde) → AreFrom (f.region.start + 1) fs → put_in f fs ≡ f ∷ fs
put_first f [] from = refl
put_first f (g ∷ gs) (first, rest) =
    let test : is_earlier f g ≡ true = grind (arith, nat_tests, first) in
    ap (λ b. if b then f ∷ g ∷ gs else g ∷ put_in f gs) test

-- they are sorted as they stand
pub sorted_same : (before : ℕ) (fs : List Fde) → AreFrom before fs → sorted fs ≡ fs
sorted_same before [] from = refl
sorted_same before (f ∷ fs) (first, rest) = ap (put_in f) (sorted_same (f.region.start + 1) fs rest) ∙ put_first f fs rest

-- the frames of functions in a row, none of which is empty
pub from_row : (end a before limit rows : ℕ) (fs : List PlacedFunction) (fdes : List Fde) → InRow before limit fs → AllByRecursion (λ f. FunctionFits rows f.function) fs →
    AllZip FdeStands (linked_frames end a fs) fdes → AreFrom before fdes
from_row end a before limit rows [] [] row fit stand = tt
from_row end a before limit rows [] (g ∷ gs) row fit stand = absurd stand
from_row end a before limit rows (f ∷ fs) [] row fit stand = absurd stand
from_row end a before limit rows (f ∷ fs) (g ∷ gs) (first, row) (fits, fit) (stands, stand) =
    let start : g.region.start ≡ f.address = ap (λ r. r.start) stands.region in
    let some = fits.some in
    let next = f.address + 4 * f.function.words in (
      omega (arith, first, start),
      later (g.region.start + 1) next gs (omega (arith, start, some))
          (from_row end (a + length (placed_table end a f)) next limit rows fs gs row fit stand),
    )

-- ---- and the rows of their header lead to them
pub agrees : (cie place at : ℕ) (frames : List ListedFrame) (fdes : List Fde) → AllZip FdeStands frames fdes →
    map (λ f. f.address) fdes ≡ map (λ r. r.fde) (rows_from cie place frames) → disagreement at (rows_from cie place frames) fdes ≡ None
agrees cie place at [] [] stand places = refl
agrees cie place at [] (g ∷ gs) stand places = absurd stand
agrees cie place at (f ∷ fs) [] stand places = absurd stand
agrees cie place at (f ∷ fs) (g ∷ gs) (stands, stand) places =
    let next = place + length (fde_bytes true cie place f) in
    let start : g.region.start ≡ f.region.start = ap (λ r. r.start) stands.region in
    let here : g.address ≡ place = firsts g.address place (map (λ h. h.address) gs) (map (λ r. r.fde) (rows_from cie next fs)) places in
    let test : (f.region.start == g.region.start && place == g.address) ≡ true = grind (arith, nat_tests, start, here) in
    ap (λ b. if b then disagreement (at + 8) (rows_from cie next fs) gs else Some (differs at f.region.start g.region.start)) test ∙
    agrees cie next (at + 8) fs gs stand (others g.address place (map (λ h. h.address) gs) (map (λ r. r.fde) (rows_from cie next fs)) places)
  where
    firsts : (x y : ℕ) (xs ys : List ℕ) → x ∷ xs ≡ y ∷ ys → x ≡ y
    firsts x y xs ys e = cc

    others : (x y : ℕ) (xs ys : List ℕ) → x ∷ xs ≡ y ∷ ys → xs ≡ ys
    others x y xs ys e = cc

-- ---- all together
-- a header that leads to frames, of which nothing is refused
pub record Leads (memory : Memory) (header frames_at : ℕ) (rows : List HdrRow) (fdes : List Fde) : Type 0 where
  pub headed : IsSomeAnd (part_with memory header) (λ part. header_at part (header - part.address) ≡ record { frames_at = Some frames_at; rows = Some rows; faults = [] })
  pub part : Part
  pub found : part_with memory frames_at ≡ Some part
  pub whole : (parts_at part (frames_at - part.address)).faults ≡ []
  pub listed : (parts_at part (frames_at - part.address)).fdes ≡ fdes
  pub order : sorted fdes ≡ fdes
  pub agree : (at : ℕ) → disagreement at rows fdes ≡ None

pub frames_read : (memory : Memory) (header frames_at : ℕ) (rows : List HdrRow) (fdes : List Fde) → Leads memory header frames_at rows fdes →
    IsOkAnd (frames memory header) (λ read. read.fdes ≡ fdes)
unfolding frames frames_in least
frames_read memory header frames_at rows fdes leads = by_part (part_with memory header) leads.headed
  where
    parts : Parts
    parts = parts_at leads.part (frames_at - leads.part.address)

    of_parts : Parts → Frames
    of_parts p = record { cies = p.cies; fdes = p.fdes }

    SameFdes : Frames → Type 0
    SameFdes read = read.fdes ≡ fdes

    none_refused : Parts → ℕ → Result Frames Fault
    none_refused p at = answer (least p.faults) true >>= λ whole. answer (disagreement at rows (sorted p.fdes)) (of_parts p)

    by_parts : (p : Parts) (at : ℕ) → p.faults ≡ [] → p.fdes ≡ fdes → IsOkAnd (none_refused p at) SameFdes
    by_parts p at whole same =
        let agree : disagreement at rows (sorted p.fdes) ≡ None = ap (λ fs. disagreement at rows (sorted fs)) same ∙ (ap (disagreement at rows) leads.order ∙ leads.agree at) in
        subst (λ fs. IsOkAnd (answer (least fs) true >>= λ whole. answer (disagreement at rows (sorted p.fdes)) (of_parts p)) SameFdes) (sym whole)
        (subst (λ o. IsOkAnd (answer o (of_parts p)) SameFdes) (sym agree) same)

    of_header : ℕ → Header → Parts → Result Frames Fault
    of_header at h q = answer (least (h.faults ++ q.faults)) true >>= λ whole. answer (table_disagreement at h.rows q.fdes) (of_parts q)

    clean_header : Header
    clean_header = record { frames_at = Some frames_at; rows = Some rows; faults = [] }

    by_part : (o : Option Part) → IsSomeAnd o (λ part. header_at part (header - part.address) ≡ clean_header) → IsOkAnd (frames_from memory header o) SameFdes
    by_part None headed = absurd headed
    by_part (Some part) headed =
        let p = header - part.address in
        let at = part.file_at + (p + 12) in
        let behind : parts_behind memory (part.file_at + (p + 4)) (Some frames_at) ≡ parts = ap (λ o. parts_in (part.file_at + (p + 4)) o frames_at) leads.found in
        let shape : frames_in memory p part ≡ none_refused parts at
        = ap (λ h. of_header at h (parts_behind memory (part.file_at + (p + 4)) h.frames_at)) headed ∙ ap (of_header at clean_header) behind in
        subst (λ r. IsOkAnd r SameFdes) (sym shape) (by_parts parts at leads.whole leads.listed)
