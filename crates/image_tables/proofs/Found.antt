-- The frame and the exception table of a function of an image, and the bytes of the table.
use Rattle.std.proofs.Common.{◌≡◌, ◌∙◌, refl, sym, ap, subst, arith, ℕ, zero, suc, ◌+◌, ◌-◌, ◌*◌, ◌%◌, ◌<◌, ◌≤◌, Bool, true, false, List, [], ◌∷◌, ◌++◌, map, drop, length, Option, Some, None, Result, Ok, Err, if◌then◌else◌}
use Rattle.std.specs.Prelude.{slice_get, replicate}
use Rattle.std.specs.List.{AllByRecursion, AllZip}
use Rattle.std.proofs.lemmas.Bool.Decides.{nat_tests}
use Rattle.std.proofs.lemmas.List.{append_assoc, drop-drop}
use Rattle.std.proofs.Math.Seq.{drop-append_seam}
use Rattle.eh_bytes.specs.Listed.{ListedUnit}
use Rattle.eh_bytes.specs.Memory.{Memory}
use Rattle.eh_write.specs.Written.{table_bytes}
use Rattle.table_forms.specs.Fault.{Fault, answer, least, ◌>>=◌}
use Rattle.table_forms.specs.Fde.{Fde, is_in, fde_for}
use Rattle.table_forms.specs.Frames.{sorted, frames}
use Rattle.table_forms.specs.Lsda.{Table}
use Rattle.table_forms.specs.WrittenFrames.{FdeStands}
use Rattle.elf_image.specs.Clean.{Function, CleanImage, table_named, function_of, functions_of, judged}
use Rattle.elf_image.specs.Runnable.{written_faults, runnable}
use Rattle.elf_image.proofs.Cleaned.{read_from}
use Rattle.image_forms.specs.Placed.{code_at, all_code, names_at, PlacedFunction, all_functions}
use Rattle.image_forms.specs.Tables.{linked_table, placed_table, tables_bytes, linked_frame, linked_frames}
use Rattle.image_forms.specs.Linked.{unit_names, tables_at, unit_tables, frames_written, header_written, constant_bytes}
use Rattle.image_link.specs.Runs.{HasTable}
use Rattle.image_link.proofs.Row.{InRow}
use Rattle.image_link.proofs.Handed.{code_row}
use Rattle.linear_forms.specs.Linear.{UnitCode}
use Rattle.machine_forms.specs.Emitted.{emitted_of}
use Rattle.eh_run.specs.Program.{fdes_in, fdes_of, program_of}
use Rattle.image_tables.specs.Read.{IsImageOf}
use Rattle.image_tables.proofs.Sorted.{AtMostOne, find_sorted}

-- ---- the functions that were read
function_kept : (f : Fde) (r : Result (Option Table) Fault) (h : Function) → (r >>= λ t. Ok (record { fde = f; table = t })) ≡ Ok h → (h.fde ≡ f) × (r ≡ Ok h.table)
function_kept f (Err e) h is = absurd cc
function_kept f (Ok t) h is = (ap (λ x. x.fde) (sym (same h is)), ap (λ x. Ok x.table) (same h is))
  where
    made : Function
    made = record { fde = f; table = t }

    ok_same : (x y : Function) (r : Result Function Fault) → Ok x ≡ r → r ≡ Ok y → x ≡ y
    ok_same x y r e g = cc

    same : (h : Function) → (let r : Result Function Fault = Ok made in r) ≡ Ok h → made ≡ h
    same h e = ok_same made h (Ok made) refl e

record AreRead (memory : Memory) (gs : List Fde) (hs : List Function) : Type 0 where
  fdes : map (λ h. h.fde) hs ≡ gs
  named : AllByRecursion (λ h. table_named memory h.fde.lsda h.fde.region ≡ Ok h.table) hs

are_read : (memory : Memory) (gs : List Fde) (hs : List Function) → functions_of memory gs ≡ Ok hs → AreRead memory gs hs
are_read memory [] hs is = subst (AreRead memory []) (ok_same [] hs (Ok []) refl is) (record { fdes = refl; named = tt })
  where
    ok_same : (x y : List Function) (r : Result (List Function) Fault) → Ok x ≡ r → r ≡ Ok y → x ≡ y
    ok_same x y r e g = cc
are_read memory (g ∷ gs) hs is = by_first (function_of memory g) refl (are_read memory gs) is
  where
    ok_same : (x y : List Function) (r : Result (List Function) Fault) → Ok x ≡ r → r ≡ Ok y → x ≡ y
    ok_same x y r e f = cc

    both : (h : Function) (more : List Function) → function_of memory g ≡ Ok h → AreRead memory gs more → AreRead memory (g ∷ gs) (h ∷ more)
    both h more one rest =
        let kept = function_kept g (table_named memory g.lsda g.region) h one in
        record {
          fdes = ap (λ f. f ∷ map (λ x. x.fde) more) kept.0 ∙ ap (λ fs. g ∷ fs) rest.fdes;
          named = (ap (λ f. table_named memory f.lsda f.region) kept.0 ∙ kept.1, rest.named);
        }

    by_rest : (h : Function) → function_of memory g ≡ Ok h → (r : Result (List Function) Fault) → functions_of memory gs ≡ r → ((more : List Function) → functions_of memory gs ≡ Ok more → AreRead memory gs more) →
        (r >>= λ more. Ok (h ∷ more)) ≡ Ok hs → AreRead memory (g ∷ gs) hs
    by_rest h one (Err e) rest later is = absurd cc
    by_rest h one (Ok more) rest later is = subst (AreRead memory (g ∷ gs)) (ok_same (h ∷ more) hs (Ok (h ∷ more)) refl is) (both h more one (later more rest))

    by_first : (r : Result Function Fault) → function_of memory g ≡ r → ((more : List Function) → functions_of memory gs ≡ Ok more → AreRead memory gs more) →
        (r >>= λ h. functions_of memory gs >>= λ more. Ok (h ∷ more)) ≡ Ok hs → AreRead memory (g ∷ gs) hs
    by_first (Err e) one later is = absurd cc
    by_first (Ok h) one later is = by_rest h one (functions_of memory gs) refl later is

-- ---- one of them
-- the function whose bytes have a place, with its frame and its table, and where that stands in some bytes that begin at an address
pub record FunctionFound (memory : Memory) (begin : ℕ) (bytes : List ℕ) (end : ℕ) (f : PlacedFunction) (place : ℕ) (fdes : List Fde) : Type 0 where
  pub function : Function
  pub table : ℕ
  pub found : fde_for fdes place ≡ Some function.fde
  pub frame : FdeStands (linked_frame table f) function.fde
  pub has : HasTable end f function
  pub named : table_named memory function.fde.lsda function.fde.region ≡ Ok function.table
  pub offset : ℕ
  pub at : table ≡ begin + offset
  pub rest : List ℕ
  pub here : drop offset bytes ≡ table_bytes (linked_table end f.function.table) table ++ rest

later_address : (before limit : ℕ) (fs : List PlacedFunction) (n : ℕ) (f : PlacedFunction) → InRow before limit fs → slice_get fs n ≡ Some f → before ≤ f.address
later_address before limit [] n f row e = absurd (cc e)
later_address before limit (x ∷ fs) zero f (first, rest) e = subst (λ y. before ≤ y.address) (same x f e) first
  where
    same : (x y : PlacedFunction) → Some x ≡ Some y → x ≡ y
    same x y e = cc
later_address before limit (x ∷ fs) (suc n) f (first, rest) e = omega (arith, first, later_address (x.address + 4 * x.function.words) limit fs n f rest e)

holds_in : (start size place : ℕ) (g : Fde) → g.region.start ≡ start → g.region.length ≡ size → start ≤ place → place < start + size → is_in g.region place ≡ true
holds_in start size place g s l low high = grind (arith, nat_tests, s, l, low, high)

passes_by : (start size place : ℕ) (g : Fde) → g.region.start ≡ start → g.region.length ≡ size → start + size ≤ place → is_in g.region place ≡ false
passes_by start size place g s l low = grind (arith, nat_tests, s, l, low)

function_found : (memory : Memory) (begin m : ℕ) (bytes : List ℕ) (end before limit : ℕ) (fs : List PlacedFunction) (hs : List Function) (rest : List ℕ) (n : ℕ) (f : PlacedFunction) (place : ℕ) →
    InRow before limit fs → drop m bytes ≡ tables_bytes end (begin + m) fs ++ rest → AllZip FdeStands (linked_frames end (begin + m) fs) (map (λ h. h.fde) hs) → AllZip (HasTable end) fs hs →
    AllByRecursion (λ h. table_named memory h.fde.lsda h.fde.region ≡ Ok h.table) hs → slice_get fs n ≡ Some f → f.address ≤ place → place < f.address + 4 * f.function.words →
    FunctionFound memory begin bytes end f place (map (λ h. h.fde) hs)
function_found memory begin m bytes end before limit [] hs rest n f place row here frames tables named e low high = absurd (cc e)
function_found memory begin m bytes end before limit (x ∷ fs) [] rest n f place row here frames tables named e low high = absurd frames
function_found memory begin m bytes end before limit (x ∷ fs) (h ∷ hs) rest zero f place row here (frame, frames) (table, tables) (name, named) e low high =
    let is = same x f e in
    let t = table_bytes (linked_table end x.function.table) (begin + m) in
    let z : List ℕ = replicate ((4 - length t % 4) % 4) 0 in
    let more = tables_bytes end (begin + m + length (placed_table end (begin + m) x)) fs in
    let there : drop m bytes ≡ t ++ (z ++ (more ++ rest)) = here ∙ (append_assoc (t ++ z) more rest ∙ append_assoc t z (more ++ rest)) in
    let inside : is_in h.fde.region place ≡ true
    = holds_in x.address (4 * x.function.words) place h.fde (ap (λ r. r.start) frame.region) (ap (λ r. r.length) frame.region) (subst (λ y. y.address ≤ place) (sym is) low)
    (subst (λ y. place < y.address + 4 * y.function.words) (sym is) high) in
    record {
      function = h;
      table = begin + m;
      found = ap (λ b. if b then Some h.fde else fde_for (map (λ y. y.fde) hs) place) inside;
      frame = subst (λ y. FdeStands (linked_frame (begin + m) y) h.fde) is frame;
      has = subst (λ y. HasTable end y h) is table;
      named = name;
      offset = m;
      at = refl;
      rest = z ++ (more ++ rest);
      here = subst (λ y. drop m bytes ≡ table_bytes (linked_table end y.function.table) (begin + m) ++ (z ++ (more ++ rest))) is there;
    }
  where
    same : (x y : PlacedFunction) → Some x ≡ Some y → x ≡ y
    same x y e = cc
function_found memory begin m bytes end before limit (x ∷ fs) (h ∷ hs) rest (suc n) f place (first, row) here (frame, frames) (table, tables) (name, named) e low high =
    let placed = placed_table end (begin + m) x in
    let more = tables_bytes end (begin + m + length placed) fs in
    let next : begin + m + length placed ≡ begin + (m + length placed) = omega arith in
    let begins : drop m bytes ≡ placed ++ (more ++ rest) = here ∙ append_assoc placed more rest in
    let behind : drop (m + length placed) bytes ≡ tables_bytes end (begin + (m + length placed)) fs ++ rest
    = sym (drop-drop (length placed) m bytes) ∙ (ap (drop (length placed)) begins ∙ (drop-append_seam placed (more ++ rest) ∙ ap (λ a. tables_bytes end a fs ++ rest) next)) in
    let after = x.address + 4 * x.function.words in
    let far = later_address after limit fs n f row e in
    let outside : is_in h.fde.region place ≡ false
    = passes_by x.address (4 * x.function.words) place h.fde (ap (λ r. r.start) frame.region) (ap (λ r. r.length) frame.region) (omega (arith, far, low)) in
    let later = function_found memory begin (m + length placed) bytes end after limit fs hs rest n f place row behind
    (subst (λ a. AllZip FdeStands (linked_frames end a fs) (map (λ y. y.fde) hs)) next frames) tables named e low high in
    record {
      function = later.function;
      table = later.table;
      found = ap (λ b. if b then Some h.fde else fde_for (map (λ y. y.fde) hs) place) outside ∙ later.found;
      frame = later.frame;
      has = later.has;
      named = later.named;
      offset = later.offset;
      at = later.at;
      rest = later.rest;
      here = later.here;
    }

-- ---- at most one has a place
none_behind : (end a place before limit : ℕ) (fs : List PlacedFunction) (gs : List Fde) → InRow before limit fs → AllZip FdeStands (linked_frames end a fs) gs → place < before →
    AllByRecursion (λ g. is_in g.region place ≡ false) gs
none_behind end a place before limit [] [] row stand low = tt
none_behind end a place before limit [] (g ∷ gs) row stand low = absurd stand
none_behind end a place before limit (x ∷ fs) [] row stand low = absurd stand
none_behind end a place before limit (x ∷ fs) (g ∷ gs) (first, row) (frame, stand) low = (
  not_yet x.address place g (ap (λ r. r.start) frame.region) (omega (arith, first, low)),
  none_behind end (a + length (placed_table end a x)) place (x.address + 4 * x.function.words) limit fs gs row stand (omega (arith, first, low)),
)
  where
    not_yet : (start place : ℕ) (g : Fde) → g.region.start ≡ start → place < start → is_in g.region place ≡ false
    not_yet start place g s low = grind (arith, nat_tests, s, low)

one_has : (end a place before limit : ℕ) (fs : List PlacedFunction) (gs : List Fde) → InRow before limit fs → AllZip FdeStands (linked_frames end a fs) gs → AtMostOne (λ g. is_in g.region place) gs
one_has end a place before limit [] [] row stand = tt
one_has end a place before limit [] (g ∷ gs) row stand = absurd stand
one_has end a place before limit (x ∷ fs) [] row stand = absurd stand
one_has end a place before limit (x ∷ fs) (g ∷ gs) (first, row) (frame, stand) =
    let after = x.address + 4 * x.function.words in
    let next = a + length (placed_table end a x) in (
      λ inside. none_behind end next place after limit fs gs row stand (held x.address (4 * x.function.words) place g (ap (λ r. r.start) frame.region) (ap (λ r. r.length) frame.region) inside),
      one_has end next place after limit fs gs row stand,
    )
  where
    held : (start size place : ℕ) (g : Fde) → g.region.start ≡ start → g.region.length ≡ size → is_in g.region place ≡ true → place < start + size
    held start size place g s l inside = grind (arith, nat_tests, s, l, inside)

-- ---- in an image
tables_here : (e : ListedUnit) → drop (length (unit_names e)) (constant_bytes e) ≡ unit_tables e ++ (frames_written e ++ header_written e)
tables_here e =
    let n = unit_names e in
    let t = unit_tables e in
    let f = frames_written e in
    let h = header_written e in
    ap (drop (length n)) (append_assoc (n ++ t) f h ∙ append_assoc n t (f ++ h)) ∙ drop-append_seam n (t ++ (f ++ h))

judged_of : (file : List ℕ) (i : CleanImage) → runnable file ≡ Ok i → judged file true ≡ Ok i
unfolding runnable
judged_of file i is = by (judged file true) is
  where
    by_fault : (c : CleanImage) (o : Option Fault) → answer o c ≡ Ok i → (let r : Result CleanImage Fault = Ok c in r) ≡ Ok i
    by_fault c None e = e
    by_fault c (Some f) e = absurd cc

    by : (r : Result CleanImage Fault) → (r >>= λ c. answer (least (written_faults c)) c) ≡ Ok i → r ≡ Ok i
    by (Err f) e = absurd cc
    by (Ok c) e = by_fault c (least (written_faults c)) e

pub image_function : (u : UnitCode) (i : CleanImage) (n : ℕ) (f : PlacedFunction) (place : ℕ) → IsImageOf u i → slice_get (all_functions (emitted_of u)) n ≡ Some f → f.address ≤ place →
    place < f.address + 4 * f.function.words →
    FunctionFound i.image.memory (names_at (emitted_of u)) (constant_bytes (emitted_of u)) (code_at (emitted_of u)) f place (program_of i).image.fdes
unfolding fdes_of
image_function u i n f place image there low high =
    let e = emitted_of u in
    let from = read_from image.file true i (judged_of image.file i image.read) in
    let read = are_read i.image.memory (sorted from.read.fdes) i.functions from.functions_read in
    let row = code_row e image.linkable in
    let limit = code_at e + 4 * length (all_code e) in
    let one = one_has (code_at e) (tables_at e) place (code_at e) limit (all_functions e) (map (λ h. h.fde) i.functions) row image.stands.frames in
    let P : Fde → Bool = λ g. is_in g.region place in
    let order : fde_for (sorted from.read.fdes) place ≡ fde_for from.read.fdes place = find_sorted P from.read.fdes (subst (AtMostOne P) read.fdes one) in
    let here = function_found i.image.memory (names_at e) (length (unit_names e)) (constant_bytes e) (code_at e) (code_at e) limit (all_functions e) i.functions (frames_written e ++ header_written e) n f place
    row (tables_here e) image.stands.frames image.stands.tables read.named there low high in
    let same : fde_for (map (λ h. h.fde) i.functions) place ≡ fde_for (fdes_in (frames i.image.memory i.image.frame_header)) place
    = ap (λ fs. fde_for fs place) read.fdes ∙ (order ∙ ap (λ r. fde_for (fdes_in r) place) (sym from.frames_read)) in
    record {
      function = here.function;
      table = here.table;
      found = sym same ∙ here.found;
      frame = here.frame;
      has = here.has;
      named = here.named;
      offset = here.offset;
      at = here.at;
      rest = here.rest;
      here = here.here;
    }
