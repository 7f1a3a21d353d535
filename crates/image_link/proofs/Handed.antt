-- What `link` hands to writers meets what they need.
use Rattle.std.proofs.Common.{inl, ◌≡◌, ◌≤◌, ◌<◌, ℕ, ◌+◌, ◌*◌, ◌%◌, true, List, [], ◌∷◌, ◌++◌, length, length-append, arith}
use Rattle.std.specs.List.{AllByRecursion}
use Rattle.eh_bytes.specs.Listed.{ListedFunction, ListedUnit}
use Rattle.eh_write.specs.CanWriteFrames.{FrameIsGood, CanWriteFrames}
use Rattle.eh_write.specs.WrittenFrames.{frames_bytes, cie_bytes}
use Rattle.eh_write.specs.WrittenHeader.{CanWriteHeader}
use Rattle.machine_forms.specs.Emitted.{emitted_stubs}
use Rattle.image_forms.specs.Function.{FunctionFits}
use Rattle.image_forms.specs.Placed.{code_at, unit_at, all_code, names_at, placed_from, all_functions}
use Rattle.image_forms.specs.Records.{names_bytes}
use Rattle.image_forms.specs.Tables.{with_tables, header_rows}
use Rattle.image_forms.specs.Linked.{tables_at, unit_tables, unit_frames, frames_at, header_at, header_written}
use Rattle.image_forms.specs.Linkable.{IsLinkable}
use Rattle.rt_stubs.proofs.StubLaws.{stubs_fit}
use Rattle.image_link.specs.Laws.{WritersAreMet, TablesCanBeWritten}
use Rattle.image_link.proofs.Bounds.{filled_length, frames_length, code_length}
use Rattle.image_link.proofs.Whole.{code_end}
use Rattle.image_link.proofs.Stands.{before_header, constants_low, header_place}
use Rattle.image_link.proofs.Row.{InRow, row_of, wider, row_joined, frames_apart}
use Rattle.image_link.proofs.Writers as writers

all_joined : {X : Type 0} (P : X → Type 0) (xs ys : List X) → AllByRecursion P xs → AllByRecursion P ys → AllByRecursion P (xs ++ ys)
all_joined P [] ys all more = more
all_joined P (x ∷ xs) ys (first, rest) more = (first, all_joined P xs ys rest more)

-- a table without types but `catch (...)` fits beside any types
types_more : (rows : ℕ) (types : List ℕ) → AllByRecursion (λ t. t ≤ 0) types → AllByRecursion (λ t. t ≤ rows) types
types_more rows [] all = tt
types_more rows (t ∷ ts) (first, rest) = (omega (arith, first), types_more rows ts rest)

fits_more : (rows : ℕ) (f : ListedFunction) → FunctionFits 0 f → FunctionFits rows f
fits_more rows f fits =
    let t = fits.table in
    record {
      some = fits.some;
      table = record { order = t.order; inside = t.inside; sites = t.sites; chains = t.chains; lists = t.lists; types = types_more rows f.table.types t.types };
      moves = fits.moves;
    }

all_more : (rows : ℕ) (fs : List ListedFunction) → AllByRecursion (FunctionFits 0) fs → AllByRecursion (FunctionFits rows) fs
all_more rows [] all = tt
all_more rows (f ∷ fs) (first, rest) = (fits_more rows f first, all_more rows fs rest)

all_placed : (code rows : ℕ) (fs : List ListedFunction) → AllByRecursion (FunctionFits rows) fs → AllByRecursion (λ f. FunctionFits rows f.function) (placed_from code fs)
all_placed code rows [] all = tt
all_placed code rows (f ∷ fs) (first, rest) = (first, all_placed code rows fs rest)

pub fit : (u : ListedUnit) → IsLinkable u → AllByRecursion (λ f. FunctionFits (length u.types) f.function) (all_functions u)
fit u can =
    let rows = length u.types in
    all_joined (λ f. FunctionFits rows f.function) (placed_from (code_at u) emitted_stubs.functions) (placed_from (unit_at u) u.functions)
    (all_placed (code_at u) rows emitted_stubs.functions (all_more rows emitted_stubs.functions stubs_fit.functions))
    (all_placed (unit_at u) rows u.functions can.functions)

-- all in the code
pub code_row : (u : ListedUnit) → IsLinkable u → InRow (code_at u) (code_at u + 4 * length (all_code u)) (all_functions u)
code_row u can =
    let stubs = placed_from (code_at u) emitted_stubs.functions in
    let own = placed_from (unit_at u) u.functions in
    let words = length emitted_stubs.code in
    let limit = code_at u + 4 * length (all_code u) in
    let end : unit_at u + 4 * length u.code ≤ limit = omega (arith, length-append emitted_stubs.code u.code) in
    let first = wider (code_at u + 4 * 0) (code_at u) (code_at u + 4 * words) (unit_at u) stubs (omega arith) (omega arith) (row_of (code_at u) 0 words emitted_stubs.functions stubs_fit.row) in
    let second = wider (unit_at u + 4 * 0) (unit_at u) (unit_at u + 4 * length u.code) limit own (omega arith) end (row_of (unit_at u) 0 (length u.code) u.functions can.row) in
    row_joined (code_at u) (unit_at u) limit stubs own first second

row : (u : ListedUnit) → IsLinkable u → InRow (code_at u) (names_at u) (all_functions u)
row u can =
    wider (code_at u) (code_at u) (code_at u + 4 * length (all_code u)) (names_at u) (all_functions u) (omega arith)
    (omega (arith, code_end u, code_length (all_code u))) (code_row u can)

-- where the tables, frames and header stand
record Order (u : ListedUnit) : Type 0 where
  code : code_at u ≤ names_at u
  some : 0 < names_at u
  tables : names_at u ≤ tables_at u
  aligned : tables_at u % 4 ≡ 0
  frames : tables_at u + length (unit_tables u) ≤ frames_at u
  header : frames_at u + 28 ≤ header_at u
  end : header_at u + length (header_written u) ≤ 0x60000000

order : (u : ListedUnit) → IsLinkable u → Order u
order u can =
    record {
      code = omega (arith, code_end u);
      some = omega (arith, code_end u);
      tables = omega arith;
      aligned = omega (arith, filled_length (names_bytes u.types));
      frames = omega arith;
      header = omega (arith, frames_length (unit_frames u) (frames_at u));
      end = omega (arith, constants_low u can, header_place u, length-append (before_header u) (header_written u));
    }

tables : (u : ListedUnit) → IsLinkable u → TablesCanBeWritten (code_at u) (tables_at u) (all_functions u)
tables u can =
    let at = order u can in
    writers.tables_written (code_at u) (tables_at u) (length u.types) (frames_at u) (all_functions u) at.aligned (omega (arith, at.some, at.tables))
    (omega (arith, at.code, at.tables)) (omega (arith, at.code, at.tables, at.frames, at.header, at.end)) at.frames (omega (arith, at.header, at.end)) (fit u can)

good : (u : ListedUnit) (last : ℕ) → IsLinkable u → AllByRecursion (FrameIsGood true (frames_at u) last) (unit_frames u)
good u last can =
    let at = order u can in
    writers.frames_written (frames_at u) last (code_at u) (tables_at u) (code_at u) (names_at u) (length u.types) (all_functions u) (row u can)
    (omega (arith, at.tables, at.frames)) (omega (arith, at.header, at.end)) at.frames (fit u can)

frames : (u : ListedUnit) → IsLinkable u → CanWriteFrames (with_tables (unit_frames u)) (frames_at u)
frames u can =
    let at = order u can in
    record {
      ends = omega (arith, at.end);
      frames = good u (frames_at u + length (frames_bytes (with_tables (unit_frames u)) (frames_at u))) can;
      apart = frames_apart (code_at u) (tables_at u) (code_at u) (names_at u) (all_functions u) [] tt (row u can);
    }

header : (u : ListedUnit) → IsLinkable u → CanWriteHeader (header_rows (frames_at u) (unit_frames u)) (frames_at u) (header_at u)
header u can =
    let at = order u can in
    let first = frames_at u + length (cie_bytes true) in
    record {
      ends = omega (arith, at.end);
      frames = omega (arith, at.header, at.end);
      outside = inl (omega (arith, at.header));
      listed = writers.rows_low (frames_at u) first (header_at u) (unit_frames u) (omega (arith, frames_length (unit_frames u) (frames_at u)))
          (omega (arith, at.end)) (writers.frames_low (frames_at u) 0 (unit_frames u) (good u 0 can));
    }

pub writers_are_met : WritersAreMet
writers_are_met = record { tables = tables; frames = frames; header = header }
