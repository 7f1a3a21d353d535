-- What the writers of tables, frames and their header need of what `link` hands them.
use Rattle.std.proofs.Common.{inl, inr, ◌≡◌, ◌≤◌, ◌<◌, ℕ, zero, suc, ℤ, pos, negsuc, ◌+◌, ◌-◌, ◌*◌, ◌%◌, ◌^◌, true, List, [], ◌∷◌, length, length-append, map, Option, Some, None, refl, subst, arith}
use Rattle.std.specs.Prelude.{◌⊎◌, ◌==◌}
use Rattle.std.specs.List.{AllByRecursion}
use Rattle.std.proofs.lemmas.List.{length-map}
use Rattle.std.proofs.lemmas.Bool.{cond_both}
use Rattle.std.proofs.lemmas.Bool.Decides.{nat_tests}
use Rattle.eh_bytes.specs.declared.table.ListSite.{ListSite}
use Rattle.eh_bytes.specs.Listed.{ListedTable, ListedFrame}
use Rattle.eh_write.specs.CanWrite.{ChainIsThere, TypeIsThere, FilterIsThere, ChainIsGood, TypesAreNear, CanWrite}
use Rattle.eh_write.specs.CanWriteFrames.{MovesAreGood, FrameIsGood}
use Rattle.eh_write.specs.Distance.{IsNear}
use Rattle.eh_write.specs.Written.{front_bytes, table_bytes}
use Rattle.eh_write.specs.WrittenFrames.{fde_bytes, fdes_bytes}
use Rattle.eh_write.specs.WrittenHeader.{IsLow}
use Rattle.image_forms.specs.Function.{TableFits, FunctionFits}
use Rattle.image_forms.specs.Placed.{type_at, PlacedFunction}
use Rattle.image_forms.specs.Tables.{linked_table, placed_table, tables_bytes, placed_moves, linked_frame, linked_frames, rows_from}
use Rattle.image_link.specs.Laws.{TablesCanBeWritten}
use Rattle.image_link.proofs.Bounds.{filled_length, table_length}
use Rattle.image_link.proofs.Row.{InRow, row_end, moves_placed}

-- the chains, filters and lists of a table name the same types, wherever these are
chain_there : (end : ℕ) (t : ListedTable) (c : Option ℕ) → ChainIsThere t c → ChainIsThere (linked_table end t) c
chain_there end t None there = tt
chain_there end t (Some c) there = there

chains_there : (end : ℕ) (t : ListedTable) (sites : List ListSite) → AllByRecursion (λ s. ChainIsThere t s.chain) sites →
    AllByRecursion (λ s. ChainIsThere (linked_table end t) s.chain) sites
chains_there end t [] all = tt
chains_there end t (s ∷ ss) (first, rest) = (chain_there end t s.chain first, chains_there end t ss rest)

type_there : (end : ℕ) (t : ListedTable) (i : ℕ) → TypeIsThere t i → TypeIsThere (linked_table end t) i
type_there end t i (some, few) = (some, omega (arith, few, length-map t.types (type_at end)))

types_there : (end : ℕ) (t : ListedTable) (is : List ℕ) → AllByRecursion (TypeIsThere t) is → AllByRecursion (TypeIsThere (linked_table end t)) is
types_there end t [] all = tt
types_there end t (i ∷ is) (first, rest) = (type_there end t i first, types_there end t is rest)

lists_there : (end : ℕ) (t : ListedTable) (lists : List (List ℕ)) → AllByRecursion (AllByRecursion (TypeIsThere t)) lists →
    AllByRecursion (AllByRecursion (TypeIsThere (linked_table end t))) lists
lists_there end t [] all = tt
lists_there end t (l ∷ ls) (first, rest) = (types_there end t l first, lists_there end t ls rest)

filter_there : (end : ℕ) (t : ListedTable) (z : ℤ) → FilterIsThere t z → FilterIsThere (linked_table end t) z
filter_there end t (pos zero) there = tt
filter_there end t (pos (suc i)) there = type_there end t (suc i) there
filter_there end t (negsuc n) there = there

filters_there : (end : ℕ) (t : ListedTable) (chain : List ℤ) → AllByRecursion (FilterIsThere t) chain → AllByRecursion (FilterIsThere (linked_table end t)) chain
filters_there end t [] all = tt
filters_there end t (z ∷ zs) (first, rest) = (filter_there end t z first, filters_there end t zs rest)

chains_good : (end : ℕ) (t : ListedTable) (chains : List (List ℤ)) → AllByRecursion (ChainIsGood t) chains → AllByRecursion (ChainIsGood (linked_table end t)) chains
chains_good end t [] all = tt
chains_good end t (c ∷ cs) ((some, filters), rest) = ((some, filters_there end t c filters), chains_good end t cs rest)

-- records lie below the tables, and all below 2^31
types_near : (end first last base : ℕ) (types : List ℕ) → 0 < first → end ≤ first → base < 2 ^ 31 → end < 2 ^ 31 →
    TypesAreNear first last base (map (type_at end) types)
types_near end first last base [] some low near small = tt
types_near end first last base (t ∷ ts) some low near small =
    let goal = λ (n : ℕ). (n ≡ 0) ⊎ (IsNear (base - 4) n × ((n < first) ⊎ (last ≤ n))) in (
      cond_both (t == 0) 0 (end - 24 * t) goal (λ e. inl refl) (λ e.
          let positive : 0 < t = grind (arith, nat_tests) in
          inr ((omega (arith, near, small), omega (arith, near, small)), inl (omega (arith, positive, some, low)))),
      types_near end first last (base - 4) ts some low (omega (arith, near)) small,
    )

-- a table at a multiple of 4 behind the records
table_written : (end a size rows : ℕ) (t : ListedTable) → a % 4 ≡ 0 → 0 < a → end ≤ a → end < 2 ^ 31 → a + length (table_bytes (linked_table end t) a) < 2 ^ 31 →
    TableFits size rows t → CanWrite (linked_table end t) a
table_written end a size rows t aligned some low small room fits =
    let list = linked_table end t in
    record {
      aligned = aligned;
      order = fits.order;
      sites = chains_there end t t.sites fits.sites;
      chains = chains_good end t t.chains fits.chains;
      lists = lists_there end t t.lists fits.lists;
      types = types_near end a (a + length (table_bytes list a)) (a + length (front_bytes list) + 4 * length list.types) t.types some low
          (omega (arith, room, table_length list a)) small;
    }

pub tables_written : (end a rows limit : ℕ) (fs : List PlacedFunction) → a % 4 ≡ 0 → 0 < a → end ≤ a → end < 2 ^ 31 → a + length (tables_bytes end a fs) ≤ limit → limit < 2 ^ 31 →
    AllByRecursion (λ f. FunctionFits rows f.function) fs → TablesCanBeWritten end a fs
tables_written end a rows limit [] aligned some low small room below fit = tt
tables_written end a rows limit (f ∷ fs) aligned some low small room below (first, rest) =
    let t = placed_table end a f in
    let bytes = table_bytes (linked_table end f.function.table) a in
    let next = a + length t in
    let long = length-append t (tables_bytes end next fs) in
    let filled_up = filled_length bytes in (
      table_written end a (4 * f.function.words) rows f.function.table aligned some low small (omega (arith, room, below, long, filled_up)) first.table,
      tables_written end next rows limit fs (omega (arith, aligned, filled_up)) (omega (arith, some)) (omega (arith, low)) small (omega (arith, room, long)) below rest,
    )

-- the rows of frames lead to them
pub rows_low : (cie place limit : ℕ) (frames : List ListedFrame) → place + length (fdes_bytes true cie place frames) ≤ limit → limit < 2 ^ 31 →
    AllByRecursion (λ f. f.region.start < 2 ^ 31) frames → AllByRecursion (λ row. IsLow row.location × IsLow row.fde) (rows_from cie place frames)
rows_low cie place limit [] room below low = tt
rows_low cie place limit (f ∷ fs) room below (first, rest) =
    let e = fde_bytes true cie place f in
    let long = length-append e (fdes_bytes true cie (place + length e) fs) in
    ((first, omega (arith, room, below)), rows_low cie (place + length e) limit fs (omega (arith, room, below, long)) below rest)

-- each frame lies in the code, and its table below the frames
frame_written : (first end a limit : ℕ) (f : PlacedFunction) (rows : ℕ) → f.address + 4 * f.function.words ≤ limit → limit ≤ first → first < 2 ^ 31 → a < first →
    FunctionFits rows f.function → FrameIsGood true first end (linked_frame a f)
frame_written first end a limit f rows ends low small table fits =
    let start : f.address + 0 ≡ f.address = omega arith in
    let size = 4 * f.function.words in
    let positive = fits.some in
    record {
      ends = omega (arith, ends, low, small);
      outside = inl (omega (arith, ends, low, positive));
      table = inr (omega (arith, table, small), inl table);
      moves = subst (λ n. MovesAreGood (record { start = f.address; length = size }) n (placed_moves f.address f.function.moves)) start
          (moves_placed f.address size 0 f.function.moves fits.moves);
    }

some_bytes : (end a : ℕ) (f : PlacedFunction) → 0 < length (placed_table end a f)
some_bytes end a f =
    let list = linked_table end f.function.table in
    let front : 2 ≤ length (front_bytes list) = omega arith in
    omega (arith, front, table_length list a, filled_length (table_bytes list a))

pub frames_written : (first last end a before limit rows : ℕ) (fs : List PlacedFunction) → InRow before limit fs → limit ≤ first → first < 2 ^ 31 →
    a + length (tables_bytes end a fs) ≤ first → AllByRecursion (λ f. FunctionFits rows f.function) fs →
    AllByRecursion (FrameIsGood true first last) (linked_frames end a fs)
frames_written first last end a before limit rows [] row low small room fit = tt
frames_written first last end a before limit rows (f ∷ fs) (start, rest) low small room (fits, others) =
    let t = placed_table end a f in
    let next = a + length t in
    let behind = f.address + 4 * f.function.words in
    let long = length-append t (tables_bytes end next fs) in (
      frame_written first last a limit f rows (row_end behind limit fs rest) low small (omega (arith, room, long, some_bytes end a f)) fits,
      frames_written first last end next behind limit rows fs rest low small (omega (arith, room, long)) others,
    )

-- each begins below 2^31
pub frames_low : (first last : ℕ) (frames : List ListedFrame) → AllByRecursion (FrameIsGood true first last) frames → AllByRecursion (λ f. f.region.start < 2 ^ 31) frames
frames_low first last [] all = tt
frames_low first last (f ∷ fs) (good, rest) = (omega (arith, good.ends), frames_low first last fs rest)
