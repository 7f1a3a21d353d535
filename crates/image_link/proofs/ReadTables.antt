-- The exception tables that the frames of an image name are read as those of its functions.
use Rattle.std.proofs.Common.{◌≡◌, ◌≤◌, ◌<◌, ℕ, ◌+◌, ◌-◌, ◌*◌, ◌%◌, ◌==◌, true, false, List, [], ◌∷◌, ◌++◌, length, length-append, length-drop, map, drop, Option, None, Result, Ok, Err, refl, sym, ◌∙◌, ap, subst, arith, if◌then◌else◌}
use Rattle.std.specs.Prelude.{IsOkAnd, not, flat_map, replicate}
use Rattle.std.specs.List.{AllZip, AllByRecursion}
use Rattle.std.proofs.lemmas.List.{append_assoc, drop-drop}
use Rattle.std.proofs.Math.Seq.{drop-append_seam}
use Rattle.std.proofs.lemmas.Bool.Decides.{nat_tests}
use Rattle.eh_bytes.specs.declared.frames.Region64.{Region64}
use Rattle.eh_bytes.specs.declared.table.ListSite.{ListSite}
use Rattle.eh_bytes.specs.Memory.{Memory, is_code}
use Rattle.table_forms.specs.declared.reason.Reason.TheVariants.{TableWritable}
use Rattle.table_forms.specs.Fault.{Fault, ◌>>=◌, unless}
use Rattle.table_forms.specs.Fde.{Fde}
use Rattle.table_forms.specs.Lsda.{Table, lsda}
use Rattle.table_forms.specs.WrittenFrames.{FdeStands}
use Rattle.table_forms.specs.WrittenTable.{HasBytes, SiteFits, TableStands, WritesTable}
use Rattle.eh_write.specs.Written.{front_bytes, table_bytes}
use Rattle.elf_image.specs.Clean.{Function, table_read, table_named, function_of, functions_of}
use Rattle.elf_image.specs.Runnable.{written_in, written_at, table_written}
use Rattle.image_forms.specs.Function.{SiteIsInside, FunctionFits}
use Rattle.image_forms.specs.Placed.{PlacedFunction}
use Rattle.image_forms.specs.Tables.{linked_table, placed_table, tables_bytes, linked_frame, linked_frames}
use Rattle.image_link.specs.Standing.{TablesStand}
use Rattle.image_link.specs.Runs.{HasTable}
use Rattle.image_link.proofs.Bounds.{table_length}
use Rattle.image_link.proofs.Row.{InRow, row_end}
use Rattle.image_link.proofs.ReadMemory.{Holds, has_bytes}

-- nothing is written where the bytes are held
pub kept : (memory : Memory) (first n : ℕ) (bytes : List ℕ) → Holds memory first bytes → n < length bytes → written_at memory (first + n) ≡ []
kept memory first n bytes holds inside =
    let at = holds n inside in
    ap (λ o. written_in o (first + n)) at.found ∙ ap (λ b. unless (not b) TableWritable (at.part.file_at + (first + n - at.part.address))) at.held.kept

-- code from an address up to another
abbrev pub HasCode : Memory → (from end : ℕ) → Type 0
HasCode memory from end = (a : ℕ) → from ≤ a → a < end → is_code memory a ≡ true

sites_fit : (memory : Memory) (from end size : ℕ) (region : Region64) (sites : List ListSite) → HasCode memory from end → from ≤ region.start → region.start + size ≤ end → region.length ≡ size →
    AllByRecursion (SiteIsInside size) sites → AllByRecursion (SiteFits memory region) sites
sites_fit memory from end size region [] code low high whole inside = tt
sites_fit memory from end size region (s ∷ ss) code low high whole ((within, pad), rest) = (
  record { inside = omega (arith, within, whole); code = λ _. code (region.start + s.pad) (omega (arith, low)) (omega (arith, pad, high)) },
  sites_fit memory from end size region ss code low high whole rest,
)

-- the function of a frame, whose table is that of a function and is not written
record FunctionRead (memory : Memory) (end : ℕ) (f : PlacedFunction) (g : Fde) (h : Function) : Type 0 where
  fde : h.fde ≡ g
  table : HasTable end f h
  kept : table_written memory h ≡ []

function_read : (memory : Memory) (first n : ℕ) (bytes : List ℕ) (end from limit rows : ℕ) (f : PlacedFunction) (g : Fde) (rest : List ℕ) →
    Holds memory first bytes → 0 < first → HasCode memory from limit → from ≤ f.address → f.address + 4 * f.function.words ≤ limit → FunctionFits rows f.function →
    drop n bytes ≡ table_bytes (linked_table end f.function.table) (first + n) ++ rest →
    WritesTable (linked_table end f.function.table) (first + n) (table_bytes (linked_table end f.function.table) (first + n)) → FdeStands (linked_frame (first + n) f) g →
    IsOkAnd (function_of memory g) (FunctionRead memory end f g)
function_read memory first n bytes end from limit rows f g rest holds some code low high fits here writes stands =
    let list = linked_table end f.function.table in
    let a = first + n in
    let front : 2 ≤ length (front_bytes list) = omega arith in
    let long : 0 < length (table_bytes list a) = omega (arith, front, table_length list a) in
    let has : HasBytes memory a (table_bytes list a) = has_bytes memory first n bytes (table_bytes list a) rest holds long here in
    let region = stands.region in
    let start : g.region.start ≡ f.address = ap (λ r. r.start) region in
    let size : g.region.length ≡ 4 * f.function.words = ap (λ r. r.length) region in
    let inside = sites_fit memory from limit (4 * f.function.words) g.region list.sites code (omega (arith, low, start)) (omega (arith, high, start)) size fits.table.inside in
    let read : IsOkAnd (lsda memory a g.region) (TableStands list g.region) = writes.table memory g.region has inside in
    let named : (a == 0) ≡ false = grind (arith, nat_tests, some) in
    let table : table_named memory g.lsda g.region ≡ table_read (lsda memory a g.region)
    = ap (λ x. table_named memory x g.region) stands.lsda ∙ ap (λ b. if b then Ok None else table_read (lsda memory a g.region)) named in
    let within : n < length bytes = omega (arith, ap length here, length-drop n bytes, length-append (table_bytes list a) rest, long) in
    let still : (if g.lsda == 0 then [] else written_at memory g.lsda) ≡ []
    = ap (λ x. if x == 0 then [] else written_at memory x) stands.lsda ∙ (ap (λ b. if b then [] else written_at memory a) named ∙ kept memory first n bytes holds within) in
    subst (λ r. IsOkAnd (made r) (FunctionRead memory end f g)) (sym table) (by (lsda memory a g.region) read still)
  where
    made : Result (Option Table) Fault → Result Function Fault
    made r = r >>= λ t. Ok (record { fde = g; table = t })

    by : (r : Result Table Fault) → IsOkAnd r (TableStands (linked_table end f.function.table) g.region) → (if g.lsda == 0 then [] else written_at memory g.lsda) ≡ [] →
        IsOkAnd (made (table_read r)) (FunctionRead memory end f g)
    by (Err e) read still = absurd read
    by (Ok t) read still = record { fde = refl; table = read; kept = still }

-- those of frames in a row
pub record FunctionsRead (memory : Memory) (end : ℕ) (fs : List PlacedFunction) (fdes : List Fde) (hs : List Function) : Type 0 where
  pub frames : map (λ h. h.fde) hs ≡ fdes
  pub tables : AllZip (HasTable end) fs hs
  pub kept : flat_map (table_written memory) hs ≡ []

first_and_rest : (memory : Memory) (end : ℕ) (f : PlacedFunction) (fs : List PlacedFunction) (g : Fde) (gs : List Fde) (one : Result Function Fault) (others : Result (List Function) Fault) →
    IsOkAnd one (FunctionRead memory end f g) → IsOkAnd others (FunctionsRead memory end fs gs) →
    IsOkAnd (one >>= λ h. others >>= λ hs. Ok (h ∷ hs)) (FunctionsRead memory end (f ∷ fs) (g ∷ gs))
first_and_rest memory end f fs g gs (Err e) others one more = absurd one
first_and_rest memory end f fs g gs (Ok h) (Err e) one more = absurd more
first_and_rest memory end f fs g gs (Ok h) (Ok hs) one more = record {
  frames = ap (λ x. x ∷ map (λ y. y.fde) hs) one.fde ∙ ap (λ xs. g ∷ xs) more.frames;
  tables = (one.table, more.tables);
  kept = ap (λ xs. xs ++ flat_map (table_written memory) hs) one.kept ∙ more.kept;
}

pub functions_read : (memory : Memory) (first n : ℕ) (bytes : List ℕ) (end from before limit rows : ℕ) (fs : List PlacedFunction) (gs : List Fde) (rest : List ℕ) →
    Holds memory first bytes → 0 < first → HasCode memory from limit → from ≤ before → InRow before limit fs → AllByRecursion (λ f. FunctionFits rows f.function) fs →
    drop n bytes ≡ tables_bytes end (first + n) fs ++ rest → TablesStand end (first + n) fs → AllZip FdeStands (linked_frames end (first + n) fs) gs →
    IsOkAnd (functions_of memory gs) (FunctionsRead memory end fs gs)
functions_read memory first n bytes end from before limit rows [] [] rest holds some code low row fit here writes stand = record { frames = refl; tables = tt; kept = refl }
functions_read memory first n bytes end from before limit rows [] (g ∷ gs) rest holds some code low row fit here writes stand = absurd stand
functions_read memory first n bytes end from before limit rows (f ∷ fs) [] rest holds some code low row fit here writes stand = absurd stand
functions_read memory first n bytes end from before limit rows (f ∷ fs) (g ∷ gs) rest holds some code low (start, row) (fits, fit) here (written, writes) (stands, stand) =
    let list = linked_table end f.function.table in
    let t = table_bytes list (first + n) in
    let z : List ℕ = replicate ((4 - length t % 4) % 4) 0 in
    let placed = placed_table end (first + n) f in
    let more = tables_bytes end (first + n + length placed) fs in
    let begins : drop n bytes ≡ placed ++ (more ++ rest) = here ∙ append_assoc placed more rest in
    let table_here : drop n bytes ≡ t ++ (z ++ (more ++ rest)) = begins ∙ append_assoc t z (more ++ rest) in
    let next : first + n + length placed ≡ first + (n + length placed) = omega arith in
    let behind : drop (n + length placed) bytes ≡ tables_bytes end (first + (n + length placed)) fs ++ rest
    = sym (drop-drop (length placed) n bytes) ∙ (ap (drop (length placed)) begins ∙ (drop-append_seam placed (more ++ rest) ∙ ap (λ a. tables_bytes end a fs ++ rest) next)) in
    first_and_rest memory end f fs g gs (function_of memory g) (functions_of memory gs)
    (function_read memory first n bytes end from limit rows f g (z ++ (more ++ rest)) holds some code (omega (arith, low, start)) (row_end (f.address + 4 * f.function.words) limit fs row) fits table_here written stands)
    (functions_read memory first (n + length placed) bytes end from (f.address + 4 * f.function.words) limit rows fs gs rest holds some code (omega (arith, low, start)) row fit behind
    (subst (λ a. TablesStand end a fs) next writes) (subst (λ a. AllZip FdeStands (linked_frames end a fs) gs) next stand))
