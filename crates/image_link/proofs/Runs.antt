-- A linked image is clean, and may run.
use Rattle.std.proofs.Common.{◌≡◌, ◌<◌, ℕ, ◌+◌, ◌-◌, ◌*◌, ◌^◌, true, List, [], ◌++◌, length, length-append, map, drop, append-nil, Option, Some, None, Result, Ok, Err, refl, sym, ◌∙◌, ap, subst, arith}
use Rattle.std.specs.Prelude.{IsOkAnd, IsSomeAnd, IfOk, OnOk, flat_map}
use Rattle.std.specs.List.{AllZip}
use Rattle.std.specs.declared.vec.Vec.{Vec}
use Rattle.std.specs.declared.alloc.Global.{Global}
use Rattle.std.proofs.lemmas.List.{append_assoc}
use Rattle.std.proofs.Math.Seq.{drop-append_seam}
use Rattle.eh_bytes.specs.Memory.{Part, Memory, part_with, is_code}
use Rattle.eh_bytes.specs.Listed.{ListedUnit}
use Rattle.table_forms.specs.Fault.{Fault, ◌>>=◌, least, answer}
use Rattle.table_forms.specs.Fde.{Fde}
use Rattle.table_forms.specs.Header.{Header, header_at as header_read}
use Rattle.table_forms.specs.Parts.{parts_at}
use Rattle.table_forms.specs.Frames.{Frames, sorted, frames}
use Rattle.table_forms.specs.WrittenFrames.{FdeStands, FramesStand}
use Rattle.table_forms.specs.WrittenTable.{HasBytes}
use Rattle.elf_image.specs.Elf.{Image, elf}
use Rattle.elf_image.specs.Clean.{Function, CleanImage, functions_of, judged}
use Rattle.elf_image.specs.Runnable.{written_at, frames_written as frames_faults, start_in, frames_start, table_written, written_faults, runnable}
use Rattle.elf_image.specs.Stands.{unplaced, ImageStands, WritesImage}
use Rattle.image_forms.specs.Placed.{code_at, all_code, names_at, all_functions}
use Rattle.image_forms.specs.Tables.{with_tables, header_rows}
use Rattle.image_forms.specs.Linked.{unit_names, tables_at, unit_tables, unit_frames, frames_at, frames_written, header_at, header_written, constant_bytes, memory_for, contents_for, linked}
use Rattle.image_forms.specs.Linkable.{IsLinkable}
use Rattle.image_link.specs.Standing.{ListsStand}
use Rattle.image_link.specs.Runs.{UnitStands, RunsUnit}
use Rattle.image_link.proofs.Bounds.{frames_length, header_length}
use Rattle.image_link.proofs.Whole.{code_end}
use Rattle.image_link.proofs.Stands.{before_header, header_place, constants_low, constants_part, last_found, code_found}
use Rattle.image_link.proofs.Handed.{fit, code_row}
use Rattle.image_link.proofs.Places.{places_read}
use Rattle.image_link.proofs.ReadMemory.{read_part, code_read, Holds, has_bytes}
use Rattle.image_link.proofs.ReadFrames.{sorted_same, from_row, agrees, Leads, frames_read}
use Rattle.image_link.proofs.ReadTables.{kept, HasCode, FunctionsRead, functions_read}

-- ---- the memory
constants_held : (u : ListedUnit) (memory : Memory) → map unplaced memory ≡ memory_for u → Holds memory (names_at u) (constant_bytes u)
constants_held u memory same n inside =
    let a = names_at u + n in
    let read = read_part memory a (constants_part u) (ap (λ m. part_with m a) same ∙ last_found u a (omega arith) (omega (arith, inside))) in
    record {
      part = read.part;
      found = read.found;
      held = record { address = ap (λ p. p.address) read.same; content = ap (λ p. p.bytes) read.same; kept = ap (λ p. p.write) read.same };
    }

code_held : (u : ListedUnit) (memory : Memory) → map unplaced memory ≡ memory_for u → HasCode memory (code_at u) (code_at u + 4 * length (all_code u))
code_held u memory same a low high = code_read memory a ∙ (ap (λ m. is_code m a) same ∙ code_found u a low high)

-- ---- the places of tables, frames and header in the last segment
tables_here : (u : ListedUnit) → drop (length (unit_names u)) (constant_bytes u) ≡ unit_tables u ++ (frames_written u ++ header_written u)
tables_here u =
    let n = unit_names u in
    let t = unit_tables u in
    let f = frames_written u in
    let h = header_written u in
    ap (drop (length n)) (append_assoc (n ++ t) f h ∙ append_assoc n t (f ++ h)) ∙ drop-append_seam n (t ++ (f ++ h))

frames_here : (u : ListedUnit) → drop (length (unit_names u ++ unit_tables u)) (constant_bytes u) ≡ frames_written u ++ header_written u
frames_here u =
    let b = unit_names u ++ unit_tables u in
    ap (drop (length b)) (append_assoc b (frames_written u) (header_written u)) ∙ drop-append_seam b (frames_written u ++ header_written u)

header_here : (u : ListedUnit) → drop (length (before_header u)) (constant_bytes u) ≡ header_written u ++ []
header_here u = drop-append_seam (before_header u) (header_written u) ∙ sym (append-nil (header_written u))

frames_place : (u : ListedUnit) → names_at u + length (unit_names u ++ unit_tables u) ≡ frames_at u
frames_place u = omega (arith, length-append (unit_names u) (unit_tables u))

some_frames : (u : ListedUnit) → 0 < length (frames_written u)
some_frames u = omega (arith, frames_length (unit_frames u) (frames_at u))

some_header : (u : ListedUnit) → 0 < length (header_written u)
some_header u = omega (arith, header_length (header_rows (frames_at u) (unit_frames u)) (frames_at u) (header_at u))

header_inside : (u : ListedUnit) → length (before_header u) < length (constant_bytes u)
header_inside u = omega (arith, length-append (before_header u) (header_written u), some_header u)

frames_inside : (u : ListedUnit) → length (unit_names u ++ unit_tables u) < length (constant_bytes u)
frames_inside u = omega (arith, length-append (unit_names u ++ unit_tables u) (frames_written u), header_inside u)

-- ---- what is read
-- the frames of a unit, behind their header
record FramesFound (u : ListedUnit) (memory : Memory) : Type 0 where
  fdes : List Fde
  stand : AllZip FdeStands (unit_frames u) fdes
  leads : Leads memory (header_at u) (frames_at u) (header_rows (frames_at u) (unit_frames u)) fdes

frames_found : (u : ListedUnit) (memory : Memory) → IsLinkable u → ListsStand u → Holds memory (names_at u) (constant_bytes u) → FramesFound u memory
frames_found u memory can lists holds =
    let n = length (unit_names u ++ unit_tables u) in
    let some = some_frames u in
    let inside = frames_inside u in
    let at = holds n inside in
    let place = frames_place u in
    let c = frames_at u - at.part.address in
    let found : part_with memory (frames_at u) ≡ Some at.part = ap (part_with memory) (sym place) ∙ at.found in
    let has : HasBytes memory (frames_at u) (frames_written u)
    = subst (λ a. HasBytes memory a (frames_written u)) place (has_bytes memory (names_at u) n (constant_bytes u) (frames_written u) (header_written u) holds some (frames_here u)) in
    let stand : FramesStand (with_tables (unit_frames u)) (parts_at at.part c)
    = subst (λ o. IsSomeAnd o (λ part. FramesStand (with_tables (unit_frames u)) (parts_at part (frames_at u - part.address)))) found (lists.frames memory has) in
    let fdes = (parts_at at.part c).fdes in
    let same : c ≡ n = omega (arith, at.held.address, place) in
    let here : drop c at.part.bytes ≡ frames_written u ++ header_written u = ap (λ k. drop k at.part.bytes) same ∙ (ap (drop n) at.held.content ∙ frames_here u) in
    let small : length at.part.bytes < 2 ^ 32 = omega (arith, ap length at.held.content, constants_low u can) in
    let places = places_read at.part c (frames_at u) (unit_frames u) (header_written u) (omega (arith, at.held.address, place)) small here stand.fdes in
    let headed = subst (λ a. HasBytes memory a (header_written u)) (header_place u)
    (has_bytes memory (names_at u) (length (before_header u)) (constant_bytes u) (header_written u) [] holds (some_header u) (header_here u)) in
    record {
      fdes = fdes;
      stand = stand.fdes;
      leads = record {
        headed = lists.header memory headed;
        part = at.part;
        found = found;
        whole = stand.whole;
        listed = refl;
        order = sorted_same (code_at u) fdes (from_row (code_at u) (tables_at u) (code_at u) (code_at u + 4 * length (all_code u)) (length u.types) (all_functions u) fdes (code_row u can) (fit u can) stand.fdes);
        agree = λ place. agrees (frames_at u) (frames_at u + 24) place (unit_frames u) fdes stand.fdes places;
      };
    }

started : (header start : ℕ) (clean : Header) (o : Option Part) → clean.frames_at ≡ Some start → IsSomeAnd o (λ part. header_read part (header - part.address) ≡ clean) → start_in header o ≡ Some start
started header start clean None is headed = absurd headed
started header start clean (Some part) is headed = ap (λ h. h.frames_at) headed ∙ is

-- ---- all steps
abbrev made : Image → Frames → List Function → CleanImage
made i d fs = record { image = i; cies = d.cies; functions = fs }

of_functions : Image → Frames → Result (List Function) Fault → Result CleanImage Fault
of_functions i d r = r >>= λ fs. Ok (made i d fs)

of_frames : Image → Result Frames Fault → Result CleanImage Fault
of_frames i r = r >>= λ d. of_functions i d (functions_of i.memory (sorted d.fdes))

of_image : Result Image Fault → Result CleanImage Fault
of_image r = r >>= λ i. of_frames i (frames i.memory i.frame_header)

may_run : Result CleanImage Fault → Result CleanImage Fault
may_run r = r >>= λ c. answer (least (written_faults c)) c

by_steps : (file : List ℕ) → runnable file ≡ may_run (of_image (elf file true))
unfolding runnable judged of_functions of_frames of_image may_run
by_steps file = refl

-- nothing is written where it is read
none_written : (i : Image) (d : Frames) (hs : List Function) → written_at i.memory i.frame_header ≡ [] → frames_faults i.memory (frames_start i.memory i.frame_header) ≡ [] →
    flat_map (table_written i.memory) hs ≡ [] → least (written_faults (made i d hs)) ≡ None
unfolding written_faults least
none_written i d hs header start tables =
    let back = flat_map (table_written i.memory) hs in
    ap (λ xs. least (xs ++ frames_faults i.memory (frames_start i.memory i.frame_header) ++ back)) header ∙ (ap (λ xs. least (xs ++ back)) start ∙ ap least tables)

-- an image whose frames and tables are read so runs
runs_so : (u : ListedUnit) (i : Image) (fdes : List Fde) → ImageStands (contents_for u) i → AllZip FdeStands (unit_frames u) fdes →
    written_at i.memory i.frame_header ≡ [] → frames_faults i.memory (frames_start i.memory i.frame_header) ≡ [] →
    IsOkAnd (frames i.memory i.frame_header) (λ d. d.fdes ≡ fdes) → IsOkAnd (functions_of i.memory (sorted fdes)) (FunctionsRead i.memory (code_at u) (all_functions u) fdes) →
    IsOkAnd (may_run (of_frames i (frames i.memory i.frame_header))) (UnitStands u)
unfolding of_functions of_frames may_run
runs_so u i fdes image stand header start read tables = by_frames (frames i.memory i.frame_header) read
  where
    by_functions : (d : Frames) (r : Result (List Function) Fault) → IsOkAnd r (FunctionsRead i.memory (code_at u) (all_functions u) fdes) → IsOkAnd (may_run (of_functions i d r)) (UnitStands u)
    by_functions d (Err e) all = absurd all
    by_functions d (Ok hs) all =
        let stands : UnitStands u (made i d hs) = record { image = image; frames = subst (AllZip FdeStands (unit_frames u)) (sym all.frames) stand; tables = all.tables } in
        subst (λ o. IsOkAnd (answer o (made i d hs)) (UnitStands u)) (sym (none_written i d hs header start all.kept)) stands

    by_frames : (r : Result Frames Fault) → IsOkAnd r (λ d. d.fdes ≡ fdes) → IsOkAnd (may_run (of_frames i r)) (UnitStands u)
    by_frames (Err e) same = absurd same
    by_frames (Ok d) same =
        by_functions d (functions_of i.memory (sorted d.fdes))
        (subst (λ fs. IsOkAnd (functions_of i.memory (sorted fs)) (FunctionsRead i.memory (code_at u) (all_functions u) fdes)) (sym same) tables)

image_runs : (u : ListedUnit) (i : Image) → IsLinkable u → ListsStand u → ImageStands (contents_for u) i → IsOkAnd (may_run (of_frames i (frames i.memory i.frame_header))) (UnitStands u)
image_runs u i can lists image =
    let m = i.memory in
    let names = names_at u in
    let bytes = constant_bytes u in
    let holds = constants_held u m image.memory in
    let found = frames_found u m can lists holds in
    let leads = found.leads in
    let fdes = found.fdes in
    let head = image.frame_header in
    let rows = header_rows (frames_at u) (unit_frames u) in
    let header : written_at m i.frame_header ≡ []
    = ap (written_at m) (head ∙ sym (header_place u)) ∙ kept m names (length (before_header u)) bytes holds (header_inside u) in
    let start : frames_start m i.frame_header ≡ Some (frames_at u)
    = ap (frames_start m) head ∙ started (header_at u) (frames_at u) (record { frames_at = Some (frames_at u); rows = Some rows; faults = [] }) (part_with m (header_at u)) refl leads.headed in
    let start_kept : frames_faults m (frames_start m i.frame_header) ≡ []
    = ap (frames_faults m) start ∙ (ap (written_at m) (sym (frames_place u)) ∙ kept m names (length (unit_names u ++ unit_tables u)) bytes holds (frames_inside u)) in
    let read = subst (λ h. IsOkAnd (frames m h) (λ d. d.fdes ≡ fdes)) (sym head) (frames_read m (header_at u) (frames_at u) rows fdes leads) in
    let limit = code_at u + 4 * length (all_code u) in
    let functions = functions_read m names (length (unit_names u)) bytes (code_at u) (code_at u) (code_at u) limit (length u.types) (all_functions u) fdes (frames_written u ++ header_written u)
    holds (omega (arith, code_end u)) (code_held u m image.memory) (omega arith) (code_row u can) (fit u can) (tables_here u) lists.tables found.stand in
    runs_so u i fdes image found.stand header start_kept read
    (subst (λ fs. IsOkAnd (functions_of m fs) (FunctionsRead m (code_at u) (all_functions u) fdes)) (sym leads.order) functions)

pub runs_unit : (u : ListedUnit) (file : List ℕ) → IsLinkable u → ListsStand u → WritesImage (contents_for u) true file → RunsUnit u file
unfolding of_image
runs_unit u file can lists writes = subst (λ r. IsOkAnd r (UnitStands u)) (sym (by_steps file)) (by (elf file true) writes)
  where
    by : (r : Result Image Fault) → IsOkAnd r (ImageStands (contents_for u)) → IsOkAnd (may_run (of_image r)) (UnitStands u)
    by (Err e) image = absurd image
    by (Ok i) image = image_runs u i can lists image
