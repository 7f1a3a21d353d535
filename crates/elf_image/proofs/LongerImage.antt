-- The segments, the record for the runtime and the whole image of a file that has the bytes of another wherever that is read.
use Rattle.std.proofs.Common.{◌≡◌, ◌+◌, ◌-◌, ◌*◌, ◌<◌, ◌≤◌, ◌==◌, ◌&&◌, ℕ, zero, suc, Bool, true, false, nat_le, List, [], ◌∷◌, ◌++◌, length, take, drop, map, Result, Ok, Err, refl, ap, sym, subst, ◌∙◌, arith, if◌then◌else◌}
use Rattle.std.specs.Prelude.{Option, Some, None, nat_lt, not, option_map, unwrap_or, find, replicate, is_some}
use Rattle.std.specs.Int.{w8, w16, w64}
use Rattle.std.specs.List.{AllByRecursion, list_any}
use Rattle.std.proofs.lemmas.Bool.Decides.{nat_tests}
use Rattle.eh_bytes.specs.declared.unit.RuntimeRecord.{RuntimeRecord}
use Rattle.eh_bytes.specs.Memory.{Part}
use Rattle.table_forms.specs.declared.reason.Reason.TheVariants.{NoFrames, NoRuntime, Runtime, SegmentRange, SegmentOverlap}
use Rattle.table_forms.specs.Fault.{Fault, ◌>>=◌, unless, least, answer}
use Rattle.table_forms.proofs.Least.{none_first, none_second, holds}
use Rattle.elf_image.specs.declared.program.ProgramHeader.{ProgramHeader}
use Rattle.elf_image.specs.Numbers.{field}
use Rattle.elf_image.specs.Header.{header_faults}
use Rattle.elf_image.specs.Programs.{headers_of, loaded, frames_header, runtime_header, is_writable, is_executable}
use Rattle.elf_image.specs.Loads.{part_of, memory_in, meet, is_placed, one_faults, load_faults, low_faults, is_within, Placed, AreSound}
use Rattle.elf_image.specs.Runtime.{has_address, byte_in, byte_at, is_bare_at, has_table, has_stub, is_runtime, runtime_faults, runtime_of}
use Rattle.elf_image.specs.Elf.{Image, image_of, segment_faults, run_faults, faults_to_run, elf}
use Rattle.elf_image.proofs.Sound.{sound, all_placed}
use Rattle.elf_image.proofs.Stays.{Stays, stays_inside, taken_stays, field_stays}
use Rattle.elf_image.proofs.Longer.{Reads, entry_same, header_good, headers_inside, headers_same}

-- segments of which nothing is refused
placed_longer : (len more before : ℕ) (h : ProgramHeader) → len ≤ more → is_placed len before h ≡ true → is_placed more before h ≡ true
placed_longer len more before h le e = grind (arith, nat_tests, le, e)

sound_longer : (len more before : ℕ) (earlier hs : List ProgramHeader) → len ≤ more → AreSound len before earlier hs → AreSound more before earlier hs
sound_longer len more before earlier [] le s = tt
sound_longer len more before earlier (h ∷ hs) le s =
    (placed_longer len more before h le s.0, s.1, sound_longer len more (before + h.memory_size) (earlier ++ h ∷ []) hs le s.2)

none_of : (len before : ℕ) (earlier hs : List ProgramHeader) → AreSound len before earlier hs → load_faults len before earlier hs ≡ []
none_of len before earlier [] s = refl
none_of len before earlier (h ∷ hs) s = rw s.0 (rw s.1 (none_of len (before + h.memory_size) (earlier ++ h ∷ []) hs s.2))

abbrev SegmentsStay : List ℕ → List ℕ → List ProgramHeader → Type 0
SegmentsStay file other ls = AllByRecursion (λ h. Stays h.offset (h.offset + h.file_size) file other) ls

memory_same : (file other : List ℕ) (ls : List ProgramHeader) → SegmentsStay file other ls → map (part_of other) ls ≡ map (part_of file) ls
memory_same file other [] stay = refl
memory_same file other (h ∷ ls) stay =
    let bytes = sym (taken_stays h.offset h.file_size file other stay.0) in
    ap (λ xs. with_bytes h xs ∷ map (part_of other) ls) bytes ∙ ap (λ parts. part_of file h ∷ parts) (memory_same file other ls stay.1)
  where
    with_bytes : ProgramHeader → List ℕ → Part
    with_bytes h xs = record { address = h.address; bytes = xs ++ replicate (h.memory_size - h.file_size) 0; file_at = h.offset; write = is_writable h; exec = is_executable h }

-- the byte at an address
byte_same : (file other : List ℕ) (a : ℕ) (ls : List ProgramHeader) → length file ≤ length other → AllByRecursion (Placed (length file)) ls → SegmentsStay file other ls →
    byte_at other ls a ≡ byte_at file ls a
byte_same file other a [] longer placed stay = refl
byte_same file other a (h ∷ ls) longer placed stay = by (byte_same file other a ls longer placed.1 stay.1) (has_address a h) refl
  where
    here : (b : Bool) → nat_lt (a - h.address) h.file_size ≡ b →
        (if b then field w8 other (h.offset + (a - h.address)) else 0) ≡ (if b then field w8 file (h.offset + (a - h.address)) else 0)
    here false e = refl
    here true e =
        let inside : a - h.address < h.file_size = grind (arith, nat_tests, e) in
        let p = placed.0 in let i = p.inside in
        field_stays w8 file other (h.offset + (a - h.address)) (omega (arith, i, inside)) longer
        (stays_inside h.offset (h.offset + h.file_size) (h.offset + (a - h.address)) (h.offset + (a - h.address) + 1) file other (omega arith) (omega (arith, inside)) stay.0)

    by : byte_at other ls a ≡ byte_at file ls a → (b : Bool) → has_address a h ≡ b → byte_at other (h ∷ ls) a ≡ byte_at file (h ∷ ls) a
    by more true e = rw e (here (nat_lt (a - h.address) h.file_size) refl)
    by more false e = rw e more

table_same : (file other : List ℕ) (ls : List ProgramHeader) (o : Option ProgramHeader) → length file ≤ length other → AllByRecursion (Placed (length file)) ls → SegmentsStay file other ls →
    has_table other ls o ≡ has_table file ls o
table_same file other ls None longer placed stay = refl
table_same file other ls (Some h) longer placed stay =
    ap (λ n. not (n == 0xff && byte_at other ls (h.address + 3) == 0xff)) (byte_same file other (h.address + 2) ls longer placed stay) ∙
    ap (λ n. not (byte_at file ls (h.address + 2) == 0xff && n == 0xff)) (byte_same file other (h.address + 3) ls longer placed stay)

-- the record for the runtime
abbrev RecordStays : List ℕ → List ℕ → Option ProgramHeader → Type 0
RecordStays file other o = (h : ProgramHeader) → o ≡ Some h → Stays h.offset (h.offset + h.file_size) file other

record_good : (file other : List ℕ) (ls : List ProgramHeader) (h : ProgramHeader) → length file ≤ length other → Stays h.offset (h.offset + h.file_size) file other →
    is_runtime file ls h ≡ true → (is_runtime other ls h ≡ true) × (runtime_of other h ≡ runtime_of file h)
record_good file other ls h longer stays good =
    let inside : h.offset + h.file_size ≤ length file = grind (arith, nat_tests, good) in
    let size : h.file_size ≡ 24 = grind (arith, nat_tests, good) in
    let in' : (k : ℕ) → k + 8 ≤ 24 → field w64 other (h.offset + k) ≡ field w64 file (h.offset + k) =
    λ k high. field_stays w64 file other (h.offset + k) (omega (arith, inside, size, high)) longer
    (stays_inside h.offset (h.offset + h.file_size) (h.offset + k) (h.offset + k + 8) file other (omega arith) (omega (arith, size, high)) stays) in
    let none : h.offset + 0 ≡ h.offset = omega arith in
    let format : field w64 other h.offset ≡ field w64 file h.offset = subst (λ p. field w64 other p ≡ field w64 file p) none (in' 0 (omega arith)) in
    let stub = in' 8 (omega arith) in
    let type = in' 16 (omega arith) in
    let make : ℕ → ℕ → RuntimeRecord = λ a b. record { terminate = a; bad_exception = b } in (
      ap (λ x. nat_le (h.offset + h.file_size) (length other) && h.file_size == 24 && x == 1 && has_stub ls (field w64 other (h.offset + 8))) format ∙
          ap (λ x. nat_le (h.offset + h.file_size) (length other) && h.file_size == 24 && field w64 file h.offset == 1 && has_stub ls x) stub ∙
          ap (λ b. b && h.file_size == 24 && field w64 file h.offset == 1 && has_stub ls (field w64 file (h.offset + 8))) (room (length other) (omega (arith, inside, longer)) ∙ sym (room (length file) inside)) ∙ good,
      ap (λ x. make x (field w64 other (h.offset + 16))) stub ∙ ap (make (field w64 file (h.offset + 8))) type,
    )
  where
    room : (n : ℕ) → h.offset + h.file_size ≤ n → nat_le (h.offset + h.file_size) n ≡ true
    room n le = grind (arith, nat_tests, le)

records_same : (file other : List ℕ) (ls : List ProgramHeader) (o : Option ProgramHeader) → length file ≤ length other → RecordStays file other o → least (runtime_faults file ls o) ≡ None →
    (runtime_faults other ls o ≡ []) × (option_map (runtime_of other) o ≡ option_map (runtime_of file) o)
records_same file other ls None longer stays none = (refl, refl)
records_same file other ls (Some h) longer stays none =
    let good = record_good file other ls h longer (stays h refl) (holds (is_runtime file ls h) Runtime h.place none) in
    (ap (λ b. unless b Runtime h.place) good.0, ap Some good.1)

-- the whole image
elf_steps : (file : List ℕ) (run : Bool) → elf file run ≡
    (answer (least (header_faults file)) true >>= λ whole. answer (least (segment_faults file (headers_of file) ++ faults_to_run run file (headers_of file))) (image_of file (headers_of file)))
unfolding elf
elf_steps file run = refl

-- what is known of a file of which nothing is refused
record Good (file : List ℕ) (run : Bool) (i : Image) : Type 0 where
  header : least (header_faults file) ≡ None
  rest : least (segment_faults file (headers_of file) ++ faults_to_run run file (headers_of file)) ≡ None
  is : image_of file (headers_of file) ≡ i

answered : {A : Type 0} (o : Option Fault) (x y : A) → answer o x ≡ Ok y → (o ≡ None) × (x ≡ y)
answered None x y e = (refl, cc)
answered (Some f) x y e = absurd cc

good : (file : List ℕ) (run : Bool) (i : Image) → elf file run ≡ Ok i → Good file run i
good file run i read = by (least (header_faults file)) refl (sym (elf_steps file run) ∙ read)
  where
    rest : Option Fault
    rest = least (segment_faults file (headers_of file) ++ faults_to_run run file (headers_of file))

    by : (a : Option Fault) → least (header_faults file) ≡ a → (answer a true >>= λ whole. answer rest (image_of file (headers_of file))) ≡ Ok i → Good file run i
    by None e h = let both = answered rest (image_of file (headers_of file)) i h in record { header = e; rest = both.0; is = both.1 }
    by (Some x) e h = absurd cc

segment_parts : (file : List ℕ) (hs : List ProgramHeader) → segment_faults file hs ≡
    load_faults (length file) 0 [] (loaded hs) ++ unless (is_within (loaded hs) (frames_header hs)) NoFrames 0 ++ runtime_faults file (loaded hs) (runtime_header hs)
unfolding segment_faults
segment_parts file hs = refl

run_parts : (file : List ℕ) (hs : List ProgramHeader) → run_faults file hs ≡
    low_faults 0 (loaded hs) ++ unless (has_table file (loaded hs) (frames_header hs)) NoFrames 0 ++ unless (is_some (runtime_header hs)) NoRuntime 0
unfolding run_faults
run_parts file hs = refl

run_same : (file other : List ℕ) (run : Bool) (hs : List ProgramHeader) → has_table other (loaded hs) (frames_header hs) ≡ has_table file (loaded hs) (frames_header hs) →
    faults_to_run run other hs ≡ faults_to_run run file hs
run_same file other false hs e = refl
run_same file other true hs e =
    run_parts other hs ∙ ap (λ b. low_faults 0 (loaded hs) ++ unless b NoFrames 0 ++ unless (is_some (runtime_header hs)) NoRuntime 0) e ∙ sym (run_parts file hs)

-- a file that has the bytes of another wherever that is read is read as that
pub elf_same : (file other : List ℕ) (run : Bool) (i : Image) → Reads file other → elf file run ≡ Ok i → elf other run ≡ Ok i
elf_same file other run i r read =
    let g = good file run i read in
    let hs = headers_of file in
    let ls = loaded hs in
    let within = unless (is_within ls (frames_header hs)) NoFrames 0 in
    let loads = load_faults (length file) 0 [] ls in
    let records = runtime_faults file ls (runtime_header hs) in
    let parts : least (loads ++ within ++ records) ≡ None =
    ap least (sym (segment_parts file hs)) ∙ none_first (segment_faults file hs) (faults_to_run run file hs) g.rest in
    let whole = sound (length file) 0 [] ls (none_first loads within (none_first (loads ++ within) records parts)) in
    let after = none_second (loads ++ within) records parts in
    let placed = all_placed (length file) 0 [] ls whole in
    let record_is = records_same file other ls (runtime_header hs) r.longer r.runtime after in
    let table = table_same file other ls (frames_header hs) r.longer placed r.segments in
    let no_loads : load_faults (length other) 0 [] ls ≡ [] = none_of (length other) 0 [] ls (sound_longer (length file) (length other) 0 [] ls r.longer whole) in
    let old_loads : loads ≡ [] = none_of (length file) 0 [] ls whole in
    let old_records : records ≡ [] = none_here (runtime_header hs) after in
    let same_segments : segment_faults other hs ≡ segment_faults file hs =
    segment_parts other hs ∙ ap (λ x. x ++ within ++ runtime_faults other ls (runtime_header hs)) (no_loads ∙ sym old_loads) ∙
    ap (λ x. loads ++ within ++ x) (record_is.0 ∙ sym old_records) ∙ sym (segment_parts file hs) in
    let make : ℕ → List Part → Option RuntimeRecord → Image = λ e m t. record { entry = e; memory = m; frame_header = unwrap_or (option_map (λ h. h.address) (frames_header hs)) 0; runtime = t } in
    let image : image_of other hs ≡ image_of file hs =
    ap (λ e. make e (memory_in other hs) (option_map (runtime_of other) (runtime_header hs))) (entry_same file other r) ∙
    ap (λ m. make (field w64 file 24) m (option_map (runtime_of other) (runtime_header hs))) (memory_same file other ls r.segments) ∙
    ap (make (field w64 file 24) (memory_in file hs)) record_is.1 in
    elf_steps other run ∙
    ap (λ o. answer o true >>= answered other run (headers_of other)) (header_good file other r g.header) ∙
    ap (λ x. answered other run x true) (headers_same file other r g.header) ∙
    ap (λ x. answer (least (x ++ faults_to_run run other hs)) (image_of other hs)) same_segments ∙
    ap (λ x. answer (least (segment_faults file hs ++ x)) (image_of other hs)) (run_same file other run hs table) ∙
    ap (λ o. answer o (image_of other hs)) g.rest ∙ ap (λ (x : Image). Ok x) (image ∙ g.is)
  where
    answered : List ℕ → Bool → List ProgramHeader → Bool → Result Image Fault
    answered other run hs whole = answer (least (segment_faults other hs ++ faults_to_run run other hs)) (image_of other hs)

    none_here : (o : Option ProgramHeader) → least (runtime_faults file (loaded (headers_of file)) o) ≡ None → runtime_faults file (loaded (headers_of file)) o ≡ []
    none_here None e = refl
    none_here (Some h) e = ap (λ b. unless b Runtime h.place) (holds (is_runtime file (loaded (headers_of file)) h) Runtime h.place e)

-- what is read of a file of which nothing is refused lies in it
pub record Inside (file : List ℕ) : Type 0 where
  pub headers : field w64 file 32 + 56 * field w16 file 56 ≤ length file
  pub segments : AllByRecursion (Placed (length file)) (loaded (headers_of file))
  pub runtime : (h : ProgramHeader) → runtime_header (headers_of file) ≡ Some h → h.offset + h.file_size ≤ length file

pub inside_of : (file : List ℕ) (run : Bool) (i : Image) → elf file run ≡ Ok i → Inside file
inside_of file run i read =
    let g = good file run i read in
    let hs = headers_of file in
    let ls = loaded hs in
    let within = unless (is_within ls (frames_header hs)) NoFrames 0 in
    let loads = load_faults (length file) 0 [] ls in
    let records = runtime_faults file ls (runtime_header hs) in
    let parts : least (loads ++ within ++ records) ≡ None =
    ap least (sym (segment_parts file hs)) ∙ none_first (segment_faults file hs) (faults_to_run run file hs) g.rest in
    let after = none_second (loads ++ within) records parts in
    record {
      headers = headers_inside file g.header;
      segments = all_placed (length file) 0 [] ls (sound (length file) 0 [] ls (none_first loads within (none_first (loads ++ within) records parts)));
      runtime = λ h is. by h (holds (is_runtime file ls h) Runtime h.place (subst (λ o. least (runtime_faults file ls o) ≡ None) is after));
    }
  where
    by : (h : ProgramHeader) → is_runtime file (loaded (headers_of file)) h ≡ true → h.offset + h.file_size ≤ length file
    by h e = grind (arith, nat_tests, e)
