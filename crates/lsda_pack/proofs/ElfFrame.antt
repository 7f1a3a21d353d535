-- What is read of an ELF file but its memory depends only on its headers and on the record for the runtime.
use Rattle.std.proofs.Common.{◌≡◌, ◌+◌, ◌*◌, ◌≤◌, ◌==◌, ◌&&◌, ℕ, zero, suc, Bool, true, false, nat_le, List, [], ◌∷◌, ◌++◌, length, take, drop, Result, Ok, refl, ap, sym, subst, ◌∙◌, arith}
use Rattle.std.specs.Prelude.{Option, Some, None, ◌||◌, nat_lt, option_map, unwrap_or}
use Rattle.std.specs.Int.{w8, w16, w32, w64}
use Rattle.std.specs.List.{AllByRecursion}
use Rattle.std.proofs.lemmas.Bool.Decides.{nat_tests}
use Rattle.std.proofs.lemmas.List.{take-append-drop, take_all, length-take-le}
use Rattle.eh_bytes.specs.declared.unit.RuntimeRecord.{RuntimeRecord}
use Rattle.table_forms.specs.declared.reason.Reason.TheVariants.{Magic, Class, Machine, FileHeader, NoFrames, Runtime}
use Rattle.table_forms.specs.Fault.{Fault, ◌>>=◌, unless, least, answer}
use Rattle.elf_image.specs.declared.program.ProgramHeader.{ProgramHeader}
use Rattle.elf_image.specs.Numbers.{number_at, field, holds}
use Rattle.elf_image.specs.Header.{is_elf, header_faults}
use Rattle.elf_image.specs.Programs.{header_at, headers_from, headers_of, loaded, frames_header, runtime_header}
use Rattle.elf_image.specs.Loads.{memory_in, load_faults, is_within}
use Rattle.elf_image.specs.Runtime.{has_stub, runtime_faults, runtime_of}
use Rattle.elf_image.specs.Elf.{Image, image_of, segment_faults, elf}
use Rattle.lsda_pack.specs.SharedTables.{InFile, file_parts, headers_in, record_in}
use Rattle.lsda_pack.proofs.FilesFrame.{Stays, stays_inside, taken_stays, number_stays, field_stays}
use Rattle.lsda_pack.proofs.HeadFrame.{bind_ok}
use Rattle.lsda_pack.proofs.LsdaFrame.{none_refused, both_none}

-- the file begins as an ELF file does
elf_by : (zs r s : List ℕ) → length zs ≡ 4 → is_elf (zs ++ r) ≡ is_elf (zs ++ s)
elf_by [] r s long = absurd (omega (arith, long))
elf_by (a ∷ []) r s long = absurd (omega (arith, long))
elf_by (a ∷ b ∷ []) r s long = absurd (omega (arith, long))
elf_by (a ∷ b ∷ c ∷ []) r s long = absurd (omega (arith, long))
elf_by (a ∷ b ∷ c ∷ d ∷ []) r s long = refl
elf_by (a ∷ b ∷ c ∷ d ∷ e ∷ zs) r s long = absurd (omega (arith, long))

elf_stays : (file other : List ℕ) → length other ≡ length file → Stays 0 4 file other → is_elf other ≡ is_elf file
elf_stays file other long stays = by (nat_le 4 (length file)) refl
  where
    front : take 4 other ≡ take 4 file
    front = sym (taken_stays 0 4 file other stays)

    by : (b : Bool) → nat_le 4 (length file) ≡ b → is_elf other ≡ is_elf file
    by true e =
        let room : 4 ≤ length file = grind (arith, nat_tests, e) in
        ap is_elf (sym (take-append-drop 4 other)) ∙ ap (λ zs. is_elf (zs ++ drop 4 other)) front ∙
        elf_by (take 4 file) (drop 4 other) (drop 4 file) (length-take-le 4 file room) ∙ ap is_elf (take-append-drop 4 file)
    by false e =
        let few : length file ≤ 4 = grind (arith, nat_tests, e) in
        ap is_elf (sym (take_all 4 other (omega (arith, few, long))) ∙ front ∙ take_all 4 file few)

-- the fields of the header
abbrev faults_by : ℕ → Bool → Option ℕ → Option ℕ → Option ℕ → Option ℕ → Option ℕ → Option ℕ → Option ℕ → ℕ → List Fault
faults_by len begins class order type machine offset size count programs =
    unless begins Magic 0 ++ unless (holds (λ n. n == 2) class && holds (λ n. n == 1) order) Class 4 ++ unless (holds (λ n. n == 2 || n == 3) type) FileHeader 16 ++
    unless (holds (λ n. n == 243) machine) Machine 18 ++ unless (holds (λ at. nat_le (at + 56 * programs) len) offset) FileHeader 32 ++
    unless (holds (λ n. n == 56) size) FileHeader 54 ++ unless (holds (λ n. nat_lt 0 n && nat_le n 64) count) FileHeader 56

faults_are : (file : List ℕ) →
    header_faults file ≡ faults_by (length file) (is_elf file) (number_at w8 file 4) (number_at w8 file 5) (number_at w16 file 16) (number_at w16 file 18) (number_at w64 file 32)
    (number_at w16 file 54) (number_at w16 file 56) (field w16 file 56)
unfolding header_faults
faults_are file = refl

header_stays : (file other : List ℕ) → length other ≡ length file → Stays 0 64 file other → header_faults other ≡ header_faults file
header_stays file other long stays =
    let in' : (p q : ℕ) → q ≤ 64 → Stays p q file other = λ p q high. stays_inside 0 64 p q file other (omega arith) high stays in
    let e = elf_stays file other long (in' 0 4 (omega arith)) in
    let n4 = number_stays w8 file other 4 long (in' 4 5 (omega arith)) in
    let n5 = number_stays w8 file other 5 long (in' 5 6 (omega arith)) in
    let n16 = number_stays w16 file other 16 long (in' 16 18 (omega arith)) in
    let n18 = number_stays w16 file other 18 long (in' 18 20 (omega arith)) in
    let n32 = number_stays w64 file other 32 long (in' 32 40 (omega arith)) in
    let n54 = number_stays w16 file other 54 long (in' 54 56 (omega arith)) in
    let n56 = number_stays w16 file other 56 long (in' 56 58 (omega arith)) in
    let f56 = field_stays w16 file other 56 long (in' 56 58 (omega arith)) in
    let o = λ (w : ℕ). number_at w8 other w in
    faults_are other ∙
    ap (λ n. faults_by n (is_elf other) (o 4) (o 5) (number_at w16 other 16) (number_at w16 other 18) (number_at w64 other 32) (number_at w16 other 54) (number_at w16 other 56) (field w16 other 56)) long ∙
    ap (λ b. faults_by (length file) b (o 4) (o 5) (number_at w16 other 16) (number_at w16 other 18) (number_at w64 other 32) (number_at w16 other 54) (number_at w16 other 56) (field w16 other 56)) e ∙
    ap (λ x. faults_by (length file) (is_elf file) x (o 5) (number_at w16 other 16) (number_at w16 other 18) (number_at w64 other 32) (number_at w16 other 54) (number_at w16 other 56) (field w16 other 56)) n4 ∙
    ap (λ x. faults_by (length file) (is_elf file) (number_at w8 file 4) x (number_at w16 other 16) (number_at w16 other 18) (number_at w64 other 32) (number_at w16 other 54) (number_at w16 other 56) (field w16 other 56)) n5 ∙
    ap (λ x. faults_by (length file) (is_elf file) (number_at w8 file 4) (number_at w8 file 5) x (number_at w16 other 18) (number_at w64 other 32) (number_at w16 other 54) (number_at w16 other 56) (field w16 other 56)) n16 ∙
    ap (λ x. faults_by (length file) (is_elf file) (number_at w8 file 4) (number_at w8 file 5) (number_at w16 file 16) x (number_at w64 other 32) (number_at w16 other 54) (number_at w16 other 56) (field w16 other 56)) n18 ∙
    ap (λ x. faults_by (length file) (is_elf file) (number_at w8 file 4) (number_at w8 file 5) (number_at w16 file 16) (number_at w16 file 18) x (number_at w16 other 54) (number_at w16 other 56) (field w16 other 56)) n32 ∙
    ap (λ x. faults_by (length file) (is_elf file) (number_at w8 file 4) (number_at w8 file 5) (number_at w16 file 16) (number_at w16 file 18) (number_at w64 file 32) x (number_at w16 other 56) (field w16 other 56)) n54 ∙
    ap (λ x. faults_by (length file) (is_elf file) (number_at w8 file 4) (number_at w8 file 5) (number_at w16 file 16) (number_at w16 file 18) (number_at w64 file 32) (number_at w16 file 54) x (field w16 other 56)) n56 ∙
    ap (λ x. faults_by (length file) (is_elf file) (number_at w8 file 4) (number_at w8 file 5) (number_at w16 file 16) (number_at w16 file 18) (number_at w64 file 32) (number_at w16 file 54) (number_at w16 file 56) x) f56 ∙
    sym (faults_are file)

-- the program headers
one_header : (file other : List ℕ) (p : ℕ) → length other ≡ length file → Stays p (p + 56) file other → header_at other p ≡ header_at file p
unfolding header_at
one_header file other p long stays =
    let in' : (q r : ℕ) → p ≤ q → r ≤ p + 56 → Stays q r file other = λ q r low high. stays_inside p (p + 56) q r file other low high stays in
    let kind = field_stays w32 file other p long (in' p (p + 4) (omega arith) (omega arith)) in
    let flags = field_stays w32 file other (p + 4) long (in' (p + 4) (p + 4 + 4) (omega arith) (omega arith)) in
    let offset = field_stays w64 file other (p + 8) long (in' (p + 8) (p + 8 + 8) (omega arith) (omega arith)) in
    let address = field_stays w64 file other (p + 16) long (in' (p + 16) (p + 16 + 8) (omega arith) (omega arith)) in
    let file_size = field_stays w64 file other (p + 32) long (in' (p + 32) (p + 32 + 8) (omega arith) (omega arith)) in
    let memory_size = field_stays w64 file other (p + 40) long (in' (p + 40) (p + 40 + 8) (omega arith) (omega arith)) in
    let make : ℕ → ℕ → ℕ → ℕ → ℕ → ℕ → ProgramHeader = λ k f o a s m. record { place = p; kind = k; flags = f; offset = o; address = a; file_size = s; memory_size = m } in
    let f = λ (n : ℕ). field w64 other (p + n) in
    let g = λ (n : ℕ). field w64 file (p + n) in
    ap (λ x. make x (field w32 other (p + 4)) (f 8) (f 16) (f 32) (f 40)) kind ∙
    ap (λ x. make (field w32 file p) x (f 8) (f 16) (f 32) (f 40)) flags ∙
    ap (λ x. make (field w32 file p) (field w32 file (p + 4)) x (f 16) (f 32) (f 40)) offset ∙
    ap (λ x. make (field w32 file p) (field w32 file (p + 4)) (g 8) x (f 32) (f 40)) address ∙
    ap (λ x. make (field w32 file p) (field w32 file (p + 4)) (g 8) (g 16) x (f 40)) file_size ∙
    ap (λ x. make (field w32 file p) (field w32 file (p + 4)) (g 8) (g 16) (g 32) x) memory_size

headers_stay : (n : ℕ) (file other : List ℕ) (p : ℕ) → length other ≡ length file → Stays p (p + 56 * n) file other → headers_from n other p ≡ headers_from n file p
headers_stay zero file other p long stays = refl
headers_stay (suc n) file other p long stays =
    ap (λ h. h ∷ headers_from n other (p + 56)) (one_header file other p long (stays_inside p (p + 56 * suc n) p (p + 56) file other (omega arith) (omega arith) stays)) ∙
    ap (λ hs. header_at file p ∷ hs) (headers_stay n file other (p + 56) long (stays_inside p (p + 56 * suc n) (p + 56) (p + 56 + 56 * n) file other (omega arith) (omega arith) stays))

headers_long : (n : ℕ) (file : List ℕ) (p : ℕ) → length (headers_from n file p) ≡ n
headers_long zero file p = refl
headers_long (suc n) file p = let more = headers_long n file (p + 56) in omega (arith, more)

-- what stays of each of some parts of a file
abbrev pub AllStay : List ℕ → List ℕ → List InFile → Type 0
AllStay file other parts = AllByRecursion (λ x. Stays x.0 x.1 file other) parts

pub all_front : (file other : List ℕ) (xs ys : List InFile) → AllStay file other (xs ++ ys) → AllStay file other xs
all_front file other [] ys all = tt
all_front file other (x ∷ xs) ys all = (all.0, all_front file other xs ys all.1)

pub all_back : (file other : List ℕ) (xs ys : List InFile) → AllStay file other (xs ++ ys) → AllStay file other ys
all_back file other [] ys all = all
all_back file other (x ∷ xs) ys all = all_back file other xs ys all.1

place_is : (file : List ℕ) (p : ℕ) → (header_at file p).place ≡ p
unfolding header_at
place_is file p = refl

table_stays : (n : ℕ) (file other : List ℕ) (p : ℕ) → AllStay file other (headers_in (headers_from n file p)) → Stays p (p + 56 * n) file other
table_stays zero file other p all = λ k low high. absurd (omega (arith, low, high))
table_stays (suc n) file other p all =
    let size : length (headers_from (suc n) file p) ≡ suc n = headers_long (suc n) file p in
    let end : (header_at file p).place + 56 * length (headers_from (suc n) file p) ≡ p + 56 * suc n = ap (λ q. q + 56 * length (headers_from (suc n) file p)) (place_is file p) ∙ ap (λ m. p + 56 * m) size in
    subst (λ q. Stays p q file other) end (subst (λ q. Stays q ((header_at file p).place + 56 * length (headers_from (suc n) file p)) file other) (place_is file p) all.0)

pub headers_same : (file other : List ℕ) → length other ≡ length file → Stays 0 64 file other → AllStay file other (headers_in (headers_of file)) → headers_of other ≡ headers_of file
unfolding headers_of
headers_same file other long stays all =
    let count = field_stays w16 file other 56 long (stays_inside 0 64 56 58 file other (omega arith) (omega arith) stays) in
    let offset = field_stays w64 file other 32 long (stays_inside 0 64 32 40 file other (omega arith) (omega arith) stays) in
    ap (λ n. headers_from n other (field w64 other 32)) count ∙ ap (headers_from (field w16 file 56) other) offset ∙
    headers_stay (field w16 file 56) file other (field w64 file 32) long (table_stays (field w16 file 56) file other (field w64 file 32) all)

-- the record for the runtime
abbrev faults_with : ℕ → List ProgramHeader → ProgramHeader → ℕ → ℕ → List Fault
faults_with len ls h format stub = unless (nat_le (h.offset + h.file_size) len && h.file_size == 24 && format == 1 && has_stub ls stub) Runtime h.place

runtime_same : (file other : List ℕ) (ls : List ProgramHeader) (o : Option ProgramHeader) → length other ≡ length file → AllStay file other (record_in o) →
    (runtime_faults other ls o ≡ runtime_faults file ls o) × (option_map (runtime_of other) o ≡ option_map (runtime_of file) o)
runtime_same file other ls None long all = (refl, refl)
runtime_same file other ls (Some h) long all =
    let in' : (q r : ℕ) → h.offset ≤ q → r ≤ h.offset + 24 → Stays q r file other = λ q r low high. stays_inside h.offset (h.offset + 24) q r file other low high all.0 in
    let format = field_stays w64 file other h.offset long (in' h.offset (h.offset + 8) (omega arith) (omega arith)) in
    let stub = field_stays w64 file other (h.offset + 8) long (in' (h.offset + 8) (h.offset + 8 + 8) (omega arith) (omega arith)) in
    let type = field_stays w64 file other (h.offset + 16) long (in' (h.offset + 16) (h.offset + 16 + 8) (omega arith) (omega arith)) in
    let make : ℕ → ℕ → Option RuntimeRecord = λ a b. Some (record { terminate = a; bad_exception = b }) in (
      ap (λ n. faults_with n ls h (field w64 other h.offset) (field w64 other (h.offset + 8))) long ∙
          ap (λ x. faults_with (length file) ls h x (field w64 other (h.offset + 8))) format ∙ ap (faults_with (length file) ls h (field w64 file h.offset)) stub,
      ap (λ x. make x (field w64 other (h.offset + 16))) stub ∙ ap (make (field w64 file (h.offset + 8))) type,
    )

-- the whole file
elf_steps : (file : List ℕ) → elf file false ≡
    (answer (least (header_faults file)) true >>= λ whole. answer (least (segment_faults file (headers_of file) ++ [])) (image_of file (headers_of file)))
unfolding elf
elf_steps file = refl

abbrev image_answered : List ℕ → List ProgramHeader → Bool → Result Image Fault
image_answered file headers whole = answer (least (segment_faults file headers ++ [])) (image_of file headers)

segments_are : (file : List ℕ) (headers : List ProgramHeader) → segment_faults file headers ≡
    load_faults (length file) 0 [] (loaded headers) ++ unless (is_within (loaded headers) (frames_header headers)) NoFrames 0 ++ runtime_faults file (loaded headers) (runtime_header headers)
unfolding segment_faults
segments_are file headers = refl

abbrev pub with_memory : Image → List ℕ → List ProgramHeader → Image
with_memory i other headers = record i { memory = memory_in other headers }

answered : {A : Type 0} (o : Option Fault) (x y : A) → answer o x ≡ Ok y → (o ≡ None) × (x ≡ y)
answered None x y e = (refl, cc)
answered (Some f) x y e = absurd cc

pub elf_same : (file other : List ℕ) (i : Image) → length other ≡ length file → AllStay file other (file_parts file) → elf file false ≡ Ok i →
    elf other false ≡ Ok (with_memory i other (headers_of file))
elf_same file other i long all read =
    let headers = headers_of file in
    let ls = loaded headers in
    let own = all.0 in
    let tables = all_front file other (headers_in headers) (record_in (runtime_header headers)) all.1 in
    let records = all_back file other (headers_in headers) (record_in (runtime_header headers)) all.1 in
    let heads = headers_same file other long own tables in
    let runtime = runtime_same file other ls (runtime_header headers) long records in
    let whole = bind_ok (answer (least (header_faults file)) true) (image_answered file headers) i (sym (elf_steps file) ∙ read) in
    let segments : segment_faults other headers ≡ segment_faults file headers =
    segments_are other headers ∙
    ap (λ n. load_faults n 0 [] ls ++ unless (is_within ls (frames_header headers)) NoFrames 0 ++ runtime_faults other ls (runtime_header headers)) long ∙
    ap (λ fs. load_faults (length file) 0 [] ls ++ unless (is_within ls (frames_header headers)) NoFrames 0 ++ fs) runtime.0 ∙ sym (segments_are file headers) in
    let entry = field_stays w64 file other 24 long (stays_inside 0 64 24 32 file other (omega arith) (omega arith) own) in
    let given = answered (least (segment_faults file headers ++ [])) (image_of file headers) i whole.2 in
    let make : ℕ → Option RuntimeRecord → Image = λ e r. record {
      entry = e;
      memory = memory_in other headers;
      frame_header = unwrap_or (option_map (λ h. h.address) (frames_header headers)) 0;
      runtime = r;
    } in
    let image : image_of other headers ≡ with_memory i other headers =
    ap (λ e. make e (option_map (runtime_of other) (runtime_header headers))) entry ∙ ap (make (field w64 file 24)) runtime.1 ∙
    ap (λ x. with_memory x other headers) given.1 in
    elf_steps other ∙
    ap (λ fs. answer (least fs) true >>= image_answered other (headers_of other)) (header_stays file other long own) ∙
    ap (λ r. r >>= image_answered other (headers_of other)) whole.1 ∙
    ap (λ hs. image_answered other hs true) heads ∙
    ap (λ fs. answer (least (fs ++ [])) (image_of other headers)) segments ∙
    ap (λ o. answer o (image_of other headers)) given.0 ∙ ap (λ (x : Image). Ok x) image

pub headers_kept : (file other : List ℕ) → length other ≡ length file → AllStay file other (file_parts file) → headers_of other ≡ headers_of file
headers_kept file other long all =
    headers_same file other long all.0 (all_front file other (headers_in (headers_of file)) (record_in (runtime_header (headers_of file))) all.1)

-- what is known of a file that was read
pub record ElfFacts (file : List ℕ) (i : Image) : Type 0 where
  pub is : image_of file (headers_of file) ≡ i
  pub loads : load_faults (length file) 0 [] (loaded (headers_of file)) ≡ []

pub elf_facts : (file : List ℕ) (i : Image) → elf file false ≡ Ok i → ElfFacts file i
elf_facts file i read =
    let headers = headers_of file in
    let ls = loaded headers in
    let whole = bind_ok (answer (least (header_faults file)) true) (image_answered file headers) i (sym (elf_steps file) ∙ read) in
    let given = answered (least (segment_faults file headers ++ [])) (image_of file headers) i whole.2 in
    let none = both_none (segment_faults file headers) [] (none_refused (segment_faults file headers ++ []) given.0) in
    let within = unless (is_within ls (frames_header headers)) NoFrames 0 in
    let runtime = runtime_faults file ls (runtime_header headers) in
    record { is = given.1; loads = (both_none (load_faults (length file) 0 [] ls) within (both_none (load_faults (length file) 0 [] ls ++ within) runtime (sym (segments_are file headers) ∙ none.0)).0).0 }
