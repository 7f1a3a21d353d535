-- A file that has the bytes of another wherever that is read by its program headers, and is as long or longer, is read as the same image.
use Rattle.std.proofs.Common.{◌≡◌, ◌+◌, ◌-◌, ◌*◌, ◌<◌, ◌≤◌, ◌==◌, ◌&&◌, ℕ, zero, suc, Bool, true, false, nat_le, List, [], ◌∷◌, ◌++◌, length, take, drop, map, Result, Ok, Err, refl, ap, sym, subst, ◌∙◌, arith, if◌then◌else◌}
use Rattle.std.specs.Prelude.{Option, Some, None, ◌||◌, nat_lt, not, option_map, unwrap_or, find, replicate, is_some, ⊤}
use Rattle.std.specs.Int.{w8, w16, w32, w64}
use Rattle.std.specs.List.{AllByRecursion, list_any}
use Rattle.std.proofs.lemmas.Bool.Decides.{nat_tests}
use Rattle.std.proofs.lemmas.List.{take-append-drop, length-take-le}
use Rattle.eh_bytes.specs.Memory.{Part}
use Rattle.table_forms.specs.declared.reason.Reason.TheVariants.{Magic, Class, Machine, FileHeader, NoFrames, NoRuntime, Runtime, SegmentRange, SegmentOverlap}
use Rattle.table_forms.specs.Fault.{Fault, ◌>>=◌, unless, least, answer}
use Rattle.table_forms.proofs.Least.{none_first, none_second, holds}
use Rattle.elf_image.specs.declared.program.ProgramHeader.{ProgramHeader}
use Rattle.elf_image.specs.Numbers.{number_at, field, holds as holds_for}
use Rattle.elf_image.specs.Header.{is_elf, is_class, is_type, is_machine, headers_fit, is_entry_size, is_count, header_faults}
use Rattle.elf_image.specs.Programs.{header_at, headers_from, headers_of, loaded, frames_header, runtime_header, end_of}
use Rattle.elf_image.specs.Loads.{part_of, memory_in, meet, is_placed, one_faults, load_faults, low_faults, is_within, Placed, AreSound}
use Rattle.elf_image.specs.Runtime.{has_address, byte_in, byte_at, is_bare_at, has_table, has_stub, runtime_faults, runtime_of}
use Rattle.elf_image.specs.Elf.{Image, image_of, segment_faults, run_faults, faults_to_run, elf}
use Rattle.elf_image.proofs.Sound.{sound, all_placed}
use Rattle.elf_image.proofs.Stays.{Stays, stays_inside, taken_stays, number_stays, field_stays}

-- A file and another: what is read of the header, the program headers, the segments and the record for the runtime is the same.
pub record Reads (file other : List ℕ) : Type 0 where
  pub whole : 64 ≤ length file
  pub longer : length file ≤ length other
  pub front : Stays 0 40 file other
  pub counts : Stays 54 58 file other
  pub headers : Stays (field w64 file 32) (field w64 file 32 + 56 * field w16 file 56) file other
  pub segments : AllByRecursion (λ h. Stays h.offset (h.offset + h.file_size) file other) (loaded (headers_of file))
  pub runtime : (h : ProgramHeader) → runtime_header (headers_of file) ≡ Some h → Stays h.offset (h.offset + h.file_size) file other

-- the file begins as an ELF file does
elf_by : (zs r s : List ℕ) → length zs ≡ 4 → is_elf (zs ++ r) ≡ is_elf (zs ++ s)
elf_by [] r s long = absurd (omega (arith, long))
elf_by (a ∷ []) r s long = absurd (omega (arith, long))
elf_by (a ∷ b ∷ []) r s long = absurd (omega (arith, long))
elf_by (a ∷ b ∷ c ∷ []) r s long = absurd (omega (arith, long))
elf_by (a ∷ b ∷ c ∷ d ∷ []) r s long = refl
elf_by (a ∷ b ∷ c ∷ d ∷ e ∷ zs) r s long = absurd (omega (arith, long))

begins_same : (file other : List ℕ) → 4 ≤ length file → Stays 0 4 file other → is_elf other ≡ is_elf file
begins_same file other room stays =
    let front : take 4 other ≡ take 4 file = sym (taken_stays 0 4 file other stays) in
    ap is_elf (sym (take-append-drop 4 other)) ∙ ap (λ zs. is_elf (zs ++ drop 4 other)) front ∙
    elf_by (take 4 file) (drop 4 other) (drop 4 file) (length-take-le 4 file room) ∙ ap is_elf (take-append-drop 4 file)

-- the numbers of the header
module _ (file other : List ℕ) (r : Reads file other) where
  low : (p q : ℕ) → q ≤ 40 → Stays p q file other
  low p q high = stays_inside 0 40 p q file other (omega arith) high r.front

  offset_same : number_at w64 other 32 ≡ number_at w64 file 32
  offset_same = number_stays w64 file other 32 (omega (arith, r.whole)) r.longer (low 32 40 (omega arith))

  count_stays : Stays 56 58 file other
  count_stays = stays_inside 54 58 56 58 file other (omega arith) (omega arith) r.counts

  pub count_same : field w16 other 56 ≡ field w16 file 56
  count_same = field_stays w16 file other 56 (omega (arith, r.whole)) r.longer count_stays

  pub place_same : field w64 other 32 ≡ field w64 file 32
  place_same = ap (λ o. unwrap_or o 0) offset_same

  pub entry_same : field w64 other 24 ≡ field w64 file 24
  entry_same = field_stays w64 file other 24 (omega (arith, r.whole)) r.longer (low 24 32 (omega arith))

  class_same : is_class other ≡ is_class file
  class_same =
      ap (λ x. holds_for (λ n. n == 2) x && holds_for (λ n. n == 1) (number_at w8 other 5)) (number_stays w8 file other 4 (omega (arith, r.whole)) r.longer (low 4 5 (omega arith))) ∙
      ap (λ x. holds_for (λ n. n == 2) (number_at w8 file 4) && holds_for (λ n. n == 1) x) (number_stays w8 file other 5 (omega (arith, r.whole)) r.longer (low 5 6 (omega arith)))

  type_same : is_type other ≡ is_type file
  type_same = ap (holds_for (λ n. n == 2 || n == 3)) (number_stays w16 file other 16 (omega (arith, r.whole)) r.longer (low 16 18 (omega arith)))

  machine_same : is_machine other ≡ is_machine file
  machine_same = ap (holds_for (λ n. n == 243)) (number_stays w16 file other 18 (omega (arith, r.whole)) r.longer (low 18 20 (omega arith)))

  size_same : is_entry_size other ≡ is_entry_size file
  size_same =
      ap (holds_for (λ n. n == 56)) (number_stays w16 file other 54 (omega (arith, r.whole)) r.longer (stays_inside 54 58 54 56 file other (omega arith) (omega arith) r.counts))

  number_same : is_count other ≡ is_count file
  number_same = ap (holds_for (λ n. nat_lt 0 n && nat_le n 64)) (number_stays w16 file other 56 (omega (arith, r.whole)) r.longer count_stays)

  fit_same : headers_fit file ≡ true → headers_fit other ≡ true
  fit_same fits =
      ap (holds_for (λ at. nat_le (at + 56 * field w16 other 56) (length other))) offset_same ∙
      ap (λ n. holds_for (λ at. nat_le (at + 56 * n) (length other)) (number_at w64 file 32)) count_same ∙ by (number_at w64 file 32) fits
    where
      by : (o : Option ℕ) → holds_for (λ at. nat_le (at + 56 * field w16 file 56) (length file)) o ≡ true → holds_for (λ at. nat_le (at + 56 * field w16 file 56) (length other)) o ≡ true
      by None h = h
      by (Some at) h = grind (arith, nat_tests, h, r.longer)

  -- nothing is refused of the header
  pub header_good : least (header_faults file) ≡ None → least (header_faults other) ≡ None
  unfolding header_faults
  header_good none =
      let a = unless (is_elf file) Magic 0 in
      let b = unless (is_class file) Class 4 in
      let c = unless (is_type file) FileHeader 16 in
      let d = unless (is_machine file) Machine 18 in
      let e = unless (headers_fit file) FileHeader 32 in
      let f = unless (is_entry_size file) FileHeader 54 in
      let g = unless (is_count file) FileHeader 56 in
      let fits = holds (headers_fit file) FileHeader 32
      (none_second (a ++ b ++ c ++ d) e (none_first (a ++ b ++ c ++ d ++ e) f (none_first (a ++ b ++ c ++ d ++ e ++ f) g none))) in
      rw (begins_same file other (omega (arith, r.whole)) (low 0 4 (omega arith)))
      (rw class_same (rw type_same (rw machine_same (rw (fit_same fits) (rw size_same (rw number_same (by fits none)))))))
    where
      by : headers_fit file ≡ true →
          least (unless (is_elf file) Magic 0 ++ unless (is_class file) Class 4 ++ unless (is_type file) FileHeader 16 ++ unless (is_machine file) Machine 18 ++ unless (headers_fit file) FileHeader 32 ++
          unless (is_entry_size file) FileHeader 54 ++ unless (is_count file) FileHeader 56) ≡ None →
          least (unless (is_elf file) Magic 0 ++ unless (is_class file) Class 4 ++ unless (is_type file) FileHeader 16 ++ unless (is_machine file) Machine 18 ++ unless true FileHeader 32 ++
          unless (is_entry_size file) FileHeader 54 ++ unless (is_count file) FileHeader 56) ≡ None
      by fits h = subst (λ x. least (unless (is_elf file) Magic 0 ++ unless (is_class file) Class 4 ++ unless (is_type file) FileHeader 16 ++ unless (is_machine file) Machine 18 ++ unless x FileHeader 32 ++
          unless (is_entry_size file) FileHeader 54 ++ unless (is_count file) FileHeader 56) ≡ None) fits h

-- the program headers lie in the file where nothing is refused of its header
pub headers_inside : (file : List ℕ) → least (header_faults file) ≡ None → field w64 file 32 + 56 * field w16 file 56 ≤ length file
unfolding header_faults
headers_inside file none =
    let a = unless (is_elf file) Magic 0 in
    let b = unless (is_class file) Class 4 in
    let c = unless (is_type file) FileHeader 16 in
    let d = unless (is_machine file) Machine 18 in
    let e = unless (headers_fit file) FileHeader 32 in
    let f = unless (is_entry_size file) FileHeader 54 in
    let g = unless (is_count file) FileHeader 56 in
    let fits = none_second (a ++ b ++ c ++ d) e (none_first (a ++ b ++ c ++ d ++ e) f (none_first (a ++ b ++ c ++ d ++ e ++ f) g none)) in
    by (number_at w64 file 32) (holds (headers_fit file) FileHeader 32 fits)
  where
    by : (o : Option ℕ) → holds_for (λ at. nat_le (at + 56 * field w16 file 56) (length file)) o ≡ true → unwrap_or o 0 + 56 * field w16 file 56 ≤ length file
    by None h = absurd cc
    by (Some at) h = grind (arith, nat_tests, h)

-- the program headers
one_header : (file other : List ℕ) (p : ℕ) → p + 56 ≤ length file → length file ≤ length other → Stays p (p + 56) file other → header_at other p ≡ header_at file p
unfolding header_at
one_header file other p whole longer stays =
    let in' : (q r : ℕ) → p ≤ q → r ≤ p + 56 → Stays q r file other = λ q r low high. stays_inside p (p + 56) q r file other low high stays in
    let kind = field_stays w32 file other p (omega (arith, whole)) longer (in' p (p + 4) (omega arith) (omega arith)) in
    let flags = field_stays w32 file other (p + 4) (omega (arith, whole)) longer (in' (p + 4) (p + 4 + 4) (omega arith) (omega arith)) in
    let offset = field_stays w64 file other (p + 8) (omega (arith, whole)) longer (in' (p + 8) (p + 8 + 8) (omega arith) (omega arith)) in
    let address = field_stays w64 file other (p + 16) (omega (arith, whole)) longer (in' (p + 16) (p + 16 + 8) (omega arith) (omega arith)) in
    let file_size = field_stays w64 file other (p + 32) (omega (arith, whole)) longer (in' (p + 32) (p + 32 + 8) (omega arith) (omega arith)) in
    let memory_size = field_stays w64 file other (p + 40) (omega (arith, whole)) longer (in' (p + 40) (p + 40 + 8) (omega arith) (omega arith)) in
    let make : ℕ → ℕ → ℕ → ℕ → ℕ → ℕ → ProgramHeader = λ k f o a s m. record { place = p; kind = k; flags = f; offset = o; address = a; file_size = s; memory_size = m } in
    let f = λ (n : ℕ). field w64 other (p + n) in
    let g = λ (n : ℕ). field w64 file (p + n) in
    ap (λ x. make x (field w32 other (p + 4)) (f 8) (f 16) (f 32) (f 40)) kind ∙
    ap (λ x. make (field w32 file p) x (f 8) (f 16) (f 32) (f 40)) flags ∙
    ap (λ x. make (field w32 file p) (field w32 file (p + 4)) x (f 16) (f 32) (f 40)) offset ∙
    ap (λ x. make (field w32 file p) (field w32 file (p + 4)) (g 8) x (f 32) (f 40)) address ∙
    ap (λ x. make (field w32 file p) (field w32 file (p + 4)) (g 8) (g 16) x (f 40)) file_size ∙
    ap (λ x. make (field w32 file p) (field w32 file (p + 4)) (g 8) (g 16) (g 32) x) memory_size

headers_stay : (n : ℕ) (file other : List ℕ) (p : ℕ) → p + 56 * n ≤ length file → length file ≤ length other → Stays p (p + 56 * n) file other → headers_from n other p ≡ headers_from n file p
headers_stay zero file other p whole longer stays = refl
headers_stay (suc n) file other p whole longer stays =
    ap (λ h. h ∷ headers_from n other (p + 56)) (one_header file other p (omega (arith, whole)) longer (stays_inside p (p + 56 * suc n) p (p + 56) file other (omega arith) (omega arith) stays)) ∙
    ap (λ hs. header_at file p ∷ hs)
    (headers_stay n file other (p + 56) (omega (arith, whole)) longer (stays_inside p (p + 56 * suc n) (p + 56) (p + 56 + 56 * n) file other (omega arith) (omega arith) stays))

pub headers_same : (file other : List ℕ) → Reads file other → least (header_faults file) ≡ None → headers_of other ≡ headers_of file
unfolding headers_of
headers_same file other r none =
    ap (λ n. headers_from n other (field w64 other 32)) (count_same file other r) ∙ ap (headers_from (field w16 file 56) other) (place_same file other r) ∙
    headers_stay (field w16 file 56) file other (field w64 file 32) (headers_inside file none) r.longer r.headers
