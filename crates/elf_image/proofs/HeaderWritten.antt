-- The header of a file that is written is as it should be.
use Rattle.std.proofs.Common.{◌≡◌, ◌+◌, ◌*◌, ◌<◌, ◌≤◌, ◌^◌, ℕ, true, nat_le, List, [], ◌∷◌, ◌++◌, length, drop, refl, ap, ◌∙◌, arith, length-append}
use Rattle.std.specs.Prelude.{Some, None}
use Rattle.std.specs.Int.{w16, w64, to_le_bytes}
use Rattle.std.proofs.lemmas.Bool.Decides.{nat_tests}
use Rattle.table_forms.specs.Fault.{least}
use Rattle.elf_image.specs.Numbers.{number_at}
use Rattle.elf_image.specs.Header.{is_elf, is_class, is_type, is_machine, headers_fit, is_entry_size, is_count, header_faults}
use Rattle.elf_image.specs.Written.{words, sizes, file_header}
use Rattle.elf_image.proofs.FieldsRead.{byte_read, half_read, word_read}

-- a file that begins with the header for so many program headers, and has their bytes
pub record Begins (file : List ℕ) (entry count : ℕ) (rest : List ℕ) : Type 0 where
  pub is : file ≡ file_header entry count ++ rest
  pub word : entry < 2 ^ 64
  pub some : 0 < count
  pub few : count ≤ 64
  pub long : 56 * count ≤ length rest

pub entry_read : (file : List ℕ) (entry count : ℕ) (rest : List ℕ) → Begins file entry count rest → number_at w64 file 24 ≡ Some entry
entry_read file entry count rest b =
    word_read file 24 entry (words (64 ∷ 0 ∷ []) ++ sizes ++ to_le_bytes w16 count ++ (0 ∷ 0 ∷ 0 ∷ 0 ∷ 0 ∷ 0 ∷ []) ++ rest) b.word (ap (drop 24) b.is)

pub offset_read : (file : List ℕ) (entry count : ℕ) (rest : List ℕ) → Begins file entry count rest → number_at w64 file 32 ≡ Some 64
offset_read file entry count rest b =
    word_read file 32 64 (words (0 ∷ []) ++ sizes ++ to_le_bytes w16 count ++ (0 ∷ 0 ∷ 0 ∷ 0 ∷ 0 ∷ 0 ∷ []) ++ rest) (omega arith) (ap (drop 32) b.is)

pub count_read : (file : List ℕ) (entry count : ℕ) (rest : List ℕ) → Begins file entry count rest → number_at w16 file 56 ≡ Some count
count_read file entry count rest b =
    let few = b.few in
    half_read file 56 count ((0 ∷ 0 ∷ 0 ∷ 0 ∷ 0 ∷ 0 ∷ []) ++ rest) (omega (arith, few)) (ap (drop 56) b.is)

elf_is : (file : List ℕ) (entry count : ℕ) (rest : List ℕ) → Begins file entry count rest → is_elf file ≡ true
elf_is file entry count rest b = ap is_elf b.is

class_is : (file : List ℕ) (entry count : ℕ) (rest : List ℕ) → Begins file entry count rest → is_class file ≡ true
class_is file entry count rest b =
    rw (byte_read file 4 2 (drop 5 (file_header entry count ++ rest)) (ap (drop 4) b.is))
    (rw (byte_read file 5 1 (drop 6 (file_header entry count ++ rest)) (ap (drop 5) b.is)) refl)

type_is : (file : List ℕ) (entry count : ℕ) (rest : List ℕ) → Begins file entry count rest → is_type file ≡ true
type_is file entry count rest b = rw (half_read file 16 2 (drop 18 (file_header entry count ++ rest)) (omega arith) (ap (drop 16) b.is)) refl

machine_is : (file : List ℕ) (entry count : ℕ) (rest : List ℕ) → Begins file entry count rest → is_machine file ≡ true
machine_is file entry count rest b = rw (half_read file 18 243 (drop 20 (file_header entry count ++ rest)) (omega arith) (ap (drop 18) b.is)) refl

entry_size_is : (file : List ℕ) (entry count : ℕ) (rest : List ℕ) → Begins file entry count rest → is_entry_size file ≡ true
entry_size_is file entry count rest b = rw (half_read file 54 56 (drop 56 (file_header entry count ++ rest)) (omega arith) (ap (drop 54) b.is)) refl

fit_is : (file : List ℕ) (entry count : ℕ) (rest : List ℕ) → Begins file entry count rest → headers_fit file ≡ true
fit_is file entry count rest b =
    let long = b.long in
    let whole : length file ≡ 64 + length rest = ap length b.is ∙ length-append (file_header entry count) rest in
    let fits : nat_le (64 + 56 * count) (length file) ≡ true = grind (arith, nat_tests, long, whole) in
    rw (offset_read file entry count rest b) (rw (count_read file entry count rest b) fits)

count_is : (file : List ℕ) (entry count : ℕ) (rest : List ℕ) → Begins file entry count rest → is_count file ≡ true
count_is file entry count rest b =
    let some = b.some in
    let few = b.few in
    rw (count_read file entry count rest b) (grind (arith, nat_tests, some, few))

pub header_is : (file : List ℕ) (entry count : ℕ) (rest : List ℕ) → Begins file entry count rest → least (header_faults file) ≡ None
unfolding header_faults least
header_is file entry count rest b =
    rw (elf_is file entry count rest b) (rw (class_is file entry count rest b) (rw (type_is file entry count rest b)
    (rw (machine_is file entry count rest b) (rw (fit_is file entry count rest b) (rw (entry_size_is file entry count rest b)
    (rw (count_is file entry count rest b) refl))))))
