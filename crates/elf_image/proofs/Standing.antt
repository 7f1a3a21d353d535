-- Segments that are written stand in the file where their headers say.
use Rattle.std.proofs.Common.{◌≡◌, ◌+◌, ◌/◌, ◌%◌, ◌≤◌, ◌==◌, ℕ, Bool, true, false, List, [], ◌∷◌, ◌++◌, length, take, drop, refl, ap, sym, subst, ◌∙◌, arith, append_assoc, length-append, if◌then◌else◌}
use Rattle.std.specs.Prelude.{replicate}
use Rattle.std.specs.List.{AllZip}
use Rattle.std.proofs.lemmas.List.{length-replicate}
use Rattle.std.proofs.Math.Seq.{take-append_seam, drop-append_seam}
use Rattle.eh_bytes.specs.Memory.{Part, Memory}
use Rattle.elf_image.specs.declared.program.ProgramHeader.{ProgramHeader}
use Rattle.elf_image.specs.Programs.{is_load, is_executable, is_writable}
use Rattle.elf_image.specs.Laid.{padding, place_for, load_for, loads_from}
use Rattle.elf_image.specs.Written.{segments_from}

-- the header of a segment, all of whose bytes stand in the file
pub record IsLaid (file : List ℕ) (part : Part) (h : ProgramHeader) : Type 0 where
  pub load : is_load h ≡ true
  pub address : h.address ≡ part.address
  pub file_size : h.file_size ≡ length part.bytes
  pub memory_size : h.memory_size ≡ length part.bytes
  pub inside : h.offset + length part.bytes ≤ length file
  pub bytes : take (length part.bytes) (drop h.offset file) ≡ part.bytes
  pub write : is_writable h ≡ part.write
  pub exec : is_executable h ≡ part.exec
  pub page : h.offset % 0x1000 ≡ h.address % 0x1000

write_is : (w e : Bool) → ((4 + (if w then 2 else 0) + (if e then 1 else 0)) / 2 % 2 == 1) ≡ w
write_is true true = refl
write_is true false = refl
write_is false true = refl
write_is false false = refl

exec_is : (w e : Bool) → ((4 + (if w then 2 else 0) + (if e then 1 else 0)) % 2 == 1) ≡ e
exec_is true true = refl
exec_is true false = refl
exec_is false true = refl
exec_is false false = refl

pub paged : (place address : ℕ) → place_for place address % 0x1000 ≡ address % 0x1000
paged place address = omega arith

-- what stands behind a place of a file
between : (file before xs rest : List ℕ) → file ≡ before ++ (xs ++ rest) → take (length xs) (drop (length before) file) ≡ xs
between file before xs rest is =
    ap (λ f. take (length xs) (drop (length before) f)) is ∙ ap (take (length xs)) (drop-append_seam before (xs ++ rest)) ∙ take-append_seam xs rest

one_laid : (file before rest : List ℕ) (place offset : ℕ) (part : Part) → length before ≡ offset → offset % 0x1000 ≡ part.address % 0x1000 → file ≡ before ++ (part.bytes ++ rest) →
    IsLaid file part (load_for place offset part)
one_laid file before rest place offset part long page is =
    let whole = ap length is ∙ length-append before (part.bytes ++ rest) in
    record {
      load = refl;
      address = refl;
      file_size = refl;
      memory_size = refl;
      inside = omega (arith, whole, long, length-append part.bytes rest);
      bytes = subst (λ n. take (length part.bytes) (drop n file) ≡ part.bytes) long (between file before part.bytes rest is);
      write = write_is part.write part.exec;
      exec = exec_is part.write part.exec;
      page = page;
    }

pub all_laid : (file before : List ℕ) (place from : ℕ) (memory : Memory) → length before ≡ from → file ≡ before ++ segments_from from memory →
    AllZip (IsLaid file) memory (loads_from place from memory)
all_laid file before place from [] long is = tt
all_laid file before place from (part ∷ memory) long is =
    let zeros : List ℕ = replicate (padding from part.address) 0 in
    let offset = place_for from part.address in
    let rest = segments_from (offset + length part.bytes) memory in
    let zeros_long : length {A = ℕ} zeros ≡ padding from part.address = length-replicate (padding from part.address) 0 in
    let at : length (before ++ zeros) ≡ offset = length-append before zeros ∙ ap (λ n. n + length zeros) long ∙ ap (λ n. from + n) zeros_long in
    let next : file ≡ ((before ++ zeros) ++ part.bytes) ++ rest = is ∙ sym (append_assoc before (zeros ++ part.bytes) rest) ∙ ap (λ x. x ++ rest) (sym (append_assoc before zeros part.bytes)) in
    let here : file ≡ (before ++ zeros) ++ (part.bytes ++ rest) = next ∙ append_assoc (before ++ zeros) part.bytes rest in
    let behind : length ((before ++ zeros) ++ part.bytes) ≡ offset + length part.bytes = length-append (before ++ zeros) part.bytes ∙ ap (λ n. n + length part.bytes) at in (
      one_laid file (before ++ zeros) rest place offset part at (paged from part.address) here,
      all_laid file ((before ++ zeros) ++ part.bytes) (place + 56) (offset + length part.bytes) memory behind next,
    )
