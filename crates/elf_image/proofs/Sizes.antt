-- How large the segments of an image are.
use Rattle.std.proofs.Common.{◌≡◌, ℕ, Bool, true, List, [], ◌∷◌, ◌++◌, length, map, Ok, Result, refl, subst, arith}
use Rattle.std.specs.Prelude.{Option, Some, None}
use Rattle.std.specs.List.{AllByRecursion}
use Rattle.table_forms.specs.Fault.{Fault, ◌>>=◌, least, answer}
use Rattle.elf_image.specs.declared.program.ProgramHeader.{ProgramHeader}
use Rattle.elf_image.specs.Header.{header_faults}
use Rattle.elf_image.specs.Programs.{headers_of, loaded}
use Rattle.elf_image.specs.Loads.{part_of, Placed, IsSmall}
use Rattle.elf_image.specs.Elf.{Image, image_of, segment_faults, faults_to_run, elf}
use Rattle.elf_image.proofs.Sound.{all_placed, size_seen}
use Rattle.elf_image.proofs.Whole.{image_sound}

small_all : (file : List ℕ) (hs : List ProgramHeader) → AllByRecursion (Placed (length file)) hs → AllByRecursion IsSmall (map (part_of file) hs)
small_all file [] all = tt
small_all file (h ∷ hs) all = (let p = all.0 in let a = p.small in omega (arith, size_seen file h all.0, a), small_all file hs all.1)

read_same : (x y : Image) (r : Result Image Fault) → Ok x ≡ r → r ≡ Ok y → x ≡ y
read_same x y r e f = cc

-- each segment of an image that is read has at most 1 GiB
pub small_parts : (file : List ℕ) (run : Bool) (i : Image) → elf file run ≡ Ok i → AllByRecursion IsSmall i.memory
unfolding elf
small_parts file run i e = by (least (header_faults file)) (least faults) refl e
  where
    faults : List Fault
    faults = segment_faults file (headers_of file) ++ faults_to_run run file (headers_of file)

    by : (a b : Option Fault) → b ≡ least faults → (answer a true >>= λ _. answer b (image_of file (headers_of file))) ≡ Ok i → AllByRecursion IsSmall i.memory
    by (Some f) b is e = absurd cc
    by None (Some f) is e = absurd cc
    by None None is e =
        subst (λ (x : Image). AllByRecursion IsSmall x.memory) (read_same (image_of file (headers_of file)) i (Ok i) e refl)
        (small_all file (loaded (headers_of file)) (all_placed (length file) 0 [] (loaded (headers_of file)) (image_sound file run is)))
