-- What is known of a file that is a clean image: its frames, its functions, and that its tables lie in it.
use Rattle.std.proofs.Common.{◌≡◌, ℕ, false, List, [], length, map, Ok, refl, ap, sym, subst, ◌∙◌}
use Rattle.std.specs.Prelude.{filter, flat_map}
use Rattle.std.specs.List.{AllByRecursion}
use Rattle.table_forms.specs.Fault.{least}
use Rattle.table_forms.specs.Frames.{Frames, sorted, frames}
use Rattle.elf_image.specs.Programs.{headers_of, loaded}
use Rattle.elf_image.specs.Loads.{load_faults}
use Rattle.elf_image.specs.Elf.{image_of, elf}
use Rattle.elf_image.specs.Clean.{Function, CleanImage, functions_of, clean}
use Rattle.elf_image.proofs.Sound.{sound, all_placed}
use Rattle.frame_read.specs.Listed.{fde_listed}
use Rattle.frame_read.proofs.Sound.{frames_sound}
use Rattle.lsda_pack.specs.Placed.{tables_placed}
use Rattle.lsda_pack.specs.Placings.{AreFunctions}
use Rattle.lsda_pack.specs.Rule.{is_packed}
use Rattle.lsda_pack.proofs.ElfFrame.{elf_facts}
use Rattle.lsda_pack.proofs.FunctionsListed.{Ends, functions_are}
use Rattle.lsda_pack.proofs.HeadFrame.{bind_ok}
use Rattle.lsda_pack.proofs.ImageKept.{sorted_all}
use Rattle.lsda_pack.proofs.PackingKept.{with_functions, with_frames, with_image, judged_steps, clean_same}
use Rattle.lsda_pack.proofs.Sizes.{FitsIn}
use Rattle.lsda_pack.proofs.TablesPlaced.{placed_by, all_good, all_fit}

pub record CleanParts (file : List ℕ) (i : CleanImage) : Type 0 where
  pub read : Frames
  pub frames_read : frames i.image.memory i.image.frame_header ≡ Ok read
  pub functions : AreFunctions i.image.memory (map (λ g. fde_listed g.fde) i.functions) i.functions
  pub fits : AllByRecursion (FitsIn (length file)) (filter is_packed (tables_placed file i))

abbrev made : List ℕ → Frames → List Function → CleanImage
made file read fs = record { image = image_of file (headers_of file); cies = read.cies; functions = fs }

tables_are : (file : List ℕ) (read : Frames) (fs : List Function) → tables_placed file (made file read fs) ≡ flat_map (placed_by file (loaded (headers_of file))) fs
unfolding tables_placed
tables_are file read fs = refl

parts_by : (file : List ℕ) (read : Frames) (fs : List Function) → frames (image_of file (headers_of file)).memory (image_of file (headers_of file)).frame_header ≡ Ok read →
    functions_of (image_of file (headers_of file)).memory (sorted read.fdes) ≡ Ok fs → load_faults (length file) 0 [] (loaded (headers_of file)) ≡ [] → CleanParts file (made file read fs)
unfolding least
parts_by file read fs frames_read functions_read loads =
    let I = image_of file (headers_of file) in
    let hs = loaded (headers_of file) in
    let ends : AllByRecursion Ends (sorted read.fdes) = sorted_all Ends read.fdes (frames_sound I.memory I.frame_header read frames_read).ends in
    let placed = all_placed (length file) 0 [] hs (sound (length file) 0 [] hs (ap least loads)) in
    record {
      read = read;
      frames_read = frames_read;
      functions = functions_are I.memory (sorted read.fdes) ends fs functions_read;
      fits = subst (λ ts. AllByRecursion (FitsIn (length file)) (filter is_packed ts)) (sym (tables_are file read fs))
          (all_fit file hs (flat_map (placed_by file hs) fs) (all_good file hs (sorted read.fdes) fs placed functions_read));
    }

pub clean_parts : (file : List ℕ) (i : CleanImage) → clean file ≡ Ok i → CleanParts file i
clean_parts file i read_clean =
    let image = bind_ok (elf file false) with_image i (sym (judged_steps file) ∙ read_clean) in
    let facts = elf_facts file image.0 image.1 in
    let I = image_of file (headers_of file) in
    let steps = subst (λ x. with_image x ≡ Ok i) (sym facts.is) image.2 in
    let read = bind_ok (frames I.memory I.frame_header) (with_frames I) i steps in
    let functions = bind_ok (functions_of I.memory (sorted read.0.fdes)) (with_functions I read.0) i read.2 in
    subst (CleanParts file) (clean_same (made file read.0 functions.0) i functions.2) (parts_by file read.0 functions.0 read.1 functions.1 facts.loads)
