-- An image that can be run is clean.
use Rattle.std.proofs.Common.{◌≡◌, ◌∙◌, refl, sym, ap, ℕ, Bool, true, false, List, [], ◌++◌, Option, Some, None, Result, Ok}
use Rattle.table_forms.specs.Fault.{Fault, ◌>>=◌, least, answer}
use Rattle.elf_image.specs.Header.{header_faults}
use Rattle.elf_image.specs.Programs.{headers_of}
use Rattle.elf_image.specs.Elf.{Image, image_of, segment_faults, faults_to_run, elf}
use Rattle.elf_image.specs.Clean.{CleanImage, judged, clean}
use Rattle.elf_image.specs.Runnable.{runnable, written_faults}
use Rattle.lsda_pack.proofs.HeadFrame.{bind_ok}
use Rattle.lsda_pack.proofs.LsdaFrame.{none_refused, both_none}
use Rattle.lsda_pack.proofs.PackingKept.{with_image}

answered : {A : Type 0} (o : Option Fault) (a b : A) → answer o a ≡ Ok b → (o ≡ None) × (answer None a ≡ Ok b)
answered None a b e = (refl, e)
answered (Some f) a b e = absurd cc

-- reading step by step
abbrev headers_read : List ℕ → Bool → Bool → Result Image Fault
headers_read file run whole = let headers = headers_of file in answer (least (segment_faults file headers ++ faults_to_run run file headers)) (image_of file headers)

elf_steps : (file : List ℕ) (run : Bool) → elf file run ≡ (answer (least (header_faults file)) true >>= headers_read file run)
unfolding elf
elf_steps file run = refl

judged_steps : (file : List ℕ) (run : Bool) → judged file run ≡ (elf file run >>= with_image)
unfolding judged
judged_steps file run = refl

abbrev when_unwritten : CleanImage → Result CleanImage Fault
when_unwritten i = answer (least (written_faults i)) i

runnable_steps : (file : List ℕ) → runnable file ≡ (judged file true >>= when_unwritten)
unfolding runnable
runnable_steps file = refl

-- what is refused of a file is refused of one to run, too
headers_clean : (file : List ℕ) (whole : Bool) (i : Image) → headers_read file true whole ≡ Ok i → headers_read file false whole ≡ Ok i
unfolding least
headers_clean file whole i e =
    let headers = headers_of file in
    let segments = segment_faults file headers in
    let both = segments ++ faults_to_run true file headers in
    let one = answered (least both) (image_of file headers) i e in
    let none = both_none segments (faults_to_run true file headers) (none_refused both one.0) in
    ap (λ fs. answer (least (fs ++ [])) (image_of file headers)) none.0 ∙ one.1

elf_clean : (file : List ℕ) (i : Image) → elf file true ≡ Ok i → elf file false ≡ Ok i
elf_clean file i e =
    let read = answer (least (header_faults file)) true in
    let one = bind_ok read (headers_read file true) i (sym (elf_steps file true) ∙ e) in
    elf_steps file false ∙ ap (λ r. r >>= headers_read file false) one.1 ∙ headers_clean file one.0 i one.2

judged_clean : (file : List ℕ) (i : CleanImage) → judged file true ≡ Ok i → clean file ≡ Ok i
judged_clean file i e =
    let one = bind_ok (elf file true) with_image i (sym (judged_steps file true) ∙ e) in
    judged_steps file false ∙ ap (λ r. r >>= with_image) (elf_clean file one.0 one.1) ∙ one.2

pub runnable_clean : (file : List ℕ) (i : CleanImage) → runnable file ≡ Ok i → clean file ≡ Ok i
runnable_clean file i e =
    let one = bind_ok (judged file true) when_unwritten i (sym (runnable_steps file) ∙ e) in
    let same = answered (least (written_faults one.0)) one.0 i one.2 in
    judged_clean file i (one.1 ∙ same.1)
