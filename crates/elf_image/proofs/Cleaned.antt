-- What a clean image has been read from.
use Rattle.std.proofs.Common.{◌≡◌, ℕ, Bool, List, Ok, Err, Result, refl, subst}
use Rattle.table_forms.specs.Fault.{Fault, ◌>>=◌}
use Rattle.table_forms.specs.Frames.{Frames, frames, sorted}
use Rattle.elf_image.specs.Elf.{Image, elf}
use Rattle.elf_image.specs.Clean.{Function, CleanImage, functions_of, judged}

-- its image, its frames, and its functions in their order
pub record IsReadFrom (file : List ℕ) (run : Bool) (c : CleanImage) : Type 0 where
  pub read : Frames
  pub image : elf file run ≡ Ok c.image
  pub frames_read : frames c.image.memory c.image.frame_header ≡ Ok read
  pub cies : c.cies ≡ read.cies
  pub functions_read : functions_of c.image.memory (sorted read.fdes) ≡ Ok c.functions

abbrev made : Image → Frames → List Function → CleanImage
made i d fs = record { image = i; cies = d.cies; functions = fs }

made_same : (i : Image) (d : Frames) (fs : List Function) (c : CleanImage) (r : Result CleanImage Fault) → Ok (made i d fs) ≡ r → r ≡ Ok c → made i d fs ≡ c
made_same i d fs c r e f = cc

pub read_from : (file : List ℕ) (run : Bool) (c : CleanImage) → judged file run ≡ Ok c → IsReadFrom file run c
unfolding judged
read_from file run c e = with_image (elf file run) refl e
  where
    with_functions : (i : Image) (d : Frames) (r : Result (List Function) Fault) → elf file run ≡ Ok i → frames i.memory i.frame_header ≡ Ok d → functions_of i.memory (sorted d.fdes) ≡ r →
        (r >>= λ fs. Ok (made i d fs)) ≡ Ok c → IsReadFrom file run c
    with_functions i d (Err f) ie de re e = absurd cc
    with_functions i d (Ok fs) ie de re e =
        subst (IsReadFrom file run) (made_same i d fs c (Ok (made i d fs)) refl e) (record { read = d; image = ie; frames_read = de; cies = refl; functions_read = re })

    with_frames : (i : Image) (r : Result Frames Fault) → elf file run ≡ Ok i → frames i.memory i.frame_header ≡ r →
        (r >>= λ d. functions_of i.memory (sorted d.fdes) >>= λ fs. Ok (made i d fs)) ≡ Ok c → IsReadFrom file run c
    with_frames i (Err f) ie re e = absurd cc
    with_frames i (Ok d) ie re e = with_functions i d (functions_of i.memory (sorted d.fdes)) ie re refl e

    with_image : (r : Result Image Fault) → elf file run ≡ r →
        (r >>= λ i. frames i.memory i.frame_header >>= λ d. functions_of i.memory (sorted d.fdes) >>= λ fs. Ok (made i d fs)) ≡ Ok c → IsReadFrom file run c
    with_image (Err f) re e = absurd cc
    with_image (Ok i) re e = with_frames i (frames i.memory i.frame_header) re refl e
