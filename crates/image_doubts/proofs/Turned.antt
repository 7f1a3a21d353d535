-- The doubts, function by function.
use Rattle.std.proofs.Common.{◌≡◌, ◌++◌, ◌∙◌, List, [], ◌∷◌, ℕ, ap, sym, append_assoc}
use Rattle.std.specs.Prelude.{flat_map, Option}
use Rattle.eh_bytes.specs.Memory.{Memory, memory_of}
use Rattle.table_forms.specs.Lsda.{Table}
use Rattle.elf_image.specs.Elf.{Image}
use Rattle.elf_image.specs.Reads.{image_seen}
use Rattle.elf_image.specs.Clean.{CleanImage, Function}
use Rattle.frame_read.specs.ReadsFrames.{Listing}
use Rattle.frame_read.specs.declared.listed.Fde.{Fde}
use Rattle.table_check.specs.declared.clean.CleanImage as found
use Rattle.table_dump.specs.Seen.{AreFunctions, IsFunction}
use Rattle.place_verdicts.specs.Image.{IsRead}
use Rattle.image_doubts.specs.Doubts.{doubts, function_doubts, no_code_line, table_doubts}

-- what is put of a function
pub function_put : (memory : Memory) (l : Listing) (fde : Fde) (g : Function) (functions : List Function) (t : Option Table) (out a b : List ℕ) → IsFunction memory l fde g → t ≡ g.table →
    a ≡ out ++ no_code_line memory fde.region → b ≡ a ++ table_doubts memory functions fde.region t → b ≡ out ++ function_doubts memory functions g
function_put memory l fde g functions t out a b is same p q =
    q ∙ ap (λ o. o ++ table_doubts memory functions fde.region t) p ∙ append_assoc out (no_code_line memory fde.region) (table_doubts memory functions fde.region t) ∙
    ap (λ (x : Option Table). out ++ (no_code_line memory fde.region ++ table_doubts memory functions fde.region x)) same ∙
    ap (λ (f : Fde). out ++ (no_code_line memory f.region ++ table_doubts memory functions f.region g.table)) is.entry.listed

-- one function further
pub one_on : (image : found.CleanImage) (memory : Memory) (l : Listing) (fde : Fde) (fs : List Fde) (gs : List Function) (all : CleanImage → List ℕ) (out new : List ℕ) → AreFunctions memory l (fde ∷ fs) gs →
    ((c : CleanImage) → IsRead image c → all c ≡ out ++ flat_map (function_doubts memory c.functions) gs) →
    ((c : CleanImage) (g : Function) → IsRead image c → IsFunction memory l fde g → new ≡ out ++ function_doubts memory c.functions g) →
    (more : List Function) × AreFunctions memory l fs more × ((c : CleanImage) → IsRead image c → all c ≡ new ++ flat_map (function_doubts memory c.functions) more)
one_on image memory l fde fs [] all out new are is put = absurd are
one_on image memory l fde fs (g ∷ gs) all out new are is put = (
  gs,
  are.1,
  λ c read.
      is c read ∙ sym (append_assoc out (function_doubts memory c.functions g) (flat_map (function_doubts memory c.functions) gs)) ∙
      ap (λ o. o ++ flat_map (function_doubts memory c.functions) gs) (sym (put c g read are.0)),
)

-- all of them, of a memory that is the image's
pub whole : (i : found.CleanImage) (c : CleanImage) (out new : List ℕ) → image_seen i.elf ≡ c.image → out ≡ [] → new ≡ out ++ flat_map (function_doubts (memory_of i.elf.segments) c.functions) c.functions →
    new ≡ doubts c
unfolding doubts
whole i c out new same none put =
    put ∙ ap (λ o. o ++ flat_map (function_doubts (memory_of i.elf.segments) c.functions) c.functions) none ∙ ap (λ (x : Image). flat_map (function_doubts x.memory c.functions) c.functions) same
