-- The text of an image that is read.
use Rattle.std.proofs.Common.{◌≡◌, ◌++◌, ℕ, false, List, [], map, Ok, Err, Result, refl, ap, sym, subst, ◌∙◌, append-nil}
use Rattle.std.specs.Prelude.{Some, None, flat_map, option_map, IsOkAnd}
use Rattle.std.specs.List.{AllByRecursion}
use Rattle.eh_bytes.specs.declared.segment.Segment.{Segment}
use Rattle.eh_bytes.specs.Memory.{Memory, part_of}
use Rattle.table_forms.specs.Fault.{Fault}
use Rattle.table_forms.specs.Frames.{Frames, frames}
use Rattle.elf_image.specs.Elf.{Image}
use Rattle.elf_image.specs.Reads.{image_seen}
use Rattle.elf_image.specs.Clean.{CleanImage, clean}
use Rattle.elf_image.proofs.Sizes.{small_parts}
use Rattle.elf_image.proofs.Cleaned.{IsReadFrom, read_from}
use Rattle.frame_read.specs.ReadsFrames.{Listing, listing, ReadsFrames}
use Rattle.frame_read.specs.declared.listed.Fde.{Fde}
use Rattle.table_check.specs.declared.clean.CleanImage as found
use Rattle.table_check.specs.Checks.{IsSeen}
use Rattle.table_dump.specs.declared.head.Base.{Base}
use Rattle.table_dump.specs.Heads.{image_line, segment_line, frames_part, cie_line}
use Rattle.table_dump.specs.Listed.{EndsInSpace, StandsIn, listed_line}
use Rattle.table_dump.specs.Pointed.{pointed, base_of}
use Rattle.table_dump.specs.Seen.{AreFunctions}
use Rattle.table_dump.specs.Dump.{function_text, dump}
use Rattle.table_dump.proofs.Cies.{cies_stand, cies_lines, cies_none}
use Rattle.table_dump.proofs.Functions.{functions_are}

-- ---- the CIEs
seen_at : (l : Listing) (r : Result Frames Fault) (d : Frames) → r ≡ Ok d → ReadsFrames (Ok l) r → l ≡ listing d
seen_at l r d is seen = subst (λ x. IsOkAnd x (λ y. l ≡ listing y)) is seen

read_frames : {Q : Type 0} (l : Listing) (r : Result Frames Fault) → ReadsFrames (Ok l) r → ((d : Frames) → r ≡ Ok d → l ≡ listing d → Q) → Q
read_frames l (Ok d) seen step = step d refl seen
read_frames l (Err f) seen step = absurd seen

pub listed_stand : (parts : List Segment) (header : ℕ) (l : Listing) (base : Base) → AllByRecursion EndsInSpace parts → ReadsFrames (Ok l) (frames (map part_of parts) header) →
    Some base ≡ option_map base_of (pointed (map part_of parts) header) → AllByRecursion (StandsIn base) l.cies
listed_stand parts header l base all read at =
    read_frames l (frames (map part_of parts) header) read (λ d is seen.
    subst (AllByRecursion (StandsIn base)) (sym (ap (λ (x : Listing). x.cies) seen)) (cies_stand parts header d base all is at))

pub listed_put : (memory : Memory) (header : ℕ) (l : Listing) (base : Base) (d : Frames) (out new : List ℕ) → ReadsFrames (Ok l) (frames memory header) → frames memory header ≡ Ok d →
    Some base ≡ option_map base_of (pointed memory header) → new ≡ out ++ flat_map (listed_line base) l.cies → new ≡ out ++ flat_map (cie_line (frames_part memory header)) d.cies
listed_put memory header l base d out new read is at put =
    put ∙ ap (λ cs. out ++ flat_map (listed_line base) cs) (ap (λ (x : Listing). x.cies) (seen_at l (frames memory header) d is read)) ∙ ap (λ xs. out ++ xs) (cies_lines memory header d base is at)

pub none_put : (memory : Memory) (header : ℕ) (d : Frames) (out : List ℕ) → frames memory header ≡ Ok d → None ≡ option_map base_of (pointed memory header) →
    out ≡ out ++ flat_map (cie_line (frames_part memory header)) d.cies
none_put memory header d out is at = sym (ap (λ xs. out ++ xs) (cies_none memory header d is at) ∙ append-nil out)

-- ---- the whole
-- what a clean image was read from, by an image that is seen
pub record IsWholeOf (c : CleanImage) (l : Listing) (order : List Fde) (x : Image) : Type 0 where
  pub read : Frames
  pub reads : frames x.memory x.frame_header ≡ Ok read
  pub seen : ReadsFrames (Ok l) (frames x.memory x.frame_header)
  pub cies : c.cies ≡ read.cies
  pub functions : AreFunctions x.memory l order c.functions

pub whole_of : (file : List ℕ) (c : CleanImage) (i : found.CleanImage) → clean file ≡ Ok c → IsSeen i c → IsWholeOf c i.frames i.order.items (image_seen i.elf)
whole_of file c i is seen = subst (IsWholeOf c i.frames i.order.items) (sym seen.image) (from (read_from file false c is))
  where
    from : IsReadFrom file false c → IsWholeOf c i.frames i.order.items c.image
    from r =
        let l = seen_at i.frames (frames c.image.memory c.image.frame_header) r.read r.frames_read seen.frames_read in
        record {
          read = r.read;
          reads = r.frames_read;
          seen = seen.frames_read;
          cies = r.cies;
          functions = subst (λ order. AreFunctions c.image.memory i.frames order c.functions) (sym seen.fdes)
              (functions_are c.image.memory i.frames c.image.frame_header r.read c.functions (small_parts file false c.image r.image) r.frames_read l r.functions_read);
        }

pub dumped : (c : CleanImage) (x : Image) (d : Frames) (start a b e t : List ℕ) → x ≡ c.image → c.cies ≡ d.cies → start ≡ [] → a ≡ start ++ image_line x.entry → b ≡ a ++ flat_map segment_line x.memory →
    e ≡ b ++ flat_map (cie_line (frames_part x.memory x.frame_header)) d.cies → t ≡ e ++ flat_map function_text c.functions → t ≡ dump c
unfolding dump
dumped c x d start a b e t image cies none p q r s =
    s ∙ ap (λ o. o ++ flat_map function_text c.functions) (r ∙ ap (λ o. o ++ flat_map (cie_line (frames_part x.memory x.frame_header)) d.cies)
    (q ∙ ap (λ o. o ++ flat_map segment_line x.memory) (p ∙ ap (λ o. o ++ image_line x.entry) none))) ∙
    ap (λ cs. image_line x.entry ++ flat_map segment_line x.memory ++ flat_map (cie_line (frames_part x.memory x.frame_header)) cs ++ flat_map function_text c.functions) (sym cies) ∙
    ap (λ (y : Image). image_line y.entry ++ flat_map segment_line y.memory ++ flat_map (cie_line (frames_part y.memory y.frame_header)) c.cies ++ flat_map function_text c.functions) image
