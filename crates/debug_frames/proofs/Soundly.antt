-- What is kept of a section of which nothing is refused.
use Rattle.std.proofs.Common.{◌≡◌, ℕ, List, [], ◌∷◌, map, refl, ap, ◌∙◌, IsPermutation, subst}
use Rattle.std.specs.Prelude.{None, option_map}
use Rattle.std.specs.List.Sorted.{IsNonDecreasingBy}
use Rattle.eh_bytes.specs.Memory.{Part}
use Rattle.table_forms.specs.Fault.{answer}
use Rattle.table_forms.specs.Frames.{Frames}
use Rattle.table_forms.specs.Seen.{fault_of}
use Rattle.frame_read.specs.Ready.{here_seen}
use Rattle.frame_read.specs.declared.gather.Placed.{Placed}
use Rattle.frame_read.specs.declared.lookup.FdeHere.{FdeHere}
use Rattle.debug_frames.specs.DebugSpans.{section_part}
use Rattle.debug_frames.specs.DebugParts.{debug_frames_in}
use Rattle.debug_frames.specs.Gathered.{parts_seen, answered}
use Rattle.frame_read.specs.Sound.{IsSound}
use Rattle.debug_frames.specs.Order.{regions, numbered, IsOrder}
use Rattle.debug_frames.specs.declared.gather.PartsRead.{PartsRead}
use Rattle.debug_frames.proofs.Ordered.{is_order}
use Rattle.debug_frames.proofs.Sound.{reading_is_sound}

regions_seen : (part : Part) (fdes : List FdeHere) → map (λ h. h.fde.region) fdes ≡ regions (map (here_seen part) fdes)
regions_seen part [] = refl
regions_seen part (h ∷ hs) = ap (λ rs. h.fde.region ∷ rs) (regions_seen part hs)

sound_kept : (bytes : List ℕ) (at : ℕ) (p : PartsRead) → p.least ≡ None → debug_frames_in (section_part bytes at) ≡ answered (parts_seen (section_part bytes at) p) →
    IsSound (map (here_seen (section_part bytes at)) p.fdes.items)
sound_kept bytes at p none read =
    let seen = parts_seen (section_part bytes at) p in
    let frames : Frames = record { cies = seen.cies; fdes = seen.fdes } in
    reading_is_sound bytes at frames (read ∙ ap (λ o. answer (option_map fault_of o) frames) none)

pub order_kept : (bytes : List ℕ) (at : ℕ) (p : PartsRead) (order : List Placed) → p.least ≡ None → debug_frames_in (section_part bytes at) ≡ answered (parts_seen (section_part bytes at) p) →
    IsPermutation (numbered 0 (map (λ (h : FdeHere). h.fde.region) p.fdes.items)) order → IsNonDecreasingBy (λ (x : Placed). x.region.start) order →
    IsOrder (map (here_seen (section_part bytes at)) p.fdes.items) order
order_kept bytes at p order none read moved up =
    let part = section_part bytes at in
    is_order (map (here_seen part) p.fdes.items) order (sound_kept bytes at p none read)
    (subst (λ rs. IsPermutation (numbered 0 rs) order) (regions_seen part p.fdes.items) moved) up
