-- Header and frames together: what is read, or the first refusal.
use Rattle.std.proofs.Common.{◌≡◌, ◌+◌, ◌++◌, ℕ, true, List, map, filter, Option, Some, None, Result, Ok, Err, refl, ap, sym, subst, ◌∙◌, IsOkAnd, IsPermutation}
use Rattle.std.specs.List.Sorted.{IsNonDecreasingBy, IsStableByKey}
use Rattle.std.specs.Ordering.{nat_cmp}
use Rattle.eh_bytes.specs.Memory.{Part, Memory}
use Rattle.table_forms.specs.Fault.{Fault, ◌>>=◌, least, answer}
use Rattle.table_forms.specs.Parts.{Parts}
use Rattle.table_forms.specs.Header.{header_at}
use Rattle.table_forms.specs.Frames.{Frames, sorted, table_disagreement, parts_behind, frames_in}
use Rattle.table_forms.proofs.Least.{none_second}
use Rattle.frame_read.specs.InOrder.{has_place, IsOrder}
use Rattle.frame_read.specs.Listed.{fde_listed}
use Rattle.frame_read.specs.ReadsFrames.{Listing, listing, reported, ReadsFrames}
use Rattle.frame_read.specs.declared.error.FrameError.{FrameError}
use Rattle.frame_read.specs.declared.listed.Fde.{Fde}
use Rattle.frame_read.proofs.FdesRise.{behind_rise}
use Rattle.frame_read.proofs.Orders.{order_is}
use Rattle.frame_read.proofs.Ordered.{is_order}
use Rattle.frame_read.proofs.Sound.{behind_sound}

abbrev pub parts_there : Memory → ℕ → Part → Parts
parts_there memory p part = parts_behind memory (part.file_at + (p + 4)) (header_at part p).frames_at

abbrev pub first_of : Memory → ℕ → Part → Option Fault
first_of memory p part = least ((header_at part p).faults ++ (parts_there memory p part).faults)

abbrev pub table_of : Memory → ℕ → Part → Option Fault
table_of memory p part = table_disagreement (part.file_at + (p + 12)) (header_at part p).rows (parts_there memory p part).fdes

abbrev pub read_of : Memory → ℕ → Part → Frames
read_of memory p part = record { cies = (parts_there memory p part).cies; fdes = (parts_there memory p part).fdes }

abbrev pub frames_by : Memory → ℕ → Part → Option Fault → Option Fault → Result Frames Fault
frames_by memory p part first table = answer first true >>= λ whole. answer table (read_of memory p part)

pub by_both : (memory : Memory) (p : ℕ) (part : Part) → frames_in memory p part ≡ frames_by memory p part (first_of memory p part) (table_of memory p part)
unfolding frames_in
by_both memory p part = refl

pub fails_first : (memory : Memory) (p : ℕ) (part : Part) (f : Fault) → first_of memory p part ≡ Some f → frames_in memory p part ≡ Err f
fails_first memory p part f e = by_both memory p part ∙ ap (λ o. frames_by memory p part o (table_of memory p part)) e

pub fails_table : (memory : Memory) (p : ℕ) (part : Part) (f : Fault) → first_of memory p part ≡ None → table_of memory p part ≡ Some f → frames_in memory p part ≡ Err f
fails_table memory p part f e t =
    by_both memory p part ∙ ap (λ o. frames_by memory p part o (table_of memory p part)) e ∙ ap (frames_by memory p part None) t

pub reads_whole : (memory : Memory) (p : ℕ) (part : Part) → first_of memory p part ≡ None → table_of memory p part ≡ None → frames_in memory p part ≡ Ok (read_of memory p part)
reads_whole memory p part e t =
    by_both memory p part ∙ ap (λ o. frames_by memory p part o (table_of memory p part)) e ∙ ap (frames_by memory p part None) t

pub reads_err : (read : Result Frames Fault) (f : Fault) (e : FrameError) → read ≡ Err f → e ≡ reported f → ReadsFrames (Err e) read
reads_err read f e r s =
    subst (λ (x : FrameError). ReadsFrames (Err x) read) (sym s) (subst (λ (x : Result Frames Fault). ReadsFrames (Err (reported f)) x) (sym r) refl)

pub reads_ok : (memory : Memory) (p : ℕ) (part : Part) (l : Listing) → frames_in memory p part ≡ Ok (read_of memory p part) → l ≡ listing (read_of memory p part) →
    IsOkAnd (frames_in memory p part) (λ d. l ≡ listing d)
reads_ok memory p part l r s = subst (λ (x : Result Frames Fault). IsOkAnd x (λ d. l ≡ listing d)) (sym r) s

-- the FDEs by location, in the order of the definition
pub order_there : (memory : Memory) (p : ℕ) (part : Part) (fdes order : List Fde) → fdes ≡ map fde_listed (parts_there memory p part).fdes → IsPermutation fdes order →
    IsNonDecreasingBy (λ (f : Fde). f.region.start) order → IsStableByKey (λ (f : Fde). f.region.start) nat_cmp fdes order → order ≡ map fde_listed (sorted (parts_there memory p part).fdes)
order_there memory p part fdes order listed moved up stable =
    let rise = behind_rise memory (part.file_at + (p + 4)) (header_at part p).frames_at in
    order_is rise.0 (parts_there memory p part).fdes fdes order listed rise.1 moved up stable

-- those that have places are their order, where nothing is refused of them
pub order_read : (memory : Memory) (p : ℕ) (part : Part) (fdes order placed : List Fde) → first_of memory p part ≡ None → fdes ≡ map fde_listed (parts_there memory p part).fdes →
    order ≡ map fde_listed (sorted (parts_there memory p part).fdes) → placed ≡ filter has_place order → IsOrder fdes placed
order_read memory p part fdes order placed first listed sort kept =
    let parts = parts_there memory p part in
    let sound = behind_sound memory (part.file_at + (p + 4)) (header_at part p).frames_at (none_second (header_at part p).faults parts.faults first) in
    is_order parts.fdes fdes order placed sound.apart listed sort kept
