-- The places of FDEs rise.
use Rattle.std.proofs.Common.{◌≡◌, ◌+◌, ◌-◌, ℕ, zero, suc, List, [], ◌∷◌, map, filter_map, length, Option, Some, None, Result, Ok, Err, refl, arith}
use Rattle.std.specs.List.{cons_option}
use Rattle.eh_bytes.specs.declared.frames.Region64.{Region64}
use Rattle.eh_bytes.specs.Memory.{Part, Memory, part_with}
use Rattle.table_forms.specs.Fault.{Fault, ◌>>=◌}
use Rattle.table_forms.specs.Instructions.{Instructions, instructions_at}
use Rattle.table_forms.specs.Cie.{Cie, cie_at}
use Rattle.table_forms.specs.Fde.{Fde, region_at, lsda_at, fde_at}
use Rattle.table_forms.specs.Spans.{Span, spans_within, distance_at}
use Rattle.table_forms.specs.Parts.{Said, refused, said_cie, said_fde, unread, cie_said, fde_said, said_behind, said_of, says, cie_behind, cies_of, fde_in, parts_at}
use Rattle.table_forms.specs.Frames.{parts_in, parts_behind}
use Rattle.frame_read.specs.Listed.{fde_listed}
use Rattle.frame_read.specs.Order.{PlacesRise}
use Rattle.frame_read.specs.declared.listed.Fde as shown
use Rattle.frame_read.proofs.Halves.{lower}
use Rattle.frame_read.proofs.Rises.{Rise, spans_rise}

-- an FDE stands at its place
abbrev Stands : ℕ → Result Fde Fault → Type 0
Stands n (Ok f) = f.place ≡ n
Stands n (Err e) = n ≡ n

abbrev pub read_fde : Cie → Part → ℕ → Region64 → ℕ → Instructions → Fde
read_fde cie part at region lsda is = record {
  address = part.address + at;
  place = part.file_at + at;
  region = region;
  lsda = lsda;
  cie = cie;
  instructions = is.list;
}

fde_stands : (cie : Cie) (part : Part) (at stop p : ℕ) → Stands (part.file_at + at) (fde_at cie part at stop p)
unfolding fde_at
fde_stands cie part at stop p = first (region_at cie part stop p)
  where
    third : (region : Region64 × ℕ) (lsda : ℕ × ℕ) (r : Result Instructions Fault) → Stands (part.file_at + at) (r >>= λ is. Ok (read_fde cie part at region.0 lsda.0 is))
    third region lsda (Ok is) = refl
    third region lsda (Err e) = refl

    second : (region : Region64 × ℕ) (r : Result (ℕ × ℕ) Fault) →
        Stands (part.file_at + at) (r >>= λ lsda. instructions_at cie.coding part stop lsda.1 cie.states >>= λ is. Ok (read_fde cie part at region.0 lsda.0 is))
    second region (Ok lsda) = third region lsda (instructions_at cie.coding part stop lsda.1 cie.states)
    second region (Err e) = refl

    first : (r : Result (Region64 × ℕ) Fault) →
        Stands (part.file_at + at) (r >>= λ region. lsda_at cie.augmentation cie part stop region.1 >>= λ lsda.
        instructions_at cie.coding part stop lsda.1 cie.states >>= λ is. Ok (read_fde cie part at region.0 lsda.0 is))
    first (Ok region) = second region (lsda_at cie.augmentation cie part stop region.1)
    first (Err e) = refl

-- what a part says puts no FDE but at its place
abbrev SaysAt : ℕ → Said → Type 0
SaysAt n (said_fde f) = f.place ≡ n
SaysAt n (said_cie c) = n ≡ n
SaysAt n (refused e) = n ≡ n
SaysAt n unread = n ≡ n

says_at : (part : Part) (entries : List (ℕ × Result Cie Fault)) (s : Span) → SaysAt (part.file_at + s.at) (says part entries s)
unfolding says
says_at part entries s = by (distance_at part s)
  where
    fde : (r : Result Fde Fault) → Stands (part.file_at + s.at) r → SaysAt (part.file_at + s.at) (fde_said r)
    fde (Ok f) stands = stands
    fde (Err e) stands = refl

    cie : (r : Result Cie Fault) → SaysAt (part.file_at + s.at) (cie_said r)
    cie (Ok c) = refl
    cie (Err e) = refl

    behind : (next : ℕ) (o : Option (Result Cie Fault)) → SaysAt (part.file_at + s.at) (said_behind part s next o)
    behind next None = refl
    behind next (Some (Err e)) = refl
    behind next (Some (Ok c)) = fde (fde_at c part s.at s.stop next) (fde_stands c part s.at s.stop next)

    by : (d : Result (ℕ × ℕ) Fault) → SaysAt (part.file_at + s.at) (said_of part entries s d)
    by (Err e) = refl
    by (Ok (zero, next)) = cie (cie_at part s.at s.stop next)
    by (Ok (suc d, next)) = behind next (cie_behind entries s.at (suc d))

fdes_rise : (part : Part) (entries : List (ℕ × Result Cie Fault)) (n : ℕ) (spans : List Span) → Rise n spans →
    PlacesRise (part.file_at + n) (map fde_listed (filter_map fde_in (map (says part entries) spans)))
fdes_rise part entries n [] rise = refl
fdes_rise part entries n (s ∷ spans) rise =
    by (fdes_rise part entries (s.at + 1) spans rise.1) (says part entries s) (says_at part entries s)
  where
    place : shown.Fde → ℕ
    place f = f.place

    rest : List Fde
    rest = filter_map fde_in (map (says part entries) spans)

    by : PlacesRise (part.file_at + (s.at + 1)) (map fde_listed rest) → (x : Said) → SaysAt (part.file_at + s.at) x → PlacesRise (part.file_at + n) (map fde_listed (cons_option (fde_in x) rest))
    by later (said_fde f) stands = (let a = rise.0 in omega (arith, stands, a), lower place (f.place + 1) (part.file_at + (s.at + 1)) (map fde_listed rest) (omega (arith, stands)) later)
    by later (said_cie c) stands = lower place (part.file_at + n) (part.file_at + (s.at + 1)) (map fde_listed rest) (let a = rise.0 in omega (arith, a)) later
    by later (refused e) stands = lower place (part.file_at + n) (part.file_at + (s.at + 1)) (map fde_listed rest) (let a = rise.0 in omega (arith, a)) later
    by later unread stands = lower place (part.file_at + n) (part.file_at + (s.at + 1)) (map fde_listed rest) (let a = rise.0 in omega (arith, a)) later

parts_rise : (part : Part) (p : ℕ) → PlacesRise (part.file_at + p) (map fde_listed (parts_at part p).fdes)
unfolding parts_at
parts_rise part p = let spans = spans_within (length part.bytes) part p in fdes_rise part (cies_of part spans.list) p spans.list (spans_rise (length part.bytes) part p)

pub behind_rise : (memory : Memory) (pointer_place : ℕ) (o : Option ℕ) → (n : ℕ) × PlacesRise n (map fde_listed (parts_behind memory pointer_place o).fdes)
behind_rise memory pointer_place None = (0, refl)
behind_rise memory pointer_place (Some a) = by (part_with memory a)
  where
    by : (found : Option Part) → (n : ℕ) × PlacesRise n (map fde_listed (parts_in pointer_place found a).fdes)
    by None = (0, refl)
    by (Some part) = (part.file_at + (a - part.address), parts_rise part (a - part.address))
