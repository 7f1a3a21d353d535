-- The moves of a function's frame.
use Rattle.std.proofs.Common.{◌≡◌, ℕ, zero, suc, ◌+◌, ◌-◌, ◌*◌, ◌%◌, ◌<◌, ◌≤◌, pos, negsuc, ◌-ℤ◌, Bool, true, false, List, [], ◌∷◌, ◌++◌, map, take, length, length-append, refl, sym, subst, ⊎_elim, arith}
use Rattle.std.specs.Prelude.{nat_lt, if◌then◌else◌, Option}
use Rattle.std.specs.List.{AllByRecursion}
use Rattle.std.proofs.lemmas.Bool.{cases_lt}
use Rattle.std.proofs.lemmas.Int.{ints}
use Rattle.rv64_isa.specs.declared.instr.Instr.TheVariants.{Lw, Sd}
use Rattle.eh_bytes.specs.declared.frames.Region64.{Region64}
use Rattle.eh_write.specs.CanWriteFrames.{IsSlot, MovesAreGood}
use Rattle.region_forms.specs.Form.{RegionFunction}
use Rattle.linear_forms.specs.Linear.{return}
use Rattle.linear_forms.specs.Sites.{Placed}
use Rattle.linear_forms.specs.Emission.{quiet}
use Rattle.linear_forms.specs.Code.{region_code}
use Rattle.linear_forms.specs.Tables.{unpadded}
use Rattle.linear_forms.specs.Frame.{code_slots, frame_bytes, slot_bytes}
use Rattle.linear_forms.specs.Unit.{emitting, function_code}
use Rattle.machine_forms.specs.Emitted.{function_routine, shape_of}
use Rattle.machine_forms.specs.Immediate.{immediate}
use Rattle.machine_forms.specs.KeptCode.{copied, one_saved, restores, saves, save_moves}
use Rattle.machine_forms.specs.LinearCode.{linear_code, result_set}
use Rattle.machine_forms.specs.Piece.{instruction}
use Rattle.machine_forms.specs.Registers.{saved_registers, sp, t0}
use Rattle.machine_forms.specs.Routine.{block_words, listed_routine, listed_routines, routine_words}
use Rattle.machine_forms.specs.Shape.{Shape, epilogue, prologue, slot_offset}
use Rattle.machine_forms.proofs.Sizes.{frames_are_small}
use Rattle.rv64_emit.specs.Laws.{AllMovesFit, MovesFit, moved_to}

-- what is saved at a multiple of 8 below the frame's upper end
saved_below : (place d size : ℕ) → size ≡ place + d → d % 8 ≡ 0 → IsSlot (pos place -ℤ pos size)
saved_below place zero size e even =
    let none : pos place -ℤ pos size ≡ pos 0 = omega (arith, ints, e) in
    subst IsSlot (sym none) refl
saved_below place (suc d) size e even =
    let below : pos place -ℤ pos size ≡ negsuc d = omega (arith, ints, e) in
    let again : (d + 1) % 8 ≡ 0 = omega (arith, even) in
    subst IsSlot (sym below) again

-- so is each slot
saved_slot : (f : Shape) (s : ℕ) → f.size % 8 ≡ 0 → IsSlot (pos (slot_offset f s) -ℤ pos f.size)
saved_slot f s even = go (slot_bytes (take (s + 1) f.slots)) (frames_are_small.even (take (s + 1) f.slots))
  where
    go : (bytes : ℕ) → bytes % 8 ≡ 0 → IsSlot (pos (f.size - bytes) -ℤ pos f.size)
    go bytes whole =
        ⊎_elim (λ less. saved_below (f.size - bytes) bytes f.size (omega (arith, less)) whole) (λ more. saved_below (f.size - bytes) f.size f.size (omega (arith, more)) even)
        (cases_lt bytes f.size)

-- the word that saves a register is one of those for it
stored_inside : (parameters offset r s : ℕ) → (if nat_lt s parameters then 2 else 1) ≤ length (one_saved parameters offset r s)
stored_inside parameters offset r s = by (nat_lt s parameters)
  where
    by : (b : Bool) → (if b then 2 else 1) ≤ length (if b then instruction (Lw t0 sp offset) ∷ instruction (Sd sp r offset) ∷ instruction (copied r t0) ∷ [] else instruction (Sd sp r offset) ∷ [])
    by true = omega arith
    by false = omega arith

-- the moves of kept variables, whose words are not the last ones
saves_fit : (f : Shape) (parameters n before words : ℕ) (rs ks : List ℕ) (region : Region64) → region.length ≡ 4 * words → f.size % 8 ≡ 0 → n + length (saves f parameters rs ks) < words →
    before ≤ region.start + 4 * n → AllByRecursion (λ r. r < 64) rs → MovesAreGood region before (map (moved_to region.start) (save_moves f parameters n rs ks))
saves_fit f parameters n before words [] ks region e even few low small = tt
saves_fit f parameters n before words (r ∷ rs) [] region e even few low small = tt
saves_fit f parameters n before words (r ∷ rs) (s ∷ ks) region e even few low small =
    let offset = immediate (pos (slot_offset f s)) in
    let one = one_saved parameters offset r s in
    let at : ℕ = if nat_lt s parameters then 2 else 1 in
    let inside : at ≤ length one = stored_inside parameters offset r s in
    let sum : length (saves f parameters (r ∷ rs) (s ∷ ks)) ≡ length one + length (saves f parameters rs ks) = length-append one (saves f parameters rs ks) in
    let start = region.start in (
      omega (arith, low),
      (omega arith, omega (arith, e, few, sum, inside), omega arith),
      (small.0, saved_slot f s even),
      saves_fit f parameters (n + length one) (start + 4 * (n + at)) words rs ks region e even (omega (arith, few, sum)) (omega (arith, inside)) small.1,
    )

-- a function's code ends with a return
last_words : (f : Shape) (result : Option ℕ) (code : List Placed) → 3 ≤ block_words (map (linear_code f) (map (λ x. x.op) (code ++ quiet (return result) ∷ [])))
last_words f result [] = omega (arith, length-append (result_set f result ++ restores f saved_registers f.kept) (epilogue f))
last_words f result (x ∷ code) = omega (arith, last_words f result code)

whole_frame : (f : RegionFunction) → (16 ≤ frame_bytes (code_slots f)) × (frame_bytes (code_slots f) % 8 ≡ 0)
whole_frame f = (omega arith, omega arith)

moves_fit_one : (first : ℕ) (f : RegionFunction) → frame_bytes (code_slots f) ≤ 2032 → MovesFit (listed_routine first (function_routine (function_code f)))
moves_fit_one first f small region e =
    let g = function_code f in
    let shape = shape_of g in
    let frame = whole_frame f in
    let front = saves shape g.parameters saved_registers shape.kept in
    let last = last_words shape f.result (region_code (emitting f) unpadded [] 0 0 f.body) in
    let sum : length (prologue shape ++ front) ≡ length (prologue shape) + length front = length-append (prologue shape) front in
    let words = routine_words (function_routine g) in
    let begun : 2 ≤ length (prologue shape) = omega arith in
    let s = region.start in (
      omega arith,
      (omega arith, omega (arith, e, last, sum, begun), omega arith),
      omega (arith, small),
      (
        omega arith,
        (omega arith, omega (arith, e, last, sum, begun), omega arith),
        (omega arith, saved_below 8 (frame_bytes (code_slots f) - 8) (frame_bytes (code_slots f)) (omega (arith, frame.0)) (omega (arith, frame.1, frame.0))),
        saves_fit shape g.parameters (length (prologue shape)) (s + 8) words saved_registers shape.kept region e frame.1 (omega (arith, sum, last)) (omega (arith, begun))
            (omega arith, (omega arith, (omega arith, (omega arith, (omega arith, (omega arith, (omega arith, (omega arith, (omega arith, (omega arith, tt)))))))))),
      ),
    )

all_fit : (first : ℕ) (fs : List RegionFunction) → AllByRecursion (λ g. g.frame ≤ 2032) (map function_code fs) →
    AllByRecursion MovesFit (listed_routines first (map function_routine (map function_code fs)))
all_fit first [] h = tt
all_fit first (f ∷ fs) h = (moves_fit_one first f h.0, all_fit (first + routine_words (function_routine (function_code f))) fs h.1)

pub moves_fit : AllMovesFit
moves_fit r h = all_fit 2 r.functions h
