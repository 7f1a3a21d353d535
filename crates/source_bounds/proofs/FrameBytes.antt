-- How many bytes the frame entry of a function takes at most.
use Rattle.std.proofs.Common.{◌≡◌, ℕ, zero, suc, ◌+◌, ◌-◌, ◌*◌, ◌/◌, ◌%◌, ◌<◌, ◌≤◌, ◌==◌, Bool, true, false, nat_lt, negsuc, List, [], ◌∷◌, ◌++◌, length, sym, subst, arith, length-append, if◌then◌else◌}
use Rattle.std.specs.Prelude.{pos, unsigned_abs, ◌-ℤ◌, ◌^◌}
use Rattle.std.specs.Int.{w32, to_le_bytes}
use Rattle.std.proofs.lemmas.Bool.Decides.{nat_tests}
use Rattle.std.proofs.lemmas.Int.{ints}
use Rattle.std.proofs.lemmas.List.{length-replicate}
use Rattle.rv64_isa.specs.declared.instr.Instr.TheVariants.{Lw, Sd}
use Rattle.eh_bytes.specs.Listed.{ListedFrame}
use Rattle.eh_bytes.specs.Spelling.{uleb_spelling}
use Rattle.eh_write.specs.WrittenFrames.{advance_bytes, moves_bytes, fde_body, nops, padded, fde_bytes}
use Rattle.machine_forms.specs.Emitted.{function_moves}
use Rattle.machine_forms.specs.Immediate.{immediate}
use Rattle.machine_forms.specs.KeptCode.{copied, one_saved, save_moves}
use Rattle.machine_forms.specs.Piece.{instruction}
use Rattle.machine_forms.specs.Registers.{saved_registers, sp, t0}
use Rattle.machine_forms.specs.Shape.{Shape, return_offset, prologue, slot_offset, stack_tested}
use Rattle.image_forms.specs.Room.{frame_room}
use Rattle.source_bounds.proofs.Bytes.{uleb_two, uleb_ten}

-- the distance down from a frame's upper end
down_small : (place d size : ℕ) → size ≡ place + d → d ≤ 2032 → unsigned_abs (pos place -ℤ pos size) / 8 < 16384
down_small place zero size e h =
    let none : pos place -ℤ pos size ≡ pos 0 = omega (arith, ints, e) in
    subst (λ z. unsigned_abs z / 8 < 16384) (sym none) (omega arith)
down_small place (suc d) size e h =
    let below : pos place -ℤ pos size ≡ negsuc d = omega (arith, ints, e) in
    subst (λ z. unsigned_abs z / 8 < 16384) (sym below) (omega (arith, h))

advance_short : (steps : ℕ) → steps < 64 → length (advance_bytes steps) ≤ 1
advance_short steps h = go (steps == 0) (nat_lt steps 64) (grind (arith, nat_tests, h))
  where
    go : (a b : Bool) → b ≡ true → length (if a then [] else if b then (64 + steps) ∷ [] else 0x04 ∷ to_le_bytes w32 steps) ≤ 1
    go true b e = omega arith
    go false true e = omega arith
    go false false e = absurd (cc e)

-- how many words save a register, and which of them stores it
record Words (at all : ℕ) : Type 0 where
  inside : at ≤ all
  last : all ≤ at + 1
  few : at ≤ 2

words_of : (parameters offset r s : ℕ) → Words (if nat_lt s parameters then 2 else 1) (length (one_saved parameters offset r s))
words_of parameters offset r s = go (nat_lt s parameters)
  where
    go : (b : Bool) → Words (if b then 2 else 1) (length (if b then instruction (Lw t0 sp offset) ∷ instruction (Sd sp r offset) ∷ instruction (copied r t0) ∷ [] else instruction (Sd sp r offset) ∷ []))
    go true = record { inside = omega arith; last = omega arith; few = omega arith }
    go false = record { inside = omega arith; last = omega arith; few = omega arith }

-- each register has four bytes at most
saves_short : (f : Shape) (parameters n before : ℕ) (rs ks : List ℕ) → f.size ≤ 2032 → before ≤ 4 * n → 4 * n ≤ before + 16 → length (moves_bytes before (save_moves f parameters n rs ks)) ≤ 4 * length rs
saves_short f parameters n before [] ks small low high = omega arith
saves_short f parameters n before (r ∷ rs) [] small low high = omega arith
saves_short f parameters n before (r ∷ rs) (s ∷ ks) small low high =
    let offset = immediate (pos (slot_offset f s)) in
    let at : ℕ = if nat_lt s parameters then 2 else 1 in
    let all : ℕ = length (one_saved parameters offset r s) in
    let w = words_of parameters offset r s in
    let steps : ℕ = (4 * (n + at) - before) / 4 % 2 ^ 32 in
    let advance = advance_bytes steps in
    let down = uleb_spelling (unsigned_abs (pos (slot_offset f s) -ℤ pos f.size) / 8) in
    let near : steps < 64 = omega (arith, low, high, w.few) in
    let rest = moves_bytes (4 * (n + at)) (save_moves f parameters (n + all) rs ks) in
    omega (
      arith,
      advance_short steps near,
      uleb_two (unsigned_abs (pos (slot_offset f s) -ℤ pos f.size) / 8) (down_small (slot_offset f s) (f.size - slot_offset f s) f.size (omega arith) (omega (arith, small))),
      length-append (advance ++ ((128 + r % 64) ∷ down)) rest,
      length-append advance ((128 + r % 64) ∷ down),
      saves_short f parameters (n + all) (4 * (n + at)) rs ks small (omega (arith, w.inside)) (omega (arith, w.last)),
    )

prologue_words : (leaf : Bool) → length (stack_tested leaf) ≤ 4
prologue_words true = omega arith
prologue_words false = omega arith

moves_short : (f : Shape) (parameters : ℕ) → f.size ≤ 2032 → length (moves_bytes 0 (function_moves f parameters)) ≤ 64
moves_short f parameters small =
    let first = uleb_spelling (unsigned_abs (pos f.size)) in
    let second = uleb_spelling (unsigned_abs (pos return_offset -ℤ pos f.size) / 8) in
    let n = length (prologue f) in
    let saved = moves_bytes 8 (save_moves f parameters n saved_registers f.kept) in
    let rest : List ℕ = 65 ∷ 129 ∷ (second ++ saved) in
    omega (
      arith,
      uleb_ten (unsigned_abs (pos f.size)),
      uleb_ten (unsigned_abs (pos return_offset -ℤ pos f.size) / 8),
      length-append first rest,
      length-append second saved,
      saves_short f parameters n 8 saved_registers f.kept small (omega arith) (omega (arith, prologue_words f.leaf)),
    )

padded_short : (n : ℕ) (bytes : List ℕ) → length bytes ≤ 81 → length (to_le_bytes w32 n ++ padded bytes) ≤ 88
padded_short n bytes h = omega (arith, h, length-append bytes (nops (length bytes)), length-replicate {A = ℕ} ((4 - length bytes % 4) % 4) 0)

pub frame_short : (f : Shape) (parameters : ℕ) → f.size ≤ 2032 → frame_room (function_moves f parameters) ≤ 88
unfolding fde_bytes fde_body
frame_short f parameters small =
    let frame : ListedFrame = record { region = record { start = 0; length = 0 }; lsda = 0; moves = function_moves f parameters } in
    let body = fde_body true 0 0 frame in
    padded_short (length (padded body) % 2 ^ 32) body (omega (arith, moves_short f parameters small))
