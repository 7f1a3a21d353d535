-- The instructions of a frame's changes are read as they are written.
use Rattle.std.proofs.Common.{◌≡◌, ◌+◌, ◌-◌, ◌*◌, ◌/◌, ◌%◌, ◌<◌, ◌≤◌, ◌^◌, ◌==◌, ℕ, ℤ, pos, negsuc, zero, suc, Bool, true, false, nat_lt, List, [], ◌∷◌, ◌++◌, length, take, Ok, Err, Some, refl, ap, sym, ◌∙◌, arith, append_assoc, if◌then◌else◌, length-append}
use Rattle.std.specs.Prelude.{replicate, unsigned_abs, ◌*ℤ◌}
use Rattle.std.specs.Int.{w32, to_le_bytes}
use Rattle.std.specs.List.{AllByRecursion}
use Rattle.std.proofs.lemmas.List.{length-replicate}
use Rattle.std.proofs.Math.IntN.{zero-*ℤ, pos-*ℤ-negsuc, neg_ℤ}
use Rattle.std.proofs.lemmas.Bool.Decides.{nat_tests}
use Rattle.eh_bytes.specs.declared.frames.FrameChange.{FrameChange}
use Rattle.eh_bytes.specs.declared.frames.FrameChange.TheVariants.{Cfa, Saved, Undefined}
use Rattle.eh_bytes.specs.declared.frames.FrameMove.{FrameMove}
use Rattle.eh_bytes.specs.Leb128.{is_i64}
use Rattle.eh_bytes.specs.Memory.{Part}
use Rattle.eh_bytes.specs.Spelling.{uleb_spelling}
use Rattle.table_forms.specs.declared.found.Rule.TheVariants as rules
use Rattle.table_forms.specs.declared.reason.Reason.TheVariants.{LebRange}
use Rattle.table_forms.specs.Fault.{fault, ◌>>=◌}
use Rattle.table_forms.specs.Instruction.{Instruction, nop, advance, set_cfa_offset, set_rule, Coding, in_range, unsigned_offset, register_at, extended, operands, instruction_at}
use Rattle.table_forms.specs.Instructions.{states_after, and_instructions, instructions_after, instructions_from, instructions_within}
use Rattle.eh_write.specs.WrittenFrames.{change_bytes, moves_bytes}
use Rattle.eh_write.specs.CanWriteFrames.{IsSlot, ChangeIsGood}
use Rattle.eh_write.specs.Fits.{HasOffset}
use Rattle.eh_write.proofs.Reading.{next_stands}
use Rattle.eh_write.proofs.FrameFields.{From, in_byte, in_uleb, in_four}

abbrev pub the_coding : Coding
the_coding = record { code_factor = 4; data_factor = negsuc 7; encoding = 27 }

next : (part : Part) (stop p : ℕ) (x rest : List ℕ) → From part stop p (x ++ rest) → From part stop (p + length x) rest
next part stop p x rest here = next_stands (take stop part.bytes) p x rest here

short_advance : (part : Part) (stop p steps : ℕ) (rest : List ℕ) → steps < 64 → From part stop p ((64 + steps) ∷ rest) →
    instruction_at the_coding part stop p ≡ Ok (advance (steps * 4), p + 1)
unfolding instruction_at operands
short_advance part stop p steps rest few here =
    let high : (64 + steps) / 64 ≡ 1 = omega (arith, few) in
    let low : (64 + steps) % 64 ≡ steps = omega (arith, few) in
    rw (in_byte part stop p (64 + steps) rest here) (rw (high, low) refl)

long_advance : (part : Part) (stop p steps : ℕ) (rest : List ℕ) → steps < 2 ^ 32 → From part stop p (0x04 ∷ (to_le_bytes w32 steps ++ rest)) →
    instruction_at the_coding part stop p ≡ Ok (advance (steps * 4), p + 5)
unfolding instruction_at operands extended
long_advance part stop p steps rest small here =
    let five : p + 1 + 4 ≡ p + 5 = omega arith in
    rw (in_byte part stop p 0x04 (to_le_bytes w32 steps ++ rest) here)
    (rw (in_four part stop (p + 1) steps rest small (next part stop p (0x04 ∷ []) (to_le_bytes w32 steps ++ rest) here)) (ap (λ q. Ok (advance (steps * 4), q)) five))

fits_offset : (n : ℕ) → n < 2 ^ 31 → is_i64 (pos n) ≡ true
fits_offset n small = grind (arith, nat_tests, small)

in_i64 : (part : Part) (p after : ℕ) (value z : ℤ) → value ≡ z → is_i64 z ≡ true → in_range part p value after ≡ Ok (z, after)
in_i64 part p after value z same fits =
    ap (λ v. in_range part p v after) same ∙ ap (λ b. (if b then Ok b else Err (fault LebRange (part.file_at + p))) >>= (λ _. Ok (z, after))) fits

pub plain_offset : (part : Part) (stop p n : ℕ) (rest : List ℕ) → n < 2 ^ 31 → From part stop p (uleb_spelling n ++ rest) →
    unsigned_offset (pos 1) part stop p ≡ Ok (pos n, p + length (uleb_spelling n))
unfolding unsigned_offset
plain_offset part stop p n rest small here =
    let one_is : pos n *ℤ pos 1 ≡ pos n = ap pos (let e : n * 1 ≡ n = omega arith in e) in
    ap (λ r. r >>= (λ x. in_range part p (pos x.0 *ℤ pos 1) x.1)) (in_uleb part stop p n rest (omega (arith, small)) here) ∙
    in_i64 part p (p + length (uleb_spelling n)) (pos n *ℤ pos 1) (pos n) one_is (fits_offset n small)

offset_read : (part : Part) (stop p n : ℕ) (rest : List ℕ) → n < 2 ^ 31 → From part stop p (0x0e ∷ (uleb_spelling n ++ rest)) →
    instruction_at the_coding part stop p ≡ Ok (set_cfa_offset (pos n), p + 1 + length (uleb_spelling n))
unfolding instruction_at operands extended
offset_read part stop p n rest small here =
    rw (in_byte part stop p 0x0e (uleb_spelling n ++ rest) here)
    (ap (λ r. r >>= (λ x. Ok (set_cfa_offset x.0, x.1))) (plain_offset part stop (p + 1) n rest small (next part stop p (0x0e ∷ []) (uleb_spelling n ++ rest) here)))

-- the factored offset of a place at or below the CFA
slot_factored : (z : ℤ) → IsSlot z → pos (unsigned_abs z / 8) *ℤ negsuc 7 ≡ z
slot_factored (pos n) none = let k : n / 8 ≡ 0 = omega (arith, none) in ap (λ m. pos m *ℤ negsuc 7) k ∙ zero-*ℤ (negsuc 7) ∙ ap pos (sym none)
slot_factored (negsuc n) even =
    let k : suc n / 8 * 8 ≡ suc n = omega (arith, even) in
    pos-*ℤ-negsuc (suc n / 8) 7 ∙ ap (λ m. neg_ℤ (pos m)) k

abs_small : (z : ℤ) → is_i64 z ≡ true → unsigned_abs z / 8 < 2 ^ 64
abs_small (pos n) e = let lt : n < 2 ^ 63 = grind (arith, nat_tests, e) in omega (arith, lt)
abs_small (negsuc n) e = let lt : n < 2 ^ 63 = grind (arith, nat_tests, e) in omega (arith, lt)

saved_read : (part : Part) (stop p r : ℕ) (z : ℤ) (rest : List ℕ) → r < 64 → IsSlot z → is_i64 z ≡ true →
    From part stop p ((128 + r % 64) ∷ (uleb_spelling (unsigned_abs z / 8) ++ rest)) →
    instruction_at the_coding part stop p ≡ Ok (set_rule r (rules.Offset z), p + 1 + length (uleb_spelling (unsigned_abs z / 8)))
unfolding instruction_at operands unsigned_offset
saved_read part stop p r z rest few slot fits here =
    let k = unsigned_abs z / 8 in
    let high : (128 + r % 64) / 64 ≡ 2 = omega (arith, few) in
    let low : (128 + r % 64) % 64 ≡ r = omega (arith, few) in
    rw (in_byte part stop p (128 + r % 64) (uleb_spelling k ++ rest) here)
    (rw (high, low)
    (rw (in_uleb part stop (p + 1) k rest (abs_small z fits) (next part stop p ((128 + r % 64) ∷ []) (uleb_spelling k ++ rest) here))
    (rw (slot_factored z slot) (rw fits refl))))

undefined_read : (part : Part) (stop p r : ℕ) (rest : List ℕ) → r < 64 → From part stop p (0x07 ∷ (uleb_spelling r ++ rest)) →
    instruction_at the_coding part stop p ≡ Ok (set_rule r rules.Undefined, p + 1 + length (uleb_spelling r))
unfolding instruction_at operands extended register_at
undefined_read part stop p r rest few here =
    let known : nat_lt r 64 ≡ true = grind (arith, nat_tests, few) in
    rw (in_byte part stop p 0x07 (uleb_spelling r ++ rest) here)
    (rw (in_uleb part stop (p + 1) r rest (omega (arith, few)) (next part stop p (0x07 ∷ []) (uleb_spelling r ++ rest) here)) (rw known refl))

pub nop_read : (c : Coding) (part : Part) (stop p : ℕ) (rest : List ℕ) → From part stop p (0 ∷ rest) → instruction_at c part stop p ≡ Ok (nop, p + 1)
unfolding instruction_at operands extended
nop_read c part stop p rest here = rw (in_byte part stop p 0 rest here) refl

-- what a change is
abbrev pub change_instruction : FrameChange → Instruction
change_instruction (Cfa n) = set_cfa_offset n
change_instruction (Saved r n) = set_rule r (rules.Offset n)
change_instruction (Undefined r) = set_rule r rules.Undefined

pub change_read : (part : Part) (stop p : ℕ) (change : FrameChange) (rest : List ℕ) → ChangeIsGood change → HasOffset change → From part stop p (change_bytes change ++ rest) →
    instruction_at the_coding part stop p ≡ Ok (change_instruction change, p + length (change_bytes change))
change_read part stop p (Cfa (pos n)) rest good words here =
    offset_read part stop p n rest good here ∙ ap (λ q. Ok (set_cfa_offset (pos n), q)) (let e : p + 1 + length (uleb_spelling n) ≡ p + suc (length (uleb_spelling n)) = omega arith in e)
change_read part stop p (Cfa (negsuc n)) rest good words here = absurd good
change_read part stop p (Saved r z) rest good words here =
    let k = unsigned_abs z / 8 in
    saved_read part stop p r z rest good.0 good.1 words here ∙
    ap (λ q. Ok (set_rule r (rules.Offset z), q)) (let e : p + 1 + length (uleb_spelling k) ≡ p + suc (length (uleb_spelling k)) = omega arith in e)
change_read part stop p (Undefined r) rest good words here =
    undefined_read part stop p r rest good here ∙ ap (λ q. Ok (set_rule r rules.Undefined, q)) (let e : p + 1 + length (uleb_spelling r) ≡ p + suc (length (uleb_spelling r)) = omega arith in e)

-- over so many instructions, which are none at 0
abbrev pub advance_list : ℕ → List Instruction
advance_list steps = if steps == 0 then [] else advance (steps * 4) ∷ []

abbrev pub moves_list : ℕ → List FrameMove → List Instruction
moves_list location [] = []
moves_list location (m ∷ ms) = advance_list ((m.location - location) / 4 % 2 ^ 32) ++ change_instruction m.change ∷ moves_list m.location ms

-- an instruction that remembers no state, before a stop
step_read : (c : Coding) (part : Part) (stop p n after : ℕ) (i : Instruction) → p < stop → instruction_at c part stop p ≡ Ok (i, after) → states_after i 0 ≡ Some 0 →
    instructions_within (suc n) c part stop p 0 ≡ and_instructions i (instructions_within n c part stop after 0)
unfolding instructions_within
step_read c part stop p n after i more read none =
    let test : nat_lt p stop ≡ true = grind (arith, nat_tests, more) in
    ap (λ b. instructions_from b (part.file_at + p) 0 (instruction_at c part stop p) (instructions_within n c part stop)) test ∙
    ap (λ r. instructions_from true (part.file_at + p) 0 r (instructions_within n c part stop)) read ∙
    ap (λ s. instructions_after (part.file_at + p) i s (instructions_within n c part stop after)) none

ends_read : (c : Coding) (part : Part) (stop n : ℕ) → instructions_within n c part stop stop 0 ≡ Ok (record { list = []; states = 0 })
unfolding instructions_within
ends_read c part stop zero = refl
ends_read c part stop (suc n) =
    let test : nat_lt stop stop ≡ false = grind (arith, nat_tests) in
    ap (λ b. instructions_from b (part.file_at + stop) 0 (instruction_at c part stop stop) (instructions_within n c part stop)) test

-- with so much fuel, what is read begins with the instruction
pub begins : (c : Coding) (part : Part) (stop p n after : ℕ) (i : Instruction) (is : List Instruction) → p < stop → stop ≤ p + n → p < after →
    instruction_at c part stop p ≡ Ok (i, after) → states_after i 0 ≡ Some 0 →
    ((k : ℕ) → stop ≤ after + k → instructions_within k c part stop after 0 ≡ Ok (record { list = is; states = 0 })) →
    instructions_within n c part stop p 0 ≡ Ok (record { list = i ∷ is; states = 0 })
begins c part stop p zero after i is more fuel on read none rest = absurd (omega (arith, more, fuel))
begins c part stop p (suc n) after i is more fuel on read none rest =
    step_read c part stop p n after i more read none ∙ ap (and_instructions i) (rest n (omega (arith, fuel, on)))

-- nops up to the stop
pub nops_read : (c : Coding) (part : Part) (stop p n k : ℕ) → From part stop p (replicate k 0) → stop ≡ p + k → stop ≤ p + n →
    instructions_within n c part stop p 0 ≡ Ok (record { list = replicate k nop; states = 0 })
nops_read c part stop p n zero here ends fuel =
    let there : p ≡ stop = omega (arith, ends) in
    ap (λ q. instructions_within n c part stop q 0) there ∙ ends_read c part stop n
nops_read c part stop p n (suc k) here ends fuel =
    begins c part stop p n (p + 1) nop (replicate k nop) (omega (arith, ends)) fuel (omega arith) (nop_read c part stop p (replicate k 0) here) refl
    (λ m enough. nops_read c part stop (p + 1) m k (next part stop p (0 ∷ []) (replicate k 0) here) (omega (arith, ends)) enough)

change_states : (change : FrameChange) → states_after (change_instruction change) 0 ≡ Some 0
change_states (Cfa n) = refl
change_states (Saved r n) = refl
change_states (Undefined r) = refl

some_bytes : (change : FrameChange) → 0 < length (change_bytes change)
some_bytes (Cfa n) = omega arith
some_bytes (Saved r n) = omega arith
some_bytes (Undefined r) = omega arith

-- the changes, and nops up to the stop
pub moves_read : (part : Part) (stop p n location k : ℕ) (ms : List FrameMove) → AllByRecursion (λ m. ChangeIsGood m.change) ms → AllByRecursion (λ m. HasOffset m.change) ms →
    From part stop p (moves_bytes location ms ++ replicate k 0) → stop ≡ p + length (moves_bytes location ms ++ replicate k 0) → stop ≤ p + n →
    instructions_within n the_coding part stop p 0 ≡ Ok (record { list = moves_list location ms ++ replicate k nop; states = 0 })
moves_read part stop p n location k [] good words here ends fuel =
    let long : length {A = ℕ} (replicate k 0) ≡ k = length-replicate k 0 in
    nops_read the_coding part stop p n k here (omega (arith, ends, long)) fuel
moves_read part stop p n location k (m ∷ ms) good words here ends fuel =
    by_steps (steps == 0) refl (λ q j from at enough. moves_read part stop q j m.location k ms good.1 words.1 from at enough)
  where
    steps : ℕ
    steps = (m.location - location) / 4 % 2 ^ 32

    change : List ℕ
    change = change_bytes m.change

    others : List ℕ
    others = moves_bytes m.location ms ++ replicate k 0

    Others : Type 0
    Others = (q j : ℕ) → From part stop q others → stop ≡ q + length others → stop ≤ q + j →
        instructions_within j the_coding part stop q 0 ≡ Ok (record { list = moves_list m.location ms ++ replicate k nop; states = 0 })

    -- the change at a place behind what moves the location
    changes : (q j : ℕ) → From part stop q (change ++ others) → stop ≡ q + length (change ++ others) → stop ≤ q + j → Others →
        instructions_within j the_coding part stop q 0 ≡ Ok (record { list = change_instruction m.change ∷ (moves_list m.location ms ++ replicate k nop); states = 0 })
    changes q j from at enough rest =
        let some = some_bytes m.change in
        let long = length-append change others in
        begins the_coding part stop q j (q + length change) (change_instruction m.change) (moves_list m.location ms ++ replicate k nop)
        (omega (arith, at, some, long)) enough (omega (arith, some)) (change_read part stop q m.change others good.0 words.0 from) (change_states m.change)
        (λ i more. rest (q + length change) i (next part stop q change others from) (omega (arith, at, long)) more)

    by_size : (b : Bool) → nat_lt steps 64 ≡ b → (steps == 0) ≡ false →
        From part stop p (((if b then (64 + steps) ∷ [] else 0x04 ∷ to_le_bytes w32 steps) ++ change ++ moves_bytes m.location ms) ++ replicate k 0) →
        stop ≡ p + length (((if b then (64 + steps) ∷ [] else 0x04 ∷ to_le_bytes w32 steps) ++ change ++ moves_bytes m.location ms) ++ replicate k 0) → Others →
        instructions_within n the_coding part stop p 0 ≡ Ok (record { list = advance (steps * 4) ∷ change_instruction m.change ∷ (moves_list m.location ms ++ replicate k nop); states = 0 })
    by_size true few some from at rest =
        let x : List ℕ = (64 + steps) ∷ [] in
        let whole : (x ++ change ++ moves_bytes m.location ms) ++ replicate k 0 ≡ x ++ (change ++ others) =
        append_assoc (x ++ change) (moves_bytes m.location ms) (replicate k 0) ∙ append_assoc x change others in
        let there = from ∙ whole in
        let long : stop ≡ p + (1 + length (change ++ others)) = at ∙ ap (λ ys. p + length ys) whole ∙ (let e : p + suc (length (change ++ others)) ≡ p + (1 + length (change ++ others)) = omega arith in e) in
        let lt : steps < 64 = grind (arith, nat_tests, few) in
        begins the_coding part stop p n (p + 1) (advance (steps * 4)) (change_instruction m.change ∷ (moves_list m.location ms ++ replicate k nop))
        (omega (arith, long)) fuel (omega arith) (short_advance part stop p steps (change ++ others) lt there) refl
        (λ i more. changes (p + 1) i (next part stop p x (change ++ others) there) (omega (arith, long)) more rest)
    by_size false many some from at rest =
        let x : List ℕ = 0x04 ∷ to_le_bytes w32 steps in
        let whole : (x ++ change ++ moves_bytes m.location ms) ++ replicate k 0 ≡ x ++ (change ++ others) =
        append_assoc (x ++ change) (moves_bytes m.location ms) (replicate k 0) ∙ append_assoc x change others in
        let there = from ∙ whole in
        let long : stop ≡ p + (5 + length (change ++ others)) =
        at ∙ ap (λ ys. p + length ys) whole ∙ ap (λ j. p + j) (length-append x (change ++ others)) in
        begins the_coding part stop p n (p + 5) (advance (steps * 4)) (change_instruction m.change ∷ (moves_list m.location ms ++ replicate k nop))
        (omega (arith, long)) fuel (omega arith) (long_advance part stop p steps (change ++ others) (omega arith) there) refl
        (λ i more. changes (p + 5) i (next part stop p x (change ++ others) there) (omega (arith, long)) more rest)

    by_steps : (b : Bool) → (steps == 0) ≡ b → Others → instructions_within n the_coding part stop p 0 ≡ Ok (record { list = moves_list location (m ∷ ms) ++ replicate k nop; states = 0 })
    by_steps true none rest =
        let whole : moves_bytes location (m ∷ ms) ++ replicate k 0 ≡ change ++ others =
        ap (λ b. ((if b then [] else if nat_lt steps 64 then (64 + steps) ∷ [] else 0x04 ∷ to_le_bytes w32 steps) ++ change ++ moves_bytes m.location ms) ++ replicate k 0) none ∙
        append_assoc change (moves_bytes m.location ms) (replicate k 0) in
        changes p n (here ∙ whole) (ends ∙ ap (λ ys. p + length ys) whole) fuel rest ∙
        ap (λ b. Ok (record { list = ((if b then [] else advance (steps * 4) ∷ []) ++ change_instruction m.change ∷ moves_list m.location ms) ++ replicate k nop; states = 0 })) (sym none)
    by_steps false some rest =
        let whole : moves_bytes location (m ∷ ms) ++ replicate k 0 ≡
        ((if nat_lt steps 64 then (64 + steps) ∷ [] else 0x04 ∷ to_le_bytes w32 steps) ++ change ++ moves_bytes m.location ms) ++ replicate k 0 =
        ap (λ b. ((if b then [] else if nat_lt steps 64 then (64 + steps) ∷ [] else 0x04 ∷ to_le_bytes w32 steps) ++ change ++ moves_bytes m.location ms) ++ replicate k 0) some in
        by_size (nat_lt steps 64) refl some (here ∙ whole) (ends ∙ ap (λ ys. p + length ys) whole) rest ∙
        ap (λ b. Ok (record { list = ((if b then [] else advance (steps * 4) ∷ []) ++ change_instruction m.change ∷ moves_list m.location ms) ++ replicate k nop; states = 0 })) (sym some)
