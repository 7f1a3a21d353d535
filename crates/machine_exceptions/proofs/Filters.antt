-- A jump on a filter is matched.
use Rattle.std.proofs.Common.{◌≡◌, ◌∙◌, refl, sym, ap, ap₂, subst, arith, ℕ, ◌+◌, ◌^◌, ◌<◌, ◌≤◌, ◌==◌, not, Bool, true, false, ℤ, List, [], ◌++◌, length, length-append, Some}
use Rattle.std.specs.Prelude.{if◌then◌else◌}
use Rattle.meaning_forms.specs.Arithmetic.{int_equal}
use Rattle.rv64_isa.specs.declared.instr.Instr.TheVariants.{Bne}
use Rattle.rv64_isa.specs.State.{State, state}
use Rattle.rv64_isa.specs.Step.{x, branches}
use Rattle.region_forms.specs.Form.{SlotKind, int_slot, address_slot, object_slot, help_slot, Value, number, load, in_slot}
use Rattle.region_forms.specs.WellFormed.{is_variable}
use Rattle.region_forms.specs.World.{number_word, number_in, Frame, World}
use Rattle.region_forms.specs.Evaluation.{read_location, slot_location}
use Rattle.linear_forms.specs.Linear.{jump_filter}
use Rattle.linear_forms.specs.Tables.{label_place}
use Rattle.linear_forms.specs.Activation.{State as LinearState, goes_to, place_of, on, at}
use Rattle.linear_forms.specs.Operation.{holds_number, jumped}
use Rattle.linear_forms.specs.UnitRun.{code_of}
use Rattle.machine_forms.specs.Registers.{sp, a0, a1, register}
use Rattle.machine_forms.specs.Piece.{Piece, instruction, jump_to}
use Rattle.machine_forms.specs.ValueCode.{value_code}
use Rattle.machine_forms.specs.LinearCode.{jump_same}
use Rattle.machine_forms.specs.Routine.{op_word}
use Rattle.machine_pieces.specs.Executes.{Executes}
use Rattle.machine_pieces.specs.Standing.{Ground, address, PieceAt, PiecesAt}
use Rattle.machine_pieces.specs.Frames.{SlotFits}
use Rattle.machine_pieces.proofs.Numbers.{same_extended}
use Rattle.machine_pieces.proofs.Fetching.{pieces_split}
use Rattle.machine_pieces.proofs.Stepping.{steps_then}
use Rattle.machine_pieces.proofs.Going.{kept_low}
use Rattle.machine_pieces.proofs.Branching.{branch_taken, branch_passed}
use Rattle.machine_pieces.proofs.Values.{both, bne_done, code_after}
use Rattle.machine_pieces.specs.Keeping.{saved_of}
use Rattle.machine_simulation.specs.Plan.{Plan, function, shape, slot_kinds, routine, first_word, setting}
use Rattle.machine_simulation.specs.Matches.{Matches}
use Rattle.machine_simulation.specs.Operations.{Matched}
use Rattle.machine_simulation.specs.Steps.{StepAt}
use Rattle.machine_simulation.proofs.Words.{OperationAt, operation_at}
use Rattle.machine_simulation.proofs.Matching.{Stands, stands_by, ready_here, some_steps, Arrives, matched, memory_at, kept_at, values_saved}
use Rattle.machine_simulation.proofs.Quiet.{moved, step_is}
use Rattle.machine_simulation.proofs.Operations.{jump_goes}
use Rattle.machine_exceptions.specs.Filters.{FiltersRun}
use Rattle.machine_exceptions.proofs.Forced.{in_place, in_place_serves}

slot_fits : (k : SlotKind) → SlotFits k 0
slot_fits int_slot = tt
slot_fits address_slot = refl
slot_fits object_slot = tt
slot_fits help_slot = refl

slot_read : (k : SlotKind) (frame : Frame) (v : World) (s : ℕ) (z : ℤ) → is_variable k ≡ false → frame.slots s ≡ number_word z → read_location frame v (slot_location k frame.call s 0) ≡ Some z
slot_read int_slot frame v s z plain is = absurd (cc plain)
slot_read address_slot frame v s z plain is = ap number_in is
slot_read object_slot frame v s z plain is = absurd (cc plain)
slot_read help_slot frame v s z plain is = ap number_in is

-- where control goes
abbrev goes_on_at : Plan → ℕ → ℕ → LinearState → Bool → ℕ
goes_on_at p n l st same = if same then label_place (function p n).ops l 0 else st.top.place + 1

filter_step : (p : Plan) (n s l : ℕ) (filter selector : ℤ) (st next : LinearState) → StepAt p st next n (jump_filter s filter l) → st.top.frame.slots s ≡ number_word selector →
    moved st (goes_on_at p n l st (int_equal selector filter)) st.top.frame st.world ≡ next
filter_step p n s l filter selector st next h is =
    let code = code_of p.unit in
    let whole : (if int_equal selector filter then jumped code l st.top st.frames st.world else on st.top st.top.frame st.frames st.world) ≡ goes_to next
    = ap (λ k. if holds_number k filter then jumped code l st.top st.frames st.world else on st.top st.top.frame st.frames st.world) (sym is) ∙ sym (step_is p n st (jump_filter s filter l) h.runs h.there) ∙ h.step in
    by (int_equal selector filter) whole
  where
    by : (b : Bool) → (if b then jumped (code_of p.unit) l st.top st.frames st.world else on st.top st.top.frame st.frames st.world) ≡ goes_to next → moved st (goes_on_at p n l st b) st.top.frame st.world ≡ next
    by true e =
        let whole : goes_to (moved st (label_place (function p n).ops l 0) st.top.frame st.world) ≡ goes_to next
        = sym (ap (λ f. at st.top.function (place_of (code_of p.unit) f l) st.top.frame st.frames st.world) h.runs) ∙ e in
        cc whole
    by false e = cc e

pub filters_run : FiltersRun
filters_run image p n s l filter selector st next w h at ok is int =
    let stood = stands_by p n st w h at.runs in
    let g : Ground = (setting p n).ground in
    let here : ℕ = first_word p n + op_word (routine p n) st.top.place in
    let s0 : State = w.hart in
    let slot : Value = load (record { root = in_slot s; offset = 0 }) in
    let front : List Piece = value_code (shape p n) (register 0) 0 slot ++ value_code (shape p n) (register 1) 1 (number filter) in
    let rear : List Piece = jump_same a0 a1 l in
    let own : OperationAt p s0.memory n st.top.place (front ++ rear) = operation_at p s0.memory n st.top.place (jump_filter s filter l) stood.memory.unit stood.memory.top.known at.there in
    let sum : length (front ++ rear) ≡ length front + 2 = length-append front rear in
    let short : length front < 2 ^ 18 = omega (arith, own.inside, sum, stood.memory.unit.short n stood.memory.top.known) in
    let parts = pieces_split s0.memory g here front rear own.code in
    let ready = ready_here p n st w h.back stood in
    let near = ok.near in
    let loaded = in_place_serves (setting p n) (shape p n) (slot_kinds p n) st.top.frame st.world slot selector ((ok.inside, omega (arith, near), slot_fits (slot_kinds p n s), λ r e. refl), tt) (slot_read (slot_kinds p n s) st.top.frame st.world s selector ok.plain is) in
    let set = in_place_serves (setting p n) (shape p n) (slot_kinds p n) st.top.frame st.world (number filter) filter int refl in
    let two = both (setting p n) (shape p n) (slot_kinds p n) st.top.frame st.world (in_place (shape p n) slot) (in_place (shape p n) (number filter)) 1 1 selector filter loaded set 0 here s0
    (omega arith) (omega arith) (omega arith) short parts.0 h_pc ready in
    let m : State = two.goes.after in
    let code_m = code_after g here (length front) 0 (here + length front) rear s0 two.goes parts.1 in
    let same : (x m a0 == x m a1) ≡ int_equal selector filter = ap₂ (λ a b. a == b) two.first two.second ∙ same_extended selector filter two.first_int two.second_int in
    let stack : x m sp ≡ x s0 sp = two.goes.kept sp (kept_low 0 sp (omega arith)) in
    subst (λ (y : LinearState). Matched image (length (front ++ rear)) w [] (λ v. Matches p y v)) (filter_step p n s l filter selector st next at is)
    (by (int_equal selector filter) stood m stack (values_saved s0 m two.goes.kept) code_m same two.goes.steps two.goes.most two.goes.runs two.goes.pc two.goes.memory two.goes.registers own sum)
  where
    h_pc : w.hart.pc ≡ address (setting p n).ground (first_word p n + op_word (routine p n) st.top.place)
    h_pc = (stands_by p n st w h at.runs).pc

    by : (b : Bool) → Stands p n st w h.back → (m : State) → x m sp ≡ x w.hart sp → saved_of m ≡ saved_of w.hart → let front = value_code (shape p n) (register 0) 0 (load (record { root = in_slot s; offset = 0 })) ++ value_code (shape p n) (register 1) 1 (number filter) in
        let here = first_word p n + op_word (routine p n) st.top.place in PiecesAt m.memory (setting p n).ground (here + length front) (jump_same a0 a1 l) → (x m a0 == x m a1) ≡ b → (steps : ℕ) → steps ≤ length front → Executes steps w.hart m →
        m.pc ≡ address (setting p n).ground (here + length front) → m.memory ≡ w.hart.memory → length m.regs ≡ 32 → OperationAt p w.hart.memory n st.top.place (front ++ jump_same a0 a1 l) → length (front ++ jump_same a0 a1 l) ≡ length front + 2 →
        Matched image (length (front ++ jump_same a0 a1 l)) w [] (λ v. Matches p (moved st (goes_on_at p n l st b) st.top.frame st.world) v)
    by false stood m stack saved code same steps most runs pc memory regs own sum =
        let front : List Piece = value_code (shape p n) (register 0) 0 (load (record { root = in_slot s; offset = 0 })) ++ value_code (shape p n) (register 1) 1 (number filter) in
        let here : ℕ = first_word p n + op_word (routine p n) st.top.place in
        let taken = branch_taken (setting p n).ground (here + length front) 0 (instruction (Bne a0 a1 4)) (jump_to l) m code.0 code.1.0 pc regs (bne_done a0 a1 4 m ∙ ap (λ c. branches m (not c) 4) same) in
        let u : State = taken.after in
        let to : LinearState = moved st (st.top.place + 1) st.top.frame st.world in
        let there : Arrives p n to h.back u = record {
          runs = at.runs;
          registers = taken.registers;
          pc = taken.pc ∙ omega (arith, own.next, sum);
          memory = memory_at p n to h.back (x w.hart sp) w.hart.memory u (taken.memory ∙ memory) (taken.kept sp (kept_low 0 sp (omega arith)) ∙ stack) stood.memory;
          kept = kept_at p n to (x w.hart sp) w.hart.memory (saved_of w.hart) u (taken.memory ∙ memory) (taken.kept sp (kept_low 0 sp (omega arith)) ∙ stack) (values_saved m u taken.kept ∙ saved) stood.kept;
        } in
        matched image p n to w h.back (length (front ++ jump_same a0 a1 l)) (steps + taken.steps) u (omega (arith, most, taken.most, sum)) (λ words. some_taken taken.steps u taken.runs taken.pc pc)
        (steps_then steps taken.steps w.hart m u runs taken.runs) there stood.runtime
      where
        some_taken : (k : ℕ) (u : State) → Executes k m u → u.pc ≡ address (setting p n).ground (first_word p n + op_word (routine p n) st.top.place + length (value_code (shape p n) (register 0) 0 (load (record { root = in_slot s; offset = 0 })) ++ value_code (shape p n) (register 1) 1 (number filter)) + 2) →
            m.pc ≡ address (setting p n).ground (first_word p n + op_word (routine p n) st.top.place + length (value_code (shape p n) (register 0) 0 (load (record { root = in_slot s; offset = 0 })) ++ value_code (shape p n) (register 1) 1 (number filter))) → 0 < steps + k
        some_taken k u ran to from = omega (arith, some_steps (setting p n).ground (first_word p n + op_word (routine p n) st.top.place + length (value_code (shape p n) (register 0) 0 (load (record { root = in_slot s; offset = 0 })) ++ value_code (shape p n) (register 1) 1 (number filter))) 2 k m u from to ran (omega arith))
    by true stood m stack saved code same steps most runs pc memory regs own sum =
        let front : List Piece = value_code (shape p n) (register 0) 0 (load (record { root = in_slot s; offset = 0 })) ++ value_code (shape p n) (register 1) 1 (number filter) in
        let here : ℕ = first_word p n + op_word (routine p n) st.top.place in
        let g : Ground = (setting p n).ground in
        let place : ℕ = label_place (function p n).ops l 0 in
        let passed = branch_passed g (here + length front) 0 (instruction (Bne a0 a1 4)) m code.0 pc regs (bne_done a0 a1 4 m ∙ ap (λ c. branches m (not c) 4) same) in
        let m2 : State = passed.after in
        let memory2 = passed.memory ∙ memory in
        let jump2 : PieceAt m2.memory g (here + length front + 1) (jump_to l) = subst (λ ps. PieceAt ps g (here + length front + 1) (jump_to l)) (sym passed.memory) code.1.0 in
        let u : State = state (address g (first_word p n + op_word (routine p n) place)) m2.regs m2.memory in
        let last = jump_goes p n st w h.back l (here + length front + 1) (length front + 1) m2 stood memory2 jump2 passed.pc (omega arith) (omega (arith, own.inside, sum)) in
        let to : LinearState = moved st place st.top.frame st.world in
        let there : Arrives p n to h.back u = record {
          runs = at.runs;
          registers = passed.registers;
          pc = refl;
          memory = memory_at p n to h.back (x w.hart sp) w.hart.memory u memory2 (passed.kept sp (kept_low 0 sp (omega arith)) ∙ stack) stood.memory;
          kept = kept_at p n to (x w.hart sp) w.hart.memory (saved_of w.hart) u memory2 (passed.kept sp (kept_low 0 sp (omega arith)) ∙ stack) (values_saved m m2 passed.kept ∙ saved) stood.kept;
        } in
        matched image p n to w h.back (length (front ++ jump_same a0 a1 l)) (steps + passed.steps + 1) u (omega (arith, most, passed.most, sum)) (λ words. omega arith)
        (steps_then (steps + passed.steps) 1 w.hart m2 u (steps_then steps passed.steps w.hart m m2 runs passed.runs) last) there stood.runtime
