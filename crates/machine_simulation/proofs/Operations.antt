-- Each operation that calls nothing is matched.
use Rattle.std.proofs.Common.{◌≡◌, ◌∙◌, refl, sym, ap, subst, arith, ℕ, ◌+◌, ◌%◌, ◌^◌, ◌<◌, ◌≤◌, List, [], ◌∷◌, ◌++◌, length, length-append, Option, Some, None}
use Rattle.std.specs.Prelude.{Bool, true, false, slice_get, slice_set, if◌then◌else◌}
use Rattle.std.proofs.lemmas.Bool.{eq-eqb}
use Rattle.meaning_forms.specs.Arithmetic.{is_zero}
use Rattle.rv64_isa.specs.declared.step.Step.TheVariants.{Done}
use Rattle.rv64_isa.specs.declared.instr.Instr.TheVariants.{Sd}
use Rattle.rv64_isa.specs.Arithmetic.{add}
use Rattle.rv64_isa.specs.State.{State, state, with_value}
use Rattle.rv64_isa.specs.Step.{step_of, next as next_pc, stores, x, imm12, done}
use Rattle.cxa_runtime.specs.World as abi
use Rattle.cxa_runtime.specs.Raising.{Image}
use Rattle.region_forms.specs.Form.{Place, Value, evaluate, store, bind}
use Rattle.region_forms.specs.World.{of_variable, Address, with_slot, address_word}
use Rattle.region_forms.specs.Evaluation.{in_memory}
use Rattle.region_forms.specs.Effect.{stored_at}
use Rattle.linear_forms.specs.Linear.{LinearOp, plain, label, jump, jump_zero}
use Rattle.linear_forms.specs.Tables.{label_place}
use Rattle.linear_forms.specs.Activation.{State as LinearState, goes_to}
use Rattle.linear_forms.specs.Machine.{step}
use Rattle.linear_forms.specs.UnitRun.{code_of}
use Rattle.machine_forms.specs.Registers.{sp, a0, register}
use Rattle.machine_forms.specs.Piece.{Piece, jump_to}
use Rattle.machine_forms.specs.Shape.{Shape, slot_offset}
use Rattle.machine_forms.specs.PlaceCode.{within, place_address, place_stored, slot_stored}
use Rattle.machine_forms.specs.ValueCode.{read_in, brought, operand, test_code}
use Rattle.machine_forms.specs.KeptCode.{root_register}
use Rattle.machine_forms.specs.OperationCode.{whole_register, value_kept, value_stored}
use Rattle.machine_forms.specs.LinearCode.{linear_code}
use Rattle.machine_forms.specs.Routine.{op_word, routine_words}
use Rattle.machine_forms.proofs.Words.{words_stand}
use Rattle.machine_pieces.specs.Executes.{Executes}
use Rattle.machine_pieces.specs.Keeping.{saved_of}
use Rattle.machine_pieces.specs.Memory.{MayWrite}
use Rattle.machine_pieces.specs.Numbers.{extended}
use Rattle.machine_pieces.specs.Standing.{Ground, address, PieceAt}
use Rattle.machine_pieces.specs.Going.{Goes}
use Rattle.machine_pieces.specs.Frames.{Setting, byte_of, location_byte}
use Rattle.machine_pieces.specs.Laws.{PlacesAreWritten, AddressesAreComputed}
use Rattle.machine_pieces.proofs.Storing.{stores_done}
use Rattle.machine_pieces.proofs.Fetching.{piece_done, pieces_split}
use Rattle.machine_pieces.proofs.Stepping.{one_step, no_steps, steps_then}
use Rattle.machine_pieces.proofs.Going.{next_is, kept_low}
use Rattle.machine_pieces.proofs.Keeping.{register_is, kept_saved, may_saved, same_saved}
use Rattle.machine_pieces.proofs.Places.{near_address}
use Rattle.machine_pieces.proofs.Values.{ready_after, code_after}
use Rattle.machine_pieces.proofs.Testing.{values_are_computed}
use Rattle.machine_pieces.proofs.Framing.{label_jumps}
use Rattle.machine_simulation.specs.Plan.{Plan, function, shape, slot_kinds, routine, first_word, setting}
use Rattle.machine_simulation.specs.Calls.{HeldBy}
use Rattle.machine_simulation.specs.KeptCalls.{RegistersMatch}
use Rattle.machine_simulation.specs.Matches.{MemoryMatches, Matches}
use Rattle.machine_simulation.specs.Operations.{NoCall, IsQuiet, OperationStands, Matched}
use Rattle.machine_simulation.specs.Laws.{OperationsRun}
use Rattle.machine_simulation.proofs.Words.{OperationAt, operation_at, place_below}
use Rattle.machine_simulation.proofs.Holding.{MayHold, location_may, location_matches, slot_may, slot_place, address_matches}
use Rattle.machine_simulation.proofs.Matching.{Stands, stands_by, ready_here, some_steps, Arrives, matched, memory_at, kept_at, values_saved}
use Rattle.machine_simulation.proofs.Asked.{operation_stands}
use Rattle.machine_simulation.proofs.KeptPlaces.{kept_place}
use Rattle.machine_simulation.proofs.KeptStores.{slot_kept, location_kept, register_matches, register_kept, register_set}
use Rattle.machine_simulation.proofs.Stored.{stored_there}
use Rattle.machine_simulation.proofs.Taken.{free_at}
use Rattle.machine_simulation.proofs.Held.{address_held, address_below}
use Rattle.machine_simulation.proofs.Quiet.{moved, plain_whole, plain_register, plain_dropped, plain_needs, store_step, bind_step, value_step, jump_step, label_step, test_step, runtime_stored}

-- the first word of the next operation
abbrev pub word_here : Plan → ℕ → LinearState → ℕ
word_here p n st = first_word p n + op_word (routine p n) st.top.place

abbrev pub IsMatched : Image → Plan → ℕ → LinearOp → LinearState → abi.World → Type 0
IsMatched image p n o next w = Matched image (length (linear_code (shape p n) o)) w [] (λ v. Matches p next v)

short_function : (p : Plan) (n : ℕ) (st : LinearState) (w : abi.World) (back : ℕ) → Stands p n st w back → routine_words (routine p n) < 2 ^ 18
short_function p n st w back h = h.memory.unit.short n h.memory.top.known

here_at : (p : Plan) (n : ℕ) (st : LinearState) (w : abi.World) (back : ℕ) (o : LinearOp) → Stands p n st w back → slice_get (function p n).ops st.top.place ≡ Some o →
    OperationAt p w.hart.memory n st.top.place (linear_code (shape p n) o)
here_at p n st w back o h there = operation_at p w.hart.memory n st.top.place o h.memory.unit h.memory.top.known there

-- ---- a value is stored

-- in memory
memory_runs : PlacesAreWritten → (image : Image) (p : Plan) (n : ℕ) (st next : LinearState) (w : abi.World) (back : ℕ) (q : Place) (v : Value) → Stands p n st w back →
    slice_get (function p n).ops st.top.place ≡ Some (plain (store q v)) → NoCall v → OperationStands p n st.top.frame st.world (plain (store q v)) → step (code_of p.unit) st ≡ goes_to next →
    root_register (shape p n) q.root ≡ None → IsMatched image p n (plain (store q v)) next w
memory_runs places image p n st next w back q v h there no_call stands e none =
    let t : Setting = setting p n in
    let f : Shape = shape p n in
    let g : Ground = t.ground in
    let here : ℕ = word_here p n st in
    let s : State = w.hart in
    let r : ℕ = read_in (operand f v) 0 in
    let front : List Piece = brought (operand f v) 0 in
    let rear : List Piece = place_stored f r (register 1) q in
    let code_is : linear_code f (plain (store q v)) ≡ front ++ rear
    = ap (λ o. value_stored f o q v) none ∙ ap (λ c. c ++ place_stored f (whole_register f v) (register 1) q) (plain_whole f v no_call) ∙ ap (λ y. front ++ place_stored f y (register 1) q) (plain_register f v no_call) in
    let stood = here_at p n st w back (plain (store q v)) h there in
    let own : OperationAt p s.memory n st.top.place (front ++ rear) = subst (OperationAt p s.memory n st.top.place) code_is stood in
    let sum = length-append front rear in
    let short : length front < 2 ^ 18 = omega (arith, own.inside, sum, short_function p n st w back h) in
    let parts = pieces_split s.memory g here front rear own.code in
    let went = store_step p n st next v q h.runs there no_call e in
    let ready = ready_here p n st w back h in
    let few = h.memory.unit.registers n st.top.place (plain (store q v)) there in
    let value = values_are_computed.reads t f (slot_kinds p n) st.top.frame st.world v went.value 0 here s stands.0 went.value_is (plain_needs v no_call few) short parts.0 h.pc ready in
    let m : State = value.goes.after in
    let stack : x m sp ≡ x s sp = value.goes.kept sp (kept_low 0 sp (omega arith)) in
    let ready_m = ready_after t f (slot_kinds p n) st.top.frame st.world here (length front) 0 s value.goes ready in
    let ok = stands.1.1 none went.location went.located in
    let place : ℕ = location_byte t f (x s sp) went.location in
    let at_m : location_byte t f (x m sp) went.location ≡ place = ap (λ a. location_byte t f a went.location) stack in
    let may = location_may p n st.top.frame st.frames st.world s.memory (x s sp) back went.location h.memory ok in
    let may_m : MayHold m.memory (location_byte t f (x m sp) went.location)
    = subst (MayHold m.memory) (sym at_m) (subst (λ ps. MayHold ps place) (sym value.goes.memory) may) in
    let written = places.place t f (slot_kinds p n) st.top.frame st.world r 1 (here + length front) m went.value q went.location ready_m (values_are_computed.aside f v 0 (omega arith)) (omega arith) stands.1.0
    (code_after g here (length front) 0 (here + length front) rear s value.goes parts.1) value.goes.pc value.is went.located may_m.aligned may_m.below may_m.may in
    let u : State = written.after in
    let k : ℕ = value.goes.steps + written.steps in
    let runs : Executes k s u = steps_then value.goes.steps written.steps s m u value.goes.runs written.runs in
    let to : LinearState = moved st (st.top.place + 1) went.frame went.world in
    let pc : u.pc ≡ address g (first_word p n + op_word (routine p n) (st.top.place + 1)) = written.pc ∙ omega (arith, own.next, sum) in
    let memory : u.memory ≡ with_value s.memory place 4 (extended went.value)
    = written.memory ∙ ap (λ a. with_value m.memory a 4 (extended went.value)) at_m ∙ ap (λ ps. with_value ps place 4 (extended went.value)) value.goes.memory in
    let held = location_matches p n st.top.frame went.frame st.frames st.world went.world s.memory (x s sp) back went.location went.value h.memory value.int ok went.stored in
    let kept = location_kept p n st.top.frame went.frame st.frames st.world went.world s.memory (x s sp) back went.location went.value (saved_of s) h.memory ok went.stored h.kept in
    let stack_u : x u sp ≡ x s sp = written.kept sp (kept_low 1 sp (omega arith)) ∙ stack in
    let saved_u : saved_of u ≡ saved_of s = same_saved m u (λ y is. written.kept y (kept_saved 1 y is)) ∙ values_saved s m value.goes.kept in
    let total : length (front ++ rear) ≡ length (linear_code f (plain (store q v))) = ap length (sym code_is) in
    let there_u : Arrives p n to back u = record {
      runs = h.runs;
      registers = written.registers;
      pc = pc;
      memory = memory_at p n to back (x s sp) (with_value s.memory place 4 (extended went.value)) u memory stack_u held;
      kept = kept_at p n to (x s sp) (with_value s.memory place 4 (extended went.value)) (saved_of s) u memory stack_u saved_u kept;
    } in
    subst (λ y. IsMatched image p n (plain (store q v)) y w) went.next_is
    (matched image p n to w back (length (linear_code f (plain (store q v)))) k u (omega (arith, value.goes.most, written.most, sum, total))
    (some_steps g here (length (linear_code f (plain (store q v)))) k s u h.pc (pc ∙ omega (arith, stood.next)) runs) runs there_u (runtime_stored p st.frames went.location went.value st.top.frame went.frame st.world went.world w went.stored h.runtime))

-- in the register of a kept variable
register_runs : (image : Image) (p : Plan) (n : ℕ) (st next : LinearState) (w : abi.World) (back rd : ℕ) (q : Place) (v : Value) → Stands p n st w back →
    slice_get (function p n).ops st.top.place ≡ Some (plain (store q v)) → NoCall v → OperationStands p n st.top.frame st.world (plain (store q v)) → step (code_of p.unit) st ≡ goes_to next →
    root_register (shape p n) q.root ≡ Some rd → IsMatched image p n (plain (store q v)) next w
register_runs image p n st next w back rd q v h there no_call stands e some =
    let t : Setting = setting p n in
    let f : Shape = shape p n in
    let g : Ground = t.ground in
    let here : ℕ = word_here p n st in
    let s : State = w.hart in
    let code : List Piece = value_kept f rd v in
    let code_is : linear_code f (plain (store q v)) ≡ code = ap (λ o. value_stored f o q v) some in
    let stood = here_at p n st w back (plain (store q v)) h there in
    let own : OperationAt p s.memory n st.top.place code = subst (OperationAt p s.memory n st.top.place) code_is stood in
    let short : length code < 2 ^ 18 = omega (arith, own.inside, short_function p n st w back h) in
    let went = store_step p n st next v q h.runs there no_call e in
    let ready = ready_here p n st w back h in
    let few = h.memory.unit.registers n st.top.place (plain (store q v)) there in
    let root = kept_place p n st.top.frame q rd some stands.1.0 in
    let slot = root.slot in
    let sets = values_are_computed.kept t f (slot_kinds p n) st.top.frame st.world v went.value rd here s stands.0 went.value_is (may_saved rd (register_is f.kept root.number rd root.register)) (omega (arith, plain_needs v no_call few)) short own.code h.pc ready in
    let u : State = sets.puts.after in
    let k : ℕ = sets.puts.steps in
    let at : Address = record { base = of_variable st.top.frame.call root.number; offset = 0 } in
    let same_location : went.location ≡ in_memory at = let both : Some went.location ≡ Some (in_memory at) = sym went.located ∙ root.located in cc both in
    let stored = stored_there at went.value st.top.frame went.frame st.world went.world (ap (λ l. stored_at l went.value st.top.frame st.world) (sym same_location) ∙ went.stored) in
    let to : LinearState = moved st (st.top.place + 1) went.frame went.world in
    let pc : u.pc ≡ address g (first_word p n + op_word (routine p n) (st.top.place + 1)) = sets.puts.pc ∙ omega (arith, own.next) in
    let stack_u : x u sp ≡ x s sp = sets.puts.kept sp (kept_low 0 sp (omega arith)) (λ same. omega (arith, same, (register_is f.kept root.number rd root.register).above)) in
    let saved_u : saved_of u ≡ slice_set (saved_of s) slot.place (extended went.value) = register_set s u slot.place rd (extended went.value) slot.register_is sets.puts.is (λ y is ne. sets.puts.kept y (kept_saved 0 y is) ne) in
    let held = register_matches p n st.top.frame st.frames st.world s.memory (x s sp) back root.number went.value h.memory (h.kept.top.dead root.number rd root.register) in
    let kept = register_kept p n st.top.frame st.frames st.world s.memory (x s sp) back slot.place root.number went.value (saved_of s) h.memory slot.slot_is sets.int refl h.kept in
    let to_held : MemoryMatches p n went.frame st.frames went.world s.memory (x s sp) back
    = subst (λ y. MemoryMatches p n y st.frames went.world s.memory (x s sp) back) stored.1 (subst (λ y. MemoryMatches p n st.top.frame st.frames y s.memory (x s sp) back) stored.2 held) in
    let to_kept : RegistersMatch p n went.frame st.frames went.world s.memory (x s sp) (slice_set (saved_of s) slot.place (extended went.value))
    = subst (λ y. RegistersMatch p n y st.frames went.world s.memory (x s sp) (slice_set (saved_of s) slot.place (extended went.value))) stored.1
    (subst (λ y. RegistersMatch p n st.top.frame st.frames y s.memory (x s sp) (slice_set (saved_of s) slot.place (extended went.value))) stored.2 kept) in
    let total : length code ≡ length (linear_code f (plain (store q v))) = ap length (sym code_is) in
    let there_u : Arrives p n to back u = record {
      runs = h.runs;
      registers = sets.puts.registers;
      pc = pc;
      memory = memory_at p n to back (x s sp) s.memory u sets.puts.memory stack_u to_held;
      kept = kept_at p n to (x s sp) s.memory (slice_set (saved_of s) slot.place (extended went.value)) u sets.puts.memory stack_u saved_u to_kept;
    } in
    subst (λ y. IsMatched image p n (plain (store q v)) y w) went.next_is
    (matched image p n to w back (length (linear_code f (plain (store q v)))) k u (omega (arith, sets.puts.most, total))
    (some_steps g here (length (linear_code f (plain (store q v)))) k s u h.pc (pc ∙ omega (arith, stood.next)) sets.puts.runs) sets.puts.runs there_u
    (runtime_stored p st.frames went.location went.value st.top.frame went.frame st.world went.world w went.stored h.runtime))

store_runs : PlacesAreWritten → (image : Image) (p : Plan) (n : ℕ) (st next : LinearState) (w : abi.World) (back : ℕ) (q : Place) (v : Value) → Stands p n st w back →
    slice_get (function p n).ops st.top.place ≡ Some (plain (store q v)) → NoCall v → OperationStands p n st.top.frame st.world (plain (store q v)) → step (code_of p.unit) st ≡ goes_to next →
    IsMatched image p n (plain (store q v)) next w
store_runs places image p n st next w back q v h there no_call stands e = by (root_register (shape p n) q.root) refl
  where
    by : (o : Option ℕ) → root_register (shape p n) q.root ≡ o → IsMatched image p n (plain (store q v)) next w
    by None is = memory_runs places image p n st next w back q v h there no_call stands e is
    by (Some rd) is = register_runs image p n st next w back rd q v h there no_call stands e is

-- ---- an address is bound

sd_done : (base value imm : ℕ) (s : State) → done (Sd base value imm) s ≡ stores s 8 (add (x s base) (imm12 imm)) (x s value)
unfolding done
sd_done base value imm s = refl

bind_runs : AddressesAreComputed → (image : Image) (p : Plan) (n : ℕ) (st next : LinearState) (w : abi.World) (back slot : ℕ) (q : Place) → Stands p n st w back →
    slice_get (function p n).ops st.top.place ≡ Some (plain (bind slot q)) → OperationStands p n st.top.frame st.world (plain (bind slot q)) → step (code_of p.unit) st ≡ goes_to next →
    IsMatched image p n (plain (bind slot q)) next w
bind_runs addresses image p n st next w back slot q h there stands e =
    let t : Setting = setting p n in
    let f : Shape = shape p n in
    let g : Ground = t.ground in
    let here : ℕ = word_here p n st in
    let s : State = w.hart in
    let front : List Piece = place_address f a0 q in
    let put : Piece = slot_stored f a0 slot in
    let stood = here_at p n st w back (plain (bind slot q)) h there in
    let sum = length-append front (put ∷ []) in
    let parts = pieces_split s.memory g here front (put ∷ []) stood.code in
    let went = bind_step p n st next slot q h.runs there e in
    let b : Address = went.address in
    let value : ℕ = byte_of t b in
    let may_hold : HeldBy p st.world st.top.frame.call b.base = address_held p n st.top.frame st.world s.memory (x s sp) back h.memory.top q b stands.0 stands.1 went.is in
    let below : value < 2 ^ 64 = address_below p n st.top.frame st.frames st.world s.memory (x s sp) back b h.memory may_hold (stands.2 b went.is) in
    let ready = ready_here p n st w back h in
    let got = addresses.place t f (slot_kinds p n) st.top.frame st.world 0 here s q b ready (omega arith) stands.0 parts.0 h.pc below went.is in
    let m : State = got.goes.after in
    let place : ℕ = x s sp + slot_offset f slot in
    let bounds = slot_place p n st.top.frame st.frames st.world s.memory (x s sp) back slot h.memory stands.3 stands.4 in
    let stack : x m sp ≡ x s sp = got.goes.kept sp (kept_low 0 sp (omega arith)) in
    let target : add (x m sp) (imm12 (within f slot 0)) ≡ place
    = ap (λ a. add a (imm12 (within f slot 0))) stack ∙ near_address (x s sp) (slot_offset f slot + 0) (omega (arith, stands.5)) (omega (arith, bounds.1)) ∙ omega arith in
    let code : PieceAt m.memory g (here + length front) put = subst (λ ps. PieceAt ps g (here + length front) put) (sym got.goes.memory) parts.1.0 in
    let may = subst (λ ps. MayWrite ps place 8) (sym got.goes.memory) (slot_may p n st.top.frame st.frames st.world s.memory (x s sp) back slot 8 h.memory stands.3 stands.4 (omega arith)) in
    let even : place % 8 ≡ 0 = omega (arith, h.memory.top.holds.variables slot stands.3, h.memory.top.slots.aligned slot stands.3 stands.4) in
    let u : State = state (next_pc m) m.regs (with_value m.memory place 8 value) in
    let step : step_of m ≡ (Done, u)
    = piece_done g (here + length front) put m code got.goes.pc ∙ sd_done sp a0 (within f slot 0) m ∙ ap (λ a. stores m 8 a (x m a0)) target ∙ ap (stores m 8 place) got.is
    ∙ stores_done m 8 place value (eq-eqb (place % 8) 0 even) may in
    let k : ℕ = got.goes.steps + 1 in
    let runs : Executes k s u = steps_then got.goes.steps 1 s m u got.goes.runs (one_step m u step) in
    let to : LinearState = moved st (st.top.place + 1) (with_slot slot (address_word b) st.top.frame) st.world in
    let pc : u.pc ≡ address g (first_word p n + op_word (routine p n) (st.top.place + 1)) = next_is g (here + length front) put m code got.goes.pc ∙ omega (arith, stood.next, sum) in
    let memory : u.memory ≡ with_value s.memory place 8 value = ap (λ ps. with_value ps place 8 value) got.goes.memory in
    let held = address_matches p n st.top.frame st.frames st.world s.memory (x s sp) back slot b h.memory stands.3 stands.4 below may_hold in
    let kept = slot_kept p n st.top.frame st.frames st.world s.memory (x s sp) back slot 8 value (address_word b) (saved_of s) h.memory stands.3 stands.4 (omega arith) h.kept in
    let saved_u : saved_of u ≡ saved_of s = values_saved s m got.goes.kept in
    let there_u : Arrives p n to back u = record {
      runs = h.runs;
      registers = got.goes.registers;
      pc = pc;
      memory = memory_at p n to back (x s sp) (with_value s.memory place 8 value) u memory stack held;
      kept = kept_at p n to (x s sp) (with_value s.memory place 8 value) (saved_of s) u memory stack saved_u kept;
    } in
    subst (λ y. IsMatched image p n (plain (bind slot q)) y w) went.next_is
    (matched image p n to w back (length (linear_code f (plain (bind slot q)))) k u (omega (arith, got.goes.most, sum))
    (λ some. omega arith) runs there_u h.runtime)

-- ---- no word at all

same_place : (image : Image) (p : Plan) (n : ℕ) (st : LinearState) (w : abi.World) (back : ℕ) (o : LinearOp) → Stands p n st w back → slice_get (function p n).ops st.top.place ≡ Some o → length (linear_code (shape p n) o) ≡ 0 →
    IsMatched image p n o (moved st (st.top.place + 1) st.top.frame st.world) w
same_place image p n st w back o h there none =
    let stood = here_at p n st w back o h there in
    let to : LinearState = moved st (st.top.place + 1) st.top.frame st.world in
    let there_u : Arrives p n to back w.hart = record { runs = h.runs; registers = h.registers; pc = h.pc ∙ omega (arith, stood.next, none); memory = h.memory; kept = h.kept } in
    matched image p n to w back (length (linear_code (shape p n) o)) 0 w.hart (omega arith) (λ some. absurd (omega (arith, some, none))) (no_steps w.hart) there_u h.runtime

-- ---- jumps

-- the jump of an operation, at a word of it
pub jump_goes : (p : Plan) (n : ℕ) (st : LinearState) (w : abi.World) (back l here words : ℕ) (s : State) → Stands p n st w back → s.memory ≡ w.hart.memory → PieceAt s.memory (setting p n).ground here (jump_to l) →
    s.pc ≡ address (setting p n).ground here → here ≡ word_here p n st + words → op_word (routine p n) st.top.place + words ≤ routine_words (routine p n) →
    let there = first_word p n + op_word (routine p n) (label_place (function p n).ops l 0) in Executes 1 s (state (address (setting p n).ground there) s.regs s.memory)
jump_goes p n st w back l here words s h memory code at place inside =
    let r = words_stand.inside (routine p n) (label_place (function p n).ops l 0) in
    let short = short_function p n st w back h in
    (label_jumps (setting p n).ground here l s code at (omega (arith, r, short, place)) (omega (arith, inside, short, place))
    (place_below p w.hart.memory n (label_place (function p n).ops l 0) h.memory.unit h.memory.top.known)).runs

jump_runs : (image : Image) (p : Plan) (n : ℕ) (st : LinearState) (w : abi.World) (back l : ℕ) → Stands p n st w back → slice_get (function p n).ops st.top.place ≡ Some (jump l) →
    IsMatched image p n (jump l) (moved st (label_place (function p n).ops l 0) st.top.frame st.world) w
jump_runs image p n st w back l h there =
    let stood = here_at p n st w back (jump l) h there in
    let g : Ground = (setting p n).ground in
    let place : ℕ = label_place (function p n).ops l 0 in
    let u : State = state (address g (first_word p n + op_word (routine p n) place)) w.hart.regs w.hart.memory in
    let runs = jump_goes p n st w back l (word_here p n st) 0 w.hart h refl stood.code.0 h.pc (omega arith) (omega (arith, stood.inside)) in
    let to : LinearState = moved st place st.top.frame st.world in
    let there_u : Arrives p n to back u = record { runs = h.runs; registers = h.registers; pc = refl; memory = h.memory; kept = h.kept } in
    matched image p n to w back 1 1 u (omega arith) (λ some. omega arith) runs there_u h.runtime

test_runs : (image : Image) (p : Plan) (n : ℕ) (st next : LinearState) (w : abi.World) (back l : ℕ) (v : Value) → Stands p n st w back → slice_get (function p n).ops st.top.place ≡ Some (jump_zero v l) →
    OperationStands p n st.top.frame st.world (jump_zero v l) → step (code_of p.unit) st ≡ goes_to next → IsMatched image p n (jump_zero v l) next w
test_runs image p n st next w back l v h there stands e =
    let t : Setting = setting p n in
    let f : Shape = shape p n in
    let g : Ground = t.ground in
    let here : ℕ = word_here p n st in
    let s : State = w.hart in
    let front : List Piece = test_code f v in
    let stood = here_at p n st w back (jump_zero v l) h there in
    let sum : length (front ++ jump_to l ∷ []) ≡ length front + 1 = length-append front (jump_to l ∷ []) in
    let short : length front < 2 ^ 18 = omega (arith, stood.inside, sum, short_function p n st w back h) in
    let went = test_step p n st next v l h.runs there e in
    let ready = ready_here p n st w back h in
    let few = h.memory.unit.registers n st.top.place (jump_zero v l) there in
    let tested = values_are_computed.test t f (slot_kinds p n) st.top.frame st.world v went.value here s (jump_to l) stands went.value_is few short stood.code h.pc ready in
    let parts = pieces_split s.memory g here front (jump_to l ∷ []) stood.code in
    subst (λ y. IsMatched image p n (jump_zero v l) y w) went.next_is (by (is_zero went.value) tested stood sum parts.1.0)
  where
    by : (zero : Bool) → Goes (setting p n).ground (word_here p n st) (length (test_code (shape p n) v) + (if zero then 0 else 1)) 0 w.hart →
        OperationAt p w.hart.memory n st.top.place (linear_code (shape p n) (jump_zero v l)) → length (linear_code (shape p n) (jump_zero v l)) ≡ length (test_code (shape p n) v) + 1 →
        PieceAt w.hart.memory (setting p n).ground (word_here p n st + length (test_code (shape p n) v)) (jump_to l) →
        IsMatched image p n (jump_zero v l) (moved st (if zero then label_place (function p n).ops l 0 else st.top.place + 1) st.top.frame st.world) w
    by false first stood sum piece =
        let u : State = first.after in
        let to : LinearState = moved st (st.top.place + 1) st.top.frame st.world in
        let pc : u.pc ≡ address (setting p n).ground (first_word p n + op_word (routine p n) (st.top.place + 1)) = first.pc ∙ omega (arith, stood.next, sum) in
        let there_u : Arrives p n to back u = record {
          runs = h.runs;
          registers = first.registers;
          pc = pc;
          memory = memory_at p n to back (x w.hart sp) w.hart.memory u first.memory (first.kept sp (kept_low 0 sp (omega arith))) h.memory;
          kept = kept_at p n to (x w.hart sp) w.hart.memory (saved_of w.hart) u first.memory (first.kept sp (kept_low 0 sp (omega arith))) (values_saved w.hart first.after first.kept) h.kept;
        } in
        matched image p n to w back (length (linear_code (shape p n) (jump_zero v l))) first.steps u (omega (arith, first.most, sum))
        (some_steps (setting p n).ground (word_here p n st) (length (linear_code (shape p n) (jump_zero v l))) first.steps w.hart u h.pc (pc ∙ omega (arith, stood.next)) first.runs) first.runs there_u h.runtime
    by true first stood sum piece =
        let m : State = first.after in
        let g : Ground = (setting p n).ground in
        let here : ℕ = word_here p n st + length (test_code (shape p n) v) in
        let place : ℕ = label_place (function p n).ops l 0 in
        let code : PieceAt m.memory g here (jump_to l) = subst (λ ps. PieceAt ps g here (jump_to l)) (sym first.memory) piece in
        let u : State = state (address g (first_word p n + op_word (routine p n) place)) m.regs m.memory in
        let second = jump_goes p n st w back l here (length (test_code (shape p n) v)) m h first.memory code (first.pc ∙ omega arith) refl (omega (arith, stood.inside, sum)) in
        let to : LinearState = moved st place st.top.frame st.world in
        let there_u : Arrives p n to back u = record {
          runs = h.runs;
          registers = first.registers;
          pc = refl;
          memory = memory_at p n to back (x w.hart sp) w.hart.memory u first.memory (first.kept sp (kept_low 0 sp (omega arith))) h.memory;
          kept = kept_at p n to (x w.hart sp) w.hart.memory (saved_of w.hart) u first.memory (first.kept sp (kept_low 0 sp (omega arith))) (values_saved w.hart first.after first.kept) h.kept;
        } in
        matched image p n to w back (length (linear_code (shape p n) (jump_zero v l))) (first.steps + 1) u (omega (arith, first.most, sum)) (λ some. omega arith)
        (steps_then first.steps 1 w.hart m u first.runs second) there_u h.runtime

-- ---- all of them

operation_runs : PlacesAreWritten → AddressesAreComputed → (image : Image) (p : Plan) (n : ℕ) (st next : LinearState) (w : abi.World) (back : ℕ) (o : LinearOp) → Stands p n st w back →
    slice_get (function p n).ops st.top.place ≡ Some o → IsQuiet o → OperationStands p n st.top.frame st.world o → step (code_of p.unit) st ≡ goes_to next → IsMatched image p n o next w
operation_runs places addresses image p n st next w back (plain (evaluate v)) h there quiet stands e =
    subst (λ y. IsMatched image p n (plain (evaluate v)) y w) (value_step p n st next v h.runs there quiet e)
    (same_place image p n st w back (plain (evaluate v)) h there (ap length (plain_dropped (shape p n) v quiet)))
operation_runs places addresses image p n st next w back (plain (store q v)) h there quiet stands e = store_runs places image p n st next w back q v h there quiet stands e
operation_runs places addresses image p n st next w back (plain (bind s q)) h there quiet stands e = bind_runs addresses image p n st next w back s q h there stands e
operation_runs places addresses image p n st next w back (label l) h there quiet stands e =
    subst (λ y. IsMatched image p n (label l) y w) (label_step p n st next l h.runs there e) (same_place image p n st w back (label l) h there refl)
operation_runs places addresses image p n st next w back (jump l) h there quiet stands e =
    subst (λ y. IsMatched image p n (jump l) y w) (jump_step p n st next l h.runs there e) (jump_runs image p n st w back l h there)
operation_runs places addresses image p n st next w back (jump_zero v l) h there quiet stands e = test_runs image p n st next w back l v h there stands e
operation_runs places addresses image p n st next w back o h there quiet stands e = absurd quiet

pub operations_run : PlacesAreWritten → AddressesAreComputed → OperationsRun
operations_run places addresses image p n st next w o h runs there quiet asked e =
    let stood = stands_by p n st w h runs in
    operation_runs places addresses image p n st next w h.back o stood there quiet (operation_stands p n st.top.frame st.world w.hart.memory (x w.hart sp) h.back stood.memory.top o quiet (free_at p n st.top.place o there) asked) e
