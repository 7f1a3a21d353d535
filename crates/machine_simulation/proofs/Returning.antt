-- A return is matched.
use Rattle.std.proofs.Common.{◌≡◌, ◌∙◌, refl, sym, ap, subst, arith, ℕ, suc, ◌+◌, ◌%◌, ◌^◌, ◌<◌, ◌≤◌, ℤ, pos, List, [], ◌∷◌, ◌++◌, length, length-append, append_assoc, Option, Some, None, inl, inr}
use Rattle.std.specs.Prelude.{◌⊎◌, slice_get, slice_set}
use Rattle.rv64_isa.specs.declared.step.Step.TheVariants.{Done}
use Rattle.rv64_isa.specs.Arithmetic.{add}
use Rattle.rv64_isa.specs.State.{State, Part, with_value}
use Rattle.rv64_isa.specs.Step.{step_of, sets, x, imm12}
use Rattle.cxa_runtime.specs.World as abi
use Rattle.cxa_runtime.specs.Raising.{Image}
use Rattle.region_forms.specs.Form.{Kinds, Place, Value, number, load, in_slot}
use Rattle.region_forms.specs.World.{of_variable, Address, Frame, World}
use Rattle.region_forms.specs.Evaluation.{Location, in_memory, value_in, locate}
use Rattle.region_forms.specs.Effect.{Effect, goes, calls, raises, terminates, ends, cancels, leaves_newest, meaningless, if_some, finished, stored_at, result_in}
use Rattle.linear_forms.specs.Linear.{LinearOp, return}
use Rattle.linear_forms.specs.Stub.{compiled, end_catch, terminating, call_unexpected}
use Rattle.linear_forms.specs.Activation.{Activation, State as LinearState, goes_to, compiled_op, fetch, kinds}
use Rattle.linear_forms.specs.Machine.{step}
use Rattle.linear_forms.specs.Operation.{settled, wanted_by, returned_with}
use Rattle.linear_forms.specs.UnitRun.{code_of}
use Rattle.machine_forms.specs.Registers.{sp, a0, register, saved_registers}
use Rattle.machine_forms.specs.Piece.{Piece, instruction}
use Rattle.machine_forms.specs.Shape.{Shape, slot_offset, return_offset, epilogue}
use Rattle.machine_forms.specs.KeptCode.{copied, root_register, restores}
use Rattle.machine_forms.proofs.Chosen.{variables_are_kept}
use Rattle.machine_forms.specs.ValueCode.{needs, value_code}
use Rattle.machine_forms.specs.LinearCode.{linear_code, result_set}
use Rattle.machine_forms.specs.Routine.{op_word}
use Rattle.machine_pieces.specs.Executes.{Executes}
use Rattle.machine_pieces.specs.Numbers.{IsInt, extended}
use Rattle.machine_pieces.specs.Standing.{Ground, address, PiecesAt}
use Rattle.machine_pieces.specs.Frames.{AddressAt, ValueStands, location_byte}
use Rattle.machine_pieces.specs.Keeping.{saved_of, outward}
use Rattle.machine_pieces.specs.Saving.{SavedAt, IsOut, AreNear}
use Rattle.machine_pieces.specs.Transfers.{HasFrame}
use Rattle.machine_pieces.specs.Laws.{PlacesAreWritten}
use Rattle.machine_pieces.proofs.Fetching.{pieces_split}
use Rattle.machine_pieces.proofs.Numbers.{extended_below}
use Rattle.machine_pieces.proofs.Registers.{set_length, read_same, read_other, register_distinct}
use Rattle.machine_pieces.proofs.Keeping.{register_is, kept_saved, may_saved, same_saved}
use Rattle.machine_pieces.proofs.Restoring.{registers_restored}
use Rattle.machine_pieces.proofs.Stepping.{no_steps, one_step, steps_then}
use Rattle.machine_pieces.proofs.Going.{kept_low}
use Rattle.machine_pieces.proofs.Values.{code_after}
use Rattle.machine_pieces.proofs.Testing.{values_are_computed}
use Rattle.machine_pieces.proofs.Framing.{set_state, sets_at, addi_done, epilogue_leaves}
use Rattle.machine_simulation.specs.Plan.{Plan, function, shape, slot_kinds, routine, first_word, setting}
use Rattle.machine_simulation.specs.StubCalls.{DestructorWaits, UnexpectedWaits, LeavingWaits}
use Rattle.machine_simulation.specs.Extents.{LocationStands}
use Rattle.machine_simulation.specs.Calls.{Waits, CallsWait, given_in, stored_in, wanted, stored_behind}
use Rattle.machine_simulation.specs.KeptCalls.{kept_of, KeptCalls, RegistersMatch}
use Rattle.machine_simulation.specs.Matches.{RuntimeMatches, MemoryMatches, Matches}
use Rattle.machine_simulation.specs.Operations.{PlaceFits, Matched}
use Rattle.machine_simulation.specs.Returns.{closed, ResultStands, WantedStands, ReturnsRun}
use Rattle.machine_simulation.proofs.Words.{OperationAt, operation_at, even_base, word_below}
use Rattle.machine_simulation.proofs.Holding.{location_may, location_matches}
use Rattle.machine_simulation.proofs.Matching.{Stands, stands_by, ready_here, Arrives, matched, values_saved}
use Rattle.machine_simulation.proofs.Slots.{slot_place_of, kept_room, got_inside}
use Rattle.machine_simulation.proofs.Stored.{stored_there}
use Rattle.machine_simulation.proofs.KeptSlots.{ready_of}
use Rattle.machine_simulation.proofs.KeptPlaces.{kept_place}
use Rattle.machine_simulation.proofs.KeptCalls.{behind_call}
use Rattle.machine_simulation.proofs.KeptStores.{location_kept, register_matches, register_kept, register_set}
use Rattle.machine_simulation.proofs.KeptClosed.{before_small, registers_popped}
use Rattle.machine_simulation.proofs.Quiet.{step_is, runtime_stored}
use Rattle.machine_simulation.proofs.Asked.{wanted_stands}
use Rattle.machine_simulation.specs.Asked.{WantedAsked}
use Rattle.machine_simulation.proofs.Closing.{popped_to, destroyed_nothing, runtime_popped}

-- ---- a value that a place wants

-- from a state of the hart with a value in a0, so many words store the value where it is wanted
pub record Received (p : Plan) (n here words : ℕ) (frame : Frame) (fs : List Activation) (v : World) (back : ℕ) (t : State) : Type 0 where
  pub steps : ℕ
  pub most : steps ≤ words
  pub after : State
  pub runs : Executes steps t after
  pub registers : length after.regs ≡ 32
  pub pc : after.pc ≡ address (setting p n).ground (here + words)
  pub memory : MemoryMatches p n frame fs v after.memory (x after sp) back
  pub kept : RegistersMatch p n frame fs v after.memory (x after sp) (saved_of after)

-- in the register of a kept variable
with_none : (a : ℕ) → a < 2 ^ 64 → add a (imm12 0) ≡ a
with_none a below = omega (arith, below)

register_receives : (p : Plan) (n here : ℕ) (frame new_frame : Frame) (fs : List Activation) (v new_world : World) (back rd : ℕ) (q : Place) (l : Location) (z : ℤ) (t : State) →
    MemoryMatches p n frame fs v t.memory (x t sp) back → RegistersMatch p n frame fs v t.memory (x t sp) (saved_of t) → length t.regs ≡ 32 → t.pc ≡ address (setting p n).ground here →
    PiecesAt t.memory (setting p n).ground here (given_in (shape p n) (Some rd) q) → IsInt z → x t (register 0) ≡ extended z → PlaceFits p n frame q → root_register (shape p n) q.root ≡ Some rd →
    locate (slot_kinds p n) frame q ≡ Some l → stored_at l z frame v ≡ goes new_frame new_world → Received p n here 1 new_frame fs new_world back t
register_receives p n here frame new_frame fs v new_world back rd q l z t h kept regs at code int value fits some is got =
    let g : Ground = (setting p n).ground in
    let root = kept_place p n frame q rd some fits in
    let saved = register_is (kept_of p n) root.number rd root.register in
    let slot = root.slot in
    let a : Address = record { base = of_variable frame.call root.number; offset = 0 } in
    let same : l ≡ in_memory a = let both : Some l ≡ Some (in_memory a) = sym is ∙ root.located in cc both in
    let stored = stored_there a z frame new_frame v new_world (ap (λ y. stored_at y z frame v) (sym same) ∙ got) in
    let u : State = set_state g here t rd (extended z) in
    let y : Piece = instruction (copied rd (register 0)) in
    let step : step_of t ≡ (Done, u)
    = sets_at g here rd (extended z) y t code.0 at (addi_done rd (register 0) 0 t ∙ ap (λ b. sets t rd (add b (imm12 0))) value ∙ ap (sets t rd) (with_none (extended z) (extended_below z int))) in
    let there : x u rd ≡ extended z = read_same t.regs rd (extended z) (may_saved rd saved).0 (omega (arith, regs, saved.below)) in
    let stack : x u sp ≡ x t sp = read_other t.regs rd sp (extended z) (λ e. omega (arith, e, saved.above)) in
    let new : List ℕ = slice_set (saved_of t) slot.place (extended z) in
    let saved_u : saved_of u ≡ new = register_set t u slot.place rd (extended z) slot.register_is there (λ r k ne. read_other t.regs rd r (extended z) ne) in
    let held = register_matches p n frame fs v t.memory (x t sp) back root.number z h (kept.top.dead root.number rd root.register) in
    let registers = register_kept p n frame fs v t.memory (x t sp) back slot.place root.number z (saved_of t) h slot.slot_is int refl kept in
    let to_held : MemoryMatches p n new_frame fs new_world t.memory (x t sp) back
    = subst (λ f. MemoryMatches p n f fs new_world t.memory (x t sp) back) stored.1 (subst (λ w. MemoryMatches p n frame fs w t.memory (x t sp) back) stored.2 held) in
    let to_kept : RegistersMatch p n new_frame fs new_world t.memory (x t sp) new
    = subst (λ f. RegistersMatch p n f fs new_world t.memory (x t sp) new) stored.1 (subst (λ w. RegistersMatch p n frame fs w t.memory (x t sp) new) stored.2 registers) in
    record {
      steps = 1;
      most = omega arith;
      after = u;
      runs = one_step t u step;
      registers = set_length t.regs rd (extended z) ∙ regs;
      pc = refl;
      memory = subst (λ b. MemoryMatches p n new_frame fs new_world t.memory b back) (sym stack) to_held;
      kept = subst (λ b. RegistersMatch p n new_frame fs new_world t.memory b (saved_of u)) (sym stack) (subst (λ rs. RegistersMatch p n new_frame fs new_world t.memory (x t sp) rs) (sym saved_u) to_kept);
    }

-- in memory
memory_receives : PlacesAreWritten → (p : Plan) (n here : ℕ) (frame new_frame : Frame) (fs : List Activation) (v new_world : World) (back : ℕ) (q : Place) (l : Location) (z : ℤ) (t : State) →
    MemoryMatches p n frame fs v t.memory (x t sp) back → RegistersMatch p n frame fs v t.memory (x t sp) (saved_of t) → length t.regs ≡ 32 → t.pc ≡ address (setting p n).ground here →
    PiecesAt t.memory (setting p n).ground here (given_in (shape p n) None q) → IsInt z → x t (register 0) ≡ extended z → PlaceFits p n frame q → LocationStands p (shape p n) (slot_kinds p n) l →
    locate (slot_kinds p n) frame q ≡ Some l → stored_at l z frame v ≡ goes new_frame new_world → Received p n here (length (given_in (shape p n) None q)) new_frame fs new_world back t
memory_receives places p n here frame new_frame fs v new_world back q l z t h kept regs at code int value fits ok is got =
    let ready = ready_of p n frame v t regs h.top.holds kept.top.keeps in
    let may = location_may p n frame fs v t.memory (x t sp) back l h ok in
    let written = places.place (setting p n) (shape p n) (slot_kinds p n) frame v (register 0) 1 here t z q l ready (λ i low small. register_distinct 0 i (omega arith) small (λ e. omega (arith, e, low))) (omega arith) fits code at value is may.aligned may.below may.may in
    let u : State = written.after in
    let place : ℕ = location_byte (setting p n) (shape p n) (x t sp) l in
    let new : List Part = with_value t.memory place 4 (extended z) in
    let held = location_matches p n frame new_frame fs v new_world t.memory (x t sp) back l z h int ok got in
    let registers = location_kept p n frame new_frame fs v new_world t.memory (x t sp) back l z (saved_of t) h ok got kept in
    let stack : x u sp ≡ x t sp = written.kept sp (kept_low 1 sp (omega arith)) in
    let saved_u : saved_of u ≡ saved_of t = same_saved t u (λ r k. written.kept r (kept_saved 1 r k)) in
    record {
      steps = written.steps;
      most = written.most;
      after = u;
      runs = written.runs;
      registers = written.registers;
      pc = written.pc;
      memory = subst (λ ps. MemoryMatches p n new_frame fs new_world ps (x u sp) back) (sym written.memory) (subst (λ a. MemoryMatches p n new_frame fs new_world new a back) (sym stack) held);
      kept = subst (λ ps. RegistersMatch p n new_frame fs new_world ps (x u sp) (saved_of u)) (sym written.memory) (subst (λ a. RegistersMatch p n new_frame fs new_world new a (saved_of u)) (sym stack)
          (subst (λ rs. RegistersMatch p n new_frame fs new_world new (x t sp) rs) (sym saved_u) registers));
    }

pub receives : PlacesAreWritten → (p : Plan) (n here : ℕ) (frame new_frame : Frame) (fs : List Activation) (v new_world : World) (back : ℕ) (wants : Option Place) (z : ℤ) (t : State) →
    MemoryMatches p n frame fs v t.memory (x t sp) back → RegistersMatch p n frame fs v t.memory (x t sp) (saved_of t) → length t.regs ≡ 32 → t.pc ≡ address (setting p n).ground here →
    PiecesAt t.memory (setting p n).ground here (stored_in (shape p n) wants) → IsInt z → x t (register 0) ≡ extended z → WantedStands p n frame wants → finished (slot_kinds p n) wants z frame v ≡ goes new_frame new_world →
    Received p n here (length (stored_in (shape p n) wants)) new_frame fs new_world back t
receives places p n here frame new_frame fs v new_world back None z t h kept regs at code int value stands e =
    let same_frame : frame ≡ new_frame = cc e in
    let same_world : v ≡ new_world = cc e in
    record {
      steps = 0;
      most = omega arith;
      after = t;
      runs = no_steps t;
      registers = regs;
      pc = at ∙ omega arith;
      memory = subst (λ f. MemoryMatches p n f fs new_world t.memory (x t sp) back) same_frame (subst (λ u. MemoryMatches p n frame fs u t.memory (x t sp) back) same_world h);
      kept = subst (λ f. RegistersMatch p n f fs new_world t.memory (x t sp) (saved_of t)) same_frame (subst (λ u. RegistersMatch p n frame fs u t.memory (x t sp) (saved_of t)) same_world kept);
    }
receives places p n here frame new_frame fs v new_world back (Some q) z t h kept regs at code int value stands e = by (locate (slot_kinds p n) frame q) refl e
  where
    to : (l : Location) → locate (slot_kinds p n) frame q ≡ Some l → stored_at l z frame v ≡ goes new_frame new_world → (o : Option ℕ) → root_register (shape p n) q.root ≡ o →
        PiecesAt t.memory (setting p n).ground here (given_in (shape p n) o q) → Received p n here (length (given_in (shape p n) o q)) new_frame fs new_world back t
    to l is got None none there = memory_receives places p n here frame new_frame fs v new_world back q l z t h kept regs at there int value stands.0 (stands.1 none l is) is got
    to l is got (Some rd) some there = register_receives p n here frame new_frame fs v new_world back rd q l z t h kept regs at there int value stands.0 some is got

    by : (o : Option Location) → locate (slot_kinds p n) frame q ≡ o → if_some o (λ l. stored_at l z frame v) ≡ goes new_frame new_world →
        Received p n here (length (stored_in (shape p n) (Some q))) new_frame fs new_world back t
    by None is got = absurd (cc got)
    by (Some l) is got = to l is got (root_register (shape p n) q.root) refl code

-- ---- what a return is on the machine for linear code

-- a result as a value
abbrev pub result_value : Option ℕ → Value
result_value None = number (pos 0)
result_value (Some s) = load (record { root = in_slot s; offset = 0 })

pub result_code : (f : Shape) (r : Option ℕ) → result_set f r ≡ value_code f (register 0) 0 (result_value r)
result_code f None = refl
result_code f (Some s) = refl

pub result_is : (kinds : Kinds) (r : Option ℕ) (frame : Frame) (v : World) → result_in r frame v kinds ≡ value_in kinds frame v (result_value r)
result_is kinds None frame v = refl
result_is kinds (Some s) frame v = refl

pub result_stands : (p : Plan) (n : ℕ) (frame : Frame) (v : World) (r : Option ℕ) → ResultStands p n frame r → ValueStands (setting p n) (shape p n) (slot_kinds p n) frame v (result_value r)
result_stands p n frame v None h = refl
result_stands p n frame v (Some s) h = (h, tt)

pub result_needs : (r : Option ℕ) → 0 + needs (result_value r) ≤ 15
result_needs None = omega arith
result_needs (Some s) = omega arith

pub result_words : (f : Shape) (r : Option ℕ) → length (value_code f (register 0) 0 (result_value r)) ≡ 1
result_words f None = refl
result_words f (Some s) = refl

pub record ReturnStep (p : Plan) (n m : ℕ) (r : Option ℕ) (o : LinearOp) (a : Activation) (fs : List Activation) (st next : LinearState) : Type 0 where
  pub value : ℤ
  pub frame : Frame
  pub world : World
  pub value_is : value_in (slot_kinds p n) st.top.frame st.world (result_value r) ≡ Some value
  pub stored : finished (slot_kinds p m) (wanted o) value a.frame st.world ≡ goes frame world
  pub next_is : record { top = record { function = a.function; place = a.place + 1; frame = frame }; frames = fs; world = world } ≡ next

pub return_step : (p : Plan) (n m : ℕ) (st next : LinearState) (a : Activation) (fs : List Activation) (r : Option ℕ) (o : LinearOp) → st.top.function ≡ compiled n →
    slice_get (function p n).ops st.top.place ≡ Some (return r) → st.frames ≡ a ∷ fs → a.function ≡ compiled m → slice_get (function p m).ops a.place ≡ Some o → step (code_of p.unit) st ≡ goes_to next →
    ReturnStep p n m r o a fs st next
return_step p n m st next a fs r o runs there frames callee waits h =
    by (value_in (slot_kinds p n) st.top.frame st.world (result_value r)) refl
    (ap (λ z. returned_with (code_of p.unit) z (a ∷ fs) st.world) (sym (result_is (slot_kinds p n) r st.top.frame st.world))
    ∙ ap (λ gs. returned_with (code_of p.unit) (result_in r st.top.frame st.world (slot_kinds p n)) gs st.world) (sym frames)
    ∙ ap (λ f. returned_with (code_of p.unit) (result_in r st.top.frame st.world (kinds (code_of p.unit) f)) st.frames st.world) (sym runs)
    ∙ sym (step_is p n st (return r) runs there) ∙ h)
  where
    by : (oz : Option ℤ) → value_in (slot_kinds p n) st.top.frame st.world (result_value r) ≡ oz → returned_with (code_of p.unit) oz (a ∷ fs) st.world ≡ goes_to next → ReturnStep p n m r o a fs st next
    by None is e = absurd (cc e)
    by (Some z) is e =
        to (finished (slot_kinds p m) (wanted o) z a.frame st.world) refl
        (ap (λ q. settled (finished (slot_kinds p m) (wanted_by (compiled_op q)) z a.frame st.world) a fs st.world) (sym waits)
        ∙ ap (λ f. settled (finished (kinds (code_of p.unit) f) (wanted_by (fetch (code_of p.unit) f a.place)) z a.frame st.world) a fs st.world) (sym callee) ∙ e)
      where
        to : (f : Effect) → finished (slot_kinds p m) (wanted o) z a.frame st.world ≡ f → settled f a fs st.world ≡ goes_to next → ReturnStep p n m r o a fs st next
        to (goes x v) got e = record { value = z; frame = x; world = v; value_is = is; stored = got; next_is = cc e }
        to (calls q k given) got e = absurd (cc e)
        to (raises k v) got e = absurd (cc e)
        to (terminates k v) got e = absurd (cc e)
        to (ends k v) got e = absurd (cc e)
        to (cancels k v) got e = absurd (cc e)
        to leaves_newest got e = absurd (cc e)
        to meaningless got e = absurd (cc e)

pub runtime_finished : (p : Plan) (fs : List Activation) (kinds : Kinds) (q : Option Place) (z : ℤ) (frame new_frame : Frame) (v new_world : World) (w : abi.World) →
    finished kinds q z frame v ≡ goes new_frame new_world → RuntimeMatches p fs v w → RuntimeMatches p fs new_world w
runtime_finished p fs kinds None z frame new_frame v new_world w e h = let same : v ≡ new_world = cc e in subst (λ u. RuntimeMatches p fs u w) same h
runtime_finished p fs kinds (Some q) z frame new_frame v new_world w e h = by (locate kinds frame q) e
  where
    by : (o : Option Location) → if_some o (λ l. stored_at l z frame v) ≡ goes new_frame new_world → RuntimeMatches p fs new_world w
    by None got = absurd (cc got)
    by (Some l) got = runtime_stored p fs l z frame new_frame v new_world w got h

-- the call of a compiled function that waits, by the function's number
pub record CallWaits (p : Plan) (m : ℕ) (a : Activation) (fs : List Activation) (v : World) (memory : List Part) (stack back limit : ℕ) : Type 0 where
  pub outer : ℕ
  pub less : a.frame.call < limit
  pub waits : Waits p m a v memory stack back outer
  pub rest : CallsWait p fs v memory (stack + (shape p m).size) outer a.frame.call

pub call_waits : (p : Plan) (m : ℕ) (a : Activation) (fs : List Activation) (v : World) (memory : List Part) (stack back limit : ℕ) → a.function ≡ compiled m → CallsWait p (a ∷ fs) v memory stack back limit →
    CallWaits p m a fs v memory stack back limit
call_waits p m a fs v memory stack back limit callee (inl h) =
    let both : compiled h.1 ≡ compiled m = sym h.3.callee ∙ callee in
    let same : h.1 ≡ m = cc both in
    record {
      outer = h.2;
      less = h.0;
      waits = subst (λ i. Waits p i a v memory stack back h.2) same h.3;
      rest = subst (λ i. CallsWait p fs v memory (stack + (shape p i).size) h.2 a.frame.call) same h.4;
    }
call_waits p m a fs v memory stack back limit callee (inr (inl h)) = by h.1.waits
  where
    by : DestructorWaits p a v memory stack back ⊎ UnexpectedWaits p a v memory stack back ⊎ LeavingWaits p a v memory stack back → CallWaits p m a fs v memory stack back limit
    by (inl w) = absurd (let both : end_catch ≡ compiled m = sym w.callee ∙ callee in cc both)
    by (inr (inl w)) = absurd (let both : call_unexpected ≡ compiled m = sym w.callee ∙ callee in cc both)
    by (inr (inr w)) = absurd (let both : call_unexpected ≡ compiled m = sym w.callee ∙ callee in cc both)
call_waits p m a fs v memory stack back limit callee (inr (inr h)) = absurd (let both : terminating ≡ compiled m = sym h.0.callee ∙ callee in cc both)

-- ---- up to the caller

-- registers that are none of those of kept variables
pub pointer_out : IsOut sp saved_registers
pointer_out = (λ e. omega (arith, e), (λ e. omega (arith, e), (λ e. omega (arith, e), (λ e. omega (arith, e), (λ e. omega (arith, e), (λ e. omega (arith, e), (λ e. omega (arith, e), (λ e. omega (arith, e), (λ e. omega (arith, e), (λ e. omega (arith, e), tt))))))))))

pub value_out : IsOut a0 saved_registers
value_out = (λ e. omega (arith, e), (λ e. omega (arith, e), (λ e. omega (arith, e), (λ e. omega (arith, e), (λ e. omega (arith, e), (λ e. omega (arith, e), (λ e. omega (arith, e), (λ e. omega (arith, e), (λ e. omega (arith, e), (λ e. omega (arith, e), tt))))))))))

near_from : (f : Shape) (ks : List ℕ) → ((j s : ℕ) → slice_get ks j ≡ Some s → slot_offset f s < 2 ^ 11) → AreNear f ks
near_from f [] h = tt
near_from f (s ∷ ks) h = (h 0 s refl, near_from f ks (λ j t e. h (suc j) t e))

-- a function's end: its value is in a0, the registers of kept variables have what they held for the caller, and control is where it goes on
pub record CameBack (p : Plan) (n back : ℕ) (z : ℤ) (before : List ℕ) (r : Option ℕ) (s : State) : Type 0 where
  pub steps : ℕ
  pub most : steps ≤ length (linear_code (shape p n) (return r))
  pub some : 0 < steps
  pub after : State
  pub runs : Executes steps s after
  pub pc : after.pc ≡ back
  pub registers : length after.regs ≡ 32
  pub memory : after.memory ≡ s.memory
  pub stack : x after sp ≡ x s sp + (shape p n).size
  pub saved : saved_of after ≡ before
  pub int : IsInt z
  pub value : x after a0 ≡ extended z

pub comes_back : (p : Plan) (n : ℕ) (st : LinearState) (w : abi.World) (back : ℕ) (r : Option ℕ) (z : ℤ) → (h : Stands p n st w back) → slice_get (function p n).ops st.top.place ≡ Some (return r) →
    ResultStands p n st.top.frame r → value_in (slot_kinds p n) st.top.frame st.world (result_value r) ≡ Some z → back % 4 ≡ 0 → back < 2 ^ 64 → CameBack p n back z h.kept.before r w.hart
comes_back p n st w back r z h there result value_is even small =
    let f : Shape = shape p n in
    let g : Ground = (setting p n).ground in
    let here : ℕ = first_word p n + op_word (routine p n) st.top.place in
    let s : State = w.hart in
    let front : List Piece = value_code f (register 0) 0 (result_value r) in
    let middle : List Piece = restores f saved_registers f.kept in
    let code_is : linear_code f (return r) ≡ front ++ (middle ++ epilogue f)
    = ap (λ c. c ++ middle ++ epilogue f) (result_code f r) ∙ append_assoc front middle (epilogue f) in
    let stood = operation_at p s.memory n st.top.place (return r) h.memory.unit h.memory.top.known there in
    let own : OperationAt p s.memory n st.top.place (front ++ (middle ++ epilogue f)) = subst (OperationAt p s.memory n st.top.place) code_is stood in
    let one : length front ≡ 1 = result_words f r in
    let sum : length (front ++ (middle ++ epilogue f)) ≡ length front + length (middle ++ epilogue f) = length-append front (middle ++ epilogue f) in
    let rest : length (middle ++ epilogue f) ≡ length middle + 3 = length-append middle (epilogue f) in
    let total : length (linear_code f (return r)) ≡ length front + (length middle + 3) = ap length code_is ∙ sum ∙ omega (arith, rest) in
    let parts = pieces_split s.memory g here front (middle ++ epilogue f) own.code in
    let value = values_are_computed.value (setting p n) f (slot_kinds p n) st.top.frame st.world (result_value r) z 0 here s (result_stands p n st.top.frame st.world r result) value_is (result_needs r)
    (omega (arith, one)) parts.0 h.pc (ready_here p n st w back h) in
    let first = value.computes.goes in
    let m1 : State = first.after in
    let stack1 : x m1 sp ≡ x s sp = first.kept sp (kept_low 0 sp (omega arith)) in
    let code1 = code_after g here (length front) 0 (here + length front) (middle ++ epilogue f) s first parts.1 in
    let ends = pieces_split m1.memory g (here + length front) middle (epilogue f) code1 in
    let saves = h.kept.top.saves in
    let kept = variables_are_kept (function p n) in
    let near : AreNear f (kept_of p n) = near_from f (kept_of p n) (λ j i e.
    let k = kept.are j i e in
    let inside = got_inside (function p n).slots i k.slot k.there in
    let place = slot_place_of (function p n) i (h.memory.unit.frames n h.memory.top.known) inside in
    omega (arith, place.high, h.memory.top.small, kept_room (function p n) i k)) in
    let held1 : SavedAt f m1.memory (x m1 sp) (kept_of p n) saves.values
    = subst (λ ps. SavedAt f ps (x m1 sp) (kept_of p n) saves.values) (sym first.memory) (subst (λ b. SavedAt f s.memory b (kept_of p n) saves.values) (sym stack1) saves.there) in
    let second = registers_restored g (here + length front) f (kept_of p n) saves.values m1 kept.few near held1 ends.0 first.pc first.registers in
    let m2 : State = second.after in
    let stack2 : x m2 sp ≡ x s sp = second.kept sp pointer_out ∙ stack1 in
    let memory2 : m2.memory ≡ s.memory = second.memory ∙ first.memory in
    let stands = h.memory.top in
    let frame2 : HasFrame f back m2 = record {
      registers = second.registers;
      size = stands.small;
      below = omega (arith, stack2, stands.below);
      saved = subst (λ ps. AddressAt ps (x m2 sp + return_offset) back) (sym memory2) (subst (λ b. AddressAt s.memory (b + return_offset) back) (sym stack2) stands.saved);
      back_aligned = even;
      back_below = small;
    } in
    let code2 = subst (λ ps. PiecesAt ps g (here + length front + length middle) (epilogue f)) (sym second.memory) ends.1 in
    let third = epilogue_leaves g (here + length front + length middle) back f m2 code2 second.pc frame2 in
    record {
      steps = first.steps + length middle + 3;
      most = omega (arith, first.most, total);
      some = omega arith;
      after = third.after;
      runs = steps_then (first.steps + length middle) 3 s m2 third.after (steps_then first.steps (length middle) s m1 m2 first.runs second.runs) third.runs;
      pc = third.pc;
      registers = third.registers;
      memory = third.memory ∙ memory2;
      stack = third.stack ∙ ap (λ b. b + f.size) stack2;
      saved = same_saved m2 third.after (λ y k. third.kept y (λ e. absurd (omega (arith, k.above, e))) (λ e. absurd (omega (arith, k.above, e)))) ∙ second.saved ∙ ap (outward saves.values) (values_saved s m1 first.kept) ∙ sym saves.before_is;
      int = value.int;
      value = third.kept a0 (λ e. absurd (omega (arith, e))) (λ e. absurd (omega (arith, e))) ∙ second.kept a0 value_out ∙ value.computes.is;
    }

-- ---- a return

return_runs : PlacesAreWritten → (image : Image) (p : Plan) (n m : ℕ) (st next : LinearState) (w : abi.World) (a : Activation) (fs : List Activation) (r : Option ℕ) (o : LinearOp) (back outer : ℕ) →
    (h : Stands p n st w back) → slice_get (function p n).ops st.top.place ≡ Some (return r) → st.frames ≡ a ∷ fs → slice_get (function p m).ops a.place ≡ Some o → a.frame.call < st.top.frame.call →
    Waits p m a st.world w.hart.memory (x w.hart sp + (shape p n).size) back outer → CallsWait p fs st.world w.hart.memory (x w.hart sp + (shape p n).size + (shape p m).size) outer a.frame.call →
    ResultStands p n st.top.frame r → WantedAsked (closed p a.frame.call) m a.frame (wanted o) → ReturnStep p n m r o a fs st next →
    Matched image (length (linear_code (shape p n) (return r)) + length (stored_behind (shape p m) o)) w [] (λ v. Matches (closed p a.frame.call) next v)
return_runs places image p n m st next w a fs r o back outer h there frames waits less waiting rest result wants went =
    let d : ℕ = a.frame.call in
    let q : Plan = closed p d in
    let f : Shape = shape p n in
    let s : State = w.hart in
    let code_m = operation_at p s.memory m a.place o h.memory.unit waiting.stands.known waits in
    let same_op : waiting.op ≡ o = let both : Some waiting.op ≡ Some o = sym waiting.there ∙ waits in cc both in
    let front_m : List Piece = waiting.front in
    let behind : List Piece = stored_behind (shape p m) o in
    let op_is : linear_code (shape p m) o ≡ front_m ++ behind = subst (λ y. linear_code (shape p m) y ≡ front_m ++ stored_behind (shape p m) y) same_op waiting.is in
    let word_m : ℕ = first_word p m + op_word (routine p m) a.place in
    let own_m : OperationAt p s.memory m a.place (front_m ++ behind) = subst (OperationAt p s.memory m a.place) op_is code_m in
    let sum_m : length (front_m ++ behind) ≡ length front_m + length behind = length-append front_m behind in
    let parts_m = pieces_split s.memory (setting p m).ground word_m front_m behind own_m.code in
    let came = comes_back p n st w back r went.value h there result went.value_is (omega (arith, waiting.returns, even_base p s.memory h.memory.unit))
    (omega (arith, waiting.returns, word_below p s.memory m a.place (front_m ++ behind) h.memory.unit waiting.stands.known own_m, sum_m)) in
    let t : State = came.after in
    let matches : MemoryMatches p n st.top.frame (a ∷ fs) st.world s.memory (x s sp) back = subst (λ gs. MemoryMatches p n st.top.frame gs st.world s.memory (x s sp) back) frames h.memory in
    let again = popped_to p n m st.top.frame (a ∷ fs) a fs st.world s.memory (x s sp) back (x s sp + f.size) outer matches less waiting.stands rest in
    let at_t : MemoryMatches q m a.frame fs st.world t.memory (x t sp) outer
    = subst (λ ps. MemoryMatches q m a.frame fs st.world ps (x t sp) outer) (sym came.memory) (subst (λ b. MemoryMatches q m a.frame fs st.world s.memory b outer) (sym came.stack) again) in
    let calls : KeptCalls p (a ∷ fs) st.world s.memory (x s sp + f.size) h.kept.before = subst (λ gs. KeptCalls p gs st.world s.memory (x s sp + f.size) h.kept.before) frames h.kept.waiting in
    let call = behind_call p a.frame st.world s.memory (x s sp + f.size) h.kept.before (λ next outer. KeptCalls p fs st.world s.memory next outer) a.function m waiting.callee calls in
    let small = before_small p n st.top.frame st.world s.memory (x s sp) (saved_of s) h.kept.before h.kept.top h.kept.small refl in
    let kept = registers_popped p m a.frame fs st.world s.memory (x s sp + f.size) outer h.kept.before call.0 small.0 call.1 rest call.2 in
    let kept_t : RegistersMatch q m a.frame fs st.world t.memory (x t sp) (saved_of t)
    = subst (λ ps. RegistersMatch q m a.frame fs st.world ps (x t sp) (saved_of t)) (sym came.memory) (subst (λ b. RegistersMatch q m a.frame fs st.world s.memory b (saved_of t)) (sym came.stack)
    (subst (λ rs. RegistersMatch q m a.frame fs st.world s.memory (x s sp + f.size) rs) (sym came.saved) kept)) in
    let behind_t : PiecesAt t.memory (setting q m).ground (word_m + length front_m) behind = subst (λ ps. PiecesAt ps (setting p m).ground (word_m + length front_m) behind) (sym came.memory) parts_m.1 in
    let got = receives places q m (word_m + length front_m) a.frame went.frame fs st.world went.world outer (wanted o) went.value t at_t kept_t came.registers (came.pc ∙ waiting.returns) behind_t came.int came.value
    (wanted_stands q m a.frame st.world s.memory (x s sp + f.size) outer again.top (wanted o) wants) went.stored in
    let u : State = got.after in
    let k : ℕ = came.steps + got.steps in
    let runs : Executes k s u = steps_then came.steps got.steps s t u came.runs got.runs in
    let to : LinearState = record { top = record { function = a.function; place = a.place + 1; frame = went.frame }; frames = fs; world = went.world } in
    let there_u : Arrives q m to outer u = record { runs = waiting.callee; registers = got.registers; pc = got.pc ∙ omega (arith, own_m.next, sum_m); memory = got.memory; kept = got.kept } in
    subst (λ y. Matched image (length (linear_code f (return r)) + length behind) w [] (λ v. Matches q y v)) went.next_is
    (matched image q m to w outer (length (linear_code f (return r)) + length behind) k u (omega (arith, came.most, got.most)) (λ some. omega (arith, came.some)) runs there_u
    (runtime_finished q fs (slot_kinds p m) (wanted o) went.value a.frame went.frame st.world went.world w went.stored
    (runtime_popped p d a fs st.world w (subst (λ gs. RuntimeMatches p gs st.world w) frames h.runtime) (destroyed_nothing p m a waiting.callee))))

pub returns_run : PlacesAreWritten → ReturnsRun
returns_run places image p n m st next w a fs r o h runs there frames callee waits result wants e =
    let stood = stands_by p n st w h runs in
    let waiting : CallsWait p (a ∷ fs) st.world w.hart.memory (x w.hart sp + (shape p n).size) h.back st.top.frame.call
    = subst (λ gs. CallsWait p gs st.world w.hart.memory (x w.hart sp + (shape p n).size) h.back st.top.frame.call) frames stood.memory.waiting in
    let c = call_waits p m a fs st.world w.hart.memory (x w.hart sp + (shape p n).size) h.back st.top.frame.call callee waiting in
    return_runs places image p n m st next w a fs r o h.back c.outer stood there frames waits c.less c.waits c.rest result wants (return_step p n m st next a fs r o runs there frames callee waits e)
