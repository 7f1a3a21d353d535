-- call_unexpected is called.
use Rattle.std.proofs.Common.{◌≡◌, ◌∙◌, refl, sym, ap, subst, arith, ℕ, ◌+◌, ◌-◌, ◌^◌, ◌<◌, ◌≤◌, ℤ, pos, List, [], ◌∷◌, ◌++◌, length, Some}
use Rattle.rv64_isa.specs.State.{State, Part}
use Rattle.rv64_isa.specs.Step.{x}
use Rattle.cxa_runtime.specs.World as abi
use Rattle.cxa_runtime.specs.Raising.{Image}
use Rattle.region_forms.specs.World.{Address, of_exception, address_in, Word, address_word, object_address, World}
use Rattle.linear_forms.specs.Linear.{unexpected}
use Rattle.linear_forms.specs.Stub.{call_unexpected}
use Rattle.linear_forms.specs.Activation.{State as LinearState, goes_to, stub_frame, function_word}
use Rattle.linear_forms.specs.Operation.{number_of}
use Rattle.machine_forms.specs.Registers.{ra, sp, a0}
use Rattle.machine_forms.specs.Piece.{Piece, entry}
use Rattle.machine_forms.specs.PlaceCode.{slot_loaded}
use Rattle.machine_forms.specs.CallCode.{passed, function_called}
use Rattle.machine_forms.specs.Routine.{op_word}
use Rattle.machine_forms.specs.LinearCode.{linear_code}
use Rattle.machine_pieces.specs.Standing.{address, Ground}
use Rattle.machine_pieces.specs.Frames.{IntAt, AddressAt, Reached}
use Rattle.machine_pieces.specs.Turning.{Reaches}
use Rattle.machine_pieces.proofs.Fetching.{pieces_split, pieces_still}
use Rattle.machine_pieces.proofs.Framing.{function_calls}
use Rattle.machine_pieces.proofs.Stepping.{steps_then}
use Rattle.machine_pieces.proofs.Turning.{executes_turns}
use Rattle.machine_pieces.specs.Keeping.{saved_of}
use Rattle.machine_pieces.proofs.Keeping.{same_saved}
use Rattle.machine_stubs.specs.Stretches.{stub_word}
use Rattle.machine_simulation.specs.Plan.{Plan, shape, routine, first_word, setting}
use Rattle.machine_simulation.specs.Calls.{HeldBy}
use Rattle.machine_simulation.specs.Exceptions.{addresses_of, exceptions_in, kept_by, destroyed}
use Rattle.machine_simulation.specs.Matches.{UnitStands, MemoryMatches}
use Rattle.machine_simulation.proofs.Words.{operation_at, even_base, word_below}
use Rattle.machine_simulation.proofs.Matching.{Stands, stands_by, runtime_stays, kept_at}
use Rattle.machine_simulation.proofs.Quiet.{step_is}
use Rattle.machine_simulation.proofs.Passing.{Passes, word_passed, address_passed}
use Rattle.machine_simulation.proofs.Freeing.{registers_above}
use Rattle.machine_simulation.proofs.Floors.{caller_above}
use Rattle.machine_exceptions.specs.Unexpected.{AtUnexpected, CallsUnexpected, UnexpectedCalled}
use Rattle.machine_exceptions.proofs.Ecalls.{object_loaded}
use Rattle.machine_exceptions.proofs.Finding.{live_header}
use Rattle.machine_exceptions.proofs.Stopped.{SelectorPassed, selector_passed}

-- the function is near to every word of the unit
unexpected_reached : (p : Plan) (n : ℕ) (memory : List Part) → UnitStands p memory → Reached (setting p n).ground (entry call_unexpected) (stub_word p.base call_unexpected 0)
unexpected_reached p n memory h = record { is = ap pos (omega arith); near = λ here inside. (omega (arith, h.few, inside), omega (arith, h.few, inside)) }

called : (image : Image) (p : Plan) (n o s e : ℕ) (z : ℤ) (st : LinearState) (w : abi.World) (back : ℕ) → Stands p n st w back → AtUnexpected p n o s e z st →
    Reaches image (length (linear_code (shape p n) (unexpected o s))) w [] (CallsUnexpected p n o s e back z st)
called image p n o s e z st w back h at =
    let g : Ground = (setting p n).ground in
    let here : ℕ = first_word p n + op_word (routine p n) st.top.place in
    let h0 : State = w.hart in
    let v : World = st.world in
    let own = operation_at p h0.memory n st.top.place (unexpected o s) h.memory.unit h.memory.top.known at.there in
    let high : 0x7000_1000 ≤ x h0 sp = caller_above p n st.top.place st.top.frame v h0.memory (x h0 sp) back (unexpected o s) at.there refl h.memory.top in
    let one : List Piece = slot_loaded (shape p n) a0 o ∷ passed a0 0 ∷ [] in
    let two : List Piece = slot_loaded (shape p n) a0 s ∷ passed a0 1 ∷ [] in
    let three : List Piece = function_called call_unexpected in
    let parts1 = pieces_split h0.memory g here one (two ++ three) own.code in
    let parts2 = pieces_split h0.memory g (here + 2) two three parts1.1 in
    let live = live_header (addresses_of p) (destroyed st.frames) (exceptions_in v) (kept_by w) e at.exception h.runtime.exceptions at.live in
    let small : p.at (of_exception e) + 0 < 2 ^ 64 = omega (arith, live.object, live.below, h.runtime.exceptions.sound.slots) in
    let made : e ≤ v.last_number = h.runtime.exceptions.numbers e at.exception at.live in
    let word : Word = address_word (object_address e) in
    let alive : (b : Address) → address_in word ≡ Some b → HeldBy p v st.top.frame.call b.base = λ b is. let same : object_address e ≡ b = cc is in subst (λ (c : Address). HeldBy p v st.top.frame.call c.base) same made in
    let loaded = object_loaded p n st w back here o e h at.object own.code.0 h.pc in
    let first : Passes p n st.top.frame st.frames v back here 2 0 (word ∷ []) h0 = word_passed p n st.top.frame st.frames v back here 1 0 word a0 h0 loaded.goes loaded.is (address_passed (setting p n) (object_address e) small) alive h.memory (omega arith)
    (omega (arith, high)) own.code.1.0 in
    let s1 : State = first.after in
    let memory1 : MemoryMatches p n st.top.frame st.frames v s1.memory (x s1 sp) back = subst (λ a. MemoryMatches p n st.top.frame st.frames v s1.memory a back) (sym first.stack) first.memory in
    let sel : SelectorPassed p n st.top.frame st.frames v back (here + 2) z s1 = selector_passed p n st.top.frame st.frames v back (here + 2) s z s1 memory1 at.word at.selector (omega (arith, high, first.stack)) first.registers first.pc
    (pieces_still h0.memory s1.memory g (here + 2) two first.written parts2.0) in
    let second = sel.passes in
    let s2 : State = second.after in
    let call_at : ℕ = here + 2 + 2 in
    let even = even_base p h0.memory h.memory.unit in
    let call = function_calls g call_at (stub_word p.base call_unexpected 0) (entry call_unexpected) s2
    (pieces_still s1.memory s2.memory g call_at three second.written (pieces_still h0.memory s1.memory g call_at three first.written parts2.1)) second.pc second.registers
    (unexpected_reached p n h0.memory h.memory.unit) (omega (arith, even)) (omega (arith, h.memory.unit.stubs.call_unexpected.0.word.below)) in
    let t : State = call.after in
    let steps : ℕ = first.steps + (second.steps + 2) in
    let ran = executes_turns image steps w h0 t refl (steps_then first.steps (second.steps + 2) h0 s1 t first.runs (steps_then second.steps 2 s1 s2 t second.runs call.runs)) in
    let same : (r : ℕ) → x ran.after.hart r ≡ x t r = λ r. ap (λ (u : State). x u r) ran.hart in
    let memory : ran.after.hart.memory ≡ s2.memory = ap (λ (u : State). u.memory) ran.hart ∙ call.memory in
    let stack1 : x s1 sp ≡ x h0 sp = first.stack in
    let stack2 : x s2 sp ≡ x h0 sp = second.stack ∙ first.stack in
    let stack : x ran.after.hart sp ≡ x h0 sp = same sp ∙ call.kept sp (λ d. absurd (omega (arith, d))) ∙ stack2 in
    let saved : saved_of ran.after.hart ≡ saved_of h0
    = ap saved_of ran.hart ∙ same_saved s2 t (λ r k. call.kept r (λ d. absurd (omega (arith, k.above, d)))) ∙ second.saved ∙ first.saved in
    let below = word_below p h0.memory n st.top.place _ h.memory.unit h.memory.top.known own in
    let kept1 : AddressAt s1.memory (x h0 sp - 8) (p.at (of_exception e) + 0) = first.passed.0 in
    let kept2 : AddressAt s2.memory (x h0 sp - 8) (p.at (of_exception e) + 0)
    = record { aligned = kept1.aligned; below = kept1.below; holds = second.above (x h0 sp - 8) 8 (p.at (of_exception e) + 0) (omega (arith, stack1, high)) kept1.holds } in
    let held2 : MemoryMatches p n st.top.frame st.frames v s2.memory (x h0 sp) back = subst (λ a. MemoryMatches p n st.top.frame st.frames v s2.memory a back) stack1 second.memory in
    record {
      turns = steps;
      few = omega (arith, first.most, second.most);
      after = ran.after;
      runs = ran.turns;
      holds = record {
        pc = ap (λ (u : State). u.pc) ran.hart ∙ call.pc;
        registers = ap (λ (u : State). length u.regs) ran.hart ∙ call.registers;
        returns = omega (arith, same ra, call.back, below, own.next);
        returns_to = same ra ∙ call.back ∙ ap (address g) (omega arith);
        memory = subst (λ ps. MemoryMatches p n st.top.frame st.frames v ps (x ran.after.hart sp) back) (sym memory)
            (subst (λ a. MemoryMatches p n st.top.frame st.frames v s2.memory a back) (sym stack) held2);
        kept = kept_at p n st (x h0 sp) s2.memory (saved_of h0) ran.after.hart memory stack saved
            (registers_above p n st.top.frame st.frames v h0.memory s2.memory (x h0 sp) back (saved_of h0) h.memory
            (λ b k c from there. second.above b k c (omega (arith, from, stack1)) (first.above b k c (omega (arith, from)) there)) h.kept);
        runtime = runtime_stays p st.frames v w ran.after ran.runtime h.runtime;
        stopped = subst (λ ps. AddressAt ps (x ran.after.hart sp - 80 + 72) (p.at (of_exception e))) (sym memory)
            (subst (λ a. AddressAt s2.memory a (p.at (of_exception e))) (omega (arith, stack, high)) (subst (AddressAt s2.memory (x h0 sp - 8)) (omega arith) kept2));
        list = subst (λ ps. IntAt ps (x ran.after.hart sp - 80 + 64) z) (sym memory) (subst (λ a. IntAt s2.memory a z) (omega (arith, stack, stack1, high)) sel.selector);
      };
    }

pub unexpected_called : UnexpectedCalled
unexpected_called image p n o s e z st w h at = (
  step_is p n st (unexpected o s) at.runs at.there ∙ ap (λ f. goes_to (record {
    top = record { function = call_unexpected; place = 0; frame = stub_frame (st.top.frame.slots o) (st.top.frame.slots s) (function_word (number_of f)) };
    frames = st.top ∷ st.frames;
    world = st.world;
  })) at.runs,
  called image p n o s e z st w h.back (stands_by p n st w h at.runs) at,
)
