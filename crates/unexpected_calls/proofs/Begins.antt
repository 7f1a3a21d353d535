-- The unexpected handler begins.
use Rattle.std.proofs.Common.{◌≡◌, ◌∙◌, refl, sym, ap, subst, arith, ℕ, ◌+◌, ◌-◌, ◌^◌, ◌<◌, ◌≤◌, ℤ, List, [], ◌∷◌, ◌++◌, length, Option, Some}
use Rattle.std.specs.Prelude.{◌&&◌}
use Rattle.meaning_forms.specs.World.{Installed}
use Rattle.run_items.specs.declared.item.Item.TheVariants.{Enter}
use Rattle.rv64_isa.specs.State.{State, Part, with_reg}
use Rattle.rv64_isa.specs.Step.{x}
use Rattle.caught_stack.specs.declared.header.Header.{Header}
use Rattle.caught_stack.specs.Exceptions.{Exceptions}
use Rattle.caught_stack.specs.Live.{header_of}
use Rattle.cxa_runtime.specs.declared.object.Object.{Object}
use Rattle.cxa_runtime.specs.Catch.{entered as runtime_entered}
use Rattle.cxa_runtime.specs.World as abi
use Rattle.cxa_runtime.specs.World.{gives_both}
use Rattle.cxa_runtime.specs.Run.{counted}
use Rattle.cxa_runtime.specs.Call.{call_effect}
use Rattle.cxa_runtime.specs.Raising.{Image}
use Rattle.region_forms.specs.World.{of_exception, World, Exception, native, exception_of, exception_in_slot, exception_at}
use Rattle.region_forms.specs.Lives.{is_native, may_enter}
use Rattle.region_forms.specs.Unexpected.{kept_with}
use Rattle.region_forms.specs.Effect.{entered, new_frame, new_world}
use Rattle.linear_forms.specs.Linear.{unexpected}
use Rattle.linear_forms.specs.Stub.{call_unexpected}
use Rattle.linear_forms.specs.Activation.{Activation, State as LinearState, Next, goes_to, next_if, on, depth_of}
use Rattle.linear_forms.specs.Machine.{step}
use Rattle.linear_forms.specs.UnitRun.{code_of}
use Rattle.machine_forms.specs.Registers.{ra, sp, a0, a1, saved_registers}
use Rattle.machine_forms.specs.Shape.{return_offset}
use Rattle.machine_forms.specs.Routine.{op_word}
use Rattle.machine_forms.specs.KeptCode.{saves}
use Rattle.machine_forms.specs.LinearCode.{linear_code}
use Rattle.machine_pieces.specs.Numbers.{int_bits}
use Rattle.machine_pieces.specs.Memory.{Holds}
use Rattle.machine_pieces.specs.Standing.{address}
use Rattle.machine_pieces.specs.Frames.{IntAt, AddressAt}
use Rattle.machine_pieces.specs.Turning.{Turns, Reaches}
use Rattle.machine_pieces.proofs.Registers.{set_length, read_same, read_other}
use Rattle.machine_pieces.proofs.Turning.{turns_then}
use Rattle.machine_stubs.specs.Calls.{asked, CallsAreMade}
use Rattle.machine_stubs.specs.CallUnexpected.{UnexpectedBegins, stopped_slot, list_slot}
use Rattle.machine_stubs.specs.Stretches.{stub_word, Room, Stands as StubStands, Beside}
use Rattle.machine_simulation.specs.Plan.{Plan, function, shape, slot_kinds, routine, first_word, setting}
use Rattle.machine_simulation.specs.Calls.{open_bytes, stack_end}
use Rattle.machine_simulation.specs.Exceptions.{addresses_of, exceptions_in, kept_by, destroyed, HasHeader, HandlersAre, IsFunction, ExceptionsMatch}
use Rattle.machine_simulation.specs.Matches.{RuntimeMatches, MemoryMatches, Matches}
use Rattle.machine_simulation.specs.Entering.{opened, frame_for, entry_turns}
use Rattle.machine_simulation.specs.Objects.{Shows}
use Rattle.machine_simulation.proofs.Words.{even_base}
use Rattle.machine_simulation.proofs.Matching.{Stands, stands_by, runtime_stays}
use Rattle.machine_simulation.proofs.Holding.{same_number}
use Rattle.machine_simulation.proofs.Lines.{matches_alike, registers_alike}
use Rattle.machine_simulation.proofs.Closing.{destroyed_nothing}
use Rattle.machine_simulation.proofs.Freeing.{beside_matches, registers_beside, registers_above, IsFree}
use Rattle.machine_simulation.proofs.Calling.{stack_at, runtime_opened}
use Rattle.machine_simulation.proofs.Given.{same_beside}
use Rattle.machine_exceptions.specs.Leaves.{StepsTo}
use Rattle.machine_exceptions.specs.Unexpected.{in_unexpected}
use Rattle.machine_exceptions.proofs.Enters.{exception_is}
use Rattle.machine_exceptions.proofs.EndCatching.{room_below}
use Rattle.machine_exceptions.proofs.Unexpected.{unexpected_called}
use Rattle.unexpected_calls.proofs.Called.{called}
use Rattle.unexpected_calls.specs.Begins.{AtStopped, stopped_frame, in_stopped, waiting_unexpected, in_unexpected_handler, UnexpectedHandlersBegin}
use Rattle.unexpected_calls.proofs.Entering.{native_found, enters, begins_is}
use Rattle.unexpected_calls.proofs.Above.{function_entered, FunctionEntered}
use Rattle.unexpected_calls.proofs.OverCall.{int_beside, address_beside}
use Rattle.unexpected_calls.proofs.Waiting.{Keeps, Stops, handler_begun}
use Rattle.machine_pieces.specs.Keeping.{saved_of}
use Rattle.machine_pieces.specs.Transfers.{lowest_sp, entry_steps}
use Rattle.machine_simulation.proofs.Floors.{caller_above, begin_above}
use Rattle.machine_simulation.specs.KeptCalls.{RegistersMatch}
use Rattle.machine_pieces.proofs.Keeping.{given_saved}
use Rattle.machine_exceptions.proofs.Saving.{saves_run}
use Rattle.machine_exceptions.specs.Terminates.{HandlerFits}

-- ---- the steps

-- the exception is entered, and the handler kept with it is known
pub enters_stopped : (p : Plan) (n o s e : ℕ) (z : ℤ) (type : ℕ) (d : Option ℕ) (kept : Installed) (st : LinearState) (w : abi.World) → AtStopped p n o s e z type d kept st w →
    step (code_of p.unit) (in_unexpected n o s st) ≡ goes_to (in_stopped n o s e 1 kept.unexpected_handler st)
enters_stopped p n o s e z type d kept st w at =
    let v : World = st.world in
    let y : Exception = native type d kept in
    let a : Activation = (in_unexpected n o s st).top in
    let fs : List Activation = st.top ∷ st.frames in
    let number : exception_in_slot a.frame 0 ≡ e = ap exception_of at.at.object.is in
    let is : exception_at v e ≡ y = exception_is v.live e y at.native in
    let to : Exception → ℕ → Next = λ k f. on a (stopped_frame n o s (kept_with k).unexpected_handler st) fs (entered f v) in
    ap (λ f. next_if (is_native (exception_at v f) && may_enter v f) v (to (exception_at v f) f)) number ∙ ap (λ k. next_if (is_native k && may_enter v e) v (to k e)) is
    ∙ ap (λ b. next_if b v (to y e)) at.defined

-- ---- up to behind runtime call 18

-- The exception is entered; the hart is at the call of the handler, whose address it has, with the address of the table; what the frame of
-- call_unexpected keeps.
pub record Entered (image : Image) (p : Plan) (n o s e : ℕ) (z : ℤ) (kept : Installed) (st : LinearState) (w : abi.World) (back : ℕ) : Type 0 where
  pub turns : ℕ
  pub few : turns ≤ length (linear_code (shape p n) (unexpected o s)) + 5
  pub after : abi.World
  pub runs : Turns image turns w after (Enter e ∷ [])
  pub header : Header
  pub stands : StubStands p.unit p.base call_unexpected 5 (x after.hart sp) 80 after.hart
  pub handler : x after.hart a0 ≡ header.handlers.1
  pub table : x after.hart a1 ≡ p.tables n
  pub end : x after.hart sp + 80 + open_bytes p (st.top ∷ st.frames) ≡ stack_end
  pub outer : ℕ
  pub outer_is : outer ≡ address (setting p n).ground (first_word p n + op_word (routine p n) st.top.place + length (linear_code (shape p n) (unexpected o s)))
  pub matches : MemoryMatches p n st.top.frame st.frames (entered e st.world) after.hart.memory (x after.hart sp + 80) back
  pub high : 0x7000_1000 ≤ x after.hart sp + 80
  pub registers : RegistersMatch p n st.top.frame st.frames (entered e st.world) after.hart.memory (x after.hart sp + 80) (saved_of after.hart)
  pub saved : AddressAt after.hart.memory (x after.hart sp + return_offset) outer
  pub stopped : AddressAt after.hart.memory (x after.hart sp + stopped_slot) (p.at (of_exception e))
  pub list : IntAt after.hart.memory (x after.hart sp + list_slot) z
  pub runtime : RuntimeMatches p st.frames (entered e st.world) after
  pub number : e ≤ st.world.last_number
  pub slot : ℕ
  pub has : HasHeader after.exceptions.live e slot
  pub is : has.header ≡ header
  pub handlers : HandlersAre (addresses_of p) kept header.handlers

-- what lies from a place on stays
pub address_up : (old new : List Part) (low a c : ℕ) → ((b k v : ℕ) → low ≤ b → Holds old b k v → Holds new b k v) → low ≤ a → AddressAt old a c → AddressAt new a c
address_up old new low a c keep over h = record { aligned = h.aligned; below = h.below; holds = keep a 8 c over h.holds }

pub int_up : (old new : List Part) (low a : ℕ) (z : ℤ) → ((b k v : ℕ) → low ≤ b → Holds old b k v → Holds new b k v) → low ≤ a → IntAt old a z → IntAt new a z
int_up old new low a z keep over h = record { int = h.int; aligned = h.aligned; below = h.below; holds = keep a 4 (int_bits z) over h.holds }

pub stopped_entered : CallsAreMade → UnexpectedBegins → (image : Image) (p : Plan) (n o s e : ℕ) (z : ℤ) (type : ℕ) (d : Option ℕ) (kept : Installed) (st : LinearState) (w : abi.World) (back : ℕ) → Stands p n st w back → AtStopped p n o s e z type d kept st w →
    Entered image p n o s e z kept st w back
stopped_entered made begins image p n o s e z type d kept st w back h at =
    let v : World = st.world in
    let first = called image p n o s e z st w back h at.at in
    let w1 : abi.World = first.after in
    let c = first.holds.calls in
    let s1 : State = w1.hart in
    let stack : ℕ = x s1 sp in
    let low : ℕ = stack - 80 in
    let high : 0x7000_1000 ≤ stack = caller_above p n st.top.place st.top.frame v s1.memory stack back (unexpected o s) at.at.there refl c.memory.top in
    let even = even_base p s1.memory c.memory.unit in
    let stands : StubStands p.unit p.base call_unexpected 0 low 80 s1 = record {
      pc = c.pc;
      registers = c.registers;
      code = c.memory.unit.stubs.call_unexpected;
      room = room_below s1.memory stack 80 c.memory.may (omega (arith, high)) (omega (arith, c.memory.top.below)) (omega (arith, c.memory.top.saved.aligned)) refl;
    } in
    let second = begins.begins image p.unit p.base (p.at (of_exception e)) w1 (omega (arith, high)) stands c.returns c.stopped in
    let w2 : abi.World = second.after in
    let r2 = second.holds in
    let s2 : State = r2.behind in
    let t : abi.World = asked s2 w2 in
    let same1 = first.holds.same.exceptions in
    let same2 : w2.exceptions ≡ w.exceptions = r2.kept.runtime.exceptions ∙ same1 in
    let run1 = c.runtime in
    let run2 = runtime_stays p st.frames v w1 w2 r2.kept.runtime run1 in
    let run3 : RuntimeMatches p st.frames v t = record { input = run2.input; replies = run2.replies; last_number = run2.last_number; terminating = run2.terminating; exceptions = run2.exceptions; plan = run2.plan } in
    let has : HasHeader t.exceptions.live e at.slot = record { header = at.has.header; there = ap (λ (y : Exceptions). header_of y.live at.slot) same2 ∙ at.has.there; number = at.has.number } in
    let found = native_found p (destroyed st.frames) v t e at.slot type d kept has run3.exceptions at.native at.may.whole in
    let enter = enters p st.frames v t e at.slot has run3 at.may at.defined found.thrown in
    let re = enter.runtime in
    let ob : Object = record { slot = at.slot; header = at.has.header } in
    let end : abi.World = gives_both at.has.header.handlers.1 at.has.header.lsda (runtime_entered ob t) in
    let effect : (wish : ℕ) → call_effect 18 image wish t ≡ abi.goes end = λ wish. begins_is image wish p e at.slot kept t has found enter.may r2.holds.0 in
    let one : Turns image 1 w2 (counted end) (Enter at.has.header.number ∷ []) = made.goes_on image 18 w2 end s2 r2.calls r2.asks effect refl in
    let pointer : x end.hart sp ≡ low = read_other (with_reg s2.regs 10 at.has.header.handlers.1) 11 2 at.has.header.lsda (λ q. absurd (omega (arith, q))) ∙ read_other s2.regs 10 2 at.has.header.handlers.1 (λ q. absurd (omega (arith, q))) ∙ r2.pointer in
    let long : length (with_reg s2.regs 10 at.has.header.handlers.1) ≡ 32 = set_length s2.regs 10 at.has.header.handlers.1 ∙ r2.stands.registers in
    let free : IsFree stack low 80 = record { low = omega (arith, high); high = omega (arith, high) } in
    let held2 = beside_matches p n st.top.frame st.frames v s1.memory s2.memory stack back low 80 c.memory free r2.kept.beside in
    let regs3 = registers_alike p n st.top.frame st.frames v (entered e v) s2.memory stack back (saved_of s1) refl held2
    (registers_beside p n st.top.frame st.frames v s1.memory s2.memory stack back low 80 (saved_of s1) c.memory free r2.kept.beside c.kept) in
    let saved : saved_of end.hart ≡ saved_of s1 = given_saved s2 end.hart at.has.header.handlers.1 at.has.header.lsda refl ∙ r2.variables in
    let held3 = matches_alike p n st.top.frame st.frames v (entered e v) s2.memory stack back refl refl (same_number v) held2 in
    let beside : Beside (low + 8) 8 s1.memory s2.memory = r2.holds.2 in
    let number : e ≤ v.last_number = run1.exceptions.numbers e (native type d kept) at.native in
    let place : low + 80 ≡ x end.hart sp + 80 = ap (λ a. a + 80) (sym pointer) in
    let move : (a : ℕ) → (P : ℕ → Type 0) → P (low + a) → P (x end.hart sp + a) = λ a P y. subst (λ b. P (b + a)) (sym pointer) y in
    record {
      turns = first.turns + second.turns + 1;
      few = omega (arith, first.few, second.few);
      after = counted end;
      runs = subst (λ i. Turns image (first.turns + second.turns + 1) w (counted end) (Enter i ∷ [])) at.has.number
          (turns_then image (first.turns + second.turns) 1 w w2 (counted end) [] (Enter at.has.header.number ∷ []) (turns_then image first.turns second.turns w w1 w2 [] [] first.runs second.runs) one);
      header = at.has.header;
      stands = record {
        pc = r2.stands.pc;
        registers = set_length (with_reg s2.regs 10 at.has.header.handlers.1) 11 at.has.header.lsda ∙ long;
        code = r2.stands.code;
        room = subst (λ a. Room a 80 s2.memory) (sym pointer) r2.stands.room;
      };
      handler = read_other (with_reg s2.regs 10 at.has.header.handlers.1) 11 10 at.has.header.lsda (λ q. absurd (omega (arith, q))) ∙ read_same s2.regs 10 at.has.header.handlers.1 (λ q. absurd (omega (arith, q))) (omega (arith, r2.stands.registers));
      table = read_same (with_reg s2.regs 10 at.has.header.handlers.1) 11 at.has.header.lsda (λ q. absurd (omega (arith, q))) (omega (arith, long)) ∙ at.table;
      end = omega (arith, pointer, high, first.holds.stack, stack_at p n st w back h);
      outer = x s1 ra;
      outer_is = c.returns_to;
      matches = subst (λ a. MemoryMatches p n st.top.frame st.frames (entered e v) s2.memory a back) (omega (arith, high, pointer)) held3;
      high = omega (arith, high, pointer);
      registers = subst (λ rs. RegistersMatch p n st.top.frame st.frames (entered e v) s2.memory (x end.hart sp + 80) rs) (sym saved)
          (subst (λ a. RegistersMatch p n st.top.frame st.frames (entered e v) s2.memory a (saved_of s1)) (omega (arith, high, pointer)) regs3);
      saved = move 8 (λ a. AddressAt s2.memory a (x s1 ra)) r2.holds.1;
      stopped = move 72 (λ a. AddressAt s2.memory a (p.at (of_exception e))) (address_beside s1.memory s2.memory (low + 8) 8 (low + 72) (p.at (of_exception e)) beside (λ i j hi hj q. omega (arith, hi, hj, q)) c.stopped);
      list = move 64 (λ a. IntAt s2.memory a z) (int_beside s1.memory s2.memory (low + 8) 8 (low + 64) z beside (λ i j hi hj q. omega (arith, hi, hj, q)) c.list);
      runtime = record { input = re.input; replies = re.replies; last_number = re.last_number; terminating = re.terminating; exceptions = re.exceptions; plan = re.plan };
      number = number;
      slot = at.slot;
      has = record { header = at.has.header; there = has.there; number = has.number };
      is = refl;
      handlers = found.handlers;
    }

-- ---- up to the handler's first operation

few_begin : (w a b e : ℕ) → a ≤ w + 5 → b ≤ 5 → a + b + e ≤ w + 10 + e
few_begin w a b e h i = omega (arith, h, i)

-- from call_unexpected's call to the handler's first operation
record HandlerRuns (image : Image) (p : Plan) (n o s e m low : ℕ) (st : LinearState) (w : abi.World) : Type 0 where
  after : abi.World
  runs : Turns image (entry_turns p m) w after []
  holds : Matches (opened p m st.world.calls low) (in_unexpected_handler p n o s e m st) after

handler_runs : (image : Image) (p : Plan) (n o s e m : ℕ) (z : ℤ) (st : LinearState) (back outer low : ℕ) (w : abi.World) → let ve = entered e st.world in let waiting = waiting_unexpected n o s m st in let active = waiting ∷ st.top ∷ st.frames in
    (en : FunctionEntered image p n m 80 st.top.frame st.frames ve back w) → RegistersMatch p n st.top.frame st.frames ve en.after.hart.memory (x w.hart sp + 80) (saved_of en.after.hart) → Keeps p n e z waiting en.after.hart.memory (x w.hart sp) outer →
    Stops p n o s st.top outer → e ≤ ve.last_number → m < length p.unit.functions → HandlerFits p m active → lowest_sp (shape p m).leaf (shape p m).size ≤ x w.hart sp → x w.hart ra ≡ stub_word p.base call_unexpected 10 → RuntimeMatches p active ve w →
    x w.hart sp - (shape p m).size ≡ low → HandlerRuns image p n o s e m low st w
handler_runs image p n o s e m z st back outer low w en kept keeps stops made known fits least ret_is runtime low_is =
    let ve : World = entered e st.world in
    let waiting : Activation = waiting_unexpected n o s m st in
    let active : List Activation = waiting ∷ st.top ∷ st.frames in
    let depth : ℕ = depth_of active + 1 in
    let ret : ℕ = stub_word p.base call_unexpected 10 in
    let v : abi.World = en.after in
    let place : ℕ = x v.hart sp in
    let q : Plan = opened p m ve.calls place in
    let u : World = new_world (slot_kinds p m) [] depth ve in
    let words : ℕ = length (saves (shape p m) (function p m).parameters saved_registers (shape p m).kept) in
    let begun = handler_begun p n m o s e depth z waiting st.top st.frames active ve v.hart (x w.hart sp) back outer en.matches kept keeps stops made known fits least
    (subst (AddressAt v.hart.memory (x w.hart sp - (shape p m).size + return_offset)) ret_is en.returns) en.stack en.registers en.pc in
    let saved = saves_run image q m (new_frame (slot_kinds p m) [] ve) active u ret words v begun (runtime_stays q active u w v en.runtime (runtime_opened p m place active [] depth ve w runtime)) in
    record {
      after = saved.after;
      runs = turns_then image (entry_steps (shape p m).leaf) words w v saved.after [] [] en.runs saved.runs;
      holds = subst (λ a. Matches (opened p m ve.calls a) (in_unexpected_handler p n o s e m st) saved.after) (en.stack ∙ low_is) saved.holds;
    }

handler_begins : CallsAreMade → UnexpectedBegins → (image : Image) (p : Plan) (n o s e : ℕ) (z : ℤ) (type : ℕ) (d : Option ℕ) (kept : Installed) (m : ℕ) (st : LinearState) (w : abi.World) → Matches p st w → AtStopped p n o s e z type d kept st w →
    kept.unexpected_handler ≡ Some m → let active = waiting_unexpected n o s m st ∷ st.top ∷ st.frames in HandlerFits p m active →
    Reaches image (length (linear_code (shape p n) (unexpected o s)) + 10 + entry_turns p m) w (Enter e ∷ []) (λ u. Matches (opened p m st.world.calls (frame_for p m active)) (in_unexpected_handler p n o s e m st) u)
handler_begins made begins image p n o s e z type d kept m st w h at has_handler fits =
    let v : World = st.world in
    let ve : World = entered e v in
    let waiting : Activation = waiting_unexpected n o s m st in
    let active : List Activation = waiting ∷ st.top ∷ st.frames in
    let ret : ℕ = stub_word p.base call_unexpected 10 in
    let stood = stands_by p n st w h at.at.runs in
    let en = stopped_entered made begins image p n o s e z type d kept st w h.back stood at in
    let w3 : abi.World = en.after in
    let s3 : State = w3.hart in
    let low : ℕ = x s3 sp in
    let is : IsFunction (addresses_of p) (Some m) en.header.handlers.1 = subst (λ k. IsFunction (addresses_of p) k en.header.handlers.1) has_handler en.handlers.1 in
    let known : m < length p.unit.functions = is.1 in
    let first : ℕ = address (setting p m).ground (first_word p m) in
    let code = (en.matches.unit.functions m known).0 in
    let even = even_base p s3.memory en.matches.unit in
    let come = begins.calls_the_handler image p.unit p.base first (p.tables n) w3 en.stands (en.handler ∙ is.0) (λ zero. absurd (omega (arith, zero))) (omega (arith, even)) (omega (arith, code.word.below)) en.table at.near in
    let w4 : abi.World = come.after in
    let s4 : State = w4.hart in
    let ad = come.holds in
    let least : lowest_sp (shape p m).leaf (shape p m).size ≤ low = begin_above (shape p m).leaf (shape p m).size (open_bytes p active) low (omega (arith, en.end)) fits.room in
    let high = en.high in
    let free : IsFree (low + 80) low 80 = record { low = omega (arith, high); high = omega arith } in
    let held4 = beside_matches p n st.top.frame st.frames ve s3.memory s4.memory (low + 80) h.back low 80 en.matches free ad.kept.beside in
    let regs4 = registers_beside p n st.top.frame st.frames ve s3.memory s4.memory (low + 80) h.back low 80 (saved_of s3) en.matches free ad.kept.beside en.registers in
    let ret_small : ret < 2 ^ 64 = omega (arith, en.matches.unit.stubs.call_unexpected.0.word.below, en.matches.unit.few) in
    let least4 : lowest_sp (shape p m).leaf (shape p m).size ≤ x s4 sp = subst (λ a. lowest_sp (shape p m).leaf (shape p m).size ≤ a) (sym ad.pointer) least in
    let entered_handler = function_entered image p n m 80 st.top.frame st.frames ve h.back w4 known ad.there ad.registers (omega (arith, ad.holds.0, ret_small))
    (subst (λ a. MemoryMatches p n st.top.frame st.frames ve s4.memory (a + 80) h.back) (sym ad.pointer) held4) refl least4 in
    let s5 : State = entered_handler.after.hart in
    let memory : List Part = s5.memory in
    let keep : (b k c : ℕ) → low ≤ b → Holds s4.memory b k c → Holds memory b k c = λ b k c over y. entered_handler.above b k c (omega (arith, ad.pointer, over)) y in
    let beside : Beside (low + 48) 16 s3.memory s4.memory = ad.holds.2 in
    let keeps : Keeps p n e z waiting memory low en.outer = record {
      callee = refl;
      place = refl;
      object = at.at.object.is;
      selector = at.at.selector;
      owner = refl;
      saved = address_up s4.memory memory low (low + 8) en.outer keep (omega arith) (address_beside s3.memory s4.memory (low + 48) 16 (low + 8) en.outer beside (λ i j hi hj q. omega (arith, hi, hj, q)) en.saved);
      stopped = address_up s4.memory memory low (low + 72) (p.at (of_exception e)) keep (omega arith) (address_beside s3.memory s4.memory (low + 48) 16 (low + 72) (p.at (of_exception e)) beside (λ i j hi hj q. omega (arith, hi, hj, q)) en.stopped);
      list = int_up s4.memory memory low (low + 64) z keep (omega arith) (int_beside s3.memory s4.memory (low + 48) 16 (low + 64) z beside (λ i j hi hj q. omega (arith, hi, hj, q)) en.list);
      table = address_up s4.memory memory low (low + 56) (p.tables n) keep (omega arith) ad.holds.1;
    } in
    let regs5 : RegistersMatch p n st.top.frame st.frames ve memory (low + 80) (saved_of s5) = subst (λ rs. RegistersMatch p n st.top.frame st.frames ve memory (low + 80) rs) (sym (entered_handler.saved ∙ ad.variables))
    (registers_above p n st.top.frame st.frames ve s4.memory memory (low + 80) h.back (saved_of s3) held4 (λ b k c from there. keep b k c (omega (arith, from)) there) regs4) in
    let r4 = runtime_stays p st.frames ve w3 w4 ad.kept.runtime en.runtime in
    let runtime4 : RuntimeMatches p active ve w4 = record {
      input = r4.input;
      replies = r4.replies;
      last_number = r4.last_number;
      terminating = r4.terminating;
      exceptions = subst (λ ds. ExceptionsMatch (addresses_of p) ds (exceptions_in ve) (kept_by w4)) (ap (λ ds. ds ++ destroyed st.frames) (sym (destroyed_nothing p n st.top at.at.runs))) r4.exceptions;
      plan = r4.plan;
    } in
    let ran = handler_runs image p n o s e m z st h.back en.outer (frame_for p m active) w4 entered_handler (subst (λ a. RegistersMatch p n st.top.frame st.frames ve memory (a + 80) (saved_of s5)) (sym ad.pointer) regs5)
    (subst (λ a. Keeps p n e z waiting memory a en.outer) (sym ad.pointer) keeps) (record { runs = at.at.runs; there = at.at.there; returns = en.outer_is }) en.number known fits least4 ad.holds.0 runtime4 (omega (arith, ad.pointer, en.end)) in
    let most : ℕ = length (linear_code (shape p n) (unexpected o s)) in
    record {
      turns = en.turns + come.turns + entry_turns p m;
      few = few_begin most en.turns come.turns (entry_turns p m) en.few come.few;
      after = ran.after;
      runs = turns_then image (en.turns + come.turns) (entry_turns p m) w w4 ran.after (Enter e ∷ []) [] (turns_then image en.turns come.turns w w3 w4 (Enter e ∷ []) [] en.runs come.runs) ran.runs;
      holds = ran.holds;
    }

-- the steps that lead there
pub steps_to_handler : (image : Image) (p : Plan) (n o s e : ℕ) (z : ℤ) (type : ℕ) (d : Option ℕ) (kept : Installed) (m : ℕ) (st : LinearState) (w : abi.World) → Matches p st w → AtStopped p n o s e z type d kept st w → kept.unexpected_handler ≡ Some m →
    let next = in_unexpected_handler p n o s e m st in StepsTo (code_of p.unit) 3 st next × Shows st next (Enter e ∷ [])
steps_to_handler image p n o s e z type d kept m st w h at has_handler =
    let v : World = entered e st.world in (
      (
        in_unexpected n o s st,
        (unexpected_called image p n o s e z st w h at.at).0,
        (in_stopped n o s e 1 kept.unexpected_handler st, enters_stopped p n o s e z type d kept st w at, (in_unexpected_handler p n o s e m st, called_kept kept.unexpected_handler has_handler, refl)),
      ),
      (same_beside (slot_kinds p m) v.calls 0 [] v).items,
    )
  where
    called_kept : (k : Option ℕ) → k ≡ Some m → step (code_of p.unit) (in_stopped n o s e 1 k st) ≡ goes_to (in_unexpected_handler p n o s e m st)
    called_kept k is = ap (λ b. step (code_of p.unit) (in_stopped n o s e 1 b st)) is

pub unexpected_handlers_begin : CallsAreMade → UnexpectedBegins → UnexpectedHandlersBegin
unexpected_handlers_begin made begins image p n o s e z type d kept m st w h at has_handler room =
    let steps = steps_to_handler image p n o s e z type d kept m st w h at has_handler in
    (steps.0, steps.1, handler_begins made begins image p n o s e z type d kept m st w h at has_handler room)
